use Rattle.std.proofs.Common.{◌≡◌, ◌++◌, drop}
use Rattle.mail_types.specs.declared.driver.Driver.TheVariants.{Unix}
use Rattle.mail_types.specs.Drivers.{keeps_of}
use Rattle.store_index.specs.Told.{new_texts}
use Rattle.unix_layout.proofs.texts.push_texts.Given as goal

abbrev pub invariant-loop-message : goal.invariant-loop-message
invariant-loop-message l = l.texts.items ++ new_texts (keeps_of Unix) (drop l.message-index l.new) ≡ l.fn.texts.items ++ new_texts (keeps_of Unix) l.new
