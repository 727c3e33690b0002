-- The change that a step makes, and the refusal that is due by what a store tells.
use Rattle.std.specs.Prelude.{[], ◌∷◌, ◌+◌, ◌&&◌, nat_lt, Option, None, length}
use Rattle.mail_types.specs.declared.driver.Keeps.{Keeps}
use Rattle.mail_types.specs.declared.driver.Limit.TheVariants.{File, Text}
use Rattle.mail_types.specs.Limits.{record_limit, file_limit, has_large_text, given_length}
use Rattle.mail_types.specs.Lists.{added_records}
use Rattle.mail_types.specs.Opening.{greatest_given}
use Rattle.store_trait.specs.declared.change.Change.{Change}
use Rattle.store_trait.specs.declared.change.Change.TheVariants.{Append, SetFlags, Expunge}
use Rattle.store_trait.specs.declared.faults.StoreFault.{StoreFault}
use Rattle.store_trait.specs.declared.faults.StoreFault.TheVariants.{NoUid, TooMany, TooLarge}
use Rattle.store_trait.specs.Changes.{first_due}
use Rattle.store_index.specs.States.{ToldState}
use Rattle.store_index.specs.declared.step.Step.{Step}
use Rattle.store_index.specs.declared.step.Step.TheVariants.{Append as AppendStep, SetFlags as SetFlagsStep, Expunge as ExpungeStep}

abbrev pub change_of : Step → Change
change_of (AppendStep new words) = Append new.now words.now
change_of (SetFlagsStep changes words) = SetFlags changes.now words.now
change_of (ExpungeStep places) = Expunge places.now

-- the refusal that is due by what the store tells, whatever the file's length
abbrev pub told_due : Keeps → ToldState → Change → Option StoreFault
told_due keeps s (Append new words) = first_due ((nat_lt 0 (length new) && nat_lt greatest_given (s.last + length new), NoUid)
    ∷ (nat_lt record_limit (length s.infos + length new), TooMany)
    ∷ (has_large_text (added_records keeps (length words) 0 (s.last + 1) new), TooLarge Text)
    ∷ (nat_lt file_limit (given_length new), TooLarge File) ∷ [])
told_due keeps s (SetFlags changes words) = None
told_due keeps s (Expunge places) = None
