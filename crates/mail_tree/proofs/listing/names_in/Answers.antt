use Rattle.std.proofs.Common.{map}
use Rattle.std.specs.Prelude.{string_bytes}
use Rattle.file_model.specs.Disk.{seen}
use Rattle.file_model.proofs.Runs.{now_weaker}
use Rattle.mail_tree.proofs.Walking.{are_names}
use Rattle.mail_tree.proofs.listing.names_in.Goals as goal

pub returns-in-Ok-clause-names : goal.returns-in-Ok-clause-names
returns-in-Ok-clause-names g c = now_weaker _ _ (λ w same. are_names c.args.dir.now (map string_bytes c.in-Ok.names.items) (seen w.disk) same) _ c.in-Ok.ensures.names
