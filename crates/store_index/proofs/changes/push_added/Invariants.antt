use Rattle.std.proofs.Common.{◌≡◌, ◌+◌, ◌++◌, false, drop}
use Rattle.mail_types.specs.Limits.{has_large_text}
use Rattle.mail_types.specs.Lists.{added_records}
use Rattle.store_index.specs.Told.{added_infos}
use Rattle.store_index.proofs.changes.push_added.Given as goal

abbrev pub invariant-loop-message : goal.invariant-loop-message
invariant-loop-message l = record {
  uid : l.uid ≡ l.last + l.message-index;
  infos : l.infos.items ++ added_infos l.keeps l.names (l.uid + 1) (drop l.message-index l.new) ≡ l.fn.infos.items ++ added_infos l.keeps l.names (l.last + 1) l.new;
  short : has_large_text (added_records l.keeps l.names 0 (l.uid + 1) (drop l.message-index l.new)) ≡ false;
}
