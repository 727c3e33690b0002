use Rattle.std.proofs.Common.{◌≡◌, ◌++◌, drop, take, true}
use Rattle.std.specs.List.{list_all}
use Rattle.status_heads.specs.HeadTexts.{spaced_names}
use Rattle.mail_fields.specs.Keyword.{is_keyword}
use Rattle.status_heads.proofs.head_text.put_spaced.Given as goal

abbrev pub invariant-loop-name : goal.invariant-loop-name
invariant-loop-name l = record {
  text : l.out.items ++ spaced_names (drop l.name-index l.names) ≡ l.fn.out.items ++ spaced_names l.names;
  keywords : list_all is_keyword (take l.name-index l.names) ≡ true;
}
