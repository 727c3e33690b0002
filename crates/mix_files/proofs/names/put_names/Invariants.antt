use Rattle.std.proofs.Common.{◌≡◌, ◌++◌, ◌∷◌, take, drop, true}
use Rattle.std.specs.List.{flat_map, list_all}
use Rattle.mail_fields.specs.Keyword.{is_keyword}
use Rattle.mix_files.specs.Names.{names_text}
use Rattle.mix_files.proofs.names.put_names.Given as goal

abbrev pub invariant-loop-name : goal.invariant-loop-name
invariant-loop-name l = record {
  text : l.out.items ++ flat_map (λ each. 32 ∷ each) (drop l.name-index l.others) ≡ l.fn.out.items ++ names_text l.names;
  keywords : list_all is_keyword (take l.name-index l.others) ≡ true;
}
