use Rattle.std.proofs.Common.{◌≡◌, ◌-◌, ◌++◌, ℕ, List, length, drop, replicate, arith, refl}
use Rattle.std.proofs.lemmas.Grind.{common_steps}
use Rattle.std.proofs.lemmas.List.{drop-replicate}
use Rattle.imap_arguments.proofs.tag.Tag.of.Goals as goal

padded : (bytes own zeros : List ℕ) (n : ℕ) → own ≡ bytes → zeros ≡ replicate (64 - n) 0 → length bytes ≡ n → drop n (own ++ zeros) ≡ replicate (64 - n) 0
padded bytes own zeros n is are long = grind (arith, common_steps)

pub invariant_of-result : goal.invariant_of-result
invariant_of-result c =
    (grind (arith, common_steps), omega arith, padded c.args.bytes.now _ _ _ c.copy_from_slice.ensures.after (drop-replicate _ 64 0) refl)
