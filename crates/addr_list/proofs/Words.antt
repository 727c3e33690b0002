-- Words that are appended one by one.
use Rattle.std.proofs.Common.{◌≡◌, ◌∙◌, List, ℕ, [], ◌∷◌, ◌++◌, Option, Some, None, refl, ap, sym}
use Rattle.std.proofs.lemmas.List.{append_assoc}
use Rattle.std.proofs.lemmas.Option.{none-some, same_Some}
use Rattle.addr_list.specs.Addresses.{behind, both}

pub next-word : (old new : List ℕ) (word rest : Option (List ℕ)) → Some new ≡ behind (old ++ 32 ∷ []) word → behind old (both (behind (32 ∷ []) word) rest) ≡ behind new rest
next-word old new None rest is = absurd (none-some new (sym is))
next-word old new (Some bytes) None is = refl
next-word old new (Some bytes) (Some more) is =
    ap Some (sym (append_assoc old (32 ∷ bytes) more) ∙ ap (λ t. t ++ more) (sym (append_assoc old (32 ∷ []) bytes) ∙ sym (same_Some new ((old ++ 32 ∷ []) ++ bytes) is)))
