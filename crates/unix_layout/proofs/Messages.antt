-- Messages with their texts, one after the other.
use Rattle.std.proofs.Common.{◌≡◌, ◌<◌, ◌≤◌, ◌+◌, ℕ, zero, suc, List, [], ◌∷◌, ◌++◌, length, min, drop, get_or, refl, ap, sym, ◌∙◌, arith}
use Rattle.store_trait.specs.declared.store.Info.{Info}
use Rattle.store_index.specs.Told.{record_at}
use Rattle.unix_form.specs.Form.{message_text}
use Rattle.unix_layout.specs.Writing.{in_utc, messages_text}

-- a message, and those behind it
pub messages_step : (names : List (List ℕ)) (place : ℕ) (infos : List Info) (texts : List (List ℕ)) (i : Info) (t : List ℕ) → place < length infos → place < length texts
    → messages_text names (drop place infos) (drop place texts) ≡ message_text names (record_at (in_utc (get_or infos place i)) (get_or texts place t)) ++ messages_text names (drop (place + 1) infos) (drop (place + 1) texts)
messages_step names place [] texts i t here there = absurd (omega (arith, here))
messages_step names place (first ∷ infos) [] i t here there = absurd (omega (arith, there))
messages_step names zero (first ∷ infos) (text ∷ texts) i t here there = refl
messages_step names (suc place) (first ∷ infos) (text ∷ texts) i t here there =
    let one : suc place + 1 ≡ suc (place + 1) = omega arith in
    messages_step names place infos texts i t (omega (arith, here)) (omega (arith, there))
    ∙ ap (λ n. message_text names (record_at (in_utc (get_or infos place i)) (get_or texts place t)) ++ messages_text names (drop n (first ∷ infos)) (drop n (text ∷ texts))) (sym one)

-- behind the last
pub messages_end : (names : List (List ℕ)) (place : ℕ) (infos : List Info) (texts : List (List ℕ)) → min (length infos) (length texts) ≤ place → messages_text names (drop place infos) (drop place texts) ≡ []
messages_end names zero [] texts past = refl
messages_end names zero (first ∷ infos) [] past = refl
messages_end names zero (first ∷ infos) (text ∷ texts) past = absurd (omega (arith, past))
messages_end names (suc place) [] texts past = refl
messages_end names (suc place) (first ∷ infos) [] past = none (drop place infos)
  where
    none : (infos : List Info) → messages_text names infos [] ≡ []
    none [] = refl
    none (first ∷ infos) = refl
messages_end names (suc place) (first ∷ infos) (text ∷ texts) past = messages_end names place infos texts (omega (arith, past))
