-- Messages are added: one after the other, and how many there are.
use Rattle.std.proofs.Common.{◌≡◌, ℕ, suc, ◌+◌, List, [], ◌∷◌, ◌++◌, length, map, refl, ◌∙◌, ap, arith, length-append}
use Rattle.std.proofs.lemmas.List.{length-map}
use Rattle.mail_types.specs.declared.driver.Keeps.{Keeps}
use Rattle.mail_types.specs.declared.mailbox.Mailbox.{Mailbox}
use Rattle.mail_types.specs.declared.message.NewMessage.{NewMessage}
use Rattle.mail_types.specs.Lists.{next_number, added_record, added_records, add_messages, cleared}

pub added_count : (keeps : Keeps) (names number next : ℕ) (new : List NewMessage) → length (added_records keeps names number next new) ≡ length new
added_count keeps names number next [] = refl
added_count keeps names number next (x ∷ new) = ap (λ n. suc n) (added_count keeps names number (next + 1) new)

-- one new message more
pub added_one : (keeps : Keeps) (names number next : ℕ) (new : List NewMessage) (x : NewMessage)
    → added_records keeps names number next (new ++ x ∷ []) ≡ added_records keeps names number next new ++ added_record keeps names number (next + length new) x ∷ []
added_one keeps names number next [] x = let e : next ≡ next + 0 = omega arith in ap (λ n. added_record keeps names number n x ∷ []) e
added_one keeps names number next (y ∷ new) x =
    let e : next + 1 + length new ≡ next + length (y ∷ new) = omega arith in
    ap (λ l. added_record keeps names number next y ∷ l) (added_one keeps names number (next + 1) new x ∙ ap (λ n. added_records keeps names number (next + 1) new ++ added_record keeps names number n x ∷ []) e)

pub added_all : (keeps : Keeps) (m : Mailbox) (new : List NewMessage) (words : List (List ℕ)) → length (add_messages keeps m new words).records ≡ length m.records + length new
added_all keeps m new words =
    let old = map (cleared (length m.words) (length words)) m.records in
    let all = length-append old (added_records keeps (length words) (next_number keeps m.number) (m.last + 1) new) in
    omega (arith, all, added_count keeps (length words) (next_number keeps m.number) (m.last + 1) new, length-map m.records (cleared (length m.words) (length words)))
