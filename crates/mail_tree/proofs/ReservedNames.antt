-- The names that programs here give to files of their own are no parts of names.
use Rattle.std.proofs.Common.{◌≡◌, ⊎_elim, ℕ, List, [], ◌∷◌, length, true, false, not, ◌&&◌, ◌||◌, ◌==◌, nat_le, refl, sym, ◌∙◌, ap, take, drop}
use Rattle.std.specs.Prelude.{codes, bytes_eq}
use Rattle.std.specs.List.{list_all}
use Rattle.std.proofs.lemmas.Bool.{false≢true, and_parts, or_parts, or_cases, not-true, false_from_ne_true}
use Rattle.std.proofs.lemmas.Slice.Eq.{bytes_eq-Decides}
use Rattle.file_model.specs.Reserved.{begins, is_hex, is_numbered_mix, is_leftover, is_reserved_name}
use Rattle.file_model.proofs.Inside.{not_both}
use Rattle.mail_tree.specs.Names.{is_name_byte, is_part}

one_head : (x y : ℕ) (l m : List ℕ) → x ∷ l ≡ y ∷ m → x ≡ y
one_head x y l m e = cc

-- a reserved name begins with a point
begins_point : (front : List ℕ) (byte : ℕ) (part : List ℕ) → begins (46 ∷ front) (byte ∷ part) ≡ true → byte ≡ 46
begins_point front byte part is = sym (one_head 46 byte front (take (length front) part) ((bytes_eq-Decides (46 ∷ front) (byte ∷ take (length front) part)).0 is))

is_point : (rest : List ℕ) (byte : ℕ) (part : List ℕ) → bytes_eq (byte ∷ part) (46 ∷ rest) ≡ true → byte ≡ 46
is_point rest byte part is = one_head byte 46 part rest ((bytes_eq-Decides (byte ∷ part) (46 ∷ rest)).0 is)

reserved_point : (byte : ℕ) (part : List ℕ) → is_reserved_name (byte ∷ part) ≡ true → byte ≡ 46
unfolding is_reserved_name
reserved_point byte part is = ⊎_elim
    (λ left. ⊎_elim
    (λ three. ⊎_elim
    (λ two. ⊎_elim (λ index. is_point (codes "mixindex") byte part index) (λ status. is_point (codes "mixstatus") byte part status) (or_cases (bytes_eq (byte ∷ part) (codes ".mixindex")) (bytes_eq (byte ∷ part) (codes ".mixstatus")) two))
    (λ numbered. begins_point (codes "mix") byte part (and_parts (begins (codes ".mix") (byte ∷ part)) (length (byte ∷ part) == 12) (and_parts (begins (codes ".mix") (byte ∷ part) && (length (byte ∷ part) == 12)) (list_all is_hex (drop 4 (byte ∷ part))) numbered).0).0)
    (or_cases (bytes_eq (byte ∷ part) (codes ".mixindex") || bytes_eq (byte ∷ part) (codes ".mixstatus")) (is_numbered_mix is_hex (byte ∷ part)) three))
    (λ new. begins_point (codes "new") byte part new)
    (or_cases (bytes_eq (byte ∷ part) (codes ".mixindex") || bytes_eq (byte ∷ part) (codes ".mixstatus") || is_numbered_mix is_hex (byte ∷ part)) (begins (codes ".new") (byte ∷ part)) left))
    (λ list. is_point (codes "mailboxlist") byte part list)
    (or_cases (is_leftover (byte ∷ part)) (bytes_eq (byte ∷ part) (codes ".mailboxlist")) is)

no_point : (part : List ℕ) → begins (codes ".") part ≡ false → is_reserved_name part ≡ false
unfolding is_reserved_name
no_point [] fails = refl
no_point (byte ∷ part) fails = false_from_ne_true (is_reserved_name (byte ∷ part)) (λ is. not_both (begins (codes ".") (byte ∷ part)) (ap (λ b. begins (codes ".") (b ∷ part)) (reserved_point byte part is)) fails)

pub part_free : (part : List ℕ) → is_part part ≡ true → is_reserved_name part ≡ false
part_free part is =
    let p = and_parts (nat_le 1 (length part) && nat_le (length part) 200 && not (begins (codes ".") part)) (list_all is_name_byte part) is in
    no_point part (not-true (begins (codes ".") part) (and_parts (nat_le 1 (length part) && nat_le (length part) 200) (not (begins (codes ".") part)) p.0).1)

pub no_leftover : (name : List ℕ) → is_reserved_name name ≡ false → is_leftover name ≡ false
unfolding is_reserved_name
no_leftover name free = (or_parts (is_leftover name) (bytes_eq name (codes ".mailboxlist")) free).0

pub leftover_no_part : (name : List ℕ) → is_leftover name ≡ true → is_part name ≡ false
leftover_no_part name left = false_from_ne_true (is_part name) (λ is. false≢true (sym (no_leftover name (part_free name is)) ∙ left))
