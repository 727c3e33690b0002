-- A mailbox that is opened is one that its driver can have, and the files say what is stored of it; so after each change.
use Rattle.std.proofs.Common.{◌≡◌, ◌≢◌, ◌≤◌, ◌<◌, ◌+◌, ◌==◌, ℕ, zero, suc, Bool, true, false, ◌||◌, List, [], ◌∷◌, length, map, cond, refl, sym, ◌∙◌, ap, arith, Option, None, Some, unwrap_or, nat_lt, nat_le}
use Rattle.std.specs.List.{AllByRecursion}
use Rattle.std.proofs.lemmas.Bool.{false≢true, and_parts}
use Rattle.std.proofs.lemmas.Bool.Decides.{nat_tests}
use Rattle.mail_types.specs.declared.contents.StoreContents.{StoreContents}
use Rattle.mail_types.specs.declared.driver.Driver.{Driver}
use Rattle.mail_types.specs.declared.driver.Driver.TheVariants.{Unix, Mmdf, Mbx, Mtx, Tenex, Mh, Mix}
use Rattle.mail_types.specs.declared.driver.Keeps.{Keeps}
use Rattle.mail_types.specs.declared.mailbox.Mailbox.{Mailbox}
use Rattle.mail_types.specs.declared.message.Record.{Record}
use Rattle.mail_types.specs.declared.uids.Numbering.{Numbering}
use Rattle.mail_types.specs.Drivers.{keeps_of}
use Rattle.mail_types.specs.Keeping.{take_record, kept_record}
use Rattle.mail_types.specs.Limits.{has_many, has_large_text, text_limit, record_limit}
use Rattle.mail_types.specs.Lists.{named}
use Rattle.mail_types.specs.Opening.{greatest_given, missing, given_uids, numbers_from, uids_of, with_uids, uids_last, highest, has_room, rise_then_none, opened_uids, opened_mailbox}
use Rattle.mail_types.specs.Stored.{stored_record, stored_contents}
use Rattle.mail_types.proofs.Mailboxes.{opened_is_mailbox}
use Rattle.store_trait.specs.Having.{CanSpell, IsFound, IsBacked, without_uid, greatest_written}
use Rattle.store_trait.proofs.CanHave.{given_written}

-- ---- One message

-- what is stored of a message is what is kept of it, but for its UID
stored_kept : (keeps : Keeps) (r : Record) → without_uid (stored_record keeps r) ≡ without_uid (kept_record keeps r)
stored_kept keeps r = step keeps.uids
  where
    step : (b : Bool) → without_uid (cond b (kept_record keeps r) (record (kept_record keeps r) { uid = 0 })) ≡ without_uid (kept_record keeps r)
    step true = refl
    step false = refl

found_kept : (keeps : Keeps) (r : Record) → stored_record keeps r ≡ r → without_uid (kept_record keeps r) ≡ without_uid r
found_kept keeps r form = sym (stored_kept keeps r) ∙ ap without_uid form

found_in_form : (keeps : Keeps) (uid : ℕ) (r : Record) → stored_record keeps r ≡ r → take_record keeps (record r { uid = uid }) ≡ record r { uid = uid }
found_in_form keeps uid r form =
    let kept = found_kept keeps r form in
    λ k. record { uid = uid; text = (kept k).text; stamp = (kept k).stamp; flags = r.flags; words = (kept k).words; number = (kept k).number }

-- ---- Messages under other UIDs

with_have : (P Q : Record → Type 0) → ((uid : ℕ) (r : Record) → P r → Q (record r { uid = uid })) → (us : List ℕ) (rs : List Record) → AllByRecursion P rs → AllByRecursion Q (with_uids us rs)
with_have P Q on us [] all = tt
with_have P Q on [] (r ∷ rs) all = tt
with_have P Q on (u ∷ us) (r ∷ rs) all = (on u r all.0, with_have P Q on us rs all.1)

with_few : (us : List ℕ) (rs : List Record) → length (with_uids us rs) ≤ length rs
with_few us [] = omega arith
with_few [] (r ∷ rs) = omega arith
with_few (u ∷ us) (r ∷ rs) = omega (arith, with_few us rs)

or_parts : (a b : Bool) → (a || b) ≡ false → (a ≡ false) × (b ≡ false)
or_parts true b is = absurd (false≢true (sym is))
or_parts false b is = (refl, is)

with_short : (us : List ℕ) (rs : List Record) → has_large_text rs ≡ false → has_large_text (with_uids us rs) ≡ false
with_short us [] none = refl
with_short [] (r ∷ rs) none = refl
with_short (u ∷ us) (r ∷ rs) none =
    let parts = or_parts (nat_lt text_limit (length r.text)) (has_large_text rs) none in
    ap (λ b. b || has_large_text (with_uids us rs)) parts.0 ∙ with_short us rs parts.1

with_backed : (keeps : Keeps) (us : List ℕ) (rs : List Record) → length us ≡ length rs → AllByRecursion (λ r. stored_record keeps r ≡ r) rs
    → map without_uid rs ≡ map (λ r. without_uid (kept_record keeps r)) (with_uids us rs)
with_backed keeps [] [] same all = refl
with_backed keeps (u ∷ us) [] same all = absurd (omega (arith, same))
with_backed keeps [] (r ∷ rs) same all = absurd (omega (arith, same))
with_backed keeps (u ∷ us) (r ∷ rs) same all = λ k. sym (found_kept keeps r all.0) k ∷ with_backed keeps us rs (omega (arith, same)) all.1 k

-- ---- How many UIDs

numbers_count : (k n : ℕ) → length (numbers_from k n) ≡ n
numbers_count k zero = refl
numbers_count k (suc n) = ap (λ m. suc m) (numbers_count (k + 1) n)

given_count : (k : ℕ) (us : List ℕ) → length (given_uids k us) ≡ length us
given_count k [] = refl
given_count k (u ∷ us) = step (u == 0) (given_count (k + 1) us) (given_count k us)
  where
    step : (b : Bool) → length (given_uids (k + 1) us) ≡ length us → length (given_uids k us) ≡ length us → length (cond b (k ∷ given_uids (k + 1) us) (u ∷ given_uids k us)) ≡ suc (length us)
    step true one two = ap (λ n. suc n) one
    step false one two = ap (λ n. suc n) two

uids_count : (rs : List Record) → length (uids_of rs) ≡ length rs
uids_count [] = refl
uids_count (r ∷ rs) = ap (λ n. suc n) (uids_count rs)

opened_count : (v : Option ℕ) (last : ℕ) (us : List ℕ) → length (opened_uids v last us) ≡ length us
opened_count v last us = step (uids_last v last us)
  where
    step : (b : Bool) → length (cond b (given_uids (highest last us + 1) us) (numbers_from 1 (length us))) ≡ length us
    step true = given_count (highest last us + 1) us
    step false = numbers_count 1 (length us)

-- ---- The highest UID

roomy : (last bound : ℕ) (us : List ℕ) → greatest_given ≤ bound → highest last us ≤ bound → has_room last us ≡ true → highest last us + missing us ≤ bound
roomy last bound us given fits room = step (missing us == 0) refl room
  where
    step : (b : Bool) → (missing us == 0) ≡ b → (b || nat_le (highest last us + missing us) greatest_given) ≡ true → highest last us + missing us ≤ bound
    step true is space = let none : missing us ≡ 0 = grind arith in omega (arith, fits, none)
    step false is space = let below : highest last us + missing us ≤ greatest_given = grind arith in omega (arith, below, given)

abbrev numbering_if : Bool → Option ℕ → ℕ → List ℕ → ℕ → Numbering
numbering_if b v last us fresh = cond b (record { validity = unwrap_or v fresh; last = highest last us + missing us }) (record { validity = fresh; last = length us })

opened_last : (c : StoreContents) (fresh bound : ℕ) → greatest_given ≤ bound → has_many c.records ≡ false → highest c.last (uids_of c.records) ≤ bound → (opened_mailbox c fresh).last ≤ bound
opened_last c fresh bound given many fits = step c.validity (uids_last c.validity c.last us) refl
  where
    us : List ℕ
    us = uids_of c.records

    step : (v : Option ℕ) (b : Bool) → uids_last v c.last us ≡ b
        → (numbering_if b v c.last us fresh).last ≤ bound
    step None true lasts = absurd (false≢true lasts)
    step (Some v) true lasts = roomy c.last bound us given fits (and_parts (rise_then_none 0 us) (has_room c.last us) lasts).1
    step v false lasts = let few : length c.records ≤ record_limit = grind (arith, nat_tests, many) in omega (arith, uids_count c.records, few, given)

-- ---- Opening

pub can_spell_opened : (d : Driver) (c : StoreContents) (fresh : ℕ) → IsFound d c → has_many c.records ≡ false → has_large_text c.records ≡ false → fresh ≢ 0 → fresh < 4294967296 → CanSpell d (opened_mailbox c fresh)
can_spell_opened d c fresh is many large some fits =
    let few : length c.records ≤ record_limit = grind (arith, nat_tests, many) in
    let us = opened_uids c.validity c.last (uids_of c.records) in
    record {
      mailbox = opened_is_mailbox c fresh (omega (arith, few)) is.openable some fits;
      names = is.names;
      few = is.few;
      many = let less = with_few us c.records in grind (arith, nat_tests, less, few);
      large = with_short us c.records large;
      in_form = with_have (λ r. stored_record (keeps_of d) r ≡ r) (λ r. take_record (keeps_of d) r ≡ r) (found_in_form (keeps_of d)) us c.records is.in_form;
      named = with_have (λ r. named (length c.words) r ≡ r) (λ r. named (length c.words) r ≡ r) (λ uid r have k. record r { uid = uid; words = (have k).words }) us c.records is.named;
      last = opened_last c fresh (greatest_written d) (given_written d).0 many is.last;
      unnumbered = is.unnumbered;
    }

pub backed_opened : (d : Driver) (c : StoreContents) (fresh : ℕ) → IsFound d c → IsBacked d c (opened_mailbox c fresh)
backed_opened d c fresh is = record {
  words = refl;
  number = refl;
  records = with_backed (keeps_of d) (opened_uids c.validity c.last (uids_of c.records)) c.records (opened_count c.validity c.last (uids_of c.records) ∙ uids_count c.records) is.in_form;
}

-- ---- A change

-- a driver whose UIDs don't last has no names
pub no_names : (d : Driver) (words : List (List ℕ)) → length words ≤ (keeps_of d).words → cond (keeps_of d).uids words [] ≡ words
no_names Unix words few = refl
no_names Mmdf words few = refl
no_names Mbx words few = refl
no_names Mtx words few = none words few
  where
    none : (words : List (List ℕ)) → length words ≤ 0 → [] ≡ words
    none [] few = refl
    none (w ∷ words) few = absurd (omega (arith, few))
no_names Tenex words few = none words few
  where
    none : (words : List (List ℕ)) → length words ≤ 0 → [] ≡ words
    none [] few = refl
    none (w ∷ words) few = absurd (omega (arith, few))
no_names Mh words few = none words few
  where
    none : (words : List (List ℕ)) → length words ≤ 0 → [] ≡ words
    none [] few = refl
    none (w ∷ words) few = absurd (omega (arith, few))
no_names Mix words few = refl

stored_all : (keeps : Keeps) (rs : List Record) → map without_uid (map (stored_record keeps) rs) ≡ map (λ r. without_uid (kept_record keeps r)) rs
stored_all keeps [] = refl
stored_all keeps (r ∷ rs) = λ k. stored_kept keeps r k ∷ stored_all keeps rs k

pub backed_stored : (d : Driver) (before : StoreContents) (prior now : Mailbox) → CanSpell d now → IsBacked d (stored_contents d before prior now) now
backed_stored d before prior now is = record { words = no_names d now.words is.few; number = stored_number (keeps_of d).numbers refl; records = stored_all (keeps_of d) now.records }
  where
    stored_number : (b : Bool) → (keeps_of d).numbers ≡ b → cond b now.number 0 ≡ now.number
    stored_number true have = refl
    stored_number false none = sym (is.unnumbered none)

-- ---- What the files say of each message, in order: its text, its stamp and its keyword bits as the mailbox has them

backed_part : {A : Type 0} (f : Record → A) → ((r : Record) → f (without_uid r) ≡ f r) → (keeps : Keeps) → ((r : Record) → take_record keeps r ≡ r → f (without_uid (kept_record keeps r)) ≡ f r) → (olds rs : List Record)
    → AllByRecursion (λ r. take_record keeps r ≡ r) rs → map without_uid olds ≡ map (λ r. without_uid (kept_record keeps r)) rs → map f olds ≡ map f rs
backed_part f past keeps kept [] [] all same = refl
backed_part f past keeps kept [] (r ∷ rs) all same = absurd (cc)
backed_part f past keeps kept (o ∷ olds) [] all same = absurd (cc)
backed_part f past keeps kept (o ∷ olds) (r ∷ rs) all same =
    let first : without_uid o ≡ without_uid (kept_record keeps r) = cc in
    let rest : map without_uid olds ≡ map (λ r. without_uid (kept_record keeps r)) rs = cc in
    λ k. (sym (past o) ∙ ap f first ∙ kept r all.0) k ∷ backed_part f past keeps kept olds rs all.1 rest k

module _ (d : Driver) (before : StoreContents) (prior : Mailbox) (backed : IsBacked d before prior) (can : CanSpell d prior) where
  pub backed_texts : map (λ (r : Record). r.text) before.records ≡ map (λ (r : Record). r.text) prior.records
  backed_texts = backed_part (λ r. r.text) (λ r. refl) (keeps_of d) (λ r form. ap (λ q. q.text) form) before.records prior.records can.in_form backed.records

  pub backed_stamps : map (λ (r : Record). r.stamp) before.records ≡ map (λ (r : Record). r.stamp) prior.records
  backed_stamps = backed_part (λ r. r.stamp) (λ r. refl) (keeps_of d) (λ r form. ap (λ q. q.stamp) form) before.records prior.records can.in_form backed.records

  pub backed_words : map (λ (r : Record). r.words) before.records ≡ map (λ (r : Record). r.words) prior.records
  backed_words = backed_part (λ r. r.words) (λ r. refl) (keeps_of d) (λ r form. ap (λ q. q.words) form) before.records prior.records can.in_form backed.records
