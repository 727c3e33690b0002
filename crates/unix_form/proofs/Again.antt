-- The messages that are written of a mailbox are those that are read.
use Rattle.std.proofs.Common.{◌≡◌, ◌≤◌, ◌<◌, ◌%◌, ◌+◌, ◌^◌, ◌&&◌, ℕ, Bool, true, false, nat_lt, nat_le, List, [], ◌∷◌, length, map, Some, refl, ap, sym, subst, ◌∙◌, arith}
use Rattle.std.specs.Prelude.{unwrap_or}
use Rattle.std.specs.List.{AllByRecursion, list_all}
use Rattle.std.specs.Cmp.Derive.{both_true}
use Rattle.std.proofs.lemmas.Bool.{and_parts}
use Rattle.std.proofs.lemmas.Bool.Decides.{nat_tests}
use Rattle.std.proofs.lemmas.Nat.{mod_below}
use Rattle.std.proofs.Math.Nat.{one-le-pow}
use Rattle.mail_fields.specs.Keyword.{IsKeyword, is_keyword}
use Rattle.mail_fields.specs.Names.{are_distinct}
use Rattle.mail_types.specs.declared.contents.Placing.TheVariants.{InPlace}
use Rattle.mail_types.specs.declared.driver.Driver.TheVariants.{Unix}
use Rattle.mail_types.specs.declared.flags.Flags.{Flags}
use Rattle.mail_types.specs.declared.mailbox.Mailbox.{Mailbox}
use Rattle.mail_types.specs.declared.message.Record.{Record}
use Rattle.mail_types.specs.Drivers.{keeps_of, every_flag}
use Rattle.mail_types.specs.Flags.{flags_in_both}
use Rattle.mail_types.specs.Keeping.{take_record}
use Rattle.mail_types.specs.Lists.{named}
use Rattle.mail_types.specs.Mailboxes.{uids_rise}
use Rattle.mail_types.specs.Opening.{greatest_given}
use Rattle.mail_types.specs.Stored.{stored_record}
use Rattle.text_forms.specs.Forms.{unix_form}
use Rattle.status_heads.specs.declared.base.Base.{Base}
use Rattle.status_heads.specs.declared.numbered.NumberedHeads.{NumberedHeads}
use Rattle.store_trait.specs.Having.{CanSpell, contents_of}
use Rattle.unix_form.specs.Messages.{RawMessage, raw_text}
use Rattle.unix_form.specs.Form.{FoundMessages, IsUnixSpelled, found_messages, stamp_of_line, unix_written}
use Rattle.unix_form.proofs.Stamps.{line_stamp}
use Rattle.unix_form.proofs.Written.{CanStand, raw_of, heads_back, text_back}
use Rattle.unix_form.proofs.WrittenFile.{IsBase, file_back}

-- ---- Messages that were written

module _ (names : List (List ℕ)) (all : list_all is_keyword names ≡ true) (distinct : are_distinct names ≡ true) where
  -- what is found of a message with these heads, this text and this stamp, and of those behind it
  abbrev found_with : List RawMessage → List ℕ → List ℕ → NumberedHeads → FoundMessages
  found_with rest text line heads =
      let later = found_messages heads.names rest in
      record { names = later.names; records = record { uid = unwrap_or heads.uid 0; text = text; stamp = stamp_of_line line; flags = heads.flags; words = heads.words; number = 0 } ∷ later.records }

  pub messages_back : (rs : List Record) → AllByRecursion (CanStand names) rs → found_messages names (map (raw_of names) rs) ≡ record { names = names; records = rs }
  messages_back [] can = refl
  messages_back (r ∷ rs) can =
      let message = raw_of names r in
      let rest = map (raw_of names) rs in
      ap (found_with rest (unix_form (raw_text message)) message.line) (heads_back names all distinct r can.0)
      ∙ (λ i. record {
        names = (messages_back rs can.1 i).names;
        records =
            record { uid = r.uid; text = text_back names all distinct r can.0 i; stamp = line_stamp r.stamp can.0.stamp i; flags = r.flags; words = r.words; number = can.0.number i }
            ∷ (messages_back rs can.1 i).records;
      })

-- ---- What unix keeps of a message is all of it

and_true : (b : Bool) → (b && true) ≡ b
and_true true = refl
and_true false = refl

all_flags : (f : Flags) → flags_in_both f (every_flag true) ≡ f
all_flags f = λ k. record {
  seen = and_true f.seen k;
  answered = and_true f.answered k;
  flagged = and_true f.flagged k;
  deleted = and_true f.deleted k;
  draft = and_true f.draft k;
  old = and_true f.old k;
}

pub stored_taken : (r : Record) → stored_record (keeps_of Unix) r ≡ take_record (keeps_of Unix) r
stored_taken r = λ k. record (take_record (keeps_of Unix) r) { flags = all_flags r.flags k }

all_stored : (rs : List Record) → AllByRecursion (λ r. take_record (keeps_of Unix) r ≡ r) rs → map (stored_record (keeps_of Unix)) rs ≡ rs
all_stored [] form = refl
all_stored (r ∷ rs) form = λ k. (stored_taken r ∙ form.0) k ∷ all_stored rs form.1 k

-- ---- A mailbox that unix can have can be written

words_small : (names words : ℕ) → words % 2 ^ names ≡ words → words < 2 ^ names
words_small names words is = subst (λ n. n < 2 ^ names) is (mod_below words (2 ^ names) (one-le-pow names 2 (omega arith)))

can_messages : (names : List (List ℕ)) (above last : ℕ) (rs : List Record) → last ≤ greatest_given → uids_rise above rs ≡ true → list_all (λ r. nat_le r.uid last) rs ≡ true
    → AllByRecursion (λ r. named (length names) r ≡ r) rs → AllByRecursion (λ r. take_record (keeps_of Unix) r ≡ r) rs → AllByRecursion (CanStand names) rs
can_messages names above last [] fits rise within names_are forms = tt
can_messages names above last (r ∷ rs) fits rise within names_are forms =
    let inside = and_parts (nat_le r.uid last) (list_all (λ r. nat_le r.uid last) rs) within in
    let rises = and_parts (nat_lt above r.uid) (uids_rise r.uid rs) rise in (
      record {
        text = ap (λ (q : Record). q.text) forms.0;
        stamp = ap (λ (q : Record). q.stamp) forms.0;
        words = words_small (length names) r.words (ap (λ (q : Record). q.words) names_are.0);
        low = let e = rises.0 in grind (arith, nat_tests, e);
        high = let e = inside.0 in grind (arith, nat_tests, e, fits);
        number = ap (λ (q : Record). q.number) forms.0;
      },
      can_messages names r.uid last rs fits rises.1 inside.1 names_are.1 forms.1,
    )

keyword_test : (name : List ℕ) → IsKeyword name → is_keyword name ≡ true
keyword_test name is =
    let some : nat_le 1 (length name) ≡ true = let e = is.some in grind (arith, nat_tests, e) in
    let few : nat_le (length name) 64 ≡ true = let e = is.few in grind (arith, nat_tests, e) in
    both_true some (both_true few is.atoms)

keyword_tests : (names : List (List ℕ)) → AllByRecursion IsKeyword names → list_all is_keyword names ≡ true
keyword_tests [] all = refl
keyword_tests (name ∷ names) all = both_true (keyword_test name all.0) (keyword_tests names all.1)

-- the law `again`
pub unix_again : (m : Mailbox) → CanSpell Unix m → (records : ℕ) × IsUnixSpelled (unix_written m) (contents_of Unix m) records
unix_again m is =
    let base : Base = record { validity = m.validity; last = m.last; words = m.words } in
    let all = keyword_tests m.words is.names in
    let can = can_messages m.words 0 m.last m.records is.last is.mailbox.rise is.mailbox.within is.named is.in_form in
    let fits : m.validity < 2 ^ 32 = omega (arith, is.mailbox.validity_fits) in
    let is_base : IsBase base = record { some = is.mailbox.validity; fits = fits; last = is.last; few = is.mailbox.few; distinct = is.mailbox.distinct; all = all } in
    let messages = map (raw_of m.words) m.records in
    let found = messages_back m.words all is.mailbox.distinct m.records can in
    let stored = all_stored m.records is.in_form in (
      1 + length messages,
      record {
        file = record { base = Some base; has_pseudo = true; messages = messages };
        reads = file_back base is_base m.records can is.mailbox.clean;
        says = λ k. record { validity = Some m.validity; number = 0; last = m.last; words = (sym found k).names; records = (stored ∙ ap (λ (f : FoundMessages). f.records) (sym found)) k; placing = InPlace };
        counts = refl;
      },
    )
