-- What a unix file says is what unix declares.
use Rattle.std.proofs.Common.{◌≡◌, ◌≢◌, ◌≤◌, ◌<◌, ◌^◌, ℕ, Bool, true, false, nat_le, List, [], ◌∷◌, length, map, Option, Some, None, option_map, codes, refl, ap, sym, subst, ◌∙◌, arith}
use Rattle.std.specs.Prelude.{unwrap_or}
use Rattle.std.specs.List.{AllByRecursion, list_all}
use Rattle.std.specs.Cmp.Derive.{both_true}
use Rattle.std.proofs.lemmas.Bool.{and_parts, false≢true}
use Rattle.std.proofs.lemmas.Option.{same_Some}
use Rattle.std.proofs.Math.Nat.{mod-eq_of_lt, pow-le-pow_right}
use Rattle.text_lines.specs.Lines.{lines_of}
use Rattle.text_forms.specs.Forms.{unix_form}
use Rattle.text_forms.specs.Lines.{clean_byte}
use Rattle.text_forms.proofs.Idempotent.{unix_form_twice}
use Rattle.mail_fields.specs.DelimiterLine.{delimiter_stamp}
use Rattle.mail_fields.specs.Numbers.{◌>>=◌}
use Rattle.mail_fields.specs.Stamps.{parts_of}
use Rattle.mail_types.specs.declared.driver.Driver.TheVariants.{Unix}
use Rattle.mail_types.specs.declared.driver.TextKeep.TheVariants.{Unix as UnixText}
use Rattle.mail_types.specs.declared.message.Record.{Record}
use Rattle.mail_types.specs.Drivers.{keeps_of}
use Rattle.mail_types.specs.Keeping.{words_below}
use Rattle.mail_types.specs.Lists.{named}
use Rattle.mail_types.specs.Mailboxes.{has_no_nul, greatest_number}
use Rattle.mail_types.specs.Opening.{greatest, highest, uids_of}
use Rattle.mail_types.specs.Stamps.{epoch, read_stamp, utc_stamp}
use Rattle.mail_types.specs.Stored.{stored_record}
use Rattle.mail_types.proofs.CleanTexts.{form_is_clean}
use Rattle.mail_types.proofs.Stamps.{same_stamp}
use Rattle.mail_types.proofs.Twice.{utc_twice}
use Rattle.status_heads.specs.declared.base.Base.{Base}
use Rattle.status_heads.specs.declared.numbered.NumberedHeads.{NumberedHeads}
use Rattle.status_heads.specs.Bases.{base_of}
use Rattle.status_heads.specs.Fields.{value_named, fields_in}
use Rattle.status_heads.specs.Heads.{heads_of, heads_in}
use Rattle.status_heads.specs.Names.{with_names}
use Rattle.status_heads.specs.Numbered.{numbered_heads}
use Rattle.status_heads.specs.Numbers.{greatest_uid}
use Rattle.status_heads.proofs.Marks.{with-more}
use Rattle.store_trait.specs.Having.{IsFound}
use Rattle.unix_form.specs.Messages.{RawMessage, messages_in, raw_text}
use Rattle.unix_form.specs.Form.{UnixFile, file_of, file_in, file_with, contents_in, found_messages, names_of_base, last_of_base, stamp_of_line, file_records}
use Rattle.unix_form.proofs.Again.{stored_taken}
use Rattle.unix_form.proofs.CleanMessages.{clean_messages, messages_clean, raw_clean}
use Rattle.unix_form.proofs.FoundBase.{AreNames, names_stay, no_names, keywords_are, word_bits_below, between_below, IsRead, base_is}
use Rattle.unix_form.proofs.NoNul.{clean_found}

-- ---- One message

uid_below : (text : List ℕ) → unwrap_or (heads_of text).uid 0 ≤ greatest_uid
unfolding heads_in
uid_below text = between_below greatest_uid (value_named (codes "X-UID") (fields_in text))

-- a message that is found, where so many names are there in the end
pub record IsFoundRecord (names : ℕ) (r : Record) : Type 0 where
  pub in_form : stored_record (keeps_of Unix) r ≡ r
  pub named : named names r ≡ r
  pub clean : has_no_nul r.text ≡ true
  pub uid : r.uid ≤ greatest_uid
  pub number : r.number ≡ 0

abbrev found_record : RawMessage → NumberedHeads → Record
found_record message heads =
    record { uid = unwrap_or heads.uid 0; text = unix_form (raw_text message); stamp = stamp_of_line message.line; flags = heads.flags; words = heads.words; number = 0 }

module _ (names : List (List ℕ)) (message : RawMessage) (clean : list_all has_no_nul message.lines ≡ true) (count : ℕ) where
  abbrev heads : NumberedHeads
  heads = numbered_heads names (heads_of (raw_text message))

  abbrev found : Record
  found = found_record message heads

  record_is : length heads.names ≤ count → count ≤ 30 → IsFoundRecord count found
  record_is within few =
      let small : heads.words < 2 ^ length heads.names = word_bits_below heads.names (heads_of (raw_text message)).words in
      let room : 2 ^ length heads.names ≤ 2 ^ count = pow-le-pow_right (omega arith) within in
      let most : 2 ^ count ≤ 2 ^ 30 = pow-le-pow_right (omega arith) few in
      let numbers : words_below count heads.words ≡ heads.words = mod-eq_of_lt (omega (arith, small, room)) in
      let kept : words_below 30 heads.words ≡ heads.words = mod-eq_of_lt (omega (arith, small, room, most)) in
      let text = unix_form_twice (raw_text message) in
      let stamp = same_stamp (utc_stamp (stamp_of_line message.line)) (stamp_of_line message.line) (utc_twice (parts_of (unwrap_or (delimiter_stamp message.line >>= read_stamp) epoch))) in
      record {
        in_form = stored_taken found ∙ (λ k. record found { text = text k; stamp = stamp k; words = kept k });
        named = λ k. record found { words = numbers k };
        clean = form_is_clean UnixText (raw_text message) (raw_clean message clean);
        uid = uid_below (raw_text message);
        number = refl;
      }

-- ---- All of them

pub record AreFound (names : List (List ℕ)) (messages : List RawMessage) : Type 0 where
  pub names_are : AreNames (found_messages names messages).names
  pub more : length names ≤ length (found_messages names messages).names
  pub each : AllByRecursion (IsFoundRecord (length (found_messages names messages).names)) (found_messages names messages).records
  pub count : length (found_messages names messages).records ≡ length messages

are_found : (names : List (List ℕ)) (messages : List RawMessage) → AreNames names → clean_messages messages ≡ true → AreFound names messages
are_found names [] are clean = record { names_are = are; more = omega arith; each = tt; count = refl }
are_found names (message ∷ rest) are clean =
    let both = and_parts (list_all has_no_nul message.lines) (clean_messages rest) clean in
    let said = heads_of (raw_text message) in
    let known = with_names names said.words in
    let later = are_found known rest (names_stay names said.words are) both.1 in
    let total = length (found_messages known rest).names in
    record {
      names_are = later.names_are;
      more = omega (arith, with-more said.words names, later.more);
      each = (record_is names message both.0 total later.more later.names_are.few, later.each);
      count = omega (arith, later.count);
    }

-- ---- The file

record IsFile (file : UnixFile) : Type 0 where
  names : AreNames (names_of_base file.base)
  last : last_of_base file.base ≤ greatest_uid
  some : unwrap_or (option_map (λ (b : Base). b.validity) file.base) 1 ≢ 0
  fits : unwrap_or (option_map (λ (b : Base). b.validity) file.base) 1 ≤ greatest_number
  clean : clean_messages file.messages ≡ true

with_base : (base : Option Base) (has : Bool) (messages : List RawMessage) → ((b : Base) → base ≡ Some b → IsRead b) → clean_messages messages ≡ true → IsFile (record { base = base; has_pseudo = has; messages = messages })
with_base None has messages is clean = record { names = no_names; last = omega arith; some = λ e. absurd (cc); fits = omega arith; clean = clean }
with_base (Some base) has messages is clean =
    let read = is base refl in
    record { names = read.names; last = read.last; some = read.some; fits = read.fits; clean = clean }

file_is : (messages : List RawMessage) → clean_messages messages ≡ true → IsFile (file_in messages)
file_is [] clean = with_base None false [] (λ b is. absurd (cc)) refl
file_is (first ∷ rest) clean = step (base_of (raw_text first) (codes "X-IMAP")) refl
  where
    both : (list_all has_no_nul first.lines ≡ true) × (clean_messages rest ≡ true)
    both = and_parts (list_all has_no_nul first.lines) (clean_messages rest) clean

    step : (pseudo : Option Base) → base_of (raw_text first) (codes "X-IMAP") ≡ pseudo → IsFile (file_with pseudo first rest)
    step (Some base) is = with_base (Some base) true rest (λ b same. base_is (raw_text first) (codes "X-IMAP") b (is ∙ same)) both.1
    step None is = with_base (base_of (raw_text first) (codes "X-IMAPbase")) false (first ∷ rest) (λ b same. base_is (raw_text first) (codes "X-IMAPbase") b same) clean

read_is : (bytes : List ℕ) (file : UnixFile) → file_of bytes ≡ Some file → IsFile file
read_is bytes file is = step (messages_in (lines_of (map clean_byte bytes))) refl is
  where
    step : (found : Option (List RawMessage)) → messages_in (lines_of (map clean_byte bytes)) ≡ found → option_map file_in found ≡ Some file → IsFile file
    step None reads none = absurd (cc)
    step (Some messages) reads some = subst IsFile (same_Some (file_in messages) file some) (file_is messages (messages_clean (map clean_byte bytes) messages (clean_found bytes) reads))

-- facts of each message, as facts of all
all_in_form : (names : ℕ) (rs : List Record) → AllByRecursion (IsFoundRecord names) rs → AllByRecursion (λ r. stored_record (keeps_of Unix) r ≡ r) rs
all_in_form names [] all = tt
all_in_form names (r ∷ rs) all = (all.0.in_form, all_in_form names rs all.1)

all_named : (names : ℕ) (rs : List Record) → AllByRecursion (IsFoundRecord names) rs → AllByRecursion (λ r. named names r ≡ r) rs
all_named names [] all = tt
all_named names (r ∷ rs) all = (all.0.named, all_named names rs all.1)

all_clean : (names : ℕ) (rs : List Record) → AllByRecursion (IsFoundRecord names) rs → list_all (λ r. has_no_nul r.text) rs ≡ true
all_clean names [] all = refl
all_clean names (r ∷ rs) all = both_true all.0.clean (all_clean names rs all.1)

all_numbered : (names : ℕ) (rs : List Record) → AllByRecursion (IsFoundRecord names) rs → list_all (λ r. nat_le r.number 0) rs ≡ true
all_numbered names [] all = refl
all_numbered names (r ∷ rs) all = both_true (ap (λ n. nat_le n 0) all.0.number) (all_numbered names rs all.1)

all_below : (names : ℕ) (rs : List Record) → AllByRecursion (IsFoundRecord names) rs → greatest (uids_of rs) ≤ greatest_uid
all_below names [] all = omega arith
all_below names (r ∷ rs) all = omega (arith, all.0.uid, all_below names rs all.1)

-- the law `found`
pub unix_found : (bytes : List ℕ) (file : UnixFile) → file_of bytes ≡ Some file → IsFound Unix (contents_in file)
unix_found bytes file reads =
    let is = read_is bytes file reads in
    let found = are_found (names_of_base file.base) file.messages is.names is.clean in
    let names = length (found_messages (names_of_base file.base) file.messages).names in
    let records = (found_messages (names_of_base file.base) file.messages).records in
    let most : highest (last_of_base file.base) (uids_of records) ≤ greatest_uid = omega (arith, is.last, all_below names records found.each) in
    record {
      openable = record {
        validity = is.some;
        validity_fits = is.fits;
        number_fits = omega arith;
        last_fits = omega (arith, most);
        few = found.names_are.few;
        distinct = found.names_are.distinct;
        clean = all_clean names records found.each;
        numbered = all_numbered names records found.each;
      };
      names = keywords_are _ found.names_are.keywords;
      few = found.names_are.few;
      in_form = all_in_form names records found.each;
      named = all_named names records found.each;
      last = most;
      unnumbered = λ none. refl;
      lasting = λ passing. absurd (false≢true (sym passing));
      placed = refl;
    }

-- a message of the mailbox is one of the file
pub few_messages : (bytes : List ℕ) (file : UnixFile) → file_of bytes ≡ Some file → length (contents_in file).records ≤ file_records file
few_messages bytes file reads =
    let is = read_is bytes file reads in
    let found = are_found (names_of_base file.base) file.messages is.names is.clean in
    omega (arith, found.count)
