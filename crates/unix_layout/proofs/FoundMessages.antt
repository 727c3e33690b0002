-- The messages that are found in a text, one after the other.
use Rattle.std.proofs.Common.{◌≡◌, ℕ, true, List, [], ◌∷◌, ◌++◌, Some, None, is_some, length, append_assoc, append-nil, refl, ap, sym, ◌∙◌, arith}
use Rattle.std.specs.Prelude.{unwrap_or}
use Rattle.std.specs.List.{concat}
use Rattle.std.proofs.lemmas.Bool.{cond-true, cond-false}
use Rattle.std.proofs.lemmas.List.{map-append, length-map}
use Rattle.text_forms.specs.Forms.{unix_form}
use Rattle.text_lines.specs.Lines.{lines_of}
use Rattle.text_lines.proofs.Lines.{no_lines}
use Rattle.mail_fields.specs.DelimiterLine.{delimiter_stamp, is_delimiter_line}
use Rattle.mail_fields.specs.Numbers.{◌>>=◌}
use Rattle.mail_fields.specs.Stamps.{parts_of}
use Rattle.mail_fields.specs.declared.stamp.Stamp.{Stamp}
use Rattle.mail_types.specs.declared.message.Record.{Record}
use Rattle.mail_types.specs.Stamps.{epoch, read_stamp, utc_stamp}
use Rattle.mail_types.proofs.Stamps.{stamp_back}
use Rattle.store_trait.specs.declared.store.Info.{Info}
use Rattle.store_index.specs.Told.{record_at, records_at}
use Rattle.file_store.specs.Standing.{IsSizedBy}
use Rattle.unix_form.specs.Messages.{RawMessage, CutLines, cut_lines, without_last_empty, raw_text}
use Rattle.unix_form.specs.Form.{FoundMessages, found_messages, stamp_of_line}
use Rattle.unix_layout.specs.Reading.{found_heads, found_record}

-- the messages whose lines these are
abbrev pub messages_of : List ℕ → List RawMessage
messages_of text = (cut_lines (lines_of text)).messages

abbrev pub before : List (List ℕ) → List Record → List (List ℕ) → List RawMessage → FoundMessages
before names records known messages = record { names = (found_messages known messages).names; records = records ++ (found_messages known messages).records }

-- what is found so far, and what is still to be found
pub record IsReading (names : List (List ℕ)) (all : List RawMessage) (known : List (List ℕ)) (infos : List Info) (texts : List (List ℕ)) (rest : List ℕ) : Type 0 where
  pub loose : (cut_lines (lines_of rest)).loose ≡ []
  pub found : found_messages names all ≡ before names (records_at infos texts) known (messages_of rest)
  pub sized : IsSizedBy infos texts

pub reading_none : (names : List (List ℕ)) (text : List ℕ) → (cut_lines (lines_of text)).loose ≡ [] → IsReading names (messages_of text) names [] [] text
reading_none names text loose = record { loose = loose; found = refl; sized = refl }

one_record : (infos : List Info) (texts : List (List ℕ)) (i : Info) (t : List ℕ) → length infos ≡ length texts → records_at (infos ++ i ∷ []) (texts ++ t ∷ []) ≡ records_at infos texts ++ record_at i t ∷ []
one_record [] [] i t same = refl
one_record [] (text ∷ texts) i t same = absurd (omega (arith, same))
one_record (info ∷ infos) [] i t same = absurd (omega (arith, same))
one_record (info ∷ infos) (text ∷ texts) i t same = ap (λ l. record_at info text ∷ l) (one_record infos texts i t (omega (arith, same)))

pub sized_length : (infos : List Info) (texts : List (List ℕ)) → IsSizedBy infos texts → length infos ≡ length texts
sized_length infos texts is = sym (length-map infos (λ (i : Info). i.size)) ∙ ap length is ∙ length-map texts (λ (t : List ℕ). length t)

one_size : (infos : List Info) (texts : List (List ℕ)) (i : Info) (t : List ℕ) → IsSizedBy infos texts → i.size ≡ length t → IsSizedBy (infos ++ i ∷ []) (texts ++ t ∷ [])
one_size infos texts i t is size =
    map-append (λ (each : Info). each.size) infos (i ∷ []) ∙ (λ k. is k ++ size k ∷ []) ∙ sym (map-append (λ (each : List ℕ). length each) texts (t ∷ []))

module _ (rest line behind : List ℕ) (lines : lines_of rest ≡ line ∷ lines_of behind) (begins : is_delimiter_line line ≡ true) where
  abbrev pub first : RawMessage
  first = record { line = line; lines = (cut_lines (lines_of behind)).loose }

  pub cut_first : messages_of rest ≡ first ∷ messages_of behind
  cut_first =
      ap (λ l. (cut_lines l).messages) lines
      ∙ ap {A = CutLines} (λ cut. cut.messages)
      (cond-true (is_delimiter_line line) (record { loose = []; messages = first ∷ messages_of behind }) (record { loose = line ∷ (cut_lines (lines_of behind)).loose; messages = messages_of behind }) begins)

stamp_is : (line : List ℕ) (stamp : Stamp) → delimiter_stamp line ≡ Some (parts_of stamp) → stamp_of_line line ≡ utc_stamp stamp
stamp_is line stamp is =
    ap (λ found. utc_stamp (unwrap_or (found >>= read_stamp) epoch)) is ∙ ap (λ found. utc_stamp (unwrap_or found epoch)) (stamp_back stamp)

-- one message more
pub reading_one : (names : List (List ℕ)) (all : List RawMessage) (known : List (List ℕ)) (infos : List Info) (texts : List (List ℕ)) (rest line behind text : List ℕ) (stamp : Stamp) (then : List (List ℕ)) (i : Info) (t : List ℕ) (next : List ℕ)
    → IsReading names all known infos texts rest → lines_of rest ≡ line ∷ lines_of behind → delimiter_stamp line ≡ Some (parts_of stamp)
    → text ≡ concat (without_last_empty (cut_lines (lines_of behind)).loose) → then ≡ (found_heads known text).names → record_at i t ≡ found_record known stamp text → i.size ≡ length t
    → (cut_lines (lines_of next)).loose ≡ [] → messages_of next ≡ messages_of behind
    → IsReading names all then (infos ++ i ∷ []) (texts ++ t ∷ []) next
reading_one names all known infos texts rest line behind text stamp then i t next is lines begins text_is names_are is_record size loose later =
    let message = first rest line behind lines (ap is_some begins) in
    let raw : raw_text message ≡ text = sym text_is in
    let old = records_at infos texts in
    let more = messages_of behind in
    let heads = found_heads known text in
    let step : found_messages known (message ∷ more)
    ≡ record { names = (found_messages heads.names more).names; records = found_record known stamp text ∷ (found_messages heads.names more).records } =
    (λ k. record {
      names = (found_messages (found_heads known (raw k)).names more).names;
      records =
          record {
            uid = unwrap_or (found_heads known (raw k)).uid 0;
            text = unix_form (raw k);
            stamp = stamp_is line stamp begins k;
            flags = (found_heads known (raw k)).flags;
            words = (found_heads known (raw k)).words;
            number = 0;
          } ∷ (found_messages (found_heads known (raw k)).names more).records;
    }) in
    record {
      loose = loose;
      found =
          is.found
          ∙ ap (before names old known) (cut_first rest line behind lines (ap is_some begins))
          ∙ ap (λ (found : FoundMessages). put old found) step
          ∙ (λ k. record { names = (found_messages (sym names_are k) more).names; records = old ++ (sym is_record k ∷ (found_messages (sym names_are k) more).records) })
          ∙ (λ k. record { names = (found_messages then more).names; records = sym (append_assoc old (record_at i t ∷ []) (found_messages then more).records) k })
          ∙ (λ k. record { names = (found_messages then more).names; records = sym (one_record infos texts i t (sized_length infos texts is.sized)) k ++ (found_messages then more).records })
          ∙ ap (before names (records_at (infos ++ i ∷ []) (texts ++ t ∷ [])) then) (sym later);
      sized = one_size infos texts i t is.sized size;
    }
  where
    put : List Record → FoundMessages → FoundMessages
    put old found = record { names = found.names; records = old ++ found.records }

-- nothing is left
pub reading_end : (names : List (List ℕ)) (all : List RawMessage) (known : List (List ℕ)) (infos : List Info) (texts : List (List ℕ)) (rest : List ℕ) → IsReading names all known infos texts rest → length rest ≡ 0
    → found_messages names all ≡ record { names = known; records = records_at infos texts }
reading_end names all known infos texts rest is none =
    is.found ∙ ap (λ lines. before names (records_at infos texts) known (cut_lines lines).messages) (no_lines rest none)
    ∙ (λ k. record { names = known; records = append-nil (records_at infos texts) k })

-- a first line that is no delimiter line would stand loose
pub reading_stuck : (rest line behind : List ℕ) → (cut_lines (lines_of rest)).loose ≡ [] → lines_of rest ≡ line ∷ lines_of behind → delimiter_stamp line ≡ None → ⊥
reading_stuck rest line behind loose lines none =
    let said : line ∷ (cut_lines (lines_of behind)).loose ≡ [] =
    sym (ap (λ l. (cut_lines l).loose) lines
    ∙ ap {A = CutLines} (λ cut. cut.loose)
    (cond-false (is_delimiter_line line) (record { loose = []; messages = record { line = line; lines = (cut_lines (lines_of behind)).loose } ∷ messages_of behind }) (record { loose = line ∷ (cut_lines (lines_of behind)).loose; messages = messages_of behind }) (ap is_some none)))
    ∙ loose in
    absurd (cc)
