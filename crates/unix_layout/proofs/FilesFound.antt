-- The file that a text is, by its first message.
use Rattle.std.proofs.Common.{◌≡◌, ◌<◌, ℕ, true, false, List, [], ◌∷◌, Option, Some, None, option_map, codes, length, ⊎_elim, arith, refl, ap, sym, ◌∙◌}
use Rattle.std.specs.List.{concat}
use Rattle.std.proofs.lemmas.Bool.{cases_Bool, cond-false}
use Rattle.text_lines.specs.Lines.{lines_of}
use Rattle.text_lines.proofs.Lines.{no_lines}
use Rattle.mail_fields.specs.DelimiterLine.{is_delimiter_line}
use Rattle.status_heads.specs.declared.base.Base.{Base}
use Rattle.status_heads.specs.Bases.{base_of}
use Rattle.store_index.specs.declared.opening.Found.{Found}
use Rattle.store_index.specs.Opened.{contents_at}
use Rattle.file_store.specs.Standing.{IsSizedBy}
use Rattle.unix_form.specs.Messages.{RawMessage, CutLines, cut_lines, messages_if, messages_in, without_last_empty}
use Rattle.unix_form.specs.Form.{file_in, file_with, contents_in}
use Rattle.unix_layout.specs.Files.{IsFoundText}
use Rattle.unix_layout.proofs.FoundMessages.{messages_of, first, cut_first}
use Rattle.unix_layout.proofs.Runs.{ended_line}

messages_some : (text : List ℕ) → (cut_lines (lines_of text)).loose ≡ [] → messages_in (lines_of text) ≡ Some (messages_of text)
messages_some text loose = ap (λ l. messages_if (record { loose = l; messages = messages_of text })) loose

-- a text whose first line is no delimiter line is no file
pub none_read : (text line behind : List ℕ) → lines_of text ≡ line ∷ lines_of behind → is_delimiter_line line ≡ false → messages_in (lines_of text) ≡ None
none_read text line behind lines other =
    ap messages_in lines
    ∙ ap messages_if (cond-false (is_delimiter_line line) (record { loose = []; messages = record { line = line; lines = (cut_lines (lines_of behind)).loose } ∷ messages_of behind }) (record { loose = line ∷ (cut_lines (lines_of behind)).loose; messages = messages_of behind }) other)

-- an empty text has no message
pub empty_read : (text : List ℕ) → (none : text ≡ []) → (found : Found) (texts : List (List ℕ)) → contents_at found texts ≡ contents_in (record { base = None; has_pseudo = false; messages = messages_of text }) → IsSizedBy found.infos.items texts
    → IsFoundText text found texts
empty_read text none found texts says sized =
    let lines : lines_of text ≡ [] = ap lines_of none ∙ no_lines [] refl in
    record {
      file = record { base = None; has_pseudo = false; messages = [] };
      reads = ap (λ l. option_map file_in (messages_in l)) lines;
      says = says ∙ ap (λ l. contents_in (record { base = None; has_pseudo = false; messages = (cut_lines l).messages })) lines;
      sized = sized;
    }

module _ (text line behind raw : List ℕ) (lines : lines_of text ≡ line ∷ lines_of behind) (begins : is_delimiter_line line ≡ true)
    (raw_is : raw ≡ concat (without_last_empty (cut_lines (lines_of behind)).loose)) (found : Found) (texts : List (List ℕ)) (sized : IsSizedBy found.infos.items texts) where
  abbrev one : RawMessage
  one = first text line behind lines begins

  reads_first : option_map file_in (messages_in (lines_of text)) ≡ Some (file_with (base_of raw (codes "X-IMAP")) one (messages_of behind))
  reads_first =
      ap (option_map file_in) (messages_some text (ended_line text line (lines_of behind) lines begins).loose ∙ ap (λ l. Some l) (cut_first text line behind lines begins))
      ∙ ap (λ t. Some (file_with (base_of t (codes "X-IMAP")) one (messages_of behind))) (sym raw_is)

  -- the first message holds the base
  pub pseudo_read : (base : Base) (next : List ℕ) → base_of raw (codes "X-IMAP") ≡ Some base → messages_of next ≡ messages_of behind
      → contents_at found texts ≡ contents_in (record { base = Some base; has_pseudo = true; messages = messages_of next }) → IsFoundText text found texts
  pseudo_read base next is later says = record {
    file = record { base = Some base; has_pseudo = true; messages = messages_of behind };
    reads = reads_first ∙ ap (λ b. Some (file_with b one (messages_of behind))) is;
    says = says ∙ ap (λ l. contents_in (record { base = Some base; has_pseudo = true; messages = l })) later;
    sized = sized;
  }

  -- the first message is one of the mailbox
  pub plain_read : (base : Option Base) → base_of raw (codes "X-IMAP") ≡ None → base ≡ base_of raw (codes "X-IMAPbase")
      → contents_at found texts ≡ contents_in (record { base = base; has_pseudo = false; messages = messages_of text }) → IsFoundText text found texts
  plain_read base none is says = record {
    file = record { base = base; has_pseudo = false; messages = messages_of text };
    reads = reads_first ∙ ap (λ b. Some (file_with b one (messages_of behind))) none
        ∙ (λ k. Some (record { base = (ap (λ t. base_of t (codes "X-IMAPbase")) (sym raw_is) ∙ sym is) k; has_pseudo = false; messages = sym (cut_first text line behind lines begins) k }));
    says = says;
    sized = sized;
  }

-- a text without loose lines begins with a delimiter line
pub begins_of : (text line behind : List ℕ) → lines_of text ≡ line ∷ lines_of behind → (cut_lines (lines_of text)).loose ≡ [] → is_delimiter_line line ≡ true
begins_of text line behind lines loose = ⊎_elim
    (λ yes. yes)
    (λ no.
    let said : line ∷ (cut_lines (lines_of behind)).loose ≡ [] =
    sym (ap (λ l. (cut_lines l).loose) lines
    ∙ ap {A = CutLines} (λ cut. cut.loose)
    (cond-false (is_delimiter_line line) (record { loose = []; messages = record { line = line; lines = (cut_lines (lines_of behind)).loose } ∷ messages_of behind }) (record { loose = line ∷ (cut_lines (lines_of behind)).loose; messages = messages_of behind }) no))
    ∙ loose in
    absurd (cc))
    (cases_Bool (is_delimiter_line line))

pub no_bytes : (text : List ℕ) → length text ≡ 0 → text ≡ []
no_bytes [] none = refl
no_bytes (byte ∷ rest) none = absurd (omega (arith, none))

-- a text that is no file has a byte
pub some_bytes : (text : List ℕ) → messages_in (lines_of text) ≡ None → 0 < length text
some_bytes [] none = let said : Some [] ≡ None = sym (ap messages_in (no_lines [] refl)) ∙ none in absurd (cc)
some_bytes (byte ∷ rest) none = omega arith
