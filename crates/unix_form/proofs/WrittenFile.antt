-- The whole file that is written of a mailbox is read as its messages.
use Rattle.std.proofs.Common.{◌≡◌, ◌≢◌, ◌≤◌, ◌<◌, ◌^◌, ℕ, true, List, [], ◌∷◌, ◌++◌, Some, is_some, length, map, flat_map, option_map, codes, append_assoc, refl, ap, sym, subst, ◌∙◌}
use Rattle.std.specs.List.{AllByRecursion, list_all, concat}
use Rattle.std.proofs.lemmas.Bool.{and_parts}
use Rattle.std.proofs.lemmas.List.Folds.{concat-append}
use Rattle.text_lines.specs.Lines.{lines_of}
use Rattle.text_lines.proofs.Texts.{joined, lines-joined}
use Rattle.text_forms.specs.Forms.{store_lf}
use Rattle.mail_fields.specs.DelimiterLine.{delimiter_stamp}
use Rattle.mail_fields.specs.Keyword.{is_keyword}
use Rattle.mail_fields.specs.Names.{are_distinct}
use Rattle.mail_types.specs.declared.message.Record.{Record}
use Rattle.mail_types.specs.Mailboxes.{has_no_nul}
use Rattle.status_heads.specs.declared.base.Base.{Base}
use Rattle.status_heads.specs.Bases.{base_of}
use Rattle.status_heads.specs.HeadTexts.{field_line, names_text, head_lines}
use Rattle.status_heads.specs.Delimiters.{delimiter_text}
use Rattle.status_heads.specs.Numbers.{greatest_uid}
use Rattle.status_heads.specs.PseudoTexts.{pseudo_line, pseudo_message, pseudo_text}
use Rattle.status_heads.proofs.Insertions.{Each}
use Rattle.status_heads.proofs.MadeLines.{is_clean}
use Rattle.status_heads.proofs.PseudoBack.{words, header, body, filled, message_lines as pseudo_lines, base_back, every}
use Rattle.status_heads.proofs.PseudoLine.{line-stamp}
use Rattle.status_heads.proofs.WrittenValues.{names-clean}
use Rattle.unix_form.specs.Messages.{RawMessage, raw_text, messages_in}
use Rattle.unix_form.specs.Form.{file_of, file_in, file_with, message_text, heads_for}
use Rattle.unix_form.proofs.Cuts.{IsPlain, IsMessage, EachMessage, lines_in, each_both, last_empty, messages_back, message_lines_are}
use Rattle.unix_form.proofs.NoNul.{no_nul_both, clean_stays, store_no_nul, heads_no_nul, with_no_nul, delimiter_no_nul, pseudo_no_nul}
use Rattle.unix_form.proofs.Written.{CanStand, raw_of, text_of, message_lines, is_message, made, has, free, keywords, feed_plain}

-- ---- The message that holds the base

abbrev pub pseudo_of : Base → RawMessage
pseudo_of base = record { line = pseudo_line; lines = lines_of (pseudo_message base) ++ (10 ∷ []) ∷ [] }

header_plain : (value : List ℕ) → is_clean value ≡ true → Each IsPlain (header value ++ body)
unfolding delimiter_stamp field_line
header_plain value clean = (
  record { closed = refl; other = refl },
  (record { closed = refl; other = refl }, (record { closed = (filled value clean).1.1.0.closed; other = refl }, (record { closed = refl; other = refl }, (record { closed = refl; other = refl }, (record { closed = refl; other = refl }, tt))))),
)

pseudo_text_back : (base : Base) → raw_text (pseudo_of base) ≡ pseudo_message base
pseudo_text_back base = ap concat (last_empty (lines_of (pseudo_message base)) (10 ∷ []) refl) ∙ joined (pseudo_message base)

-- a base that can be written
pub record IsBase (base : Base) : Type 0 where
  pub some : base.validity ≢ 0
  pub fits : base.validity < 2 ^ 32
  pub last : base.last ≤ greatest_uid
  pub few : length base.words ≤ 30
  pub distinct : are_distinct base.words ≡ true
  pub all : list_all is_keyword base.words ≡ true

module _ (base : Base) (is : IsBase base) where
  pseudo_is : IsMessage (pseudo_of base)
  pseudo_is = record {
    closed = refl;
    begins = ap is_some line-stamp;
    plain = each_both IsPlain (lines_of (pseudo_message base)) ((10 ∷ []) ∷ [])
        (subst (Each IsPlain) (sym (pseudo_lines base is.some is.fits is.last is.few is.distinct is.all))
        (header_plain (names_text (words base)) (names-clean (words base) (every base is.some is.fits is.last is.few is.distinct is.all))))
        (feed_plain, tt);
  }

  -- ---- The file

  abbrev pub all_messages : List Record → List RawMessage
  all_messages rs = pseudo_of base ∷ map (raw_of base.words) rs

  abbrev pub file_text : List Record → List ℕ
  file_text rs = pseudo_text base ++ (codes "\n" ++ flat_map (message_text base.words) rs)

  texts_are : (rs : List Record) → flat_map (message_text base.words) rs ≡ concat (lines_in (map (raw_of base.words) rs))
  texts_are [] = refl
  texts_are (r ∷ rs) =
      let message = raw_of base.words r in
      (λ i. message_lines base.words r i ++ texts_are rs i)
      ∙ sym (concat-append (message.line ∷ message.lines) (lines_in (map (raw_of base.words) rs)))

  file_lines : (rs : List Record) → file_text rs ≡ concat (lines_in (all_messages rs))
  file_lines rs =
      let later = lines_in (map (raw_of base.words) rs) in
      let text = pseudo_message base in
      append_assoc pseudo_line text (10 ∷ flat_map (message_text base.words) rs)
      ∙ ap (λ rest. pseudo_line ++ (text ++ 10 ∷ rest)) (texts_are rs)
      ∙ ap (λ front. pseudo_line ++ (front ++ 10 ∷ concat later)) (sym (joined text))
      ∙ ap (λ rest. pseudo_line ++ rest)
      (sym (append_assoc (concat (lines_of text)) (10 ∷ []) (concat later)) ∙ ap (λ front. front ++ concat later) (sym (concat-append (lines_of text) ((10 ∷ []) ∷ [])))
      ∙ sym (concat-append (lines_of text ++ (10 ∷ []) ∷ []) later))

  each_is : (rs : List Record) → AllByRecursion (CanStand base.words) rs → EachMessage (map (raw_of base.words) rs)
  each_is [] all = tt
  each_is (r ∷ rs) all = (is_message base.words is.all is.distinct r all.0, each_is rs all.1)

  message_no_nul : (r : Record) → CanStand base.words r → has_no_nul r.text ≡ true → has_no_nul (message_text base.words r) ≡ true
  message_no_nul r can clean =
      let text = text_of base.words r in
      let heads = heads_for base.words r in
      let names = keywords base.words is.all is.distinct r can in
      let inner = with_no_nul (store_lf r.text) (head_lines heads) (made base.words is.all is.distinct r can) (has base.words is.all is.distinct r can) (free base.words is.all is.distinct r can)
      (store_no_nul r.text clean) (heads_no_nul r.flags heads.words r.uid names can.high) in
      no_nul_both (delimiter_text r.stamp.day r.stamp.second) (text ++ codes "\n") (delimiter_no_nul r) (no_nul_both text (codes "\n") inner refl)

  messages_no_nul : (rs : List Record) → AllByRecursion (CanStand base.words) rs → list_all (λ r. has_no_nul r.text) rs ≡ true → has_no_nul (flat_map (message_text base.words) rs) ≡ true
  messages_no_nul [] all clean = refl
  messages_no_nul (r ∷ rs) all clean =
      let both = and_parts (has_no_nul r.text) (list_all (λ each. has_no_nul each.text) rs) clean in
      no_nul_both (message_text base.words r) (flat_map (message_text base.words) rs) (message_no_nul r all.0 both.0) (messages_no_nul rs all.1 both.1)

  -- the file is read as its base and its messages
  pub file_back : (rs : List Record) → AllByRecursion (CanStand base.words) rs → list_all (λ r. has_no_nul r.text) rs ≡ true
      → file_of (file_text rs) ≡ Some (record { base = Some base; has_pseudo = true; messages = map (raw_of base.words) rs })
  file_back rs all clean =
      let messages = all_messages rs in
      let every_is : EachMessage messages = (pseudo_is, each_is rs all) in
      let no_nul : has_no_nul (file_text rs) ≡ true =
      no_nul_both (pseudo_text base) (codes "\n" ++ flat_map (message_text base.words) rs) (pseudo_no_nul base is.some is.fits is.last is.few is.distinct is.all) (messages_no_nul rs all clean) in
      let lines : lines_of (file_text rs) ≡ lines_in messages = ap lines_of (file_lines rs) ∙ lines-joined (lines_in messages) (message_lines_are messages every_is) in
      let read : base_of (raw_text (pseudo_of base)) (codes "X-IMAP") ≡ Some base =
      ap (λ text. base_of text (codes "X-IMAP")) (pseudo_text_back base) ∙ base_back base is.some is.fits is.last is.few is.distinct is.all in
      ap (λ bytes. option_map file_in (messages_in (lines_of bytes))) (clean_stays (file_text rs) no_nul)
      ∙ ap (λ l. option_map file_in (messages_in l)) lines
      ∙ ap (option_map file_in) (messages_back messages every_is)
      ∙ ap (λ found. Some (file_with found (pseudo_of base) (map (raw_of base.words) rs))) read
