-- Texts that the unix form leaves as they are: their lines, and what stands in a file of them.
use Rattle.std.proofs.Common.{◌≡◌, ℕ, Bool, true, false, not, is_some, List, [], ◌∷◌, ◌++◌, ◌&&◌, map, flat_map, ⊎_elim, refl, ap, sym, subst, ◌∙◌}
use Rattle.std.specs.List.{concat, list_all, list_any}
use Rattle.std.proofs.lemmas.Bool.{cases_Bool, cond-true, cond-false}
use Rattle.text_lines.specs.Lines.{lines_of, is_empty_line}
use Rattle.text_lines.proofs.Texts.{joined, are-lines, lines-joined, flat-is-joined}
use Rattle.mail_fields.specs.DelimiterLine.{is_delimiter_line}
use Rattle.text_forms.specs.Lines.{kept_line, stored_line, ended_line, marked_line}
use Rattle.text_forms.specs.Forms.{end_last, keep_lines, store_lf, unreserved_lines, drop_reserved, has_reserved, has_empty_line, end_header, headed_form, quote_from, unix_form}
use Rattle.text_forms.proofs.LineEnds.{ended-closed}
use Rattle.text_forms.proofs.LineForms.{kept-is, stored-is, flat-lines}
use Rattle.text_forms.proofs.ReservedFields.{none_dropped, unreserved-lines}
use Rattle.text_forms.proofs.Headed.{IsHeaded, AreSettled, IsMark, settled-lines, settled-kept, made-headed, headed-stays, marked-headed}
use Rattle.text_forms.proofs.Idempotent.{from-mark}
use Rattle.text_forms.proofs.OtherEnds.{AreClosed, unreserved-over, has-reserved-over, any-empty-over, stored-delimiter}
use Rattle.text_forms.proofs.Stored.{keep_stored}

-- no line is a delimiter line
abbrev pub have_none : List (List ℕ) → Bool
have_none lines = list_all (λ line. not (is_delimiter_line line)) lines

pub settled-closed : (lines : List (List ℕ)) → AreSettled lines → AreClosed lines
settled-closed [] are = tt
settled-closed (line ∷ lines) are = (are.0.one, settled-closed lines are.1)

module _ (test : List ℕ → Bool) (mark : ℕ) (is : IsMark test mark) where
  -- a marked line passes the test no more
  none-marked : (lines : List (List ℕ)) → list_all (λ line. not (test line)) (map (marked_line test mark) lines) ≡ true
  none-marked [] = refl
  none-marked (line ∷ lines) = ap (λ t. not t && list_all (λ each. not (test each)) (map (marked_line test mark) lines)) here ∙ none-marked lines
    where
      here : test (marked_line test mark line) ≡ false
      here = ⊎_elim
          (λ yes. ap test (cond-true (test line) (mark ∷ line) line yes) ∙ is.marked line)
          (λ no. ap test (cond-false (test line) (mark ∷ line) line no) ∙ no)
          (cases_Bool (test line))

module _ (text : List ℕ) (same : unix_form text ≡ text) where
  abbrev marked : List (List ℕ)
  marked = map (marked_line is_delimiter_line 62) (made-headed text).0

  marked-is : IsHeaded marked
  marked-is = marked-headed is_delimiter_line 62 from-mark (made-headed text).0 (made-headed text).1.1

  whole : text ≡ concat marked
  whole =
      let made = made-headed text in
      sym same ∙ ap quote_from made.1.0
      ∙ ap (flat_map (marked_line is_delimiter_line 62)) (lines-joined made.0 (settled-lines made.0 made.1.1.settled))
      ∙ flat-is-joined (marked_line is_delimiter_line 62) made.0

  lines-are : lines_of text ≡ marked
  lines-are = ap lines_of whole ∙ lines-joined marked (settled-lines marked marked-is.settled)

  pub unix-headed : IsHeaded (lines_of text)
  unix-headed = subst IsHeaded (sym lines-are) marked-is

  pub unix-none : have_none (lines_of text) ≡ true
  unix-none = ap have_none lines-are ∙ none-marked is_delimiter_line 62 from-mark (made-headed text).0

  -- ---- With LF at the end of each line

  closed : AreClosed (lines_of text)
  closed = settled-closed (lines_of text) unix-headed.settled

  stored-lines : lines_of (store_lf text) ≡ map stored_line (lines_of text)
  stored-lines = flat-lines stored_line stored-is text

  pub stored-empty : has_empty_line (store_lf text) ≡ true
  stored-empty = ap (list_any is_empty_line) stored-lines ∙ any-empty-over (10 ∷ []) refl (lines_of text) closed ∙ unix-headed.ended

  pub stored-free : drop_reserved (store_lf text) ≡ store_lf text
  stored-free = none_dropped (store_lf text) (ap has_reserved stored-lines ∙ has-reserved-over (10 ∷ []) refl (lines_of text) closed ∙ unix-headed.unreserved)

  pub stored-closed : AreClosed (lines_of (store_lf text))
  stored-closed = subst AreClosed (sym stored-lines) (all-closed (lines_of text) closed)
    where
      all-closed : (lines : List (List ℕ)) → AreClosed lines → AreClosed (map stored_line lines)
      all-closed [] are = tt
      all-closed (line ∷ lines) are = (stored-is.closed line are.0, all-closed lines are.1)

  pub stored-none : have_none (lines_of (store_lf text)) ≡ true
  stored-none = ap have_none stored-lines ∙ same-none (lines_of text) unix-headed.settled ∙ unix-none
    where
      same-none : (lines : List (List ℕ)) → AreSettled lines → have_none (map stored_line lines) ≡ have_none lines
      same-none [] are = refl
      same-none (line ∷ lines) are =
          let rest = same-none lines are.1 in
          λ i. not (is_some (stored-delimiter line are.0 i)) && rest i

  -- ---- Read again

  kept : keep_lines text ≡ text
  kept = flat-is-joined kept_line (lines_of text) ∙ ap concat (settled-kept (lines_of text) unix-headed.settled) ∙ joined text

  headed : headed_form text ≡ text
  headed = ap headed_form (sym (joined text)) ∙ headed-stays (lines_of text) unix-headed ∙ joined text

  -- a text of whole lines that is this one with LF line ends, but for reserved fields, has it as its form
  pub unix-back : (stored : List ℕ) → AreClosed (lines_of stored) → drop_reserved stored ≡ store_lf text → unix_form stored ≡ text
  unix-back stored are dropped =
      let ended : end_last stored ≡ stored = flat-is-joined ended_line (lines_of stored) ∙ ap concat (all-ended (lines_of stored) are) ∙ joined stored in
      let left = unreserved_lines false (lines_of stored) in
      let reserved : drop_reserved (keep_lines stored) ≡ keep_lines (drop_reserved stored) =
      ap (λ lines. concat (unreserved_lines false lines)) (flat-lines kept_line kept-is stored)
      ∙ ap concat (unreserved-over (13 ∷ 10 ∷ []) refl false (lines_of stored) are)
      ∙ sym (flat-is-joined kept_line left)
      ∙ sym (ap (flat_map kept_line) (lines-joined left (unreserved-lines false (lines_of stored) (are-lines stored)))) in
      ap (λ t. quote_from (end_header (drop_reserved (keep_lines t)))) ended
      ∙ ap (λ t. quote_from (end_header t)) (reserved ∙ ap keep_lines dropped ∙ keep_stored text ∙ kept)
      ∙ ap quote_from (cond-true (has_empty_line text) text (text ++ 13 ∷ 10 ∷ []) unix-headed.ended)
      ∙ ap quote_from (sym headed) ∙ same
    where
      all-ended : (lines : List (List ℕ)) → AreClosed lines → map ended_line lines ≡ lines
      all-ended [] are = refl
      all-ended (line ∷ lines) are = let rest = all-ended lines are.1 in λ i. ended-closed line are.0 i ∷ rest i
