-- Texts in a form up to its quoting: whole lines that end in CRLF, no reserved field, an empty line.
use Rattle.std.proofs.Common.{◌≡◌, ℕ, Bool, true, false, cond, List, [], ◌∷◌, ◌++◌, ◌==◌, ◌||◌, ⊎_elim, inl, map, flat_map, append_assoc, append-nil, refl, ap, sym, subst, ◌∙◌}
use Rattle.std.specs.List.{concat, list_any}
use Rattle.std.proofs.lemmas.Bool.{cases_Bool, cond-true, cond-false, false≢true}
use Rattle.text_lines.specs.Lines.{lines_of, line_text, is_empty_line, is_line_end}
use Rattle.text_lines.proofs.Texts.{is_closed, AreLines, are-lines, lines-joined, flat-is-joined}
use Rattle.text_forms.specs.Lines.{is_ended, kept_line, ended_line, marked_line, is_reserved, is_dropped}
use Rattle.text_forms.specs.Forms.{end_last, keep_lines, unreserved_lines, drop_reserved, end_header, headed_form, has_reserved}
use Rattle.text_forms.proofs.LineEnds.{closed-before, closed-ended, no-end-behind, ended-closed, ended-open}
use Rattle.text_forms.proofs.LineForms.{kept-is, ended-is, flat-lines}
use Rattle.text_forms.proofs.ReservedFields.{none-goes, all-gone, empty-behind, none-made}

-- a line that ends in CRLF
pub record IsSettled (line : List ℕ) : Type 0 where
  pub one : is_closed line ≡ true
  pub kept : kept_line line ≡ line

abbrev pub AreSettled : List (List ℕ) → Type 0
AreSettled [] = Unit {0}
AreSettled (line ∷ lines) = IsSettled line × AreSettled lines

-- the lines of a text in a form up to its quoting
pub record IsHeaded (lines : List (List ℕ)) : Type 0 where
  pub settled : AreSettled lines
  pub unreserved : has_reserved lines ≡ false
  pub ended : list_any is_empty_line lines ≡ true

pub settled-lines : (lines : List (List ℕ)) → AreSettled lines → AreLines lines
settled-lines [] are = tt
settled-lines (line ∷ lines) are = inl (are.0.one, settled-lines lines are.1)

pub settled-kept : (lines : List (List ℕ)) → AreSettled lines → map kept_line lines ≡ lines
settled-kept [] are = refl
settled-kept (line ∷ lines) are = ap (λ l. l ∷ map kept_line lines) are.0.kept ∙ ap (λ l. line ∷ l) (settled-kept lines are.1)

settled-ended : (lines : List (List ℕ)) → AreSettled lines → map ended_line lines ≡ lines
settled-ended [] are = refl
settled-ended (line ∷ lines) are =
    ap (λ l. l ∷ map ended_line lines) (ended-closed line are.0.one) ∙ ap (λ l. line ∷ l) (settled-ended lines are.1)

settled : (line : List ℕ) → is_closed line ≡ true → IsSettled (kept_line line)
settled line closed = record { one = kept-is.closed line closed; kept = kept-is.twice line closed }

settle : (lines : List (List ℕ)) → AreLines lines → AreSettled (map kept_line (map ended_line lines))
settle [] are = tt
settle (line ∷ lines) are = ⊎_elim
    (λ more. (settled (ended_line line) (ap is_closed (ended-closed line more.0) ∙ more.0), settle lines more.1))
    (λ last.
    subst (λ l. AreSettled (map kept_line (map ended_line (line ∷ l)))) (sym last.2) (settled (ended_line line) (ended-open line last.1), tt))
    are

unreserved-settled : (above : Bool) (lines : List (List ℕ)) → AreSettled lines → AreSettled (unreserved_lines above lines)
unreserved-settled above [] are = tt
unreserved-settled above (line ∷ lines) are =
    let goes = unreserved-settled true lines are.1 in
    let stays = unreserved-settled false lines are.1 in
    let header : AreSettled (cond (is_dropped above line) (unreserved_lines true lines) (line ∷ unreserved_lines false lines)) =
    elim (is_dropped above line) as (λ is. AreSettled (cond is (unreserved_lines true lines) (line ∷ unreserved_lines false lines))) [
      | true ↦ goes
      | false ↦ (are.0, stays)
    ] in
    elim (is_empty_line line)
    as (λ is. AreSettled (cond is (line ∷ lines) (cond (is_dropped above line) (unreserved_lines true lines) (line ∷ unreserved_lines false lines)))) [
      | true ↦ are
      | false ↦ header
    ]

abbrev crlf : List ℕ
crlf = 13 ∷ 10 ∷ []

-- the lines, and an empty one behind them where they have none
abbrev headed_lines : List (List ℕ) → List (List ℕ)
headed_lines lines = cond (list_any is_empty_line lines) lines (lines ++ crlf ∷ [])

behind-settled : (lines : List (List ℕ)) → AreSettled lines → AreSettled (lines ++ crlf ∷ [])
behind-settled [] are = (record { one = refl; kept = refl }, tt)
behind-settled (line ∷ lines) are = (are.0, behind-settled lines are.1)

any-behind : (lines : List (List ℕ)) → list_any is_empty_line (lines ++ crlf ∷ []) ≡ true
any-behind [] = refl
any-behind (line ∷ lines) =
    let behind = any-behind lines in
    elim (is_empty_line line) as (λ is. (is || list_any is_empty_line (lines ++ crlf ∷ [])) ≡ true) [ true ↦ refl | false ↦ behind ]

concat-behind : (lines : List (List ℕ)) (line : List ℕ) → concat (lines ++ line ∷ []) ≡ concat lines ++ line
concat-behind [] line = append-nil line
concat-behind (first ∷ lines) line = ap (λ text. first ++ text) (concat-behind lines line) ∙ sym (append_assoc first (concat lines) line)

headed-is : (lines : List (List ℕ)) → AreSettled lines → has_reserved lines ≡ false → IsHeaded (headed_lines lines)
headed-is lines are none = ⊎_elim
    (λ some.
    subst IsHeaded (sym (cond-true (list_any is_empty_line lines) lines (lines ++ crlf ∷ []) some))
    (record { settled = are; unreserved = none; ended = some }))
    (λ no.
    subst IsHeaded (sym (cond-false (list_any is_empty_line lines) lines (lines ++ crlf ∷ []) no))
    (record { settled = behind-settled lines are; unreserved = empty-behind crlf lines refl none; ended = any-behind lines }))
    (cases_Bool (list_any is_empty_line lines))

end-headed : (lines : List (List ℕ)) → AreSettled lines → end_header (concat lines) ≡ concat (headed_lines lines)
end-headed lines are =
    let text = concat lines in
    ap (λ l. cond (list_any is_empty_line l) text (text ++ crlf)) (lines-joined lines (settled-lines lines are))
    ∙ elim (list_any is_empty_line lines) as (λ some. cond some text (text ++ crlf) ≡ concat (cond some lines (lines ++ crlf ∷ []))) [
      | true ↦ refl
      | false ↦ sym (concat-behind lines crlf)
    ]

-- every text gets such lines
pub made-headed : (text : List ℕ) → (lines : List (List ℕ)) × ((headed_form text ≡ concat lines) × IsHeaded lines)
made-headed text =
    let kept = map kept_line (map ended_line (lines_of text)) in
    let are = settle (lines_of text) (are-lines text) in
    let lines : lines_of (keep_lines (end_last text)) ≡ kept =
    flat-lines kept_line kept-is (end_last text) ∙ ap (map kept_line) (flat-lines ended_line ended-is text) in
    let left = unreserved_lines false kept in
    let left_are = unreserved-settled false kept are in
    let dropped : drop_reserved (keep_lines (end_last text)) ≡ concat left = ap (λ l. concat (unreserved_lines false l)) lines in
    (headed_lines left, (ap end_header dropped ∙ end-headed left left_are, headed-is left left_are (all-gone false kept)))

-- a text of such lines stays as it is
pub headed-stays : (lines : List (List ℕ)) → IsHeaded lines → headed_form (concat lines) ≡ concat lines
headed-stays lines is =
    let text = concat lines in
    let same = lines-joined lines (settled-lines lines is.settled) in
    let ended : end_last text ≡ text =
    ap (flat_map ended_line) same ∙ flat-is-joined ended_line lines ∙ ap concat (settled-ended lines is.settled) in
    let kept : keep_lines text ≡ text =
    ap (flat_map kept_line) same ∙ flat-is-joined kept_line lines ∙ ap concat (settled-kept lines is.settled) in
    let dropped : drop_reserved text ≡ text =
    ap (λ l. concat (unreserved_lines false l)) same ∙ ap concat (none-goes lines is.unreserved) in
    let headed : end_header text ≡ text =
    end-headed lines is.settled ∙ ap concat (cond-true (list_any is_empty_line lines) lines (lines ++ crlf ∷ []) is.ended) in
    ap (λ t. end_header (drop_reserved (keep_lines t))) ended
    ∙ ap (λ t. end_header (drop_reserved t)) kept
    ∙ ap end_header dropped ∙ headed

-- a mark before lines that are not empty, which makes no line end and no reserved field
pub record IsMark (test : List ℕ → Bool) (mark : ℕ) : Type 0 where
  pub no_feed : (mark == 10) ≡ false
  pub no_return : (mark == 13) ≡ false
  pub marked : (line : List ℕ) → test (mark ∷ line) ≡ false
  pub unreserved : (line : List ℕ) → is_reserved (mark ∷ line) ≡ false
  pub filled : (line : List ℕ) → is_empty_line line ≡ true → test line ≡ false

module _ (test : List ℕ → Bool) (mark : ℕ) (is : IsMark test mark) where
  mark-settled : (line : List ℕ) → IsSettled line → IsSettled (mark ∷ line)
  mark-settled line line_is =
      let closed = closed-before mark line is.no_feed line_is.one in
      let text = cond-false (is_line_end (mark ∷ line)) [] (mark ∷ line_text line) (no-end-behind mark line is.no_feed is.no_return) in
      let same : line_text line ++ crlf ≡ line =
      sym (cond-true (is_ended line) (line_text line ++ crlf) line (closed-ended line line_is.one)) ∙ line_is.kept in
      record {
        one = closed;
        kept = cond-true (is_ended (mark ∷ line)) (line_text (mark ∷ line) ++ crlf) (mark ∷ line) (closed-ended (mark ∷ line) closed)
            ∙ ap (λ t. t ++ crlf) text ∙ ap (λ t. mark ∷ t) same;
      }

  marked-settled : (lines : List (List ℕ)) → AreSettled lines → AreSettled (map (marked_line test mark) lines)
  marked-settled [] are = tt
  marked-settled (line ∷ lines) are =
      let quoted = mark-settled line are.0 in
      let here : IsSettled (marked_line test mark line) =
      elim (test line) as (λ is. IsSettled (cond is (mark ∷ line) line)) [ true ↦ quoted | false ↦ are.0 ] in
      (here, marked-settled lines are.1)

  marked-empty : (line : List ℕ) → is_empty_line (marked_line test mark line) ≡ is_empty_line line
  marked-empty line = ⊎_elim
      (λ yes.
      let some : is_empty_line line ≡ false =
      ⊎_elim (λ empty. absurd (false≢true (sym (is.filled line empty) ∙ yes))) (λ no. no) (cases_Bool (is_empty_line line)) in
      ap is_empty_line (cond-true (test line) (mark ∷ line) line yes) ∙ no-end-behind mark line is.no_feed is.no_return ∙ sym some)
      (λ no. ap is_empty_line (cond-false (test line) (mark ∷ line) line no))
      (cases_Bool (test line))

  marked-unreserved : (line : List ℕ) → is_reserved line ≡ false → is_reserved (marked_line test mark line) ≡ false
  marked-unreserved line none =
      let quoted = is.unreserved line in
      elim (test line) as (λ is. is_reserved (cond is (mark ∷ line) line) ≡ false) [ true ↦ quoted | false ↦ none ]

  marked-any : (lines : List (List ℕ)) → list_any is_empty_line (map (marked_line test mark) lines) ≡ list_any is_empty_line lines
  marked-any [] = refl
  marked-any (line ∷ lines) =
      ap (λ t. t || list_any is_empty_line (map (marked_line test mark) lines)) (marked-empty line)
      ∙ ap (λ t. is_empty_line line || t) (marked-any lines)

  -- the marked lines of such a text are such lines
  pub marked-headed : (lines : List (List ℕ)) → IsHeaded lines → IsHeaded (map (marked_line test mark) lines)
  marked-headed lines lines_are = record {
    settled = marked-settled lines lines_are.settled;
    unreserved = none-made (marked_line test mark) marked-empty marked-unreserved lines lines_are.unreserved;
    ended = marked-any lines ∙ lines_are.ended;
  }
