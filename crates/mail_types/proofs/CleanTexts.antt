-- A text form adds no byte but line ends, `>` and spaces; so a text without NUL stays one.
use Rattle.std.proofs.Common.{◌≡◌, ℕ, Bool, true, false, ◌&&◌, ◌==◌, not, List, [], ◌∷◌, ◌++◌, flat_map, cond, refl, sym, ◌∙◌, ap}
use Rattle.std.specs.List.{list_all, concat}
use Rattle.std.proofs.lemmas.Bool.{and_parts}
use Rattle.std.proofs.lemmas.List.Folds.{list_all-append}
use Rattle.text_lines.specs.Lines.{lines_of, line_text, line_end_of, is_empty_line}
use Rattle.text_lines.proofs.LineEnds.{text-then-end}
use Rattle.text_lines.proofs.Texts.{joined}
use Rattle.text_forms.specs.Forms.{keep_lines, end_last, unreserved_lines, drop_reserved, has_empty_line, end_header, lines_form, headed_form}
use Rattle.text_forms.specs.Lines.{is_ended, kept_line, ended_line, marked_line, quoted_from, quoted_mmdf, is_dropped, is_mmdf_line}
use Rattle.mail_fields.specs.DelimiterLine.{is_delimiter_line}
use Rattle.mail_types.specs.declared.driver.TextKeep.{TextKeep}
use Rattle.mail_types.specs.declared.driver.TextKeep.TheVariants.{Exact, Lines, Unix, Mmdf}
use Rattle.mail_types.specs.Keeping.{text_in_form}
use Rattle.mail_types.specs.Mailboxes.{has_no_nul}

join : {a b : Bool} → a ≡ true → b ≡ true → (a && b) ≡ true
join {a} {b} is at = ap (λ x. x && b) is ∙ at

-- a test of bytes that the bytes pass which forms add
module _ (test : ℕ → Bool) (feed : test 10 ≡ true) (return : test 13 ≡ true) (angle : test 62 ≡ true) (space : test 32 ≡ true) where
  abbrev passes : List ℕ → Bool
  passes text = list_all test text

  passes_join : (xs ys : List ℕ) → passes xs ≡ true → passes ys ≡ true → passes (xs ++ ys) ≡ true
  passes_join xs ys one two = list_all-append test xs ys ∙ join one two

  passes_parts : (xs ys : List ℕ) → passes (xs ++ ys) ≡ true → (passes xs ≡ true) × (passes ys ≡ true)
  passes_parts xs ys all = and_parts (passes xs) (passes ys) (sym (list_all-append test xs ys) ∙ all)

  each_line : (lines : List (List ℕ)) → passes (concat lines) ≡ true → list_all passes lines ≡ true
  each_line [] all = refl
  each_line (line ∷ lines) all = let parts = passes_parts line (concat lines) all in join parts.0 (each_line lines parts.1)

  lines_pass : (text : List ℕ) → passes text ≡ true → list_all passes (lines_of text) ≡ true
  lines_pass text all = each_line (lines_of text) (ap passes (joined text) ∙ all)

  concat_passes : (lines : List (List ℕ)) → list_all passes lines ≡ true → passes (concat lines) ≡ true
  concat_passes [] all = refl
  concat_passes (line ∷ lines) all = let parts = and_parts (passes line) (list_all passes lines) all in passes_join line (concat lines) parts.0 (concat_passes lines parts.1)

  flat_passes : (form : List ℕ → List ℕ) → ((line : List ℕ) → passes line ≡ true → passes (form line) ≡ true) → (lines : List (List ℕ)) → list_all passes lines ≡ true → passes (flat_map form lines) ≡ true
  flat_passes form stays [] all = refl
  flat_passes form stays (line ∷ lines) all =
      let parts = and_parts (passes line) (list_all passes lines) all in
      passes_join (form line) (flat_map form lines) (stays line parts.0) (flat_passes form stays lines parts.1)

  kept_passes : (line : List ℕ) → passes line ≡ true → passes (kept_line line) ≡ true
  kept_passes line all = step (is_ended line)
    where
      front : passes (line_text line) ≡ true
      front = (passes_parts (line_text line) (line_end_of line) (ap passes (text-then-end line) ∙ all)).0

      step : (b : Bool) → passes (cond b (line_text line ++ 13 ∷ 10 ∷ []) line) ≡ true
      step true = passes_join (line_text line) (13 ∷ 10 ∷ []) front (join return (join feed refl))
      step false = all

  ended_passes : (line : List ℕ) → passes line ≡ true → passes (ended_line line) ≡ true
  ended_passes line all = step (is_ended line)
    where
      step : (b : Bool) → passes (cond b line (line ++ 10 ∷ [])) ≡ true
      step true = all
      step false = passes_join line (10 ∷ []) all (join feed refl)

  marked_passes : (is : List ℕ → Bool) (mark : ℕ) → test mark ≡ true → (line : List ℕ) → passes line ≡ true → passes (marked_line is mark line) ≡ true
  marked_passes is mark ok line all = step (is line)
    where
      step : (b : Bool) → passes (cond b (mark ∷ line) line) ≡ true
      step true = join ok all
      step false = all

  unreserved_pass : (above : Bool) (lines : List (List ℕ)) → list_all passes lines ≡ true → list_all passes (unreserved_lines above lines) ≡ true
  unreserved_pass above [] all = refl
  unreserved_pass above (line ∷ lines) all =
      let parts = and_parts (passes line) (list_all passes lines) all in
      step (is_empty_line line) (is_dropped above line) parts.0 (unreserved_pass true lines parts.1) (unreserved_pass false lines parts.1)
    where
      step : (a b : Bool) → passes line ≡ true → list_all passes (unreserved_lines true lines) ≡ true → list_all passes (unreserved_lines false lines) ≡ true
          → list_all passes (cond a (line ∷ lines) (cond b (unreserved_lines true lines) (line ∷ unreserved_lines false lines))) ≡ true
      step true b is one two = all
      step false true is one two = one
      step false false is one two = join is two

  end_passes : (text : List ℕ) → passes text ≡ true → passes (end_header text) ≡ true
  end_passes text all = step (has_empty_line text)
    where
      step : (b : Bool) → passes (cond b text (text ++ 13 ∷ 10 ∷ [])) ≡ true
      step true = all
      step false = passes_join text (13 ∷ 10 ∷ []) all (join return (join feed refl))

  lines_stay : (text : List ℕ) → passes text ≡ true → passes (lines_form text) ≡ true
  lines_stay text all = flat_passes kept_line kept_passes (lines_of text) (lines_pass text all)

  headed_stay : (text : List ℕ) → passes text ≡ true → passes (headed_form text) ≡ true
  headed_stay text all =
      let ended = flat_passes ended_line ended_passes (lines_of text) (lines_pass text all) in
      let kept = lines_stay (end_last text) ended in
      end_passes (drop_reserved (keep_lines (end_last text)))
      (concat_passes (unreserved_lines false (lines_of (keep_lines (end_last text)))) (unreserved_pass false (lines_of (keep_lines (end_last text))) (lines_pass (keep_lines (end_last text)) kept)))

  pub form_passes : (form : TextKeep) (text : List ℕ) → passes text ≡ true → passes (text_in_form form text) ≡ true
  form_passes Exact text all = all
  form_passes Lines text all = lines_stay text all
  form_passes Unix text all = flat_passes quoted_from (marked_passes is_delimiter_line 62 angle) (lines_of (headed_form text)) (lines_pass (headed_form text) (headed_stay text all))
  form_passes Mmdf text all = flat_passes quoted_mmdf (marked_passes is_mmdf_line 32 space) (lines_of (headed_form text)) (lines_pass (headed_form text) (headed_stay text all))

pub form_is_clean : (form : TextKeep) (text : List ℕ) → has_no_nul text ≡ true → has_no_nul (text_in_form form text) ≡ true
form_is_clean = form_passes (λ byte. not (byte == 0)) refl refl refl refl
