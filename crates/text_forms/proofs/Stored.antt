-- LF line ends, and then CRLF: the same as CRLF at once.
use Rattle.std.proofs.Common.{◌≡◌, ℕ, List, [], ◌∷◌, ◌++◌, ⊎_elim, map, flat_map, refl, ap, sym, ◌∙◌}
use Rattle.text_lines.specs.Lines.{lines_of}
use Rattle.text_lines.proofs.Texts.{AreLines, are-lines}
use Rattle.text_forms.specs.Lines.{kept_line, stored_line}
use Rattle.text_forms.specs.Forms.{keep_lines, store_lf}
use Rattle.text_forms.proofs.LineEnds.{with-end-over, with-end-open}
use Rattle.text_forms.proofs.LineForms.{stored-is, flat-lines}

kept-stored : (lines : List (List ℕ)) → AreLines lines → flat_map kept_line (map stored_line lines) ≡ flat_map kept_line lines
kept-stored [] are = refl
kept-stored (line ∷ lines) are = ⊎_elim
    (λ more.
    ap (λ l. l ++ flat_map kept_line (map stored_line lines)) (with-end-over (10 ∷ []) refl refl (13 ∷ 10 ∷ []) line more.0)
    ∙ ap (λ behind. kept_line line ++ behind) (kept-stored lines more.1))
    (λ last.
    ap (λ l. kept_line (stored_line line) ++ flat_map kept_line (map stored_line l)) last.2
    ∙ ap (λ l. kept_line l ++ []) (with-end-open (10 ∷ []) refl refl line last.1)
    ∙ ap (λ l. kept_line line ++ flat_map kept_line l) (sym last.2))
    are

-- what is stored with LF is read again as it is kept
pub keep_stored : (text : List ℕ) → keep_lines (store_lf text) ≡ keep_lines text
keep_stored text = ap (flat_map kept_line) (flat-lines stored_line stored-is text) ∙ kept-stored (lines_of text) (are-lines text)
