-- Borders of messages, told by their first bytes.
use Rattle.std.proofs.Common.{◌≡◌, ◌≢◌, ℕ, false, true, None, is_some, List, [], ◌∷◌, cond, ◌==◌, ◌&&◌, codes, bytes_eq, take, drop, refl, ap, sym}
use Rattle.std.proofs.lemmas.Bool.{ne_eqb}
use Rattle.text_lines.specs.Lines.{is_line_end, line_text}
use Rattle.mail_fields.specs.DelimiterLine.{is_delimiter_line, delimiter_stamp, date_behind_space, is_short, is_one_line}
use Rattle.text_forms.specs.Lines.{is_mmdf_line}

pub delimiter_first : (line : List ℕ) → ((rest : List ℕ) → line ≢ 70 ∷ rest) → is_delimiter_line line ≡ false
unfolding delimiter_stamp
delimiter_first [] other = refl
delimiter_first (byte ∷ rest) other =
    let line = byte ∷ rest in
    let begins : bytes_eq (codes "From ") (take 5 line) ≡ false = ap (λ is. is && bytes_eq (codes "rom ") (take 4 rest)) (ne_eqb 70 byte (λ is. other rest (ap (λ b. b ∷ rest) (sym is)))) in
    ap (λ is. is_some (cond (is && is_short line && is_one_line line) (date_behind_space (drop 4 (line_text line))) None)) begins

pub border_first : (line : List ℕ) → ((rest : List ℕ) → line ≢ 1 ∷ rest) → is_mmdf_line line ≡ false
border_first [] other = refl
border_first (byte ∷ rest) other =
    let begins : (byte == 1) ≡ false = ne_eqb byte 1 (λ is. other rest (ap (λ b. b ∷ rest) is)) in
    elim (is_line_end (byte ∷ rest)) as (λ is. bytes_eq (cond is [] (byte ∷ line_text rest)) (1 ∷ 1 ∷ 1 ∷ 1 ∷ []) ≡ false) [
      | true ↦ refl
      | false ↦ ap (λ is. is && bytes_eq (line_text rest) (1 ∷ 1 ∷ 1 ∷ [])) begins
    ]
