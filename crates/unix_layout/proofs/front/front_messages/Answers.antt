use Rattle.std.proofs.Common.{◌≡◌, ℕ, List, ◌∷◌, length, take, drop, ap, sym, ◌∙◌, refl, arith}
use Rattle.std.proofs.lemmas.List.{length-take}
use Rattle.text_lines.specs.Lines.{lines_of}
use Rattle.unix_layout.proofs.Fronts.{front_none, front_one, none_said, other_of}
use Rattle.unix_layout.proofs.front.front_messages.Goals as goal

first-line : (text line : List ℕ) (width : ℕ) → lines_of text ≡ take width text ∷ lines_of (drop width text) → line ≡ take width text → lines_of text ≡ line ∷ lines_of (drop width text)
first-line text line width first front = first ∙ (λ i. sym front i ∷ lines_of (drop width text))

pub returns-then-begins_short : goal.returns-then-begins_short
returns-then-begins_short c = λ bytes same.
    let text = c.args.text.now in
    let line = c.split_at.result.0.now in
    let width = c.line_length.result in
    let lines = first-line text line width (c.line_length.ensures.lines c.requires.some) c.split_at.ensures.front in
    let other = other_of text line (lines_of (drop width text)) lines c.requires.none in
    let front = c.if-begins_short.ensures.yes refl in
    let long = length-take width text in
    record {
      none = none_said bytes text line width same c.requires.some c.split_at.ensures.front lines c.line_length.ensures.within other c.requires.none;
      whole = front_one bytes text line width same c.requires.some c.split_at.ensures.front lines c.line_length.ensures.within other front.0 (omega (arith, front.1, ap length c.split_at.ensures.front, long)) front.2;
    }

pub returns-else-begins_short : goal.returns-else-begins_short
returns-else-begins_short c = λ bytes same.
    let text = c.args.text.now in
    let line = c.split_at.result.0.now in
    let width = c.line_length.result in
    let lines = first-line text line width (c.line_length.ensures.lines c.requires.some) c.split_at.ensures.front in
    let other = other_of text line (lines_of (drop width text)) lines c.requires.none in
    let none = c.if-begins_short.ensures.no refl in
    let long = length-take width text in
    record {
      none = none_said bytes text line width same c.requires.some c.split_at.ensures.front lines c.line_length.ensures.within other c.requires.none;
      whole = front_none bytes text line width same c.requires.some c.split_at.ensures.front lines c.line_length.ensures.within other
          (λ k inside. none k (omega (arith, inside, ap length c.split_at.ensures.front, long, c.line_length.ensures.within)));
    }
