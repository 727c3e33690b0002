use Rattle.std.proofs.Common.{◌≡◌, ◌+◌, ◌-◌, ◌∷◌, ap, sym, ◌∙◌, length, take, drop, length-drop, take_all, arith}
use Rattle.bstr.proofs.lemmas.LineLemmas.{lines-first, lines-whole}
use Rattle.text_lines.specs.Lines.{lines_of}
use Rattle.text_lines.proofs.line.line_length.Goals as goal

pub returns-in-Some-clause-lines : goal.returns-in-Some-clause-lines
returns-in-Some-clause-lines c some =
    let text = c.args.text.now in
    let from = c.in-Some.at + 1 in
    let left = length-drop from text in
    let all : take (length text - from) (drop from text) ≡ drop from text = take_all _ _ (omega arith) in
    lines-first text c.in-Some.at c.in-Some.ensures ∙ ap (λ t. take from text ∷ lines_of t) all

pub returns-in-None-clause-lines : goal.returns-in-None-clause-lines
returns-in-None-clause-lines c some =
    let text = c.args.text.now in
    let from = length text in
    let left = length-drop from text in
    let whole : take from text ≡ text = take_all _ _ (omega arith) in
    let all : take (length text - from) (drop from text) ≡ drop from text = take_all _ _ (omega arith) in
    lines-whole text some c.in-None.ensures ∙ ap (λ t. text ∷ lines_of t) all ∙ ap (λ t. t ∷ lines_of (drop from text)) (sym whole)
