use Rattle.std.proofs.Common.{◌≡◌, true, false, ◌∷◌, Some, None, codes, take, ap, sym, ◌∙◌}
use Rattle.std.specs.List.{concat}
use Rattle.text_lines.specs.Lines.{lines_of}
use Rattle.status_heads.specs.Bases.{base_of}
use Rattle.unix_form.specs.Messages.{cut_lines, without_last_empty}
use Rattle.unix_layout.proofs.FoundMessages.{messages_of}
use Rattle.unix_layout.proofs.FilesFound.{pseudo_read, plain_read, begins_of}
use Rattle.unix_layout.proofs.file.read_first.Goals as goal

pub returns-in_ok-found-in-Some-clause-found : goal.returns-in_ok-found-in-Some-clause-found
returns-in_ok-found-in-Some-clause-found c =
    let text = c.args.text.now in
    let line = take c.line_length.result text in
    let behind = c.split_at.result.1.now in
    let raw = c.split_at-2.result.0.now in
    let next = c.split_at-in-Some.result.1.now in
    let found = c.in_ok-found-in-Some.found in
    let lines : lines_of text ≡ line ∷ lines_of behind = c.line_length.ensures.lines c.requires.some ∙ (λ i. line ∷ lines_of (sym c.split_at.ensures.back i)) in
    let raw_is : raw ≡ concat (without_last_empty (cut_lines (lines_of behind)).loose) = c.split_at-2.ensures.front ∙ c.next_run-run.ensures.text in
    let later : messages_of next ≡ messages_of behind = ap messages_of c.split_at-in-Some.ensures.back ∙ c.next_run-run.ensures.rest in
    let is : base_of raw (codes "X-IMAP") ≡ Some c.in-Some.base = sym c.in_ok-base.ensures.value ∙ c.in-Some.is in
    pseudo_read text line behind raw lines (begins_of text line behind lines c.requires.begins) raw_is found.found found.texts.items c.in_ok-found-in-Some.ensures.sized
    c.in-Some.base next is later (c.in_ok-found-in-Some.ensures.says true)

pub returns-in_ok-found-in-None-clause-found : goal.returns-in_ok-found-in-None-clause-found
returns-in_ok-found-in-None-clause-found c =
    let text = c.args.text.now in
    let line = take c.line_length.result text in
    let behind = c.split_at.result.1.now in
    let raw = c.split_at-2.result.0.now in
    let found = c.in_ok-found-in-None.found in
    let lines : lines_of text ≡ line ∷ lines_of behind = c.line_length.ensures.lines c.requires.some ∙ (λ i. line ∷ lines_of (sym c.split_at.ensures.back i)) in
    let raw_is : raw ≡ concat (without_last_empty (cut_lines (lines_of behind)).loose) = c.split_at-2.ensures.front ∙ c.next_run-run.ensures.text in
    let none : base_of raw (codes "X-IMAP") ≡ None = sym c.in_ok-base.ensures.value ∙ c.in-None.is in
    plain_read text line behind raw lines (begins_of text line behind lines c.requires.begins) raw_is found.found found.texts.items c.in_ok-found-in-None.ensures.sized
    c.in_ok-plain-in-None.plain none c.in_ok-plain-in-None.ensures.value (c.in_ok-found-in-None.ensures.says false)
