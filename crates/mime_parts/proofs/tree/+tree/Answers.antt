use Rattle.std.proofs.Common.{◌≡◌, ◌∙◌, ◌+◌, ◌-◌, suc, false, ap, sym, subst, arith, take, drop, map}
use Rattle.std.proofs.lemmas.List.{take_rest, drop-drop}
use Rattle.text_lines.specs.Lines.{header_of}
use Rattle.head_fields.specs.Header.{body_start_of}
use Rattle.head_fields.specs.Fields.{readings_of}
use Rattle.mime_parts.specs.Contents.{HasContent, is_digest}
use Rattle.mime_parts.specs.Marks.{section_in}
use Rattle.mime_parts.specs.Parts.{Each, IsPart, part_at}
use Rattle.mime_parts.specs.Readers.{division_in}
use Rattle.mime_parts.specs.declared.part.Inner.{Leaf, Message}
use Rattle.mime_parts.proofs.Trees.{each-more, part-several, part-one, part-no_parts, part-undivided}
use Rattle.mime_parts.proofs.tree.+tree.Goals as goal

pub part-returns-in_ok-parts-in-Several : goal.part-returns-in_ok-parts-in-Several
part-returns-in_ok-parts-in-Several t c =
    let text = c.args.text.now in
    let from = c.args.tail.now.from in
    let levels = c.args.levels in
    let content = c.in_ok-content.content in
    let parts = c.in_ok-parts-in-Several.parts in
    let has = subst (λ own. HasContent c.args.digest (readings_of (header_of own)) content) (take_rest text from) c.in_ok-content.ensures in
    let some : levels ≡ suc (levels - 1) = omega (arith, c.if-levels-eq0.false) in
    let same = ap (division_in text) (sym c.in-Several.is) ∙ c.in_ok-division.ensures.value in
    let each = subst (λ b. Each (IsPart (levels - 1) b) (map (section_in text) c.as_slice.result.now) parts) c.is_digest-digest.ensures c.in_ok-parts-in-Several.ensures in
    let all = subst (λ spans. Each (IsPart (levels - 1) (is_digest content)) (map (section_in text) spans) parts) c.as_slice.ensures.value each in
    part-several levels c.args.digest from (drop from text) content c.part_at.result has (levels - 1) some (map (section_in text) c.in-Several.sections.items) parts same all c.part_at.ensures

pub part-returns-in_ok-new-in-One : goal.part-returns-in_ok-new-in-One
part-returns-in_ok-new-in-One t c =
    let text = c.args.text.now in
    let from = c.args.tail.now.from in
    let levels = c.args.levels in
    let content = c.in_ok-content.content in
    let message = c.in_ok-message-in-One.message in
    let own = drop from text in
    let has = subst (λ own. HasContent c.args.digest (readings_of (header_of own)) content) (take_rest text from) c.in_ok-content.ensures in
    let some : levels ≡ suc (levels - 1) = omega (arith, c.if-levels-eq0.false) in
    let same = ap (division_in text) (sym c.in-One.is) ∙ c.in_ok-division.ensures.value in
    let there = subst (λ n. IsPart (levels - 1) false n (drop n text) message) c.body_tail-body.ensures.from c.in_ok-message-in-One.ensures in
    let inner = subst (λ body. IsPart (levels - 1) false (from + body_start_of own) body message) (sym (drop-drop (body_start_of own) from text)) there in
    let is = c.part_at-in-One.ensures ∙ ap (λ m. part_at from own content (Message m)) c.in_ok-new-in-One.ensures in
    part-one levels c.args.digest from own content c.part_at-in-One.result has (levels - 1) some message same inner is

pub part-returns-in_ok-content-in-NoParts : goal.part-returns-in_ok-content-in-NoParts
part-returns-in_ok-content-in-NoParts t c =
    let text = c.args.text.now in
    let from = c.args.tail.now.from in
    let levels = c.args.levels in
    let content = c.in_ok-content.content in
    let has = subst (λ own. HasContent c.args.digest (readings_of (header_of own)) content) (take_rest text from) c.in_ok-content.ensures in
    let some : levels ≡ suc (levels - 1) = omega (arith, c.if-levels-eq0.false) in
    let same = ap (division_in text) (sym c.in-NoParts.is) ∙ c.in_ok-division.ensures.value in
    let is = c.part_at-in-NoParts.ensures ∙ ap (λ bytes. part_at from (drop from text) bytes Leaf) c.in_ok-content-in-NoParts.ensures in
    part-no_parts levels c.args.digest from (drop from text) content c.part_at-in-NoParts.result has (levels - 1) some same is

pub part-returns-in-Undivided : goal.part-returns-in-Undivided
part-returns-in-Undivided t c =
    let text = c.args.text.now in
    let from = c.args.tail.now.from in
    let levels = c.args.levels in
    let content = c.in_ok-content.content in
    let has = subst (λ own. HasContent c.args.digest (readings_of (header_of own)) content) (take_rest text from) c.in_ok-content.ensures in
    let some : levels ≡ suc (levels - 1) = omega (arith, c.if-levels-eq0.false) in
    let same = ap (division_in text) (sym c.in-Undivided.is) ∙ c.in_ok-division.ensures.value in
    part-undivided levels c.args.digest from (drop from text) content c.part_at-in-Undivided.result has (levels - 1) some same c.part_at-in-Undivided.ensures

pub parts-loop-section-preserved : goal.parts-loop-section-preserved
parts-loop-section-preserved t c =
    let text = c.args.text.now in
    let sections = c.args.sections.now in
    let at = c.loop-section.section-index in
    let section = c.requires.within at _ c.loop-section-test.true in
    subst (λ parts. Each (IsPart c.args.levels c.args.digest) (map (section_in text) (take (at + 1) sections)) parts) (sym c.in_ok-push.ensures.ok)
    (each-more (IsPart c.args.levels c.args.digest) text sections at _ c.loop-section-test.true section.ordered c.loop-section.parts c.in_ok-part.field-0 c.loop-section.invariant c.in_ok-part.ensures)
