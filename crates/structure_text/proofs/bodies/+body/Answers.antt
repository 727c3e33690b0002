use Rattle.std.proofs.Common.{subst}
use Rattle.structure_text.specs.Appending.{Appends}
use Rattle.structure_text.specs.Envelopes.{IsEnvelope}
use Rattle.structure_text.specs.Bodies.{IsBody, AreBodies, head_in}
use Rattle.structure_text.proofs.Writing.{ok-then, leaf-written, multipart-written, message-written, bodies-begin, bodies-more}
use Rattle.structure_text.proofs.bodies.+body.Goals as goal

pub put_part-returns-in-Leaf : goal.put_part-returns-in-Leaf
put_part-returns-in-Leaf t c =
    ok-then _ _ c.put_leaf.result (λ is. leaf-written c.args.text.now c.args.extended c.args.part.now c.args.out.now.items c.put_leaf.new.out.items c.in-Leaf.is is) c.put_leaf.ensures

pub put_part-returns-in_ok-put_parts-in-Parts : goal.put_part-returns-in_ok-put_parts-in-Parts
put_part-returns-in_ok-put_parts-in-Parts t c =
    let text = c.args.text.now in
    let extended = c.args.extended in
    let begun = c.push.new.self.items in
    let middle = c.put_parts.new.out.items in
    let bodies = subst (λ ps. Appends (AreBodies text extended ps) begun middle) c.as_slice.ensures c.in_ok-put_parts-in-Parts.ensures in
    ok-then _ _ c.put_subtype.result
    (λ is. multipart-written text extended c.args.part.now c.args.out.now.items c.put_subtype.new.out.items c.in-Parts.parts begun middle c.in-Parts.is c.in_ok-push-in-Parts.ensures.items bodies is)
    c.put_subtype.ensures

pub put_part-returns-in_ok-put_part-in-Message : goal.put_part-returns-in_ok-put_part-in-Message
put_part-returns-in_ok-put_part-in-Message t c =
    let text = c.args.text.now in
    let extended = c.args.extended in
    let inner = c.in-Message.inner in
    let begun = c.push-in-Message.new.self.items in
    let enveloped = c.put_header_envelope.new.out.items in
    let between = c.push-in-Message-2.new.self.items in
    let middle = c.put_part.new.out.items in
    let own = subst (λ h. Appends (IsEnvelope h) begun enveloped) c.slice_of.ensures c.in_ok-put_header_envelope-in-Message.ensures in
    let envelope = subst (λ m. Appends (IsEnvelope (head_in text m)) begun enveloped) c.get-message.ensures own in
    let body = subst (λ m. Appends (IsBody text extended m) between middle) c.get-message.ensures c.in_ok-put_part-in-Message.ensures in
    ok-then _ _ c.put_message_end.result
    (λ is.
    message-written text extended c.args.part.now c.args.out.now.items c.put_message_end.new.out.items inner c.put_leaf_fields.new.out.items begun enveloped between middle c.in-Message.is
    c.in_ok-put_leaf_fields-in-Message.ensures c.in_ok-push-in-Message.ensures.items envelope c.in_ok-push-in-Message-2.ensures.items body is)
    c.put_message_end.ensures

pub put_parts-loop-part-init : goal.put_parts-loop-part-init
put_parts-loop-part-init t c = bodies-begin c.args.text.now c.args.extended c.args.out.now.items

pub put_parts-loop-part-preserved : goal.put_parts-loop-part-preserved
put_parts-loop-part-preserved t c =
    let text = c.args.text.now in
    let extended = c.args.extended in
    let part = c.part-item.result in
    let body = subst (λ p. Appends (IsBody text extended p) c.loop-part.out.items c.put_part.new.out.items) c.part-item.is c.in_ok-put_part.ensures in
    bodies-more text extended c.args.parts.now c.loop-part.part-index part c.args.out.now.items c.loop-part.out.items c.put_part.new.out.items c.loop-part-test.true c.loop-part.invariant body
