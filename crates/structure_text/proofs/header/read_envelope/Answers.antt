use Rattle.std.proofs.Common.{◌∙◌, ap, subst, codes, map}
use Rattle.head_fields.specs.Fields.{reading_in}
use Rattle.mime_parts.specs.Contents.{text_of}
use Rattle.structure_text.specs.Envelopes.{HasAddresses}
use Rattle.structure_text.proofs.header.read_envelope.Goals as goal

pub returns : goal.returns
returns c =
    let same = ap (map (reading_in c.args.header.now)) c.as_slice-fields.ensures.value ∙ c.in_ok-found.ensures.readings in
    record {
      date = c.in_ok-field_text.ensures ∙ ap (text_of (codes "Date")) same;
      subject = c.in_ok-field_text-2.ensures ∙ ap (text_of (codes "Subject")) same;
      from = subst (λ fs. HasAddresses (text_of (codes "From") fs) c.in_ok-field_addresses.field-0) same c.in_ok-field_addresses.ensures;
      sender = subst (λ fs. HasAddresses (text_of (codes "Sender") fs) c.in_ok-field_addresses-2.field-0) same c.in_ok-field_addresses-2.ensures;
      reply_to = subst (λ fs. HasAddresses (text_of (codes "Reply-To") fs) c.in_ok-field_addresses-3.field-0) same c.in_ok-field_addresses-3.ensures;
      to = subst (λ fs. HasAddresses (text_of (codes "To") fs) c.in_ok-field_addresses-4.field-0) same c.in_ok-field_addresses-4.ensures;
      cc = subst (λ fs. HasAddresses (text_of (codes "Cc") fs) c.in_ok-field_addresses-5.field-0) same c.in_ok-field_addresses-5.ensures;
      bcc = subst (λ fs. HasAddresses (text_of (codes "Bcc") fs) c.in_ok-field_addresses-6.field-0) same c.in_ok-field_addresses-6.ensures;
      in_reply_to = c.in_ok-field_text-3.ensures ∙ ap (text_of (codes "In-Reply-To")) same;
      message_id = c.in_ok-field_text-4.ensures ∙ ap (text_of (codes "Message-ID")) same;
    }
