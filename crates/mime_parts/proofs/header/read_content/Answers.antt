use Rattle.std.proofs.Common.{◌∙◌, ap, subst, codes, map}
use Rattle.head_fields.specs.Fields.{reading_in}
use Rattle.mime_parts.specs.Contents.{first_value, text_of, HasMedia, HasEncoding, HasDisposition, HasLanguages}
use Rattle.mime_parts.proofs.header.read_content.Goals as goal

pub returns : goal.returns
returns c =
    let same = ap (map (reading_in c.args.text.now)) c.as_slice-fields.ensures.value ∙ c.in_ok-found.ensures.readings in
    record {
      media = subst (λ fs. HasMedia c.args.digest (first_value (codes "Content-Type") fs) c.in_ok-kind.field-0) same c.in_ok-kind.ensures;
      encoding = subst (λ fs. HasEncoding (first_value (codes "Content-Transfer-Encoding") fs) c.in_ok-encoding.field-0) same c.in_ok-encoding.ensures;
      disposition = subst (λ fs. HasDisposition (first_value (codes "Content-Disposition") fs) c.in_ok-disposition.field-0) same c.in_ok-disposition.ensures;
      language = subst (λ fs. HasLanguages (first_value (codes "Content-Language") fs) c.in_ok-language.field-0) same c.in_ok-language.ensures;
      id = c.in_ok-field_text.ensures ∙ ap (text_of (codes "Content-ID")) same;
      description = c.in_ok-field_text-2.ensures ∙ ap (text_of (codes "Content-Description")) same;
      md5 = c.in_ok-field_text-3.ensures ∙ ap (text_of (codes "Content-MD5")) same;
      location = c.in_ok-field_text-4.ensures ∙ ap (text_of (codes "Content-Location")) same;
    }
