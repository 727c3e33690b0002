use Rattle.std.proofs.Common.{rules, ◌≡◌, ◌∙◌, ◌++◌, codes, ap, string_bytes, append_assoc}
use Rattle.mail_fields.specs.Numbers.{digits_in}
use Rattle.mail_fields.proofs.Digits.{length-digits_in}
use Rattle.mail_fields.proofs.Texts.{whole-written}
use Rattle.mix_data.proofs.names.data_path.Goals as goal

pub returns-in_ok-push_str-in-Ok : goal.returns-in_ok-push_str-in-Ok
returns-in_ok-push_str-in-Ok c =
    let whole : string_bytes c.push_str-in-Ok.new.self ≡ string_bytes c.push_str.new.self ++ c.in-Ok.digits.now = search rules in
    let front : string_bytes c.push_str.new.self ≡ string_bytes c.in_ok-path.path ++ codes "/.mix" = search rules in
    let start : string_bytes c.in_ok-path.path ≡ c.args.dir.now = search rules in
    let text : c.in-Ok.digits.now ≡ c.put_hex.new.buf = search rules in
    let digits : c.put_hex.new.buf ≡ digits_in 16 8 c.args.number =
    c.put_hex.ensures.text ∙ whole-written _ (digits_in 16 8 c.from.result) (length-digits_in 16 8 c.from.result) ∙ ap (digits_in 16 8) c.from.ensures in
    whole ∙ (λ i. (front ∙ ap (λ l. l ++ codes "/.mix") start) i ++ (text ∙ digits) i) ∙ append_assoc c.args.dir.now (codes "/.mix") (digits_in 16 8 c.args.number)
