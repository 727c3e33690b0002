use Rattle.std.proofs.Common.{◌≡◌}
use Rattle.mime_parts.specs.Contents.{whole_message, plain_text}
use Rattle.mime_parts.proofs.Choices.{none-left, some-left, ok-map}
use Rattle.mime_parts.proofs.Headers.{media-digest, media-plain, media-read, media-unread}
use Rattle.mime_parts.proofs.header.media.Goals as goal

pub returns-then-digest : goal.returns-then-digest
returns-then-digest c = ok-map (λ m. m ≡ whole_message) _ c.bare_media.result (λ m is. media-digest c.args.digest _ m c.in_default.ensures c.if-digest.true is) c.bare_media.ensures

pub returns-in_default : goal.returns-in_default
returns-in_default c = ok-map (λ m. m ≡ plain_text) _ c.plain_text.result (λ m is. media-plain c.args.digest _ m c.in_default.ensures c.if-digest.false is) c.plain_text.ensures

pub returns-in-Some-2 : goal.returns-in-Some-2
returns-in-Some-2 c =
    media-read c.args.digest _ c.in-Some-2.media c.in-Some.value.now c.in-Some.ensures (some-left _ c.in_ok-media.field-0 c.in-Some-2.media c.in_ok-media.ensures.some c.in-Some-2.is)

pub returns-in-None : goal.returns-in-None
returns-in-None c =
    ok-map (λ m. m ≡ plain_text) _ c.plain_text-in-None.result
    (λ m is. media-unread c.args.digest _ m c.in-Some.value.now c.in-Some.ensures (none-left _ c.in_ok-media.field-0 c.in_ok-media.ensures.none c.in-None.is) is) c.plain_text-in-None.ensures
