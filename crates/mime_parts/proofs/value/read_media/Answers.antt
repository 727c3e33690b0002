use Rattle.mime_parts.proofs.Readings.{media-unkind, media-unslashed, media-unsubkind}
use Rattle.mime_parts.proofs.value.read_media.Goals as goal

pub returns-in_default-clause-none : goal.returns-in_default-clause-none
returns-in_default-clause-none c = media-unkind c.args.value.now c.in_default.ensures

pub returns-in_default-behind-clause-none : goal.returns-in_default-behind-clause-none
returns-in_default-behind-clause-none c = let kind = c.in-Some.kind in media-unslashed c.args.value.now kind.token.now kind.rest.now c.in-Some.ensures c.in_default-behind.ensures

pub returns-in_default-next_word-clause-none : goal.returns-in_default-next_word-clause-none
returns-in_default-next_word-clause-none c =
    let kind = c.in-Some.kind in
    media-unsubkind c.args.value.now kind.token.now kind.rest.now c.in-Some.ensures c.in-Some-behind.after.now c.in-Some-behind.ensures c.in_default-next_word.ensures
