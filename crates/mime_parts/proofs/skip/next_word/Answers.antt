use Rattle.mime_parts.proofs.Skips.{word-found, word-none}
use Rattle.mime_parts.proofs.skip.next_word.Goals as goal

pub returns-then-width-eq0 : goal.returns-then-width-eq0
returns-then-width-eq0 c =
    word-none c.args.text.now c.skip_length.result c.token_length-width.result c.skip_length.ensures.skipped c.skip_length.ensures.ends c.token_length-width.ensures.value c.if-width-eq0.true

pub returns : goal.returns
returns c =
    word-found c.args.text.now c.skip_length.result c.token_length-width.result c.skip_length.ensures.skipped c.skip_length.ensures.ends c.token_length-width.ensures.value
    c.token_length-width.ensures.within c.if-width-eq0.false
