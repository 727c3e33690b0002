use Rattle.std.proofs.Common.{false, length, sym}
use Rattle.std.proofs.lemmas.Bool.{eqb-true}
use Rattle.unix_layout.proofs.FilesFound.{empty_read, no_bytes}
use Rattle.unix_layout.proofs.Runs.{ended_none}
use Rattle.unix_layout.proofs.file.read_clean.Goals as goal

pub read_behind-requires-clause-begins : goal.read_behind-requires-clause-begins
read_behind-requires-clause-begins c = (ended_none c.args.text.now (eqb-true (length c.args.text.now) 0 (sym c.if-is_empty.ensures))).loose

pub returns-then-is_empty-clause-found : goal.returns-then-is_empty-clause-found
returns-then-is_empty-clause-found c =
    let found = c.in_ok-read_behind.field-0 in
    empty_read c.args.text.now (no_bytes c.args.text.now (eqb-true (length c.args.text.now) 0 (sym c.if-is_empty.ensures))) found.found found.texts.items (c.in_ok-read_behind.ensures.says false) c.in_ok-read_behind.ensures.sized
