use Rattle.std.proofs.Common.{rules}
use Rattle.unix_layout.proofs.FilesFound.{some_bytes}
use Rattle.unix_layout.proofs.scan.scan_file.Goals as goal

pub front_messages-requires-clause-some : goal.front_messages-requires-clause-some
front_messages-requires-clause-some g c = some_bytes c.as_slice-in-Ok-None.result.now (search rules)
