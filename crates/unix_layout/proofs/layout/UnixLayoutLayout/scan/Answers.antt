use Rattle.unix_layout.proofs.Scanning.{scanned_now}
use Rattle.unix_layout.proofs.layout.UnixLayoutLayout.scan.Goals as goal

pub returns-clause-scanned : goal.returns-clause-scanned
returns-clause-scanned g c = scanned_now (g.F.Files.history c.args.files.now) c.args.path.now c.in_ok-file.file.found c.in_ok-file.file.texts.items c.in_ok-file.ensures.scanned
