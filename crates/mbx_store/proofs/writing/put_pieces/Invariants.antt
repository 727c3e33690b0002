use Rattle.std.proofs.Common.{◌≡◌, ◌++◌, drop}
use Rattle.file_model.specs.Causes.{OnlyFiles}
use Rattle.file_store.specs.Scans.{OfFile}
use Rattle.mbx_store.specs.Bytes.{pieces_bytes}
use Rattle.mbx_store.proofs.writing.put_pieces.Given as goal

abbrev pub invariant-loop-piece : goal.invariant-loop-piece
invariant-loop-piece g l = record {
  bytes : OfFile (g.F.Files.history l.fn.files) l.path (λ bytes. l.out.items ++ pieces_bytes bytes (drop l.piece-index l.pieces) ≡ l.fn.out.items ++ pieces_bytes bytes l.pieces);
  history : g.F.Files.history l.files ≡ g.F.Files.history l.fn.files;
  counts : OnlyFiles (g.F.Files.faults l.fn.files) (g.F.Files.faults l.files);
  file : (g.F.Files.faults l.files).file ≡ (g.F.Files.faults l.fn.files).file;
}
