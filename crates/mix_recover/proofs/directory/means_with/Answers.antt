use Rattle.std.proofs.Common.{◌≡◌, sym, subst, map}
use Rattle.file_model.specs.Disk.{seen}
use Rattle.file_model.specs.Histories.{Now}
use Rattle.mix_data.specs.DataFiles.{data_files_at}
use Rattle.mix_recover.specs.Listings.{file_scan_parts, scans_of}
use Rattle.mix_recover.proofs.Together.{passed_on}
use Rattle.mix_recover.proofs.Meant.{refuse_texts, means_found, means_refused}
use Rattle.mix_recover.proofs.directory.means_with.Goals as goal

pub returns-in_err-texts-clause-refused : goal.returns-in_err-texts-clause-refused
returns-in_err-texts-clause-refused g c =
    passed_on c.from_residual.result c.in_err-texts.field-0.0 _ c.from_residual.ensures.1
    (refuse_texts c.args.dir.now _ _ c.in_err-texts.ensures.refused)

pub returns-clause-found : goal.returns-clause-found
returns-clause-found g c =
    means_found c.args.dir.now c.in_ok-texts.texts c.as_slice.result.now c.in_ok-texts.ensures.metadata c.in_ok-texts.ensures.index c.in_ok-texts.ensures.statuses _ c.read_together.result
    c.in_ok-texts.ensures.texts
    (subst (λ h. Now h (λ w. map file_scan_parts c.as_slice.result.now ≡ scans_of (data_files_at (seen w.disk) c.args.dir.now))) c.read_texts.ensures.history
    (subst (λ l. Now (g.F.Files.history c.read_texts.new.files) (λ w. map file_scan_parts l ≡ scans_of (data_files_at (seen w.disk) c.args.dir.now))) (sym c.as_slice.ensures.value) c.in_ok-scans.ensures.scans)) c.requires.short c.read_together.ensures.ok

pub returns-clause-refused : goal.returns-clause-refused
returns-clause-refused g c =
    means_refused c.args.dir.now c.in_ok-texts.texts c.as_slice.result.now c.in_ok-texts.ensures.metadata c.in_ok-texts.ensures.index c.in_ok-texts.ensures.statuses _ c.read_together.result
    c.in_ok-texts.ensures.texts
    (subst (λ h. Now h (λ w. map file_scan_parts c.as_slice.result.now ≡ scans_of (data_files_at (seen w.disk) c.args.dir.now))) c.read_texts.ensures.history
    (subst (λ l. Now (g.F.Files.history c.read_texts.new.files) (λ w. map file_scan_parts l ≡ scans_of (data_files_at (seen w.disk) c.args.dir.now))) (sym c.as_slice.ensures.value) c.in_ok-scans.ensures.scans)) c.requires.short c.read_together.ensures.err
