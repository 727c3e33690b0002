use Rattle.std.proofs.Common.{rules, ◌≡◌, ◌≢◌, ◌≤◌, ◌+◌, ◌*◌, ◌∙◌, ◌++◌, [], ◌∷◌, length, map, sym, ap, subst, arith}
use Rattle.std.specs.Prelude.{slice_index, slice_index_or, All}
use Rattle.std.proofs.lemmas.Grind.{common_steps}
use Rattle.std.proofs.lemmas.List.{take_more, map-append}
use Rattle.std.proofs.lemmas.List.Elements.{All-push, All-same}
use Rattle.file_model.specs.Disk.{seen}
use Rattle.file_model.specs.Histories.{Now}
use Rattle.file_model.specs.Images.{text_at}
use Rattle.mix_data.specs.declared.scan.Placed.{Placed}
use Rattle.mix_data.specs.DataFiles.{data_path}
use Rattle.mix_data.specs.Scans.{scan_of, scan_parts}
use Rattle.mix_recover.specs.declared.scans.FileScan.{FileScan}
use Rattle.mix_data.specs.Scans.{PlacesRise}
use Rattle.mix_recover.proofs.Searches.{any_default}
use Rattle.mix_recover.proofs.Files.{scanned_more, reads_more, reads_all, short_one, numbers_up, named_now}
use Rattle.mix_recover.proofs.directory.scan_files.Goals as goal

pub returns-in_default-clause-reads : goal.returns-in_default-clause-reads
returns-in_default-clause-reads g c = reads_all c.args.dir.now c.args.numbers.now _ c.loop-number.number-index _ _ c.loop-number.invariant.reads

pub scan_file-requires : goal.scan_file-requires
scan_file-requires g c =
    let i = c.loop-number.number-index in
    let numbers = c.args.numbers.now in
    let number = slice_index numbers i in
    let path : c.as_str.result.now ≡ data_path c.args.dir.now number = c.as_str.ensures.value ∙ c.in-Ok.ensures in
    record {
      short = subst (λ h. Now h (λ w. length (text_at (seen w.disk) c.as_str.result.now) ≤ 536870912)) (sym c.loop-number.invariant.history)
          (subst (λ p. Now (g.F.Files.history c.args.files.now) (λ w. length (text_at (seen w.disk) p) ≤ 536870912)) (sym path)
          (short_one c.args.dir.now numbers _ i number c.requires.numbers (named_now c.args.dir.now _) c.loop-number-test.true (any_default numbers i 0 number c.loop-number-test.true) c.requires.short));
    }

pub returns-in-Err-Failed-clause-reads : goal.returns-in-Err-Failed-clause-reads
returns-in-Err-Failed-clause-reads g c =
    let i = c.loop-number.number-index in
    let numbers = c.args.numbers.now in
    let number = slice_index numbers i in
    let path : c.as_str.result.now ≡ data_path c.args.dir.now number = c.as_str.ensures.value ∙ c.in-Ok.ensures in
    let read : Now (g.F.Files.history c.args.files.now) (λ w. (g.F.Files.faults c.scan_file.new.files).read ≤ (g.F.Files.faults c.loop-number.files).read + 45 * (length (scan_of (text_at (seen w.disk) (data_path c.args.dir.now number))).records + 1)) =
    subst (λ p. Now (g.F.Files.history c.args.files.now) (λ w. (g.F.Files.faults c.scan_file.new.files).read ≤ (g.F.Files.faults c.loop-number.files).read + 45 * (length (scan_of (text_at (seen w.disk) p)).records + 1))) path
    (subst (λ h. Now h (λ w. (g.F.Files.faults c.scan_file.new.files).read ≤ (g.F.Files.faults c.loop-number.files).read + 45 * (length (scan_of (text_at (seen w.disk) c.as_str.result.now)).records + 1))) c.loop-number.invariant.history c.scan_file.ensures.reads) in
    reads_all c.args.dir.now numbers _ (i + 1) _ _
    (reads_more c.args.dir.now numbers _ i number _ _ _ c.requires.numbers (named_now c.args.dir.now _) c.loop-number-test.true (any_default numbers i 0 number c.loop-number-test.true) c.loop-number.invariant.reads read)

pub returns-in-Err-Memory-clause-reads : goal.returns-in-Err-Memory-clause-reads
returns-in-Err-Memory-clause-reads g c =
    let i = c.loop-number.number-index in
    let numbers = c.args.numbers.now in
    let number = slice_index numbers i in
    let path : c.as_str.result.now ≡ data_path c.args.dir.now number = c.as_str.ensures.value ∙ c.in-Ok.ensures in
    let read : Now (g.F.Files.history c.args.files.now) (λ w. (g.F.Files.faults c.scan_file.new.files).read ≤ (g.F.Files.faults c.loop-number.files).read + 45 * (length (scan_of (text_at (seen w.disk) (data_path c.args.dir.now number))).records + 1)) =
    subst (λ p. Now (g.F.Files.history c.args.files.now) (λ w. (g.F.Files.faults c.scan_file.new.files).read ≤ (g.F.Files.faults c.loop-number.files).read + 45 * (length (scan_of (text_at (seen w.disk) p)).records + 1))) path
    (subst (λ h. Now h (λ w. (g.F.Files.faults c.scan_file.new.files).read ≤ (g.F.Files.faults c.loop-number.files).read + 45 * (length (scan_of (text_at (seen w.disk) c.as_str.result.now)).records + 1))) c.loop-number.invariant.history c.scan_file.ensures.reads) in
    reads_all c.args.dir.now numbers _ (i + 1) _ _
    (reads_more c.args.dir.now numbers _ i number _ _ _ c.requires.numbers (named_now c.args.dir.now _) c.loop-number-test.true (any_default numbers i 0 number c.loop-number-test.true) c.loop-number.invariant.reads read)

pub returns-then-is_err-clause-reads : goal.returns-then-is_err-clause-reads
returns-then-is_err-clause-reads g c =
    let i = c.loop-number.number-index in
    let numbers = c.args.numbers.now in
    let number = slice_index numbers i in
    let path : c.as_str.result.now ≡ data_path c.args.dir.now number = c.as_str.ensures.value ∙ c.in-Ok.ensures in
    let read : Now (g.F.Files.history c.args.files.now) (λ w. (g.F.Files.faults c.scan_file.new.files).read ≤ (g.F.Files.faults c.loop-number.files).read + 45 * (length (scan_of (text_at (seen w.disk) (data_path c.args.dir.now number))).records + 1)) =
    subst (λ p. Now (g.F.Files.history c.args.files.now) (λ w. (g.F.Files.faults c.scan_file.new.files).read ≤ (g.F.Files.faults c.loop-number.files).read + 45 * (length (scan_of (text_at (seen w.disk) p)).records + 1))) path
    (subst (λ h. Now h (λ w. (g.F.Files.faults c.scan_file.new.files).read ≤ (g.F.Files.faults c.loop-number.files).read + 45 * (length (scan_of (text_at (seen w.disk) c.as_str.result.now)).records + 1))) c.loop-number.invariant.history c.scan_file.ensures.reads) in
    reads_all c.args.dir.now numbers _ (i + 1) _ _
    (reads_more c.args.dir.now numbers _ i number _ _ _ c.requires.numbers (named_now c.args.dir.now _) c.loop-number-test.true (any_default numbers i 0 number c.loop-number-test.true) c.loop-number.invariant.reads read)

pub returns-clause-files : goal.returns-clause-files
returns-clause-files g c = numbers_up c.args.numbers.now c.loop-number.number-index c.loop-number.scans.items c.requires.rise c.loop-number-test.false c.loop-number.invariant.numbers

pub loop-number-preserved : goal.loop-number-preserved
loop-number-preserved g c =
    let i = c.loop-number.number-index in
    let numbers = c.args.numbers.now in
    let number = slice_index numbers i in
    let old = c.loop-number in
    let is = old.invariant in
    let item : FileScan = record { number = number; scan = c.in-Ok-scan_file.scan } in
    let at : number ≡ slice_index_or numbers i number = any_default numbers i 0 number c.loop-number-test.true in
    let path : c.as_str.result.now ≡ data_path c.args.dir.now number = c.as_str.ensures.value ∙ c.in-Ok.ensures in
    let items : c.push.new.scans.items ≡ old.scans.items ++ item ∷ [] = search rules in
    let scan : Now (g.F.Files.history c.args.files.now) (λ w. scan_parts item.scan ≡ scan_of (text_at (seen w.disk) (data_path c.args.dir.now number))) =
    subst (λ p. Now (g.F.Files.history c.args.files.now) (λ w. scan_parts item.scan ≡ scan_of (text_at (seen w.disk) p))) path
    (subst (λ h. Now h (λ w. scan_parts item.scan ≡ scan_of (text_at (seen w.disk) c.as_str.result.now))) is.history c.in-Ok-scan_file.ensures.scan) in
    let read : Now (g.F.Files.history c.args.files.now) (λ w. (g.F.Files.faults c.scan_file.new.files).read ≤ (g.F.Files.faults old.files).read + 45 * (length (scan_of (text_at (seen w.disk) (data_path c.args.dir.now number))).records + 1)) =
    subst (λ p. Now (g.F.Files.history c.args.files.now) (λ w. (g.F.Files.faults c.scan_file.new.files).read ≤ (g.F.Files.faults old.files).read + 45 * (length (scan_of (text_at (seen w.disk) p)).records + 1))) path
    (subst (λ h. Now h (λ w. (g.F.Files.faults c.scan_file.new.files).read ≤ (g.F.Files.faults old.files).read + 45 * (length (scan_of (text_at (seen w.disk) c.as_str.result.now)).records + 1))) is.history c.scan_file.ensures.reads) in
    record {
      history = c.scan_file.ensures.history ∙ is.history;
      scanned = scanned_more c.args.dir.now numbers _ i old.scans.items c.push.new.scans.items item c.requires.numbers (named_now c.args.dir.now _) is.scanned c.loop-number-test.true at scan items;
      numbers = ap (map (λ (s : FileScan). s.number)) items ∙ map-append (λ (s : FileScan). s.number) old.scans.items (item ∷ []) ∙ ap (λ l. l ++ number ∷ []) is.numbers ∙ sym (take_more numbers i 0 c.loop-number-test.true);
      places = All-same (λ (s : FileScan). PlacesRise s.scan.records.items) c.push.new.scans.items (old.scans.items ++ item ∷ []) items
          (All-push (λ (s : FileScan). PlacesRise s.scan.records.items) old.scans.items item is.places c.in-Ok-scan_file.ensures.rise);
      uids = All-same (λ (s : FileScan). All (λ (p : Placed). p.head.uid ≢ 0) s.scan.records.items) c.push.new.scans.items (old.scans.items ++ item ∷ []) items
          (All-push (λ (s : FileScan). All (λ (p : Placed). p.head.uid ≢ 0) s.scan.records.items) old.scans.items item is.uids c.in-Ok-scan_file.ensures.uids);
      hear = first_of (search rules, grind (arith, common_steps));
      say = first_of (search rules, grind (arith, common_steps));
      file = first_of (search rules, grind (arith, common_steps));
      more = first_of (search rules, grind (arith, common_steps));
      reads = reads_more c.args.dir.now numbers _ i number _ _ _ c.requires.numbers (named_now c.args.dir.now _) c.loop-number-test.true at is.reads read;
    }
