use Rattle.std.proofs.Common.{rules, ◌<◌, ◌^◌, refl, sym, subst, arith}
use Rattle.std.specs.List.{AllByRecursion}
use Rattle.mbx_store.specs.Places.{IsNear}
use Rattle.mbx_store.proofs.ScanCode.{scan_start, scan_read, read_so_far, read_none, scan_next, scan_stop, scan_end, read_more, near_more, place_found, place_near, few_none, few_more}
use Rattle.mbx_store.proofs.OnFile.{file_weaker}
use Rattle.mbx_store.proofs.scan.scan_records.Goals as goal

pub loop-scan-init : goal.loop-scan-init
loop-scan-init g c = record {
  found = scan_start c.args.names c.args.path.now _ _ _ _ c.new-scan.ensures.at c.new-scan.ensures.places c.new-scan.ensures.infos;
  few = few_none _ _ c.new-scan.ensures.at c.new-scan.ensures.places;
  near = subst (AllByRecursion IsNear) (sym c.new-scan.ensures.places) tt;
  history = search rules;
  counts = search rules;
  file = search rules;
  read = read_none _ _ _;
}

pub returns-in_err-head-clause-reads : goal.returns-in_err-head-clause-reads
returns-in_err-head-clause-reads g c =
    scan_read c.args.names c.args.path.now c.loop-scan.scan.at _ _ _ c.loop-scan.scan.places.items c.loop-scan.scan.infos.items _ _ c.loop-scan.invariant.history c.loop-scan.invariant.found c.loop-scan.invariant.read c.next_record.ensures.reads

pub returns-in_default-clause-refused : goal.returns-in_default-clause-refused
returns-in_default-clause-refused g c =
    file_weaker _ _ c.args.path.now (λ bytes stopped. (refl, stopped)) _
    (scan_stop c.args.names c.args.path.now c.loop-scan.scan.at c.args.long c.len.result c.loop-scan.scan.places.items c.loop-scan.scan.infos.items _ _ _ c.loop-scan.invariant.history c.loop-scan-test.true (search rules) c.requires.file
    c.loop-scan.invariant.found c.in_ok-head.ensures.record c.in_default.is)

pub returns-in_default-clause-reads : goal.returns-in_default-clause-reads
returns-in_default-clause-reads g c =
    scan_read c.args.names c.args.path.now c.loop-scan.scan.at _ _ _ c.loop-scan.scan.places.items c.loop-scan.scan.infos.items _ _ c.loop-scan.invariant.history c.loop-scan.invariant.found c.loop-scan.invariant.read c.next_record.ensures.reads

pub overflow_cast-result : goal.overflow_cast-result
overflow_cast-result g c = let few : c.len.result < 2 ^ 32 = omega (arith, c.len.ensures, c.loop-scan.invariant.few, c.loop-scan-test.true, c.requires.short) in search rules

pub loop-scan-preserved : goal.loop-scan-preserved
loop-scan-preserved g c = record {
  found = scan_next c.args.names c.args.path.now c.loop-scan.scan.at c.args.long c.loop-scan.scan.places.items _ c.loop-scan.scan.infos.items _ _ _ c.in-Some.head c.in-Some.place _ _ c.loop-scan.invariant.history c.loop-scan-test.true
      c.requires.file c.loop-scan.invariant.found c.in_ok-head.ensures.record c.in-Some.is c.in_ok-take.ensures.at c.in_ok-take.ensures.places c.in_ok-take.ensures.infos;
  few = few_more _ _ c.loop-scan.scan.at _ c.args.long c.in-Some.head c.in-Some.place c.loop-scan.invariant.few (place_found _ _ _ _ _ c.in_ok-head.ensures.place c.in-Some.is) c.in_ok-take.ensures.at c.in_ok-take.ensures.places;
  near = subst (AllByRecursion IsNear) (sym c.in_ok-take.ensures.places) (near_more _ c.in-Some.place c.loop-scan.invariant.near (place_near _ c.args.long _ _ c.requires.short (place_found _ _ _ _ _ c.in_ok-head.ensures.place c.in-Some.is)));
  history = search rules;
  counts = search rules;
  file = search rules;
  read = read_more _ _ _ _ _ c.in-Some.place _ _ c.loop-scan.invariant.history c.loop-scan.invariant.read c.next_record.ensures.reads c.in_ok-take.ensures.places;
}

pub returns-in_err-take-clause-reads : goal.returns-in_err-take-clause-reads
returns-in_err-take-clause-reads g c =
    scan_read c.args.names c.args.path.now c.loop-scan.scan.at _ _ _ c.loop-scan.scan.places.items c.loop-scan.scan.infos.items _ _ c.loop-scan.invariant.history c.loop-scan.invariant.found c.loop-scan.invariant.read c.next_record.ensures.reads

pub returns-clause-records : goal.returns-clause-records
returns-clause-records g c =
    scan_end c.args.names c.args.path.now c.loop-scan.scan.at c.args.long c.loop-scan.scan.places.items c.loop-scan.scan.infos.items _ (omega (arith, c.loop-scan-test.false)) c.requires.file c.loop-scan.invariant.found

pub returns-clause-reads : goal.returns-clause-reads
returns-clause-reads g c =
    scan_read c.args.names c.args.path.now c.loop-scan.scan.at _ _ _ c.loop-scan.scan.places.items c.loop-scan.scan.infos.items _ _ c.loop-scan.invariant.history c.loop-scan.invariant.found c.loop-scan.invariant.read (read_so_far _ _)
