use Rattle.std.proofs.Common.{ap, length}
use Rattle.mbx_store.proofs.Scanned.{scanned_now, no_header_now, records_refused, few_now}
use Rattle.mbx_store.proofs.layout.MbxLayoutLayout.scan.Goals as goal

pub returns-in-Ok-None-clause-refused : goal.returns-in-Ok-None-clause-refused
returns-in-Ok-None-clause-refused g c = no_header_now c.args.path.now c.in-Ok-None.field-0 _ c.in-Ok-None.ensures.header c.in-Ok-None.field-0-is

pub returns-in-Err-scan_records-clause-refused : goal.returns-in-Err-scan_records-clause-refused
returns-in-Err-scan_records-clause-refused g c =
    records_refused c.args.path.now c.in-Ok-Some.header c.in-Ok-Some.field-0 c.in-Err-scan_records.fault _ _ c.in-Ok-Some.ensures.history c.in-Ok-Some.ensures.header c.in-Ok-Some.field-0-is c.in-Err-scan_records.ensures.refused

pub returns-in-Err-scan_records-clause-reads : goal.returns-in-Err-scan_records-clause-reads
returns-in-Err-scan_records-clause-reads g c = λ n.
    few_now c.args.path.now c.in-Ok-Some.header c.in-Ok-Some.field-0 _ _ _ n _ _ c.in-Ok-Some.ensures.history c.in-Ok-Some.ensures.header c.in-Ok-Some.field-0-is c.read_front.ensures.reads c.scan_records.ensures.reads

pub returns-in-Ok-found_in-clause-scanned : goal.returns-in-Ok-found_in-clause-scanned
returns-in-Ok-found_in-clause-scanned g c =
    scanned_now c.args.path.now c.in-Ok-Some.header c.in-Ok-Some.field-0 c.in-Ok-found_in.found.0 c.in-Ok.scan.infos.items c.in-Ok-found_in.found.1 c.in-Ok.scan.places.items _ _ _
    (ap (λ l. length l) c.as_slice-names.ensures)
    c.in-Ok-Some.ensures.history c.in-Ok-Some.ensures.header c.in-Ok-Some.field-0-is c.in-Ok.ensures.records c.in-Ok-found_in.ensures.validity c.in-Ok-found_in.ensures.last c.in-Ok-found_in.ensures.words c.in-Ok-found_in.ensures.infos c.in-Ok-found_in.ensures.places

pub returns-in-Ok-found_in-clause-reads : goal.returns-in-Ok-found_in-clause-reads
returns-in-Ok-found_in-clause-reads g c = λ n.
    few_now c.args.path.now c.in-Ok-Some.header c.in-Ok-Some.field-0 _ _ _ n _ _ c.in-Ok-Some.ensures.history c.in-Ok-Some.ensures.header c.in-Ok-Some.field-0-is c.read_front.ensures.reads c.scan_records.ensures.reads

pub returns-in-Err-found_in-clause-reads : goal.returns-in-Err-found_in-clause-reads
returns-in-Err-found_in-clause-reads g c = λ n.
    few_now c.args.path.now c.in-Ok-Some.header c.in-Ok-Some.field-0 _ _ _ n _ _ c.in-Ok-Some.ensures.history c.in-Ok-Some.ensures.header c.in-Ok-Some.field-0-is c.read_front.ensures.reads c.scan_records.ensures.reads
