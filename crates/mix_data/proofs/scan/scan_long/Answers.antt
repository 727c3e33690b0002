use Rattle.std.proofs.Common.{rules, ◌≡◌, ◌≢◌, ◌≤◌, ◌+◌, [], ◌∷◌, ◌++◌, length, refl, ap, subst, arith, length-append}
use Rattle.std.proofs.lemmas.Grind.{common_steps}
use Rattle.mix_data.specs.declared.scan.Placed.{Placed}
use Rattle.file_model.specs.Disk.{seen}
use Rattle.file_model.specs.Histories.{Now}
use Rattle.mix_data.proofs.ScanSteps.{Finds, now_start, now_step, now_whole, now_any, now_more, none_rise, rise_push, below_push}
use Rattle.std.proofs.lemmas.List.Elements.{All-push, All-same}
use Rattle.mix_data.proofs.scan.scan_long.Goals as goal

pub loop-records-init : goal.loop-records-init
loop-records-init g c = record {
  history = refl;
  within = omega arith;
  few = omega (arith, ap length c.new-records.ensures.items);
  scanned = now_start c.args.path.now _ _ c.new-records.ensures.items;
  rise = none_rise _ c.new-records.ensures.items;
  below = λ k d inside. absurd (omega (arith, inside, ap length c.new-records.ensures.items));
  uids = first_of (search rules, grind (arith, common_steps));
  hear = refl;
  say = refl;
  file = refl;
  more = omega arith;
  reads = now_any _ (g.F.Files.history c.args.files.now) (omega arith);
}

pub loop-records-preserved : goal.loop-records-preserved
loop-records-preserved g c =
    let old = c.loop-records in
    let is = old.invariant in
    let head = c.in-Some.head in
    let items : c.push.new.self.items ≡ old.records.items ++ record { head = head; place = old.place } ∷ [] = first_of (search rules, grind (arith, common_steps)) in
    let count : length c.push.new.self.items ≡ length old.records.items + 1 = omega (arith, ap length items, length-append old.records.items (record { head = head; place = old.place } ∷ [])) in
    let inside : old.place + 45 + head.size ≤ c.args.long = first_of (search rules, grind (arith, common_steps)) in
    let some : head.uid ≢ 0 = search rules in
    let size : c.from.result ≡ head.size = c.from.ensures in
    record {
      history = first_of (search rules, grind (arith, common_steps));
      within = omega (arith, inside, size);
      few = omega (arith, is.few, count);
      scanned = now_step c.args.path.now c.args.long _ old.records.items c.push.new.self.items (record { head = head; place = old.place }) old.place _ c.in_ok-head.field-0
          c.requires.stands is.scanned (subst (λ h. Now h (λ w. Finds c.args.path.now old.place c.in_ok-head.field-0 (seen w.disk))) is.history c.in_ok-head.ensures.head) c.in-Some.is items refl (omega (arith, size))
          (omega (arith, is.few, inside));
      rise = rise_push old.records.items c.push.new.self.items (record { head = head; place = old.place }) items is.rise is.below;
      below = below_push old.records.items c.push.new.self.items (record { head = head; place = old.place }) old.place _ items is.below (omega arith) (omega arith);
      uids = All-same (λ (p : Placed). p.head.uid ≢ 0) c.push.new.self.items (old.records.items ++ record { head = head; place = old.place } ∷ []) items (All-push (λ (p : Placed). p.head.uid ≢ 0) old.records.items (record { head = head; place = old.place }) is.uids some);
      hear = first_of (search rules, grind (arith, common_steps));
      say = first_of (search rules, grind (arith, common_steps));
      file = first_of (search rules, grind (arith, common_steps));
      more = first_of (search rules, grind (arith, common_steps));
      reads = now_more _ _ _ _ (length old.records.items) _ is.reads (subst (λ h. Now h (λ w. (g.F.Files.faults c.record_at.new.files).read ≤ (g.F.Files.faults old.files).read + 45)) is.history c.in_ok-head.ensures.reads) count;
    }

pub returns-clause-scan : goal.returns-clause-scan
returns-clause-scan g c =
    let old = c.loop-records in
    now_whole c.args.path.now _ old.records.items old.place c.in_ok-head.field-0 old.invariant.scanned
    (subst (λ h. Now h (λ w. Finds c.args.path.now old.place c.in_ok-head.field-0 (seen w.disk))) old.invariant.history c.in_ok-head.ensures.head) c.in_default.is
