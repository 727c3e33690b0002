use Rattle.std.proofs.Common.{◌≡◌, ◌≢◌, ◌≤◌, ◌+◌, arith, sym, ◌∙◌, subst, rules, refl}
use Rattle.file_model.specs.Disk.{seen}
use Rattle.file_model.specs.Histories.{Now}
use Rattle.file_model.specs.Images.{node_at, nothing}
use Rattle.file_model.proofs.Runs.{now_weaker}
use Rattle.mail_types.specs.declared.driver.Driver.TheVariants.{Unix as UnixDriver, Mbx as MbxDriver, Mix}
use Rattle.store_trait.specs.Forms.{grammar_of}
use Rattle.store_trait.specs.Meaning.{IsOfKind}
use Rattle.store_trait.specs.Promises.{Opens, RefusesOpen}
use Rattle.file_store.specs.Scans.{NoneEnough}
use Rattle.any_store.specs.Choice.{front_length}
use Rattle.any_store.specs.Laws.{shares_unix, shares_mbx}
use Rattle.any_store.specs.Stores.{no_forms, unix_forms, mbx_forms, all_forms, unix_view, mbx_view}
use Rattle.any_store.proofs.Chosen.{found_as, chosen_stands, opens_any, refuses_any, reads_any, shares_unknown}
use Rattle.any_store.proofs.any.AnyStoreAnyMailbox.open.Goals as goal

pub refuse-requires : goal.refuse-requires
refuse-requires g c =
    let old = g.F.Files.history c.args.files.now in
    let mid = g.F.Files.history c.look_for.new.files in
    let path = c.args.path.now in
    let is = found_as c.in_ok-driver.field-0 c.in-Some.driver c.in-Some.driver path old c.in_ok-driver.ensures.found c.in-Some.is refl in
    let both = subst (λ h. Now h (λ w. (node_at (seen w.disk) path ≢ nothing) × IsOfKind c.in-Some.driver path (seen w.disk))) (sym c.in_ok-driver.ensures.history) (chosen_stands path c.in-Some.driver old is) in
    record { stands = now_weaker _ (λ w. node_at (seen w.disk) path ≢ nothing) (λ w b. b.0) mid both; kind = now_weaker _ (λ w. IsOfKind c.in-Some.driver path (seen w.disk)) (λ w b. b.1) mid both }

pub returns-in-Ok-clause-opened : goal.returns-in-Ok-clause-opened
returns-in-Ok-clause-opened g c =
    let old = g.F.Files.history c.args.files.now in
    let path = c.args.path.now in
    let d = UnixDriver in
    let is = found_as c.in_ok-driver.field-0 c.in-Some.driver d path old c.in_ok-driver.ensures.found c.in-Some.is c.in-Unix.is in
    let shares = shares_unix d refl in
    let view = unix_view c.in-Ok.store in
    opens_any unix_forms all_forms d shares path old is view c.args.fresh c.in-Ok.ensures.made
    (subst (λ h. Opens (grammar_of unix_forms d path) d path view c.args.fresh h) c.in_ok-driver.ensures.history c.in-Ok.ensures.opened)

pub returns-in-Err-clause-refused : goal.returns-in-Err-clause-refused
returns-in-Err-clause-refused g c =
    let old = g.F.Files.history c.args.files.now in
    let path = c.args.path.now in
    let d = UnixDriver in
    let is = found_as c.in_ok-driver.field-0 c.in-Some.driver d path old c.in_ok-driver.ensures.found c.in-Some.is c.in-Unix.is in
    let shares = shares_unix d refl in
    refuses_any unix_forms all_forms d shares path old is c.in-Err.fault (subst (λ h. RefusesOpen (grammar_of unix_forms d path) d path c.in-Err.fault h) c.in_ok-driver.ensures.history c.in-Err.ensures.refused)

pub returns-in-Ok-open-clause-opened : goal.returns-in-Ok-open-clause-opened
returns-in-Ok-open-clause-opened g c =
    let old = g.F.Files.history c.args.files.now in
    let path = c.args.path.now in
    let d = MbxDriver in
    let is = found_as c.in_ok-driver.field-0 c.in-Some.driver d path old c.in_ok-driver.ensures.found c.in-Some.is c.in-Mbx.is in
    let shares = shares_mbx d refl in
    let view = mbx_view c.in-Ok-open.store in
    opens_any mbx_forms all_forms d shares path old is view c.args.fresh c.in-Ok-open.ensures.made
    (subst (λ h. Opens (grammar_of mbx_forms d path) d path view c.args.fresh h) c.in_ok-driver.ensures.history c.in-Ok-open.ensures.opened)

pub returns-in-Err-open-clause-refused : goal.returns-in-Err-open-clause-refused
returns-in-Err-open-clause-refused g c =
    let old = g.F.Files.history c.args.files.now in
    let path = c.args.path.now in
    let d = MbxDriver in
    let is = found_as c.in_ok-driver.field-0 c.in-Some.driver d path old c.in_ok-driver.ensures.found c.in-Some.is c.in-Mbx.is in
    let shares = shares_mbx d refl in
    refuses_any mbx_forms all_forms d shares path old is c.in-Err-open.fault (subst (λ h. RefusesOpen (grammar_of mbx_forms d path) d path c.in-Err-open.fault h) c.in_ok-driver.ensures.history c.in-Err-open.ensures.refused)

pub returns-in-Ok-open-clause-reads : goal.returns-in-Ok-open-clause-reads
returns-in-Ok-open-clause-reads g c =
    let old = g.F.Files.history c.args.files.now in
    let path = c.args.path.now in
    let d = MbxDriver in
    let is = found_as c.in_ok-driver.field-0 c.in-Some.driver d path old c.in_ok-driver.ensures.found c.in-Some.is c.in-Mbx.is in
    let shares = shares_mbx d refl in
    reads_any mbx_forms all_forms d shares (λ mix. let e : MbxDriver ≡ Mix = mix in absurd (cc)) NoneEnough (λ path image n. ⊥) path old (g.F.Files.history c.look_for.new.files)
    (g.F.Files.faults c.args.files.now).read (g.F.Files.faults c.look_for.new.files).read (g.F.Files.faults c.open-in-Mbx.new.files).read c.in_ok-driver.ensures.history is c.in_ok-driver.ensures.reads c.in-Ok-open.ensures.reads

pub returns-in-Err-open-clause-reads : goal.returns-in-Err-open-clause-reads
returns-in-Err-open-clause-reads g c =
    let old = g.F.Files.history c.args.files.now in
    let path = c.args.path.now in
    let d = MbxDriver in
    let is = found_as c.in_ok-driver.field-0 c.in-Some.driver d path old c.in_ok-driver.ensures.found c.in-Some.is c.in-Mbx.is in
    let shares = shares_mbx d refl in
    reads_any mbx_forms all_forms d shares (λ mix. let e : MbxDriver ≡ Mix = mix in absurd (cc)) NoneEnough (λ path image n. ⊥) path old (g.F.Files.history c.look_for.new.files)
    (g.F.Files.faults c.args.files.now).read (g.F.Files.faults c.look_for.new.files).read (g.F.Files.faults c.open-in-Mbx.new.files).read c.in_ok-driver.ensures.history is c.in_ok-driver.ensures.reads c.in-Err-open.ensures.reads

pub returns-in-Err-refuse : goal.returns-in-Err-refuse
returns-in-Err-refuse g c =
    let old = g.F.Files.history c.args.files.now in
    let path = c.args.path.now in
    let d = c.in-Some.driver in
    let is = found_as c.in_ok-driver.field-0 d d path old c.in_ok-driver.ensures.found c.in-Some.is refl in
    let same = c.in-Err-refuse.ensures.read in
    record {
      refused = refuses_any no_forms all_forms d (shares_unknown d c.in_default.not-Unix c.in_default.not-Mbx) path old is c.in-Err-refuse.fault
          (subst (λ h. RefusesOpen (grammar_of no_forms d path) d path c.in-Err-refuse.fault h) c.in_ok-driver.ensures.history c.in-Err-refuse.ensures.refused);
      none = tt;
      opened = tt;
      made = tt;
      history = c.in-Err-refuse.ensures.history ∙ c.in_ok-driver.ensures.history;
      cause = search rules;
      reads = λ n driver. now_weaker (λ w. (g.F.Files.faults c.look_for.new.files).read ≤ (g.F.Files.faults c.args.files.now).read + front_length) _ (λ w few at enough. omega (arith, few, same)) old c.in_ok-driver.ensures.reads;
    }
