use Rattle.std.proofs.Common.{sym, subst, Ok, Err}
use Rattle.any_store.specs.Choice.{formats_of, chosen}
use Rattle.session_loop.specs.Outcome.{UnitCause}
use Rattle.imap_session.specs.Committed.{CommitsUndue, StaysIfRefused}
use Rattle.imap_session.specs.Protocol.{stop_in}
use Rattle.imap_session.proofs.Committing.{commits_instants, commits_done}
use Rattle.imap_session.proofs.Dues.{says_now, acts_now, stays_undue, cause_undue}
use Rattle.imap_session.proofs.commit.commit_undue.Goals as goal

pub returns-in-Ok-clause-commits : goal.returns-in-Ok-clause-commits
returns-in-Ok-clause-commits g c state s recent here =
    let formats = formats_of g.S.Store.forms chosen in
    let was = g.S.Store.view c.args.store.now in
    let is = g.S.Store.view c.change_mailbox.new.store in
    record {
      says = says_now formats c.args.tag state s c.args.change.now was (Ok tt) _ _ c.in-Ok.ensures.answers here;
      acts = acts_now formats c.args.tag state s c.args.change.now was (Ok tt) _ _ c.in-Ok.ensures.answers here;
      instants = commits_instants formats state s recent c.args.change.now was is c.change_mailbox.result _ _ here c.change_mailbox.ensures.leaves.files c.change_mailbox.ensures.commits_tree;
      done = commits_done formats state s recent c.args.change.now was is _ _ here c.in-Ok.ensures.leaves c.in-Ok.ensures.follows c.in-Ok.ensures.commits_tree;
    }

pub returns-in-Err-clause-commits : goal.returns-in-Err-clause-commits
returns-in-Err-clause-commits g c state s recent here =
    let formats = formats_of g.S.Store.forms chosen in
    let was = g.S.Store.view c.args.store.now in
    let is = g.S.Store.view c.change_mailbox.new.store in
    subst (λ r. CommitsUndue formats c.args.tag state s recent c.args.change.now is (Err r) (g.F.Files.history c.args.files.now) (g.F.Files.history c.change_mailbox.new.files)) (sym c.refused_by_store.ensures) (record {
      says = says_now formats c.args.tag state s c.args.change.now was (Err c.in-Err.fault) _ _ c.in-Err.ensures.answers here;
      acts = acts_now formats c.args.tag state s c.args.change.now was (Err c.in-Err.fault) _ _ c.in-Err.ensures.answers here;
      instants = commits_instants formats state s recent c.args.change.now was is c.change_mailbox.result _ _ here c.change_mailbox.ensures.leaves.files c.change_mailbox.ensures.commits_tree;
      done = tt;
    })

pub returns-in-Err-clause-stays : goal.returns-in-Err-clause-stays
returns-in-Err-clause-stays g c =
    let was = g.S.Store.view c.args.store.now in
    let is = g.S.Store.view c.change_mailbox.new.store in
    subst (λ r. StaysIfRefused was is (Err r) (g.F.Files.history c.args.files.now) (g.F.Files.history c.change_mailbox.new.files)) (sym c.refused_by_store.ensures)
    (stays_undue g.S.Store.forms c.args.tag c.args.change.now was is _ _ (Err c.in-Err.fault) c.in-Err.ensures.changes c.in-Err.ensures.breaks)

pub returns-in-Err-clause-cause : goal.returns-in-Err-clause-cause
returns-in-Err-clause-cause g c =
    subst (λ r. UnitCause (g.F.Files.faults c.args.files.now) (g.F.Files.faults c.change_mailbox.new.files) (stop_in {T = Unit {0}} (Err r))) (sym c.refused_by_store.ensures)
    (cause_undue c.args.tag _ _ (Err c.in-Err.fault) c.in-Err.ensures.cause)
