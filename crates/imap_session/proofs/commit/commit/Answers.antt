use Rattle.std.proofs.Common.{sym, subst, Err}
use Rattle.any_store.specs.Choice.{formats_of, chosen}
use Rattle.session_loop.specs.Outcome.{UnitCause}
use Rattle.imap_session.proofs.Committing.{commits_instants, commits_done, stop_cause}
use Rattle.imap_session.proofs.commit.commit.Goals as goal

pub returns-in-Ok-clause-commits : goal.returns-in-Ok-clause-commits
returns-in-Ok-clause-commits g c state s recent here =
    let formats = formats_of g.S.Store.forms chosen in
    let was = g.S.Store.view c.args.store.now in
    let is = g.S.Store.view c.change_mailbox.new.store in
    record {
      instants = commits_instants formats state s recent c.args.change.now was is c.change_mailbox.result _ _ here c.change_mailbox.ensures.leaves.files c.change_mailbox.ensures.commits_tree;
      done = commits_done formats state s recent c.args.change.now was is _ _ here c.in-Ok.ensures.leaves c.in-Ok.ensures.follows c.in-Ok.ensures.commits_tree;
    }

pub returns-in-Err-clause-commits : goal.returns-in-Err-clause-commits
returns-in-Err-clause-commits g c state s recent here =
    let formats = formats_of g.S.Store.forms chosen in
    let was = g.S.Store.view c.args.store.now in
    let is = g.S.Store.view c.change_mailbox.new.store in
    record {
      instants = commits_instants formats state s recent c.args.change.now was is c.change_mailbox.result _ _ here c.change_mailbox.ensures.leaves.files c.change_mailbox.ensures.commits_tree;
      done = tt;
    }

pub returns-in-Err-clause-cause : goal.returns-in-Err-clause-cause
returns-in-Err-clause-cause g c =
    subst (λ stop. UnitCause (g.F.Files.faults c.args.files.now) (g.F.Files.faults c.change_mailbox.new.files) (Err stop)) (sym c.stop_of.ensures) (stop_cause _ _ _ c.in-Err.ensures.cause)
