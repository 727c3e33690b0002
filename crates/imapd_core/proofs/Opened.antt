-- A session is opened: INBOX is made where nothing stands, and nothing is said.
use Rattle.std.proofs.Common.{◌≡◌, ◌≤◌, ◌+◌, ◌-◌, ◌%◌, ℕ, List, [], true, None, refl, sym, ◌∙◌, ap, subst, arith}
use Rattle.std.specs.Prelude.{codes}
use Rattle.std.proofs.lemmas.List.{append-nil}
use Rattle.file_model.specs.Disk.{Disk, seen}
use Rattle.file_model.specs.Histories.{World, History, Now, Ran, Ended, Passed}
use Rattle.file_model.specs.Images.{is_directory, directory_test}
use Rattle.file_model.specs.Kept.{MayMake}
use Rattle.file_model.proofs.Passes.{ran_passed, ran_arrived, arrived_with}
use Rattle.file_model.proofs.Paths.{child_apart}
use Rattle.file_model.proofs.Runs.{now_both}
use Rattle.store_trait.specs.Views.{View}
use Rattle.any_store.specs.Choice.{Formats}
use Rattle.mail_tree.specs.Trees.{Tree}
use Rattle.mail_tree.proofs.Nodes.{AreFormats}
use Rattle.session_loop.specs.Instants.{Answering, HasAnswered, Opened}
use Rattle.session_loop.proofs.Saying.{first_none}
use Rattle.imap_session.specs.declared.session.Session.{Session}
use Rattle.imap_session.specs.Protocol.{protocol}
use Rattle.imap_session.specs.Standing.{StandsFor, IsSelection}
use Rattle.imapd_core.specs.Opening.{IsMade, IsNew, NoUnits}
use Rattle.imapd_core.specs.Runs.{inbox_of, state_of, HasMailboxes}
use Rattle.imapd_core.proofs.FirstTree.{tree_same, inbox_same}
use Rattle.imapd_core.proofs.InboxMade.{there_ran}
use Rattle.imapd_core.proofs.Mixes.{left_mix, alike_made}

first_fresh : (moment : ℕ) → 1 ≤ moment → moment ≤ 4294967295 → moment ≡ (moment + 0 - 1) % 4294967295 + 1
first_fresh moment some few = omega arith

module _ (formats : Formats) (laws : AreFormats formats) (root : List ℕ) (moment : ℕ) (tree : Tree) where
  abbrev BeginsSo : World → Type 0
  BeginsSo w = HasMailboxes formats root tree (seen w.disk)

  opening_instant : (a w : World) → BeginsSo a → w.streams ≡ a.streams → MayMake (inbox_of root) a.disk w.disk → Answering (protocol formats) (state_of root moment tree) NoUnits a w
  opening_instant a w has quiet here = record {
    heard = ap (λ t. t.heard) quiet;
    ended = ap (λ t. t.ended) quiet;
    turns = ap (λ t. t.turns) quiet;
    part = [];
    is_said = ap (λ t. t.said) quiet ∙ sym (append-nil a.streams.said);
    is_part = first_none (protocol formats).says [];
    crash = λ alike image left. record {
      done = [];
      are_done = record { rest = []; is_whole = refl };
      are_said = first_none (protocol formats).says [];
      agreed = left_mix formats laws root tree a.disk has alike image (here.each image left);
    };
  }

  pub opening_passed : (old new : History) → Now old BeginsSo → Ran (MayMake (inbox_of root)) old new → Passed (Answering (protocol formats) (state_of root moment tree) NoUnits) old new
  opening_passed old new now run = ran_passed BeginsSo (MayMake (inbox_of root)) (Answering (protocol formats) (state_of root moment tree) NoUnits) opening_instant old new now run

  -- no file was called
  pub unopened_passed : (old new : History) → new ≡ old → Now old BeginsSo → Passed (Answering (protocol formats) (state_of root moment tree) NoUnits) old new
  unopened_passed old new same now = opening_passed old new now (there_ran (inbox_of root) old new same)

  module _ {S : Type 0} (view : S → View) (session : Session S) (new : IsNew root moment session) where
    stands_new : (a b : Disk) → HasMailboxes formats root tree (seen a) → is_directory (seen a) root ≡ true → IsMade (inbox_of root) a b → StandsFor formats view session b (state_of root moment tree)
    stands_new a b has stands made = record {
      root = new.root_is;
      moment = new.moment_is;
      some = new.some;
      fresh_is = new.fresh_is ∙ first_fresh moment new.some new.few;
      some_root = new.some_root;
      stands = ap directory_test (made.elsewhere.each root (λ same. child_apart root (codes "INBOX") same)) ∙ stands;
      tree = tree_same formats laws root has.made (seen b)
          (inbox_same formats laws root (seen a) has.made (seen b) has.has_inbox (record { inbox = made.inbox; elsewhere = λ q apart. made.elsewhere.each q apart })) tree has.has_tree;
      selected = subst (λ o. IsSelection formats view (state_of root moment tree) o (seen b) None) (sym new.none) tt;
    }

    opened_here : (a b : World) → BeginsSo a × (is_directory (seen a.disk) root ≡ true) → (b.streams ≡ a.streams) × IsMade (inbox_of root) a.disk b.disk
        → HasAnswered (protocol formats) (StandsFor formats view session) (state_of root moment tree) NoUnits a b
    opened_here a b begins here = record {
      heard = ap (λ t. t.heard) here.0;
      ended = ap (λ t. t.ended) here.0;
      turns = ap (λ t. t.turns) here.0;
      bytes = [];
      are_said = refl;
      said = ap (λ t. t.said) here.0 ∙ sym (append-nil a.streams.said);
      is_state = stands_new a.disk b.disk begins.0 begins.1 here.1;
      still_alike = λ alike. alike_made formats laws root tree a.disk begins.0 alike b.disk here.1;
    }

    pub opening_opened : (old mid : History) → Now old (λ w. is_directory (seen w.disk) root ≡ true) → Now old BeginsSo → Ran (MayMake (inbox_of root)) old mid → Ended (IsMade (inbox_of root)) old mid
        → Opened (protocol formats) (StandsFor formats view session) (state_of root moment tree) old mid
    opening_opened old mid stands now run ended = record {
      instants = opening_passed old mid now run;
      here = arrived_with (λ w. BeginsSo w × (is_directory (seen w.disk) root ≡ true)) (λ a b. (b.streams ≡ a.streams) × IsMade (inbox_of root) a.disk b.disk)
          (HasAnswered (protocol formats) (StandsFor formats view session) (state_of root moment tree) NoUnits) opened_here old mid
          (now_both BeginsSo (λ w. is_directory (seen w.disk) root ≡ true) old now stands)
          (ran_arrived (MayMake (inbox_of root)) (IsMade (inbox_of root)) old mid run ended);
    }
