-- The top call's clauses, from the loop's.
use Rattle.std.proofs.Common.{◌≡◌, ◌≤◌, ◌^◌, ◌++◌, ◌⊎◌, inl, inr, ℕ, Bool, true, false, List, [], ◌∷◌, length, take, refl, sym, ◌∙◌, ap, subst}
use Rattle.std.proofs.lemmas.Bool.{false≢true}
use Rattle.std.proofs.lemmas.List.{append-nil}
use Rattle.std.specs.FinMap.{empty}
use Rattle.std.specs.List.{Contains}
use Rattle.file_model.specs.Arrived.{Arrived, worlds_since, heard_since}
use Rattle.file_model.specs.Disk.{MayLeave, seen}
use Rattle.file_model.specs.Histories.{World, History, Now, Passed, instant}
use Rattle.file_model.specs.Images.{Image, is_directory}
use Rattle.file_model.specs.Kept.{IsAtRest, IsSound, NonePending}
use Rattle.file_model.proofs.Passes.{passed_none, passed_weaker}
use Rattle.file_model.proofs.Runs.{now_all}
use Rattle.any_store.specs.Laws.{any_reads, any_is_choice}
use Rattle.any_store.specs.Stores.{view_of}
use Rattle.any_store.specs.declared.any.AnyStore.{AnyStore}
use Rattle.mail_tree.specs.Agreement.{IsTreeAlike}
use Rattle.mail_tree.specs.Trees.{Tree}
use Rattle.mail_tree.proofs.Nodes.{AreFormats}
use Rattle.session_loop.specs.declared.end.End.{End}
use Rattle.session_loop.specs.declared.end.End.TheVariants.{Done, Cut, Long, HearFault, SayFault, FileFault, Memory}
use Rattle.session_loop.specs.Headline.{SaysReplies, IsBounded, IsServed, Survives}
use Rattle.session_loop.specs.Instants.{Answering, Serving, Opened}
use Rattle.session_loop.specs.Outcome.{IsFault, IsLong, regular_end}
use Rattle.session_loop.specs.Machine.{is_over}
use Rattle.session_loop.proofs.Headline.{said_since_each, bounded_since, crash_since}
use Rattle.session_loop.proofs.Instants.{opening_instant}
use Rattle.imap_grammar.specs.declared.unit.Unit as client
use Rattle.imap_grammar.specs.Units.{units_of}
use Rattle.imap_grammar.proofs.Feeds.{units_first}
use Rattle.raw_commands.proofs.Pieces.{units_first as raw_first}
use Rattle.imap_session.specs.declared.session.Session.{Session}
use Rattle.imap_session.specs.Laws.{kept, says_something}
use Rattle.imap_session.specs.Protocol.{protocol}
use Rattle.imap_session.specs.Standing.{StandsFor}
use Rattle.imap_session.specs.State.{State}
use Rattle.imapd_core.specs.declared.server.Status.TheVariants.{Long as Status-Long}
use Rattle.imapd_core.specs.Opening.{NoUnits}
use Rattle.imapd_core.specs.Promises.{IsServedAs, Keeps, CanRestart, IsSettled, NamesRoot}
use Rattle.imapd_core.specs.Runs.{formats, state_of, first_state, Run, HasMailboxes, OfRun, AfterEachCrash}
use Rattle.imapd_core.specs.Statuses.{status_of_end, WasServed, regular_status}
use Rattle.imapd_core.proofs.FirstTree.{has_mailboxes}
use Rattle.imapd_core.proofs.Mixes.{rest_alike, finds_mix}

-- the laws of all drivers
pub laws : AreFormats formats
laws = record { choice = any_is_choice; reads = any_reads }

-- ---- Runs

-- what holds for each tree that the directory has
pub of_runs : (words : List (List ℕ)) (moment : ℕ) (old : History) (P : Run → Type 0)
    → ((root : List ℕ) → words ≡ root ∷ [] → (tree : Tree) → Now old (λ w. HasMailboxes formats root tree (seen w.disk)) → Now old (λ start. P (record { root = root; moment = moment; tree = tree; start = start })))
    → OfRun formats words moment old P
of_runs words moment [] P holds root are = tt
of_runs words moment (start ∷ past) P holds root are = λ tree has. holds root are tree has

pub one_word : (a b : List ℕ) → a ∷ [] ≡ b ∷ [] → a ≡ b
one_word a b is = cc

pub of_root : (root : List ℕ) (moment : ℕ) (old : History) (P : Run → Type 0)
    → ((tree : Tree) → Now old (λ w. HasMailboxes formats root tree (seen w.disk)) → Now old (λ start. P (record { root = root; moment = moment; tree = tree; start = start })))
    → OfRun formats (root ∷ []) moment old P
of_root root moment old P holds = of_runs (root ∷ []) moment old P (λ r are. subst
    (λ z. (tree : Tree) → Now old (λ w. HasMailboxes formats z tree (seen w.disk)) → Now old (λ start. P (record { root = z; moment = moment; tree = tree; start = start }))) (one_word root r are) holds)

-- the directory has a tree
pub of_some : (root : List ℕ) (old : History) (Q : World → Type 0) → ((tree : Tree) → Now old (λ w. HasMailboxes formats root tree (seen w.disk)) → Now old Q) → Now old Q
of_some root [] Q holds = tt
of_some root (start ∷ past) Q holds = let t = has_mailboxes formats laws root (seen start.disk) in holds t.0 t.1

-- ---- Instants

abbrev pub CrashSince : State → History → History → World → Type 0
CrashSince state old new start = (world : World) → Contains (worlds_since (instant old) new) world → (image : Image) → MayLeave world.disk image → (k : ℕ)
    → Survives (protocol formats) state start world image (take k world.streams.said)

abbrev pub KeepsSince : Run → History → History → Type 0
KeepsSince run old new = (world : World) → Contains (worlds_since (instant old) new) world → (image : Image) → MayLeave world.disk image → (count : ℕ) → world.streams.surely_said ≤ count
    → Keeps formats run world image (take count world.streams.said)

-- at rest the mix mailboxes are alike in every image
pub keeps_since : (root : List ℕ) (moment : ℕ) (tree : Tree) (old new : History) → Now old (λ w. IsSound w.disk) → Now old (λ w. HasMailboxes formats root tree (seen w.disk))
    → Now old (λ start. IsTreeAlike formats root tree start.disk → CrashSince (state_of root moment tree) old new start)
    → Now old (λ start. IsAtRest start.disk → KeepsSince (record { root = root; moment = moment; tree = tree; start = start }) old new)
keeps_since root moment tree [] new sound has holds = tt
keeps_since root moment tree (start ∷ past) new sound has holds = λ rest world among image left count surely. holds (rest_alike formats laws root tree start.disk rest sound has) world among image left count

-- at rest no directory operation is pending
pub rest_pending : (root : List ℕ) (moment : ℕ) (tree : Tree) (old new : History) → ((run : Run) → run.root ≡ root → Now old (λ w. NonePending w.disk) → IsSettled old new run)
    → Now old (λ start. IsAtRest start.disk → IsSettled old new (record { root = root; moment = moment; tree = tree; start = start }))
rest_pending root moment tree [] new settled = tt
rest_pending root moment tree (start ∷ past) new settled = λ rest. settled (record { root = root; moment = moment; tree = tree; start = start }) refl (record { none_pending = rest.none_pending })

-- of a run that answers no unit
module _ (root : List ℕ) (moment : ℕ) (tree : Tree) (old new : History) (run : Passed (Answering (protocol formats) (state_of root moment tree) NoUnits) old new) where
  serving : Passed (Serving (protocol formats) (state_of root moment tree)) old new
  serving = passed_weaker (Answering (protocol formats) (state_of root moment tree) NoUnits) (Serving (protocol formats) (state_of root moment tree)) (opening_instant (protocol formats) (state_of root moment tree)) old new run

  pub opening_said : Now old (λ start. (world : World) → Contains (worlds_since (instant old) new) world → SaysReplies (protocol formats) (state_of root moment tree) start world)
  opening_said = said_since_each (protocol formats) (state_of root moment tree) old new (kept formats laws) serving

  pub opening_bounded : Now old (λ start. (world : World) → Contains (worlds_since (instant old) new) world → IsBounded start world)
  opening_bounded = bounded_since (protocol formats) (state_of root moment tree) old new (kept formats laws) serving

  pub opening_crash : Now old (λ start. IsTreeAlike formats root tree start.disk → CrashSince (state_of root moment tree) old new start)
  opening_crash = crash_since (protocol formats) (state_of root moment tree) old new (kept formats laws) (says_something formats) more_units serving
    where
      more_units : (stream later : List ℕ) → (more : List client.Unit) × (units_of (stream ++ later) ≡ units_of stream ++ more)
      more_units stream later = let f = units_first stream later (raw_first stream later) in (f.more, f.are_units)

-- ---- Where a crash leads

can_restart : (run : Run) (world : World) (image : Image) (said : List ℕ) → CanRestart formats run world image said
can_restart run world image said =
    let t = has_mailboxes formats laws run.root image in
    record { tree = t.0; mailboxes = t.1; mix = λ survives agrees. finds_mix formats laws run.root t.0 image t.1 survives agrees }

pub restarts : (words : List (List ℕ)) (moment : ℕ) (old new : History) → AfterEachCrash formats words moment old new (CanRestart formats)
restarts words moment old new =
    of_runs words moment old (λ run. IsAtRest run.start.disk → (world : World) → Contains (worlds_since (instant old) new) world → (image : Image) → MayLeave world.disk image → (count : ℕ)
    → world.streams.surely_said ≤ count → CanRestart formats run world image (take count world.streams.said))
    (λ root are tree has. now_all (λ start. IsAtRest start.disk → (world : World) → Contains (worlds_since (instant old) new) world → (image : Image) → MayLeave world.disk image → (count : ℕ)
    → world.streams.surely_said ≤ count → CanRestart formats (record { root = root; moment = moment; tree = tree; start = start }) world image (take count world.streams.said))
    (λ start rest world among image left count surely. can_restart (record { root = root; moment = moment; tree = tree; start = start }) world image (take count world.streams.said)) old)

-- ---- The session

-- it stands for some state
pub some_state : (root : List ℕ) (moment : ℕ) (session : Session AnyStore) (old new : History)
    → ((tree : Tree) → Now old (λ w. HasMailboxes formats root tree (seen w.disk)) → Opened (protocol formats) (StandsFor formats view_of session) (state_of root moment tree) old new)
    → Now new (λ w. (state : State) × StandsFor formats view_of session w.disk state)
some_state root moment session old [] opened = tt
some_state root moment session [] (b ∷ more) opened = absurd (no_world (opened no_tree tt).here)
  where
    no_tree : Tree
    no_tree = record { nodes = empty; subscribed = [] }

    no_world : b ∷ more ≡ [] → ⊥
    no_world is = cc
some_state root moment session (a ∷ past) (b ∷ more) opened =
    let t = has_mailboxes formats laws root (seen a.disk) in (state_of root moment t.0, (opened t.0 t.1).here.is_state)

-- from an instant at which it stands for a state its runs begin
abbrev StandsNow : Session AnyStore → State → World → Type 0
StandsNow session state w = StandsFor formats view_of session w.disk state

pub opened_here : (session : Session AnyStore) (state : State) (h : History) → Now h (StandsNow session state) → Opened (protocol formats) (StandsFor formats view_of session) state h h
opened_here session state [] now = record { instants = passed_none _ []; here = refl }
opened_here session state (w ∷ past) now = record {
  instants = passed_none _ (w ∷ past);
  here = record { heard = refl; ended = refl; turns = refl; bytes = []; are_said = refl; said = sym (append-nil w.streams.said); is_state = now; still_alike = λ same. same };
}

-- so the loop's histories go on from there
pub goes_on : (root : List ℕ) (moment : ℕ) (session : Session AnyStore) (old mid new : History)
    → ((tree : Tree) → Now old (λ w. HasMailboxes formats root tree (seen w.disk)) → Opened (protocol formats) (StandsFor formats view_of session) (state_of root moment tree) old mid)
    → ((state : State) → Opened (protocol formats) (StandsFor formats view_of session) state mid mid → Passed (Serving (protocol formats) state) mid new)
    → (later : History) × (new ≡ later ++ mid)
goes_on root moment session old [] new opened serves = let run = serves (state_of root moment no_tree) (opened_here session (state_of root moment no_tree) [] tt) in (run.added, run.whole)
  where
    no_tree : Tree
    no_tree = record { nodes = empty; subscribed = [] }
goes_on root moment session old (b ∷ more) new opened serves =
    let s = some_state root moment session old (b ∷ more) opened in
    let run = serves s.0 (opened_here session s.0 (b ∷ more) s.1) in
    (run.added, run.whole)

-- ---- The end

not_served : {A : Type 0} (end : End) → IsFault end → WasServed (status_of_end end) → A
not_served Done fault served = absurd fault
not_served Cut fault served = absurd fault
not_served Long fault served = absurd fault
not_served HearFault fault served = absurd served
not_served SayFault fault served = absurd served
not_served FileFault fault served = absurd served
not_served Memory fault served = absurd served

regular : (logout ended : Bool) (rest : List ℕ) → status_of_end (regular_end logout ended rest) ≡ regular_status logout ended rest
regular true ended rest = refl
regular false true [] = refl
regular false true (byte ∷ rest) = refl
regular false false rest = refl

long : (end : End) (heard : List ℕ) → IsLong end heard → status_of_end end ≡ Status-Long → length heard ≡ 2 ^ 40
long Done heard is status = absurd (cc)
long Cut heard is status = absurd (cc)
long Long heard is status = is
long HearFault heard is status = absurd (cc)
long SayFault heard is status = absurd (cc)
long FileFault heard is status = absurd (cc)
long Memory heard is status = absurd (cc)

is_served_as : (session : Session AnyStore) (end : End) (run : Run) (b : World) → IsServed (protocol formats) (StandsFor formats view_of session) (first_state run) end run.start b → IsServedAs formats (status_of_end end) run b
is_served_as session end run b is = record {
  said = is.said;
  mailboxes = is.is_state.tree;
  is_status = λ open_still. ap status_of_end (is.is_end open_still) ∙ regular (is_over (protocol formats) (heard_since run.start b)) b.streams.ended ((protocol formats).unfinished (heard_since run.start b));
  is_long = long end (heard_since run.start b) is.is_long;
}

pub served_as : (session : Session AnyStore) (end : End) (root : List ℕ) (moment : ℕ) (tree : Tree) (old new : History)
    → IsFault end ⊎ Arrived (IsServed (protocol formats) (StandsFor formats view_of session) (state_of root moment tree) end) old new
    → WasServed (status_of_end end) → Now old (λ start. Arrived (λ a world. IsServedAs formats (status_of_end end) (record { root = root; moment = moment; tree = tree; start = start }) world) old new)
served_as session end root moment tree [] new served was = tt
served_as session end root moment tree (a ∷ past) new (inl fault) was = not_served end fault was
served_as session end root moment tree (a ∷ past) [] (inr at) was = absurd at
served_as session end root moment tree (a ∷ past) (b ∷ more) (inr at) was = is_served_as session end (record { root = root; moment = moment; tree = tree; start = a }) b at

-- ---- The words

-- where no directory stands at the one root they name none
pub names_none : (words : List (List ℕ)) (root : List ℕ) (old : History) → words ≡ root ∷ [] → Now old (λ w. is_directory (seen w.disk) root ≡ false) → Now old (λ w. NamesRoot words (w ∷ []) → ⊥)
names_none words root [] are none = tt
names_none words root (w ∷ past) are none = λ names.
    false≢true (sym none ∙ subst (λ r. is_directory (seen w.disk) r ≡ true) (one_word names.root root (sym names.one ∙ are)) names.stands)
