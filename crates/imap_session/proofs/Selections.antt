-- What the tests that commands begin with lead to.
use Rattle.std.proofs.Common.{ℕ, List, ◌≡◌, Option, Some, None, is_some, not, Bool, true, false, refl, sym, ◌∙◌, ap, subst}
use Rattle.file_model.specs.Disk.{Disk, seen}
use Rattle.file_model.specs.Images.{Image}
use Rattle.store_trait.specs.Views.{View}
use Rattle.any_store.specs.Choice.{Formats}
use Rattle.mail_tree.specs.Changing.{IsInTree, IsStoreOf}
use Rattle.imap_reply.specs.declared.reply.Reply.TheVariants as reply
use Rattle.imap_session.specs.declared.session.Open.{Open}
use Rattle.imap_session.specs.declared.session.Session.{Session}
use Rattle.imap_session.specs.Endings.{is_read_only}
use Rattle.imap_session.specs.State.{Selected, State, Outcome, Unless, ◌>>=◌, or_leaves, only}
use Rattle.imap_session.specs.Refusals.{or_refused, unless_true, the_selected, writable}
use Rattle.imap_session.specs.Standing.{IsOpen, IsSelection, StandsFor}

-- ---- The session's selection and the state's

pub none_selected : {S : Type 0} (formats : Formats) (view : S → View) (state : State) (selected : Option (Open S)) (image : Image) (s : Option Selected)
    → IsSelection formats view state selected image s → selected ≡ None → s ≡ None
none_selected formats view state None image None is none = refl
none_selected formats view state None image (Some s) is none = absurd is
none_selected formats view state (Some o) image s is none = absurd (cc)

-- the selected mailbox of a state for which a session with an open one stands
pub record Selects {S : Type 0} (formats : Formats) (view : S → View) (state : State) (o : Open S) (image : Image) : Type 0 where
  pub s : Selected
  pub is : state.selected ≡ Some s
  pub open_is : IsOpen formats view state o image s

pub some_selected : {S : Type 0} (formats : Formats) (view : S → View) (state : State) (selected : Option (Open S)) (o : Open S) (image : Image) (s : Option Selected)
    → IsSelection formats view state selected image s → state.selected ≡ s → selected ≡ Some o → Selects formats view state o image
some_selected formats view state None o image s is same some = absurd (cc)
some_selected formats view state (Some p) o image None is same some = absurd is
some_selected {S} formats view state (Some p) o image (Some s) is same some =
    record { s = s; is = same; open_is = subst (λ q. IsOpen formats view state q image s) (one p o some) is }
  where
    one : (p o : Open S) → Some p ≡ Some o → p ≡ o
    one p o some = cc

pub selects : {S : Type 0} (formats : Formats) (view : S → View) (session : Session S) (o : Open S) (disk : Disk) (state : State)
    → StandsFor formats view session disk state → session.selected ≡ Some o → Selects formats view state o (seen disk)
selects formats view session o disk state stands some = some_selected formats view state session.selected o (seen disk) state.selected stands.selected refl some

-- what is selected stands in a state with the same root and tree
pub same_selection : {S : Type 0} (formats : Formats) (view : S → View) (state other : State) (image : Image) (o : Option (Open S)) (s : Option Selected)
    → other.root ≡ state.root → other.tree ≡ state.tree → IsSelection formats view state o image s → IsSelection formats view other o image s
same_selection formats view state other image None None root tree is = tt
same_selection formats view state other image None (Some s) root tree is = absurd is
same_selection formats view state other image (Some o) None root tree is = absurd is
same_selection formats view state other image (Some o) (Some s) root tree is = record {
  name = is.name;
  read_only = is.read_only;
  recent = is.recent;
  store = subst (λ r. IsStoreOf formats r (view o.store) image s.placed) (sym root) is.store;
  in_tree = subst (λ t. IsInTree t s.placed) (sym tree) is.in_tree;
}

-- ---- Tests, and what stands behind them

pub not_selected : (tag : List ℕ) (state : State) (go_on : Selected → Unless Outcome) → state.selected ≡ None → or_leaves state (the_selected tag state >>= go_on) ≡ only state (reply.NotSelected tag)
not_selected tag state go_on none = ap (λ sel. or_leaves state (or_refused (reply.NotSelected tag) sel >>= go_on)) none

pub is_selected : (tag : List ℕ) (state : State) (s : Selected) (go_on : Selected → Unless Outcome) → state.selected ≡ Some s → or_leaves state (the_selected tag state >>= go_on) ≡ or_leaves state (go_on s)
is_selected tag state s go_on some = ap (λ sel. or_leaves state (or_refused (reply.NotSelected tag) sel >>= go_on)) some

pub read_only_is : (tag : List ℕ) (state : State) (s : Selected) (go_on : Unit {0} → Unless Outcome) → s.read_only ≡ true → or_leaves state (writable tag s >>= go_on) ≡ only state (reply.ReadOnly tag)
read_only_is tag state s go_on is = ap (λ b. or_leaves state (unless_true (reply.ReadOnly tag) b >>= go_on)) is

pub is_writable : (tag : List ℕ) (state : State) (s : Selected) (go_on : Unit {0} → Unless Outcome) → s.read_only ≡ false → or_leaves state (writable tag s >>= go_on) ≡ or_leaves state (go_on tt)
is_writable tag state s go_on is = ap (λ b. or_leaves state (unless_true (reply.ReadOnly tag) b >>= go_on)) is

-- ---- Refusals that several commands have, by the tests that the code makes

pub unselected_refused : {S : Type 0} (formats : Formats) (view : S → View) (session : Session S) (tag : List ℕ) (go_on : State → Selected → Unless Outcome) → session.selected ≡ None
    → (disk : Disk) (state : State) → StandsFor formats view session disk state → or_leaves state (the_selected tag state >>= go_on state) ≡ only state (reply.NotSelected tag)
unselected_refused formats view session tag go_on none disk state stands = not_selected tag state (go_on state) (none_selected formats view state session.selected (seen disk) state.selected stands.selected none)

none_if : {A : Type 0} (o : Option A) (b : Bool) → is_some o ≡ not b → b ≡ true → o ≡ None
none_if None b is set = refl
none_if (Some x) b is set = absurd (true_false (is ∙ ap not set))
  where
    true_false : true ≡ false → ⊥
    true_false e = absurd (cc)

pub untold_refused : {S : Type 0} (formats : Formats) (view : S → View) (session : Session S) (tag : List ℕ) (go_on : State → Selected → Unless Outcome) (test : Bool) → is_some session.selected ≡ not test → test ≡ true
    → (disk : Disk) (state : State) → StandsFor formats view session disk state → or_leaves state (the_selected tag state >>= go_on state) ≡ only state (reply.NotSelected tag)
untold_refused formats view session tag go_on test is set = unselected_refused formats view session tag go_on (none_if session.selected test is set)

pub read_only_refused : {S : Type 0} (formats : Formats) (view : S → View) (session : Session S) (tag : List ℕ) (go_on : State → Selected → Unit {0} → Unless Outcome) → is_read_only session.selected ≡ true
    → (disk : Disk) (state : State) → StandsFor formats view session disk state → or_leaves state (the_selected tag state >>= λ s. writable tag s >>= go_on state s) ≡ only state (reply.ReadOnly tag)
read_only_refused {S} formats view session tag go_on is disk state stands = by_selection session.selected state.selected refl stands.selected is
  where
    by_selection : (o : Option (Open S)) (s : Option Selected) → state.selected ≡ s → IsSelection formats view state o (seen disk) s → is_read_only o ≡ true
        → or_leaves state (the_selected tag state >>= λ s. writable tag s >>= go_on state s) ≡ only state (reply.ReadOnly tag)
    by_selection None s at stands is = absurd (cc)
    by_selection (Some o) None at stands is = absurd stands
    by_selection (Some o) (Some s) at stands is =
        is_selected tag state s (λ s. writable tag s >>= go_on state s) at ∙ read_only_is tag state s (go_on state s) (sym stands.read_only ∙ is)

-- whether a mailbox is selected
pub some_if : {A : Type 0} (o : Option A) (b : Bool) → is_some o ≡ not b → b ≡ false → (x : A) × (o ≡ Some x)
some_if None b is unset = absurd (false_true (is ∙ ap not unset))
  where
    false_true : false ≡ true → ⊥
    false_true e = absurd (cc)
some_if (Some x) b is unset = (x, refl)
