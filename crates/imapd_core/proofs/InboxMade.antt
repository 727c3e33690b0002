-- INBOX is made where nothing stands.
use Rattle.std.proofs.Common.{◌≡◌, ◌≢◌, ◌⊎◌, inl, inr, ℕ, Bool, true, false, List, [], ◌∷◌, refl, sym, ◌∙◌, ap, subst, codes, bytes_eq, Result, Ok, Err, OnOk}
use Rattle.file_model.specs.declared.files.Failed.{Failed}
use Rattle.file_model.specs.declared.files.Kind.{Kind}
use Rattle.file_model.specs.declared.files.Kind.TheVariants.{Nothing}
use Rattle.file_model.specs.Paths.{parent, is_top}
use Rattle.file_model.specs.Images.{Image, Agree, Node, nothing, file, directory, node_of, node_at, is_directory, directory_test}
use Rattle.file_model.specs.Kinds.{kind_of, CanMake}
use Rattle.file_model.proofs.Reserved.{free_makes}
use Rattle.file_model.specs.Disk.{Disk, MayLeave, seen, make, sync_dir, after}
use Rattle.file_model.specs.Kept.{IsSound, IsLeftOrMade, Keeps, Sees, NonePending, MayMake}
use Rattle.file_model.specs.Histories.{History, Now, Ran, Ended, GoesOn}
use Rattle.file_model.proofs.Paths.{parent_child}
use Rattle.file_model.proofs.Kept.{keeps_refl, may_make_file, may_make_none}
use Rattle.file_model.proofs.Calls.{own_made, sees_make, ran_make_file, ran_sync_dir, sees_ok_sync_dir}
use Rattle.file_model.proofs.Directories.{WasMade, ok_durable_made}
use Rattle.file_model.proofs.Leaving.{ended_ran, ended_with, ended_reaches}
use Rattle.file_model.proofs.Runs.{ran_none, ran_then, ended_call, now_both}
use Rattle.imapd_core.specs.Opening.{IsMade}
use Rattle.imapd_core.specs.Runs.{inbox_of, is_word, first_node}

no_kind : (node : Node) → Nothing ≡ kind_of node → node ≡ nothing
no_kind nothing is = refl
no_kind (file bytes) is = absurd (cc)
no_kind directory is = absurd (cc)

stays : (node : Node) → Nothing ≢ kind_of node → node ≡ first_node node
stays nothing other = absurd (other refl)
stays (file bytes) other = refl
stays directory other = refl

pub nothing_now : (path : List ℕ) (kind : Kind) (h : History) → kind ≡ Nothing → Now h (λ w. kind ≡ kind_of (node_at (seen w.disk) path)) → Now h (λ w. node_at (seen w.disk) path ≡ nothing)
nothing_now path kind [] is now = tt
nothing_now path kind (w ∷ past) is now = no_kind (node_at (seen w.disk) path) (sym is ∙ now)

-- a file was made there, and its directory isn't settled yet
record IsNew (path : List ℕ) (old new : Disk) : Type 0 where
  left : MayMake path old new
  inbox : node_at (seen new) path ≡ first_node (node_at (seen old) path)
  elsewhere : Sees (λ q. q ≢ path) old new
  made : WasMade path new

new_here : (path : List ℕ) (disk : Disk) → IsSound disk × (node_at (seen disk) path ≡ nothing) → IsNew path disk (after (make path) disk)
new_here path disk here =
    let own = own_made path disk here.0 in
    record {
      made = record { before = disk; is_after = refl };
      left = may_make_file path disk here.0 here.1;
      inbox = ap (node_of (seen (after (make path) disk)).bytes) own.stands ∙ ap file own.is_seen ∙ sym (ap first_node here.1);
      elsewhere = sees_make path disk here.0;
    }

new_now : (path : List ℕ) (u : Unit {0}) (old new : History) → Now old (λ w. IsSound w.disk) → Now old (λ w. node_at (seen w.disk) path ≡ nothing) → GoesOn (make path) (Ok u) old new → Ended (IsNew path) old new
new_now path u old new sound none on =
    ended_call (λ d. IsSound d × (node_at (seen d) path ≡ nothing)) (IsNew path) (make path) (new_here path) (Ok u) old new (now_both (λ w. IsSound w.disk) (λ w. node_at (seen w.disk) path ≡ nothing) old sound none) on

-- the sync of its directory settles it
abbrev Everywhere : List ℕ → Type 0
Everywhere path = Unit {0}

still_makes : (path : List ℕ) (a b c : Disk) → MayMake path a b → Keeps Everywhere b c → MayMake path a c
still_makes path a b c first then = record { each = λ image left. all image (then.each image left) }
  where
    here : (image mid before : Image) → Agree path image mid → Agree path mid before ⊎ ((node_at (seen a) path ≡ nothing) × (node_at before path ≡ nothing) × (node_at mid path ≡ file []))
        → Agree path image before ⊎ ((node_at (seen a) path ≡ nothing) × (node_at before path ≡ nothing) × (node_at image path ≡ file []))
    here image mid before same (inl agree) = inl (same ∙ agree)
    here image mid before same (inr empty) = inr (empty.0, empty.1, same ∙ empty.2)

    all : (image : Image) → (mid : Image) × MayLeave b mid × ((q : List ℕ) → Everywhere q → Agree q image mid) → IsLeftOrMade path a image
    all image kept =
        let made = first.each kept.0 kept.1 in
        record {
          before = made.before;
          was_left = made.was_left;
          elsewhere = λ q apart. kept.2 q tt ∙ made.elsewhere q apart;
          here = here image kept.0 made.before (kept.2 path tt) made.here;
        }

abbrev Settles : Disk → Disk → Type 0
Settles old new = Keeps Everywhere old new × (Sees Everywhere old new × NonePending new)

settled : (path : List ℕ) (a b c : Disk) → IsNew path a b → Settles b c → IsMade path a c
settled path a b c new settles = record {
  left = still_makes path a b c new.left settles.0;
  durable = λ none. settles.1.1;
  inbox = settles.1.0.each path tt ∙ new.inbox;
  elsewhere = record { each = λ q apart. settles.1.0.each q tt ∙ new.elsewhere.each q apart };
}

ended_on : (R S T : Disk → Disk → Type 0) → ((a b c : Disk) → R a b → S b c → T a c) → (old mid new : History) → Ended R old mid → Ended S mid new → Ended T old new
ended_on R S T then [] [] new one two = two
ended_on R S T then [] (b ∷ more) new one two = absurd (cc)
ended_on R S T then (a ∷ past) [] new one two = absurd one
ended_on R S T then (a ∷ past) (b ∷ more) [] one two = two
ended_on R S T then (a ∷ past) (b ∷ more) (c ∷ rest) one two = then a.disk b.disk c.disk one two

both_ok : (result : Result (Unit {0}) Failed) (P Q R : Type 0) → (P → Q → R) → OnOk result P → OnOk result Q → OnOk result R
both_ok (Ok u) P Q R joins p q = joins p q
both_ok (Err e) P Q R joins p q = tt

any : (h : History) → Now h (λ w. Unit {0})
any [] = tt
any (w ∷ past) = tt

-- a directory stands at the parent, and nothing at the path
parent_apart : (path : List ℕ) (image : Image) → is_directory image (parent path) ≡ true → node_at image path ≡ nothing → parent path ≢ path
parent_apart path image room none is = never_both (subst (λ q. is_directory image q ≡ true) is room) (ap directory_test none)
  where
    never_both : {b : Bool} → b ≡ true → b ≡ false → ⊥
    never_both one other = cc

-- a file was made
module _ (path : List ℕ) (u : Unit {0}) (old mid : History) (sound : Now old (λ w. IsSound w.disk)) (none : Now old (λ w. node_at (seen w.disk) path ≡ nothing))
    (makes : GoesOn (make path) (Ok u) old mid) where
  is_new : Ended (IsNew path) old mid
  is_new = new_now path u old mid sound none makes

  -- its directory still stands
  pub still_room : Now old (λ w. CanMake (seen w.disk) path) → Now mid (λ w. is_directory (seen w.disk) (parent path) ≡ true)
  still_room can =
      ended_reaches (λ d. CanMake (seen d) path × (node_at (seen d) path ≡ nothing)) (λ d. is_directory (seen d) (parent path) ≡ true) (IsNew path)
      (λ a b here new. ap directory_test (new.elsewhere.each (parent path) (parent_apart path (seen a) here.0.room here.1)) ∙ here.0.room) old mid
      (now_both (λ w. CanMake (seen w.disk) path) (λ w. node_at (seen w.disk) path ≡ nothing) old can none) is_new

  -- and is settled
  module _ (result : Result (Unit {0}) Failed) (new : History) (sound_then : Now mid (λ w. IsSound w.disk)) (syncs : GoesOn (sync_dir (parent path)) result mid new) where
    pub settled_ran : Ran (MayMake path) old new
    settled_ran =
        ran_then {R = MayMake path} {S = Keeps Everywhere} {T = MayMake path} (may_make_none path) (λ a b first. first) (still_makes path) old mid new
        (ran_make_file (Ok u) old mid path (now_both (λ w. IsSound w.disk) (λ w. node_at (seen w.disk) path ≡ nothing) old sound none) makes)
        (ran_sync_dir result mid new (parent path) Everywhere syncs)

    settles : OnOk result (Ended Settles mid new)
    settles = both_ok result (Ended (Sees Everywhere) mid new) (Now new (λ w. NonePending w.disk)) (Ended Settles mid new)
        (λ sees durable. ended_ran (Keeps Everywhere) (λ a b. Sees Everywhere a b × NonePending b) (keeps_refl Everywhere) mid new
        (ran_sync_dir result mid new (parent path) Everywhere syncs) (ended_with (Sees Everywhere) NonePending mid new sees durable))
        (sees_ok_sync_dir result mid new (parent path) Everywhere sound_then syncs)
        (ok_durable_made result mid new path (ended_reaches (λ d. Unit {0}) (WasMade path) (IsNew path) (λ a b here new. new.made) old mid (any old) is_new) syncs)

    pub settled_made : OnOk result (Ended (IsMade path) old new)
    settled_made = both_ok result (Unit {0}) (Ended Settles mid new) (Ended (IsMade path) old new)
        (λ here ended. ended_on (IsNew path) Settles (IsMade path) (settled path) old mid new is_new ended) (here result) settles
      where
        here : (result : Result (Unit {0}) Failed) → OnOk result (Unit {0})
        here (Ok u) = tt
        here (Err e) = tt

pub made_ran : (path : List ℕ) (result : Result (Unit {0}) Failed) (old new : History) → Now old (λ w. IsSound w.disk) → Now old (λ w. node_at (seen w.disk) path ≡ nothing) → GoesOn (make path) result old new → Ran (MayMake path) old new
made_ran path result old new sound none on = ran_make_file result old new path (now_both (λ w. IsSound w.disk) (λ w. node_at (seen w.disk) path ≡ nothing) old sound none) on

-- something stands there
pub there_ended : (path : List ℕ) (kind : Kind) (old new : History) → kind ≢ Nothing → Now old (λ w. kind ≡ kind_of (node_at (seen w.disk) path)) → new ≡ old → Ended (IsMade path) old new
there_ended path kind [] new other now same = same
there_ended path kind (w ∷ past) new other now same =
    subst (λ h. Ended (IsMade path) (w ∷ past) h) (sym same) (record {
      left = may_make_none path w.disk;
      durable = λ none. none;
      inbox = stays (node_at (seen w.disk) path) (λ is. other (now ∙ sym is));
      elsewhere = record { each = λ q apart. refl };
    })

pub there_ran : (path : List ℕ) (old new : History) → new ≡ old → Ran (MayMake path) old new
there_ran path old new same = subst (λ h. Ran (MayMake path) old h) (sym same) (ran_none (MayMake path) old)

-- the root is INBOX's directory
pub in_root : (root path : List ℕ) (h : History) → path ≡ inbox_of root → Now h (λ w. is_directory (seen w.disk) root ≡ true) → Now h (λ w. is_directory (seen w.disk) (parent path) ≡ true)
in_root root path h is now = subst (λ dir. Now h (λ w. is_directory (seen w.disk) dir ≡ true)) (sym (ap parent is ∙ parent_child root (codes "INBOX") (refl, (refl, (refl, (refl, (refl, tt))))))) now

-- a word that may be a root isn't empty, so its INBOX is below a top
pub inbox_below : (root path : List ℕ) → path ≡ inbox_of root → is_word root ≡ true → is_top path ≡ false
inbox_below root path is word =
    ap is_top is ∙ ap (λ dir. bytes_eq dir []) (parent_child root (codes "INBOX") (refl, (refl, (refl, (refl, (refl, tt)))))) ∙ some root word
  where
    some : (root : List ℕ) → is_word root ≡ true → bytes_eq root [] ≡ false
    some [] word = absurd (cc)
    some (b ∷ rest) word = refl

-- one can be made where nothing stands
pub inbox_makes : (path : List ℕ) (h : History) → is_top path ≡ false → Now h (λ w. is_directory (seen w.disk) (parent path) ≡ true) → Now h (λ w. node_at (seen w.disk) path ≡ nothing) → Now h (λ w. CanMake (seen w.disk) path)
inbox_makes path [] below room none = tt
inbox_makes path (w ∷ past) below room none = free_makes (seen w.disk) path (record { nothing_there = none; room = room; below = below })

-- the calls at the path are calls at INBOX
pub inbox_ran : (root path : List ℕ) (old new : History) → path ≡ inbox_of root → Ran (MayMake path) old new → Ran (MayMake (inbox_of root)) old new
inbox_ran root path old new is run = subst (λ p. Ran (MayMake p) old new) is run

pub inbox_made : (root path : List ℕ) (old new : History) → path ≡ inbox_of root → Ended (IsMade path) old new → Ended (IsMade (inbox_of root)) old new
inbox_made root path old new is made = subst (λ p. Ended (IsMade p) old new) is made

-- the directory of INBOX is the root
pub inbox_parent : (root path : List ℕ) → path ≡ inbox_of root → parent path ≡ root
inbox_parent root path is = ap parent is ∙ parent_child root (codes "INBOX") (refl, (refl, (refl, (refl, (refl, tt)))))
