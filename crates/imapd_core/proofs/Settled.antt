-- Nothing is said before INBOX stands and is settled.
use Rattle.std.proofs.Common.{◌≡◌, ◌≢◌, inl, inr, ℕ, List, [], ◌++◌, Option, Some, None, refl, sym, ◌∙◌, ap, subst}
use Rattle.std.specs.FinMap.{get}
use Rattle.file_model.specs.Images.{Image, Entry, Node, nothing, file, directory, a_file, a_directory, node_of, node_at}
use Rattle.file_model.specs.Disk.{Disk, MayLeave, MayStand, all_done, seen}
use Rattle.file_model.specs.Kept.{MayMake, NonePending, Leaves}
use Rattle.file_model.specs.Histories.{History, Now, Ran, Ended}
use Rattle.file_model.proofs.Leaving.{ended_reaches}
use Rattle.file_model.proofs.Runs.{ran_weaker}
use Rattle.imapd_core.specs.Opening.{IsMade}
use Rattle.imapd_core.specs.Promises.{HasSomeInbox, IsSettled}
use Rattle.imapd_core.specs.Runs.{Run, inbox_of, first_node}

-- where nothing stands, no name is
no_entry : (bytes : ℕ → List ℕ) (entry : Option Entry) → node_of bytes entry ≡ nothing → entry ≡ None
no_entry bytes None is = refl
no_entry bytes (Some (a_file id)) is = absurd (cc)
no_entry bytes (Some a_directory) is = absurd (cc)

-- where no directory operation is pending every image has the names that reads see
seen_names_left : (path : List ℕ) (disk : Disk) → NonePending disk → (image : Image) → MayLeave disk image → node_at image path ≡ nothing → node_at (seen disk) path ≡ nothing
seen_names_left path disk none image left is =
    ap (λ e. node_of (seen disk).bytes e) (ap (λ names. get names path) (sym same) ∙ no_entry image.bytes (get image.names path) is)
  where
    same : image.names ≡ all_done disk.pending disk.durable
    same = subst (λ pending. image.names ≡ all_done pending disk.durable) (sym none.none_pending) (subst (λ pending. MayStand disk.durable pending image.names) none.none_pending left.names)

stands_first : (node : Node) → first_node node ≢ nothing
stands_first nothing is = absurd (cc)
stands_first (file bytes) is = absurd (cc)
stands_first directory is = absurd (cc)

made_leaves : (root : List ℕ) (a b : Disk) → NonePending a → IsMade (inbox_of root) a b → Leaves (HasSomeInbox root) b
made_leaves root a b none made = record {
  each = λ image left gone. stands_first (node_at (seen a) (inbox_of root)) (sym made.inbox ∙ seen_names_left (inbox_of root) b (made.durable none) image left gone);
}

-- a run on files says nothing
pub quiet_settled : (root : List ℕ) (old new : History) (run : Run) → Ran (MayMake (inbox_of root)) old new → IsSettled old new run
quiet_settled root old new run ran = record { settled = new; silent = ran_weaker (λ a b makes. tt) old new ran; later = []; whole = refl; has_inbox = inl refl }

-- the session's opening, and what comes after it
pub session_settled : (root : List ℕ) (old mid new : History) (run : Run) → run.root ≡ root → Now old (λ w. NonePending w.disk) → Ran (MayMake (inbox_of root)) old mid → Ended (IsMade (inbox_of root)) old mid
    → (later : History) → new ≡ later ++ mid → IsSettled old new run
session_settled root old mid new run is none ran made later whole = record {
  settled = mid;
  silent = ran_weaker (λ a b makes. tt) old mid ran;
  later = later;
  whole = whole;
  has_inbox = inr (subst (λ r. Now mid (λ w. Leaves (HasSomeInbox r) w.disk)) (sym is) (ended_reaches NonePending (Leaves (HasSomeInbox root)) (IsMade (inbox_of root)) (made_leaves root) old mid none made));
}
