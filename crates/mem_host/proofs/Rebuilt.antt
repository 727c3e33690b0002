-- What names lead to, put name by name.
use Rattle.std.proofs.Common.{◌≡◌, ◌⊎◌, inl, inr, ℕ, ◌<◌, List, [], ◌∷◌, ◌++◌, map, Bool, true, false, cond, not, ◌&&◌, Option, Some, None, refl, sym, ◌∙◌, ap, subst, arith, Vec, Global, string_bytes}
use Rattle.std.specs.Str.{bytes_eq}
use Rattle.std.specs.List.{AllByRecursion}
use Rattle.std.specs.Map.{lookup}
use Rattle.std.specs.BTreeMap.{get_by_text, is_at}
use Rattle.std.specs.FinMap.{get}
use Rattle.std.specs.Ordering.{is_eq, nat_cmp}
use Rattle.std.specs.Cmp.Lexicographic.{slice_cmp}
use Rattle.std.specs.declared.cmp.Ordering.{Ordering}
use Rattle.std.specs.declared.cmp.Ordering.TheVariants.{Less, Equal, Greater}
use Rattle.std.proofs.lemmas.Map.Lookups.{exact_bytes}
use Rattle.std.proofs.lemmas.Slice.Eq.{bytes_eq-Decides}
use Rattle.file_model.specs.Paths.{is_inside}
use Rattle.file_model.specs.Images.{Image, Node, nothing, file, directory, node_at, node_of, bytes_of, directory_test}
use Rattle.file_model.proofs.Inside.{inside_is}
use Rattle.file_model.proofs.Orderly.{above_stands}
use Rattle.mem_host.specs.Events.{Event}
use Rattle.file_model.specs.Disk.{Disk, seen, seen_names}
use Rattle.file_model.specs.Kept.{IsSound}
use Rattle.file_model.proofs.Names.{all_may_stand}
use Rattle.mem_host.specs.Mirrored.{entry_of, place_entry, Mirrors}
use Rattle.mem_host.specs.Replay.{seen_after, AllPut}
use Rattle.mem_host.specs.Putting.{is_above, with_parents, with_node}
use Rattle.mem_host.specs.Finding.{Holds, IsRooted, HasRoomFor, IsNodeOf, CanPutNext}
use Rattle.mem_host.specs.declared.names.Place.{Place}
use Rattle.mem_host.specs.declared.names.Place.TheVariants.{File, Dir}
use Rattle.mem_host.proofs.Mirrored.{Map}
use Rattle.mem_host.proofs.Listed.{Yield, deref}
use Rattle.mem_host.proofs.Putting.{above_is}

abbrev Contents : Type 0
Contents = List (Vec ℕ Global)

-- nothing stands there yet, or what the image has
abbrev pub IsPart : Image → List ℕ → Node → Type 0
IsPart image q node = (node ≡ nothing) ⊎ (node ≡ node_at image q)

-- A part of the image stands, and what these names lead to.
pub record IsRebuilt (image : Image) (events : List Event) (yielded : List Yield) : Type 0 where
  pub part : (q : List ℕ) → IsPart image q (node_at (seen_after events) q)
  pub stands : AllByRecursion (λ (y : Yield). node_at (seen_after events) (string_bytes y.0.now) ≡ node_at image (string_bytes y.0.now)) yielded

abbrev pub Rebuilds : Map → Contents → List Event → List Yield → Type 0
Rebuilds names contents events yielded = (image : Image) → Holds names contents image → IsRooted image → IsRebuilt image events yielded

pub none_rebuilt : (names : Map) (contents : Contents) (events : List Event) → ((q : List ℕ) → node_at (seen_after events) q ≡ nothing) → Rebuilds names contents events []
none_rebuilt names contents events none image holds rooted = record { part = λ q. inl (none q); stands = tt }

-- ---- What a name leads to

both : (a b : Bool) → (a && b) ≡ true → (a ≡ true) × (b ≡ true)
both true b h = (refl, h)
both false b h = absurd (cc)

module _ (names : Map) (contents : Contents) (image : Image) (holds : Holds names contents image) (rooted : IsRooted image) where
  entry_at : (path : List ℕ) (place : Place) → get_by_text names path ≡ Some place → get image.names path ≡ Some (place_entry place)
  entry_at path place leads = sym (holds.shows path) ∙ ap entry_of leads

  -- a path leads through directories alone
  directory_above : (path dir : List ℕ) (place : Place) → get_by_text names path ≡ Some place → is_above dir path ≡ true → node_at image dir ≡ directory
  directory_above path dir place leads above =
      let inside = inside_is dir path (both (is_inside dir path) (not (bytes_eq dir [])) above).0 in
      ap (node_of image.bytes) (above_stands inside.0 image.names dir inside.0 (place_entry place) (omega arith) (above_is dir path above).some rooted (ap (get image.names) (sym inside.1) ∙ entry_at path place leads))

  pub node_ready : (path : List ℕ) (place : Place) → get_by_text names path ≡ Some place → IsNodeOf place contents (node_at image path)
  node_ready path Dir leads = ap (node_of image.bytes) (entry_at path Dir leads)
  node_ready path (File id) leads = λ d. ap (node_of image.bytes) (entry_at path (File id) leads) ∙ ap file (sym (holds.bytes id (holds.below path id (entry_at path (File id) leads)) d))

  part_directory : (node : Node) (q : List ℕ) → node_at image q ≡ directory → IsPart image q node → bytes_of node ≡ None
  part_directory node q is (inl none) = ap bytes_of none
  part_directory node q is (inr agrees) = ap bytes_of (agrees ∙ is)

  part_file : (node : Node) (q bytes : List ℕ) → node_at image q ≡ file bytes → IsPart image q node → directory_test node ≡ false
  part_file node q bytes is (inl none) = ap directory_test none
  part_file node q bytes is (inr agrees) = ap directory_test (agrees ∙ is)

  room_for : (events : List Event) (yielded : List Yield) (path : List ℕ) (place : Place) → get_by_text names path ≡ Some place → IsRebuilt image events yielded → HasRoomFor place contents (node_at (seen_after events) path)
  room_for events yielded path Dir leads built = part_directory (node_at (seen_after events) path) path (ap (node_of image.bytes) (entry_at path Dir leads)) (built.part path)
  room_for events yielded path (File id) leads built =
      (part_file (node_at (seen_after events) path) path (image.bytes id) (ap (node_of image.bytes) (entry_at path (File id) leads)) (built.part path), holds.below path id (entry_at path (File id) leads))

  pub can_put_next : (events : List Event) (yielded : List Yield) (path : List ℕ) (place : Place) → AllPut events → get_by_text names path ≡ Some place → IsRebuilt image events yielded → CanPutNext path place contents events
  can_put_next events yielded path place puts leads built = record {
    puts = puts;
    clear = λ dir above. part_directory (node_at (seen_after events) dir) dir (directory_above path dir place leads above) (built.part dir);
    room = room_for events yielded path place leads built;
  }

  -- what was put is of the image
  agrees_put : (old : Node) (path q : List ℕ) (place : Place) → get_by_text names path ≡ Some place → old ≡ node_at image q
      → (b c : Bool) → bytes_eq q path ≡ b → is_above q path ≡ c → cond b (node_at image path) (cond c directory old) ≡ node_at image q
  agrees_put old path q place leads was true c same above = ap (node_at image) (sym ((bytes_eq-Decides q path).0 same))
  agrees_put old path q place leads was false true same above = sym (directory_above path q place leads above)
  agrees_put old path q place leads was false false same above = was

  part_put : (old : Node) (path q : List ℕ) (place : Place) → get_by_text names path ≡ Some place → IsPart image q old
      → (b c : Bool) → bytes_eq q path ≡ b → is_above q path ≡ c → IsPart image q (cond b (node_at image path) (cond c directory old))
  part_put old path q place leads (inr was) b c same above = inr (agrees_put old path q place leads was b c same above)
  part_put old path q place leads (inl none) true c same above = inr (ap (node_at image) (sym ((bytes_eq-Decides q path).0 same)))
  part_put old path q place leads (inl none) false true same above = inr (sym (directory_above path q place leads above))
  part_put old path q place leads (inl none) false false same above = inl none

  abbrev pub Agrees : List Event → List ℕ → Type 0
  Agrees events q = node_at (seen_after events) q ≡ node_at image q

  one_more_yield : (old new : List Event) (y : Yield) → ((q : List ℕ) → Agrees old q → Agrees new q) → Agrees new (string_bytes y.0.now)
      → (ys : List Yield) → AllByRecursion (λ (z : Yield). Agrees old (string_bytes z.0.now)) ys → AllByRecursion (λ (z : Yield). Agrees new (string_bytes z.0.now)) (ys ++ y ∷ [])
  one_more_yield old new y goes here [] all = (here, tt)
  one_more_yield old new y goes here (z ∷ ys) all = (goes (string_bytes z.0.now) all.0, one_more_yield old new y goes here ys all.1)

  pub rebuilt_put : (old new : List Event) (ys : List Yield) (y : Yield) (place : Place) → get_by_text names (string_bytes y.0.now) ≡ Some place
      → ((q : List ℕ) → node_at (seen_after new) q ≡ with_node (seen_after old) (string_bytes y.0.now) (node_at image (string_bytes y.0.now)) q) → IsRebuilt image old ys → IsRebuilt image new (ys ++ y ∷ [])
  rebuilt_put old new ys y place leads puts built =
      let path = string_bytes y.0.now in
      let goes : (q : List ℕ) → Agrees old q → Agrees new q = (λ q was. puts q ∙ agrees_put (node_at (seen_after old) q) path q place leads was (bytes_eq q path) (is_above q path) refl refl) in record {
        part = λ q. subst (IsPart image q) (sym (puts q)) (part_put (node_at (seen_after old) q) path q place leads (built.part q) (bytes_eq q path) (is_above q path) refl refl);
        stands = one_more_yield old new y goes (puts path ∙ ap (λ b. cond b (node_at image path) (with_parents (seen_after old) path path)) ((bytes_eq-Decides path path).1 refl)) ys built.stands;
      }

  -- nothing stands at a path without a name
  nothing_at : (path : List ℕ) → get_by_text names path ≡ None → node_at image path ≡ nothing
  nothing_at path none = ap (node_of image.bytes) (sym (holds.shows path) ∙ ap entry_of none)

  agrees_nothing : (events : List Event) (q : List ℕ) → get_by_text names q ≡ None → IsPart image q (node_at (seen_after events) q) → Agrees events q
  agrees_nothing events q none (inl nothing_there) = nothing_there ∙ sym (nothing_at q none)
  agrees_nothing events q none (inr agrees) = agrees

  pub rebuilt_none : (events : List Event) (ys : List Yield) (y : Yield) → get_by_text names (string_bytes y.0.now) ≡ None → IsRebuilt image events ys → IsRebuilt image events (ys ++ y ∷ [])
  rebuilt_none events ys y none built = record {
    part = built.part;
    stands = one_more_yield events events y (λ q was. was) (agrees_nothing events (string_bytes y.0.now) none (built.part (string_bytes y.0.now))) ys built.stands;
  }

  -- a name that is there was yielded
  yielded_at : (events : List Event) (q : List ℕ) (place : Place) (ys : List Yield) → lookup (is_at (λ k. slice_cmp nat_cmp q (string_bytes k))) (map deref ys) ≡ Some place
      → AllByRecursion (λ (z : Yield). Agrees events (string_bytes z.0.now)) ys → Agrees events q
  yielded_at events q place [] found all = absurd (cc)
  yielded_at events q place (y ∷ ys) found all = at (slice_cmp nat_cmp q (string_bytes y.0.now)) refl (yielded_at events q place ys)
    where
      at : (o : Ordering) → slice_cmp nat_cmp q (string_bytes y.0.now) ≡ o
          → (lookup (is_at (λ k. slice_cmp nat_cmp q (string_bytes k))) (map deref ys) ≡ Some place → AllByRecursion (λ (z : Yield). Agrees events (string_bytes z.0.now)) ys → Agrees events q) → Agrees events q
      at Equal tied rest = subst (Agrees events) (sym (exact_bytes q (string_bytes y.0.now) tied)) all.0
      at Less tied rest = rest (ap (λ o. cond (is_eq o) (Some y.1.now) (lookup (is_at (λ k. slice_cmp nat_cmp q (string_bytes k))) (map deref ys))) (sym tied) ∙ found) all.1
      at Greater tied rest = rest (ap (λ o. cond (is_eq o) (Some y.1.now) (lookup (is_at (λ k. slice_cmp nat_cmp q (string_bytes k))) (map deref ys))) (sym tied) ∙ found) all.1

  pub all_rebuilt : (events : List Event) (ys : List Yield) → map deref ys ≡ names.entries → IsRebuilt image events ys → (q : List ℕ) → node_at (seen_after events) q ≡ node_at image q
  all_rebuilt events ys whole built q = at (get_by_text names q) refl
    where
      at : (o : Option Place) → get_by_text names q ≡ o → Agrees events q
      at None none = agrees_nothing events q none (built.part q)
      at (Some place) leads = yielded_at events q place ys (ap (lookup (is_at (λ k. slice_cmp nat_cmp q (string_bytes k)))) whole ∙ leads) built.stands

-- ---- What a mirror holds

pub mirror_holds : (names : Map) (contents : Contents) (disk : Disk) → IsSound disk → Mirrors names contents disk → Holds names contents (seen disk)
mirror_holds names contents disk sound m = record {
  shows = m.shows;
  below = λ path id stands. subst (λ n. id < n) (sym m.count) (sound.fresh (seen_names disk) (all_may_stand disk.durable disk.pending) path id stands);
  bytes = m.bytes;
}

pub seen_rooted : (disk : Disk) → IsSound disk → IsRooted (seen disk)
seen_rooted disk sound = sound.rooted (seen_names disk) (all_may_stand disk.durable disk.pending)
