-- What a directory needs to be moved, made or removed.
use Rattle.std.proofs.Common.{◌≡◌, ℕ, List, [], ◌∷◌, length, true, false, inr, refl, sym, ◌∙◌, ap, codes}
use Rattle.std.specs.Prelude.{IsPermutation, String, map, string_bytes}
use Rattle.std.specs.declared.alloc.Global.{Global}
use Rattle.std.proofs.lemmas.List.{length-map}
use Rattle.std.proofs.lemmas.List.Sorted.{length_permutation}
use Rattle.file_model.specs.declared.files.Kind.{Kind}
use Rattle.file_model.specs.declared.files.Kind.TheVariants.{Nothing, File, Dir}
use Rattle.file_model.specs.Paths.{is_inside, split_path}
use Rattle.file_model.specs.Reserved.{is_reserved_name}
use Rattle.file_model.specs.Images.{Image, Node, nothing, file, directory, node_at, is_directory, directory_test, names_in}
use Rattle.file_model.specs.Kinds.{kind_of, CanMove, CanMakeDirectory}

directory_is : (node : Node) → Dir ≡ kind_of node → directory_test node ≡ true
directory_is nothing is = absurd (cc)
directory_is (file bytes) is = absurd (cc)
directory_is directory is = refl

nothing_is : (node : Node) → Nothing ≡ kind_of node → node ≡ nothing
nothing_is nothing is = refl
nothing_is (file bytes) is = absurd (cc)
nothing_is directory is = absurd (cc)

pub can_move : (image : Image) → Dir ≡ kind_of (node_at image (codes "/m")) → Dir ≡ kind_of (node_at image (codes "/m/a")) → Nothing ≡ kind_of (node_at image (codes "/m/b")) → CanMove image (codes "/m/a") (codes "/m/b")
unfolding is_inside split_path is_reserved_name
can_move image room there free = inr (record {
  is_there = directory_is (node_at image (codes "/m/a")) there;
  target = record {
    free = record { nothing_there = nothing_is (node_at image (codes "/m/b")) free; room = directory_is (node_at image (codes "/m")) room; below = refl };
    name = refl;
  };
  outside = refl;
})

pub can_make : (image : Image) → Dir ≡ kind_of (node_at image (codes "/m")) → Nothing ≡ kind_of (node_at image (codes "/m/d")) → CanMakeDirectory image (codes "/m/d")
unfolding split_path is_reserved_name
can_make image room free = record {
  free = record { nothing_there = nothing_is (node_at image (codes "/m/d")) free; room = directory_is (node_at image (codes "/m")) room; below = refl };
  name = refl;
}

none_left : (names : List (List ℕ)) → length names ≡ 0 → names ≡ []
none_left [] none = refl
none_left (name ∷ names) none = absurd (cc)

-- no name was told
pub none_named : (told : List (String Global)) (image : Image) (dir : List ℕ) → length told ≡ 0 → IsPermutation (map string_bytes told) (names_in image dir) → names_in image dir ≡ []
none_named told image dir none same =
    none_left (names_in image dir) (length_permutation (map string_bytes told) (names_in image dir) same ∙ (length-map told string_bytes ∙ none))
