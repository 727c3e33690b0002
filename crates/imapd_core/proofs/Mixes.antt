-- The mix mailboxes of a directory, beside which an INBOX is made.
use Rattle.std.proofs.Common.{◌≡◌, ◌≢◌, ◌⊎◌, inl, inr, ⊎_elim, ℕ, List, [], Bool, true, false, Option, Some, None, Ok, Err, refl, sym, ◌∙◌, ap, subst, arith}
use Rattle.std.specs.Prelude.{codes, is_some}
use Rattle.std.specs.FinMap.{get}
use Rattle.std.proofs.lemmas.Bool.{false≢true}
use Rattle.std.proofs.lemmas.List.{append-nil}
use Rattle.file_model.specs.Disk.{Disk, seen}
use Rattle.file_model.specs.Images.{Image, Node, nothing, file, directory, node_at, bytes_at, bytes_of, is_directory, directory_test, Agree}
use Rattle.file_model.specs.Kept.{IsAtRest, IsSound, IsLeftOrMade}
use Rattle.file_model.specs.Paths.{child, HasNoSlash}
use Rattle.file_model.proofs.Names.{cases_path}
use Rattle.file_model.proofs.Paths.{parent_child}
use Rattle.file_model.proofs.Seen.{rest_seen}
use Rattle.mail_types.specs.declared.contents.StoreContents.{StoreContents}
use Rattle.mail_types.specs.declared.driver.Driver.TheVariants.{Mix}
use Rattle.store_trait.specs.Commits.{mark_of, IsUnmarked}
use Rattle.store_trait.specs.Forms.{grammar_of}
use Rattle.store_trait.specs.Meaning.{Means}
use Rattle.store_trait.specs.OwnPaths.{IsOwn}
use Rattle.store_trait.proofs.Grammars.{agree_here}
use Rattle.store_trait.proofs.MovedMeaning.{means_moves, rests_own}
use Rattle.store_trait.proofs.OneMeaning.{one_meaning}
use Rattle.any_store.specs.Choice.{Formats, has_file}
use Rattle.mail_tree.specs.Agreement.{mix_of, IsNoLess, HasMix, HasMixMailboxes, IsMixAlike, IsTreeAlike}
use Rattle.mail_tree.specs.Names.{is_part, is_path}
use Rattle.mail_tree.specs.Trees.{Meaning, TreeNode, unknown_file, file_mailbox, folder, Tree, HasMeaning, IsNodeOf, is_message}
use Rattle.mail_tree.proofs.Agreed.{agreed}
use Rattle.mail_tree.proofs.Below.{one_below, special_apart, IsRooted, rooted_seen, child_no_top}
use Rattle.mail_tree.proofs.MadeDir.{own_no_part}
use Rattle.mail_tree.proofs.Nodes.{AreFormats, meta_plain}
use Rattle.mail_tree.proofs.Sighted.{message_file}
use Rattle.store_trait.specs.declared.faults.OpenFault.{OpenFault}
use Rattle.imapd_core.specs.Opening.{IsMade}
use Rattle.imapd_core.specs.Promises.{IsFoundAgain, FindsMix}
use Rattle.imapd_core.specs.Runs.{inbox_of, first_node, HasMailboxes}

inbox_is_path : is_path (codes "INBOX") ≡ true
unfolding is_path
inbox_is_path = refl

none_is_some : {A : Type 0} (x : A) → None ≡ Some x → ⊥
none_is_some x is = cc

-- a directory stands where one stood, also at INBOX
first_directory : (n : Node) → directory_test n ≡ true → directory_test (first_node n) ≡ true
first_directory nothing is = absurd (false≢true is)
first_directory (file bytes) is = absurd (false≢true is)
first_directory directory is = refl

no_bytes : (o : Option (List ℕ)) → is_some o ≡ false → o ≡ None
no_bytes None is = refl
no_bytes (Some bytes) is = absurd (false≢true (sym is))

same_contents : (known : StoreContents) → IsNoLess known known
same_contents known = record { validity = refl; records = refl; last = omega arith; more = []; words = sym (append-nil known.words) }

same_fault : (fault : OpenFault) (m : Meaning) → m ≡ Err fault → IsFoundAgain (Some (Err fault)) (Some m)
same_fault fault (Err found) is = cc
same_fault fault (Ok found) is = absurd (cc)

same_meaning : (found contents : StoreContents) (one other : Meaning) → one ≡ Ok found → other ≡ Ok contents → one ≡ other → contents ≡ found
same_meaning found contents one other is also same = cc

same_records : (known contents : StoreContents) (m : Meaning) → m ≡ Ok contents → IsNoLess known contents → IsFoundAgain (Some (Ok known)) (Some m)
same_records known contents (Ok found) is less = subst (λ c. IsNoLess known c) (same_meaning found contents (Ok found) (Ok contents) refl refl is) less
same_records known contents (Err fault) is less = absurd (cc)

module _ (formats : Formats) (laws : AreFormats formats) (root : List ℕ) (tree : Tree) where
  -- INBOX stands at no path of a file that a mix mailbox rests on
  special_no_inbox : (p name : List ℕ) → HasNoSlash name → is_part name ≡ false → child (child root p) name ≢ inbox_of root
  special_no_inbox p name plain no_part = special_apart root p (codes "INBOX") name inbox_is_path plain no_part

  -- ---- Two images that differ at INBOX at most, and only where it is no mix mailbox

  pub record IsBeside (one other : Image) : Type 0 where
    pub elsewhere : (q : List ℕ) → q ≢ inbox_of root → Agree q other one
    pub here : (meaning : Meaning) → mix_of (get tree.nodes (codes "INBOX")) ≡ Some meaning → Agree (inbox_of root) other one

  module _ (one other : Image) (beside : IsBeside one other) where
    mark_agrees : (p : List ℕ) → Agree (mark_of (child root p)) other one
    mark_agrees p = beside.elsewhere (mark_of (child root p)) (special_no_inbox p (codes ".mixmeta") meta_plain refl)

    own_agrees : (p : List ℕ) (meaning : Meaning) → mix_of (get tree.nodes p) ≡ Some meaning → (q : List ℕ) → IsOwn Mix (child root p) q → Agree q other one
    own_agrees p meaning some q (inl is) = subst (λ z. Agree z other one) (sym is) (at (cases_path p (codes "INBOX")))
      where
        at : (p ≡ codes "INBOX") ⊎ (p ≢ codes "INBOX") → Agree (child root p) other one
        at (inl same) = subst (λ z. Agree (child root z) other one) (sym same) (beside.here meaning (ap (λ z. mix_of (get tree.nodes z)) (sym same) ∙ some))
        at (inr apart) = beside.elsewhere (child root p) (λ e. apart (one_below root p (codes "INBOX") e))
    own_agrees p meaning some q (inr n) =
        subst (λ z. Agree z other one) (sym n.whole) (beside.elsewhere (child (child root p) n.name) (special_no_inbox p n.name n.plain (own_no_part n.name n.is_kind)))

    means_beside : (p : List ℕ) (meaning m : Meaning) → mix_of (get tree.nodes p) ≡ Some meaning
        → Means (grammar_of formats.forms Mix (child root p)) Mix (child root p) one m → Means (grammar_of formats.forms Mix (child root p)) Mix (child root p) other m
    means_beside p meaning m some means =
        means_moves formats.forms Mix (laws.reads Mix) (child root p) (child root p) one other
        (agree_here Mix (child root p) one other (λ q rests. own_agrees p meaning some q (rests_own Mix (child root p) q rests))) m means

    mix_at : (p : List ℕ) (o : Option Meaning) → mix_of (get tree.nodes p) ≡ o → HasMix formats (child root p) one o → HasMix formats (child root p) other o
    mix_at p None is has = ap bytes_of (mark_agrees p) ∙ has
    mix_at p (Some (Err fault)) is has = means_beside p (Err fault) (Err fault) is has
    mix_at p (Some (Ok known)) is has = (has.0, means_beside p (Ok known) (Ok has.0) is has.1, has.2)

    pub mix_beside : HasMixMailboxes formats root tree one → HasMixMailboxes formats root tree other
    mix_beside has = record { each = λ p is. mix_at p (mix_of (get tree.nodes p)) refl (has.each p is) }

  -- ---- What reads see

  module _ (image : Image) (has : HasMailboxes formats root tree image) where
    no_folder : (message : Bool) (bytes : List ℕ) (o : Option TreeNode) → node_at has.made (inbox_of root) ≡ file bytes → IsNodeOf formats (inbox_of root) has.made message o
        → (meaning : Meaning) → mix_of o ≡ Some meaning → ⊥
    no_folder message bytes None here node meaning some = none_is_some meaning some
    no_folder message bytes (Some unknown_file) here node meaning some = none_is_some meaning some
    no_folder message bytes (Some (file_mailbox driver m)) here node meaning some = none_is_some meaning some
    no_folder message bytes (Some (folder d)) here node meaning some = false≢true (sym (ap directory_test here) ∙ node.stands)

    -- an INBOX that is made is no mix mailbox
    pub made_no_mix : node_at image (inbox_of root) ≡ nothing → (meaning : Meaning) → mix_of (get tree.nodes (codes "INBOX")) ≡ Some meaning → ⊥
    made_no_mix none meaning some =
        no_folder (is_message root has.made (codes "INBOX")) [] (get tree.nodes (codes "INBOX")) (has.has_inbox.inbox ∙ ap first_node none) (has.has_tree.nodes (codes "INBOX") inbox_is_path).is meaning some

    -- where it is one, it stood there
    stays_inbox : (end : Image) → node_at end (inbox_of root) ≡ first_node (node_at image (inbox_of root)) → (meaning : Meaning) → mix_of (get tree.nodes (codes "INBOX")) ≡ Some meaning → Agree (inbox_of root) end image
    stays_inbox end is meaning some = at (node_at image (inbox_of root)) refl
      where
        at : (n : Node) → node_at image (inbox_of root) ≡ n → Agree (inbox_of root) end image
        at nothing here = absurd (made_no_mix here meaning some)
        at (file bytes) here = is ∙ ap first_node here ∙ sym here
        at directory here = is ∙ ap first_node here ∙ sym here

    beside_made : IsBeside has.made image
    beside_made = record {
      elsewhere = λ q apart. sym (has.has_inbox.elsewhere q apart);
      here = λ meaning some. sym (stays_inbox has.made has.has_inbox.inbox meaning some);
    }

    directory_made : (p : List ℕ) → is_directory image (child root p) ≡ true → is_directory has.made (child root p) ≡ true
    directory_made p is = at (cases_path (child root p) (inbox_of root))
      where
        at : (child root p ≡ inbox_of root) ⊎ (child root p ≢ inbox_of root) → is_directory has.made (child root p) ≡ true
        at (inl here) = ap (is_directory has.made) here ∙ ap directory_test has.has_inbox.inbox ∙ first_directory (node_at image (inbox_of root)) (ap (is_directory image) (sym here) ∙ is)
        at (inr apart) = ap directory_test (has.has_inbox.elsewhere (child root p) apart) ∙ is

    -- the mix mailboxes that are found are those that the image has
    module _ (survives : Tree) (agrees : HasMixMailboxes formats root survives image) where
      one_found : (p : List ℕ) (was : Option Meaning) (m : Meaning) → HasMix formats (child root p) image was → has_file image (mark_of (child root p)) ≡ true
          → Means (grammar_of formats.forms Mix (child root p)) Mix (child root p) image m → IsFoundAgain was (Some m)
      one_found p None m was there means = absurd (false≢true (sym (ap is_some was) ∙ there))
      one_found p (Some (Err fault)) m was there means = same_fault fault m (one_meaning formats.forms Mix (child root p) (laws.reads Mix) image m (Err fault) means was)
      one_found p (Some (Ok known)) m was there means = same_records known was.0 m (one_meaning formats.forms Mix (child root p) (laws.reads Mix) image m (Ok was.0) means was.1) was.2

      mix_found : (p : List ℕ) (was o : Option Meaning) → HasMix formats (child root p) image was → mix_of (get tree.nodes p) ≡ o → HasMeaning formats Mix (mark_of (child root p)) (child root p) has.made o
          → IsFoundAgain was o
      mix_found p was None mix is means = tt
      mix_found p was (Some m) mix is means =
          one_found p was m mix (ap (λ n. is_some (bytes_of n)) (mark_agrees has.made image beside_made p) ∙ means.0) (means_beside has.made image beside_made p m m is means.1)

      node_found : (p : List ℕ) (was : Option Meaning) (message : Bool) (o : Option TreeNode) → HasMix formats (child root p) image was → mix_of (get tree.nodes p) ≡ mix_of o
          → IsNodeOf formats (child root p) has.made message o → IsFoundAgain was (mix_of o)
      node_found p was message None mix is node = tt
      node_found p was message (Some unknown_file) mix is node = tt
      node_found p was message (Some (file_mailbox driver m)) mix is node = tt
      node_found p was message (Some (folder d)) mix is node = mix_found p was d.mix mix is node.mix

      pub finds_mix : FindsMix survives tree
      finds_mix = record {
        each = λ p is. node_found p (mix_of (get survives.nodes p)) (is_message root has.made p) (get tree.nodes p) (agrees.each p is) refl (has.has_tree.nodes p is).is;
      }

    module _ (rooted : IsRooted image) where
      -- where no directory stands no mark does
      unmarked : (p : List ℕ) → directory_test (node_at has.made (child root p)) ≡ false → IsUnmarked (child root p) has.made
      unmarked p no_directory = ap bytes_of (has.has_inbox.elsewhere (mark_of (child root p)) (special_no_inbox p (codes ".mixmeta") meta_plain refl)) ∙ at (node_at image (mark_of (child root p))) refl
        where
          at : (n : Node) → node_at image (mark_of (child root p)) ≡ n → bytes_at image (mark_of (child root p)) ≡ None
          at nothing here = ap bytes_of here
          at directory here = ap bytes_of here
          at (file bytes) here = absurd (false≢true (sym no_directory ∙ directory_made p
              (ap (is_directory image) (sym (parent_child (child root p) (codes ".mixmeta") meta_plain)) ∙ rooted.above (mark_of (child root p)) (λ none. there bytes (sym here ∙ none)) (child_no_top root p (codes ".mixmeta") meta_plain))))
            where
              there : (bytes : List ℕ) → file bytes ≡ nothing → ⊥
              there bytes is = cc

      marked_mix : (p : List ℕ) (o : Option Meaning) → HasMeaning formats Mix (mark_of (child root p)) (child root p) has.made o → HasMix formats (child root p) has.made o
      marked_mix p None is = no_bytes (bytes_at has.made (mark_of (child root p))) is
      marked_mix p (Some (Err fault)) is = is.1
      marked_mix p (Some (Ok known)) is = (known, is.1, same_contents known)

      node_mix : (p : List ℕ) (message : Bool) → (message ≡ true → (bytes : List ℕ) × (node_at has.made (child root p) ≡ file bytes)) → (o : Option TreeNode)
          → IsNodeOf formats (child root p) has.made message o → HasMix formats (child root p) has.made (mix_of o)
      node_mix p message shown None (inl none) = unmarked p (ap directory_test none)
      node_mix p message shown None (inr is) = let f = shown is in unmarked p (ap directory_test f.1)
      node_mix p message shown (Some unknown_file) node = unmarked p (ap directory_test node.1.1)
      node_mix p message shown (Some (file_mailbox driver m)) node = unmarked p (ap directory_test node.1.1)
      node_mix p message shown (Some (folder d)) node = marked_mix p d.mix node.mix

      made_mix : HasMixMailboxes formats root tree has.made
      made_mix = record { each = λ p is. node_mix p (is_message root has.made p) (message_file root has.made p) (get tree.nodes p) (has.has_tree.nodes p is).is }

      -- the mix mailboxes that reads see are those of the tree
      pub mix_seen : HasMixMailboxes formats root tree image
      mix_seen = mix_beside has.made image beside_made made_mix

  -- ---- At rest

  pub rest_alike : (disk : Disk) → IsAtRest disk → IsSound disk → HasMailboxes formats root tree (seen disk) → IsTreeAlike formats root tree disk
  rest_alike disk rest sound has = record {
    none_pending = record { none_pending = rest.none_pending };
    seen_has = seen_mix;
    alike = λ p is. at p (mix_of (get tree.nodes p)) (seen_mix.each p is);
  }
    where
      seen_mix : HasMixMailboxes formats root tree (seen disk)
      seen_mix = mix_seen (seen disk) has (rooted_seen disk sound)

      at : (p : List ℕ) (o : Option Meaning) → HasMix formats (child root p) (seen disk) o → IsMixAlike (child root p) disk o
      at p None has = record { each = λ image left. ap bytes_of (rest_seen disk rest image left (mark_of (child root p))) ∙ has }
      at p (Some meaning) has = record { each = λ image left q own. rest_seen disk rest image left q }

  -- ---- INBOX is made

  module _ (a : Disk) (has : HasMailboxes formats root tree (seen a)) where
    left_beside : (image : Image) → (l : IsLeftOrMade (inbox_of root) a image) → IsBeside l.before image
    left_beside image l = record { elsewhere = l.elsewhere; here = λ meaning some. ⊎_elim (λ same. same) (λ made. absurd (made_no_mix (seen a) has made.0 meaning some)) l.here }

    module _ (alike : IsTreeAlike formats root tree a) where
      -- whatever a crash leaves has the mix mailboxes
      pub left_mix : (image : Image) → IsLeftOrMade (inbox_of root) a image → HasMixMailboxes formats root tree image
      left_mix image l = mix_beside l.before image (left_beside image l) (agreed formats laws a l.before l.was_left root tree alike)

      -- and they are alike again
      pub alike_made : (b : Disk) → IsMade (inbox_of root) a b → IsTreeAlike formats root tree b
      alike_made b made = record {
        none_pending = made.durable alike.none_pending;
        seen_has = mix_beside (seen a) (seen b) beside alike.seen_has;
        alike = λ p is. at p (mix_of (get tree.nodes p)) refl (alike.alike p is);
      }
        where
          beside : IsBeside (seen a) (seen b)
          beside = record { elsewhere = λ q apart. made.elsewhere.each q apart; here = λ meaning some. stays_inbox (seen a) has (seen b) made.inbox meaning some }

          at : (p : List ℕ) (o : Option Meaning) → mix_of (get tree.nodes p) ≡ o → IsMixAlike (child root p) a o → IsMixAlike (child root p) b o
          at p None is was = record {
            each = λ image left.
                let l = made.left.each image left in
                ap bytes_of (mark_agrees l.before image (left_beside image l) p) ∙ was.each l.before l.was_left;
          }
          at p (Some meaning) is was = record {
            each = λ image left q own.
                let l = made.left.each image left in
                own_agrees l.before image (left_beside image l) p meaning is q own ∙ was.each l.before l.was_left q own ∙ sym (own_agrees (seen a) (seen b) beside p meaning is q own);
          }
