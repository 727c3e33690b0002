-- The mailboxes that a directory has with an INBOX: there are some, and one tree of them.
use Rattle.std.proofs.Common.{◌≡◌, ◌≢◌, ◌⊎◌, inl, inr, ℕ, List, [], refl, sym, ◌∙◌, ap}
use Rattle.std.specs.Prelude.{unwrap_or}
use Rattle.std.specs.FinMap.{get}
use Rattle.file_model.specs.Images.{Image, Node, nothing, file, directory, node_at, bytes_of}
use Rattle.file_model.specs.Paths.{child, parent}
use Rattle.file_model.proofs.Names.{cases_path}
use Rattle.store_trait.proofs.OtherBytes.{with_bytes, node_with_same, node_with_other}
use Rattle.any_store.specs.Choice.{Formats, mh_mark_of}
use Rattle.mail_tree.specs.Subscriptions.{subscribed_in}
use Rattle.mail_tree.specs.Trees.{Tree, HasTree, list_of}
use Rattle.mail_tree.proofs.EachTree.{has_tree}
use Rattle.mail_tree.proofs.Made.{message_same}
use Rattle.mail_tree.proofs.Nodes.{AreFormats, node_copied}
use Rattle.mail_tree.proofs.OneTree.{one_tree}
use Rattle.imapd_core.specs.Runs.{inbox_of, first_node, HasInbox, HasMailboxes}

module _ (formats : Formats) (laws : AreFormats formats) (root : List ℕ) where
  -- an image with the same at each path has the same tree
  pub tree_same : (one other : Image) → ((q : List ℕ) → node_at other q ≡ node_at one q) → (tree : Tree) → HasTree formats root one tree → HasTree formats root other tree
  tree_same one other same tree has = record {
    nodes = λ path is. node_copied formats laws root one other path path (get tree.nodes path)
        (record {
          here = same (child root path);
          special = λ name plain no_part. inl (same (child (child root path) name));
          inside = inr (λ name plain. same (child (child root path) name));
        })
        (message_same root one other path (same (child root path)) (same (mh_mark_of (child root (parent path))))) (has.nodes path is);
    keys = has.keys;
    subscribed = has.subscribed ∙ ap (λ n. subscribed_in (unwrap_or (bytes_of n) [])) (sym (same (list_of root)));
  }

  -- two images that have an INBOX as one had it, and all else as that one, are the same at each path
  pub inbox_same : (was one other : Image) → HasInbox root was one → HasInbox root was other → (q : List ℕ) → node_at other q ≡ node_at one q
  inbox_same was one other is also q = at (cases_path q (inbox_of root))
    where
      at : (q ≡ inbox_of root) ⊎ (q ≢ inbox_of root) → node_at other q ≡ node_at one q
      at (inl here) = ap (node_at other) here ∙ also.inbox ∙ sym is.inbox ∙ sym (ap (node_at one) here)
      at (inr apart) = also.elsewhere q apart ∙ sym (is.elsewhere q apart)

  with_inbox : (image : Image) → (made : Image) × HasInbox root image made
  with_inbox image = at (node_at image (inbox_of root)) refl
    where
      at : (n : Node) → node_at image (inbox_of root) ≡ n → (made : Image) × HasInbox root image made
      at nothing is = (
        with_bytes (inbox_of root) [] image,
        record { inbox = node_with_same (inbox_of root) [] image ∙ sym (ap first_node is); elsewhere = λ q apart. node_with_other (inbox_of root) [] image q apart },
      )
      at (file bytes) is = (image, record { inbox = is ∙ sym (ap first_node is); elsewhere = λ q apart. refl })
      at directory is = (image, record { inbox = is ∙ sym (ap first_node is); elsewhere = λ q apart. refl })

  -- each image has mailboxes
  pub has_mailboxes : (image : Image) → (tree : Tree) × HasMailboxes formats root tree image
  has_mailboxes image =
      let made = with_inbox image in
      let tree = has_tree formats laws.reads made.0 root in
      (tree.0, record { made = made.0; has_inbox = made.1; has_tree = tree.1 })

  -- and one tree of them
  pub one_mailboxes : (image : Image) (tree other : Tree) → HasMailboxes formats root tree image → HasMailboxes formats root other image → tree ≡ other
  one_mailboxes image tree other is also =
      one_tree formats laws.reads is.made root tree other is.has_tree (tree_same also.made is.made (inbox_same image also.made is.made also.has_inbox is.has_inbox) other also.has_tree)
