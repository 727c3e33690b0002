-- Messages that are unseen, counted one by one.
use Rattle.std.proofs.Common.{ℕ, suc, List, [], ◌∷◌, ◌+◌, ◌≡◌, Some, refl, ◌∙◌, ap, not, drop, length, slice_get, if◌then◌else◌, Bool, true, false}
use Rattle.std.specs.List.{filter}
use Rattle.imap_reply.specs.declared.reply.Reply.TheVariants as reply
use Rattle.store_trait.specs.declared.store.Info.{Info}
use Rattle.imap_session.specs.Select.{count_unseen, first_unseen}
use Rattle.imap_session.proofs.Places.{rest_from}

is_seen : (b : Bool) → not b ≡ false → b ≡ true
is_seen true is = refl
is_seen false is = absurd (cc)

is_unseen : (b : Bool) → not b ≡ true → b ≡ false
is_unseen true is = absurd (cc)
is_unseen false is = refl

module _ (infos : List Info) (place : ℕ) (info : Info) (is : slice_get infos place ≡ Some info) where
  pub seen_next : (number : ℕ) → not info.flags.seen ≡ false → first_unseen number (drop place infos) ≡ first_unseen (number + 1) (drop (place + 1) infos)
  seen_next number seen = ap (first_unseen number) (rest_from infos place info is)
      ∙ ap (λ b. if b then first_unseen (number + 1) (drop (place + 1) infos) else reply.Unseen number ∷ []) (is_seen info.flags.seen seen)

  pub unseen_here : (number : ℕ) → not info.flags.seen ≡ true → first_unseen number (drop place infos) ≡ reply.Unseen number ∷ []
  unseen_here number unseen = ap (first_unseen number) (rest_from infos place info is)
      ∙ ap (λ b. if b then first_unseen (number + 1) (drop (place + 1) infos) else reply.Unseen number ∷ []) (is_unseen info.flags.seen unseen)

  abbrev rest : List Info
  rest = filter (λ (info : Info). not info.flags.seen) (drop (place + 1) infos)

  pub seen_counts : not info.flags.seen ≡ false → count_unseen (drop place infos) ≡ count_unseen (drop (place + 1) infos)
  seen_counts seen = ap count_unseen (rest_from infos place info is) ∙ ap (λ b. length (if b then info ∷ rest else rest)) seen

  pub unseen_counts : not info.flags.seen ≡ true → count_unseen (drop place infos) ≡ suc (count_unseen (drop (place + 1) infos))
  unseen_counts unseen = ap count_unseen (rest_from infos place info is) ∙ ap (λ b. length (if b then info ∷ rest else rest)) unseen
