-- Lists of keyword names that go on with a list.
use Rattle.std.proofs.Common.{◌≡◌, ◌≤◌, ◌<◌, ◌+◌, ◌++◌, ◌∷◌, List, ℕ, [], codes, true, false, refl, length, sym, subst, ap, ◌∙◌, arith, append-nil}
use Rattle.std.proofs.lemmas.List.{length-append}
use Rattle.std.specs.List.{list_any, list_all}
use Rattle.file_model.specs.Paths.{is_top, last_part, split_path}
use Rattle.file_model.specs.Reserved.{is_reserved_name}
use Rattle.mail_fields.specs.Keyword.{same_keyword}
use Rattle.mail_types.specs.declared.driver.Keeps.{Keeps}
use Rattle.mail_types.specs.declared.message.FlagChange.{FlagChange}
use Rattle.mail_types.specs.declared.message.NewMessage.{NewMessage}
use Rattle.mail_types.specs.Lists.{RiseBelow, places_of}
use Rattle.mail_types.specs.Mailboxes.{has_no_nul}
use Rattle.store_trait.specs.declared.change.Change.{Change}
use Rattle.store_trait.specs.Runs.{CanRun}
use Rattle.store_trait.specs.declared.change.Change.TheVariants.{Append, SetFlags, Expunge}
use Rattle.store_trait.specs.Changes.{IsNextWords}

pub same_next : (keeps : Keeps) (old new : List (List ℕ)) → new ≡ old → length old ≤ keeps.words → IsNextWords keeps old new
same_next keeps old new same few = record { more = []; begins = same ∙ sym (append-nil old); adds = tt; few = omega (arith, few, ap (λ (l : List (List ℕ)). length l) same) }

pub more_next : (keeps : Keeps) (old new : List (List ℕ)) (name : List ℕ) → new ≡ old ++ name ∷ [] → list_any (same_keyword name) old ≡ false → length old < keeps.words → IsNextWords keeps old new
more_next keeps old new name same free room = record { more = name ∷ []; begins = same; adds = (free, tt); few = omega (arith, room, ap (λ (l : List (List ℕ)). length l) same, length-append old (name ∷ [])) }

pub below_top : is_top (codes "/m/box") ≡ false
unfolding split_path
below_top = refl

pub free_name : is_reserved_name (last_part (codes "/m/box")) ≡ false
unfolding split_path is_reserved_name
free_name = refl

-- a place that is 0 is below a number to which one was added
low_place : (count one : ℕ) → one ≡ 1 → 0 < count + one
low_place count one is = omega (arith, is)

-- an append under these names, then the flags of the first message, and its removal
pub can_run_three : (keeps : Keeps) (words next same : List (List ℕ)) (count : ℕ) (new : List NewMessage) (flags : List FlagChange) (places : List ℕ) (all : List Change)
    → all ≡ Append new next ∷ SetFlags flags same ∷ Expunge places ∷ []
    → IsNextWords keeps words next → same ≡ next → length new ≡ 1 → list_all (λ (message : NewMessage). has_no_nul message.text) new ≡ true → places_of flags ≡ 0 ∷ [] → places ≡ 0 ∷ []
    → CanRun keeps words count all
can_run_three keeps words next same count new flags places all whole is copy one clean first third =
    let low : RiseBelow 0 (count + length new) (0 ∷ []) = (omega (arith), low_place count (length new) one, tt) in
    subst (CanRun keeps words count) (sym whole) (
      (is, clean),
      (
        (same_next keeps next same copy is.few, subst (RiseBelow 0 (count + length new)) (sym first) low),
        (subst (RiseBelow 0 (count + length new)) (sym third) low, tt),
      ),
    )
