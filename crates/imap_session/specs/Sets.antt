-- The messages that a set names (RFC 3501, section 9, sequence-set). Messages stand at places, counted from 0.
use Rattle.std.specs.Prelude.{ℕ, Bool, false, List, [], ◌∷◌, ◌+◌, ◌==◌, ◌||◌, nat_lt, if◌then◌else◌, length, map}
use Rattle.std.specs.List.{list_any}
use Rattle.store_trait.specs.declared.store.Info.{Info}
use Rattle.mail_types.specs.Opening.{greatest}
use Rattle.imap_arguments.specs.Sets.{set_has}
use Rattle.imap_arguments.specs.declared.set.End.{End}
use Rattle.imap_arguments.specs.declared.set.End.TheVariants.{Number, Largest}
use Rattle.imap_arguments.specs.declared.set.Set.{Set}
use Rattle.imap_reply.specs.declared.reply.Reply.TheVariants as reply
use Rattle.imap_session.specs.State.{Unless}
use Rattle.imap_session.specs.Refusals.{unless_true}

-- the number by which a command names the message at a place: its UID behind UID, else its message number
abbrev pub number_at : (uid : Bool) → (place : ℕ) → Info → ℕ
number_at uid place info = if uid then info.uid else place + 1

-- what `*` stands for
abbrev pub largest : (uid : Bool) → List Info → ℕ
largest uid infos = if uid then greatest (map (λ (i : Info). i.uid) infos) else length infos

-- the places from one on whose messages a set names
abbrev pub named_from : (uid : Bool) → (largest : ℕ) → Set → (place : ℕ) → List Info → List ℕ
named_from uid most set place [] = []
named_from uid most set place (info ∷ rest) =
    if set_has most (number_at uid place info) set then place ∷ named_from uid most set (place + 1) rest else named_from uid most set (place + 1) rest

abbrev pub named_places : (uid : Bool) → Set → List Info → List ℕ
named_places uid set infos = named_from uid (largest uid infos) set 0 infos

-- an end past the last message: a greater number, or `*` where there is none
abbrev pub is_past : (count : ℕ) → End → Bool
is_past count (Number n) = nat_lt count n
is_past count Largest = count == 0

abbrev pub names_past : (count : ℕ) → Set → Bool
names_past count set = list_any (λ (range : End × End). is_past count range.0 || is_past count range.1) set.ranges

-- message numbers must be there; UIDs that aren't there are ignored
abbrev pub unless_past : List ℕ → (uid : Bool) → Set → List Info → Unless (Unit {0})
unless_past tag uid set infos = unless_true (reply.NoMessage tag) (if uid then false else names_past (length infos) set)
