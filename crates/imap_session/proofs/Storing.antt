-- What STORE may ask of a mailbox: names that go on from those that stand, and places that rise.
use Rattle.std.proofs.Common.{ℕ, suc, Bool, true, false, List, [], ◌∷◌, ◌++◌, ◌+◌, ◌≤◌, ◌<◌, ◌≡◌, ◌||◌, ◌&&◌, ◌==◌, refl, sym, ◌∙◌, subst, append_assoc, length, length-append, nat_le, nat_lt, slice_get, arith, if◌then◌else◌, Option, Some, None}
use Rattle.std.proofs.lemmas.Bool.Decides.{nat_tests}
use Rattle.std.proofs.lemmas.List.{append-nil}
use Rattle.imap_arguments.specs.declared.flag.FlagList.{FlagList}
use Rattle.imap_arguments.specs.Sets.{set_has}
use Rattle.imap_arguments.specs.declared.set.Set.{Set}
use Rattle.imap_syntax.specs.declared.command.Mode.{Mode}
use Rattle.mail_types.specs.declared.driver.Keeps.{Keeps}
use Rattle.mail_types.specs.declared.message.FlagChange.{FlagChange}
use Rattle.mail_types.specs.declared.driver.Driver.{Driver}
use Rattle.mail_types.specs.declared.driver.Driver.TheVariants.{Unix}
use Rattle.mail_types.specs.Drivers.{keeps_of}
use Rattle.mail_types.specs.Lists.{RiseBelow, places_of}
use Rattle.store_trait.specs.declared.store.Info.{Info}
use Rattle.store_trait.specs.Changes.{IsNextWords, CanChange}
use Rattle.imap_session.specs.Names.{has_name, grown, numbers_of}
use Rattle.imap_session.specs.Sets.{number_at, largest, named_from, named_places}
use Rattle.imap_session.specs.Told.{told_names, told_change}
use Rattle.imap_session.specs.Store.{adds_names, stored_flags, stored_words, same_flags, change_of, changes_at}

-- ---- The names

pub same_words : (keeps : Keeps) (names : List (List ℕ)) → length names ≤ keeps.words → IsNextWords keeps names names
same_words keeps names few = record { more = []; begins = sym (append-nil names); adds = tt; few = few }

one_more_name : (keeps : Keeps) (names : List (List ℕ)) (name : List ℕ) (next : List (List ℕ)) → has_name names name ≡ false → IsNextWords keeps (names ++ name ∷ []) next → IsNextWords keeps names next
one_more_name keeps names name next new after = record {
  more = name ∷ after.more;
  begins = after.begins ∙ append_assoc names (name ∷ []) after.more;
  adds = (new, after.adds);
  few = after.few;
}

roomy : (names : List (List ℕ)) (name : List ℕ) (room : ℕ) → nat_le room (length names) ≡ false → length (names ++ name ∷ []) ≤ room
roomy names name room test = subst (λ n. n ≤ room) (sym (length-append names (name ∷ []))) (below (length names) room test)
  where
    below : (n room : ℕ) → nat_le room n ≡ false → n + 1 ≤ room
    below n room test = grind (arith, nat_tests, test)

grow_one : (keeps : Keeps) (names : List (List ℕ)) (name : List ℕ) (given : List (List ℕ)) (has full : Bool) → has_name names name ≡ has → nat_le keeps.words (length names) ≡ full
    → IsNextWords keeps names (grown keeps.words names given) → (nat_le keeps.words (length names) ≡ false → IsNextWords keeps (names ++ name ∷ []) (grown keeps.words (names ++ name ∷ []) given))
    → IsNextWords keeps names (grown keeps.words (if has || full then names else names ++ name ∷ []) given)
grow_one keeps names name given true full has_is full_is stays grows = stays
grow_one keeps names name given false true has_is full_is stays grows = stays
grow_one keeps names name given false false has_is full_is stays grows = one_more_name keeps names name (grown keeps.words (names ++ name ∷ []) given) has_is (grows full_is)

pub grown_words : (keeps : Keeps) (names given : List (List ℕ)) → length names ≤ keeps.words → IsNextWords keeps names (grown keeps.words names given)
grown_words keeps names [] few = same_words keeps names few
grown_words keeps names (name ∷ given) few =
    grow_one keeps names name given (has_name names name) (nat_le keeps.words (length names)) refl refl (grown_words keeps names given few)
    (λ room. grown_words keeps (names ++ name ∷ []) given (roomy names name keeps.words room))

pub next_words : (keeps : Keeps) (names given : List (List ℕ)) (adds : Bool) → length names ≤ keeps.words → IsNextWords keeps names (if adds then grown keeps.words names given else names)
next_words keeps names given true few = grown_words keeps names given few
next_words keeps names given false few = same_words keeps names few

pub grown_few : (room : ℕ) (names given next : List (List ℕ)) → next ≡ grown room names given → length names ≤ room → length next ≤ room
grown_few room names given next is few = subst (λ n. length n ≤ room) (sym is) (grown_words (record (keeps_of Unix) { words = room }) names given few).few

-- ---- The places

later : (least more bound : ℕ) (places : List ℕ) → least ≤ more → RiseBelow more bound places → RiseBelow least bound places
later least more bound [] fits rise = tt
later least more bound (place ∷ places) fits rise = (omega (arith, fits, rise.0), rise.1, rise.2)

one_step : (place n : ℕ) (rest : List ℕ) → RiseBelow (place + 1) (place + suc n) rest → (b : Bool) → RiseBelow place (place + suc n) (if b then place ∷ rest else rest)
one_step place n rest below true = (omega arith, omega arith, below)
one_step place n rest below false = later place (place + 1) (place + suc n) rest (omega arith) below

named_rise : (uid : Bool) (most : ℕ) (set : Set) (place : ℕ) (infos : List Info) → RiseBelow place (place + length infos) (named_from uid most set place infos)
named_rise uid most set place [] = tt
named_rise uid most set place (info ∷ rest) =
    one_step place (length rest) (named_from uid most set (place + 1) rest)
    (subst (λ n. RiseBelow (place + 1) n (named_from uid most set (place + 1) rest)) (bound place (length rest)) (named_rise uid most set (place + 1) rest))
    (set_has most (number_at uid place info) set)
  where
    bound : (place n : ℕ) → place + 1 + n ≡ place + suc n
    bound place n = omega arith

pub places_rise : (uid : Bool) (set : Set) (infos : List Info) → RiseBelow 0 (length infos) (named_places uid set infos)
places_rise uid set infos = subst (λ n. RiseBelow 0 n (named_places uid set infos)) (all_of (length infos)) (named_rise uid (largest uid infos) set 0 infos)
  where
    all_of : (n : ℕ) → 0 + n ≡ n
    all_of n = omega arith

-- a change or none, in front of those of later places
in_front : (least bound place : ℕ) (change : FlagChange) (rest : List FlagChange) (b : Bool) → change.place ≡ place → least ≤ place → place < bound → RiseBelow (place + 1) bound (places_of rest)
    → RiseBelow least bound (places_of ((if b then [] else change ∷ []) ++ rest))
in_front least bound place change rest true at low high rise = later least (place + 1) bound (places_of rest) (omega (arith, low)) rise
in_front least bound place change rest false at low high rise =
    subst (λ n. RiseBelow least bound (n ∷ places_of rest)) (sym at) (low, high, rise)

change_rise : (mode : Mode) (given : FlagList) (names : List (List ℕ)) (least bound place : ℕ) (info : Option Info) (rest : List FlagChange) → least ≤ place → place < bound → RiseBelow (place + 1) bound (places_of rest)
    → RiseBelow least bound (places_of (change_of mode given names place info ++ rest))
change_rise mode given names least bound place None rest low high rise = later least (place + 1) bound (places_of rest) (omega (arith, low)) rise
change_rise mode given names least bound place (Some info) rest low high rise =
    let flags = stored_flags mode given.flags info.flags in
    let words = stored_words mode (numbers_of given.words names) info.words in
    in_front least bound place (record { place = place; flags = flags; words = words }) rest (same_flags flags info.flags && (words == info.words)) refl low high rise

pub changes_rise : (mode : Mode) (given : FlagList) (names : List (List ℕ)) (infos : List Info) (least bound : ℕ) (places : List ℕ) → RiseBelow least bound places
    → RiseBelow least bound (places_of (changes_at mode given names infos places))
changes_rise mode given names infos least bound [] rise = tt
changes_rise mode given names infos least bound (place ∷ places) rise =
    change_rise mode given names least bound place (slice_get infos place) (changes_at mode given names infos places) rise.0 rise.1 (changes_rise mode given names infos (place + 1) bound places rise.2)

-- ---- The change

pub told_can : (mode : Mode) (given : FlagList) (driver : Driver) (words : List (List ℕ)) (infos : List Info) (places : List ℕ) (count : ℕ) → length words ≤ (keeps_of driver).words
    → RiseBelow 0 count places → CanChange (keeps_of driver) words count (told_change mode given driver words infos places)
told_can mode given driver words infos places count few rise =
    let names = told_names mode driver words places given.words in
    (next_words (keeps_of driver) words given.words (adds_names mode && nat_lt 0 (length places)) few, changes_rise mode given names infos 0 count places rise)
