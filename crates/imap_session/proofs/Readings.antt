-- What reads of texts leave, and what they give.
use Rattle.std.proofs.Common.{ℕ, zero, suc, List, [], ◌∷◌, ◌++◌, ◌≡◌, refl, sym, ◌∙◌, ap, subst, arith, map, length, take, slice_get, Option, Some, None, Result}
use Rattle.std.proofs.lemmas.List.{take_all}
use Rattle.file_model.specs.Disk.{Disk, seen}
use Rattle.file_model.specs.Arrived.{Arrived}
use Rattle.file_model.specs.Histories.{World, History, Now, Passed}
use Rattle.mail_types.specs.declared.message.Record.{Record}
use Rattle.store_trait.specs.Forms.{Forms}
use Rattle.store_trait.specs.Laws.{IsView}
use Rattle.store_trait.specs.Promises.{GivesText}
use Rattle.store_trait.specs.Views.{View, info_of, size_in, size_at, text_in, text_at}
use Rattle.any_store.specs.Choice.{Formats}
use Rattle.imap_reply.specs.declared.reply.Reply.{Reply}
use Rattle.imap_session.specs.declared.refusal.Refusal.{Refusal}
use Rattle.imap_session.specs.declared.session.Open.{Open}
use Rattle.imap_session.specs.declared.session.Session.{Session}
use Rattle.imap_session.specs.Doing.{Replying, HasReplied, IfAnswered, Does}
use Rattle.imap_session.specs.Reading.{ReadsOn}
use Rattle.imap_session.specs.Standing.{IsSelection, StandsFor}
use Rattle.imap_session.specs.State.{Selected, State, Outcome}
use Rattle.imap_session.proofs.Doing.{answered_as, untold_passed}

-- ---- A whole text

size_there : (records : List Record) (place : ℕ) → size_in (slice_get (map info_of records) place) ≡ length (text_in (slice_get records place))
size_there [] place = refl
size_there (r ∷ records) zero = refl
size_there (r ∷ records) (suc place) = size_there records place

-- a text where its store stands is as long as the store tells
pub text_size : (forms : Forms) (was : View) (place : ℕ) (w : World) → IsView forms was → was.stands (seen w.disk) → length (text_at (was.mailbox (seen w.disk)) place) ≡ size_at was.summary place
text_size forms was place w law stands =
    sym (size_there (was.mailbox (seen w.disk)).records place) ∙ ap (λ s. size_at s place) (law.summarized (seen w.disk) stands)

-- the front of two texts is the first
first_of : (xs ys : List ℕ) → take (length xs) (xs ++ ys) ≡ xs
first_of [] ys = refl
first_of (x ∷ xs) ys = ap (λ rest. x ∷ rest) (first_of xs ys)

-- the text that a read has put at the front of a vector of its size
pub whole_text : (forms : Forms) (was : View) (place len : ℕ) (before after behind : List ℕ) (n : ℕ) (h : History) → IsView forms was → len ≡ size_at was.summary place → length after ≡ len
    → Now h (λ w. was.stands (seen w.disk)) → GivesText was place 0 before after h n → Now h (λ w. take len (after ++ behind) ≡ text_at (was.mailbox (seen w.disk)) place)
whole_text forms was place len before after behind n [] law long same told gives = tt
whole_text forms was place len before after behind n (w ∷ past) law long same told gives =
    let size = text_size forms was place w law told in
    let front : take len (after ++ behind) ≡ after = ap (λ k. take k (after ++ behind)) (sym same) ∙ first_of after behind in
    front ∙ sym (take_all n after (omega (arith, gives.count, long, same))) ∙ gives.bytes
    ∙ take_all n (text_at (was.mailbox (seen w.disk)) place) (omega (arith, gives.count, long, same, size))

-- ---- One read after the other

pub reads_none : (was : View) (h : History) → ReadsOn was was h
reads_none was [] = record { same = record { driver = refl; path = refl }; summary = refl; works = λ works. works; stands = tt }
reads_none was (w ∷ past) = record { same = record { driver = refl; path = refl }; summary = refl; works = λ works. works; stands = λ stands. (stands, refl) }

pub reads_then : (a b c : View) (h : History) → ReadsOn a b h → ReadsOn b c h → ReadsOn a c h
reads_then a b c [] one two = record {
  same = record { driver = two.same.driver ∙ one.same.driver; path = two.same.path ∙ one.same.path };
  summary = two.summary ∙ one.summary;
  works = λ works. two.works (one.works works);
  stands = tt;
}
reads_then a b c (w ∷ past) one two = record {
  same = record { driver = two.same.driver ∙ one.same.driver; path = two.same.path ∙ one.same.path };
  summary = two.summary ∙ one.summary;
  works = λ works. two.works (one.works works);
  stands = λ stands. let here = one.stands stands in let there = two.stands here.0 in (there.0, there.1 ∙ here.1);
}

-- ---- A session behind reads

module _ {S : Type 0} (formats : Formats) (view : S → View) where
  -- the selected mailbox with a store that was read
  abbrev pub with_store : Open S → S → Open S
  with_store o store = record o { store = store }

  selection_on : (state : State) (o : Open S) (store : S) (w : World) (past : History) (s : Option Selected) → ReadsOn (view o.store) (view store) (w ∷ past)
      → IsSelection formats view state (Some o) (seen w.disk) s → IsSelection formats view state (Some (with_store o store)) (seen w.disk) s
  selection_on state o store w past None reads is = is
  selection_on state o store w past (Some s) reads is =
      let on = reads.stands is.store.stands in
      record {
        name = is.name;
        read_only = is.read_only;
        recent = is.recent;
        store = record {
          driver = reads.same.driver ∙ is.store.driver;
          path = reads.same.path ∙ is.store.path;
          works = reads.works is.store.works;
          stands = on.0;
          mailbox = on.1 ∙ is.store.mailbox;
          written = is.store.written;
        };
        in_tree = is.in_tree;
      }

  -- it stands for the same state
  pub stands_on : (session : Session S) (o : Open S) (store : S) (h : History) (state : State) → session.selected ≡ Some o → ReadsOn (view o.store) (view store) h
      → Now h (λ w. StandsFor formats view session w.disk state) → Now h (λ w. StandsFor formats view (record session { selected = Some (with_store o store) }) w.disk state)
  stands_on session o store [] state some reads now = tt
  stands_on session o store (w ∷ past) state some reads now = record {
    root = now.root;
    moment = now.moment;
    some = now.some;
    fresh_is = now.fresh_is;
    some_root = now.some_root;
    stands = now.stands;
    tree = now.tree;
    selected = selection_on state o store w past state.selected reads (subst (λ selected. IsSelection formats view state selected (seen w.disk) state.selected) some now.selected);
  }

  pub some_stands_on : (session : Session S) (o : Open S) (store : S) (h : History) → session.selected ≡ Some o → ReadsOn (view o.store) (view store) h
      → Now h (λ w. (state : State) × StandsFor formats view session w.disk state) → Now h (λ w. (state : State) × StandsFor formats view (record session { selected = Some (with_store o store) }) w.disk state)
  some_stands_on session o store [] some reads now = tt
  some_stands_on session o store (w ∷ past) some reads now = (now.0, stands_on session o store (w ∷ past) now.0 some reads now.1)

  -- also with the history as the reads left it
  pub some_behind : (session : Session S) (o : Open S) (store : S) (old new : History) → session.selected ≡ Some o → new ≡ old → ReadsOn (view o.store) (view store) old
      → Now old (λ w. (state : State) × StandsFor formats view session w.disk state) → Now new (λ w. (state : State) × StandsFor formats view (record session { selected = Some (with_store o store) }) w.disk state)
  some_behind session o store old new some same reads now =
      subst (λ h. Now h (λ w. (state : State) × StandsFor formats view (record session { selected = Some (with_store o store) }) w.disk state)) (sym same) (some_stands_on session o store old some reads now)

-- what is done behind reads, and leads to the same as from before them
pub does_behind : (formats : Formats) (before mid after : Disk → State → Type 0) (lead other : State → Outcome) (result : Result Reply Refusal) (waits : List ℕ) (old new : History)
    → ((state : State) → Now old (λ w. before w.disk state) → Now old (λ w. mid w.disk state)) → ((state : State) → Now old (λ w. before w.disk state) → Now old (λ w. lead state ≡ other state))
    → Does formats mid after lead result waits old new → Does formats before after other result waits old new
does_behind formats before mid after lead other result waits [] new on same does = record {
  instants = λ state now. untold_passed (Replying formats state (lead state)) (Replying formats state (other state)) new (does.instants state tt);
  done = λ state now. answered_as result (λ last. Arrived (HasReplied formats after state (lead state) last waits) [] new) (λ last. Arrived (HasReplied formats after state (other state) last waits) [] new)
      (λ last is. is) (does.done state tt);
}
does_behind formats before mid after lead other result waits (w ∷ past) new on same does = record {
  instants = λ state now. subst (λ o. Passed (Replying formats state o) (w ∷ past) new) (same state now) (does.instants state (on state now));
  done = λ state now. subst (λ o. IfAnswered result (λ last. Arrived (HasReplied formats after state o last waits) (w ∷ past) new)) (same state now) (does.done state (on state now));
}
