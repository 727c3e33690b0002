-- What COPY reads, and what it leads to.
use Rattle.std.proofs.Common.{ℕ, zero, suc, List, [], ◌∷◌, ◌++◌, ◌+◌, ◌≡◌, ◌<◌, refl, sym, ◌∙◌, ap, subst, true, false, Bool, if◌then◌else◌, ◌&&◌, map, length, slice_get, Some, None, Result}
use Rattle.std.specs.List.{AllByRecursion, filter}
use Rattle.std.proofs.lemmas.List.{append-nil, append_assoc}
use Rattle.file_model.specs.Disk.{Disk, seen}
use Rattle.file_model.specs.Histories.{History, Now}
use Rattle.mail_types.specs.declared.message.Record.{Record}
use Rattle.mail_types.specs.Lists.{RiseBelow}
use Rattle.mail_types.specs.Mailboxes.{has_no_nul}
use Rattle.store_trait.specs.declared.store.Info.{Info}
use Rattle.store_trait.specs.Forms.{Forms}
use Rattle.store_trait.specs.Laws.{IsView}
use Rattle.store_trait.specs.Views.{View, info_of, text_in, text_at}
use Rattle.imap_session.specs.declared.adding.Brought.{Brought}
use Rattle.imap_session.specs.Adding.{brought_of, brought_from, are_clean, names_among, add, copied, copy_to, copy}
use Rattle.imap_session.specs.Names.{names_of}
use Rattle.store_trait.specs.Promises.{CanAsk}
use Rattle.imap_session.specs.Reading.{ReadsOn}
use Rattle.imap_session.specs.declared.session.Open.{Open}
use Rattle.imap_session.specs.declared.session.Session.{Session}
use Rattle.any_store.specs.Choice.{Formats}
use Rattle.imap_arguments.specs.declared.set.Set.{Set}
use Rattle.imap_reply.specs.declared.reply.Reply.TheVariants as reply
use Rattle.imap_reply.specs.declared.text.NoText.TheVariants as no
use Rattle.mail_tree.specs.Names.{read_name}
use Rattle.imap_reply.specs.declared.reply.Reply.{Reply}
use Rattle.imap_reply.specs.declared.text.Words.{Words}
use Rattle.imap_session.specs.declared.refusal.Refusal.{Refusal}
use Rattle.imap_session.specs.Doing.{Does}
use Rattle.imap_session.specs.Refusals.{or_refused, the_name}
use Rattle.imap_session.specs.Sets.{named_places, names_past, unless_past}
use Rattle.imap_session.specs.Standing.{IsOpen, StandsFor}
use Rattle.imap_session.specs.State.{Selected, State, Outcome, Unless, ◌>>=◌, infos_of, only, or_leaves}
use Rattle.imap_session.proofs.Expunging.{told_infos}
use Rattle.imap_session.proofs.FetchSaid.{told_words, is_past_set, is_there}
use Rattle.imap_session.proofs.Readings.{reads_then, with_store, stands_on, does_behind}
use Rattle.imap_session.proofs.Selections.{is_selected, selects}
use Rattle.imap_session.proofs.Storing.{places_rise}

-- ---- What is read

-- a message by what is told of it and its text
abbrev pub brought_as : (text : List ℕ) → Info → (names : List (List ℕ)) → Brought
brought_as text info names = record { text = text; stamp = info.stamp; flags = info.flags; names = names }

record_told : (records : List Record) (words : List (List ℕ)) (place : ℕ) (info : Info) (text : List ℕ) → slice_get (map info_of records) place ≡ Some info → text ≡ text_in (slice_get records place)
    → brought_as text info (names_of info.words words) ∷ [] ≡ brought_of (slice_get records place) words
record_told [] words place info text told same = absurd (cc)
record_told (r ∷ records) words zero info text told same =
    ap (λ t. brought_as t info (names_of info.words words) ∷ []) same ∙ ap (λ i. brought_as r.text i (names_of i.words words) ∷ []) (one info (info_of r) told)
  where
    one : (a b : Info) → Some b ≡ Some a → a ≡ b
    one a b is = cc
record_told (r ∷ records) words (suc place) info text told same = record_told records words place info text told same

-- the message at a place, as the files have it
pub read_here : (forms : Forms) (was : View) (place : ℕ) (info : Info) (text : List ℕ) (names : List (List ℕ)) (h : History) → IsView forms was → slice_get was.summary.infos place ≡ Some info
    → names ≡ names_of info.words was.summary.words → Now h (λ w. was.stands (seen w.disk)) → Now h (λ w. text ≡ text_at (was.mailbox (seen w.disk)) place)
    → Now h (λ w. brought_as text info names ∷ [] ≡ brought_from (was.mailbox (seen w.disk)) (place ∷ []))
read_here forms was place info text names [] law told are stands same = tt
read_here forms was place info text names (w ∷ past) law told are stands same =
    let m = was.mailbox (seen w.disk) in
    let summary = law.summarized (seen w.disk) stands in
    ap (λ n. brought_as text info n ∷ []) are
    ∙ ap (λ words. brought_as text info (names_of info.words words) ∷ []) (sym (ap (λ s. s.words) summary))
    ∙ record_told m.records m.words place info text (ap (λ s. slice_get s.infos place) summary ∙ told) same
    ∙ sym (append-nil (brought_of (slice_get m.records place) m.words))

-- ---- The names that are kept of a list

-- one more name
pub kept_next : (f : List ℕ → Bool) (among more names rest all : List (List ℕ)) (name : List ℕ) → names ≡ name ∷ rest → more ≡ (if f name then among ++ name ∷ [] else among)
    → among ++ filter f names ≡ all → more ++ filter f rest ≡ all
kept_next f among more names rest all name here is so = by_test (f name) refl
  where
    by_test : (b : Bool) → f name ≡ b → more ++ filter f rest ≡ all
    by_test true at =
        ap (λ l. l ++ filter f rest) (is ∙ ap (λ b. if b then among ++ name ∷ [] else among) at)
        ∙ append_assoc among (name ∷ []) (filter f rest) ∙ ap (λ l. among ++ l) (sym (kept true at)) ∙ ap (λ l. among ++ filter f l) (sym here) ∙ so
      where
        kept : (b : Bool) → f name ≡ b → filter f (name ∷ rest) ≡ (if b then name ∷ filter f rest else filter f rest)
        kept b at = ap (λ b. if b then name ∷ filter f rest else filter f rest) at
    by_test false at =
        ap (λ l. l ++ filter f rest) (is ∙ ap (λ b. if b then among ++ name ∷ [] else among) at)
        ∙ ap (λ l. among ++ l) (sym (ap (λ b. if b then name ∷ filter f rest else filter f rest) at)) ∙ ap (λ l. among ++ filter f l) (sym here) ∙ so

-- ---- One message after the other

clean_more : (items : List Brought) (message : Brought) → are_clean items ≡ true → has_no_nul message.text ≡ true → are_clean (items ++ message ∷ []) ≡ true
clean_more [] message items clean = ap (λ b. b && true) clean
clean_more (b ∷ items) message are clean = both (has_no_nul b.text) (are_clean items) (are_clean (items ++ message ∷ [])) are (λ rest. clean_more items message rest clean)
  where
    both : (one rest other : Bool) → one && rest ≡ true → (rest ≡ true → other ≡ true) → one && other ≡ true
    both true rest other is go_on = go_on is
    both false rest other is go_on = absurd (cc)

-- the messages so far are those of the places so far
abbrev pub ReadSoFar : View → List Brought → (left places : List ℕ) → History → Type 0
ReadSoFar was items left places h = Now h (λ w. was.stands (seen w.disk) → items ++ brought_from (was.mailbox (seen w.disk)) left ≡ brought_from (was.mailbox (seen w.disk)) places)

-- where nothing is left they are all
pub read_all : (was : View) (items : List Brought) (left places : List ℕ) (h : History) → left ≡ [] → ReadSoFar was items left places h
    → Now h (λ w. was.stands (seen w.disk) → items ≡ brought_from (was.mailbox (seen w.disk)) places)
read_all was items left places [] none far = tt
read_all was items left places (w ∷ past) none far =
    λ stands. sym (append-nil items) ∙ ap (λ l. items ++ brought_from (was.mailbox (seen w.disk)) l) (sym none) ∙ far stands

more_read : (was mid : View) (items : List Brought) (message : Brought) (place : ℕ) (left rest places : List ℕ) (h : History) → left ≡ place ∷ rest → ReadsOn was mid h → ReadSoFar was items left places h
    → Now h (λ w. message ∷ [] ≡ brought_from (mid.mailbox (seen w.disk)) (place ∷ [])) → ReadSoFar was (items ++ message ∷ []) rest places h
more_read was mid items message place left rest places [] next reads far gives = tt
more_read was mid items message place left rest places (w ∷ past) next reads far gives = λ stands.
    let m = was.mailbox (seen w.disk) in
    let one : message ∷ [] ≡ brought_of (slice_get m.records place) m.words = gives ∙ ap (λ n. brought_from n (place ∷ [])) (reads.stands stands).1 ∙ append-nil (brought_of (slice_get m.records place) m.words) in
    append_assoc items (message ∷ []) (brought_from m rest) ∙ ap (λ l. items ++ (l ++ brought_from m rest)) one ∙ ap (λ l. items ++ brought_from m l) (sym next) ∙ far stands

-- what a loop over places keeps
pub record Reading (was is : View) (items : List Brought) (left places : List ℕ) (start h : History) : Type 0 where
  pub gives : ReadSoFar was items left places start
  pub clean : are_clean items ≡ true
  pub reads_on : ReadsOn was is start
  pub standing : CanAsk is start
  pub history : h ≡ start

pub reading_on : (was mid is : View) (items more : List Brought) (message : Brought) (place : ℕ) (left rest places : List ℕ) (start h next : History) → left ≡ place ∷ rest → more ≡ items ++ message ∷ []
    → Reading was mid items left places start h → Now h (λ w. message ∷ [] ≡ brought_from (mid.mailbox (seen w.disk)) (place ∷ [])) → has_no_nul message.text ≡ true → ReadsOn mid is h → CanAsk is h → next ≡ h
    → Reading was is more rest places start next
reading_on was mid is items more message place left rest places start h next here more_is far gives clean reads standing same =
    record {
      gives = subst (λ l. ReadSoFar was l rest places start) (sym more_is)
          (more_read was mid items message place left rest places start here far.reads_on far.gives (subst (λ h. Now h (λ w. message ∷ [] ≡ brought_from (mid.mailbox (seen w.disk)) (place ∷ []))) far.history gives));
      clean = ap are_clean more_is ∙ clean_more items message far.clean clean;
      reads_on = reads_then was mid is start far.reads_on (subst (ReadsOn mid is) far.history reads);
      standing = subst (CanAsk is) far.history standing;
      history = same ∙ far.history;
    }

-- ---- COPY on a selection

module _ {S : Type 0} (formats : Formats) (view : S → View) (session : Session S) (o : Open S) (some : session.selected ≡ Some o) (tag : List ℕ) (uid : Bool) (set : Set) (bytes : List ℕ)
    (infos : List Info) (law : IsView formats.forms (view o.store)) (are : infos ≡ (view o.store).summary.infos) where
  -- what it leads to where the messages are there
  abbrev go_on : State → Selected → Unless Outcome
  go_on state s = the_name tag bytes >>= λ name. copy_to formats tag uid state s name (brought_from s.placed.mailbox (named_places uid set (infos_of s)))

  leads_on : (disk : Disk) (state : State) (s : Selected) → state.selected ≡ Some s → IsOpen formats view state o (seen disk) s
      → copy formats tag uid set bytes state ≡ or_leaves state (unless_past tag uid set infos >>= λ there. go_on state s)
  leads_on disk state s selected is =
      is_selected tag state s (λ s. unless_past tag uid set (infos_of s) >>= λ there. go_on state s) selected
      ∙ ap (λ i. or_leaves state (unless_past tag uid set i >>= λ there. go_on state s)) (sym (are ∙ told_infos formats view state o disk s law is))

  pub none_there : (if uid then false else names_past (length infos) set) ≡ true → (disk : Disk) (state : State) → StandsFor formats view session disk state
      → copy formats tag uid set bytes state ≡ only state (reply.NoMessage tag)
  none_there past disk state stands =
      let sel = selects formats view session o disk state stands some in
      leads_on disk state sel.s sel.is sel.open_is ∙ is_past_set tag uid set infos state (λ there. go_on state sel.s) past

  module _ (there : (if uid then false else names_past (length infos) set) ≡ false) where
    pub no_name : read_name bytes ≡ None → (disk : Disk) (state : State) → StandsFor formats view session disk state
        → copy formats tag uid set bytes state ≡ only state (reply.Refused tag no.BadName)
    no_name none disk state stands =
        let sel = selects formats view session o disk state stands some in
        leads_on disk state sel.s sel.is sel.open_is ∙ is_there tag uid set infos state (λ there. go_on state sel.s) there
        ∙ ap (λ n. or_leaves state (or_refused (reply.Refused tag no.BadName) n >>= λ name. copy_to formats tag uid state sel.s name (brought_from sel.s.placed.mailbox (named_places uid set (infos_of sel.s))))) none

    -- it leads to the addition of what was read
    pub leads_to_copy : (name : List ℕ) (store : S) (places : List ℕ) (brought : List Brought) (words names : List (List ℕ)) (h : History) → read_name bytes ≡ Some name → places ≡ named_places uid set infos
        → ReadsOn (view o.store) (view store) h → Now h (λ w. (view o.store).stands (seen w.disk) → brought ≡ brought_from ((view o.store).mailbox (seen w.disk)) places)
        → words ≡ (view store).summary.words → names ≡ names_among brought words
        → (state : State) → Now h (λ w. StandsFor formats view session w.disk state) → Now h (λ w. or_leaves state (add formats tag (copied uid) state name brought names) ≡ copy formats tag uid set bytes state)
    leads_to_copy name store places brought words names [] read placed reads gives are_words named state now = tt
    leads_to_copy name store places brought words names (w ∷ past) read placed reads gives are_words named state now =
        let sel = selects formats view session o w.disk state now some in
        let s = sel.s in
        let m = s.placed.mailbox in
        let all = named_places uid set (infos_of s) in
        let same_words : words ≡ m.words = are_words ∙ ap (λ y. y.words) reads.summary ∙ told_words formats view state o w.disk s law sel.open_is in
        let same_places : places ≡ all = placed ∙ ap (named_places uid set) (are ∙ told_infos formats view state o w.disk s law sel.open_is) in
        let same_brought : brought ≡ brought_from m all = gives sel.open_is.store.stands ∙ ap (λ n. brought_from n places) sel.open_is.store.mailbox ∙ ap (brought_from m) same_places in
        ap (λ n. or_leaves state (add formats tag (copied uid) state name brought n)) (named ∙ ap (names_among brought) same_words)
        ∙ ap (λ b. or_leaves state (add formats tag (copied uid) state name b (names_among b m.words))) same_brought
        ∙ ap (λ n. or_leaves state (or_refused (reply.Refused tag no.BadName) n >>= λ name. copy_to formats tag uid state s name (brought_from m all))) (sym read)
        ∙ sym (is_there tag uid set infos state (λ there. go_on state s) there) ∙ sym (leads_on w.disk state s sel.is sel.open_is)

    -- what is added is what was read
    pub copy_does : (name : List ℕ) (store : S) (places : List ℕ) (brought : List Brought) (words names : List (List ℕ)) (old mid new : History) (after : Session S) (result : Result Reply Refusal) (waits : List ℕ) (word : Words)
        → read_name bytes ≡ Some name → places ≡ named_places uid set infos
        → ReadsOn (view o.store) (view store) old → Now old (λ w. (view o.store).stands (seen w.disk) → brought ≡ brought_from ((view o.store).mailbox (seen w.disk)) places)
        → words ≡ (view store).summary.words → names ≡ names_among brought words → word ≡ copied uid → mid ≡ old
        → Does formats (StandsFor formats view (record session { selected = Some (with_store formats view o store) })) (StandsFor formats view after) (λ state. or_leaves state (add formats tag word state name brought names)) result waits mid new
        → Does formats (StandsFor formats view session) (StandsFor formats view after) (copy formats tag uid set bytes) result waits old new
    copy_does name store places brought words names old mid new after result waits word read placed reads gives are_words named is_word same does =
        does_behind formats (StandsFor formats view session) (StandsFor formats view (record session { selected = Some (with_store formats view o store) })) (StandsFor formats view after)
        (λ state. or_leaves state (add formats tag (copied uid) state name brought names)) (copy formats tag uid set bytes) result waits old new
        (λ state now. stands_on formats view session o store old state some reads now)
        (λ state now. leads_to_copy name store places brought words names old read placed reads gives are_words named state now)
        (subst (λ h. Does formats (StandsFor formats view (record session { selected = Some (with_store formats view o store) })) (StandsFor formats view after) (λ state. or_leaves state (add formats tag (copied uid) state name brought names)) result waits h new) same
        (subst (λ w. Does formats (StandsFor formats view (record session { selected = Some (with_store formats view o store) })) (StandsFor formats view after) (λ state. or_leaves state (add formats tag w state name brought names)) result waits mid new) is_word does))

-- the places that a set names are those of messages
pub named_below : (uid : Bool) (set : Set) (infos told : List Info) (places : List ℕ) → infos ≡ told → places ≡ named_places uid set infos → AllByRecursion (λ place. place < length told) places
named_below uid set infos told places are named =
    subst (λ l. AllByRecursion (λ place. place < length l) places) are (subst (λ l. AllByRecursion (λ place. place < length infos) l) (sym named) (below 0 (length infos) (named_places uid set infos) (places_rise uid set infos)))
  where
    below : (least bound : ℕ) (places : List ℕ) → RiseBelow least bound places → AllByRecursion (λ place. place < bound) places
    below least bound [] rise = tt
    below least bound (place ∷ rest) rise = (rise.1, below (place + 1) bound rest rise.2)
