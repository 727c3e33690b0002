-- The instants of a session, in the words of the headline.
use Rattle.std.proofs.Common.{ℕ, Bool, true, false, ◌||◌, List, [], ◌∷◌, ◌++◌, ◌≡◌, ◌≢◌, ◌≤◌, ◌<◌, ◌+◌, ◌-◌, ◌⊎◌, inl, inr, ⊎_elim, refl, sym, ◌∙◌, ap, subst, length, take, drop, zero, suc, arith, length-append, append_assoc}
use Rattle.std.proofs.lemmas.Bool.{cases_lt}
use Rattle.std.proofs.Math.Seq.{drop-append_seam, take-append_seam, take-append-add}
use Rattle.std.proofs.lemmas.Grind.{common_steps}
use Rattle.std.proofs.lemmas.List.{append-nil}
use Rattle.std.specs.List.{AllByRecursion}
use Rattle.file_model.specs.Images.{Image}
use Rattle.file_model.specs.Disk.{Disk, MayLeave}
use Rattle.file_model.specs.Histories.{World, History, Now, Passed, instant}
use Rattle.file_model.specs.Arrived.{Arrived, Begins, worlds_since, heard_since, said_since}
use Rattle.session_loop.specs.declared.end.End.{End}
use Rattle.session_loop.specs.Outcome.{regular_end, IsLong}
use Rattle.session_loop.specs.Machine.{Answered, Protocol, IsKept, SaysSomething, replies, state_after, answered, commands_in, is_over}
use Rattle.session_loop.specs.Saying.{AllSaid, FirstSaid, lines_to}
use Rattle.session_loop.specs.Instants.{IsTurn, EachHears, Serving, HasServed, EndsAs, most_heard}
use Rattle.session_loop.specs.Headline.{commands, SaysReplies, IsBounded, IsServed, Survives}
use Rattle.session_loop.proofs.Machine.{begins_trans, replies_append}
use Rattle.session_loop.proofs.Saying.{all_longer, first_none}
use Rattle.session_loop.proofs.Instants.{opening_instant}
use Rattle.file_model.proofs.Passes.{arrived_weaker, each_since}
use Rattle.std.specs.List.{Contains}

behind : {A : Type 0} (front back whole : List A) → whole ≡ front ++ back → drop (length front) whole ≡ back
behind front back whole is = ap (drop (length front)) is ∙ drop-append_seam front back

front_of : {A : Type 0} (front whole : List A) → Begins front whole → take (length front) whole ≡ front
front_of front whole begins = ap (take (length front)) (sym begins.is_whole) ∙ take-append_seam front begins.rest

over : (n m k : ℕ) → n ≡ m + k → n - m ≡ k
over n m k is = omega arith

-- as a `hear` began, what was said were the replies to all that was heard, and the session went on
abbrev IsAtOnce : {S U : Type 0} → Protocol S U → S → World → List ℕ → List ℕ → ℕ × ℕ → Type 0
IsAtOnce p state start heard said turn =
    AllSaid p.says (lines_to p state (commands_in p (take (turn.0 - length start.streams.heard) heard))) (take (turn.1 - length start.streams.said) said)
    × (is_over p (take (turn.0 - length start.streams.heard) heard) ≡ false)

turn_plain : {S U : Type 0} (p : Protocol S U) (state : S) (start : World) (heard said : List ℕ) (turn : ℕ × ℕ)
    → IsTurn p state start heard said turn → IsAtOnce p state start heard said turn
turn_plain p state start heard said turn is =
    let then = is.said_then in
    let h : turn.0 - length start.streams.heard ≡ length is.heard_then = over turn.0 (length start.streams.heard) (length is.heard_then) (is.is_heard ∙ length-append start.streams.heard is.heard_then) in
    let s : turn.1 - length start.streams.said ≡ length then = over turn.1 (length start.streams.said) (length then) (is.is_said ∙ length-append start.streams.said then) in
    let front = sym (ap (λ n. take n heard) h ∙ front_of is.heard_then heard is.heard_front) in (
      subst (λ l. AllSaid p.says (lines_to p state (commands_in p l)) (take (turn.1 - length start.streams.said) said)) front
          (subst (AllSaid p.says (lines_to p state (commands_in p is.heard_then))) (sym (ap (λ n. take n said) s ∙ front_of then said is.said_front)) is.are_said),
      subst (λ l. is_over p l ≡ false) front is.goes_on,
    )

turns_plain : {S U : Type 0} (p : Protocol S U) (state : S) (start : World) (heard said : List ℕ) (turns : List (ℕ × ℕ))
    → AllByRecursion (IsTurn p state start heard said) turns
    → AllByRecursion (IsAtOnce p state start heard said) turns
turns_plain p state start heard said [] all = tt
turns_plain p state start heard said (turn ∷ turns) all =
    (turn_plain p state start heard said turn all.0, turns_plain p state start heard said turns all.1)

pub says_replies : {S U : Type 0} (p : Protocol S U) (state : S) (start world : World)
    → Serving p state start world → SaysReplies p state start world
says_replies p state start world is =
    let h = behind start.streams.heard is.heard world.streams.heard is.is_heard in
    let s = behind start.streams.said is.said world.streams.said is.is_said in
    let t = behind start.streams.turns is.turns.more world.streams.turns is.turns.are_more in
    record {
      part = subst (FirstSaid p.says (lines_to p state (commands p start world))) (sym s)
          (subst (λ l. FirstSaid p.says (lines_to p state (commands_in p l)) is.said) (sym h) is.is_part);
      at_once = subst (λ turns. AllByRecursion (IsAtOnce p state start (heard_since start world) (said_since start world)) turns) (sym t)
          (subst (λ l. AllByRecursion (IsAtOnce p state start (heard_since start world) l) is.turns.more) (sym s)
          (subst (λ l. AllByRecursion (IsAtOnce p state start l is.said) is.turns.more) (sym h)
          (turns_plain p state start is.heard is.said is.turns.more is.turns.each)));
    }

-- how much was heard
pub is_bounded : {S U : Type 0} (p : Protocol S U) (state : S) (start world : World)
    → Serving p state start world → IsBounded start world
is_bounded p state start world is = record {
  few = subst (λ l. length l ≤ most_heard) (sym (behind start.streams.heard is.heard world.streams.heard is.is_heard)) is.few;
  each_hears = subst EachHears (sym (behind start.streams.turns is.turns.more world.streams.turns is.turns.are_more)) is.turns.each_hears;
}

pub is_served : {S U : Type 0} (p : Protocol S U) (stands : Disk → S → Type 0) (state : S) (end : End) (heard : List ℕ) (ended : Bool) (start world : World)
    → end ≡ regular_end (is_over p heard) ended (p.unfinished heard) → IsLong end heard
    → HasServed p stands state heard (commands_in p heard) ended start world
    → IsServed p stands state end start world
is_served p stands state end heard ended start world ends long is =
    let h : heard ≡ heard_since start world = sym (behind start.streams.heard heard world.streams.heard is.is_heard) in
    let s = behind start.streams.said is.said world.streams.said is.is_said in
    record {
      said = subst (λ l. AllSaid p.says (lines_to p state (commands_in p l)) (said_since start world)) h (subst (AllSaid p.says (lines_to p state (commands_in p heard))) (sym s) is.are_said);
      is_state = subst (λ l. stands world.disk (state_after p.step state (commands_in p l))) h is.is_state;
      still_alike = λ same. subst (λ l. p.alike (state_after p.step state (commands_in p l)) world.disk) h (is.still_alike same);
      is_end = λ open_before. ends ∙ ap (λ l. regular_end (is_over p l) ended (p.unfinished l)) h
          ∙ ap (λ e. regular_end (is_over p (heard_since start world)) e (p.unfinished (heard_since start world))) (sym (is.is_over ∙ ap (λ b. b || ended) open_before));
      is_long = subst (IsLong end) h long;
    }

-- ---- What a crash leaves

answered_first : {U : Type 0} (is_last : U → Bool) (units more : List U) → Begins (answered is_last units) (answered is_last (units ++ more))
answered_first is_last [] more = record { rest = answered is_last more; is_whole = refl }
answered_first is_last (unit ∷ units) more = go is_last unit units more (is_last unit) (answered_first is_last units more)
  where
    go : {U : Type 0} (is_last : U → Bool) (unit : U) (units more : List U) (last : Bool) → Begins (answered is_last units) (answered is_last (units ++ more))
        → Begins (unit ∷ elim last as (λ _. List U) [ true ↦ [] | false ↦ answered is_last units ]) (unit ∷ elim last as (λ _. List U) [ true ↦ [] | false ↦ answered is_last (units ++ more) ])
    go is_last unit units more true below = record { rest = []; is_whole = refl }
    go is_last unit units more false below = record { rest = below.rest; is_whole = ap (λ l. unit ∷ l) below.is_whole }

-- of the lines of some units more there is one
some_replies : {S U : Type 0} (p : Protocol S U) (state : S) (units : List U) (k : ℕ) → SaysSomething p → 0 < k → k ≤ length units → replies p.step state (take k units) ≢ []
some_replies p state [] k says some within = absurd (omega arith)
some_replies p state (unit ∷ units) zero says some within = absurd (omega arith)
some_replies p state (unit ∷ units) (suc k) says some within = λ none. says.line state unit (no_front (p.step state unit).reply (replies p.step (p.step state unit).next (take k units)) none)
  where
    no_front : {A : Type 0} (xs ys : List A) → xs ++ ys ≡ [] → xs ≡ []
    no_front [] ys none = refl
    no_front (x ∷ xs) ys none = absurd (cc)

more_lines : {S U : Type 0} (p : Protocol S U) (state : S) (done rest : List U) (m : ℕ) → length done < m
    → lines_to p state (take m (done ++ rest)) ≡ lines_to p state done ++ replies p.step (state_after p.step state done) (take (m - length done) rest)
more_lines p state done rest m past =
    let is : take m (done ++ rest) ≡ done ++ take (m - length done) rest = ap (λ n. take n (done ++ rest)) (split m (length done) past) ∙ take-append-add done rest (m - length done) in
    ap (lines_to p state) is ∙ ap (λ l. p.greeting state ∷ l) (replies_append p.step state done (take (m - length done) rest))
  where
    split : (m n : ℕ) → n < m → m ≡ n + (m - n)
    split m n past = omega arith

begins_length : {A : Type 0} {xs ys : List A} → Begins xs ys → length xs ≤ length ys
begins_length {xs = xs} {ys = ys} begins = let e = length-append xs begins.rest in let f = ap length begins.is_whole in omega (arith, e, f)

found_length : (start said bytes : List ℕ) (k : ℕ) → bytes ≡ start ++ said → length (drop (length start) (take k bytes)) ≤ length said
found_length start said bytes k is = let e = ap length is ∙ length-append start said in grind (arith, common_steps, e)

no_tail : {A : Type 0} (xs ys : List A) → xs ++ ys ≡ [] → ys ≡ []
no_tail [] ys none = none
no_tail (x ∷ xs) ys none = absurd (cc)

rest_within : {A : Type 0} (done rest : List A) (m : ℕ) → m ≤ length (done ++ rest) → m - length done ≤ length rest
rest_within done rest m within = let e = length-append done rest in omega (arith, e)

past_some : (m n : ℕ) → n < m → 0 < m - n
past_some m n past = omega arith

-- more lines than those of which some are said
longer_said : {L : Type 0} (says : L → List ℕ → Type 0) (lines more : List L) (said whole : List ℕ)
    → ((line : L) (bytes : List ℕ) → says line bytes → bytes ≢ [])
    → ((line : L) (bytes other : List ℕ) → says line bytes → says line other → bytes ≡ other)
    → more ≢ [] → FirstSaid says lines said → AllSaid says (lines ++ more) whole → length said < length whole
longer_said says lines more said whole some one is_more is all =
    let same : lines ++ more ≡ is.first ++ (is.are_first.rest ++ more) = sym (ap (λ l. l ++ more) is.are_first.is_whole) ∙ append_assoc is.first is.are_first.rest more in
    let longer = all_longer says is.first (is.are_first.rest ++ more) is.whole whole some one (λ none. is_more (no_tail is.are_first.rest more none)) is.is_whole (subst (λ l. AllSaid says l whole) same all) in
    let part = begins_length is.is_part in
    omega (arith, longer, part)

-- no more replies were said than those to the units that survive
pub no_more : {S U : Type 0} (p : Protocol S U) (state : S) (done rest all : List U) (said found whole : List ℕ) (m : ℕ) → SaysSomething p
    → done ++ rest ≡ all → FirstSaid p.says (lines_to p state done) said → length found ≤ length said
    → m ≤ length all → AllSaid p.says (lines_to p state (take m all)) whole → Begins whole found → m ≤ length done
no_more p state done rest all said found whole m says is part short within are begins =
    ⊎_elim (λ past.
    let within_all = subst (λ l. m ≤ length l) (sym is) within in
    let some = some_replies p (state_after p.step state done) rest (m - length done) says (past_some m (length done) past) (rest_within done rest m within_all) in
    let longer = longer_said p.says (lines_to p state done) (replies p.step (state_after p.step state done) (take (m - length done) rest)) said whole says.byte says.one some part
    (subst (λ l. AllSaid p.says l whole) (more_lines p state done rest m past) (subst (λ l. AllSaid p.says (lines_to p state (take m l)) whole) (sym is) are)) in
    let b = begins_length begins in
    absurd (omega (arith, longer, b, short)))
    (λ is. is) (cases_lt (length done) m)

pub survives : {S U : Type 0} (p : Protocol S U) (state : S) (start world : World) (image : Image) (k : ℕ)
    → SaysSomething p
    → ((stream later : List ℕ) → (more : List U) × (p.units_of (stream ++ later) ≡ p.units_of stream ++ more))
    → p.alike state start.disk → MayLeave world.disk image → Serving p state start world
    → Survives p state start world image (take k world.streams.said)
survives p state start world image k says first same left is =
    let h : heard_since start world ≡ is.heard = behind start.streams.heard is.heard world.streams.heard is.is_heard in
    let finds = is.crash same image left in
    let units = commands_in p is.heard in
    let now : commands p start world ≡ units = ap (λ l. commands_in p l) h in
    let front : take (length finds.done) units ≡ finds.done = front_of finds.done units finds.are_done in
    record {
      n = length finds.done;
      are_heard = subst (λ us. length finds.done ≤ length us) (sym now) (begins_length finds.are_done);
      agreed = subst (λ us. p.agrees (state_after p.step state (take (length finds.done) us)) image) (sym now) (subst (λ us. p.agrees (state_after p.step state us) image) (sym front) finds.agreed);
      acknowledged = λ m ack.
          let later = first is.heard ack.later in
          let goes_on = begins_trans finds.are_done (subst (λ us. Begins units (answered p.is_last us)) (sym later.1) (answered_first p.is_last (p.units_of is.heard) later.0)) in
          let all = commands_in p (is.heard ++ ack.later) in
          no_more p state finds.done goes_on.rest all is.said (drop (length start.streams.said) (take k world.streams.said)) ack.whole m says goes_on.is_whole finds.are_said
          (found_length start.streams.said is.said world.streams.said k is.is_said)
          (subst (λ l. m ≤ length (commands_in p (l ++ ack.later))) h ack.are_heard)
          (subst (λ l. AllSaid p.says (lines_to p state (take m (commands_in p (l ++ ack.later)))) ack.whole) h ack.is_whole) ack.are_said;
    }

-- ---- On histories

-- the start is an instant too
starts : {S U : Type 0} (p : Protocol S U) (state : S) (a : World)
    → IsKept p → Serving p state a a
starts {U = U} p state a law =
    opening_instant p state a a (record {
      heard = refl;
      ended = refl;
      turns = refl;
      part = [];
      is_said = sym (append-nil a.streams.said);
      is_part = first_none p.says [];
      crash = λ same image left. record { done = []; are_done = record { rest = []; is_whole = refl }; are_said = first_none p.says []; agreed = law a.disk state same image left };
    })

pub crash_since : {S U : Type 0} (p : Protocol S U) (state : S) (first new : History)
    → IsKept p
    → SaysSomething p
    → ((stream later : List ℕ) → (more : List U) × (p.units_of (stream ++ later) ≡ p.units_of stream ++ more))
    → Passed (Serving p state) first new
    → Now first (λ start. p.alike state start.disk → (world : World) → Contains (worlds_since (instant first) new) world → (image : Image) → MayLeave world.disk image → (k : ℕ)
    → Survives p state start world image (take k world.streams.said))
crash_since p state [] new law says units run = tt
crash_since p state (start ∷ past) new law says units run = λ same world among image left k.
    survives p state start world image k says units same left
    (each_since (Serving p state) start past new (starts p state start law) run world among)

pub said_since_each : {S U : Type 0} (p : Protocol S U) (state : S) (first new : History)
    → IsKept p
    → Passed (Serving p state) first new
    → Now first (λ start. (world : World) → Contains (worlds_since (instant first) new) world → SaysReplies p state start world)
said_since_each p state [] new law run = tt
said_since_each p state (start ∷ past) new law run = λ world among.
    says_replies p state start world
    (each_since (Serving p state) start past new (starts p state start law) run world among)

pub bounded_since : {S U : Type 0} (p : Protocol S U) (state : S) (first new : History)
    → IsKept p
    → Passed (Serving p state) first new
    → Now first (λ start. (world : World) → Contains (worlds_since (instant first) new) world → IsBounded start world)
bounded_since p state [] new law run = tt
bounded_since p state (start ∷ past) new law run = λ world among.
    is_bounded p state start world
    (each_since (Serving p state) start past new (starts p state start law) run world among)

pub ends_here : {S U : Type 0} (p : Protocol S U) (stands : Disk → S → Type 0) (state : S) (end : End) (old new : History) (F : Type 0)
    → F ⊎ EndsAs p stands state end old new
    → F ⊎ Arrived (IsServed p stands state end) old new
ends_here p stands state end old new F (inl fault) = inl fault
ends_here p stands state end old new F (inr ends) =
    inr (arrived_weaker (HasServed p stands state ends.0 (commands_in p ends.0) ends.1) (IsServed p stands state end)
    (λ a b. is_served p stands state end ends.0 ends.1 a b ends.3 ends.4) old new ends.2)
