-- Instants of runs, one after the other.
use Rattle.std.proofs.Common.{ℕ, ◌<◌, ◌≤◌, Bool, true, false, List, [], ◌∷◌, ◌++◌, ◌≡◌, ◌||◌, refl, sym, ◌∙◌, ap, subst, append_assoc, length, length-append, arith}
use Rattle.std.proofs.lemmas.List.{append-nil}
use Rattle.std.specs.List.{AllByRecursion}
use Rattle.file_model.specs.Images.{Image}
use Rattle.file_model.specs.Disk.{Disk, MayLeave}
use Rattle.file_model.specs.Histories.{World}
use Rattle.session_loop.specs.Machine.{Protocol, IsKept, replies, state_after, answered, commands_in, is_over}
use Rattle.file_model.specs.Arrived.{Begins, HasHeard, IsSaying, HasSaid}
use Rattle.session_loop.specs.Instants.{Finds, Answering, HasAnswered, IsTurn, EachHears, Turns, Serving, HasServed, most_heard}
use Rattle.session_loop.specs.Saying.{AllSaid, FirstSaid, lines_to}
use Rattle.session_loop.proofs.Machine.{begins_refl, begins_trans, begins_append, begins_behind, begins_none, nothing_before, replies_append, state_append, replies_begin}
use Rattle.session_loop.proofs.Saying.{all_append, all_one, first_all, first_part, first_none, first_more, first_append, nothing_said}

-- what a crash finds behind units that were answered
pub finds_then : {S U : Type 0} (p : Protocol S U) (state : S) (first second units : List U) (front : List p.Line) (said part : List ℕ) (image : Image)
    → Begins (first ++ second) units → AllSaid p.says (front ++ replies p.step state first) said
    → Finds p (state_after p.step state first) second [] part image
    → Finds p state units front (said ++ part) image
finds_then p state first second units front said part image begins were finds = record {
  done = first ++ finds.done;
  are_done = begins_trans (begins_behind first finds.are_done) begins;
  are_said = subst (λ l. FirstSaid p.says l (said ++ part))
      (append_assoc front (replies p.step state first) (replies p.step (state_after p.step state first) finds.done) ∙ ap (λ l. front ++ l) (sym (replies_append p.step state first finds.done)))
      (first_append p.says (front ++ replies p.step state first) (replies p.step (state_after p.step state first) finds.done) said part were finds.are_said);
  agreed = subst (λ s. p.agrees s image) (sym (state_append p.step state first finds.done)) finds.agreed;
}

-- more units, which no crash has come to
pub finds_more : {S U : Type 0} (p : Protocol S U) (state : S) (units more : List U) (front : List p.Line) (said : List ℕ) (image : Image)
    → Begins units more → Finds p state units front said image → Finds p state more front said image
finds_more p state units more front said image begins finds = record { done = finds.done; are_done = begins_trans finds.are_done begins; are_said = finds.are_said; agreed = finds.agreed }

-- an instant of a run that follows units that were answered
pub answering_then : {S U : Type 0} (p : Protocol S U) (stands : Disk → S → Type 0) (state : S) (first second units : List U) (a b c : World)
    → Begins (first ++ second) units → HasAnswered p stands state first a b → Answering p (state_after p.step state first) second b c
    → Answering p state units a c
answering_then p stands state first second units a b c begins one two = record {
  heard = two.heard ∙ one.heard;
  ended = two.ended ∙ one.ended;
  turns = two.turns ∙ one.turns;
  part = one.bytes ++ two.part;
  is_said = two.is_said ∙ ap (λ l. l ++ two.part) one.said ∙ append_assoc a.streams.said one.bytes two.part;
  is_part = first_more p.says _ _ (one.bytes ++ two.part) (replies_begin p.step state begins)
      (subst (λ l. FirstSaid p.says l (one.bytes ++ two.part)) (sym (replies_append p.step state first second))
      (first_append p.says (replies p.step state first) (replies p.step (state_after p.step state first) second) one.bytes two.part one.are_said two.is_part));
  crash = λ same image left. finds_then p state first second units [] one.bytes two.part image begins one.are_said (two.crash (one.still_alike same) image left);
}

pub answering_more : {S U : Type 0} (p : Protocol S U) (state : S) (units more : List U) (a b : World)
    → Begins units more → Answering p state units a b → Answering p state more a b
answering_more p state units more a b begins one = record {
  heard = one.heard;
  ended = one.ended;
  turns = one.turns;
  part = one.part;
  is_said = one.is_said;
  is_part = first_more p.says _ _ one.part (replies_begin p.step state begins) one.is_part;
  crash = λ same image left. finds_more p state units more [] one.part image begins (one.crash same image left);
}

pub has_answered_then : {S U : Type 0} (p : Protocol S U) (before stands : Disk → S → Type 0) (state : S) (first second units : List U) (a b c : World)
    → first ++ second ≡ units → HasAnswered p before state first a b → HasAnswered p stands (state_after p.step state first) second b c
    → HasAnswered p stands state units a c
has_answered_then p before stands state first second units a b c whole one two = record {
  heard = two.heard ∙ one.heard;
  ended = two.ended ∙ one.ended;
  turns = two.turns ∙ one.turns;
  bytes = one.bytes ++ two.bytes;
  are_said = subst (λ l. AllSaid p.says l (one.bytes ++ two.bytes)) (sym (replies_append p.step state first second) ∙ ap (replies p.step state) whole)
      (all_append p.says (replies p.step state first) (replies p.step (state_after p.step state first) second) one.bytes two.bytes one.are_said two.are_said);
  said = two.said ∙ ap (λ l. l ++ two.bytes) one.said ∙ append_assoc a.streams.said one.bytes two.bytes;
  is_state = subst (stands c.disk) (sym (state_append p.step state first second) ∙ ap (state_after p.step state) whole) two.is_state;
  still_alike = λ same. subst (λ s. p.alike s c.disk) (sym (state_append p.step state first second) ∙ ap (state_after p.step state) whole) (two.still_alike (one.still_alike same));
}

pub has_answered_none : {S U : Type 0} (p : Protocol S U) (stands : Disk → S → Type 0) (state : S) (a : World) → stands a.disk state → HasAnswered p stands state [] a a
has_answered_none p stands state a is = record { heard = refl; ended = refl; turns = refl; bytes = []; are_said = refl; said = sym (append-nil a.streams.said); is_state = is; still_alike = λ same. same }

-- ---- Turns

turn_later : {S U : Type 0} (p : Protocol S U) (state : S) (start : World) (heard more said further : List ℕ) (turn : ℕ × ℕ)
    → Begins heard more → Begins said further → IsTurn p state start heard said turn → IsTurn p state start more further turn
turn_later p state start heard more said further turn one two is = record {
  heard_then = is.heard_then;
  is_heard = is.is_heard;
  heard_front = begins_trans is.heard_front one;
  said_then = is.said_then;
  are_said = is.are_said;
  is_said = is.is_said;
  said_front = begins_trans is.said_front two;
  goes_on = is.goes_on;
}

each_later : {S U : Type 0} (p : Protocol S U) (state : S) (start : World) (heard more said further : List ℕ) (turns : List (ℕ × ℕ))
    → Begins heard more → Begins said further → AllByRecursion (IsTurn p state start heard said) turns → AllByRecursion (IsTurn p state start more further) turns
each_later p state start heard more said further [] one two all = tt
each_later p state start heard more said further (turn ∷ turns) one two all =
    (turn_later p state start heard more said further turn one two all.0, each_later p state start heard more said further turns one two all.1)

each_append : {A : Type 0} (P : A → Type 0) (xs ys : List A) → AllByRecursion P xs → AllByRecursion P ys → AllByRecursion P (xs ++ ys)
each_append P [] ys one two = two
each_append P (x ∷ xs) ys one two = (one.0, each_append P xs ys one.1 two)

-- the same turns, with more heard and said
pub turns_later : {S U : Type 0} (p : Protocol S U) (state : S) (start a b : World) (heard more said further : List ℕ)
    → b.streams.turns ≡ a.streams.turns → Begins heard more → Begins said further → Turns p state start a heard said → Turns p state start b more further
turns_later p state start a b heard more said further same one two turns = record {
  more = turns.more;
  are_more = same ∙ turns.are_more;
  each = each_later p state start heard more said further turns.more one two turns.each;
  each_hears = turns.each_hears;
}

-- one turn more, before which each heard a byte
hears_append : (turns : List (ℕ × ℕ)) (turn : ℕ × ℕ) → EachHears turns → AllByRecursion (λ before. before.0 < turn.0) turns → EachHears (turns ++ turn ∷ [])
hears_append [] turn each all = tt
hears_append (first ∷ []) turn each all = (all.0, tt)
hears_append (first ∷ next ∷ turns) turn each all = (each.0, hears_append (next ∷ turns) turn each.1 all.1)

-- what was less than a count is less than a greater one
all_less : (n m : ℕ) (turns : List (ℕ × ℕ)) → n ≤ m → AllByRecursion (λ turn. turn.0 < n) turns → AllByRecursion (λ turn. turn.0 < m) turns
all_less n m [] more all = tt
all_less n m (turn ∷ turns) more all = (less turn.0 n m more all.0, all_less n m turns more all.1)
  where
    less : (k n m : ℕ) → n ≤ m → k < n → k < m
    less k n m more below = omega arith

-- ---- Bytes heard, and units answered

or_false : (b : Bool) → b ≡ b || false
or_false true = refl
or_false false = refl

-- what the turn of a piece adds to the turns of a session all of whose units were answered
turns_heard : {S U : Type 0} (p : Protocol S U) (stands : Disk → S → Type 0) (state : S) (heard piece : List ℕ) (ends : Bool) (a b c : World)
    → is_over p heard ≡ false
    → (one : HasServed p stands state heard (commands_in p heard) false a b) → HasHeard piece ends b c
    → Turns p state a c (heard ++ piece) one.said
turns_heard p stands state heard piece ends a b c none one two =
    let said = one.said in
    let turn : ℕ × ℕ = (length b.streams.heard, length b.streams.said) in
    record {
      more = one.turns.more ++ turn ∷ [];
      are_more = two.turns ∙ ap (λ l. l ++ turn ∷ []) one.turns.are_more ∙ append_assoc a.streams.turns one.turns.more (turn ∷ []);
      each = each_append (IsTurn p state a (heard ++ piece) said) one.turns.more (turn ∷ [])
          (each_later p state a heard (heard ++ piece) said said one.turns.more (begins_append heard piece) (begins_refl said) one.turns.each)
          (record { heard_then = heard; is_heard = ap length one.is_heard; heard_front = begins_append heard piece; said_then = said; are_said = one.are_said; is_said = ap length one.is_said; said_front = begins_refl said; goes_on = none }, tt);
      each_hears = hears_append one.turns.more turn one.turns.each_hears (one.all_heard refl);
    }

longer_piece : (front piece whole : List ℕ) → whole ≡ front ++ piece → length front ≤ length whole
longer_piece front piece whole is = let e = ap length is ∙ length-append front piece in omega (arith, e)

some_piece : (front piece whole : List ℕ) → whole ≡ front ++ piece → 0 < length piece → length front < length whole
some_piece front piece whole is some = let e = ap length is ∙ length-append front piece in omega (arith, e)

-- a piece is heard where all units before it were answered
pub served_heard : {S U : Type 0} (p : Protocol S U) (stands : Disk → S → Type 0) (state : S) (heard piece : List ℕ) (ends : Bool) (a b c : World)
    → is_over p heard ≡ false → length (heard ++ piece) ≤ most_heard → (ends ≡ false → 0 < length piece)
    → HasServed p stands state heard (commands_in p heard) false a b → HasHeard piece ends b c
    → HasServed p stands state (heard ++ piece) (commands_in p heard) ends a c
unfolding turns_heard
served_heard p stands state heard piece ends a b c none few some one two = record {
  is_over = two.ended ∙ ap (λ e. e || ends) (one.is_over ∙ sym (or_false a.streams.ended));
  is_heard = two.heard ∙ ap (λ l. l ++ piece) one.is_heard ∙ append_assoc a.streams.heard heard piece;
  few = few;
  said = one.said;
  are_said = one.are_said;
  is_said = two.said ∙ one.is_said;
  turns = turns_heard p stands state heard piece ends a b c none one two;
  all_heard = λ open_still. each_append (λ turn. turn.0 < length c.streams.heard) one.turns.more ((length b.streams.heard, length b.streams.said) ∷ [])
      (all_less (length b.streams.heard) (length c.streams.heard) one.turns.more (longer_piece b.streams.heard piece c.streams.heard two.heard) (one.all_heard refl))
      (some_piece b.streams.heard piece c.streams.heard two.heard (some open_still), tt);
  is_state = subst (λ d. stands d (state_after p.step state (commands_in p heard))) (sym two.disk) one.is_state;
  still_alike = λ same. subst (p.alike (state_after p.step state (commands_in p heard))) (sym two.disk) (one.still_alike same);
}

-- the lines to more units
lines_begin : {S U : Type 0} (p : Protocol S U) (state : S) {units more : List U} → Begins units more → Begins (lines_to p state units) (lines_to p state more)
lines_begin p state begins = begins_behind (p.greeting state ∷ []) (replies_begin p.step state begins)

further : {S U : Type 0} (p : Protocol S U) (state : S) (units more : List U)
    → lines_to p state units ++ replies p.step (state_after p.step state units) more ≡ lines_to p state (units ++ more)
further p state units more = ap (λ l. p.greeting state ∷ l) (sym (replies_append p.step state units more))

-- it is an instant of the session, also where nothing was heard
pub heard_instant : {S U : Type 0} (p : Protocol S U) (stands : Disk → S → Type 0) (state : S) (heard piece : List ℕ) (ends : Bool) (a b c : World)
    → IsKept p
    → is_over p heard ≡ false → length (heard ++ piece) ≤ most_heard → Begins (commands_in p heard) (commands_in p (heard ++ piece))
    → HasServed p stands state heard (commands_in p heard) false a b → HasHeard piece ends b c
    → Serving p state a c
heard_instant p stands state heard piece ends a b c law none few begins one two = record {
  heard = heard ++ piece;
  is_heard = two.heard ∙ ap (λ l. l ++ piece) one.is_heard ∙ append_assoc a.streams.heard heard piece;
  few = few;
  said = one.said;
  is_said = two.said ∙ one.is_said;
  is_part = first_more p.says _ _ one.said (lines_begin p state begins) (first_all p.says (lines_to p state (commands_in p heard)) one.said one.are_said);
  turns = turns_heard p stands state heard piece ends a b c none one two;
  crash = λ same image left. record {
    done = commands_in p heard;
    are_done = begins;
    are_said = first_all p.says (lines_to p state (commands_in p heard)) one.said one.are_said;
    agreed = law b.disk (state_after p.step state (commands_in p heard)) (one.still_alike same) image (subst (λ d. MayLeave d image) two.disk left);
  };
}

-- an instant while more units are answered
pub served_answering : {S U : Type 0} (p : Protocol S U) (stands : Disk → S → Type 0) (state : S) (heard : List ℕ) (units more : List U) (over : Bool) (a b c : World)
    → Begins (units ++ more) (commands_in p heard) → HasServed p stands state heard units over a b
    → Answering p (state_after p.step state units) more b c → Serving p state a c
served_answering p stands state heard units more over a b c begins one two = record {
  heard = heard;
  is_heard = two.heard ∙ one.is_heard;
  few = one.few;
  said = one.said ++ two.part;
  is_said = two.is_said ∙ ap (λ l. l ++ two.part) one.is_said ∙ append_assoc a.streams.said one.said two.part;
  is_part = first_more p.says _ _ (one.said ++ two.part) (lines_begin p state begins)
      (subst (λ l. FirstSaid p.says l (one.said ++ two.part)) (further p state units more)
      (first_append p.says (lines_to p state units) (replies p.step (state_after p.step state units) more) one.said two.part one.are_said two.is_part));
  turns = turns_later p state a b c heard heard _ _ two.turns (begins_refl heard) (begins_append one.said two.part) one.turns;
  crash = λ same image left. finds_then p state units more (commands_in p heard) (p.greeting state ∷ []) one.said two.part image begins one.are_said (two.crash (one.still_alike same) image left);
}

-- more units were answered
pub served_answered : {S U : Type 0} (p : Protocol S U) (before stands : Disk → S → Type 0) (state : S) (heard : List ℕ) (units more all : List U) (over : Bool) (a b c : World)
    → units ++ more ≡ all → HasServed p before state heard units over a b
    → HasAnswered p stands (state_after p.step state units) more b c → HasServed p stands state heard all over a c
unfolding turns_later
served_answered p before stands state heard units more all over a b c whole one two =
    subst (λ us. HasServed p stands state heard us over a c) whole (record {
      is_over = two.ended ∙ one.is_over;
      is_heard = two.heard ∙ one.is_heard;
      few = one.few;
      all_heard = λ open_still. subst (λ l. AllByRecursion (λ turn. turn.0 < length l) one.turns.more) (sym two.heard) (one.all_heard open_still);
      said = one.said ++ two.bytes;
      are_said = subst (λ l. AllSaid p.says l (one.said ++ two.bytes)) (further p state units more)
          (all_append p.says (lines_to p state units) (replies p.step (state_after p.step state units) more) one.said two.bytes one.are_said two.are_said);
      is_said = two.said ∙ ap (λ l. l ++ two.bytes) one.is_said ∙ append_assoc a.streams.said one.said two.bytes;
      turns = turns_later p state a b c heard heard one.said (one.said ++ two.bytes) two.turns (begins_refl heard) (begins_append one.said two.bytes) one.turns;
      is_state = subst (stands c.disk) (sym (state_append p.step state units more)) two.is_state;
      still_alike = λ same. subst (λ s. p.alike s c.disk) (sym (state_append p.step state units more)) (two.still_alike (one.still_alike same));
    })

none_few : 0 ≤ most_heard
none_few = omega arith

-- an instant before the greeting
pub opening_instant : {S U : Type 0} (p : Protocol S U) (state : S) (a b : World)
    → Answering p state [] a b → Serving p state a b
opening_instant p state a b one =
    let none = nothing_said p.says one.part one.is_part in
    record {
      heard = [];
      is_heard = one.heard ∙ sym (append-nil a.streams.heard);
      few = none_few;
      said = [];
      is_said = one.is_said ∙ ap (λ l. a.streams.said ++ l) none;
      is_part = first_none p.says (lines_to p state (commands_in p []));
      turns = record { more = []; are_more = one.turns ∙ sym (append-nil a.streams.turns); each = tt; each_hears = tt };
      crash = λ same image left. let finds = one.crash same image left in record {
        done = [];
        are_done = begins_none (commands_in p []);
        are_said = first_none p.says (p.greeting state ∷ []);
        agreed = subst (λ us. p.agrees (state_after p.step state us) image) (nothing_before finds.done finds.are_done) finds.agreed;
      };
    }

-- nothing was said before the greeting
said_before : {S U : Type 0} (p : Protocol S U) (stands : Disk → S → Type 0) (state : S) (a b : World) → HasAnswered {S = S} {U = U} p stands state [] a b → b.streams.said ≡ a.streams.said
said_before p stands state a b open_here = open_here.said ∙ ap (λ l. a.streams.said ++ l) open_here.are_said ∙ append-nil a.streams.said

-- a part of the greeting
greeting_part : {S U : Type 0} (p : Protocol S U) (state : S) (more : List p.Line) (part bytes : List ℕ) → p.says (p.greeting state) bytes → Begins part bytes → FirstSaid p.says (p.greeting state ∷ more) part
greeting_part p state more part bytes says begins =
    first_more p.says (p.greeting state ∷ []) (p.greeting state ∷ more) part (record { rest = more; is_whole = refl }) (first_part p.says (p.greeting state ∷ []) part bytes (all_one p.says (p.greeting state) bytes says) begins)

-- an instant of the greeting
pub greeting_instant : {S U : Type 0} (p : Protocol S U) (stands : Disk → S → Type 0) (state : S) (bytes : List ℕ) (a b c : World)
    → IsKept p
    → HasAnswered {S = S} {U = U} p stands state [] a b × p.says (p.greeting state) bytes → IsSaying bytes b c → Serving p state a c
greeting_instant p stands state bytes a b c law (open_here, says) one = record {
  heard = [];
  is_heard = one.heard ∙ open_here.heard ∙ sym (append-nil a.streams.heard);
  few = none_few;
  said = one.part;
  is_said = one.is_said ∙ ap (λ l. l ++ one.part) (said_before p stands state a b open_here);
  is_part = greeting_part p state (replies p.step state (commands_in p [])) one.part bytes says one.is_part;
  turns = record { more = []; are_more = one.turns ∙ open_here.turns ∙ sym (append-nil a.streams.turns); each = tt; each_hears = tt };
  crash = λ same image left. record {
    done = [];
    are_done = begins_none (commands_in p []);
    are_said = greeting_part p state [] one.part bytes says one.is_part;
    agreed = law b.disk state (open_here.still_alike same) image (subst (λ d. MayLeave d image) one.disk left);
  };
}

-- the greeting was said
pub greeting_said : {S U : Type 0} (p : Protocol S U) (stands : Disk → S → Type 0) (state : S) (bytes : List ℕ) (a b c : World)
    → p.units_of [] ≡ [] → HasAnswered {S = S} {U = U} p stands state [] a b × p.says (p.greeting state) bytes → HasSaid bytes b c → HasServed p stands state [] (commands_in p []) false a c
greeting_said p stands state bytes a b c none (open_here, says) one =
    subst (λ us. HasServed p stands state [] us false a c) (sym (ap (answered p.is_last) none)) (record {
      is_heard = one.heard ∙ open_here.heard ∙ sym (append-nil a.streams.heard);
      few = none_few;
      all_heard = λ open_still. tt;
      is_over = one.ended ∙ open_here.ended ∙ or_false a.streams.ended;
      said = bytes;
      are_said = all_one p.says (p.greeting state) bytes says;
      is_said = one.said ∙ ap (λ l. l ++ bytes) (said_before p stands state a b open_here);
      turns = record { more = []; are_more = one.turns ∙ open_here.turns ∙ sym (append-nil a.streams.turns); each = tt; each_hears = tt };
      is_state = subst (λ d. stands d state) (sym one.disk) open_here.is_state;
      still_alike = λ same. subst (p.alike state) (sym one.disk) (open_here.still_alike same);
    })
