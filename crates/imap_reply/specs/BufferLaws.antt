-- A buffer takes bytes whatever the pieces.
use Rattle.std.proofs.Common.{ℕ, ◌≤◌, length-append, length, arith, List, [], ◌∷◌, ◌++◌, ◌≡◌, refl, sym, ◌∙◌, ap, subst, append_assoc, append-nil, Result, Ok, Err}
use Rattle.std.specs.Result.{IsErr}
use Rattle.file_model.specs.Histories.{World, History, Now, Passed}
use Rattle.file_model.specs.Arrived.{Arrived, IsSaying}
use Rattle.file_model.specs.Causes.{Faults, SayCause, Rose}
use Rattle.file_model.proofs.Passes.{passed_none, passed_then, passed_weaker, arrived_none, arrived_then, arrived_weaker}
use Rattle.session_loop.specs.declared.answers.Stop.{Stop}
use Rattle.imap_reply.specs.Sinks.{IsSink}
use Rattle.imap_reply.specs.Putting.{HasPut, Puts, PutsBut, AllWaits, Buffers, Buffering}

-- what holds of every world
now_all : (P : World → Type 0) → ((w : World) → P w) → (h : History) → Now h P
now_all P all [] = tt
now_all P all (w ∷ past) = all w

-- ---- One step

-- nothing is said: all of it waits
pub all_wait : (whole waits rest : List ℕ) → waits ++ rest ≡ whole → (h : History) → Arrived (HasPut whole waits rest) h h
all_wait whole waits rest is h =
    arrived_none (HasPut whole waits rest) h
    (now_all (λ w. HasPut whole waits rest w w) (λ w. record { disk = refl; heard = refl; ended = refl; turns = refl; part = []; is_said = sym (append-nil w.streams.said); is_whole = is }) h)

-- the same, where nothing is left to put
pub puts_waiting : (whole waits : List ℕ) (h : History) → waits ≡ whole → Puts whole waits (Ok tt) h h
puts_waiting whole waits h is = record { instants = passed_none (IsSaying whole) h; done = all_wait whole waits [] (append-nil waits ∙ is) h }

-- ---- One step after another

-- what was said before, and then a part of what waits and of the bytes behind it
saying_more : (whole one bytes rest : List ℕ) (a b c : World) → HasPut whole one (bytes ++ rest) a b → IsSaying (one ++ bytes) b c → IsSaying whole a c
saying_more whole one bytes rest a b c put saying = record {
  disk = saying.disk ∙ put.disk;
  heard = saying.heard ∙ put.heard;
  ended = saying.ended ∙ put.ended;
  turns = saying.turns ∙ put.turns;
  part = put.part ++ saying.part;
  is_said = saying.is_said ∙ ap (λ s. s ++ saying.part) put.is_said ∙ append_assoc a.streams.said put.part saying.part;
  is_part = record {
    rest = saying.is_part.rest ++ rest;
    is_whole = append_assoc put.part saying.part (saying.is_part.rest ++ rest)
        ∙ ap (λ l. put.part ++ l) (sym (append_assoc saying.part saying.is_part.rest rest) ∙ ap (λ l. l ++ rest) saying.is_part.is_whole ∙ append_assoc one bytes rest)
        ∙ put.is_whole;
  };
}

-- and what waits then
putting_more : (whole one bytes two rest : List ℕ) (a b c : World) → HasPut whole one (bytes ++ rest) a b → HasPut (one ++ bytes) two [] b c → HasPut whole two rest a c
putting_more whole one bytes two rest a b c put more = record {
  disk = more.disk ∙ put.disk;
  heard = more.heard ∙ put.heard;
  ended = more.ended ∙ put.ended;
  turns = more.turns ∙ put.turns;
  part = put.part ++ more.part;
  is_said = more.is_said ∙ ap (λ s. s ++ more.part) put.is_said ∙ append_assoc a.streams.said put.part more.part;
  is_whole = append_assoc put.part more.part (two ++ rest)
      ∙ ap (λ l. put.part ++ l) (sym (append_assoc more.part two rest) ∙ ap (λ l. l ++ rest) (ap (λ t. more.part ++ t) (sym (append-nil two)) ∙ more.is_whole) ∙ append_assoc one bytes rest)
      ∙ put.is_whole;
}

-- over a run
pub more_passed : (whole one bytes rest : List ℕ) (old mid new : History) → PutsBut whole one (bytes ++ rest) old mid → Passed (IsSaying (one ++ bytes)) mid new → Passed (IsSaying whole) old new
more_passed whole one bytes rest old mid new put more =
    passed_then (IsSaying whole) (HasPut whole one (bytes ++ rest)) (IsSaying (one ++ bytes)) (IsSaying whole)
    (λ a b saying. saying) (λ a b c here saying. saying_more whole one bytes rest a b c here saying) old mid new put.instants put.here more

-- ---- A loop

-- the next bytes of the rest are put
pub more_put : (whole one bytes two rest before : List ℕ) (old mid new : History) → PutsBut whole one before old mid → before ≡ bytes ++ rest → Puts (one ++ bytes) two (Ok tt) mid new → PutsBut whole two rest old new
more_put whole one bytes two rest before old mid new put is more =
    let here : PutsBut whole one (bytes ++ rest) old mid = subst (λ r. PutsBut whole one r old mid) is put in
    record {
      instants = more_passed whole one bytes rest old mid new here more.instants;
      here = arrived_then (HasPut whole one (bytes ++ rest)) (HasPut (one ++ bytes) two []) (HasPut whole two rest) (putting_more whole one bytes two rest) old mid new here.here more.done;
    }

-- or the session ends there
pub stops_put : (whole one bytes two rest before waits : List ℕ) (stop : Stop) (old mid new : History) → PutsBut whole one before old mid → before ≡ bytes ++ rest → Puts (one ++ bytes) two (Err stop) mid new → Puts whole waits (Err stop) old new
stops_put whole one bytes two rest before waits stop old mid new put is more =
    record { instants = more_passed whole one bytes rest old mid new (subst (λ r. PutsBut whole one r old mid) is put) more.instants; done = tt }

-- all is put
pub all_put : (whole waits rest : List ℕ) (old new : History) → PutsBut whole waits rest old new → rest ≡ [] → Puts whole waits (Ok tt) old new
all_put whole waits rest old new put none = record { instants = put.instants; done = subst (λ r. Arrived (HasPut whole waits r) old new) none put.here }

-- ---- Bytes behind a whole that was put

-- what was put of a greater whole
longer_saying : (whole rest : List ℕ) (a b : World) → IsSaying whole a b → IsSaying (whole ++ rest) a b
longer_saying whole rest a b saying = record {
  disk = saying.disk;
  heard = saying.heard;
  ended = saying.ended;
  turns = saying.turns;
  part = saying.part;
  is_said = saying.is_said;
  is_part = record { rest = saying.is_part.rest ++ rest; is_whole = sym (append_assoc saying.part saying.is_part.rest rest) ∙ ap (λ l. l ++ rest) saying.is_part.is_whole };
}

-- and what waits of it
longer_put : (whole waits rest : List ℕ) (a b : World) → HasPut whole waits [] a b → HasPut (whole ++ rest) waits rest a b
longer_put whole waits rest a b put = record {
  disk = put.disk;
  heard = put.heard;
  ended = put.ended;
  turns = put.turns;
  part = put.part;
  is_said = put.is_said;
  is_whole = sym (append_assoc put.part waits rest) ∙ ap (λ l. l ++ rest) (ap (λ t. put.part ++ t) (sym (append-nil waits)) ∙ put.is_whole);
}

-- a call that stopped puts no more of a greater whole
pub longer_stopped : (whole rest waits : List ℕ) (result : Result (Unit {0}) Stop) (old new : History) → IsErr result → Passed (IsSaying whole) old new → Puts (whole ++ rest) waits result old new
longer_stopped whole rest waits (Ok u) old new ends run = absurd (cc)
longer_stopped whole rest waits (Err stop) old new ends run = record { instants = passed_weaker (IsSaying whole) (IsSaying (whole ++ rest)) (longer_saying whole rest) old new run; done = tt }

-- a call that put all its bytes has still to put the rest
longer_but : (whole rest waits : List ℕ) (old new : History) → Puts whole waits (Ok tt) old new → PutsBut (whole ++ rest) waits rest old new
longer_but whole rest waits old new put = record {
  instants = passed_weaker (IsSaying whole) (IsSaying (whole ++ rest)) (longer_saying whole rest) old new put.instants;
  here = arrived_weaker (HasPut whole waits []) (HasPut (whole ++ rest) waits rest) (longer_put whole waits rest) old new put.done;
}

-- bytes are put behind others
pub puts_behind : (whole one two bytes : List ℕ) (result : Result (Unit {0}) Stop) (old mid new : History) → Puts whole one (Ok tt) old mid → Puts (one ++ bytes) two result mid new → Puts (whole ++ bytes) two result old new
puts_behind whole one two bytes (Ok u) old mid new first more =
    all_put _ two [] old new (more_put (whole ++ bytes) one bytes two [] bytes old mid new (longer_but whole bytes one old mid first) (sym (append-nil bytes)) more) refl
puts_behind whole one two bytes (Err stop) old mid new first more =
    stops_put (whole ++ bytes) one bytes two [] bytes two stop old mid new (longer_but whole bytes one old mid first) (sym (append-nil bytes)) more

-- ---- The laws of a buffer

-- where all fits its front fits
front_fits : (one front rest : List ℕ) (most : ℕ) → length (one ++ (front ++ rest)) ≤ most → length (one ++ front) ≤ most
front_fits one front rest most small =
    let e = sym (length-append (one ++ front) rest) ∙ ap length (append_assoc one front rest) in
    omega (arith, e, small)

-- where all fits it waits
both_wait : (front rest : List ℕ) (result : Result (Unit {0}) Stop) (one two three : List ℕ) (first second third : History)
    → (length (one ++ front) ≤ 65536 → AllWaits (one ++ front) two (Ok tt) first second) → (length (two ++ rest) ≤ 65536 → AllWaits (two ++ rest) three result second third)
    → length (one ++ (front ++ rest)) ≤ 65536 → AllWaits (one ++ (front ++ rest)) three result first third
both_wait front rest result one two three first second third was more small =
    let here = was (front_fits one front rest 65536 small) in
    let is = ap (λ l. l ++ rest) here.waiting ∙ append_assoc one front rest in
    let next = more (subst (λ l. length l ≤ 65536) (sym is) small) in
    record { done = next.done; waiting = next.waiting ∙ is; none_said = next.none_said ∙ here.none_said }

-- of two calls the first of which didn't fail
pub says_then : (result : Result (Unit {0}) Stop) (a b c : Faults) → SayCause {E = Stop} a b (Ok (tt {0})) → SayCause b c result → SayCause a c result
says_then result a b c one two =
    let same : b.say ≡ a.say = one.stays refl in
    record {
      file = two.file ∙ one.file;
      read = two.read ∙ one.read;
      hear = two.hear ∙ one.hear;
      later = subst (λ n. n ≤ c.say) same two.later;
      failed = λ fails. subst (λ n. Rose n c.say) same (two.failed fails);
      stays = λ ok. two.stays ok ∙ same;
    }

-- of no call
says_none : (a : Faults) → SayCause {E = Stop} a a (Ok (tt {0}))
says_none a = record { file = refl; read = refl; hear = refl; later = omega (arith); failed = λ fails. absurd (cc); stays = λ ok. refl }

-- no bytes
buffers_none : (waits : List ℕ) (history : History) (faults : Faults) → Buffers [] (Ok tt) waits waits history history faults faults
buffers_none waits history faults = record {
  puts = puts_waiting (waits ++ []) waits history (sym (append-nil waits));
  small = λ small. record { done = refl; waiting = sym (append-nil waits); none_said = refl };
  fault = tt;
  cause = says_none faults;
}

-- bytes behind bytes
buffers_more : (front rest : List ℕ) (result : Result (Unit {0}) Stop) (one two three : List ℕ) (first second third : History) (a b c : Faults)
    → Buffers front (Ok tt) one two first second a b → Buffers rest result two three second third b c → Buffers (front ++ rest) result one three first third a c
buffers_more front rest result one two three first second third a b c was more = record {
  puts = subst (λ whole. Puts whole three result first third) (append_assoc one front rest) (puts_behind (one ++ front) two three rest result first second third was.puts more.puts);
  small = both_wait front rest result one two three first second third was.small more.small;
  fault = more.fault;
  cause = says_then result a b c was.cause more.cause;
}

-- what stopped isn't done
not_stopped : (result : Result (Unit {0}) Stop) → IsErr result → result ≡ Ok tt → ⊥
not_stopped (Ok u) fails is = absurd (cc)
not_stopped (Err stop) fails is = absurd (cc)

-- behind bytes that couldn't be put none are
buffers_no_more : (front rest : List ℕ) (stop : Stop) (one two : List ℕ) (first second : History) (a b : Faults)
    → Buffers front (Err stop) one two first second a b → Buffers (front ++ rest) (Err stop) one two first second a b
buffers_no_more front rest stop one two first second a b was = record {
  puts = subst (λ whole. Puts whole two (Err stop) first second) (append_assoc one front rest) (longer_stopped (one ++ front) rest two (Err stop) first second refl was.puts.instants);
  small = λ small. absurd (not_stopped (Err stop) refl (was.small (front_fits one front rest 65536 small)).done);
  fault = was.fault;
  cause = record { file = was.cause.file; read = was.cause.read; hear = was.cause.hear; later = was.cause.later; failed = was.cause.failed; stays = was.cause.stays };
}

-- so a buffer over a host is a sink
pub buffer_is_sink : {W : Type 0} (history : W → History) (faults : W → Faults) → IsSink (Buffering history faults)
buffer_is_sink history faults = record {
  none = λ waits host. buffers_none waits (history host) (faults host);
  more = λ front rest result one two three first second third was more.
      buffers_more front rest result one two three (history first) (history second) (history third) (faults first) (faults second) (faults third) was more;
  no_more = λ front rest stop one two first second was. buffers_no_more front rest stop one two (history first) (history second) (faults first) (faults second) was;
}
