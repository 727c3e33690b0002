-- Lines that are put, one after the other.
use Rattle.std.proofs.Common.{ℕ, List, [], ◌∷◌, ◌++◌, ◌≡◌, refl, sym, ◌∙◌, ap, subst, append_assoc, Result, Ok, Err, OnOk}
use Rattle.std.proofs.lemmas.List.{append-nil}
use Rattle.file_model.specs.Histories.{World, History, Now, Passed}
use Rattle.file_model.specs.Arrived.{Arrived, Begins, IsSaying}
use Rattle.file_model.proofs.Passes.{passed_then, passed_none, passed_weaker, arrived_none, arrived_then}
use Rattle.imap_reply.specs.declared.reply.Reply.{Reply}
use Rattle.imap_reply.specs.Replies.{reply_bytes}
use Rattle.imap_reply.specs.Putting.{HasPut, Puts}
use Rattle.session_loop.specs.Saying.{AllSaid}
use Rattle.session_loop.specs.declared.answers.Stop.{Stop}
use Rattle.session_loop.proofs.Machine.{begins_append}
use Rattle.session_loop.proofs.Saying.{all_append, first_part, first_more}
use Rattle.imap_session.specs.Lines.{Line, reply_line, SaysLine}
use Rattle.imap_session.specs.Putting.{SayingLines, HasPutLines, PutsLines}

pub begins_behind_part : (part said was bytes : List ℕ) → Begins said (was ++ bytes) → Begins (part ++ said) ((part ++ was) ++ bytes)
begins_behind_part part said was bytes begins =
    record { rest = begins.rest; is_whole = append_assoc part said begins.rest ∙ ap (λ l. part ++ l) begins.is_whole ∙ sym (append_assoc part was bytes) }

pub whole_put : (part more is was bytes : List ℕ) → more ++ (is ++ []) ≡ was ++ bytes → (part ++ was) ++ bytes ≡ (part ++ more) ++ is
whole_put part more is was bytes whole =
    append_assoc part was bytes ∙ ap (λ l. part ++ l) (sym whole ∙ ap (λ l. more ++ l) (append-nil is)) ∙ sym (append_assoc part more is)

-- ---- From the bytes that are put to the lines

saying_more : (lines more : List Line) (was bytes : List ℕ) → AllSaid SaysLine more bytes → (a b c : World) → HasPutLines lines was a b → IsSaying (was ++ bytes) b c → SayingLines (lines ++ more) a c
saying_more lines more was bytes says a b c put saying = record {
  disk = saying.disk ∙ put.disk;
  heard = saying.heard ∙ put.heard;
  ended = saying.ended ∙ put.ended;
  turns = saying.turns ∙ put.turns;
  part = put.part ++ saying.part;
  is_said = saying.is_said ∙ ap (λ l. l ++ saying.part) put.is_said ∙ append_assoc a.streams.said put.part saying.part;
  is_part = first_part SaysLine (lines ++ more) (put.part ++ saying.part) ((put.part ++ was) ++ bytes)
      (all_append SaysLine lines more (put.part ++ was) bytes put.are_put says) (begins_behind_part put.part saying.part was bytes saying.is_part);
}

put_more : (lines more : List Line) (was is bytes : List ℕ) → AllSaid SaysLine more bytes → (a b c : World) → HasPutLines lines was a b → HasPut (was ++ bytes) is [] b c → HasPutLines (lines ++ more) is a c
put_more lines more was is bytes says a b c put has = record {
  disk = has.disk ∙ put.disk;
  heard = has.heard ∙ put.heard;
  ended = has.ended ∙ put.ended;
  turns = has.turns ∙ put.turns;
  part = put.part ++ has.part;
  is_said = has.is_said ∙ ap (λ l. l ++ has.part) put.is_said ∙ append_assoc a.streams.said put.part has.part;
  are_put = subst (AllSaid SaysLine (lines ++ more)) (whole_put put.part has.part is was bytes has.is_whole)
      (all_append SaysLine lines more (put.part ++ was) bytes put.are_put says);
}

saying_lines : (lines more : List Line) (a b : World) → SayingLines lines a b → SayingLines (lines ++ more) a b
saying_lines lines more a b here =
    record { disk = here.disk; heard = here.heard; ended = here.ended; turns = here.turns; part = here.part; is_said = here.is_said; is_part = first_more SaysLine lines (lines ++ more) here.part (begins_append lines more) here.is_part }

-- lines that are said in the bytes that are put
pub puts_said : (more : List Line) (bytes was is : List ℕ) (result : Result (Unit {0}) Stop) (old new : History)
    → AllSaid SaysLine more bytes → Puts (was ++ bytes) is result old new → PutsLines more was is result old new
puts_said more bytes was is result old new says puts = record {
  instants = λ first lines run at. passed_then (SayingLines lines) (HasPutLines lines was) (IsSaying (was ++ bytes)) (SayingLines (lines ++ more))
      (saying_lines lines more) (saying_more lines more was bytes says) first old new run at puts.instants;
  done = by_end result puts.done;
}
  where
    by_end : (result : Result (Unit {0}) Stop) → OnOk result (Arrived (HasPut (was ++ bytes) is []) old new)
        → OnOk result ((first : History) (lines : List Line) → Arrived (HasPutLines lines was) first old → Arrived (HasPutLines (lines ++ more) is) first new)
    by_end (Ok u) puts = λ first lines at. arrived_then (HasPutLines lines was) (HasPut (was ++ bytes) is []) (HasPutLines (lines ++ more) is) (put_more lines more was is bytes says) first old new at puts
    by_end (Err stop) puts = tt

-- a line of a reply
pub puts_reply : (line : Reply) (was is : List ℕ) (result : Result (Unit {0}) Stop) (old new : History)
    → Puts (was ++ reply_bytes line) is result old new → PutsLines (reply_line line ∷ []) was is result old new
puts_reply line was is result old new puts = puts_said (reply_line line ∷ []) (reply_bytes line) was is result old new (reply_bytes line, [], refl, refl, sym (append-nil (reply_bytes line))) puts

-- ---- One after the other

pub puts_none : (waits : List ℕ) (h : History) → PutsLines [] waits waits (Ok tt) h h
puts_none waits h = record {
  instants = λ first lines run at. subst (λ l. Passed (SayingLines l) first h) (sym (append-nil lines)) run;
  done = λ first lines at. subst (λ l. Arrived (HasPutLines l waits) first h) (sym (append-nil lines)) at;
}

pub puts_then : (one two : List Line) (was mid is : List ℕ) (result : Result (Unit {0}) Stop) (old between new : History)
    → PutsLines one was mid (Ok tt) old between → PutsLines two mid is result between new → PutsLines (one ++ two) was is result old new
puts_then one two was mid is result old between new first second = record {
  instants = λ start lines run at. subst (λ l. Passed (SayingLines l) start new) (append_assoc lines one two)
      (second.instants start (lines ++ one) (first.instants start lines run at) (first.done start lines at));
  done = by_end result second.done;
}
  where
    by_end : (result : Result (Unit {0}) Stop)
        → OnOk result ((start : History) (lines : List Line) → Arrived (HasPutLines lines mid) start between → Arrived (HasPutLines (lines ++ two) is) start new)
        → OnOk result ((start : History) (lines : List Line) → Arrived (HasPutLines lines was) start old → Arrived (HasPutLines (lines ++ (one ++ two)) is) start new)
    by_end (Ok u) done = λ start lines at. subst (λ l. Arrived (HasPutLines l is) start new) (append_assoc lines one two) (done start (lines ++ one) (first.done start lines at))
    by_end (Err stop) done = tt

-- it ends in the first of them
pub puts_no_more : (one two : List Line) (was is : List ℕ) (stop : Stop) (old new : History) → PutsLines one was is (Err stop) old new → PutsLines (one ++ two) was is (Err stop) old new
puts_no_more one two was is stop old new first = record {
  instants = λ start lines run at. subst (λ l. Passed (SayingLines l) start new) (append_assoc lines one two) (passed_weaker_lines (lines ++ one) two start new (first.instants start lines run at));
  done = tt;
}
  where
    passed_weaker_lines : (lines more : List Line) (start new : History) → Passed (SayingLines lines) start new → Passed (SayingLines (lines ++ more)) start new
    passed_weaker_lines lines more start new run = passed_weaker (SayingLines lines) (SayingLines (lines ++ more)) (saying_lines lines more) start new run

-- ---- From where nothing is put

nothing_put : (world : World) → HasPutLines [] [] world world
nothing_put world = record { disk = refl; heard = refl; ended = refl; turns = refl; part = []; is_said = sym (append-nil world.streams.said); are_put = refl }

nothing_here : (h : History) → Now h (λ w. HasPutLines [] [] w w)
nothing_here [] = tt
nothing_here (w ∷ past) = nothing_put w

pub put_from : (lines : List Line) (is : List ℕ) (result : Result (Unit {0}) Stop) (old new : History) → PutsLines lines [] is result old new → Passed (SayingLines lines) old new
put_from lines is result old new puts = puts.instants old [] (passed_none (SayingLines []) old) (arrived_none (HasPutLines [] []) old (nothing_here old))

pub put_all_from : (lines : List Line) (is : List ℕ) (old new : History) → PutsLines lines [] is (Ok tt) old new → Arrived (HasPutLines lines is) old new
put_all_from lines is old new puts = puts.done old [] (arrived_none (HasPutLines [] []) old (nothing_here old))
