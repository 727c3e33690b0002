-- The FLAGS line, where the list of names grew.
use Rattle.std.proofs.Common.{ℕ, true, List, [], ◌∷◌, ◌++◌, ◌<◌, ◌≡◌, sym, subst, nat_lt, length, if◌then◌else◌, arith, Result, Ok, Err, IsErr}
use Rattle.std.proofs.lemmas.Bool.Decides.{nat_tests}
use Rattle.file_model.specs.Histories.{History}
use Rattle.imap_reply.specs.declared.reply.Reply.TheVariants as reply
use Rattle.imap_reply.specs.Putting.{Puts}
use Rattle.imap_reply.specs.Replies.{reply_bytes}
use Rattle.session_loop.specs.declared.answers.Stop.{Stop}
use Rattle.imap_session.specs.Lines.{Line, reply_line}
use Rattle.imap_session.specs.Putting.{PutsLines}
use Rattle.imap_session.proofs.Putting.{puts_reply, puts_no_more}

pub names_put : (before : ℕ) (names put : List (List ℕ)) (was is : List ℕ) (result : Result (Unit {0}) Stop) (old new : History) → before < length names → put ≡ names
    → Puts (was ++ reply_bytes (reply.Flags put)) is result old new → PutsLines (if nat_lt before (length names) then reply_line (reply.Flags names) ∷ [] else []) was is result old new
names_put before names put was is result old new more same puts =
    subst (λ b. PutsLines (if b then reply_line (reply.Flags names) ∷ [] else []) was is result old new) (sym longer)
    (puts_reply (reply.Flags names) was is result old new (subst (λ n. Puts (was ++ reply_bytes (reply.Flags n)) is result old new) same puts))
  where
    longer : nat_lt before (length names) ≡ true
    longer = grind (arith, nat_tests, more)

-- the session ends in the first lines
pub stopped_before : (one two : List Line) (was is : List ℕ) (failed result : Result (Unit {0}) Stop) (old new : History) → IsErr result → PutsLines one was is failed old new → PutsLines (one ++ two) was is result old new
stopped_before one two was is failed (Ok u) old new stops puts = absurd (cc)
stopped_before one two was is failed (Err stop) old new stops puts = puts_no_more one two was is stop old new (record { instants = puts.instants; done = tt })
