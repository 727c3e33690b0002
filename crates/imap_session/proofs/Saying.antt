-- Lines of a list, put one by one.
use Rattle.std.proofs.Common.{ℕ, List, [], ◌∷◌, ◌++◌, ◌+◌, ◌≡◌, refl, sym, ◌∙◌, ap, subst, take, drop, slice_get, Some, Result, Ok, Err}
use Rattle.file_model.specs.Causes.{Faults, SayCause}
use Rattle.file_model.specs.Histories.{History}
use Rattle.imap_reply.specs.declared.reply.Reply.{Reply}
use Rattle.imap_reply.specs.Putting.{Puts}
use Rattle.imap_reply.specs.Replies.{reply_bytes}
use Rattle.session_loop.specs.declared.answers.Stop.{Stop}
use Rattle.std.specs.Result.{IsErrAnd}
use Rattle.session_loop.specs.Outcome.{NoneFailed}
use Rattle.imap_session.specs.Lines.{reply_line, reply_lines}
use Rattle.imap_session.specs.Putting.{PutsLines}
use Rattle.imap_session.proofs.Places.{one_more, split_at}
use Rattle.imap_session.proofs.Putting.{puts_reply, puts_then, puts_no_more}

lines_append : (one two : List Reply) → reply_lines (one ++ two) ≡ reply_lines one ++ reply_lines two
lines_append [] two = refl
lines_append (line ∷ one) two = ap (λ l. reply_line line ∷ l) (lines_append one two)

module _ (lines : List Reply) (i : ℕ) (line : Reply) (is : slice_get lines i ≡ Some line) where
  -- one more of the lines
  pub put_one : (was mid waits : List ℕ) (old between new : History) → PutsLines (reply_lines (take i lines)) was mid (Ok tt) old between
      → Puts (mid ++ reply_bytes line) waits (Ok tt) between new → PutsLines (reply_lines (take (i + 1) lines)) was waits (Ok tt) old new
  put_one was mid waits old between new first puts =
      subst (λ l. PutsLines l was waits (Ok tt) old new) (sym (ap reply_lines (one_more lines i line is) ∙ lines_append (take i lines) (line ∷ [])))
      (puts_then (reply_lines (take i lines)) (reply_line line ∷ []) was mid waits (Ok tt) old between new first (puts_reply line mid waits (Ok tt) between new puts))

  -- or it can't be said
  pub put_none : (was mid waits : List ℕ) (stop : Stop) (old between new : History) → PutsLines (reply_lines (take i lines)) was mid (Ok tt) old between
      → Puts (mid ++ reply_bytes line) waits (Err stop) between new → PutsLines (reply_lines lines) was waits (Err stop) old new
  put_none was mid waits stop old between new first puts =
      subst (λ l. PutsLines l was waits (Err stop) old new) (sym (lines_append (take i lines) (line ∷ drop (i + 1) lines)) ∙ ap reply_lines (split_at lines i line is))
      (puts_then (reply_lines (take i lines)) (reply_lines (line ∷ drop (i + 1) lines)) was mid waits (Err stop) old between new first
      (puts_no_more (reply_line line ∷ []) (reply_lines (drop (i + 1) lines)) mid waits stop between new (puts_reply line mid waits (Err stop) between new puts)))

-- nothing failed where all was said
pub none_said : (a b : Faults) (u : Unit {0}) → SayCause {E = Stop} a b (Ok u) → NoneFailed a b
none_said a b u cause = record { hear = cause.hear; file = cause.file; say = cause.stays refl }

-- an error that goes on is the same
pub stops_so : (P : Result (Unit {0}) Stop → Type 0) (result : Result (Unit {0}) Stop) (stop : Stop) → IsErrAnd result (λ e. e ≡ stop) → P (Err stop) → P result
stops_so P (Ok u) stop is holds = absurd is
stops_so P (Err e) stop is holds = subst (λ e. P (Err e)) (sym is) holds
