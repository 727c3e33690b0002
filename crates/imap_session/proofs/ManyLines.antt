-- Lines that a loop puts, one after the other.
use Rattle.std.proofs.Common.{ℕ, List, [], ◌++◌, ◌≡◌, sym, ◌∙◌, ap, subst, append_assoc, Result, Ok, Err, IsErr}
use Rattle.std.proofs.lemmas.List.{append-nil}
use Rattle.file_model.specs.Histories.{History}
use Rattle.session_loop.specs.declared.answers.Stop.{Stop}
use Rattle.imap_session.specs.Lines.{Line}
use Rattle.imap_session.specs.Putting.{PutsLines}
use Rattle.imap_session.proofs.Putting.{puts_then, puts_no_more}

-- of these lines all but the rest are put
pub record PutsBut (all rest : List Line) (was is : List ℕ) (old new : History) : Type 0 where
  pub lines : List Line
  pub whole : lines ++ rest ≡ all
  pub puts : PutsLines lines was is (Ok tt) old new

behind : (lines more rest all before : List Line) → lines ++ before ≡ all → before ≡ more ++ rest → (lines ++ more) ++ rest ≡ all
behind lines more rest all before whole is = append_assoc lines more rest ∙ ap (λ l. lines ++ l) (sym is) ∙ whole

pub more_put : (all before more rest : List Line) (was mid is : List ℕ) (old between new : History) → before ≡ more ++ rest
    → PutsBut all before was mid old between → PutsLines more mid is (Ok tt) between new → PutsBut all rest was is old new
more_put all before more rest was mid is old between new same first second = record {
  lines = first.lines ++ more;
  whole = behind first.lines more rest all before first.whole same;
  puts = puts_then first.lines more was mid is (Ok tt) old between new first.puts second;
}

-- the session ends while one of them is put
pub more_stopped : (all before more rest : List Line) (was mid is : List ℕ) (failed result : Result (Unit {0}) Stop) (old between new : History) → IsErr result → before ≡ more ++ rest
    → PutsBut all before was mid old between → PutsLines more mid is failed between new → PutsLines all was is result old new
more_stopped all before more rest was mid is failed (Ok u) old between new stops same first second = absurd (cc)
more_stopped all before more rest was mid is failed (Err stop) old between new stops same first second =
    subst (λ l. PutsLines l was is (Err stop) old new) (behind first.lines more rest all before first.whole same)
    (puts_no_more (first.lines ++ more) rest was is stop old new
    (puts_then first.lines more was mid is (Err stop) old between new first.puts (record { instants = second.instants; done = tt })))

pub all_put : (all rest : List Line) (was is : List ℕ) (old new : History) → rest ≡ [] → PutsBut all rest was is old new → PutsLines all was is (Ok tt) old new
all_put all rest was is old new none put =
    subst (λ l. PutsLines l was is (Ok tt) old new) (sym (append-nil put.lines) ∙ ap (λ l. put.lines ++ l) (sym none) ∙ put.whole) put.puts
