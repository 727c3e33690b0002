use Rattle.std.proofs.Common.{List, ℕ, ◌≡◌, ◌+◌, ◌-◌, ◌∙◌, ap, sym, arith, take, drop, length}
use Rattle.std.proofs.lemmas.Grind.{common_steps}
use Rattle.raw_commands.specs.Limits.{announced, closed_number, closed_behind}
use Rattle.raw_commands.proofs.Braces.{brace_nowhere, brace_at}
use Rattle.raw_commands.proofs.line.announced.Goals as goal

all_behind : (bytes : List ℕ) (n : ℕ) → take (length bytes - n) (drop n bytes) ≡ drop n bytes
all_behind bytes n = grind (arith, common_steps)

pub returns-in_err-brace-clause-value : goal.returns-in_err-brace-clause-value
unfolding announced
returns-in_err-brace-clause-value c = c.from_residual.ensures ∙ sym (ap closed_behind (brace_nowhere c.args.line.now c.in_err-brace.ensures))

pub returns-clause-value : goal.returns-clause-value
unfolding announced
returns-clause-value c =
    let line = c.args.line.now in
    c.closed_number.ensures.value ∙ ap closed_number (all_behind line (c.in_ok-brace.brace + 1)) ∙ sym (ap closed_behind (brace_at line c.in_ok-brace.brace c.in_ok-brace.ensures))
