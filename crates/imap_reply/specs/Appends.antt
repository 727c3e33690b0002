-- How bytes go to the end of a list.
use Rattle.std.proofs.Common.{ℕ, List, ◌++◌, ◌≡◌, ◌∙◌, ap, append_assoc, Result, Ok, Err}
use Rattle.session_loop.specs.declared.answers.Stop.{Stop}

-- they stand there, or the first of them where memory was wanting
abbrev pub Appends : List ℕ → Result (Unit {0}) Stop → List ℕ → List ℕ → Type 0
Appends bytes (Ok u) old new = new ≡ old ++ bytes
Appends bytes (Err stop) old new = (part : List ℕ) × (new ≡ old ++ part)

-- ---- Its laws

-- bytes behind bytes
pub appends_more : (front rest : List ℕ) (result : Result (Unit {0}) Stop) (one two three : List ℕ) → Appends front (Ok tt) one two → Appends rest result two three → Appends (front ++ rest) result one three
appends_more front rest (Ok u) one two three is more = more ∙ ap (λ l. l ++ rest) is ∙ append_assoc one front rest
appends_more front rest (Err stop) one two three is more = (front ++ more.0, more.1 ∙ ap (λ l. l ++ more.0) is ∙ append_assoc one front more.0)

-- behind bytes that couldn't be put none are
pub appends_no_more : (front rest : List ℕ) (stop : Stop) (one two : List ℕ) → Appends front (Err stop) one two → Appends (front ++ rest) (Err stop) one two
appends_no_more front rest stop one two is = is
