-- Lines that fit into 128 bytes.
use Rattle.std.proofs.Common.{ℕ, Bool, true, false, ◌<◌, length-append, arith, length, List, ◌++◌, ◌≡◌, ◌∙◌, ap, subst, append_assoc, Result, Ok, Err}
use Rattle.session_loop.specs.declared.answers.Stop.{Stop}
use Rattle.imap_reply.specs.declared.reply.Reply.{Reply}
use Rattle.imap_reply.specs.declared.reply.Reply.TheVariants as reply

-- the last line of a command that was done, or the first one of LOGOUT
abbrev pub is_short : Reply → Bool
is_short (reply.Done tag words) = true
is_short reply.Bye = true
is_short other = false

-- how bytes go behind others in an array of 128 bytes: all of them, or none where they don't fit
abbrev pub Fits : List ℕ → Result (Unit {0}) Stop → List ℕ → List ℕ → Type 0
Fits bytes (Ok u) old new = new ≡ old ++ bytes
Fits bytes (Err stop) old new = 128 < length (old ++ bytes)

-- ---- Its laws

-- more bytes fit no better
longer : (one front rest : List ℕ) → 128 < length (one ++ front) → 128 < length (one ++ (front ++ rest))
longer one front rest more =
    let e = ap length (append_assoc one front rest) in
    let f = length-append (one ++ front) rest in
    omega (arith, e, f, more)

-- bytes behind bytes
pub fits_more : (front rest : List ℕ) (result : Result (Unit {0}) Stop) (one two three : List ℕ) → Fits front (Ok tt) one two → Fits rest result two three → Fits (front ++ rest) result one three
fits_more front rest (Ok u) one two three is more = more ∙ ap (λ l. l ++ rest) is ∙ append_assoc one front rest
fits_more front rest (Err stop) one two three is more = subst (λ l. 128 < length l) (ap (λ l. l ++ rest) is ∙ append_assoc one front rest) more

-- behind bytes that don't fit none do
pub fits_no_more : (front rest : List ℕ) (stop : Stop) (one two : List ℕ) → Fits front (Err stop) one two → Fits (front ++ rest) (Err stop) one two
fits_no_more front rest stop one two is = longer one front rest is
