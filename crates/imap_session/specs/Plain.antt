-- Commands that ask nothing of a mailbox (RFC 3501, sections 6.1 and 6.2).
use Rattle.std.specs.Prelude.{ℕ, List, [], ◌∷◌, Ok}
use Rattle.imap_reply.specs.declared.reply.Reply.TheVariants as reply
use Rattle.imap_reply.specs.declared.text.Words.TheVariants as words
use Rattle.imap_session.specs.Lines.{reply_line}
use Rattle.imap_session.specs.State.{State, Outcome, ◌>>=◌, only, done, or_leaves}
use Rattle.imap_session.specs.Refusals.{the_selected}

abbrev pub capability : List ℕ → State → Outcome
capability tag state = done tag words.Capability state (reply_line reply.Capability ∷ [])

abbrev pub noop : List ℕ → State → Outcome
noop tag state = done tag words.Noop state []

-- the session ends behind it
abbrev pub logout : List ℕ → State → Outcome
logout tag state = done tag words.Logout state (reply_line reply.Bye ∷ [])

-- STARTTLS, LOGIN and AUTHENTICATE, by their word
abbrev pub password : List ℕ → List ℕ → State → Outcome
password tag word state = only state (reply.Password tag word)

-- CHECK (RFC 3501, section 6.4.1): each change is durable already
abbrev pub check : List ℕ → State → Outcome
check tag state = or_leaves state (do
  s ← the_selected tag state
  Ok (done tag words.Check state []))
