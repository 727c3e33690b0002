-- How the line that a command leaves is put.
use Rattle.std.specs.Prelude.{ℕ, List, ◌++◌, ◌≡◌, Result, Ok, Err}
use Rattle.file_model.specs.Histories.{History}
use Rattle.imap_reply.specs.declared.reply.Reply.{Reply}
use Rattle.imap_reply.specs.Putting.{Puts}
use Rattle.imap_reply.specs.Replies.{reply_bytes}
use Rattle.session_loop.specs.declared.answers.Stop.{Stop}
use Rattle.imap_session.specs.declared.refusal.Refusal.{Refusal}
use Rattle.imap_session.specs.declared.refusal.Refusal.TheVariants.{Line as Refused, Ends}

-- it is put, or the session ends as the command did
abbrev pub Finishes : Result Reply Refusal → (was : List ℕ) → (ending : Result (Unit {0}) Stop) → (is : List ℕ) → History → History → Type 0
Finishes (Ok last) was ending is old new = Puts (was ++ reply_bytes last) is ending old new
Finishes (Err (Refused line)) was ending is old new = Puts (was ++ reply_bytes line) is ending old new
Finishes (Err (Ends stop)) was ending is old new = (ending ≡ Err stop) × (new ≡ old)
