-- What of a message's text a search key needs.
use Rattle.std.specs.Prelude.{◌≡◌, ◌≢◌, ℕ, Bool, List, [], ◌∷◌}
use Rattle.head_fields.specs.Header.{header_alone}
use Rattle.imap_syntax.specs.declared.key.Key.{Key, fold-Key}
use Rattle.imap_syntax.specs.declared.key.Key.TheOpen.{Key-F, Bcc, Cc, From, Subject, To, Header, Body, Text, SentBefore, SentOn, SentSince, Not, Or, AllOf}
use Rattle.looked_message.specs.Messages.{LookedAt, with_text}
use Rattle.search_eval.specs.declared.need.KeyNeed.{KeyNeed}
use Rattle.search_eval.specs.declared.need.KeyNeed.TheVariants as needs

-- nothing, the header, and the whole text, each more than the one before
abbrev pub greater_need : KeyNeed → KeyNeed → KeyNeed
greater_need needs.Text other = needs.Text
greater_need needs.Header needs.Text = needs.Text
greater_need needs.Header needs.Nothing = needs.Header
greater_need needs.Header needs.Header = needs.Header
greater_need needs.Nothing other = other

-- what several keys need together
abbrev pub all_needs : List KeyNeed → KeyNeed
all_needs [] = needs.Nothing
all_needs (need ∷ more) = greater_need need (all_needs more)

-- each key, by what the keys in it need
abbrev pub need_row : Key-F KeyNeed → KeyNeed
need_row (Bcc string) = needs.Header
need_row (Cc string) = needs.Header
need_row (From string) = needs.Header
need_row (Subject string) = needs.Header
need_row (To string) = needs.Header
need_row (Header name string) = needs.Header
need_row (SentBefore day) = needs.Header
need_row (SentOn day) = needs.Header
need_row (SentSince day) = needs.Header
need_row (Body string) = needs.Text
need_row (Text string) = needs.Text
need_row (Not need) = need
need_row (Or one other) = greater_need one other
need_row (AllOf all) = all_needs all
need_row _ = needs.Nothing

-- what a key needs
abbrev pub key_need : Key → KeyNeed
key_need = fold-Key KeyNeed need_row

-- What needs nothing of the text holds the same over any text; what needs no more than the header, the same over the header alone.
pub record IsNeedOf (holds : LookedAt → Bool) (need : KeyNeed) : Type 0 where
  pub nothing : need ≡ needs.Nothing → (m : LookedAt) (text : List ℕ) → holds (with_text m text) ≡ holds m
  pub header : need ≢ needs.Text → (m : LookedAt) → holds (with_text m (header_alone m.text)) ≡ holds m
