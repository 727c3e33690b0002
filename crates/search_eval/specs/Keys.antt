-- Which messages a search key matches (RFC 3501, section 6.4.4).
use Rattle.std.specs.Prelude.{ℕ, ℤ, Bool, true, false, List, Option, ◌&&◌, ◌||◌, not, nat_lt, int_lt, drop, codes}
use Rattle.std.specs.Ordering.{int_eq}
use Rattle.std.specs.List.{list_any, list_all}
use Rattle.std.specs.Option.{option_map_or}
use Rattle.std.specs.Str.{str_eq_ignore_ascii_case}
use Rattle.mail_fields.specs.Keyword.{same_keyword}
use Rattle.mail_fields.specs.FieldDate.{field_date_of}
use Rattle.mail_fields.specs.Numbers.{◌>>=◌}
use Rattle.text_lines.specs.Lines.{header_of}
use Rattle.head_fields.specs.Header.{body_start_of}
use Rattle.head_fields.specs.Fields.{readings_of}
use Rattle.head_fields.specs.Folding.{unfolded}
use Rattle.mime_parts.specs.Contents.{text_of}
use Rattle.imap_arguments.specs.Sets.{set_has}
use Rattle.imap_syntax.specs.declared.key.Key.{Key, fold-Key}
use Rattle.imap_syntax.specs.declared.key.Key.TheOpen.{Key-F, All, Answered, Deleted, Draft, Flagged, Seen, Recent, Unanswered, Undeleted, Undraft, Unflagged, Unseen, New, Old, Keyword, Unkeyword, Bcc, Cc, From, Subject, To, Header, Body, Text, Larger, Smaller, Before, On, Since, SentBefore, SentOn, SentSince, Uid, Numbers, Not, Or, AllOf}
use Rattle.text_search.specs.Needles.{is_inside}
use Rattle.looked_message.specs.Messages.{LookedAt, keywords_of}
use Rattle.search_eval.specs.declared.largest.Largest.{Largest}

-- a field, its name and its value, has this name in any letter case, and the string in its unfolded value
abbrev pub field_has : (name string : List ℕ) → List ℕ × List ℕ → Bool
field_has name string field = str_eq_ignore_ascii_case field.0 name && is_inside string (unfolded field.1)

-- a field of the header does
abbrev pub header_has : (name string text : List ℕ) → Bool
header_has name string text = list_any (field_has name string) (readings_of (header_of text))

-- the string stands behind the header
abbrev pub body_has : (string text : List ℕ) → Bool
body_has string text = is_inside string (drop (body_start_of text) text)

-- the day that the first Date field says, unfolded, where it is a date
abbrev pub sent_day : (text : List ℕ) → Option ℤ
sent_day text = text_of (codes "Date") (readings_of (header_of text)) >>= field_date_of

-- a day is before the one that is asked for
abbrev pub is_before : (asked : ℤ) → ℤ → Bool
is_before asked day = int_lt day asked

-- it is that one
abbrev pub is_on : (asked : ℤ) → ℤ → Bool
is_on asked day = int_eq day asked

-- it is that one or a later one
abbrev pub is_since : (asked : ℤ) → ℤ → Bool
is_since asked day = not (int_lt day asked)

-- it was sent on such a day; without a date it wasn't
abbrev pub was_sent : (ℤ → Bool) → (text : List ℕ) → Bool
was_sent test text = option_map_or test (sent_day text) false

-- each key, by what holds of the keys in it
abbrev pub key_row : Largest → LookedAt → Key-F Bool → Bool
key_row largest m All = true
key_row largest m Answered = m.info.flags.answered
key_row largest m Deleted = m.info.flags.deleted
key_row largest m Draft = m.info.flags.draft
key_row largest m Flagged = m.info.flags.flagged
key_row largest m Seen = m.info.flags.seen
key_row largest m Recent = m.recent
key_row largest m Unanswered = not m.info.flags.answered
key_row largest m Undeleted = not m.info.flags.deleted
key_row largest m Undraft = not m.info.flags.draft
key_row largest m Unflagged = not m.info.flags.flagged
key_row largest m Unseen = not m.info.flags.seen
key_row largest m New = m.recent && not m.info.flags.seen
key_row largest m Old = not m.recent
key_row largest m (Keyword name) = list_any (same_keyword name) (keywords_of m)
key_row largest m (Unkeyword name) = not (list_any (same_keyword name) (keywords_of m))
key_row largest m (Bcc string) = header_has (codes "Bcc") string m.text
key_row largest m (Cc string) = header_has (codes "Cc") string m.text
key_row largest m (From string) = header_has (codes "From") string m.text
key_row largest m (Subject string) = header_has (codes "Subject") string m.text
key_row largest m (To string) = header_has (codes "To") string m.text
key_row largest m (Header name string) = header_has name string m.text
key_row largest m (Body string) = body_has string m.text
key_row largest m (Text string) = is_inside string m.text
key_row largest m (Larger size) = nat_lt size m.info.size
key_row largest m (Smaller size) = nat_lt m.info.size size
key_row largest m (Before day) = is_before day m.info.stamp.day
key_row largest m (On day) = is_on day m.info.stamp.day
key_row largest m (Since day) = is_since day m.info.stamp.day
key_row largest m (SentBefore day) = was_sent (is_before day) m.text
key_row largest m (SentOn day) = was_sent (is_on day) m.text
key_row largest m (SentSince day) = was_sent (is_since day) m.text
key_row largest m (Uid set) = set_has largest.uid m.info.uid set
key_row largest m (Numbers set) = set_has largest.number m.number set
key_row largest m (Not holds) = not holds
key_row largest m (Or one other) = one || other
key_row largest m (AllOf all) = list_all (λ holds. holds) all

-- a key holds of a message, where `*` stands for these numbers
abbrev pub key_holds : Largest → LookedAt → Key → Bool
key_holds largest m = fold-Key Bool (key_row largest m)
