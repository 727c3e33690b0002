-- The bytes of lines with lists, in their pieces.
use Rattle.std.proofs.Common.{Bool, true, false, ◌||◌, map, refl, ℕ, List, ◌∷◌, ◌++◌, [], ◌≡◌, sym, ◌∙◌, ap, append_assoc, codes}
use Rattle.mail_types.specs.declared.flags.Flags.{Flags}
use Rattle.imap_reply.specs.Replies.{crlf, untagged}
use Rattle.imap_reply.specs.Texts.{behind_spaces, behind_some, spaced, has_texts, has_some, system_flags, in_parentheses, every_system_flag}

pub fetch_pieces : (number texts : List ℕ) → (codes "* " ++ number) ++ (codes " FETCH (" ++ (texts ++ codes ")\r\n")) ≡ untagged (number ++ (codes " FETCH " ++ (codes "(" ++ (texts ++ codes ")"))))
fetch_pieces number texts = ap (λ l. 42 ∷ 32 ∷ l)
    (sym (append_assoc number (codes " FETCH (" ++ (texts ++ codes ")")) crlf ∙ ap (λ l. number ++ (codes " FETCH (" ++ l)) (append_assoc texts (codes ")") crlf)))

pub status_pieces : (name counts : List ℕ) → (codes "* STATUS " ++ (name ++ codes " (")) ++ (counts ++ codes ")\r\n") ≡ untagged (codes "STATUS " ++ (name ++ (codes " " ++ (codes "(" ++ (counts ++ codes ")")))))
status_pieces name counts = ap (λ l. codes "* STATUS " ++ l) (
    append_assoc name (codes " (") (counts ++ codes ")\r\n")
    ∙ sym (append_assoc name (codes " (" ++ (counts ++ codes ")")) crlf ∙ ap (λ l. name ++ (codes " (" ++ l)) (append_assoc counts (codes ")") crlf)))

pub flags_pieces : (names : List (List ℕ)) → codes "* FLAGS (\\Seen \\Answered \\Flagged \\Deleted \\Draft" ++ (behind_spaces names ++ codes ")\r\n") ≡ untagged (codes "FLAGS " ++ in_parentheses (every_system_flag ++ names))
flags_pieces names = ap (λ l. codes "* FLAGS (\\Seen \\Answered \\Flagged \\Deleted \\Draft" ++ l) (sym (append_assoc (behind_spaces names) (codes ")") crlf))

-- texts that are what they say
pub as_they_are : (texts : List (List ℕ)) → map (λ t. t) texts ≡ texts
as_they_are [] = refl
as_they_are (text ∷ texts) = ap (λ l. text ∷ l) (as_they_are texts)

-- ---- Lists one behind the other

behind_parts : (one two : List (List ℕ)) → behind_spaces (one ++ two) ≡ behind_spaces one ++ behind_spaces two
behind_parts [] two = refl
behind_parts (text ∷ one) two = ap (λ l. 32 ∷ l) (ap (λ l. text ++ l) (behind_parts one two) ∙ sym (append_assoc text (behind_spaces one) (behind_spaces two)))

spaced_parts : (one two : List (List ℕ)) → spaced (one ++ two) ≡ spaced one ++ behind_some (has_texts one) two
spaced_parts [] two = refl
spaced_parts (text ∷ one) two = ap (λ l. text ++ l) (behind_parts one two) ∙ sym (append_assoc text (behind_spaces one) (behind_spaces two))

has_parts : (one two : List (List ℕ)) → has_texts (one ++ two) ≡ (has_texts one || has_texts two)
has_parts [] two = refl
has_parts (text ∷ one) two = refl

-- whether there are flags
has_flags : (seen answered flagged deleted draft old : Bool) →
    has_texts (system_flags (record { seen = seen; answered = answered; flagged = flagged; deleted = deleted; draft = draft; old = old }))
    ≡ has_some (record { seen = seen; answered = answered; flagged = flagged; deleted = deleted; draft = draft; old = old })
has_flags true answered flagged deleted draft old = refl
has_flags false true flagged deleted draft old = refl
has_flags false false true deleted draft old = refl
has_flags false false false true draft old = refl
has_flags false false false false true old = refl
has_flags false false false false false old = refl

pub permanent_pieces : (flags : Flags) (names star : List (List ℕ)) →
    (codes "* OK [PERMANENTFLAGS (" ++ spaced (system_flags flags)) ++ (behind_some (has_some flags) names ++ (behind_some (has_some flags || has_texts names) star ++ codes ")] flags kept\r\n"))
    ≡ untagged (codes "OK [PERMANENTFLAGS " ++ (in_parentheses ((system_flags flags ++ names) ++ star) ++ codes "] flags kept"))
permanent_pieces flags names star = ap (λ l. codes "* OK [PERMANENTFLAGS (" ++ l) (sym (
    append_assoc (spaced all ++ codes ")") (codes "] flags kept") crlf
    ∙ append_assoc (spaced all) (codes ")") (codes "] flags kept\r\n")
    ∙ ap (λ l. l ++ rest) (spaced_parts (system_flags flags ++ names) star ∙ (λ i. spaced_parts (system_flags flags) names i ++ behind_some (has_parts (system_flags flags) names i) star))
    ∙ append_assoc (spaced (system_flags flags) ++ behind_some (has_texts (system_flags flags)) names) (behind_some (has_texts (system_flags flags) || has_texts names) star) rest
    ∙ append_assoc (spaced (system_flags flags)) (behind_some (has_texts (system_flags flags)) names) (behind_some (has_texts (system_flags flags) || has_texts names) star ++ rest)
    ∙ ap (λ some. spaced (system_flags flags) ++ (behind_some some names ++ (behind_some (some || has_texts names) star ++ rest))) (has_flags flags.seen flags.answered flags.flagged flags.deleted flags.draft flags.old)))
  where
    all : List (List ℕ)
    all = (system_flags flags ++ names) ++ star

    rest : List ℕ
    rest = codes ")] flags kept\r\n"
