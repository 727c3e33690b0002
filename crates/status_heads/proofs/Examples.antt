-- Status fields and bases, computed.
use Rattle.std.proofs.Common.{◌≡◌, ◌∷◌, [], Some, None, true, false, refl, codes}
use Rattle.text_lines.specs.Lines.{line_len, lines_from}
use Rattle.mail_fields.specs.Numbers.{number_in}
use Rattle.status_heads.specs.Bases.{base_of, base_of_words}
use Rattle.status_heads.specs.Heads.{heads_of, heads_in}
use Rattle.status_heads.specs.HeadTexts.{heads_text, head_lines, field_line, status_text, more_text}
use Rattle.status_heads.specs.Insertions.{with_fields}
use Rattle.status_heads.specs.Names.{words_of, names_of}
use Rattle.status_heads.specs.Numbers.{number_between}

-- two spaces, and a word that is no name
names-example : names_of (codes "Work  (x) Home") ≡ codes "Work" ∷ codes "Home" ∷ []
unfolding words_of
names-example = refl

-- the first of two fields counts
heads-example : heads_of (codes "A: b\nstatus: RO\nX-UID: 7\nX-UID: 8\n\n") ≡ record { seen_old = record { seen = true; answered = false; flagged = false; deleted = false; draft = false; old = true }; words = []; uid = Some 7 }
unfolding heads_in number_between number_in words_of line_len lines_from
heads-example = refl

base-example : (base_of (codes "X-IMAP: 0000000900 0000000002 Work\n\n") (codes "X-IMAP") ≡ Some (record { validity = 900; last = 2; words = codes "Work" ∷ [] })) × (base_of (codes "X-IMAPbase: 900 2\n\n") (codes "X-IMAP") ≡ None)
unfolding base_of_words number_between number_in words_of line_len lines_from
base-example = (refl, refl)

text-example : heads_text (record { seen_old = record { seen = false; answered = false; flagged = true; deleted = false; draft = false; old = true }; words = codes "Work" ∷ []; uid = None }) ≡ codes "Status: O\nX-Status: F\nX-Keywords: Work\n"
unfolding head_lines field_line status_text more_text
text-example = refl

with-example : with_fields (codes "X-UID: 1\n") (codes "A: b\n\nText\n") ≡ codes "A: b\nX-UID: 1\n\nText\n"
unfolding with_fields line_len lines_from
with-example = refl
