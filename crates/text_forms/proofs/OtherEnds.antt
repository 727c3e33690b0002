-- What a line says doesn't rest on the line end that it has: whether it begins a reserved field, and whether it is a delimiter line.
use Rattle.std.proofs.Common.{◌≡◌, ◌+◌, ℕ, Bool, true, false, not, cond, List, [], ◌∷◌, ◌++◌, ◌==◌, ◌&&◌, ◌||◌, nat_le, ⊎_elim, length, length-append, take, drop, map, codes, bytes_eq, append-nil, None, refl, ap, sym, ◌∙◌, arith}
use Rattle.std.specs.Str.{str_eq_ignore_ascii_case}
use Rattle.std.specs.Char.{to_ascii_lowercase}
use Rattle.std.specs.List.{list_all, list_any}
use Rattle.std.proofs.lemmas.Bool.{cases_Bool, cond-true, and_parts, not-true}
use Rattle.std.proofs.lemmas.Bool.Decides.{nat_tests}
use Rattle.text_lines.specs.Blanks.{is_continuation, is_blank}
use Rattle.text_lines.specs.Lines.{line_text, line_end_of, is_line_end, is_empty_line, lines_of}
use Rattle.text_lines.proofs.LineEnds.{text-then-end}
use Rattle.text_lines.proofs.Lines.{no_lines}
use Rattle.text_lines.proofs.Texts.{is_closed, closed-first}
use Rattle.mail_fields.specs.DelimiterLine.{delimiter_stamp, date_behind_space, is_short, is_one_line}
use Rattle.text_forms.specs.Lines.{with_end, stored_line, is_ended, begins_colon, is_field_named, is_reserved, is_dropped}
use Rattle.text_forms.specs.Forms.{unreserved_lines, has_reserved}
use Rattle.text_forms.proofs.LineEnds.{closed-ended, closed-end, end-of-line, end-same, text-same, with-end-closed}
use Rattle.text_forms.proofs.Headed.{IsSettled}
use Rattle.text_forms.proofs.Idempotent.{first-of-empty}

-- no byte of a line end, in any case
abbrev is_apart : List ℕ → Bool
is_apart name = list_all (λ byte. not (to_ascii_lowercase 10 == to_ascii_lowercase byte) && not (to_ascii_lowercase 13 == to_ascii_lowercase byte)) name

and_and : (a b c : Bool) → ((a && b) && c) ≡ (a && (b && c))
and_and true b c = refl
and_and false b c = refl

colon-text : (text end : List ℕ) → is_line_end end ≡ true → begins_colon (text ++ end) ≡ begins_colon text
colon-text [] end is = first-of-empty (λ line. begins_colon line ≡ false) (λ rest. refl) (λ rest. refl) end is
colon-text (byte ∷ text) end is = ap (λ t. byte == 58 || (is_blank byte && t)) (colon-text text end is)

named-text : (name text end : List ℕ) → is_apart name ≡ true → is_line_end end ≡ true → is_field_named (text ++ end) name ≡ is_field_named text name
named-text [] text end apart is = colon-text text end is
named-text (first ∷ name) [] end apart is =
    let parts = and_parts (not (to_ascii_lowercase 10 == to_ascii_lowercase first)) (not (to_ascii_lowercase 13 == to_ascii_lowercase first))
    (and_parts (not (to_ascii_lowercase 10 == to_ascii_lowercase first) && not (to_ascii_lowercase 13 == to_ascii_lowercase first)) (is_apart name) apart).0 in
    let feed = not-true (to_ascii_lowercase 10 == to_ascii_lowercase first) parts.0 in
    let return = not-true (to_ascii_lowercase 13 == to_ascii_lowercase first) parts.1 in
    first-of-empty (λ line. is_field_named line (first ∷ name) ≡ false)
    (λ rest. ap (λ t. (t && str_eq_ignore_ascii_case (take (length name) rest) name) && begins_colon (drop (length name) rest)) feed)
    (λ rest. ap (λ t. (t && str_eq_ignore_ascii_case (take (length name) rest) name) && begins_colon (drop (length name) rest)) return)
    end is
named-text (first ∷ name) (byte ∷ text) end apart is =
    let same = to_ascii_lowercase byte == to_ascii_lowercase first in
    let rest = named-text name text end (and_parts (not (to_ascii_lowercase 10 == to_ascii_lowercase first) && not (to_ascii_lowercase 13 == to_ascii_lowercase first)) (is_apart name) apart).1 is in
    and_and same (str_eq_ignore_ascii_case (take (length name) (text ++ end)) name) (begins_colon (drop (length name) (text ++ end)))
    ∙ ap (λ t. same && t) rest
    ∙ sym (and_and same (str_eq_ignore_ascii_case (take (length name) text) name) (begins_colon (drop (length name) text)))

reserved-text : (text end : List ℕ) → is_line_end end ≡ true → is_reserved (text ++ end) ≡ is_reserved text
reserved-text text end is = λ i.
    named-text (codes "Status") text end refl is i || (
    named-text (codes "X-Status") text end refl is i || (
    named-text (codes "X-UID") text end refl is i || (
    named-text (codes "X-Keywords") text end refl is i || (
    named-text (codes "X-IMAP") text end refl is i || named-text (codes "X-IMAPbase") text end refl is i))))

continuation-text : (text end : List ℕ) → is_line_end end ≡ true → is_continuation (text ++ end) ≡ is_continuation text
continuation-text [] end is = first-of-empty (λ line. is_continuation line ≡ false) (λ rest. refl) (λ rest. refl) end is
continuation-text (byte ∷ text) end is = refl

-- bytes that a line begins with stand in its text
front-text : (front text end : List ℕ) → list_all (λ byte. not (byte == 10) && not (byte == 13)) front ≡ true → is_line_end end ≡ true
    → bytes_eq front (take (length front) (text ++ end)) ≡ bytes_eq front (take (length front) text)
front-text [] text end apart is = refl
front-text (first ∷ front) [] end apart is =
    let parts = and_parts (not (first == 10)) (not (first == 13)) (and_parts (not (first == 10) && not (first == 13)) _ apart).0 in
    let feed = not-true (first == 10) parts.0 in
    let return = not-true (first == 13) parts.1 in
    first-of-empty (λ line. bytes_eq (first ∷ front) (take (length (first ∷ front)) line) ≡ false)
    (λ rest. ap (λ t. t && bytes_eq front (take (length front) rest)) feed)
    (λ rest. ap (λ t. t && bytes_eq front (take (length front) rest)) return)
    end is
front-text (first ∷ front) (byte ∷ text) end apart is =
    ap (λ t. (first == byte) && t) (front-text front text end (and_parts (not (first == 10) && not (first == 13)) _ apart).1 is)

-- a line with another end in place of its own
module _ (end : List ℕ) (is : is_line_end end ≡ true) (line : List ℕ) (closed : is_closed line ≡ true) where
  over : with_end end line ≡ line_text line ++ end
  over = cond-true (is_ended line) (line_text line ++ end) line (closed-ended line closed)

  own : is_line_end (line_end_of line) ≡ true
  own = end-of-line line (closed-end line closed)

  -- a fact that rests on the text alone stays
  same-of : {A : Type 0} (says : List ℕ → A) → ((text other : List ℕ) → is_line_end other ≡ true → says (text ++ other) ≡ says text) → says (with_end end line) ≡ says line
  same-of says rests =
      ap says over ∙ rests (line_text line) end is ∙ sym (rests (line_text line) (line_end_of line) own) ∙ ap says (text-then-end line)

  pub reserved-over : is_reserved (with_end end line) ≡ is_reserved line
  reserved-over = same-of is_reserved reserved-text

  pub continuation-over : is_continuation (with_end end line) ≡ is_continuation line
  continuation-over = same-of is_continuation continuation-text

  pub empty-over : is_empty_line (with_end end line) ≡ is_empty_line line
  empty-over = ap is_line_end over ∙ end-same end is line closed

  pub text-over : line_text (with_end end line) ≡ line_text line
  text-over = ap line_text over ∙ text-same end is line closed

  pub dropped-over : (above : Bool) → is_dropped above (with_end end line) ≡ is_dropped above line
  dropped-over above = λ i. cond (continuation-over i) above (reserved-over i)

abbrev pub AreClosed : List (List ℕ) → Type 0
AreClosed [] = Unit {0}
AreClosed (line ∷ lines) = (is_closed line ≡ true) × AreClosed lines

-- reserved fields go in the same way whatever the line ends
pub unreserved-over : (end : List ℕ) → is_line_end end ≡ true → (above : Bool) (lines : List (List ℕ)) → AreClosed lines
    → unreserved_lines above (map (with_end end) lines) ≡ map (with_end end) (unreserved_lines above lines)
unreserved-over end is above [] are = refl
unreserved-over end is above (line ∷ lines) are =
    let ends = with_end end in
    let rest = map ends lines in
    let goes = unreserved-over end is true lines are.1 in
    let stays = unreserved-over end is false lines are.1 in
    (λ i. cond (empty-over end is line are.0 i) (ends line ∷ rest) (cond (dropped-over end is line are.0 above i) (goes i) (ends line ∷ stays i)))
    ∙ both (is_empty_line line) (is_dropped above line)
  where
    both : (a b : Bool) → cond a (with_end end line ∷ map (with_end end) lines) (cond b (map (with_end end) (unreserved_lines true lines)) (with_end end line ∷ map (with_end end) (unreserved_lines false lines)))
        ≡ map (with_end end) (cond a (line ∷ lines) (cond b (unreserved_lines true lines) (line ∷ unreserved_lines false lines)))
    both true b = refl
    both false true = refl
    both false false = refl

pub one-of : (line : List ℕ) → is_closed line ≡ true → is_one_line line ≡ true
one-of line closed = ap (λ lines. nat_le (length lines) 1) (ap lines_of (sym (append-nil line)) ∙ closed-first line [] closed ∙ ap (λ lines. line ∷ lines) (no_lines [] refl))

short-ends : (n : ℕ) → (nat_le (n + 1) 1000 && nat_le n 998) ≡ (nat_le (n + 2) 1000 && nat_le n 998)
short-ends n = ⊎_elim
    (λ few.
    let one : nat_le (n + 1) 1000 ≡ true = grind (arith, nat_tests, few) in
    let two : nat_le (n + 2) 1000 ≡ true = grind (arith, nat_tests, few) in
    ap (λ t. t && nat_le n 998) (one ∙ sym two))
    (λ many. ap (λ t. nat_le (n + 1) 1000 && t) many ∙ none (nat_le (n + 1) 1000) ∙ sym (ap (λ t. nat_le (n + 2) 1000 && t) many ∙ none (nat_le (n + 2) 1000)))
    (cases_Bool (nat_le n 998))
  where
    none : (a : Bool) → (a && false) ≡ false
    none true = refl
    none false = refl

-- a line that ends in CRLF is a delimiter line where it is one with LF at its end
pub stored-delimiter : (line : List ℕ) → IsSettled line → delimiter_stamp (stored_line line) ≡ delimiter_stamp line
unfolding delimiter_stamp
stored-delimiter line is =
    let text = line_text line in
    let lf = 10 ∷ [] in
    let crlf = 13 ∷ 10 ∷ [] in
    let stored : stored_line line ≡ text ++ lf = over lf refl line is.one in
    let kept : line ≡ text ++ crlf = sym is.kept ∙ over crlf refl line is.one in
    let front : bytes_eq (codes "From ") (take 5 (stored_line line)) ≡ bytes_eq (codes "From ") (take 5 line) =
    ap (λ l. bytes_eq (codes "From ") (take 5 l)) stored ∙ front-text (codes "From ") text lf refl refl ∙ sym (ap (λ l. bytes_eq (codes "From ") (take 5 l)) kept ∙ front-text (codes "From ") text crlf refl refl) in
    let texts : line_text (stored_line line) ≡ text = text-over lf refl line is.one in
    let few : is_short (stored_line line) ≡ is_short line =
    (λ i. nat_le (length (stored i)) 1000 && nat_le (length (texts i)) 998)
    ∙ ap (λ n. nat_le n 1000 && nat_le (length text) 998) (length-append text lf)
    ∙ short-ends (length text)
    ∙ ap (λ n. nat_le n 1000 && nat_le (length text) 998) (sym (ap length kept ∙ length-append text crlf)) in
    let one : is_one_line (stored_line line) ≡ is_one_line line = one-of (stored_line line) (with-end-closed lf refl refl line is.one) ∙ sym (one-of line is.one) in
    λ i. cond ((front i && few i) && one i) (date_behind_space (drop 4 (texts i))) None

pub has-reserved-over : (end : List ℕ) → is_line_end end ≡ true → (lines : List (List ℕ)) → AreClosed lines → has_reserved (map (with_end end) lines) ≡ has_reserved lines
has-reserved-over end is [] are = refl
has-reserved-over end is (line ∷ lines) are =
    let rest = has-reserved-over end is lines are.1 in
    λ i. cond (empty-over end is line are.0 i) false (reserved-over end is line are.0 i || rest i)

pub any-empty-over : (end : List ℕ) → is_line_end end ≡ true → (lines : List (List ℕ)) → AreClosed lines → list_any is_empty_line (map (with_end end) lines) ≡ list_any is_empty_line lines
any-empty-over end is [] are = refl
any-empty-over end is (line ∷ lines) are = let rest = any-empty-over end is lines are.1 in λ i. empty-over end is line are.0 i || rest i
