-- What is written as a head is read again as the same head.
use Rattle.std.proofs.Common.{◌≡◌, ℕ, ◌+◌, ◌-◌, ◌<◌, ◌^◌, List, [], ◌∷◌, ◌++◌, length, length-append, append_assoc, take, drop, Option, Some, None, true, refl, ap, sym, ◌∙◌, arith, cond, slice_index, ◌==◌}
use Rattle.std.specs.Fmt.{decimal}
use Rattle.std.specs.List.{list_all, position_or_len, before_first, after_first}
use Rattle.std.specs.Char.{is_digit}
use Rattle.std.proofs.lemmas.Bool.{false_from_ne_true}
use Rattle.std.proofs.lemmas.Bool.Decides.{nat_tests}
use Rattle.std.proofs.lemmas.List.{take_at, drop_at, take_all, take_rest, drop-drop, get_or-drop}
use Rattle.std.proofs.lemmas.List.Sums.{position_or_len_is}
use Rattle.memchr.specs.Find.{IsFirstByte, is_byte}
use Rattle.mail_fields.specs.Numbers.{◌>>=◌, decimal_of, digits_in}
use Rattle.mail_fields.specs.Stamps.{StampParts}
use Rattle.mail_fields.specs.ImapDate.{imap_date_of, imap_date_text}
use Rattle.mail_fields.specs.Texts.{written_at}
use Rattle.mail_fields.proofs.Digits.{number-digits, decimal-digits, decimal-reads}
use Rattle.mail_fields.proofs.Texts.{then-written, whole-written}
use Rattle.octal_head.specs.Heads.{is_semicolon, marks_of, OctalParts, octal_head_of, octal_parts_of, size_then_marks_of, octal_head_text}

-- where the first semicolon stands
pub semicolon-found : (text : List ℕ) (at : ℕ) → IsFirstByte (is_byte 59) text (Some at) → position_or_len is_semicolon text ≡ at
semicolon-found text at first =
    let before = first.0.before in
    position_or_len_is is_semicolon text at 0 (omega (arith, first.0.high)) (λ k below. false_from_ne_true _ (before k (omega arith) below)) (λ _. first.1)

pub semicolon-none : (text : List ℕ) → IsFirstByte (is_byte 59) text None → position_or_len is_semicolon text ≡ length text
semicolon-none text nowhere =
    position_or_len_is is_semicolon text (length text) 0 (omega arith) (λ k below. false_from_ne_true _ (nowhere k (omega arith) below)) (λ inside. absurd (omega arith))

-- two texts, one behind the other, that fill a buffer
both-written : (buffer first second one two : List ℕ) (at : ℕ) → first ≡ written_at buffer 0 one → second ≡ written_at first at two
    → length one ≡ at → length buffer ≡ at + length two → second ≡ one ++ two
both-written buffer first second one two at a b width whole =
    b ∙ ap (λ w. written_at w at two) a ∙ then-written buffer one two 0 at (omega arith) (omega arith)
    ∙ whole-written buffer (one ++ two) (omega (arith, length-append one two))

-- digits stand before the first semicolon
digits-before : (digits rest : List ℕ) → list_all (λ byte. is_digit byte 10) digits ≡ true → position_or_len is_semicolon (digits ++ 59 ∷ rest) ≡ length digits
digits-before [] rest all = refl
digits-before (byte ∷ digits) rest all = grind (arith, nat_tests, digits-before digits rest)

marks-read : (words bits : ℕ) → words < 2 ^ 30 → bits < 64 → marks_of (digits_in 8 10 words ++ digits_in 8 2 bits) ≡ Some (words, bits)
unfolding marks_of
marks-read words bits low high =
    let one = number-digits 8 10 words (omega arith) (omega arith) low in
    let two = number-digits 8 2 bits (omega arith) (omega arith) high in
    rw (one, two) refl

-- the parts of a line, read one by one
abbrev size_and_marks : Option ℕ → Option (ℕ × ℕ) → Option (ℕ × ℕ × ℕ)
size_and_marks sizes marks = do
  size ← sizes
  mark ← marks
  Some (size, mark.0, mark.1)

abbrev parts_read : Option StampParts → Option ℕ → Option (ℕ × ℕ) → Option OctalParts
parts_read stamps sizes marks = do
  stamp ← stamps
  found ← size_and_marks sizes marks
  Some (record { stamp = stamp; size = found.0; words = found.1; bits = found.2 })

head-frame : (date size marks : List ℕ) → length date ≡ 26 → list_all (λ byte. is_digit byte 10) size ≡ true
    → octal_head_of (date ++ 44 ∷ (size ++ 59 ∷ marks)) ≡ parts_read (imap_date_of date) (decimal_of size) (marks_of marks)
unfolding octal_head_of octal_parts_of size_then_marks_of
head-frame date size marks width digits =
    let behind = size ++ 59 ∷ marks in
    let line = date ++ 44 ∷ behind in
    let front : take 26 line ≡ date = take_at date (44 ∷ behind) 26 width in
    let comma : slice_index line 26 ≡ 44 = sym (get_or-drop 26 line 0 0) ∙ ap (λ rest. slice_index rest 0) (drop_at date (44 ∷ behind) 26 width) in
    let back : drop 27 line ≡ behind = sym (drop-drop 1 26 line) ∙ ap (drop 1) (drop_at date (44 ∷ behind) 26 width) in
    let place : position_or_len is_semicolon behind ≡ length size = digits-before size marks digits in
    let before : before_first is_semicolon behind ≡ size = ap (λ at. take at behind) place ∙ take_at size (59 ∷ marks) (length size) refl in
    let after : after_first is_semicolon behind ≡ marks =
    ap (λ at. drop (at + 1) behind) place ∙ sym (drop-drop 1 (length size) behind) ∙ ap (drop 1) (drop_at size (59 ∷ marks) (length size) refl) in
    ap (λ (byte : ℕ). cond (byte == 44) (octal_parts_of (take 26 line) (drop 27 line)) None) comma
    ∙ ap (λ text. parts_read (imap_date_of text) (decimal_of (before_first is_semicolon (drop 27 line))) (marks_of (after_first is_semicolon (drop 27 line)))) front
    ∙ ap (λ text. parts_read (imap_date_of date) (decimal_of (before_first is_semicolon text)) (marks_of (after_first is_semicolon text))) back
    ∙ ap (λ text. parts_read (imap_date_of date) (decimal_of text) (marks_of (after_first is_semicolon behind))) before
    ∙ ap (λ text. parts_read (imap_date_of date) (decimal_of size) (marks_of text)) after

grouped : (date size words bits : List ℕ) → date ++ 44 ∷ [] ++ size ++ 59 ∷ [] ++ (words ++ bits) ≡ date ++ 44 ∷ (size ++ 59 ∷ (words ++ bits))
grouped date size words bits = simp append_assoc

pub head-reads : (head : OctalParts) → length (imap_date_text head.stamp) ≡ 26 → imap_date_of (imap_date_text head.stamp) ≡ Some head.stamp
    → head.size < 10 ^ 10 → head.words < 2 ^ 30 → head.bits < 64 → octal_head_of (octal_head_text head) ≡ Some head
unfolding octal_head_text
head-reads head width reads small low high =
    let marks = digits_in 8 10 head.words ++ digits_in 8 2 head.bits in
    ap octal_head_of (grouped (imap_date_text head.stamp) (decimal head.size) (digits_in 8 10 head.words) (digits_in 8 2 head.bits))
    ∙ head-frame (imap_date_text head.stamp) (decimal head.size) marks width (decimal-digits head.size (omega arith))
    ∙ ap (λ stamp. parts_read stamp (decimal_of (decimal head.size)) (marks_of marks)) reads
    ∙ ap (λ size. parts_read (Some head.stamp) size (marks_of marks)) (decimal-reads head.size small)
    ∙ ap (parts_read (Some head.stamp) (Some head.size)) (marks-read head.words head.bits low high)

-- a date that fills its buffer
pub date-stands : (buffer text : List ℕ) (stamp : StampParts) → buffer ≡ text → length text ≡ 26 → imap_date_of (take 26 (drop 0 buffer)) ≡ Some stamp → imap_date_of text ≡ Some stamp
date-stands buffer text stamp same width reads =
    ap imap_date_of (sym (take_all 26 text (omega arith)) ∙ ap (take 26) (sym same)) ∙ reads

-- the digits of the bits, written in a buffer
pub marks-written : (buffer first second : List ℕ) (words bits wide narrow : ℕ) → wide ≡ words → narrow ≡ bits → length buffer ≡ 12
    → first ≡ written_at buffer 0 (digits_in 8 10 wide) → second ≡ written_at first 10 (digits_in 8 2 narrow) → second ≡ digits_in 8 10 words ++ digits_in 8 2 bits
marks-written buffer first second words bits wide narrow w n whole a b =
    both-written buffer first second (digits_in 8 10 wide) (digits_in 8 2 narrow) 10 a b refl whole
    ∙ ap (λ x. digits_in 8 10 x ++ digits_in 8 2 narrow) w ∙ ap (λ x. digits_in 8 10 words ++ digits_in 8 2 x) n

-- a line whose byte behind the date is a comma
pub head-behind : (line : List ℕ) → slice_index line 26 ≡ 44 → octal_parts_of (take 26 line) (take (length line - 27) (drop 27 line)) ≡ octal_head_of line
unfolding octal_head_of
head-behind line comma =
    ap (octal_parts_of (take 26 line)) (take_rest line 27) ∙ sym (ap (λ (byte : ℕ). cond (byte == 44) (octal_parts_of (take 26 line) (drop 27 line)) None) comma)

-- a line built from its parts
pub head-built : (head : OctalParts) (one two three four five six size marks found end : List ℕ)
    → one ≡ imap_date_text head.stamp → two ≡ one ++ 44 ∷ [] → three ≡ two ++ size → four ≡ three ++ 59 ∷ [] → five ≡ four ++ marks → six ≡ five ++ found
    → size ≡ decimal head.size → marks ≡ digits_in 8 10 head.words ++ digits_in 8 2 head.bits → found ≡ end → six ≡ octal_head_text head ++ end
unfolding octal_head_text
head-built head one two three four five six size marks found end date a b c d e is_size is_marks is_end =
    let start = imap_date_text head.stamp ++ 44 ∷ [] in
    e ∙ ap (λ text. text ++ found) (d ∙ ap (λ text. text ++ marks) (c ∙ ap (λ text. text ++ 59 ∷ []) (b ∙ ap (λ text. text ++ size) (a ∙ ap (λ text. text ++ 44 ∷ []) date))))
    ∙ ap (λ size. start ++ size ++ 59 ∷ [] ++ marks ++ found) is_size
    ∙ ap (λ marks. start ++ decimal head.size ++ 59 ∷ [] ++ marks ++ found) is_marks
    ∙ ap (λ found. start ++ decimal head.size ++ 59 ∷ [] ++ (digits_in 8 10 head.words ++ digits_in 8 2 head.bits) ++ found) is_end
