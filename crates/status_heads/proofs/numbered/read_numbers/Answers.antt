use Rattle.std.proofs.Common.{rules, IfSome, ◌≡◌, ◌∷◌, [], true, false, refl, List, ℕ, length, replicate, cond, ap, sym, subst, ◌∙◌}
use Rattle.std.specs.List.{filter}
use Rattle.mail_fields.specs.Keyword.{is_keyword}
use Rattle.status_heads.specs.Names.{words_of, names_of, with_names}
use Rattle.status_heads.specs.Numbered.{marks_of, number_of_bits}
use Rattle.status_heads.proofs.Marks.{joined, unmarked, all-marked, with-more, same-then, few-then, names-later, marks-later}
use Rattle.status_heads.proofs.numbered.read_numbers.Goals as goal

pub loop-word-init : goal.loop-word-init
loop-word-init c =
    let known = c.args.known.items in
    let found = names_of c.args.value.now in
    let plain : c.in_ok-marks.marks.items ≡ replicate (length known) false = search rules in
    record {
      same = search rules;
      few = c.requires;
      names = refl;
      marks = ap (λ marks. joined marks (with_names known found) found) plain ∙ unmarked (length known) (with_names known found) found (with-more found known);
    }

-- the names of a value that begins with one
names-first : (value word name behind : List ℕ) → words_of value ≡ word ∷ words_of behind → name ≡ word → is_keyword word ≡ true → names_of value ≡ name ∷ names_of behind
names-first value word name behind words same keyword =
    ap (filter is_keyword) words ∙ ap (λ is. cond is (word ∷ names_of behind) (names_of behind)) keyword ∙ ap (λ w. w ∷ names_of behind) (sym same)

pub loop-word-preserved-in_ok-take_name : goal.loop-word-preserved-in_ok-take_name
loop-word-preserved-in_ok-take_name c =
    let names = c.loop-word.names.items in
    let marks = c.loop-word.marks.items in
    let name = c.in-Some-2.name in
    let word = c.in-Some.word.now in
    let rest = c.loop-word.rest.now in
    let behind = c.in-Some.behind.now in
    let words = names_of behind in
    let found = names_of c.args.value.now in
    let names_then = c.take_name.new.names.items in
    let marks_then = c.take_name.new.marks.items in
    let is = subst (λ found. IfSome found (λ name. (name ≡ word) × (is_keyword word ≡ true))) c.in-Some-2.is c.in_ok-name.ensures.some in
    let keyword : is_keyword name ≡ true = ap is_keyword is.0 ∙ is.1 in
    let first = names-first rest word name behind c.in-Some.ensures.words is.0 is.1 in
    let known = c.loop-word.invariant in
    let same = known.same in
    let names_are = c.in_ok-take_name.ensures.names in
    let marks_are = c.in_ok-take_name.ensures.marks in
    let later = names-later names words marks name same names_then marks_then names_are marks_are in
    let before : joined marks (with_names names (name ∷ words)) (name ∷ words) ≡ marks_of (with_names names (name ∷ words)) found = subst (λ w. joined marks (with_names names w) w ≡ marks_of (with_names names w) found) first known.marks in
    record {
      same = same-then names words marks name same names_then marks_then names_are marks_are;
      few = few-then names words marks name same names_then marks_then names_are marks_are known.few;
      names = later ∙ ap (with_names names) (sym first) ∙ known.names;
      marks = marks-later names words marks name same names_then marks_then names_are marks_are keyword
          ∙ subst (λ k. joined marks k (name ∷ words) ≡ marks_of k found) (sym later) before;
    }

pub returns-clause-words : goal.returns-clause-words
returns-clause-words c =
    let names = c.loop-word.names.items in
    let marks = c.loop-word.marks.items in
    let known = c.loop-word.invariant in
    let none : names_of c.loop-word.rest.now ≡ [] = ap (filter is_keyword) (rw c.in_default.is at c.next_word.ensures.words) in
    let marked = subst (λ w. joined marks (with_names names w) w ≡ marks_of (with_names names w) (names_of c.args.value.now)) none known.marks in
    c.number_of_bits-words.ensures ∙ ap number_of_bits (c.as_slice.ensures.value ∙ sym (all-marked marks names known.same) ∙ marked)
