use Rattle.std.proofs.Common.{◌≡◌, ◌∙◌, ℕ, ◌==◌, ◌||◌, Bool, not, true, false, List, Option, Some, None, refl, arith, ap, sym}
use Rattle.std.specs.Option.{is_some}
use Rattle.std.proofs.lemmas.Bool.{false_from_ne_true}
use Rattle.std.proofs.lemmas.List.Elements.{All-from_get_or}
use Rattle.std.proofs.lemmas.List.Folds.{list_all_at}
use Rattle.std.proofs.lemmas.List.Sums.{list_all-from_AllPass}
use Rattle.memchr.specs.Find.{IsFirstByte, is_byte2}
use Rattle.addr_list.specs.Addresses.{is_unfolded}
use Rattle.addr_list.proofs.list.is_unfolded.Goals as goal

first-end : (text : List ℕ) (o : Option ℕ) → IsFirstByte (is_byte2 13 10) text o → not (is_some o) ≡ is_unfolded text
first-end text None first =
    sym (list_all-from_AllPass (λ b. not ((b == 13) || (b == 10))) text
    (All-from_get_or (λ b. not ((b == 13) || (b == 10)) ≡ true) text 0 (λ k inside. ap not (false_from_ne_true _ (first k (omega arith) inside)))))
first-end text (Some at) first = sym (list_all_at (λ b. not ((b == 13) || (b == 10))) text at 0 first.0.high (ap not first.1))

not-twice : (b : Bool) → b ≡ not (not b)
not-twice true = refl
not-twice false = refl

pub returns : goal.returns
returns c = not-twice c.is_none.result ∙ ap not (sym c.is_none.ensures) ∙ first-end c.args.value.now c.memchr2.result c.memchr2.ensures
