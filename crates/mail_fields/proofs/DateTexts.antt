-- What the parts of a date's text look like, and how they read.
use Rattle.std.proofs.Common.{◌≡◌, ℕ, zero, suc, ◌+◌, ◌-◌, ◌<◌, ◌≤◌, List, [], ◌∷◌, ◌++◌, length, get_or, Some, refl, sym, ap, ◌∙◌, subst, arith}
use Rattle.mail_fields.specs.CivilDays.{month_of, month_text, day_text}
use Rattle.std.proofs.lemmas.Bool.Decides.{nat_tests}

two-cells : (text : List ℕ) → length text ≡ 2 → text ≡ get_or text 0 0 ∷ get_or text 1 0 ∷ []
two-cells [] long = absurd (omega arith)
two-cells (a ∷ []) long = absurd (omega arith)
two-cells (a ∷ b ∷ []) long = refl
two-cells (a ∷ b ∷ c ∷ rest) long = absurd (omega arith)

three-cells : (text : List ℕ) → length text ≡ 3 → text ≡ get_or text 0 0 ∷ get_or text 1 0 ∷ get_or text 2 0 ∷ []
three-cells [] long = absurd (omega arith)
three-cells (a ∷ rest) long = ap (λ cells. a ∷ cells) (two-cells rest (omega arith))

-- `dd-Mon-yyyy ` from its bytes
pub dashed-cells : (day month : List ℕ) (a b c d : ℕ) → length day ≡ 2 → length month ≡ 3
    → get_or day 0 0 ∷ get_or day 1 0 ∷ 45 ∷ get_or month 0 0 ∷ get_or month 1 0 ∷ get_or month 2 0 ∷ 45 ∷ a ∷ b ∷ c ∷ d ∷ 32 ∷ []
    ≡ day ++ 45 ∷ [] ++ month ++ 45 ∷ [] ++ (a ∷ b ∷ c ∷ d ∷ []) ++ 32 ∷ []
dashed-cells day month a b c d short long =
    let all : List ℕ → List ℕ → List ℕ = λ x y. x ++ 45 ∷ [] ++ y ++ 45 ∷ [] ++ (a ∷ b ∷ c ∷ d ∷ []) ++ 32 ∷ [] in
    sym (ap (λ x. all x month) (two-cells day short) ∙ ap (λ y. all (get_or day 0 0 ∷ get_or day 1 0 ∷ []) y) (three-cells month long))

each-month : (before : ℕ) → before < 12 → (month_of (month_text (before + 1)) ≡ Some (before + 1)) × (length (month_text (before + 1)) ≡ 3)
unfolding month_of month_text
each-month zero low = (refl, refl)
each-month (suc zero) low = (refl, refl)
each-month (suc (suc zero)) low = (refl, refl)
each-month (suc (suc (suc zero))) low = (refl, refl)
each-month (suc (suc (suc (suc zero)))) low = (refl, refl)
each-month (suc (suc (suc (suc (suc zero))))) low = (refl, refl)
each-month (suc (suc (suc (suc (suc (suc zero)))))) low = (refl, refl)
each-month (suc (suc (suc (suc (suc (suc (suc zero))))))) low = (refl, refl)
each-month (suc (suc (suc (suc (suc (suc (suc (suc zero)))))))) low = (refl, refl)
each-month (suc (suc (suc (suc (suc (suc (suc (suc (suc zero))))))))) low = (refl, refl)
each-month (suc (suc (suc (suc (suc (suc (suc (suc (suc (suc zero)))))))))) low = (refl, refl)
each-month (suc (suc (suc (suc (suc (suc (suc (suc (suc (suc (suc zero))))))))))) low = (refl, refl)
each-month (suc (suc (suc (suc (suc (suc (suc (suc (suc (suc (suc (suc k)))))))))))) low = absurd (omega arith)

-- a month reads as it is written
pub month-reads : (month : ℕ) → 1 ≤ month → month ≤ 12 → (month_of (month_text month) ≡ Some month) × (length (month_text month) ≡ 3)
month-reads month low high =
    let next : month - 1 + 1 ≡ month = omega arith in
    subst (λ m. (month_of (month_text m) ≡ Some m) × (length (month_text m) ≡ 3)) next (each-month (month - 1) (omega arith))

pub length-day_text : (day : ℕ) → length (day_text day) ≡ 2
unfolding day_text
length-day_text day = grind (arith, nat_tests)
