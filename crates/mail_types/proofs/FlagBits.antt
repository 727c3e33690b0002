-- The bits of flags are read back as the flags.
use Rattle.std.proofs.Common.{◌≡◌, ◌&&◌, Bool, true, false, ℕ, refl, sym, ap, ◌∙◌}
use Rattle.std.proofs.lemmas.Bool.{and_parts}
use Rattle.mail_types.specs.declared.flags.Flags.{Flags}
use Rattle.mail_types.specs.Flags.{flag_bits, flags_of_bits}

abbrev for_both : (Bool → Bool) → Bool
for_both test = test true && test false

holds : (test : Bool → Bool) → for_both test ≡ true → (b : Bool) → test b ≡ true
holds test both true = (and_parts (test true) (test false) both).0
holds test both false = (and_parts (test true) (test false) both).1

abbrev same : Bool → Bool → Bool
same true b = b
same false true = false
same false false = true

same_is : (a b : Bool) → same a b ≡ true → a ≡ b
same_is true true is = refl
same_is true false is = sym is
same_is false true is = is
same_is false false is = refl

abbrev flags : Bool → Bool → Bool → Bool → Bool → Bool → Flags
flags a b c d e f = record { seen = a; answered = b; flagged = c; deleted = d; draft = e; old = f }

abbrev agree : Flags → Flags → Bool
agree x y = same x.seen y.seen && (same x.answered y.answered && (same x.flagged y.flagged && (same x.deleted y.deleted && (same x.draft y.draft && same x.old y.old))))

agree_is : (x y : Flags) → agree x y ≡ true → x ≡ y
agree_is x y is =
    let one = and_parts _ _ is in
    let two = and_parts _ _ one.1 in
    let three = and_parts _ _ two.1 in
    let four = and_parts _ _ three.1 in
    let five = and_parts _ _ four.1 in
    λ k. record {
      seen = same_is x.seen y.seen one.0 k;
      answered = same_is x.answered y.answered two.0 k;
      flagged = same_is x.flagged y.flagged three.0 k;
      deleted = same_is x.deleted y.deleted four.0 k;
      draft = same_is x.draft y.draft five.0 k;
      old = same_is x.old y.old five.1 k;
    }

abbrev reads : Bool → Bool → Bool → Bool → Bool → Bool → Bool
reads a b c d e f = agree (flags_of_bits (flag_bits (flags a b c d e f))) (flags a b c d e f)

every : for_both (λ a. for_both (λ b. for_both (λ c. for_both (λ d. for_both (λ e. for_both (λ f. reads a b c d e f)))))) ≡ true
every = refl

pub bits_read : (x : Flags) → flags_of_bits (flag_bits x) ≡ x
bits_read x = agree_is _ x
    (holds (λ f. reads x.seen x.answered x.flagged x.deleted x.draft f)
    (holds (λ e. for_both (λ f. reads x.seen x.answered x.flagged x.deleted e f))
    (holds (λ d. for_both (λ e. for_both (λ f. reads x.seen x.answered x.flagged d e f)))
    (holds (λ c. for_both (λ d. for_both (λ e. for_both (λ f. reads x.seen x.answered c d e f))))
    (holds (λ b. for_both (λ c. for_both (λ d. for_both (λ e. for_both (λ f. reads x.seen b c d e f)))))
    (holds (λ a. for_both (λ b. for_both (λ c. for_both (λ d. for_both (λ e. for_both (λ f. reads a b c d e f)))))) every x.seen) x.answered) x.flagged) x.deleted) x.draft) x.old)

pub bits_read_back : (x : Flags) (bits : ℕ) → bits ≡ flag_bits x → flags_of_bits bits ≡ x
bits_read_back x bits is = ap flags_of_bits is ∙ bits_read x
