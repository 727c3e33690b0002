-- What a feed keeps of a line.
use Rattle.std.proofs.Common.{ℕ, zero, suc, ◌+◌, ◌-◌, ◌≢◌, Bool, true, false, IsTrue, List, [], ◌∷◌, ◌++◌, ◌≡◌, ◌==◌, ◌&&◌, arith, add-one, refl, sym, ◌∙◌, ap, take, map, length}
use Rattle.std.proofs.lemmas.Grind.{common_steps}
use Rattle.command_lines.specs.Stream.{unfinished, units_of}
use Rattle.command_lines.specs.Taken.{ends_in_cr, HasTaken, Adds}
use Rattle.command_lines.specs.declared.feed.Feed.{Feed}
use Rattle.command_lines.proofs.Bytes.{without_last, ends_line, line_ended, rest_after, rest_push, units_push}

kept_front : (n : ℕ) (rest run : List ℕ) → take n rest ++ take (n - length (take n rest)) run ≡ take n (rest ++ run)
kept_front zero rest run = refl
kept_front (suc n) [] run =
    let whole : suc n - 0 ≡ suc n = omega arith in ap (λ m. take m run) whole
kept_front (suc n) (byte ∷ rest) run =
    let room : suc n - length (byte ∷ take n rest) ≡ n - length (take n rest) = omega arith in
    ap (λ m. byte ∷ take n rest ++ take m run) room ∙ ap (λ bytes. byte ∷ bytes) (kept_front n rest run)

-- what is kept of a line, with what still fits of the run behind it
pub kept_with : (n : ℕ) (kept rest run : List ℕ) → kept ≡ take n rest → kept ++ take (n - length kept) run ≡ take n (rest ++ run)
kept_with n kept rest run is = ap (λ k. k ++ take (n - length k) run) is ∙ kept_front n rest run

front_step : (a : ℕ) (rest : List ℕ) (n m : ℕ) → m ≡ n + 1 → a ∷ take n rest ≡ take m (a ∷ rest)
front_step a rest n m is = rw (is, add-one n) refl

-- without_last as a front
is_front : (rest : List ℕ) → without_last rest ≡ take (length rest - 1) rest
is_front [] = refl
is_front (a ∷ []) = refl
is_front (a ∷ b ∷ rest) = ap (λ r. a ∷ r) (is_front (b ∷ rest)) ∙ front_step a (b ∷ rest) (length (b ∷ rest) - 1) (length (a ∷ b ∷ rest) - 1) (omega arith)

-- of a line that ends its first bytes are those that were kept, without the CR
pub kept_line : (n m len : ℕ) (rest kept line : List ℕ) → m ≡ n + 1 → kept ≡ take m rest → len ≡ length kept → line ≡ take (len - 1) kept → line ≡ take n (without_last rest)
kept_line n m len rest kept line is from long front = rw (is_front rest) (grind (arith, common_steps))

-- a line ends
pub ended_taken : (feed new : Feed) (stream : List ℕ) (len : ℕ) (line : List ℕ) (old units : List (List ℕ)) → HasTaken feed stream → feed.after_cr ≡ true
    → new.kept.items ≡ [] → new.after_cr ≡ false → new.spent ≡ false → len ≡ length feed.kept.items → line ≡ take (len - 1) feed.kept.items → units ≡ old ++ line ∷ []
    → HasTaken new (stream ++ 10 ∷ []) × Adds stream (10 ∷ []) old units
ended_taken feed new stream len line old units taken cr none after on long front are =
    let ends : ends_line 10 (unfinished stream) ≡ true = ap (λ x. x && true) (sym taken.after_cr ∙ cr) in
    let left = rest_push stream 10 ∙ ap (λ x. rest_after x 10 (unfinished stream)) ends in (
      record { kept = none ∙ sym (ap (take 65537) left); after_cr = after ∙ sym (ap ends_in_cr left); goes_on = on },
      record {
        more = line ∷ [];
        added = are;
        are_units = units_push stream 10 ∙ ap (λ x. units_of stream ++ map (take 65536) (line_ended x (unfinished stream))) ends
            ∙ ap (λ l. units_of stream ++ l ∷ []) (sym (kept_line 65536 65537 len (unfinished stream) feed.kept.items line (omega arith) taken.kept long front));
      },
    )

no_front : (b : ℕ) (rest : List ℕ) → b ∷ rest ≢ []
no_front b rest is = absurd (cc)

none_taken : (n : ℕ) → take {A = ℕ} n [] ≡ []
none_taken zero = refl
none_taken (suc n) = refl

-- nothing is kept where nothing is left
pub none_left : (test : Bool) (len : ℕ) (kept rest : List ℕ) → test ≡ (len == 0) → len ≡ length kept → kept ≡ take 65537 rest → (IsTrue test → rest ≡ []) × (rest ≡ [] → IsTrue test)
none_left test len kept [] is long are = (λ h. refl, λ h. is ∙ ap (λ n. n == 0) (long ∙ ap length are ∙ ap length (none_taken 65537)))
none_left test len kept (b ∷ rest) is long are =
    let e : length (b ∷ take 65536 rest) ≢ 0 = omega arith in
    (λ h. absurd (grind (arith, e, is, long, ap length are, h)), λ h. absurd (no_front b rest h))
