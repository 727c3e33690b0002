-- What stands behind the words at the front of some tokens.
use Rattle.std.proofs.Common.{◌≡◌, ◌∙◌, ◌+◌, ◌==◌, ℕ, true, false, List, [], Some, None, take, drop, ap, sym}
use Rattle.std.specs.List.{prefix_len}
use Rattle.std.proofs.lemmas.Bool.{cond-true, cond-false, eq-eqb, ne_eqb}
use Rattle.addr_list.specs.Tokens.{Token}
use Rattle.addr_list.specs.Reading.{is_part, begins, element_from, element_of, group_element, group_start, angle_element, plain_element, mailbox_element, mailbox_of}
use Rattle.addr_list.specs.Addresses.{phrase_of, local_of}

-- the element, where the words and what stands behind them are known
module _ (tokens words tail : List Token) (n : ℕ) (width : n ≡ prefix_len is_part tokens) (front : words ≡ take n tokens) (behind : tail ≡ drop n tokens) where
  element-parts : element_from n words tail ≡ element_of tokens
  unfolding element_of
  element-parts = (λ i. element_from (width i) ((front ∙ ap (λ k. take k tokens) width) i) ((behind ∙ ap (λ k. drop k tokens) width) i))

  pub element-group : begins 58 tail ≡ true → group_element (n + 1) (group_start (phrase_of words)) ≡ element_of tokens
  unfolding element_from
  element-group is = sym (cond-true (begins 58 tail) _ _ is) ∙ element-parts

  pub element-angle : begins 58 tail ≡ false → begins 60 tail ≡ true → angle_element n words (drop 1 tail) ≡ element_of tokens
  unfolding element_from
  element-angle other is = sym (cond-false (begins 58 tail) _ _ other ∙ cond-true (begins 60 tail) _ _ is) ∙ element-parts

  pub element-plain : begins 58 tail ≡ false → begins 60 tail ≡ false → begins 64 tail ≡ true → plain_element n words (drop 1 tail) ≡ element_of tokens
  unfolding element_from
  element-plain other none is = sym (cond-false (begins 58 tail) _ _ other ∙ cond-false (begins 60 tail) _ _ none ∙ cond-true (begins 64 tail) _ _ is) ∙ element-parts

  pub element-nothing : begins 58 tail ≡ false → begins 60 tail ≡ false → begins 64 tail ≡ false → n ≡ 0 → Some (record { width = 0; address = None; opens = false }) ≡ element_of tokens
  unfolding element_from
  element-nothing a b c is =
      sym (cond-false (begins 58 tail) _ _ a ∙ cond-false (begins 60 tail) _ _ b ∙ cond-false (begins 64 tail) _ _ c ∙ cond-true (n == 0) _ _ (eq-eqb n 0 is)) ∙ element-parts

  pub element-bare : begins 58 tail ≡ false → begins 60 tail ≡ false → begins 64 tail ≡ false → (n ≡ 0 → ⊥) → mailbox_element n (mailbox_of None None (local_of words) (Some [])) ≡ element_of tokens
  unfolding element_from
  element-bare a b c some =
      sym (cond-false (begins 58 tail) _ _ a ∙ cond-false (begins 60 tail) _ _ b ∙ cond-false (begins 64 tail) _ _ c ∙ cond-false (n == 0) _ _ (ne_eqb n 0 some)) ∙ element-parts
