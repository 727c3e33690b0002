-- What is written behind some bytes.
use Rattle.std.proofs.Common.{◌≡◌, ◌∙◌, ◌+◌, ◌<◌, ℕ, List, [], ◌∷◌, ◌++◌, drop, length, take, get_or, replicate, refl, ap, sym, subst, Result, Ok, Err, OnOk, arith, if◌then◌else◌}
use Rattle.std.specs.Result.{is_ok}
use Rattle.std.proofs.Math.Seq.{take-add}
use Rattle.std.proofs.lemmas.List.{append_assoc, append-nil, drop_more}
use Rattle.std.proofs.lemmas.Grind.{flat_map-append}
use Rattle.mail_fields.specs.Texts.{written_at}
use Rattle.structure_text.specs.Appending.{Appends}
use Rattle.imap_arguments.specs.declared.item.Item.{Item}
use Rattle.imap_reply.specs.Texts.{behind_spaces, spaced, in_parentheses}
use Rattle.looked_message.specs.Messages.{LookedAt}
use Rattle.body_sections.specs.Labels.{behind_dots}
use Rattle.body_sections.specs.Items.{IsItem, AreItems, AreMoreItems, AreSpacedItems}

-- ---- Words with spaces or dots before them

pub behind_both : (one two : List (List ℕ)) → behind_spaces (one ++ two) ≡ behind_spaces one ++ behind_spaces two
behind_both [] two = refl
behind_both (text ∷ one) two = ap (λ l. 32 ∷ text ++ l) (behind_both one two) ∙ ap (λ l. 32 ∷ l) (sym (append_assoc text (behind_spaces one) (behind_spaces two)))

pub dots_both : (one two : List (List ℕ)) → behind_dots (one ++ two) ≡ behind_dots one ++ behind_dots two
dots_both one two = flat_map-append (λ word. 46 ∷ word) one two

-- texts each behind a space, without the first space
pub spaced_is : (texts : List (List ℕ)) → drop 1 (behind_spaces texts) ≡ spaced texts
spaced_is [] = refl
spaced_is (text ∷ texts) = refl

-- ---- Calls that append

-- what a call that succeeded has written
pub ok-if : {T E : Type 0} (result : Result T E) (end written old : List ℕ) → end ≡ (if is_ok result then written else old) → OnOk result (end ≡ written)
ok-if (Ok x) end written old is = is
ok-if (Err e) end written old is = tt

-- bytes of a kind
pub appended : (Is : List ℕ → Type 0) (bytes old end : List ℕ) → Is bytes → end ≡ old ++ bytes → Appends Is old end
appended Is bytes old end is behind = record { bytes = bytes; is = is; behind = behind }

-- 26 bytes over a buffer of 26
pub whole-written : (text : List ℕ) → length text ≡ 26 → written_at (replicate 26 0) 0 text ≡ text
unfolding written_at
whole-written text long =
    let wide : 0 + length text ≡ 26 = omega (arith, long) in
    ap (λ n. text ++ drop n (replicate 26 0)) wide ∙ append-nil text

-- texts in parentheses
pub list-written : (texts : List (List ℕ)) (old begun middle end inner : List ℕ) → inner ≡ behind_spaces texts → begun ≡ old ++ 40 ∷ [] → middle ≡ begun ++ drop 1 inner
    → end ≡ middle ++ 41 ∷ [] → end ≡ old ++ in_parentheses texts
list-written texts old begun middle end inner is begins goes_on ends =
    ends ∙ ap (λ t. t ++ 41 ∷ []) (goes_on ∙ ap (λ t. begun ++ t) (ap (drop 1) is ∙ spaced_is texts) ∙ ap (λ t. t ++ spaced texts) begins)
    ∙ regroup old (spaced texts)
  where
    regroup : (old inner : List ℕ) → ((old ++ 40 ∷ []) ++ inner) ++ 41 ∷ [] ≡ old ++ (40 ∷ (inner ++ 41 ∷ []))
    regroup old inner = simp append_assoc

-- ---- Items

are-more : (items : List Item) (m : LookedAt) (texts : List (List ℕ)) (item : Item) (text : List ℕ) → AreItems items m texts → IsItem item m text → AreItems (items ++ item ∷ []) m (texts ++ text ∷ [])
are-more [] m [] item text are is = (is, tt)
are-more [] m (other ∷ texts) item text are is = absurd are
are-more (x ∷ items) m [] item text are is = absurd are
are-more (x ∷ items) m (other ∷ texts) item text are is = (are.0, are-more items m texts item text are.1 is)

module _ (m : LookedAt) where
  pub items-begin : (old : List ℕ) → Appends (AreMoreItems [] m) old old
  items-begin old = record { bytes = []; is = record { texts = []; are = tt; written = refl }; behind = sym (append-nil old) }

  -- an item more
  pub items-more : (items : List Item) (at : ℕ) (d : Item) (old middle gap end : List ℕ) → at < length items → Appends (AreMoreItems (take at items) m) old middle
      → gap ≡ middle ++ 32 ∷ [] → Appends (IsItem (get_or items at d) m) gap end → Appends (AreMoreItems (take (at + 1) items) m) old end
  items-more items at d old middle gap end inside done space more =
      let item = get_or items at d in
      let texts = done.is.texts in
      let text = more.bytes in
      let taken : take (at + 1) items ≡ take at items ++ item ∷ [] = take-add at 1 items ∙ ap (λ s. take at items ++ take 1 s) (drop_more items at d inside) in
      record {
        bytes = behind_spaces (texts ++ text ∷ []);
        is = record { texts = texts ++ text ∷ []; are = subst (λ l. AreItems l m (texts ++ text ∷ [])) (sym taken) (are-more (take at items) m texts item text done.is.are more.is); written = refl };
        behind = more.behind ∙ ap (λ t. t ++ text) (space ∙ ap (λ t. t ++ 32 ∷ []) (done.behind ∙ ap (λ t. old ++ t) done.is.written))
            ∙ regroup old (behind_spaces texts) text ∙ ap (λ t. old ++ t) (sym (behind_both texts (text ∷ [])));
      }
    where
      regroup : (old done more : List ℕ) → ((old ++ done) ++ 32 ∷ []) ++ more ≡ old ++ (done ++ (32 ∷ more ++ []))
      regroup old done more = simp (append_assoc, append-nil)

  -- the first, and those behind it
  pub items-written : (items : List Item) (d : Item) (old middle end : List ℕ) → 0 < length items → Appends (IsItem (get_or items 0 d) m) old middle
      → Appends (AreMoreItems (drop 1 items) m) middle end → Appends (AreSpacedItems items m) old end
  items-written [] d old middle end some first more = absurd (omega (arith, some))
  items-written (item ∷ rest) d old middle end some first more =
      let texts = more.is.texts in
      record {
        bytes = first.bytes ++ behind_spaces texts;
        is = record { texts = first.bytes ∷ texts; are = (first.is, more.is.are); written = refl };
        behind = more.behind ∙ ap (λ t. t ++ more.bytes) first.behind ∙ append_assoc old first.bytes more.bytes ∙ ap (λ t. old ++ (first.bytes ++ t)) more.is.written;
      }

  pub no-items : (items : List Item) (old : List ℕ) → length items < 1 → Appends (AreSpacedItems items m) old old
  no-items [] old few = record { bytes = []; is = record { texts = []; are = tt; written = refl }; behind = sym (append-nil old) }
  no-items (item ∷ rest) old few = absurd (omega (arith, few))
