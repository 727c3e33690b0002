-- The steps of a reader.
use Rattle.std.proofs.Common.{◌≡◌, ◌∙◌, ⊎_elim, ◌⊎◌, ◌+◌, ◌-◌, ◌<◌, ◌≤◌, ℕ, Bool, true, false, List, [], ◌∷◌, ◌++◌, Option, Some, None, length, drop, refl, ap, sym, subst, arith}
use Rattle.std.proofs.lemmas.Bool.{false≢true}
use Rattle.std.proofs.lemmas.List.{append_assoc, append-nil, length-drop, drop-drop, drop_all}
use Rattle.std.proofs.lemmas.Option.{none-some, same_Some}
use Rattle.addr_list.specs.Tokens.{Token, mark}
use Rattle.addr_list.specs.Addresses.{IsAddressList, IsOnlyList, HasNoList}
use Rattle.addr_list.specs.Reading.{begins, element_of, deeper, added, Reads, finished, next_element, group_ends, next_comma, GoesOn}
use Rattle.addr_list.specs.Readers.{MayBe, StepsTo, IsStuck, Moves, half_step}
use Rattle.addr_list.specs.declared.address.Address.{Address}
use Rattle.addr_list.specs.declared.address.Address.TheVariants.{GroupEnd}
use Rattle.addr_list.specs.declared.element.Element.{Element}
use Rattle.addr_list.specs.declared.list.Reader.{Reader}
use Rattle.addr_list.proofs.Found.{element-width, list-sound}
use Rattle.addr_list.proofs.Lists.{list-complete}
use Rattle.addr_list.proofs.Marks.{begins-mark}

-- an element in front, with what follows it
pub record InFront (depth : ℕ) (tokens : List Token) (addresses : List Address) : Type 0 where
  pub e : Element
  pub more : List Address
  pub is : element_of tokens ≡ Some e
  pub reads : Reads e.opens (deeper e.opens depth) (drop e.width tokens) more
  pub whole : addresses ≡ added e.address more

pub in-front : (depth : ℕ) (tokens : List Token) (addresses : List Address) → Reads true depth tokens addresses → InFront depth tokens addresses
in-front _ _ _ (next_element depth tokens e more is r) = record { e = e; more = more; is = is; reads = r; whole = refl }

-- a mark in front, or nothing
pub data Marked (depth : ℕ) (tokens : List Token) (addresses : List Address) : Type 0 where
  over : depth ≡ 0 → tokens ≡ [] → addresses ≡ [] → Marked depth tokens addresses
  group_over : (d : ℕ) (rest : List Token) (more : List Address) → depth ≡ d + 1 → tokens ≡ mark 59 ∷ rest → addresses ≡ GroupEnd ∷ more → Reads false d rest more → Marked depth tokens addresses
  comma_next : (rest : List Token) → tokens ≡ mark 44 ∷ rest → Reads true depth rest addresses → Marked depth tokens addresses

pub marked : (depth : ℕ) (tokens : List Token) (addresses : List Address) → Reads false depth tokens addresses → Marked depth tokens addresses
marked _ _ _ finished = over refl refl refl
marked _ _ _ (group_ends depth tokens more r) = group_over depth tokens more refl refl refl r
marked _ _ _ (next_comma depth tokens more r) = comma_next tokens refl r

added-all : (done : List Address) (one : Option Address) (more : List Address) → done ++ added one more ≡ done ++ added one [] ++ more
added-all done None more = ap (λ d. d ++ more) (sym (append-nil done))
added-all done (Some address) more = sym (append_assoc done (address ∷ []) more)

module _ (tokens : List Token) (before : Reader) where
  -- a reader that may still begin an element
  begun : before.starts ≡ true → (all : List Address) → MayBe tokens before all → GoesOn true before.depth (drop before.at tokens) before.addresses.items all
  begun is all may = record { more = may.more; reads = subst (λ b. Reads b before.depth (drop before.at tokens) may.more) is may.reads; whole = may.whole }

  pub element-stuck : before.starts ≡ true → element_of (drop before.at tokens) ≡ None → IsStuck tokens before
  element-stuck is nowhere all may =
      let go = begun is all may in
      let front = in-front before.depth (drop before.at tokens) go.more go.reads in
      none-some front.e (sym nowhere ∙ front.is)

  module _ (after : Reader) (e : Element) (is : before.starts ≡ true) (found : element_of (drop before.at tokens) ≡ Some e)
      (at : after.at ≡ before.at + e.width) (starts : after.starts ≡ e.opens) (depth : after.depth ≡ deeper e.opens before.depth)
      (addresses : after.addresses.items ≡ before.addresses.items ++ added e.address []) where
    place : drop e.width (drop before.at tokens) ≡ drop after.at tokens
    place = drop-drop e.width before.at tokens ∙ ap (λ k. drop k tokens) (sym at)

    element-there : (all : List Address) → MayBe tokens before all → MayBe tokens after all
    element-there all may =
        let go = begun is all may in
        let front = in-front before.depth (drop before.at tokens) go.more go.reads in
        let same = same_Some front.e e (sym front.is ∙ found) in
        let reads = subst (λ f. Reads f.opens (deeper f.opens before.depth) (drop f.width (drop before.at tokens)) front.more) same front.reads in
        let whole = subst (λ f. go.more ≡ added f.address front.more) same front.whole in
        record {
          more = front.more;
          reads = subst (λ b. Reads b after.depth (drop after.at tokens) front.more) (sym starts)
              (subst (λ d. Reads e.opens d (drop after.at tokens) front.more) (sym depth) (subst (λ t. Reads e.opens (deeper e.opens before.depth) t front.more) place reads));
          whole = go.whole ∙ ap (λ m. before.addresses.items ++ m) whole ∙ added-all before.addresses.items e.address front.more ∙ ap (λ d. d ++ front.more) (sym addresses);
        }

    element-back : (all : List Address) → MayBe tokens after all → MayBe tokens before all
    element-back all may =
        let reads = subst (λ t. Reads e.opens (deeper e.opens before.depth) t may.more) (sym place)
        (subst (λ d. Reads e.opens d (drop after.at tokens) may.more) depth (subst (λ b. Reads b after.depth (drop after.at tokens) may.more) starts may.reads)) in
        record {
          more = added e.address may.more;
          reads = subst (λ b. Reads b before.depth (drop before.at tokens) (added e.address may.more)) (sym is) (next_element before.depth (drop before.at tokens) e may.more found reads);
          whole = may.whole ∙ ap (λ d. d ++ may.more) addresses ∙ sym (added-all before.addresses.items e.address may.more);
        }

    pub element-steps : StepsTo tokens before after
    element-steps = record { there = element-there; back = element-back }

    pub element-moves : before.at ≤ length tokens → before.depth ≤ before.at → Moves (length tokens) before after
    element-moves within shallow =
        let wide = element-width (drop before.at tokens) e found in
        let left = length-drop before.at tokens in
        let moves = wide.moves in
        let inside = wide.within in
        let flags : (o : Bool) → e.opens ≡ o → Moves (length tokens) before after = moves_by within shallow inside moves left in
        flags e.opens refl
      where
        moves_by : before.at ≤ length tokens → before.depth ≤ before.at → e.width ≤ length (drop before.at tokens) → (e.opens ≡ true → 0 < e.width) → length (drop before.at tokens) ≡ length tokens - before.at
            → (o : Bool) → e.opens ≡ o → Moves (length tokens) before after
        moves_by within shallow inside moves left true o =
            let some = moves o in
            let deep : after.depth ≡ before.depth + 1 = depth ∙ ap (λ b. deeper b before.depth) o in
            let early : half_step before.starts ≡ 0 = ap half_step is in
            let late : half_step after.starts ≡ 0 = ap half_step (starts ∙ o) in
            record { on = omega (arith, early, late); within = omega arith; shallow = omega arith }
        moves_by within shallow inside moves left false o =
            let deep : after.depth ≡ before.depth = depth ∙ ap (λ b. deeper b before.depth) o in
            let early : half_step before.starts ≡ 0 = ap half_step is in
            let late : half_step after.starts ≡ 1 = ap half_step (starts ∙ o) in
            record { on = omega (arith, early, late); within = omega arith; shallow = omega arith }

  -- a reader that stands behind an element
  closed : before.starts ≡ false → (all : List Address) → MayBe tokens before all → GoesOn false before.depth (drop before.at tokens) before.addresses.items all
  closed is all may = record { more = may.more; reads = subst (λ b. Reads b before.depth (drop before.at tokens) may.more) is may.reads; whole = may.whole }

  pub mark-stuck : before.starts ≡ false → before.at < length tokens → begins 44 (drop before.at tokens) ≡ false → (begins 59 (drop before.at tokens) ≡ false) ⊎ (before.depth ≡ 0) → IsStuck tokens before
  mark-stuck is inside comma group all may =
      let go = closed is all may in
      let left = length-drop before.at tokens in
      none (marked before.depth (drop before.at tokens) go.more go.reads) left
    where
      none : {more : List Address} → Marked before.depth (drop before.at tokens) more → length (drop before.at tokens) ≡ length tokens - before.at → ⊥
      none (over d t a) left = let empty = ap length t in absurd (omega arith)
      none (group_over d rest more deep t a r) left =
          ⊎_elim (λ other. false≢true (sym other ∙ ap (begins 59) t)) (λ flat. absurd (omega arith)) group
      none (comma_next rest t r) left = false≢true (sym comma ∙ ap (begins 44) t)

  -- behind a comma an element may begin
  module _ (after : Reader) (is : before.starts ≡ false) (at : after.at ≡ before.at + 1) where
    behind-first : (b : ℕ) → begins b (drop before.at tokens) ≡ true → drop before.at tokens ≡ mark b ∷ drop after.at tokens
    behind-first b mark_is = begins-mark b (drop before.at tokens) mark_is ∙ ap (λ t. mark b ∷ t) (drop-drop 1 before.at tokens ∙ ap (λ k. drop k tokens) (sym at))

    some-left : (b : ℕ) → begins b (drop before.at tokens) ≡ true → before.at < length tokens
    some-left b mark_is =
        let some = ap length (behind-first b mark_is) in
        let left = length-drop before.at tokens in
        omega arith

    pub comma-steps : begins 44 (drop before.at tokens) ≡ true → after.starts ≡ true → after.depth ≡ before.depth → after.addresses.items ≡ before.addresses.items → StepsTo tokens before after
    comma-steps comma starts depth same =
        record {
          there = λ all may.
              let go = closed is all may in
              let reads = over_comma (marked before.depth (drop before.at tokens) go.more go.reads) in
              record {
                more = go.more;
                reads = subst (λ b. Reads b after.depth (drop after.at tokens) go.more) (sym starts) (subst (λ d. Reads true d (drop after.at tokens) go.more) (sym depth) reads);
                whole = go.whole ∙ ap (λ d. d ++ go.more) (sym same);
              };
          back = λ all may.
              let reads = subst (λ d. Reads true d (drop after.at tokens) may.more) depth (subst (λ b. Reads b after.depth (drop after.at tokens) may.more) starts may.reads) in
              record {
                more = may.more;
                reads = subst (λ b. Reads b before.depth (drop before.at tokens) may.more) (sym is)
                    (subst (λ t. Reads false before.depth t may.more) (sym (behind-first 44 comma)) (next_comma before.depth (drop after.at tokens) may.more reads));
                whole = may.whole ∙ ap (λ d. d ++ may.more) same;
              };
        }
      where
        over_comma : {more : List Address} → Marked before.depth (drop before.at tokens) more → Reads true before.depth (drop after.at tokens) more
        over_comma (over d t a) = absurd (false≢true (sym (ap (begins 44) t) ∙ comma))
        over_comma (group_over d rest more deep t a r) = absurd (false≢true (sym (ap (begins 44) t) ∙ comma))
        over_comma {more} (comma_next rest t r) = subst (λ k. Reads true before.depth k more) (ap (drop 1) (sym t ∙ behind-first 44 comma)) r

    pub comma-moves : begins 44 (drop before.at tokens) ≡ true → after.starts ≡ true → after.depth ≡ before.depth → before.depth ≤ before.at → Moves (length tokens) before after
    comma-moves comma starts depth shallow =
        let inside = some-left 44 comma in
        let early : half_step before.starts ≡ 1 = ap half_step is in
        let late : half_step after.starts ≡ 0 = ap half_step starts in
        record { on = omega (arith, early, late); within = omega arith; shallow = omega arith }

    -- the end of a group leaves it
    pub group-steps : begins 59 (drop before.at tokens) ≡ true → 0 < before.depth → after.starts ≡ false → after.depth ≡ before.depth - 1 → after.addresses.items ≡ before.addresses.items ++ GroupEnd ∷ [] → StepsTo tokens before after
    group-steps end deep starts depth same =
        record {
          there = λ all may.
              let go = closed is all may in
              let found = over_end (marked before.depth (drop before.at tokens) go.more go.reads) in
              record {
                more = found.0;
                reads = subst (λ b. Reads b after.depth (drop after.at tokens) found.0) (sym starts) (subst (λ d. Reads false d (drop after.at tokens) found.0) (sym depth) found.1);
                whole = go.whole ∙ ap (λ m. before.addresses.items ++ m) found.2 ∙ sym (append_assoc before.addresses.items (GroupEnd ∷ []) found.0) ∙ ap (λ d. d ++ found.0) (sym same);
              };
          back = λ all may.
              let reads = subst (λ d. Reads false d (drop after.at tokens) may.more) depth (subst (λ b. Reads b after.depth (drop after.at tokens) may.more) starts may.reads) in
              let deeper_is : before.depth - 1 + 1 ≡ before.depth = omega arith in
              let all_reads = group_ends (before.depth - 1) (drop after.at tokens) may.more reads in
              record {
                more = GroupEnd ∷ may.more;
                reads = subst (λ b. Reads b before.depth (drop before.at tokens) (GroupEnd ∷ may.more)) (sym is)
                    (subst (λ t. Reads false before.depth t (GroupEnd ∷ may.more)) (sym (behind-first 59 end))
                    (subst (λ d. Reads false d (mark 59 ∷ drop after.at tokens) (GroupEnd ∷ may.more)) deeper_is all_reads));
                whole = may.whole ∙ ap (λ d. d ++ may.more) same ∙ append_assoc before.addresses.items (GroupEnd ∷ []) may.more;
              };
        }
      where
        over_end : {more : List Address} → Marked before.depth (drop before.at tokens) more → (later : List Address) × Reads false (before.depth - 1) (drop after.at tokens) later × (more ≡ GroupEnd ∷ later)
        over_end (over d t a) = absurd (false≢true (sym (ap (begins 59) t) ∙ end))
        over_end (comma_next rest t r) = absurd (false≢true (sym (ap (begins 59) t) ∙ end))
        over_end (group_over d rest later depth_is t a r) =
            let same_depth : d ≡ before.depth - 1 = omega arith in
            (later, subst (λ k. Reads false k (drop after.at tokens) later) same_depth (subst (λ k. Reads false d k later) (ap (drop 1) (sym t ∙ behind-first 59 end)) r), a)

    pub group-moves : begins 59 (drop before.at tokens) ≡ true → after.starts ≡ false → after.depth ≡ before.depth - 1 → before.depth ≤ before.at → Moves (length tokens) before after
    group-moves end starts depth shallow =
        let inside = some-left 59 end in
        let early : half_step before.starts ≡ 1 = ap half_step is in
        let late : half_step after.starts ≡ 1 = ap half_step starts in
        record { on = omega (arith, early, late); within = omega arith; shallow = omega arith }

-- what the list may be is what it is
pub record IsReading (tokens : List Token) (reader : Reader) : Type 0 where
  pub there : (all : List Address) → IsAddressList tokens all → MayBe tokens reader all
  pub back : (all : List Address) → MayBe tokens reader all → IsAddressList tokens all

pub reading-starts : (tokens : List Token) (reader : Reader) → reader.starts ≡ true → reader.depth ≡ 0 → reader.at ≡ 0 → reader.addresses.items ≡ [] → IsReading tokens reader
reading-starts tokens reader starts depth at none =
    record {
      there = λ all is.
          record {
            more = all;
            reads = subst (λ b. Reads b reader.depth (drop reader.at tokens) all) (sym starts)
                (subst (λ d. Reads true d (drop reader.at tokens) all) (sym depth) (subst (λ k. Reads true 0 (drop k tokens) all) (sym at) (list-complete tokens all is)));
            whole = ap (λ d. d ++ all) (sym none);
          };
      back = λ all may.
          let whole : all ≡ may.more = may.whole ∙ ap (λ d. d ++ may.more) none in
          let reads = subst (λ k. Reads true 0 (drop k tokens) may.more) at
          (subst (λ d. Reads true d (drop reader.at tokens) may.more) depth (subst (λ b. Reads b reader.depth (drop reader.at tokens) may.more) starts may.reads)) in
          subst (λ a. IsAddressList tokens a) (sym whole) (list-sound tokens may.more reads);
    }

pub reading-steps : (tokens : List Token) (before after : Reader) → StepsTo tokens before after → IsReading tokens before → IsReading tokens after
reading-steps tokens before after step reading =
    record { there = λ all is. step.there all (reading.there all is); back = λ all may. reading.back all (step.back all may) }

pub reading-stuck : (tokens : List Token) (reader : Reader) → IsReading tokens reader → IsStuck tokens reader → HasNoList tokens
reading-stuck tokens reader reading stuck all is = stuck all (reading.there all is)

module _ (tokens : List Token) (reader : Reader) (starts : reader.starts ≡ false) (end : length tokens ≤ reader.at) (reading : IsReading tokens reader) where
  empty : drop reader.at tokens ≡ []
  empty = drop_all reader.at tokens end

  -- nothing is left
  last : (all : List Address) → MayBe tokens reader all → (reader.depth ≡ 0) × (all ≡ reader.addresses.items)
  last all may =
      let go = closed tokens reader starts all may in
      over_all (marked reader.depth (drop reader.at tokens) go.more go.reads) go.whole
    where
      over_all : {more : List Address} → Marked reader.depth (drop reader.at tokens) more → all ≡ reader.addresses.items ++ more → (reader.depth ≡ 0) × (all ≡ reader.addresses.items)
      over_all (over d t a) whole = (d, whole ∙ ap (λ m. reader.addresses.items ++ m) a ∙ append-nil reader.addresses.items)
      over_all (group_over d rest more deep t a r) whole = absurd (false≢true (ap (begins 59) (sym empty ∙ t)))
      over_all (comma_next rest t r) whole = absurd (false≢true (ap (begins 44) (sym empty ∙ t)))

  pub list-ends : reader.depth ≡ 0 → IsAddressList tokens reader.addresses.items
  list-ends flat =
      reading.back reader.addresses.items
      (record {
        more = [];
        reads = subst (λ b. Reads b reader.depth (drop reader.at tokens) []) (sym starts) (subst (λ d. Reads false d (drop reader.at tokens) []) (sym flat) (subst (λ t. Reads false 0 t []) (sym empty) finished));
        whole = sym (append-nil reader.addresses.items);
      })

  pub list-only : IsOnlyList tokens reader.addresses.items
  list-only other is = (last other (reading.there other is)).1

  pub list-open : 0 < reader.depth → HasNoList tokens
  list-open deep all is = let flat = (last all (reading.there all is)).0 in absurd (omega arith)
