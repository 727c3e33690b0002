use Rattle.std.proofs.Common.{◌≡◌, ◌∙◌, ◌+◌, ◌-◌, ◌<◌, [], ◌∷◌, ◌++◌, length, length-drop, take, drop, map, sym, arith, ap}
use Rattle.std.proofs.lemmas.List.{take_rest, length-map, drop-drop}
use Rattle.addr_list.specs.Scanning.{token_of}
use Rattle.addr_list.specs.Addresses.{behind, host_of}
use Rattle.addr_list.specs.Reading.{begins}
use Rattle.addr_list.proofs.Maps.{map-front, map-drop, map-rest, map-behind}
use Rattle.addr_list.proofs.Mailboxes.{hosts-end, hosts-go_on, hosts-fail}
use Rattle.addr_list.proofs.Marks.{begins-mark}
use Rattle.addr_list.proofs.Routes.{no-route}
use Rattle.addr_list.proofs.mailbox.route.Goals as goal

pub returns-in_default : goal.returns-in_default
returns-in_default c =
    let tokens = c.args.tokens.now in
    let at = c.loop-alloc.at in
    let n = c.until-width.result in
    let inner = take (length tokens - (at + 1)) (drop (at + 1) tokens) in
    let is = ap (λ t. begins 64 (map token_of t)) (sym (take_rest tokens at)) ∙ sym c.begins.ensures ∙ c.loop-alloc-test.true in
    let same = length-map inner token_of in
    hosts-fail c.loop-alloc.route.items (map token_of (drop at tokens)) (map token_of inner) n is (map-behind token_of tokens at) c.until-width.ensures.value (omega (arith, same, c.until-width.ensures.within))
    (ap host_of (sym (map-front token_of n inner)) ∙ sym c.in_ok-host.ensures ∙ c.in_default.is)
    ∙ c.loop-alloc.invariant.read

pub returns-then-at-tokens : goal.returns-then-at-tokens
returns-then-at-tokens c =
    let tokens = c.args.tokens.now in
    let at = c.loop-alloc.at in
    let n = c.until-width.result in
    let inner = take (length tokens - (at + 1)) (drop (at + 1) tokens) in
    let is = ap (λ t. begins 64 (map token_of t)) (sym (take_rest tokens at)) ∙ sym c.begins.ensures ∙ c.loop-alloc-test.true in
    let same = length-map inner token_of in
    let left = length-drop (at + 1) tokens in
    let cut = ap length (take_rest tokens (at + 1)) in
    hosts-end c.loop-alloc.route.items _ (map token_of (drop at tokens)) (map token_of inner) n c.in-Some.host is (map-behind token_of tokens at) c.until-width.ensures.value (omega (arith, c.if-at-tokens.true))
    (ap host_of (sym (map-front token_of n inner)) ∙ sym c.in_ok-host.ensures ∙ c.in-Some.is)
    (c.from_vec.ensures ∙ c.in_ok-extend_from_slice.ensures.items ∙ (λ i. c.in_ok-push.ensures.items i ++ c.as_slice.ensures i))
    ∙ c.loop-alloc.invariant.read

pub loop-alloc-preserved : goal.loop-alloc-preserved
loop-alloc-preserved c =
    let tokens = c.args.tokens.now in
    let at = c.loop-alloc.at in
    let n = c.until-width.result in
    let inner = take (length tokens - (at + 1)) (drop (at + 1) tokens) in
    let is = ap (λ t. begins 64 (map token_of t)) (sym (take_rest tokens at)) ∙ sym c.begins.ensures ∙ c.loop-alloc-test.true in
    let same = length-map inner token_of in
    let left = length-drop (at + 1) tokens in
    let cut = ap length (take_rest tokens (at + 1)) in
    let some = ap length (begins-mark 64 (map token_of (drop at tokens)) is) in
    let all = length-map (drop at tokens) token_of in
    let rest = length-drop at tokens in
    let later = map token_of (drop (at + (n + 1) + 1) tokens) in
    let place : at + 1 + (n + 1) ≡ at + (n + 1) + 1 = omega arith in
    let inside : n < length (map token_of inner) = omega (arith, c.if-at-tokens.false) in
    record {
      within = omega (arith, c.if-at-tokens.false);
      read =
          hosts-go_on c.loop-alloc.route.items _ (map token_of (drop at tokens)) (map token_of inner) later n c.in-Some.host is (map-behind token_of tokens at) c.until-width.ensures.value inside
          (ap host_of (sym (map-front token_of n inner)) ∙ sym c.in_ok-host.ensures ∙ c.in-Some.is)
          (map-drop token_of (at + (n + 1) + 1) tokens ∙ ap (λ k. drop k (map token_of tokens)) (sym place) ∙ sym (drop-drop (n + 1) (at + 1) (map token_of tokens)) ∙ ap (drop (n + 1)) (sym (map-rest token_of tokens (at + 1))))
          (c.in_ok-push-2.ensures.items ∙ (λ i. (c.in_ok-extend_from_slice.ensures.items ∙ (λ j. c.in_ok-push.ensures.items j ++ c.as_slice.ensures j)) i ++ 44 ∷ []))
          ∙ c.loop-alloc.invariant.read;
    }

pub returns : goal.returns
returns c =
    let tokens = c.args.tokens.now in
    let at = c.loop-alloc.at in
    let other = ap (λ t. begins 64 (map token_of t)) (sym (take_rest tokens at)) ∙ sym c.begins.ensures ∙ c.loop-alloc-test.false in
    ap (behind c.loop-alloc.route.items) (sym (no-route (map token_of (drop at tokens)) other)) ∙ c.loop-alloc.invariant.read
