use Rattle.std.proofs.Common.{◌≡◌, ◌<◌, ◌==◌, ◌∷◌, ◌++◌, [], ℕ, false, List, length, take, drop, ap, sym, subst, ◌∙◌, arith}
use Rattle.std.specs.List.{concat}
use Rattle.std.proofs.lemmas.Bool.{eqb-true}
use Rattle.std.proofs.lemmas.Bool.Decides.{nat_tests}
use Rattle.text_lines.specs.Lines.{lines_of}
use Rattle.unix_form.specs.Messages.{cut_lines, without_last_empty}
use Rattle.unix_layout.proofs.FoundMessages.{IsReading, messages_of, reading_one, reading_end, reading_stuck}
use Rattle.unix_layout.proofs.reading.read_messages.Goals as goal
use Rattle.unix_layout.proofs.reading.read_messages.Goals.{else-loop-rest-test, then-loop-rest-test+in_default}

some-left : (n : ℕ) → false ≡ (n == 0) → 0 < n
some-left n other = grind (arith, nat_tests)

lines-are : (rest line behind : List ℕ) (width : ℕ) → lines_of rest ≡ take width rest ∷ lines_of (drop width rest) → line ≡ take width rest → behind ≡ drop width rest → lines_of rest ≡ line ∷ lines_of behind
lines-are rest line behind width first front back = first ∙ (λ i. sym front i ∷ lines_of (sym back i))

pub loop-rest-preserved : goal.loop-rest-preserved
loop-rest-preserved c =
    let rest = c.loop-rest.rest.now in
    let line = c.split_at.result.0.now in
    let behind = c.split_at.result.1.now in
    let text = c.split_at-in-loop-rest.result.0.now in
    let next = c.split_at-in-loop-rest-2.result.1.now in
    let names = c.args.names in
    let all = messages_of c.args.text.now in
    let infos = c.loop-rest.infos.items in
    let texts = c.loop-rest.texts.items in
    let message = c.in_ok-message.message in
    let lines = lines-are rest line behind c.line_length.result (c.line_length.ensures.lines (some-left (length rest) c.loop-rest-test.ensures)) c.split_at.ensures.front c.split_at.ensures.back in
    let text_is : text ≡ concat (without_last_empty (cut_lines (lines_of behind)).loose) = c.split_at-in-loop-rest.ensures.front ∙ c.next_run-run.ensures.text in
    let loose : (cut_lines (lines_of next)).loose ≡ [] = ap (λ t. (cut_lines (lines_of t)).loose) c.split_at-in-loop-rest-2.ensures.back ∙ c.next_run-run.ensures.loose in
    let later : messages_of next ≡ messages_of behind = ap messages_of c.split_at-in-loop-rest-2.ensures.back ∙ c.next_run-run.ensures.rest in
    let one : IsReading names all message.names (infos ++ message.info ∷ []) (texts ++ message.text ∷ []) next =
    reading_one names all c.loop-rest.known infos texts rest line behind text c.in-Some.stamp message.names message.info message.text next c.loop-rest.invariant.reading lines c.in-Some.ensures text_is
    c.in_ok-message.ensures.names c.in_ok-message.ensures.record c.in_ok-message.ensures.sized loose later in
    record {
      reading = subst (λ i. IsReading names all message.names i c.push-in-loop-rest.new.self.items next) (sym c.in_ok-push.ensures.items)
          (subst (λ t. IsReading names all message.names (infos ++ message.info ∷ []) t next) (sym c.in_ok-push-2.ensures.items) one);
      few = c.in_ok-message.ensures.few;
      distinct = c.in_ok-message.ensures.distinct;
    }

pub returns-clause-found : goal.returns-clause-found
returns-clause-found c =
    let rest = c.loop-rest.rest.now in
    let reading = c.loop-rest.invariant.reading in
    elim c.loop-rest-test.branch [
      | else-loop-rest-test w ↦
          reading_end c.args.names (messages_of c.args.text.now) c.loop-rest.known c.loop-rest.infos.items c.loop-rest.texts.items rest reading (eqb-true (length rest) 0 (sym w.loop-rest-test.ensures))
      | then-loop-rest-test+in_default w ↦
          let line = w.split_at.result.0.now in
          let behind = w.split_at.result.1.now in
          let lines = lines-are rest line behind w.line_length.result (w.line_length.ensures.lines (some-left (length rest) w.loop-rest-test.ensures)) w.split_at.ensures.front w.split_at.ensures.back in
          absurd (reading_stuck rest line behind reading.loose lines w.in_default.ensures)
    ]
