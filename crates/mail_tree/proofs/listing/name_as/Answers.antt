use Rattle.std.proofs.Common.{sym, ◌∙◌, ap}
use Rattle.std.specs.Prelude.{bytes_eq}
use Rattle.mail_tree.proofs.Walking.{read_as, read_other, not_true, not_false}
use Rattle.mail_tree.proofs.listing.name_as.Goals as goal

pub returns-then-ne : goal.returns-then-ne
returns-then-ne c =
    read_other c.args.text.now c.in-Some.name (sym c.in_ok-name.ensures ∙ c.in-Some.is)
    (ap (λ n. bytes_eq n c.args.text.now) (sym c.as_slice.ensures.bytes) ∙ not_true (bytes_eq c.as_slice.result.now c.args.text.now) (sym c.ne.ensures ∙ c.if-ne.true))

pub returns : goal.returns
returns c =
    read_as c.args.text.now c.in-Some.name (sym c.in_ok-name.ensures ∙ c.in-Some.is)
    (ap (λ n. bytes_eq n c.args.text.now) (sym c.as_slice.ensures.bytes) ∙ not_false (bytes_eq c.as_slice.result.now c.args.text.now) (sym c.ne.ensures ∙ c.if-ne.false))
