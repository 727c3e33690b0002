use Rattle.std.proofs.Common.{sym, ◌∙◌, subst, arith}
use Rattle.file_model.proofs.Inside.{at_or_inside_none}
use Rattle.mem_host.proofs.Listed.{Strips, stripped, rest_empty, rest_slash}
use Rattle.mem_host.proofs.names.is_at_or_inside.Goals as goal

pub returns-then-is_empty : goal.returns-then-is_empty
returns-then-is_empty c =
    c.if-is_empty.true ∙ rest_empty c.args.dir.now c.args.path.now c.in-Some.rest.now
    (subst (λ r. Strips c.args.path.now c.args.dir.now r) c.in-Some.is (stripped c.args.path.now c.args.dir.now c.as_bytes.result.now c.as_bytes-2.result.now c.strip_prefix.result c.as_bytes.ensures.value c.as_bytes-2.ensures.value c.strip_prefix.ensures.cases))
    (grind (arith, c.if-is_empty.ensures))

pub returns-else-is_empty : goal.returns-else-is_empty
returns-else-is_empty c =
    rest_slash c.args.dir.now c.args.path.now c.in-Some.rest.now
    (subst (λ r. Strips c.args.path.now c.args.dir.now r) c.in-Some.is (stripped c.args.path.now c.args.dir.now c.as_bytes.result.now c.as_bytes-2.result.now c.strip_prefix.result c.as_bytes.ensures.value c.as_bytes-2.ensures.value c.strip_prefix.ensures.cases))
    (λ none. grind (arith, none, c.if-is_empty.ensures))

pub returns-in-None : goal.returns-in-None
returns-in-None c =
    sym (at_or_inside_none c.args.dir.now c.args.path.now
    (subst (λ r. Strips c.args.path.now c.args.dir.now r) c.in-None.is (stripped c.args.path.now c.args.dir.now c.as_bytes.result.now c.as_bytes-2.result.now c.strip_prefix.result c.as_bytes.ensures.value c.as_bytes-2.ensures.value c.strip_prefix.ensures.cases)))
