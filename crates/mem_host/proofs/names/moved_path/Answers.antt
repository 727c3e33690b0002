use Rattle.std.proofs.Common.{◌≡◌, true, sym, ◌∙◌, subst, string_bytes}
use Rattle.file_model.specs.Paths.{is_at_or_inside}
use Rattle.mem_host.proofs.Listed.{CutsBehind, cut_behind, not_not}
use Rattle.mem_host.proofs.names.moved_path.Goals as goal

pub range_from-requires : goal.range_from-requires
range_from-requires c some =
    subst (CutsBehind c.args.from.now) (sym c.deref.ensures)
    (cut_behind c.args.from.now (string_bytes c.args.path) (subst (λ p. is_at_or_inside c.args.from.now p ≡ true) c.as_str.ensures.value (sym c.is_at_or_inside.ensures ∙ not_not c.is_at_or_inside.result c.if-not-is_at_or_inside.false)))
