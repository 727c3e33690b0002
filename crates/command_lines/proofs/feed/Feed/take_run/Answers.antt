use Rattle.std.proofs.Common.{◌-◌, refl, ap, ◌∙◌, sym, take, length}
use Rattle.command_lines.specs.Stream.{unfinished}
use Rattle.command_lines.specs.Taken.{ends_in_cr}
use Rattle.command_lines.proofs.Runs.{ends_with}
use Rattle.command_lines.proofs.Kept.{kept_with}
use Rattle.command_lines.proofs.Pieces.{on_ok}
use Rattle.command_lines.proofs.feed.Feed.take_run.Goals as goal

pub returns : goal.returns
returns c stream taken in_line =
    let old = c.args.self.now in
    let run = c.args.run.now in
    on_ok c.keep.result (λ kept. record {
      kept = kept ∙ kept_with 65537 old.kept.items (unfinished stream) run taken.kept ∙ ap (take 65537) (sym in_line);
      after_cr = c.keep.ensures.after_cr ∙ sym (ends_with (unfinished stream) run (length run - 1) c.in-Some.last.now refl (sym c.in-Some.ensures.value)) ∙ ap ends_in_cr (sym in_line);
      goes_on = c.keep.ensures.spent ∙ taken.goes_on;
    }) c.keep.ensures.kept
