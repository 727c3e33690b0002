use Rattle.std.proofs.Common.{◌-◌, refl, ap, ◌∙◌, sym, length}
use Rattle.raw_commands.specs.Limits.{lines_size}
use Rattle.raw_commands.specs.Taken.{lines_of}
use Rattle.raw_commands.proofs.Runs.{on_ok, appended, kept_run, ends_with}
use Rattle.raw_commands.proofs.feed.Feed.take_run.Goals as goal

pub returns : goal.returns
returns c parts line held =
    let old = c.args.self.now in
    let run = c.args.run.now in
    on_ok c.extend_from_slice.result (λ text. record {
      text = text ∙ kept_run (65538 - lines_size parts) (lines_of parts) line run old.text.items c.line.result.now old.start c.saturating_sub-room.result c.min.result
          held.text held.start c.line.ensures
          (c.saturating_sub-room.ensures ∙ ap (λ n. n - length c.line.result.now) (c.saturating_sub.ensures ∙ ap (λ n. 65538 - n) held.lines)) c.min.ensures;
      start = held.start;
      literals = held.literals;
      lines = held.lines;
      held = held.held;
      fits = held.fits;
      holds = held.holds;
      awaited = held.awaited;
      after_cr = sym (ends_with line run (length run - 1) c.in-Some.last.now refl (sym c.in-Some.ensures.value));
      goes_on = held.goes_on;
    }) (appended c.extend_from_slice.result _ _ _ c.extend_from_slice.ensures.items)
