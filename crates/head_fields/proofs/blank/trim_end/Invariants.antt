use Rattle.std.proofs.Common.{◌≡◌, ◌+◌, ◌≤◌, length, take}
use Rattle.std.specs.List.{suffix_len}
use Rattle.text_lines.specs.Blanks.{is_blank}
use Rattle.head_fields.proofs.blank.trim_end.Given as goal

abbrev pub invariant-loop-to : goal.invariant-loop-to
invariant-loop-to l = record {
  within : l.to ≤ length l.bytes;
  blanks : l.to + suffix_len is_blank l.bytes ≡ length l.bytes + suffix_len is_blank (take l.to l.bytes);
}

abbrev pub decreases-loop-to : goal.decreases-loop-to
decreases-loop-to l = l.to
