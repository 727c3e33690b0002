use Rattle.std.proofs.Common.{◌≡◌, take}
use Rattle.mem_host.specs.Crashes.{content_left}
use Rattle.mem_host.specs.Drafts.{edits_of}
use Rattle.mem_host.proofs.draft.leave_content.Given as goal

abbrev pub invariant-loop-edit : goal.invariant-loop-edit
invariant-loop-edit l = record {
  items : l.edit-items ≡ l.draft.edits.items;
  left : (l.content.items, l.left) ≡ content_left (edits_of (take l.edit-index l.edit-items)) l.draft.durable.items l.pick;
}
