use Rattle.std.proofs.Common.{◌≡◌, take}
use Rattle.mem_host.specs.Crashes.{edited}
use Rattle.mem_host.specs.Drafts.{edits_of}
use Rattle.mem_host.proofs.draft.settle.Given as goal

abbrev pub invariant-loop-edit : goal.invariant-loop-edit
invariant-loop-edit l = l.content.items ≡ edited (edits_of (take l.edit-index l.edits)) l.initial.content.items
