use Rattle.std.proofs.Common.{◌≡◌, false, sym, ◌∙◌, ap, subst}
use Rattle.file_model.specs.Images.{node_at, is_directory, directory_test}
use Rattle.mem_host.specs.State.{seen_of}
use Rattle.mem_host.specs.Replay.{seen_after}
use Rattle.mem_host.proofs.Putting.{room_end, itself_stays}
use Rattle.mem_host.proofs.Resting.{untouched}
use Rattle.mem_host.proofs.host.MemHost.put_file.Goals as goal

pub put_file-requires-clause-room : goal.put_file-requires-clause-room
put_file-requires-clause-room c = room_end c.args.path.now (node_at (seen_after c.put_parents.new.self)) (seen_after c.self.inside.mirror) c.in_ok-put_parents.ensures.ok

pub put_file-requires-clause-no_directory : goal.put_file-requires-clause-no_directory
put_file-requires-clause-no_directory c =
    ap directory_test (c.in_ok-put_parents.ensures.ok c.args.path.now ∙ itself_stays c.args.path.now (seen_after c.self.inside.mirror))
    ∙ subst (λ state. is_directory (seen_of state) c.args.path.now ≡ false) (sym c.self.view_is) c.requires.no_directory

pub put_parents-requires-clause-puts : goal.put_parents-requires-clause-puts
put_parents-requires-clause-puts c = c.self.invariant.untouched (ap (λ state. state.calls) c.self.view_is ∙ c.requires.untouched)

pub invariant_of-self : goal.invariant_of-self
invariant_of-self c = record {
  said = c.self.invariant.said ∙ sym c.put_parents.ensures.said;
  untouched = λ none. c.put_parents.ensures.puts;
}

pub returns-in_err-put_parents-clause-at_rest : goal.returns-in_err-put_parents-clause-at_rest
returns-in_err-put_parents-clause-at_rest c = untouched c.put_parents.new.self c.put_parents.ensures.puts

pub invariant_of-self-2 : goal.invariant_of-self-2
invariant_of-self-2 c = record {
  said = c.self.invariant.said ∙ sym (c.put_file.ensures.said ∙ c.put_parents.ensures.said);
  untouched = λ none. c.put_file.ensures.puts;
}

pub returns-clause-at_rest : goal.returns-clause-at_rest
returns-clause-at_rest c = untouched c.put_file.new.self c.put_file.ensures.puts
