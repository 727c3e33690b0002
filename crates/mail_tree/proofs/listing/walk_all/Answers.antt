use Rattle.std.proofs.Common.{sym, ◌∙◌, ap, Bor, List, ℕ}
use Rattle.std.specs.Prelude.{option_map}
use Rattle.mail_tree.proofs.Joined.{ok_map}
use Rattle.mail_tree.proofs.Leading.{front_begins}
use Rattle.mail_tree.proofs.WalkedBelow.{open_root_now, root_now}
use Rattle.mail_tree.proofs.listing.walk_all.Goals as goal

pub walk_below-requires : goal.walk_below-requires
walk_below-requires g c = record { front = λ name fit. front_begins c.args.pattern.now c.in-Some.front.now (sym c.front.ensures ∙ ap (option_map (λ (front : Bor (List ℕ)). front.now)) c.in-Some.is) name fit }

pub walk-requires-clause-opened : goal.walk-requires-clause-opened
walk-requires-clause-opened g c = open_root_now c.args.root.now _ c.requires.root

pub returns-in-None-clause-found : goal.returns-in-None-clause-found
returns-in-None-clause-found g c = ok_map c.walk.result (λ walked. root_now c.args.root.now c.args.pattern.now _ c.args.found.now.entries c.walk.new.found.entries walked) c.walk.ensures.found
