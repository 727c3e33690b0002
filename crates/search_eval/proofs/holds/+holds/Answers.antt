use Rattle.std.proofs.Common.{◌≡◌, Bool, List, ap, sym, ◌∙◌, rules}
use Rattle.std.specs.List.{list_all}
use Rattle.std.proofs.lemmas.List.Folds.{list_all-map}
use Rattle.imap_syntax.specs.declared.key.Key.{Key, AllOf}
use Rattle.imap_syntax.specs.declared.key.Key.TheOpen as keys
use Rattle.imap_syntax.specs.declared.key.Key.TheVariants.{rolls-AllOf}
use Rattle.imap_syntax.specs.declared.key.Key.TheFolds.{fold-roll-Key}
use Rattle.looked_message.specs.Messages.{LookedAt, looked_at}
use Rattle.search_eval.specs.Keys.{key_row, key_holds}
use Rattle.search_eval.specs.declared.largest.Largest.{Largest}
use Rattle.search_eval.proofs.holds.+holds.Goals as goal

all_of : (largest : Largest) (m : LookedAt) (all : List Key) → key_holds largest m (AllOf all) ≡ list_all (key_holds largest m) all
all_of largest m all =
    ap (key_holds largest m) (sym (rolls-AllOf all)) ∙ fold-roll-Key Bool (key_row largest m) (keys.AllOf all)
    ∙ list_all-map (λ b. b) (key_holds largest m) all

pub holds-returns-in-AllOf-clause-value : goal.holds-returns-in-AllOf-clause-value
holds-returns-in-AllOf-clause-value t c = rw (c.in-AllOf.is, all_of c.args.largest (looked_at c.args.message.now) c.in-AllOf.all) (search rules)
