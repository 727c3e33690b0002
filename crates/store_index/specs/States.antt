-- What a store of one file tells.
use Rattle.std.specs.Prelude.{ℕ, List, [], map}
use Rattle.store_trait.specs.declared.store.Info.{Info}
use Rattle.store_trait.specs.Views.{Summary}

-- what is told of a mailbox without modification numbers
pub record ToldState : Type 0 where
  pub validity : ℕ
  pub last : ℕ
  pub words : List (List ℕ)
  pub infos : List Info

-- the same as the interface sees it, all numbers 0
abbrev pub told_as : ToldState → Summary
told_as t = record { validity = t.validity; number = 0; last = t.last; words = t.words; infos = t.infos; numbers = map (λ (i : Info). 0) t.infos }

-- what is told of a mailbox without messages
abbrev pub empty_told : (validity : ℕ) → ToldState
empty_told validity = record { validity = validity; last = 0; words = []; infos = [] }
