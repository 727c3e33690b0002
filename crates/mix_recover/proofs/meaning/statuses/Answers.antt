use Rattle.std.proofs.Common.{◌∙◌, [], Ok, ap, sym, unwrap_or}
use Rattle.mix_files.specs.Statuses.{statuses_of}
use Rattle.mix_recover.specs.Readings.{option_bytes}
use Rattle.mix_recover.proofs.Together.{no_statuses}
use Rattle.mix_recover.proofs.meaning.statuses.Goals as goal

pub returns-in_default : goal.returns-in_default
returns-in_default c = ap (λ o. statuses_of (unwrap_or (option_bytes o) [])) c.in_default.is ∙ no_statuses ∙ ap Ok (sym c.new.ensures.items)
