-- Names by number, one after the other, and stamps in UTC.
use Rattle.std.proofs.Common.{◌≡◌, ◌==◌, ◌/◌, ◌%◌, ℕ, pos, List, ◌∷◌, cond, ap, ◌∙◌, arith}
use Rattle.mail_fields.specs.declared.stamp.Stamp.{Stamp}
use Rattle.mail_fields.specs.Stamps.{parts_of, utc}
use Rattle.mail_types.proofs.Twice.{utc_zone}
use Rattle.unix_form.specs.Form.{names_by}

pub names_step : (words : ℕ) (name : List ℕ) (names : List (List ℕ)) → names_by words (name ∷ names) ≡ cond (words % 2 == 1) (name ∷ names_by (words / 2) names) (names_by (words / 2) names)
names_step words name names =
    let same : words / 1 ≡ words = omega arith in
    ap (λ n. cond (n % 2 == 1) (name ∷ names_by (words / 2) names) (names_by (words / 2) names)) same

-- a stamp in UTC is in zone 0
pub utc_parts : (stamp in_utc : Stamp) → parts_of in_utc ≡ utc (parts_of stamp) → in_utc.zone_minutes ≡ pos 0
utc_parts stamp in_utc is = ap (λ p. p.zone_minutes) is ∙ utc_zone (parts_of stamp)
