-- Fields at the front of a text, computed.
use Rattle.std.proofs.Common.{◌≡◌, Some, None, refl, codes}
use Rattle.mail_fields.specs.Numbers.{number_in}
use Rattle.mix_records.specs.Fields.{hex_at_front, end_at_front}

hex-example : (hex_at_front 4 (codes ":00fF:x") ≡ Some (255, codes ":x")) × (hex_at_front 4 (codes ":0ff:x") ≡ None) × (hex_at_front 4 (codes "00ff:x") ≡ None)
unfolding hex_at_front number_in
hex-example = (refl, refl, refl)

end-example : (end_at_front (codes ":\r\nx") ≡ Some (codes "x")) × (end_at_front (codes ":\n") ≡ None)
unfolding end_at_front
end-example = (refl, refl)
