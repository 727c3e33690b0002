-- What stands behind a date, computed.
use Rattle.std.proofs.Common.{◌≡◌, Some, None, refl, codes}
use Rattle.mail_fields.specs.Numbers.{number_in}
use Rattle.octal_head.specs.Heads.{marks_of, size_then_marks_of}

behind-example : size_then_marks_of (codes "1024;000000000113") ≡ Some (1024, 1, 11)
unfolding size_then_marks_of marks_of number_in
behind-example = refl

-- a digit 8, 11 digits, and no size
none-example : (marks_of (codes "000000000018") ≡ None) × (marks_of (codes "00000000001") ≡ None) × (size_then_marks_of (codes ";000000000001") ≡ None)
unfolding size_then_marks_of marks_of number_in
none-example = (refl, refl, refl)
