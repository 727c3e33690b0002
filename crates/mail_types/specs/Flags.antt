-- The flags of a message (RFC 3501, section 2.3.2), and the bits that stand for them in files.
use Rattle.std.specs.Prelude.{ℕ, ◌+◌, ◌/◌, ◌%◌, ◌==◌, Bool, false, ◌&&◌, ◌||◌, not, if◌then◌else◌}
use Rattle.mail_types.specs.declared.flags.Flags.{Flags}

abbrev pub no_flags : Flags
no_flags = record { seen = false; answered = false; flagged = false; deleted = false; draft = false; old = false }

-- the number that stands for a flag which is set
abbrev pub bit_if : Bool → ℕ → ℕ
bit_if set bit = if set then bit else 0

-- seen 1, deleted 2, flagged 4, answered 8, old 16, draft 32
abbrev pub flag_bits : Flags → ℕ
flag_bits flags =
    bit_if flags.seen 1 + bit_if flags.deleted 2 + bit_if flags.flagged 4 + bit_if flags.answered 8 + bit_if flags.old 16 + bit_if flags.draft 32

-- whether a number has this power of 2
abbrev pub has_bit : ℕ → ℕ → Bool
has_bit bit bits = bits / bit % 2 == 1

-- the flags that these six bits stand for
abbrev pub flags_of_bits : ℕ → Flags
flags_of_bits bits = record {
  seen = has_bit 1 bits;
  answered = has_bit 8 bits;
  flagged = has_bit 4 bits;
  deleted = has_bit 2 bits;
  draft = has_bit 32 bits;
  old = has_bit 16 bits;
}

-- flag by flag
abbrev pub each_flag : (Bool → Bool → Bool) → Flags → Flags → Flags
each_flag of one other = record {
  seen = of one.seen other.seen;
  answered = of one.answered other.answered;
  flagged = of one.flagged other.flagged;
  deleted = of one.deleted other.deleted;
  draft = of one.draft other.draft;
  old = of one.old other.old;
}

abbrev pub flags_in_both : Flags → Flags → Flags
flags_in_both one other = each_flag (λ a b. a && b) one other

abbrev pub flags_in_either : Flags → Flags → Flags
flags_in_either one other = each_flag (λ a b. a || b) one other

abbrev pub flags_in_first : Flags → Flags → Flags
flags_in_first one other = each_flag (λ a b. a && not b) one other
