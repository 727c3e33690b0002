-- The stamp of a delimiter line that is written.
use Rattle.std.proofs.Common.{◌≡◌, pos, Option, Some, is_some, true, ap, sym, ◌∙◌}
use Rattle.std.specs.Prelude.{unwrap_or}
use Rattle.mail_fields.specs.declared.stamp.Stamp.{Stamp}
use Rattle.mail_fields.specs.DelimiterLine.{delimiter_stamp, is_delimiter_line}
use Rattle.mail_fields.specs.Numbers.{◌>>=◌}
use Rattle.mail_fields.specs.Stamps.{StampParts, parts_of}
use Rattle.mail_fields.proofs.FromDateReads.{from-width}
use Rattle.mail_fields.proofs.StampsAgain.{stamp_stands, from_again}
use Rattle.mail_types.specs.Stamps.{epoch, read_stamp, utc_stamp}
use Rattle.mail_types.proofs.Stamps.{stamp_back}
use Rattle.mail_types.proofs.Twice.{utc_zone}
use Rattle.status_heads.specs.Delimiters.{delimiter_text}
use Rattle.status_heads.proofs.DelimiterBack.{stamp_back as line_back}
use Rattle.unix_form.specs.Form.{stamp_of_line}

module _ (stamp : Stamp) (utc : utc_stamp stamp ≡ stamp) where
  zone : stamp.zone_minutes ≡ pos 0
  zone = ap (λ (s : Stamp). s.zone_minutes) (sym utc) ∙ utc_zone (parts_of stamp)

  reads : delimiter_stamp (delimiter_text stamp.day stamp.second) ≡ Some (parts_of stamp)
  reads = line_back stamp.day stamp.second (parts_of stamp) (from-width (parts_of stamp) (stamp_stands stamp)) (from_again stamp zone)

  -- the line begins a message
  pub line_begins : is_delimiter_line (delimiter_text stamp.day stamp.second) ≡ true
  line_begins = ap is_some reads

  -- and has its stamp
  pub line_stamp : stamp_of_line (delimiter_text stamp.day stamp.second) ≡ stamp
  line_stamp =
      ap (λ (found : Option StampParts). utc_stamp (unwrap_or (found >>= read_stamp) epoch)) reads
      ∙ ap (λ (found : Option Stamp). utc_stamp (unwrap_or found epoch)) (stamp_back stamp)
      ∙ utc
