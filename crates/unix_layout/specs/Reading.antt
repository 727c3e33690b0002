-- A message as it is found in a unix file.
use Rattle.std.specs.Prelude.{ℕ, List, unwrap_or}
use Rattle.mail_fields.specs.declared.stamp.Stamp.{Stamp}
use Rattle.mail_types.specs.declared.message.Record.{Record}
use Rattle.mail_types.specs.Stamps.{utc_stamp}
use Rattle.text_forms.specs.Forms.{unix_form}
use Rattle.status_heads.specs.Heads.{heads_of}
use Rattle.status_heads.specs.Numbered.{numbered_heads}
use Rattle.status_heads.specs.declared.numbered.NumberedHeads.{NumberedHeads}

-- the heads of a text, behind the names that are known before it
abbrev pub found_heads : List (List ℕ) → List ℕ → NumberedHeads
found_heads names text = numbered_heads names (heads_of text)

-- the message with the stamp of its delimiter line and this text, as it stands in the file
abbrev pub found_record : List (List ℕ) → Stamp → List ℕ → Record
found_record names stamp text =
    let heads = found_heads names text in
    record { uid = unwrap_or heads.uid 0; text = unix_form text; stamp = utc_stamp stamp; flags = heads.flags; words = heads.words; number = 0 }
