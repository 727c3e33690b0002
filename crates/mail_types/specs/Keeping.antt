-- A message limited to what a driver declares to keep.
use Rattle.std.specs.Prelude.{◌≡◌, ℕ, ◌^◌, ◌%◌, List, if◌then◌else◌}
use Rattle.mail_fields.specs.declared.stamp.Stamp.{Stamp}
use Rattle.text_forms.specs.Forms.{exact_form, lines_form, unix_form, mmdf_form}
use Rattle.mail_types.specs.declared.driver.DateKeep.{DateKeep}
use Rattle.mail_types.specs.declared.driver.DateKeep.TheVariants.{Zone, Second, Epoch}
use Rattle.mail_types.specs.declared.driver.TextKeep.{TextKeep}
use Rattle.mail_types.specs.declared.driver.TextKeep.TheVariants.{Exact, Lines, Unix, Mmdf}
use Rattle.mail_types.specs.declared.driver.Keeps.{Keeps}
use Rattle.mail_types.specs.declared.message.Record.{Record}
use Rattle.mail_types.specs.Flags.{flags_in_both}
use Rattle.mail_types.specs.Stamps.{utc_stamp, epoch}

-- a stamp as the driver keeps dates
abbrev pub stamp_in_form : DateKeep → Stamp → Stamp
stamp_in_form Zone stamp = stamp
stamp_in_form Second stamp = utc_stamp stamp
stamp_in_form Epoch stamp = epoch

-- a text as the driver keeps texts
abbrev pub text_in_form : TextKeep → List ℕ → List ℕ
text_in_form Exact text = exact_form text
text_in_form Lines text = lines_form text
text_in_form Unix text = unix_form text
text_in_form Mmdf text = mmdf_form text

-- the keyword numbers below n
abbrev pub words_below : ℕ → ℕ → ℕ
words_below n words = words % 2 ^ n

-- its text and its stamp in the driver's forms, the keywords that the driver has room for, and its modification number where the driver has them
abbrev pub take_record : Keeps → Record → Record
take_record keeps r = record {
  uid = r.uid;
  text = text_in_form keeps.text r.text;
  stamp = stamp_in_form keeps.date r.stamp;
  flags = r.flags;
  words = words_below keeps.words r.words;
  number = if keeps.numbers then r.number else 0;
}

-- the same without the flags that the driver doesn't declare
abbrev pub kept_record : Keeps → Record → Record
kept_record keeps r = let taken = take_record keeps r in record taken { flags = flags_in_both taken.flags keeps.flags }

-- it has nothing that the driver doesn't declare
pub record IsInForm (keeps : Keeps) (r : Record) : Type 0 where
  pub text : text_in_form keeps.text r.text ≡ r.text
  pub stamp : stamp_in_form keeps.date r.stamp ≡ r.stamp
  pub flags : flags_in_both r.flags keeps.flags ≡ r.flags
  pub words : words_below keeps.words r.words ≡ r.words
  pub number : (if keeps.numbers then r.number else 0) ≡ r.number
