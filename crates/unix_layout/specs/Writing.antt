-- What is written of what an open store tells, with its texts.
use Rattle.std.specs.Prelude.{ℕ, List, ◌++◌, codes, flat_map, map}
use Rattle.mail_types.specs.Stamps.{utc_stamp}
use Rattle.store_trait.specs.declared.store.Info.{Info}
use Rattle.status_heads.specs.PseudoTexts.{pseudo_text}
use Rattle.store_index.specs.States.{ToldState}
use Rattle.store_index.specs.Told.{records_at}
use Rattle.unix_form.specs.Form.{message_text}

-- a message with its stamp in UTC
abbrev pub in_utc : Info → Info
in_utc i = record i { stamp = utc_stamp i.stamp }

-- messages with their texts
abbrev pub messages_text : List (List ℕ) → List Info → List (List ℕ) → List ℕ
messages_text names infos texts = flat_map (message_text names) (records_at (map in_utc infos) texts)

-- the message that holds the base, an empty line, and the messages
abbrev pub file_text : ToldState → List (List ℕ) → List ℕ
file_text told texts = pseudo_text (record { validity = told.validity; last = told.last; words = told.words }) ++ (codes "\n" ++ messages_text told.words told.infos texts)
