-- The definitions, computed on worked examples.
use Rattle.std.proofs.Common.{◌≡◌, ℕ, true, false, List, [], ◌∷◌, map, replicate, Some, None, refl, codes}
use Rattle.mail_types.specs.declared.contents.Placing.TheVariants.{InPlace, Numbered}
use Rattle.mail_types.specs.declared.contents.StoreContents.{StoreContents}
use Rattle.mail_types.specs.declared.driver.Driver.TheVariants.{Mbx, Mh, Mix}
use Rattle.mail_types.specs.declared.mailbox.Mailbox.{Mailbox}
use Rattle.mail_types.specs.declared.message.NewMessage.{NewMessage}
use Rattle.mail_types.specs.declared.message.Record.{Record}
use Rattle.mail_types.specs.Drivers.{every_flag, keeps_of}
use Rattle.mail_types.specs.Flags.{no_flags, flags_of_bits}
use Rattle.mail_types.specs.Limits.{lacks_uids, lacks_numbers}
use Rattle.mail_types.specs.Lists.{add_messages, change_flags, drop_records}
use Rattle.mail_types.specs.Opening.{opened_mailbox}
use Rattle.mail_types.specs.Stamps.{epoch, utc_stamp}
use Rattle.text_lines.specs.Lines.{line_len, lines_from}
use Rattle.mail_types.specs.Keeping.{kept_record}
use Rattle.mail_types.specs.Stored.{stored_contents, created_contents, empty_mailbox}

abbrev message : ℕ → Record
message uid = record { uid = uid; text = []; stamp = epoch; flags = no_flags; words = 0; number = 0 }

abbrev new_message : ℕ → List ℕ → NewMessage
new_message words text = record { text = text; stamp = epoch; flags = no_flags; words = words }

abbrev uids : Mailbox → List ℕ
uids m = map (λ r. r.uid) m.records

-- ---- Opening

abbrev found : StoreContents
found = record { validity = Some 900; number = 0; last = 2; words = codes "Work" ∷ []; records = message 1 ∷ message 2 ∷ message 0 ∷ []; placing = InPlace }

-- a run without UIDs at the end takes the next ones
delivered : opened_mailbox found 1001 ≡ record { validity = 900; number = 0; last = 3; words = codes "Work" ∷ []; records = message 1 ∷ message 2 ∷ message 3 ∷ [] }
delivered = refl

-- UIDs with a gap stay, and the run goes on behind the highest one
gap : opened_mailbox (record found { last = 12; records = message 4 ∷ message 9 ∷ message 0 ∷ [] }) 1001
    ≡ record { validity = 900; number = 0; last = 13; words = codes "Work" ∷ []; records = message 4 ∷ message 9 ∷ message 13 ∷ [] }
gap = refl

-- no UIDVALIDITY: two messages of an mtx mailbox are 1 and 2, under the fresh one
no_validity : opened_mailbox (record { validity = None; number = 0; last = 0; words = []; records = message 0 ∷ message 0 ∷ []; placing = InPlace }) 1001
    ≡ record { validity = 1001; number = 0; last = 2; words = []; records = message 1 ∷ message 2 ∷ [] }
no_validity = refl

-- UIDs that fall are given anew, and so are those that repeat
fallen : opened_mailbox (record found { last = 7; records = message 5 ∷ message 4 ∷ [] }) 1001
    ≡ record { validity = 1001; number = 0; last = 2; words = codes "Work" ∷ []; records = message 1 ∷ message 2 ∷ [] }
fallen = refl

repeated : opened_mailbox (record found { records = message 5 ∷ message 5 ∷ [] }) 1001
    ≡ record { validity = 1001; number = 0; last = 2; words = codes "Work" ∷ []; records = message 1 ∷ message 2 ∷ [] }
repeated = refl

-- and those of a message behind one without a UID
between : uids (opened_mailbox (record found { records = message 1 ∷ message 0 ∷ message 7 ∷ [] }) 1001) ≡ 1 ∷ 2 ∷ 3 ∷ []
between = refl

-- a run that would pass the last UID, and one that just doesn't
past_the_last : opened_mailbox (record found { last = 4294967294 }) 1001
    ≡ record { validity = 1001; number = 0; last = 3; words = codes "Work" ∷ []; records = message 1 ∷ message 2 ∷ message 3 ∷ [] }
past_the_last = refl

up_to_the_last : opened_mailbox (record found { last = 4294967293 }) 1001
    ≡ record { validity = 900; number = 0; last = 4294967294; words = codes "Work" ∷ []; records = message 1 ∷ message 2 ∷ message 4294967294 ∷ [] }
up_to_the_last = refl

-- ---- The list functions, on a mailbox of three messages that gets the keyword `Play`

abbrev three : Mailbox
three = record { validity = 1; number = 4; last = 9; words = codes "Work" ∷ []; records = record (message 1) { words = 7 } ∷ message 2 ∷ record (message 3) { words = 1 } ∷ [] }

abbrev two_names : List (List ℕ)
two_names = codes "Work" ∷ codes "Play" ∷ []

-- number 1 gets a name: it is cleared in older messages, and number 2, which has none, stays hidden there; in the new message, which has the next modification number, it goes
added : add_messages (keeps_of Mix) three (new_message 6 (codes "hi") ∷ []) two_names
    ≡ record {
      validity = 1;
      number = 5;
      last = 10;
      words = two_names;
      records = record (message 1) { words = 5 } ∷ message 2 ∷ record (message 3) { words = 1 }
          ∷ record { uid = 10; text = codes "hi"; stamp = epoch; flags = no_flags; words = 2; number = 5 } ∷ [];
    }
added = refl

-- the message whose flags change has the next modification number, and none whose keyword was only cleared
flagged : change_flags (keeps_of Mix) three (record { place = 1; flags = every_flag true; words = 7 } ∷ []) two_names
    ≡ record { validity = 1; number = 5; last = 9; words = two_names; records = record (message 1) { words = 5 } ∷ record (message 2) { flags = every_flag true; words = 3; number = 5 } ∷ record (message 3) { words = 1 } ∷ [] }
flagged = refl

-- what repeats the flags, or changes old alone, gives no number
told : change_flags (keeps_of Mix) three (record { place = 1; flags = no_flags; words = 0 } ∷ record { place = 2; flags = record no_flags { old = true }; words = 1 } ∷ []) (codes "Work" ∷ [])
    ≡ record three { records = record (message 1) { words = 7 } ∷ message 2 ∷ record (message 3) { words = 1; flags = record no_flags { old = true } } ∷ [] }
told = refl

-- the greatest number stays, and where the driver has none they are 0
last_number : ((change_flags (keeps_of Mix) (record three { number = 4294967295 }) (record { place = 1; flags = every_flag true; words = 0 } ∷ []) two_names).number ≡ 4294967295)
    × ((add_messages (keeps_of Mbx) (record three { number = 0 }) (new_message 0 [] ∷ []) two_names).number ≡ 0)
last_number = (refl, refl)

-- an expunge changes no number
dropped : drop_records three (0 ∷ 2 ∷ []) ≡ record { validity = 1; number = 4; last = 9; words = codes "Work" ∷ []; records = message 2 ∷ [] }
dropped = refl

-- ---- Writing back

-- an append to a new mix mailbox, whose number is 1: the record has number 2
abbrev appended : Mailbox
appended = add_messages (keeps_of Mix) (empty_mailbox Mix 1001) (new_message 3 (replicate 14 65) ∷ []) (codes "Work" ∷ [])

first_append : appended ≡ record { validity = 1001; number = 2; last = 1; words = codes "Work" ∷ []; records = record (message 1) { text = replicate 14 65; words = 1; number = 2 } ∷ [] }
first_append = refl

first_record : stored_contents Mix (created_contents Mix 1001) (empty_mailbox Mix 1001) appended
    ≡ record { validity = Some 1001; number = 2; last = 1; words = codes "Work" ∷ []; records = appended.records; placing = InPlace }
first_record = refl

-- the highest UID stays after the last message is expunged, and so does the modification number
expunged : stored_contents Mix (record { validity = Some 1001; number = 2; last = 1; words = codes "Work" ∷ []; records = appended.records; placing = InPlace }) appended (drop_records appended (0 ∷ []))
    ≡ record { validity = Some 1001; number = 2; last = 1; words = codes "Work" ∷ []; records = []; placing = InPlace }
expunged = refl

-- mh: of the files 9 and 10 the second keeps its number, a new one is 11; a directory's number counts too
mh_numbers : stored_contents Mh (record { validity = None; number = 0; last = 0; words = []; records = message 0 ∷ message 0 ∷ []; placing = Numbered (9 ∷ 10 ∷ []) 0 })
    (record { validity = 1; number = 0; last = 2; words = []; records = message 1 ∷ message 2 ∷ [] }) (record { validity = 1; number = 0; last = 3; words = []; records = message 2 ∷ message 3 ∷ [] })
    ≡ record { validity = None; number = 0; last = 0; words = []; records = message 0 ∷ message 0 ∷ []; placing = Numbered (10 ∷ 11 ∷ []) 0 }
unfolding line_len lines_from
mh_numbers = refl

mh_directory : (stored_contents Mh (record { validity = None; number = 0; last = 0; words = []; records = []; placing = Numbered [] 12 })
    (empty_mailbox Mh 1) (record { validity = 1; number = 0; last = 1; words = []; records = message 1 ∷ [] })).placing ≡ Numbered (13 ∷ []) 12
mh_directory = refl

-- ---- Limits

-- what mh keeps of a message with a date, flags and keywords
mh_keeps : kept_record (keeps_of Mh) (record { uid = 7; text = 97 ∷ 10 ∷ []; stamp = utc_stamp epoch; flags = every_flag true; words = 3; number = 0 })
    ≡ record { uid = 7; text = 97 ∷ 13 ∷ 10 ∷ []; stamp = epoch; flags = no_flags; words = 0; number = 0 }
unfolding line_len lines_from
mh_keeps = refl

no_number : (lacks_numbers (Numbered (999999999 ∷ []) 0) 1 ≡ true) × (lacks_numbers (Numbered [] 999999999) 1 ≡ true)
    × (lacks_numbers (Numbered (999999998 ∷ []) 0) 1 ≡ false) × (lacks_numbers (Numbered (999999999 ∷ []) 0) 0 ≡ false)
no_number = (refl, refl, refl, refl)

no_uid : (lacks_uids (record (empty_mailbox Mh 1) { last = 4294967294 }) 1 ≡ true) × (lacks_uids (record (empty_mailbox Mh 1) { last = 4294967293 }) 1 ≡ false)
    × (lacks_uids (record (empty_mailbox Mh 1) { last = 4294967295 }) 0 ≡ false)
no_uid = (refl, refl, refl)

-- seen, flagged and old, and a bit of unknown meaning
some_bits : flags_of_bits 32789 ≡ record no_flags { seen = true; flagged = true; old = true }
some_bits = refl
