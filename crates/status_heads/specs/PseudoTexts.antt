-- The message that holds the base of a mailbox, up to its last line.
use Rattle.std.specs.Prelude.{ℕ, List, ◌++◌, codes}
use Rattle.mail_fields.specs.Numbers.{digits_in}
use Rattle.status_heads.specs.HeadTexts.{spaced_names}
use Rattle.status_heads.specs.declared.base.Base.{Base}

-- a number with zeros before it
unfoldable pub ten_digits : ℕ → List ℕ
ten_digits number = digits_in 10 10 number

-- validity and last UID with ten digits each, and a space before each name
unfoldable pub base_text : Base → List ℕ
base_text base = ten_digits base.validity ++ codes " " ++ ten_digits base.last ++ spaced_names base.words

-- the header and the one line of the body
unfoldable pub pseudo_message : Base → List ℕ
pseudo_message base =
    codes "From: Mail System Internal Data <MAILER-DAEMON@localhost>\nSubject: DON'T DELETE THIS MESSAGE -- FOLDER INTERNAL DATA\nX-IMAP: "
    ++ base_text base
    ++ codes "\nStatus: RO\n\nThis text is part of the internal format of your mail folder.\n"

-- its delimiter line, with the first second of 1970
abbrev pub pseudo_line : List ℕ
pseudo_line = codes "From MAILER-DAEMON Thu Jan  1 00:00:00 1970\n"

-- the message behind its delimiter line
abbrev pub pseudo_text : Base → List ℕ
pseudo_text base = pseudo_line ++ pseudo_message base
