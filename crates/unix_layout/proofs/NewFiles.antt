-- The file of a new mailbox: how long it is, and which texts stand in it.
use Rattle.std.proofs.Common.{◌≡◌, ◌≢◌, ◌≤◌, ℕ, [], ◌++◌, length, length-append, codes, arith}
use Rattle.mail_fields.specs.Numbers.{digits_in}
use Rattle.mail_fields.proofs.Digits.{length-digits_in}
use Rattle.mail_types.specs.declared.driver.Driver.TheVariants.{Unix}
use Rattle.mail_types.specs.Limits.{file_limit}
use Rattle.mail_types.specs.Mailboxes.{greatest_number}
use Rattle.mail_types.specs.Stored.{empty_mailbox}
use Rattle.store_trait.specs.Having.{contents_of}
use Rattle.store_trait.proofs.Refusing.{can_spell_empty}
use Rattle.status_heads.specs.PseudoTexts.{base_text, pseudo_line, pseudo_message, ten_digits}
use Rattle.file_store.specs.Forms.{is_read_form}
use Rattle.unix_form.specs.Form.{unix_file_form, unix_written}
use Rattle.unix_form.proofs.Again.{unix_again}
use Rattle.unix_form.proofs.UnixForm.{unix_is_form}
use Rattle.unix_layout.specs.Forms.{unix_read}

long_message : (validity : ℕ) → length (pseudo_message (record { validity = validity; last = 0; words = [] })) ≤ 300
unfolding pseudo_message base_text ten_digits
long_message validity =
    let front = codes "From: Mail System Internal Data <MAILER-DAEMON@localhost>\nSubject: DON'T DELETE THIS MESSAGE -- FOLDER INTERNAL DATA\nX-IMAP: " in
    let rest = codes "\nStatus: RO\n\nThis text is part of the internal format of your mail folder.\n" in
    let one = digits_in 10 10 validity in
    let two = digits_in 10 10 0 in
    let space = codes " " in
    let value = one ++ space ++ two ++ [] in
    let a = length-append (front ++ value) rest in
    let b = length-append front value in
    let c = length-append (one ++ space ++ two) [] in
    let d = length-append (one ++ space) two in
    let e = length-append one space in
    let f = length-digits_in 10 10 validity in
    let g = length-digits_in 10 10 0 in
    let long : length front ≤ 150 = omega arith in
    let more : length rest ≤ 100 = omega arith in
    omega (arith, a, b, c, d, e, f, g, long, more)

pub blank_short : (validity : ℕ) → length (unix_written (empty_mailbox Unix validity)) ≤ file_limit
blank_short validity =
    let message = pseudo_message (record { validity = validity; last = 0; words = [] }) in
    let a = length-append (pseudo_line ++ message) (codes "\n" ++ []) in
    let b = length-append pseudo_line message in
    let line : length pseudo_line ≤ 50 = omega arith in
    omega (arith, a, b, line, long_message validity)

pub blank_texts : (validity : ℕ) → validity ≢ 0 → validity ≤ greatest_number → unix_read.texts (unix_written (empty_mailbox Unix validity)) ≡ []
blank_texts validity some fits =
    let m = empty_mailbox Unix validity in
    let said = unix_again m (can_spell_empty Unix validity some fits) in
    (is_read_form Unix unix_file_form unix_is_form).texts (unix_written m) (contents_of Unix m) said.0 said.1
