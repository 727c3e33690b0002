-- The form of unix files, computed on small files.
use Rattle.std.proofs.Common.{◌≡◌, ℕ, pos, List, [], ◌∷◌, ◌++◌, map, Option, Some, None, option_map, codes, refl}
use Rattle.jiff_core.specs.Calendar.{days_from_civil, day_count, days_of_years, days_of_months, weekday_number}
use Rattle.std.specs.Fmt.{digits}
use Rattle.text_lines.specs.Lines.{line_len, lines_from}
use Rattle.mail_fields.specs.CivilDays.{month_of, day_of, civil_day_of, civil_of, year_from, month_from, month_text, day_text, weekday_text}
use Rattle.mail_fields.specs.Clock.{sixtieth_of, seconds_of, clock_of, offset_of, clock_text}
use Rattle.mail_fields.specs.DelimiterLine.{delimiter_stamp, date_behind_space}
use Rattle.mail_fields.specs.FromDate.{from_date_of, stamp_in_frame, stamp_of_fields, end_of, from_date_text}
use Rattle.mail_fields.specs.Numbers.{number_in}
use Rattle.mail_fields.specs.Stamps.{StampParts, parts_of, clamped, utc, seconds_into, first_stamp}
use Rattle.mail_fields.specs.declared.stamp.Stamp.{Stamp}
use Rattle.mail_types.specs.declared.message.Record.{Record}
use Rattle.mail_types.specs.Flags.{flag_bits, flags_of_bits, no_flags}
use Rattle.mail_types.specs.Stamps.{stamp_of, is_stamp_is}
use Rattle.status_heads.specs.Bases.{base_of_words}
use Rattle.status_heads.specs.Delimiters.{delimiter_text}
use Rattle.status_heads.specs.Heads.{heads_in}
use Rattle.status_heads.specs.HeadTexts.{field_line, status_text, more_text, head_lines}
use Rattle.status_heads.specs.Insertions.{with_fields}
use Rattle.status_heads.specs.Names.{words_of}
use Rattle.status_heads.specs.Numbers.{number_between}
use Rattle.status_heads.specs.PseudoTexts.{ten_digits, base_text, pseudo_message}
use Rattle.unix_form.specs.Form.{UnixFile, file_of, contents_in, file_records, unix_written}

-- a message by its UID, its text, the numbers of its stamp (which holds proofs), its flags and its keywords
abbrev shown_record : Record → ℕ × List ℕ × StampParts × ℕ × ℕ
shown_record r = (r.uid, r.text, parts_of r.stamp, flag_bits r.flags, r.words)

-- validity, last UID, names, messages, and how many messages stand in the file
abbrev shown_file : UnixFile → Option ℕ × ℕ × List (List ℕ) × List (ℕ × List ℕ × StampParts × ℕ × ℕ) × ℕ
shown_file file =
    let c = contents_in file in
    (c.validity, c.last, c.words, map shown_record c.records, file_records file)

abbrev shown : List ℕ → Option (Option ℕ × ℕ × List (List ℕ) × List (ℕ × List ℕ × StampParts × ℕ × ℕ) × ℕ)
shown bytes = option_map shown_file (file_of bytes)

abbrev spring : ℕ → StampParts
spring second = record { day = pos 19815; second = second; zone_minutes = pos 0 }

-- an empty file has no message; a first line that is no delimiter line makes it none
no_message : (shown [] ≡ Some (None, 0, [], [], 0)) × (shown (codes "hello\n") ≡ None) × (shown (codes "From ann Tue Apr 31 08:00:00 2024\nhi\n") ≡ None)
unfolding line_len lines_from delimiter_stamp date_behind_space from_date_of stamp_in_frame stamp_of_fields month_of day_of clock_of sixtieth_of seconds_of offset_of end_of civil_day_of number_in days_from_civil day_count days_of_years days_of_months heads_in words_of number_between base_of_words clamped utc seconds_into
no_message = (refl, refl, refl)

-- flags R, O, F and A, a keyword that repeats in another case, a UID; the empty line at the end is none of the message
one_message : shown (codes "From ann@example.org Tue Apr  2 08:00:00 2024\nSubject: x\nStatus: RO\nX-Status: FA\nX-Keywords: Work  wORK Play\nX-UID: 7\n\nbody\n\n")
    ≡ Some (None, 0, codes "Work" ∷ codes "Play" ∷ [], (7, codes "Subject: x\r\n\r\nbody\r\n", spring 28800, 29, 3) ∷ [], 1)
unfolding line_len lines_from delimiter_stamp date_behind_space from_date_of stamp_in_frame stamp_of_fields month_of day_of clock_of sixtieth_of seconds_of offset_of end_of civil_day_of number_in days_from_civil day_count days_of_years days_of_months heads_in words_of number_between base_of_words clamped utc seconds_into
one_message = refl

-- a zone, a bare delimiter line, a line that only begins as one, a last line without LF, and a NUL
odd_messages : shown (codes "From Tue Apr  2 08:00 2024 +0200\r\nFrom ann Tue Apr 02 08:00:00 EST 2024\nA: b\n\nFrom here on\n" ++ 0 ∷ [])
    ≡ Some (None, 0, [], (0, codes "\r\n", spring 21600, 0, 0) ∷ (0, codes "A: b\r\n\r\nFrom here on\r\n" ++ 128 ∷ 13 ∷ 10 ∷ [], spring 28800, 0, 0) ∷ [], 2)
unfolding line_len lines_from delimiter_stamp date_behind_space from_date_of stamp_in_frame stamp_of_fields month_of day_of clock_of sixtieth_of seconds_of offset_of end_of civil_day_of number_in days_from_civil day_count days_of_years days_of_months heads_in words_of number_between base_of_words clamped utc seconds_into
odd_messages = refl

-- the base in a message of the mailbox: its names and then those of the messages
base_in_message : shown (codes "From a Tue Apr  2 08:00:00 2024\nX-IMAPbase: 18 5 Work\nX-Keywords: Play\n\n")
    ≡ Some (Some 18, 5, codes "Work" ∷ codes "Play" ∷ [], (0, codes "\r\n", spring 28800, 0, 2) ∷ [], 1)
unfolding line_len lines_from delimiter_stamp date_behind_space from_date_of stamp_in_frame stamp_of_fields month_of day_of clock_of sixtieth_of seconds_of offset_of end_of civil_day_of number_in days_from_civil day_count days_of_years days_of_months heads_in words_of number_between base_of_words clamped utc seconds_into
base_in_message = refl

-- the base in a message of its own, beside which X-IMAPbase says nothing; and one outside its form, which is a message of the mailbox
pseudo_messages : (shown (codes "From MAILER-DAEMON Thu Jan  1 00:00:00 1970\nX-IMAP: 0000000900 0000000002 Work work {\nStatus: RO\n\ntext\n\nFrom a Tue Apr  2 08:00:00 2024\nX-IMAPbase: 18 5 Play\nX-UID: 4294967295\n\n>From b Tue Apr  2 08:00:00 2024\n")
    ≡ Some (Some 900, 2, codes "Work" ∷ [], (0, codes "\r\n>From b Tue Apr  2 08:00:00 2024\r\n", spring 28800, 0, 0) ∷ [], 2))
    × (shown (codes "From a Tue Apr  2 08:00:00 2024\nX-IMAP: 0 2\nStatus: R\n\nb\n") ≡ Some (None, 0, [], (0, codes "\r\nb\r\n", spring 28800, 1, 0) ∷ [], 1))
unfolding line_len lines_from delimiter_stamp date_behind_space from_date_of stamp_in_frame stamp_of_fields month_of day_of clock_of sixtieth_of seconds_of offset_of end_of civil_day_of number_in days_from_civil day_count days_of_years days_of_months heads_in words_of number_between base_of_words clamped utc seconds_into
pseudo_messages = (refl, refl)

-- an old mailbox of three messages
old_mailbox : shown (codes "From MAILER-DAEMON Thu Jan  1 00:00:00 1970\nFrom: Mail System Internal Data <MAILER-DAEMON@localhost>\nSubject: DON'T DELETE THIS MESSAGE -- FOLDER INTERNAL DATA\nX-IMAP: 0000000900 0000000002 Work\nStatus: RO\n\nThis text is part of the internal format of your mail folder.\n\n"
    ++ codes "From ann@example.org Mon Apr  1 12:00:00 2024\nSubject: Hello\nStatus: RO\nX-UID: 1\n\nHi Bob.\n\n"
    ++ codes "From ann@example.org Tue Apr  2 06:30:00 2024\nSubject: Plan\nStatus: O\nX-Status: F\nX-Keywords: Work\nX-UID: 2\n\nOne.\nTwo.\n\n"
    ++ codes "From news@example.org Wed Apr  3 09:00:00 2024\nMIME-Version: 1.0\n\n--b1\n\nHi\n--b1--\n\n")
    ≡ Some (
      Some 900,
      2,
      codes "Work" ∷ [],
      (1, codes "Subject: Hello\r\n\r\nHi Bob.\r\n", record { day = pos 19814; second = 43200; zone_minutes = pos 0 }, 17, 0)
          ∷ (2, codes "Subject: Plan\r\n\r\nOne.\r\nTwo.\r\n", spring 23400, 20, 1)
          ∷ (0, codes "MIME-Version: 1.0\r\n\r\n--b1\r\n\r\nHi\r\n--b1--\r\n", record { day = pos 19816; second = 32400; zone_minutes = pos 0 }, 0, 0) ∷ [],
      4,
    )
unfolding line_len lines_from delimiter_stamp date_behind_space from_date_of stamp_in_frame stamp_of_fields month_of day_of clock_of sixtieth_of seconds_of offset_of end_of civil_day_of number_in days_from_civil day_count days_of_years days_of_months heads_in words_of number_between base_of_words clamped utc seconds_into
old_mailbox = refl

-- ---- Writing. The first day of the year 0000, since a date is written by counting years

abbrev first_day : Stamp
first_day = stamp_of first_stamp (is_stamp_is first_stamp refl)

-- two messages as they are written: one with flags and a keyword, and one without
written_mailbox : unix_written (record {
  validity = 18;
  number = 0;
  last = 6;
  words = codes "Play" ∷ codes "Work" ∷ [];
  records =
      record { uid = 5; text = codes "Subject: x\r\n\r\nFrom me\r\n"; stamp = first_day; flags = flags_of_bits 13; words = 2; number = 0 }
      ∷ record { uid = 6; text = codes "\r\n"; stamp = first_day; flags = no_flags; words = 0; number = 0 } ∷ [];
})
    ≡ codes "From MAILER-DAEMON Thu Jan  1 00:00:00 1970\nFrom: Mail System Internal Data <MAILER-DAEMON@localhost>\nSubject: DON'T DELETE THIS MESSAGE -- FOLDER INTERNAL DATA\nX-IMAP: 0000000018 0000000006 Play Work\nStatus: RO\n\nThis text is part of the internal format of your mail folder.\n\n"
    ++ codes "From MAILER-DAEMON Sat Jan  1 00:00:00 0000\nSubject: x\nStatus: R\nX-Status: FA\nX-Keywords: Work\nX-UID: 5\n\nFrom me\n\n"
    ++ codes "From MAILER-DAEMON Sat Jan  1 00:00:00 0000\nX-UID: 6\n\n\n"
unfolding line_len lines_from delimiter_stamp date_behind_space from_date_of stamp_in_frame stamp_of_fields month_of day_of clock_of sixtieth_of seconds_of offset_of end_of civil_day_of number_in days_from_civil day_count days_of_years days_of_months heads_in words_of number_between base_of_words clamped utc seconds_into delimiter_text from_date_text civil_of year_from month_from day_text month_text weekday_text weekday_number clock_text digits field_line status_text more_text head_lines with_fields ten_digits base_text pseudo_message
written_mailbox = refl
