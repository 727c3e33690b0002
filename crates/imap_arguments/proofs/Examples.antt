-- Arguments, computed.
use Rattle.std.specs.Prelude.{◌≡◌, [], ◌∷◌, Some, Ok, Err, true, codes, refl}
use Rattle.mail_types.specs.Flags.{no_flags}
use Rattle.imap_arguments.specs.Tokens.{token_at}
use Rattle.imap_arguments.specs.Tags.{tag_of}
use Rattle.imap_arguments.specs.Numbers.{number_in, digits_at, number_at, nonzero_at}
use Rattle.imap_arguments.specs.Strings.{quoted_at, literal_at, astring_at, pattern_at}
use Rattle.imap_arguments.specs.Sets.{end_at, range_at, set_at}
use Rattle.imap_arguments.specs.Flags.{keyword_at, system_at, flag_at, flag_list_at}
use Rattle.imap_arguments.specs.Dates.{date_at}
use Rattle.imap_arguments.specs.Sections.{word_kind, kind_at, section_at, partial_at}
use Rattle.imap_arguments.specs.Items.{fetch_items_at, status_at, status_list_at}
use Rattle.imap_arguments.specs.declared.reason.Reason.TheVariants.{Missing, NotUnderstood, OutOfRange}
use Rattle.imap_arguments.specs.declared.set.End.TheVariants.{Number, Largest}
use Rattle.imap_arguments.specs.declared.section.SectionKind.TheVariants.{Mime}
use Rattle.imap_arguments.specs.declared.item.Item.TheVariants as items
use Rattle.imap_arguments.specs.declared.item.StatusItem.TheVariants as statuses

tag : tag_of (codes "a1 NOOP") ≡ Some (codes "a1")
unfolding tag_of
tag = refl

token : token_at (codes "FLAGS)") ≡ Ok (codes "FLAGS", codes ")")
unfolding token_at
token = refl

quoted : quoted_at (codes "a\\\"b\" c") ≡ Ok (codes "a\"b", codes " c")
quoted = refl

unclosed : quoted_at (codes "a") ≡ Err Missing
unclosed = refl

literal : literal_at (codes "{5}\r\n x") (codes "INBOX" ∷ []) ≡ Ok (record { value = codes "INBOX"; rest = codes " x"; literals = [] })
literal = refl

literal_with_plus : astring_at (codes "{5+}\r\n") (codes "INBOX" ∷ []) ≡ Err NotUnderstood
literal_with_plus = refl

star_stands_in_a_pattern : pattern_at (codes "a*%") [] ≡ Ok (record { value = codes "a*%"; rest = []; literals = [] })
star_stands_in_a_pattern = refl

set : set_at (codes "4:2,*") ≡ Ok (record { ranges = (Number 4, Number 2) ∷ (Largest, Largest) ∷ [] }, [])
unfolding set_at range_at end_at digits_at number_in
set = refl

zero_is_out_of_range : nonzero_at (codes "0") ≡ Err OutOfRange
unfolding digits_at number_in
zero_is_out_of_range = refl

largest_number : number_at (codes "4294967295") ≡ Ok (4294967295, [])
unfolding digits_at number_in
largest_number = refl

past_the_largest_number : number_at (codes "4294967296") ≡ Err OutOfRange
unfolding digits_at number_in
past_the_largest_number = refl

flags : flag_list_at (codes "(\\seen Work)") ≡ Ok (record { flags = record no_flags { seen = true }; words = codes "Work" ∷ [] }, [])
unfolding flag_list_at flag_at system_at keyword_at token_at
flags = refl

recent_is_no_flag_to_set : flag_list_at (codes "(\\Recent)") ≡ Err NotUnderstood
unfolding flag_list_at flag_at system_at
recent_is_no_flag_to_set = refl

mime_of_a_part : section_at (codes "[1.2.MIME]") [] ≡ Ok (record { section = record { parts = 1 ∷ 2 ∷ []; kind = Mime }; rest = []; literals = [] })
unfolding section_at kind_at word_kind token_at digits_at number_in
mime_of_a_part = refl

mime_of_no_part : section_at (codes "[MIME]") [] ≡ Err NotUnderstood
unfolding section_at kind_at word_kind token_at
mime_of_no_part = refl

partial : partial_at (codes "<0.5>") ≡ Ok (Some (0, 5), [])
unfolding partial_at digits_at number_in
partial = refl

unclosed_date : date_at (codes "\"2-Jan-1970") ≡ Err Missing
unfolding date_at
unclosed_date = refl

fast : fetch_items_at (codes "FAST") [] ≡ Ok (record { items = items.Flags ∷ items.InternalDate ∷ items.Size ∷ []; literals = [] }, [])
unfolding fetch_items_at
fast = refl

status_items : status_list_at (codes "(UNSEEN messages)") ≡ Ok (statuses.Unseen ∷ statuses.Messages ∷ [], [])
unfolding status_list_at status_at token_at
status_items = refl
