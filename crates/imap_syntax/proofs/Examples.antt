-- Whole commands, computed.
use Rattle.std.specs.Prelude.{◌≡◌, [], ◌∷◌, ◌++◌, None, codes, refl, true}
use Rattle.imap_arguments.specs.Tags.{tag_of}
use Rattle.imap_arguments.specs.Tokens.{token_at}
use Rattle.imap_arguments.specs.declared.reason.Reason.TheVariants.{NoTag, NoCommand, UnknownCommand, Missing, TextBehind, Nul}
use Rattle.imap_syntax.specs.Keys.{leaf_at, opening_of, search_keys_at}
use Rattle.imap_syntax.specs.Verbs.{verb_of}
use Rattle.imap_syntax.specs.Commands.{good, bad, meaning_of, behind_tag, arguments_at, one_name, uid_at, search_at, charset_at}
use Rattle.imap_syntax.specs.declared.command.Command.TheVariants as commands
use Rattle.imap_syntax.specs.declared.key.Key as keys

no_tag : meaning_of [] [] ≡ bad (codes "*") NoTag
unfolding meaning_of tag_of
no_tag = refl

plus_in_the_tag : meaning_of (codes "a+ NOOP") [] ≡ bad (codes "*") NoTag
unfolding meaning_of tag_of
plus_in_the_tag = refl

no_command : meaning_of (codes "a") [] ≡ bad (codes "a") NoCommand
unfolding meaning_of tag_of behind_tag
no_command = refl

noop : meaning_of (codes "a nOOp") [] ≡ good (codes "a") commands.Noop
unfolding meaning_of tag_of behind_tag verb_of arguments_at
noop = refl

noop_with_text : meaning_of (codes "a NOOP x") [] ≡ bad (codes "a") TextBehind
unfolding meaning_of tag_of behind_tag verb_of arguments_at
noop_with_text = refl

unknown : meaning_of (codes "a FROB") [] ≡ bad (codes "a") UnknownCommand
unfolding meaning_of tag_of behind_tag verb_of
unknown = refl

nul_before_unknown : meaning_of (codes "a FROB" ++ 0 ∷ []) [] ≡ bad (codes "a") Nul
unfolding meaning_of tag_of
nul_before_unknown = refl

select_literal : meaning_of (codes "a SELECT {5}\r\n") (codes "INBOX" ∷ []) ≡ good (codes "a") (commands.Select (codes "INBOX"))
unfolding meaning_of tag_of behind_tag verb_of arguments_at one_name
select_literal = refl

select_nothing : meaning_of (codes "a SELECT") [] ≡ bad (codes "a") Missing
unfolding meaning_of tag_of behind_tag verb_of arguments_at one_name
select_nothing = refl

login : meaning_of (codes "a LOGIN(x") [] ≡ good (codes "a") (commands.Password (codes "LOGIN"))
unfolding meaning_of tag_of behind_tag verb_of arguments_at
login = refl

uid_search_unseen : meaning_of (codes "a uid search unseen") [] ≡ good (codes "a") (commands.Search true None keys.Unseen)
unfolding meaning_of tag_of behind_tag verb_of arguments_at uid_at search_at charset_at search_keys_at opening_of leaf_at token_at
uid_search_unseen = refl
