-- The definitions, computed on small values.
use Rattle.std.proofs.Common.{◌≡◌, [], ◌∷◌, Some, None, codes, refl}
use Rattle.std.specs.Fmt.{digits}
use Rattle.addr_list.specs.declared.address.Address.TheVariants.{Mailbox, GroupStart, GroupEnd}
use Rattle.structure_text.specs.Strings.{string_text}
use Rattle.structure_text.specs.Envelopes.{addresses_text}
use Rattle.structure_text.specs.Bodies.{params_text, languages_text}

quoted-example : string_text (codes "a b") ≡ codes "\"a b\""
unfolding string_text
quoted-example = refl

literal-example : string_text (codes "a\"b") ≡ codes "{3}\r\na\"b"
unfolding string_text digits
literal-example = refl

addresses-example : addresses_text (Mailbox (Some (codes "Lee, Cy")) None (codes "cy") (codes "example.org") ∷ []) ≡ codes "((\"Lee, Cy\" NIL \"cy\" \"example.org\"))"
unfolding addresses_text string_text
addresses-example = refl

group-example : addresses_text (GroupStart (codes "A") ∷ GroupEnd ∷ []) ≡ codes "((NIL NIL \"A\" NIL)(NIL NIL NIL NIL))"
unfolding addresses_text string_text
group-example = refl

params-example : params_text ((codes "charset", codes "utf-8") ∷ (codes "x", []) ∷ []) ≡ codes "(\"CHARSET\" \"utf-8\" \"X\" \"\")"
unfolding params_text string_text
params-example = refl

languages-example : languages_text (codes "en" ∷ codes "de" ∷ []) ≡ codes "(\"en\" \"de\")"
unfolding languages_text string_text
languages-example = refl
