-- A text has one reading at most.
use Rattle.std.proofs.Common.{◌≡◌, ◌∙◌, ℕ, suc, ◌+◌, ◌-◌, ◌<◌, false, List, [], ◌∷◌, ◌++◌, Some, None, length, take, drop, refl, ap, sym, subst, arith}
use Rattle.std.proofs.lemmas.List.{append_assoc, append-nil, length-append, take_at, drop_at, take_rest}
use Rattle.std.proofs.lemmas.Option.{none-some, same_Some}
use Rattle.addr_list.specs.Addresses.{unquoted}
use Rattle.addr_list.specs.Tokens.{IsQuotedText}
use Rattle.addr_list.specs.Scanning.{quotes_len}
use Rattle.addr_list.proofs.Strings.{quotes-found, quotes-read}
use Rattle.mime_parts.specs.Values.{IsSkipped, IsMark, BeginsMark, BeginsToken, HasNoMark, HasNoToken, EndsQuoted, HasNoEnd, BeginsValue, token_value, quoted_value, HasNoValue, BeginsParameter, HasNoParameter, HasParameters, ends, next, IsMedia, IsNoMedia, IsDisposition, IsNoDisposition, AreLanguages, last, comma, AreNoLanguages}
use Rattle.mime_parts.proofs.Skips.{token-same, mark-same, mark-not_token, mark-not_skipped}

-- the bytes that stand between tokens here
pub quote-mark : IsMark 34
quote-mark = record { dark = refl; no_comment = refl }

pub semicolon-mark : IsMark 59
semicolon-mark = record { dark = refl; no_comment = refl }

pub equals-mark : IsMark 61
equals-mark = record { dark = refl; no_comment = refl }

pub slash-mark : IsMark 47
slash-mark = record { dark = refl; no_comment = refl }

pub comma-mark : IsMark 44
comma-mark = record { dark = refl; no_comment = refl }

-- a quoted value
pub quoted-same : (text value rest other later : List ℕ) → EndsQuoted text value rest → EndsQuoted text other later → (other ≡ value) × (later ≡ rest)
quoted-same text value rest other later is too =
    let found : (inner after : List ℕ) → IsQuotedText inner → text ≡ inner ++ 34 ∷ after → quotes_len false text ≡ Some (length inner) = λ inner after quoted e. ap (quotes_len false) e ∙ quotes-found inner after quoted in
    let long : length too.inner ≡ length is.inner = same_Some _ _ (sym (found too.inner later too.is_text too.whole) ∙ found is.inner rest is.is_text is.whole) in
    let both = sym too.whole ∙ is.whole in
    let same : too.inner ≡ is.inner = sym (take_at too.inner (34 ∷ later) (length too.inner) refl) ∙ ap (take (length too.inner)) both ∙ ap (λ n. take n (is.inner ++ 34 ∷ rest)) long ∙ take_at is.inner (34 ∷ rest) (length is.inner) refl in
    let behind : 34 ∷ later ≡ 34 ∷ rest = sym (drop_at too.inner (34 ∷ later) (length too.inner) refl) ∙ ap (drop (length too.inner)) both ∙ ap (λ n. drop n (is.inner ++ 34 ∷ rest)) long ∙ drop_at is.inner (34 ∷ rest) (length is.inner) refl in
    (too.meant ∙ ap unquoted same ∙ sym is.meant, ap (drop 1) behind)

pub quoted-found : (text value : List ℕ) (n : ℕ) → quotes_len false text ≡ Some n → value ≡ unquoted (take n text) → EndsQuoted text value (take (length text - (n + 1)) (drop (n + 1) text))
quoted-found text value n is meant =
    let read = quotes-read text n is in
    let next_one : suc n ≡ n + 1 = omega arith in
    record { inner = take n text; is_text = read.0; whole = read.1 ∙ ap (λ k. take n text ++ 34 ∷ drop k text) next_one ∙ ap (λ t. take n text ++ 34 ∷ t) (sym (take_rest text (n + 1))); meant = meant }

pub quoted-none : (text : List ℕ) → quotes_len false text ≡ None → HasNoEnd text
quoted-none text none value rest is = none-some (length is.inner) (sym none ∙ ap (quotes_len false) is.whole ∙ quotes-found is.inner rest is.is_text)

-- a value
pub value-same : (text value rest other later : List ℕ) → BeginsValue text value rest → BeginsValue text other later → (other ≡ value) × (later ≡ rest)
value-same _ _ _ other later (token_value text value rest is) too = over text other later too is
  where
    over : (text other later : List ℕ) → BeginsValue text other later → BeginsToken text value rest → (other ≡ value) × (later ≡ rest)
    over _ _ _ (token_value text other later too) is = token-same text value rest is other later too
    over _ _ _ (quoted_value text behind other later mark quoted) is = absurd (mark-not_token 34 quote-mark text behind mark refl value rest is)
value-same _ _ _ other later (quoted_value text behind value rest mark quoted) too = over text other later too mark
  where
    over : (text other later : List ℕ) → BeginsValue text other later → BeginsMark 34 text behind → (other ≡ value) × (later ≡ rest)
    over _ _ _ (token_value text other later too) mark = absurd (mark-not_token 34 quote-mark text behind mark refl other later too)
    over _ _ _ (quoted_value text after other later mark_too quoted_too) mark =
        quoted-same behind value rest other later quoted (subst (λ t. EndsQuoted t other later) (mark-same 34 quote-mark text behind mark after mark_too) quoted_too)

pub value-unended : (text behind : List ℕ) → BeginsMark 34 text behind → HasNoEnd behind → HasNoValue text
value-unended text behind mark none value rest is = over text value rest is mark
  where
    over : (text value rest : List ℕ) → BeginsValue text value rest → BeginsMark 34 text behind → ⊥
    over _ _ _ (token_value text value rest is) mark = mark-not_token 34 quote-mark text behind mark refl value rest is
    over _ _ _ (quoted_value text after value rest mark_too quoted) mark =
        none value rest (subst (λ t. EndsQuoted t value rest) (mark-same 34 quote-mark text behind mark after mark_too) quoted)

pub value-none : (text : List ℕ) → HasNoMark 34 text → HasNoToken text → HasNoValue text
value-none _ no_mark no_token _ _ (token_value text value rest is) = no_token value rest is
value-none _ no_mark no_token _ _ (quoted_value text behind value rest mark quoted) = no_mark behind mark

-- a parameter
module _ (text : List ℕ) where
  pub parameter-unbegun : HasNoMark 59 text → HasNoParameter text
  parameter-unbegun none name value rest is = none is.behind is.begins

  module _ (behind : List ℕ) (begins : BeginsMark 59 text behind) where
    begun : (name value rest : List ℕ) → (is : BeginsParameter text name value rest) → BeginsToken behind name is.between
    begun name value rest is = subst (λ t. BeginsToken t name is.between) (mark-same 59 semicolon-mark text behind begins is.behind is.begins) is.is_name

    pub parameter-unnamed : HasNoToken behind → HasNoParameter text
    parameter-unnamed none name value rest is = none name is.between (begun name value rest is)

    module _ (name between : List ℕ) (is_name : BeginsToken behind name between) where
      named : (other value rest : List ℕ) → (is : BeginsParameter text other value rest) → (other ≡ name) × (is.between ≡ between)
      named other value rest is = token-same behind name between is_name other is.between (begun other value rest is)

      equals_too : (other value rest : List ℕ) → (is : BeginsParameter text other value rest) → BeginsMark 61 between is.after
      equals_too other value rest is = subst (λ t. BeginsMark 61 t is.after) (named other value rest is).1 is.equals

      pub parameter-unequal : HasNoMark 61 between → HasNoParameter text
      parameter-unequal none other value rest is = none is.after (equals_too other value rest is)

      module _ (after : List ℕ) (equals : BeginsMark 61 between after) where
        valued : (other value rest : List ℕ) → (is : BeginsParameter text other value rest) → BeginsValue after value rest
        valued other value rest is = subst (λ t. BeginsValue t value rest) (mark-same 61 equals-mark between after equals is.after (equals_too other value rest is)) is.is_value

        pub parameter-unvalued : HasNoValue after → HasNoParameter text
        parameter-unvalued none other value rest is = none value rest (valued other value rest is)

        pub parameter-found : (value rest : List ℕ) → BeginsValue after value rest → BeginsParameter text name value rest
        parameter-found value rest is = record { behind = behind; between = between; after = after; begins = begins; is_name = is_name; equals = equals; is_value = is }

pub parameter-same : (text name value rest other meant later : List ℕ) → BeginsParameter text name value rest → BeginsParameter text other meant later → (other ≡ name) × (meant ≡ value) × (later ≡ rest)
parameter-same text name value rest other meant later is too =
    let names = named text is.behind is.begins name is.between is.is_name other meant later too in
    let values = value-same is.after value rest meant later is.is_value (valued text is.behind is.begins name is.between is.is_name is.after is.equals other meant later too) in
    (names.0, values.0, values.1)

-- what stands behind is shorter
pub mark-shorter : (b : ℕ) (text rest : List ℕ) → BeginsMark b text rest → length rest < length text
mark-shorter b text rest is =
    let whole = ap length is.whole in
    let joined = length-append is.before (b ∷ rest) in
    omega arith

pub token-shorter : (text token rest : List ℕ) → BeginsToken text token rest → length rest < length text
token-shorter text token rest is =
    let whole = ap length is.whole in
    let joined = length-append is.before (token ++ rest) in
    let joined_too = length-append token rest in
    let some = is.is_token.some in
    omega arith

value-shorter : (text value rest : List ℕ) → BeginsValue text value rest → length rest < length text
value-shorter _ _ _ (token_value text value rest is) = token-shorter text value rest is
value-shorter _ _ _ (quoted_value text behind value rest mark quoted) =
    let first = mark-shorter 34 text behind mark in
    let whole = ap length quoted.whole in
    let joined = length-append quoted.inner (34 ∷ rest) in
    omega arith

pub parameter-shorter : (text name value rest : List ℕ) → BeginsParameter text name value rest → length rest < length text
parameter-shorter text name value rest is =
    let a = mark-shorter 59 text is.behind is.begins in
    let b = token-shorter is.behind name is.between is.is_name in
    let c = mark-shorter 61 is.between is.after is.equals in
    let d = value-shorter is.after value rest is.is_value in
    omega arith

-- parameters
pub parameters-same : (text : List ℕ) (params other : List (List ℕ × List ℕ)) → HasParameters text params → HasParameters text other → other ≡ params
parameters-same _ _ other (ends text none) too = over text other too none
  where
    over : (text : List ℕ) (other : List (List ℕ × List ℕ)) → HasParameters text other → HasNoParameter text → other ≡ []
    over _ _ (ends text none_too) none = refl
    over _ _ (next text name value rest more is has) none = absurd (none name value rest is)
parameters-same _ _ other (next text name value rest more is has) too = over text other too is (λ later_more has_too. parameters-same rest more later_more has has_too)
  where
    over : (text : List ℕ) (other : List (List ℕ × List ℕ)) → HasParameters text other → BeginsParameter text name value rest
        → ((later_more : List (List ℕ × List ℕ)) → HasParameters rest later_more → later_more ≡ more) → other ≡ (name, value) ∷ more
    over _ _ (ends text none) is same_later = absurd (none name value rest is)
    over _ _ (next text name_too value_too later later_more is_too has_too) is same_later =
        let same = parameter-same text name value rest name_too value_too later is is_too in
        let rest_same = same_later later_more (subst (λ t. HasParameters t later_more) same.2 has_too) in
        (λ i. (same.0 i, same.1 i) ∷ rest_same i)

-- these parameters are read, and a text is left
abbrev pub Leaves : List ℕ → List (List ℕ × List ℕ) → List ℕ → Type 0
Leaves text done left = (more : List (List ℕ × List ℕ)) → HasParameters left more → HasParameters text (done ++ more)

pub leaves-next : (text left name value rest : List ℕ) (done : List (List ℕ × List ℕ)) → Leaves text done left → BeginsParameter left name value rest → Leaves text (done ++ (name, value) ∷ []) rest
leaves-next text left name value rest done leaves is more has =
    subst (λ ps. HasParameters text ps) (sym (append_assoc done ((name, value) ∷ []) more)) (leaves ((name, value) ∷ more) (next left name value rest more is has))

pub leaves-ends : (text left : List ℕ) (done : List (List ℕ × List ℕ)) → Leaves text done left → HasNoParameter left → HasParameters text done
leaves-ends text left done leaves none = subst (λ ps. HasParameters text ps) (append-nil done) (leaves [] (ends left none))

-- a media type, a disposition
module _ (value : List ℕ) where
  pub media-unkind : HasNoToken value → IsNoMedia value
  media-unkind none kind subkind params is = none kind is.between is.is_kind

  module _ (kind between : List ℕ) (is_kind : BeginsToken value kind between) where
    slashed : (other subkind : List ℕ) (params : List (List ℕ × List ℕ)) → (is : IsMedia value other subkind params) → BeginsMark 47 between is.behind
    slashed other subkind params is = subst (λ t. BeginsMark 47 t is.behind) (token-same value kind between is_kind other is.between is.is_kind).1 is.slash

    pub media-unslashed : HasNoMark 47 between → IsNoMedia value
    media-unslashed none other subkind params is = none is.behind (slashed other subkind params is)

    module _ (behind : List ℕ) (slash : BeginsMark 47 between behind) where
      subkinds : (other subkind : List ℕ) (params : List (List ℕ × List ℕ)) → (is : IsMedia value other subkind params) → BeginsToken behind subkind is.rest
      subkinds other subkind params is = subst (λ t. BeginsToken t subkind is.rest) (mark-same 47 slash-mark between behind slash is.behind (slashed other subkind params is)) is.is_subkind

      pub media-unsubkind : HasNoToken behind → IsNoMedia value
      media-unsubkind none other subkind params is = none subkind is.rest (subkinds other subkind params is)

      pub media-found : (subkind rest : List ℕ) (params : List (List ℕ × List ℕ)) → BeginsToken behind subkind rest → HasParameters rest params → IsMedia value kind subkind params
      media-found subkind rest params is has =
          record { between = between; behind = behind; rest = rest; is_kind = is_kind; slash = slash; is_subkind = is; is_params = has }

  pub media-same : (kind subkind other other_sub : List ℕ) (params other_params : List (List ℕ × List ℕ)) → IsMedia value kind subkind params → IsMedia value other other_sub other_params
      → (other ≡ kind) × (other_sub ≡ subkind) × (other_params ≡ params)
  media-same kind subkind other other_sub params other_params is too =
      let kinds = token-same value kind is.between is.is_kind other too.between too.is_kind in
      let subs = token-same is.behind subkind is.rest is.is_subkind other_sub too.rest (subkinds kind is.between is.is_kind is.behind is.slash other other_sub other_params too) in
      (kinds.0, subs.0, parameters-same is.rest params other_params is.is_params (subst (λ t. HasParameters t other_params) subs.1 too.is_params))

  pub disposition-unkind : HasNoToken value → IsNoDisposition value
  disposition-unkind none kind params is = none kind is.rest is.is_kind

  pub disposition-same : (kind other : List ℕ) (params other_params : List (List ℕ × List ℕ)) → IsDisposition value kind params → IsDisposition value other other_params → (other ≡ kind) × (other_params ≡ params)
  disposition-same kind other params other_params is too =
      let kinds = token-same value kind is.rest is.is_kind other too.rest too.is_kind in
      (kinds.0, parameters-same is.rest params other_params is.is_params (subst (λ t. HasParameters t other_params) kinds.1 too.is_params))

-- languages behind a token and a comma
behind-comma : (text token behind later : List ℕ) → BeginsToken text token behind → BeginsMark 44 behind later → (tokens : List (List ℕ)) → AreLanguages text tokens
    → (more : List (List ℕ)) × AreLanguages later more × (tokens ≡ token ∷ more)
behind-comma text token behind later is mark tokens are = over text tokens are is
  where
    over : (text : List ℕ) (tokens : List (List ℕ)) → AreLanguages text tokens → BeginsToken text token behind → (more : List (List ℕ)) × AreLanguages later more × (tokens ≡ token ∷ more)
    over _ _ (last text other after too skipped) is =
        absurd (mark-not_skipped 44 comma-mark behind later mark (subst IsSkipped (token-same text token behind is other after too).1 skipped))
    over _ _ (comma text other after rest more too mark_too are) is =
        let same = token-same text token behind is other after too in
        let rest_same = mark-same 44 comma-mark behind later mark rest (subst (λ t. BeginsMark 44 t rest) same.1 mark_too) in
        (more, subst (λ t. AreLanguages t more) rest_same are, ap (λ t. t ∷ more) same.0)

-- languages behind a last token
behind-last : (text token behind : List ℕ) → BeginsToken text token behind → HasNoMark 44 behind → (tokens : List (List ℕ)) → AreLanguages text tokens → IsSkipped behind × (tokens ≡ token ∷ [])
behind-last text token behind is none tokens are = over text tokens are is
  where
    over : (text : List ℕ) (tokens : List (List ℕ)) → AreLanguages text tokens → BeginsToken text token behind → IsSkipped behind × (tokens ≡ token ∷ [])
    over _ _ (last text other after too skipped) is =
        let same = token-same text token behind is other after too in (subst IsSkipped same.1 skipped, ap (λ t. t ∷ []) same.0)
    over _ _ (comma text other after rest more too mark are) is =
        absurd (none rest (subst (λ t. BeginsMark 44 t rest) (token-same text token behind is other after too).1 mark))

languages-token : (text : List ℕ) → HasNoToken text → AreNoLanguages text
languages-token _ none _ (last text token behind is skipped) = none token behind is
languages-token _ none _ (comma text token behind rest more is mark are) = none token behind is

skipped-no_mark : (behind : List ℕ) → IsSkipped behind → HasNoMark 44 behind
skipped-no_mark behind skipped rest mark = mark-not_skipped 44 comma-mark behind rest mark skipped

pub languages-same : (text : List ℕ) (tokens other : List (List ℕ)) → AreLanguages text tokens → AreLanguages text other → other ≡ tokens
languages-same _ _ other (last text token behind is skipped) too = (behind-last text token behind is (skipped-no_mark behind skipped) other too).1
languages-same _ _ other (comma text token behind rest more is mark are) too =
    let found = behind-comma text token behind rest is mark other too in
    found.2 ∙ ap (λ ts. token ∷ ts) (languages-same rest more found.0 are found.1)

-- these languages are read, and a text is left
pub record Continues (text : List ℕ) (done : List (List ℕ)) (left : List ℕ) : Type 0 where
  pub sound : (more : List (List ℕ)) → AreLanguages left more → AreLanguages text (done ++ more)
  pub complete : (tokens : List (List ℕ)) → AreLanguages text tokens → (more : List (List ℕ)) × AreLanguages left more

pub continues-first : (text : List ℕ) → Continues text [] text
continues-first text = record { sound = λ more are. are; complete = λ tokens are. (tokens, are) }

module _ (text left : List ℕ) (done : List (List ℕ)) (continues : Continues text done left) where
  pub languages-untold : HasNoToken left → AreNoLanguages text
  languages-untold none tokens are = let later = continues.complete tokens are in languages-token left none later.0 later.1

  module _ (token behind : List ℕ) (is : BeginsToken left token behind) where
    pub languages-next : (later : List ℕ) → BeginsMark 44 behind later → Continues text (done ++ token ∷ []) later
    languages-next later mark = record {
      sound = λ more are. subst (λ ts. AreLanguages text ts) (sym (append_assoc done (token ∷ []) more)) (continues.sound (token ∷ more) (comma left token behind later more is mark are));
      complete = λ tokens are.
          let read = continues.complete tokens are in
          let found = behind-comma left token behind later is mark read.0 read.1 in
          (found.0, found.1);
    }

    pub languages-end : IsSkipped behind → AreLanguages text (done ++ token ∷ [])
    languages-end skipped = continues.sound (token ∷ []) (last left token behind is skipped)

    pub languages-broken : HasNoMark 44 behind → (IsSkipped behind → ⊥) → AreNoLanguages text
    languages-broken none dark tokens are =
        let read = continues.complete tokens are in
        dark (behind-last left token behind is none read.0 read.1).0

pub language-shorter : (text token behind later : List ℕ) → BeginsToken text token behind → BeginsMark 44 behind later → length later < length text
language-shorter text token behind later is mark =
    let a = token-shorter text token behind is in
    let b = mark-shorter 44 behind later mark in
    omega arith
