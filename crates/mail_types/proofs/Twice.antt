-- Limiting twice gives the same as once.
use Rattle.std.proofs.Common.{◌≡◌, ◌≤ℤ◌, ◌<◌, ◌+◌, ◌-◌, ◌*◌, ◌/◌, ◌%◌, ◌^◌, ◌+ℤ◌, ◌-ℤ◌, ◌&&◌, ℤ, ℕ, pos, negsuc, neg_ℤ, Bool, true, false, cond, int_lt, List, refl, sym, ap, ◌∙◌, arith}
use Rattle.std.proofs.Math.Nat.{mod-mod}
use Rattle.mail_fields.specs.declared.stamp.Stamp.{Stamp}
use Rattle.mail_fields.specs.Stamps.{StampParts, parts_of, utc, clamped, seconds_into, first_stamp, last_stamp}
use Rattle.text_forms.proofs.Idempotent.{exact_form_twice, lines_form_twice, unix_form_twice, mmdf_form_twice}
use Rattle.mail_types.specs.declared.driver.DateKeep.{DateKeep}
use Rattle.mail_types.specs.declared.driver.DateKeep.TheVariants.{Zone, Second, Epoch}
use Rattle.mail_types.specs.declared.driver.TextKeep.{TextKeep}
use Rattle.mail_types.specs.declared.driver.TextKeep.TheVariants.{Exact, Lines, Unix, Mmdf}
use Rattle.mail_types.specs.declared.driver.Keeps.{Keeps}
use Rattle.mail_types.specs.declared.flags.Flags.{Flags}
use Rattle.mail_types.specs.declared.message.Record.{Record}
use Rattle.mail_types.specs.Flags.{flags_in_both}
use Rattle.mail_types.specs.Keeping.{text_in_form, stamp_in_form, words_below, take_record, kept_record, IsInForm}
use Rattle.mail_types.specs.Stamps.{utc_is}
use Rattle.mail_types.proofs.Stamps.{same_stamp}

text_twice : (form : TextKeep) (text : List ℕ) → text_in_form form (text_in_form form text) ≡ text_in_form form text
text_twice Exact text = exact_form_twice text
text_twice Lines text = lines_form_twice text
text_twice Unix text = unix_form_twice text
text_twice Mmdf text = mmdf_form_twice text

-- a stamp in UTC stays
clamped_stays : (day : ℤ) (second : ℕ) → neg_ℤ (pos 719528) ≤ℤ day → day ≤ℤ pos 2932896
    → clamped (record { day = day; second = second; zone_minutes = pos 0 }) ≡ record { day = day; second = second; zone_minutes = pos 0 }
unfolding clamped
clamped_stays day second low high =
    let early : int_lt day (negsuc 719527) ≡ false = grind arith in
    let late : int_lt (pos 2932896) day ≡ false = grind arith in
    rw (early, late) refl

utc_stays : (day : ℤ) (second : ℕ) → second < 86400 → neg_ℤ (pos 719528) ≤ℤ day → day ≤ℤ pos 2932896
    → utc (record { day = day; second = second; zone_minutes = pos 0 }) ≡ record { day = day; second = second; zone_minutes = pos 0 }
unfolding utc seconds_into
utc_stays day second small low high =
    let days : (86400 + second - 60 * 0) / 86400 ≡ 1 = omega (arith, small) in
    let rest : (86400 + second - 60 * 0) % 86400 ≡ second = omega (arith, small) in
    let back : day -ℤ pos 1 +ℤ pos 1 ≡ day = grind arith in
    ap (λ n. clamped (record { day = day -ℤ pos 1 +ℤ pos n; second = (86400 + second - 60 * 0) % 86400; zone_minutes = pos 0 })) days
    ∙ ap (λ n. clamped (record { day = day -ℤ pos 1 +ℤ pos 1; second = n; zone_minutes = pos 0 })) rest
    ∙ ap (λ d. clamped (record { day = d; second = second; zone_minutes = pos 0 })) back
    ∙ clamped_stays day second low high

clamped_zone : (p : StampParts) → p.zone_minutes ≡ pos 0 → (clamped p).zone_minutes ≡ pos 0
unfolding clamped
clamped_zone p is = elim (int_lt p.day (negsuc 719527)) as (λ a. (cond a first_stamp (cond (int_lt (pos 2932896) p.day) last_stamp p)).zone_minutes ≡ pos 0)
    [ true ↦ refl | false ↦ elim (int_lt (pos 2932896) p.day) as (λ b. (cond b last_stamp p).zone_minutes ≡ pos 0) [ true ↦ refl | false ↦ is ] ]

-- its zone is UTC
pub utc_zone : (p : StampParts) → (utc p).zone_minutes ≡ pos 0
unfolding utc
utc_zone p = clamped_zone _ refl

pub utc_twice : (p : StampParts) → utc (utc p) ≡ utc p
utc_twice p =
    let is = utc_is p in
    let zone : utc p ≡ record { day = (utc p).day; second = (utc p).second; zone_minutes = pos 0 } =
    (λ k. record { day = (utc p).day; second = (utc p).second; zone_minutes = utc_zone p k }) in
    ap utc zone ∙ utc_stays (utc p).day (utc p).second is.second_in is.day_in.0 is.day_in.1 ∙ sym zone

stamp_twice : (form : DateKeep) (stamp : Stamp) → stamp_in_form form (stamp_in_form form stamp) ≡ stamp_in_form form stamp
stamp_twice Zone stamp = refl
stamp_twice Second stamp = same_stamp _ _ (utc_twice (parts_of stamp))
stamp_twice Epoch stamp = refl

number_twice : (has : Bool) (number : ℕ) → cond has (cond has number 0) 0 ≡ cond has number 0
number_twice true number = refl
number_twice false number = refl

words_twice : (n words : ℕ) → words_below n (words_below n words) ≡ words_below n words
words_twice n words = mod-mod words (2 ^ n)

and_twice : (a b : Bool) → ((a && b) && b) ≡ (a && b)
and_twice true true = refl
and_twice true false = refl
and_twice false b = refl

flags_twice : (one other : Flags) → flags_in_both (flags_in_both one other) other ≡ flags_in_both one other
flags_twice one other = λ k. record {
  seen = and_twice one.seen other.seen k;
  answered = and_twice one.answered other.answered k;
  flagged = and_twice one.flagged other.flagged k;
  deleted = and_twice one.deleted other.deleted k;
  draft = and_twice one.draft other.draft k;
  old = and_twice one.old other.old k;
}

pub take_twice : (keeps : Keeps) (r : Record) → take_record keeps (take_record keeps r) ≡ take_record keeps r
take_twice keeps r = λ k. record {
  uid = r.uid;
  text = text_twice keeps.text r.text k;
  stamp = stamp_twice keeps.date r.stamp k;
  flags = r.flags;
  words = words_twice keeps.words r.words k;
  number = number_twice keeps.numbers r.number k;
}

pub kept_of_taken : (keeps : Keeps) (r : Record) → kept_record keeps (take_record keeps r) ≡ kept_record keeps r
kept_of_taken keeps r = λ k. let taken = take_twice keeps r k in record taken { flags = flags_in_both taken.flags keeps.flags }

pub kept_twice : (keeps : Keeps) (r : Record) → kept_record keeps (kept_record keeps r) ≡ kept_record keeps r
kept_twice keeps r = λ k. record {
  uid = r.uid;
  text = text_twice keeps.text r.text k;
  stamp = stamp_twice keeps.date r.stamp k;
  flags = flags_twice r.flags keeps.flags k;
  words = words_twice keeps.words r.words k;
  number = number_twice keeps.numbers r.number k;
}

-- the same, of a record that is known to be so limited
pub taken_stays : (keeps : Keeps) (r taken : Record) → taken ≡ take_record keeps r → take_record keeps taken ≡ taken
taken_stays keeps r taken is = ap (take_record keeps) is ∙ take_twice keeps r ∙ sym is

pub kept_taken : (keeps : Keeps) (r taken : Record) → taken ≡ take_record keeps r → kept_record keeps taken ≡ kept_record keeps r
kept_taken keeps r taken is = ap (kept_record keeps) is ∙ kept_of_taken keeps r

pub kept_stays : (keeps : Keeps) (r kept : Record) → kept ≡ kept_record keeps r → kept_record keeps kept ≡ kept
kept_stays keeps r kept is = ap (kept_record keeps) is ∙ kept_twice keeps r ∙ sym is

-- what the driver declares passes unchanged
pub passes : (keeps : Keeps) (r kept : Record) → kept ≡ kept_record keeps r → IsInForm keeps r → kept ≡ r
passes keeps r kept is form = is ∙ (λ k. record { uid = r.uid; text = form.text k; stamp = form.stamp k; flags = form.flags k; words = form.words k; number = form.number k })
