-- What is told of a key holds over every text, and over what a key needs it holds as over the whole text.
use Rattle.std.proofs.Common.{◌≡◌, ◌≢◌, ℕ, ℤ, Bool, true, false, ◌||◌, ◌&&◌, not, List, [], ◌∷◌, Option, Some, None, IfSome, IsSome, map, refl, sym, ap, subst, ◌∙◌, codes}
use Rattle.std.proofs.lemmas.Bool.{false≢true, or_right, and_right}
use Rattle.std.specs.List.{list_all, list_any}
use Rattle.std.specs.Option.{option_map_or}
use Rattle.mail_fields.specs.Numbers.{◌>>=◌}
use Rattle.mail_fields.specs.FieldDate.{field_date_of}
use Rattle.mime_parts.specs.Contents.{text_of}
use Rattle.head_fields.specs.Header.{header_alone}
use Rattle.head_fields.specs.Fields.{readings_of}
use Rattle.head_fields.proofs.HeaderAlone.{header-of_alone}
use Rattle.text_lines.specs.Lines.{header_of}
use Rattle.imap_syntax.specs.declared.key.Key.{Key, roll-Key}
use Rattle.imap_syntax.specs.declared.key.Key.TheOpen as keys
use Rattle.imap_syntax.specs.declared.key.Key.TheOpen.{Key-F}
use Rattle.imap_syntax.specs.declared.key.Key.TheFolds.{ind-Key, fold-roll-Key, map-Key}
use Rattle.looked_message.specs.Messages.{LookedAt, with_text}
use Rattle.search_eval.specs.Keys.{key_row, key_holds, field_has, header_has, was_sent, is_before, is_on, is_since}
use Rattle.search_eval.specs.Needs.{greater_need, all_needs, need_row, key_need, IsNeedOf}
use Rattle.search_eval.specs.Told.{opposite_told, either_told, both_told, all_told, told_row, key_told}
use Rattle.search_eval.specs.declared.largest.Largest.{Largest}
use Rattle.search_eval.specs.declared.need.KeyNeed.{KeyNeed}
use Rattle.search_eval.specs.declared.need.KeyNeed.TheVariants.{Nothing, Header, Text}

-- ---- The three needs

abbrev is_nothing : KeyNeed → Bool
is_nothing Nothing = true
is_nothing Header = false
is_nothing Text = false

abbrev is_text : KeyNeed → Bool
is_text Nothing = false
is_text Header = false
is_text Text = true

some : (need : KeyNeed) → is_nothing need ≡ false → need ≢ Nothing
some need is none = false≢true (sym is ∙ ap is_nothing none)

less : (need : KeyNeed) → is_text need ≡ false → need ≢ Text
less need is all = false≢true (sym is ∙ ap is_text all)

both-nothing : (one other : KeyNeed) → greater_need one other ≡ Nothing → (one ≡ Nothing) × (other ≡ Nothing)
both-nothing Nothing other none = (refl, none)
both-nothing Header Nothing none = absurd (some Header refl none)
both-nothing Header Header none = absurd (some Header refl none)
both-nothing Header Text none = absurd (some Text refl none)
both-nothing Text other none = absurd (some Text refl none)

both-less : (one other : KeyNeed) → greater_need one other ≢ Text → (one ≢ Text) × (other ≢ Text)
both-less Nothing other part = (less Nothing refl, part)
both-less Header Nothing part = (less Header refl, less Nothing refl)
both-less Header Header part = (less Header refl, less Header refl)
both-less Header Text part = absurd (part refl)
both-less Text other part = absurd (part refl)

-- ---- What is told of an answer

abbrev Agrees : Option Bool → Bool → Type 0
Agrees told holds = IfSome told (λ is. holds ≡ is)

opposite-agrees : (told : Option Bool) (holds : Bool) → Agrees told holds → Agrees (opposite_told told) (not holds)
opposite-agrees None holds is = tt
opposite-agrees (Some told) holds is = ap not is

either-agrees : (a b : Option Bool) (x y : Bool) → Agrees a x → Agrees b y → Agrees (either_told a b) (x || y)
either-agrees (Some true) b x y is too = ap (λ z. z || y) is
either-agrees (Some false) None x y is too = tt
either-agrees (Some false) (Some holds) x y is too = ap (λ z. z || y) is ∙ too
either-agrees None (Some true) x y is too = or_right x y too
either-agrees None (Some false) x y is too = tt
either-agrees None None x y is too = tt

both-agrees : (a b : Option Bool) (x y : Bool) → Agrees a x → Agrees b y → Agrees (both_told a b) (x && y)
both-agrees (Some false) b x y is too = ap (λ z. z && y) is
both-agrees (Some true) None x y is too = tt
both-agrees (Some true) (Some holds) x y is too = ap (λ z. z && y) is ∙ too
both-agrees None (Some false) x y is too = and_right x y too
both-agrees None (Some true) x y is too = tt
both-agrees None None x y is too = tt

opposite-some : (told : Option Bool) → IsSome told → IsSome (opposite_told told)
opposite-some None is = is
opposite-some (Some told) is = refl

either-some : (a b : Option Bool) → IsSome a → IsSome b → IsSome (either_told a b)
either-some None b is too = absurd (false≢true is)
either-some (Some true) b is too = refl
either-some (Some false) b is too = too

both-some : (a b : Option Bool) → IsSome a → IsSome b → IsSome (both_told a b)
both-some None b is too = absurd (false≢true is)
both-some (Some true) b is too = too
both-some (Some false) b is too = refl

-- ---- The laws of what is told, what is needed, and what holds over a text

pub record Fits (whole : List ℕ) (told : Option Bool) (need : KeyNeed) (over : List ℕ → Bool) : Type 0 where
  pub agrees : (text : List ℕ) → Agrees told (over text)
  pub sure : need ≡ Nothing → IsSome told
  pub header : need ≢ Text → over (header_alone whole) ≡ over whole

module _ (whole : List ℕ) where
  plain : (holds : Bool) → Fits whole (Some holds) Nothing (λ text. holds)
  plain holds = record { agrees = λ text. refl; sure = λ none. refl; header = λ part. refl }

  headed : (test : List (List ℕ × List ℕ) → Bool) → Fits whole None Header (λ text. test (readings_of (header_of text)))
  headed test = record { agrees = λ text. tt; sure = λ none. absurd (some Header refl none); header = λ part. ap (λ lines. test (readings_of lines)) (header-of_alone whole) }

  textual : (over : List ℕ → Bool) → Fits whole None Text over
  textual over = record { agrees = λ text. tt; sure = λ none. absurd (some Text refl none); header = λ part. absurd (part refl) }

  opposite : (told : Option Bool) (need : KeyNeed) (over : List ℕ → Bool) → Fits whole told need over → Fits whole (opposite_told told) need (λ text. not (over text))
  opposite told need over fits = record {
    agrees = λ text. opposite-agrees told (over text) (fits.agrees text);
    sure = λ none. opposite-some told (fits.sure none);
    header = λ part. ap not (fits.header part);
  }

  joined : (join : Option Bool → Option Bool → Option Bool) (of : Bool → Bool → Bool)
      → ((a b : Option Bool) (x y : Bool) → Agrees a x → Agrees b y → Agrees (join a b) (of x y))
      → ((a b : Option Bool) → IsSome a → IsSome b → IsSome (join a b))
      → (a b : Option Bool) (one other : KeyNeed) (f g : List ℕ → Bool) → Fits whole a one f → Fits whole b other g
      → Fits whole (join a b) (greater_need one other) (λ text. of (f text) (g text))
  joined join of agree surely a b one other f g fits too = record {
    agrees = λ text. agree a b (f text) (g text) (fits.agrees text) (too.agrees text);
    sure = λ none. let parts = both-nothing one other none in surely a b (fits.sure parts.0) (too.sure parts.1);
    header = λ part. let parts = both-less one other part in ap (λ x. of x (g (header_alone whole))) (fits.header parts.0) ∙ ap (of (f whole)) (too.header parts.1);
  }

-- ---- The laws of keys

module _ (largest : Largest) (m : LookedAt) where
  HasLaws : Key → Type 0
  HasLaws key = Fits m.text (key_told largest m key) (key_need key) (λ text. key_holds largest (with_text m text) key)

  rolled : (x : Key-F Key)
      → Fits m.text (told_row largest m (map-Key Key (Option Bool) (key_told largest m) x)) (need_row (map-Key Key KeyNeed key_need x))
      (λ text. key_row largest (with_text m text) (map-Key Key Bool (key_holds largest (with_text m text)) x))
      → HasLaws (roll-Key x)
  unfolding HasLaws
  rolled x fits = record {
    agrees = λ text. subst (λ told. Agrees told (key_holds largest (with_text m text) (roll-Key x))) (sym (fold-roll-Key (Option Bool) (told_row largest m) x))
        (subst (Agrees _) (sym (fold-roll-Key Bool (key_row largest (with_text m text)) x)) (fits.agrees text));
    sure = λ none. subst IsSome (sym (fold-roll-Key (Option Bool) (told_row largest m) x)) (fits.sure (sym (fold-roll-Key KeyNeed need_row x) ∙ none));
    header = λ part. fold-roll-Key Bool (key_row largest (with_text m (header_alone m.text))) x
        ∙ fits.header (λ all. part (fold-roll-Key KeyNeed need_row x ∙ all))
        ∙ sym (fold-roll-Key Bool (key_row largest m) x);
  }

  all-laws : (all : List ((key : Key) × HasLaws key))
      → Fits m.text (all_told (map (key_told largest m) (map (λ e. e.0) all))) (all_needs (map key_need (map (λ e. e.0) all)))
      (λ text. list_all (λ b. b) (map (key_holds largest (with_text m text)) (map (λ e. e.0) all)))
  unfolding HasLaws
  all-laws [] = plain m.text true
  all-laws (first ∷ more) = joined m.text both_told (λ a b. a && b) both-agrees both-some _ _ _ _ _ _ first.1 (all-laws more)

  -- the fields and the date
  named : (name string : List ℕ) → Fits m.text None Header (λ text. header_has name string text)
  named name string = headed m.text (list_any (field_has name string))

  dated : (test : ℤ → Bool) → Fits m.text None Header (λ text. was_sent test text)
  dated test = headed m.text (λ fields. option_map_or test (text_of (codes "Date") fields >>= field_date_of) false)

  row-laws : (y : Key-F ((key : Key) × HasLaws key)) → HasLaws (roll-Key (map-Key ((key : Key) × HasLaws key) Key (λ e. e.0) y))
  unfolding HasLaws
  row-laws (keys.Bcc string) = rolled (keys.Bcc string) (named (codes "Bcc") string)
  row-laws (keys.Cc string) = rolled (keys.Cc string) (named (codes "Cc") string)
  row-laws (keys.From string) = rolled (keys.From string) (named (codes "From") string)
  row-laws (keys.Subject string) = rolled (keys.Subject string) (named (codes "Subject") string)
  row-laws (keys.To string) = rolled (keys.To string) (named (codes "To") string)
  row-laws (keys.Header name string) = rolled (keys.Header name string) (named name string)
  row-laws (keys.SentBefore day) = rolled (keys.SentBefore day) (dated (is_before day))
  row-laws (keys.SentOn day) = rolled (keys.SentOn day) (dated (is_on day))
  row-laws (keys.SentSince day) = rolled (keys.SentSince day) (dated (is_since day))
  row-laws (keys.Body string) = rolled (keys.Body string) (textual m.text _)
  row-laws (keys.Text string) = rolled (keys.Text string) (textual m.text _)
  row-laws (keys.Not inner) = rolled (keys.Not inner.0) (opposite m.text _ _ _ inner.1)
  row-laws (keys.Or one other) = rolled (keys.Or one.0 other.0) (joined m.text either_told (λ a b. a || b) either-agrees either-some _ _ _ _ _ _ one.1 other.1)
  row-laws (keys.AllOf all) = rolled (keys.AllOf (map (λ e. e.0) all)) (all-laws all)
  row-laws y = rolled (map-Key ((key : Key) × HasLaws key) Key (λ e. e.0) y) (plain m.text _)

  pub has_laws : (key : Key) → Fits m.text (key_told largest m key) (key_need key) (λ text. key_holds largest (with_text m text) key)
  unfolding HasLaws
  has_laws = ind-Key HasLaws (λ x y is. subst (λ z. HasLaws (roll-Key z)) is (row-laws y))

told-same : (told : Option Bool) (x y : Bool) → IsSome told → Agrees told x → Agrees told y → x ≡ y
told-same None x y is one other = absurd (false≢true is)
told-same (Some told) x y is one other = one ∙ sym other

pub has_need : (largest : Largest) (key : Key) → IsNeedOf (λ m. key_holds largest m key) (key_need key)
has_need largest key = record {
  nothing = λ none m text. let laws = has_laws largest m key in told-same _ _ _ (laws.sure none) (laws.agrees text) (laws.agrees m.text);
  header = λ part m. (has_laws largest m key).header part;
}
