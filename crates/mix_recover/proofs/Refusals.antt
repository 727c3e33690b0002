-- Texts are read one after the other.
use Rattle.std.proofs.Common.{◌≡◌, ℕ, ◌+◌, ◌≤◌, List, [], ◌∷◌, length, Bool, true, false, ◌||◌, Option, Some, None, refl, sym, ap, arith, codes}
use Rattle.std.specs.Prelude.{MatchOption}
use Rattle.std.proofs.Common.{Vec, Global}
use Rattle.file_model.specs.Disk.{seen}
use Rattle.file_model.specs.Histories.{World, History, Now}
use Rattle.file_model.specs.Images.{bytes_at, text_at}
use Rattle.file_model.specs.Paths.{child}
use Rattle.file_model.proofs.Runs.{now_weaker}
use Rattle.mix_recover.specs.declared.faults.MeansFault.{MeansFault}
use Rattle.mix_recover.specs.declared.faults.MeansFault.TheVariants.{IllFormed, TooLarge, Failed, Memory}
use Rattle.mix_recover.specs.declared.meaning.Texts.{Texts}
use Rattle.mix_recover.specs.Directories.{MixTexts, mix_texts_at}
use Rattle.mix_recover.specs.Meanings.{is_long}
use Rattle.mix_recover.specs.Readings.{texts_of, option_bytes}
use Rattle.mix_recover.specs.Reads.{RefusesLong, RefusesTexts, text_reads}

abbrev any_long : MixTexts → Bool
any_long texts = is_long texts.metadata || is_long texts.index || is_long texts.statuses

-- the refusal of one text is one of the three
refuse_by : (dir path : List ℕ) (fault : MeansFault) (old : History) → ((w : World) → is_long (bytes_at (seen w.disk) path) ≡ true → any_long (mix_texts_at (seen w.disk) dir) ≡ true)
    → RefusesLong path fault old → RefusesTexts dir fault old
refuse_by dir path Failed old on is = tt
refuse_by dir path Memory old on is = tt
refuse_by dir path (IllFormed n) old on is = (is.0, now_weaker _ _ on old is.1)
refuse_by dir path (TooLarge l) old on is = (is.0, now_weaker _ _ on old is.1)

or_second : (a b c : Bool) → b ≡ true → (a || b || c) ≡ true
or_second true b c is = refl
or_second false b c is = ap (λ b. b || c) is

or_third : (a b c : Bool) → c ≡ true → (a || b || c) ≡ true
or_third true b c is = refl
or_third false true c is = refl
or_third false false c is = is

pub refuse_metadata : (dir : List ℕ) (fault : MeansFault) (old : History) → RefusesLong (child dir (codes ".mixmeta")) fault old → RefusesTexts dir fault old
refuse_metadata dir fault old = refuse_by dir (child dir (codes ".mixmeta")) fault old (λ w is. ap (λ b. b || is_long (mix_texts_at (seen w.disk) dir).index || is_long (mix_texts_at (seen w.disk) dir).statuses) is)

pub refuse_index : (dir : List ℕ) (fault : MeansFault) (old : History) → RefusesLong (child dir (codes ".mixindex")) fault old → RefusesTexts dir fault old
refuse_index dir fault old = refuse_by dir (child dir (codes ".mixindex")) fault old (λ w is. or_second (is_long (mix_texts_at (seen w.disk) dir).metadata) _ _ is)

pub refuse_statuses : (dir : List ℕ) (fault : MeansFault) (old : History) → RefusesLong (child dir (codes ".mixstatus")) fault old → RefusesTexts dir fault old
refuse_statuses dir fault old = refuse_by dir (child dir (codes ".mixstatus")) fault old (λ w is. or_third (is_long (mix_texts_at (seen w.disk) dir).metadata) (is_long (mix_texts_at (seen w.disk) dir).index) _ is)

-- ---- Bytes read

abbrev pub Reads : List ℕ → ℕ → ℕ → History → Type 0
Reads path before after h = Now h (λ w. after ≤ before + length (text_at (seen w.disk) path))

abbrev pub ReadsTexts : List ℕ → ℕ → ℕ → History → Type 0
ReadsTexts dir before after h = Now h (λ w. after ≤ before + text_reads (mix_texts_at (seen w.disk) dir))

module _ (dir : List ℕ) where
  pub reads_one : (h : History) (start first : ℕ) → Reads (child dir (codes ".mixmeta")) start first h → ReadsTexts dir start first h
  reads_one [] start first one = tt
  reads_one (w ∷ past) start first one = omega (arith, one)

  pub reads_two : (h : History) (start first second : ℕ) → Reads (child dir (codes ".mixmeta")) start first h → Reads (child dir (codes ".mixindex")) first second h → ReadsTexts dir start second h
  reads_two [] start first second one two = tt
  reads_two (w ∷ past) start first second one two = omega (arith, one, two)

  pub reads_three : (h : History) (start first second third : ℕ) → Reads (child dir (codes ".mixmeta")) start first h → Reads (child dir (codes ".mixindex")) first second h → Reads (child dir (codes ".mixstatus")) second third h
      → ReadsTexts dir start third h
  reads_three [] start first second third one two three = tt
  reads_three (w ∷ past) start first second third one two three = omega (arith, one, two, three)

-- ---- What was read

abbrev pub Found : List ℕ → Option (Vec ℕ Global) → History → Type 0
Found path found h = Now h (λ w. MatchOption found (bytes_at (seen w.disk) path ≡ None) (λ v. bytes_at (seen w.disk) path ≡ Some v.items))

found_is : (o : Option (List ℕ)) (found : Option (Vec ℕ Global)) → MatchOption found (o ≡ None) (λ v. o ≡ Some v.items) → option_bytes found ≡ o
found_is o None is = sym is
found_is o (Some v) is = sym is

pub texts_found : (dir : List ℕ) (h : History) (texts : Texts) → Found (child dir (codes ".mixmeta")) texts.metadata h → Found (child dir (codes ".mixindex")) texts.index h → Found (child dir (codes ".mixstatus")) texts.statuses h
    → Now h (λ w. texts_of texts ≡ mix_texts_at (seen w.disk) dir)
texts_found dir [] texts one two three = tt
texts_found dir (w ∷ past) texts one two three =
    λ i. record { metadata = found_is _ texts.metadata one i; index = found_is _ texts.index two i; statuses = found_is _ texts.statuses three i }
