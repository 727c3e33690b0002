-- A change that leaves exactly what the driver's form says of the old bytes stores the mailbox: the files say it, and mean it.
use Rattle.std.proofs.Common.{◌≡◌, ◌≤◌, ℕ, Bool, true, false, List, [], ◌∷◌, length, map, cond, refl, sym, ◌∙◌, ap, subst, arith, Some, None, Ok, Err, nat_lt, ◌||◌}
use Rattle.std.specs.List.{AllByRecursion}
use Rattle.std.proofs.lemmas.Bool.{false≢true}
use Rattle.std.proofs.lemmas.Bool.Decides.{nat_tests}
use Rattle.std.proofs.lemmas.List.{length-map}
use Rattle.std.proofs.lemmas.Option.{same_Some}
use Rattle.file_model.specs.Images.{Image, bytes_at, bytes_of}
use Rattle.mail_types.specs.declared.contents.StoreContents.{StoreContents}
use Rattle.mail_types.specs.declared.driver.Driver.{Driver}
use Rattle.mail_types.specs.declared.driver.Driver.TheVariants.{Unix, Mmdf, Mbx, Mtx, Tenex, Mh, Mix}
use Rattle.mail_types.specs.declared.driver.Keeps.{Keeps}
use Rattle.mail_types.specs.declared.driver.Limit.TheVariants.{File}
use Rattle.mail_types.specs.declared.mailbox.Mailbox.{Mailbox}
use Rattle.mail_types.specs.declared.message.NewMessage.{NewMessage}
use Rattle.mail_types.specs.declared.message.Record.{Record}
use Rattle.mail_types.specs.Drivers.{keeps_of}
use Rattle.mail_types.specs.Keeping.{take_record, kept_record}
use Rattle.mail_types.specs.Limits.{file_limit, text_limit, has_many, has_large_text, file_length}
use Rattle.mail_types.specs.Stored.{stored_record, stored_contents}
use Rattle.store_trait.specs.declared.change.Change.{Change}
use Rattle.store_trait.specs.declared.faults.OpenFault.TheVariants.{TooLarge}
use Rattle.store_trait.specs.Changes.{changed_mailbox, changed_contents, is_nothing, outgrows}
use Rattle.store_trait.specs.Forms.{Forms, IsSpelledAt, written_by, grammar_of, file_grammar}
use Rattle.store_trait.specs.Laws.{ComesBy, IsFileForm, IsForm, may_outgrow}
use Rattle.store_trait.specs.Meaning.{IsWritten, Means, Stands}
use Rattle.store_trait.specs.OwnPaths.{IsPartOf, is_content_name, is_directory_driver}
use Rattle.store_trait.specs.Promises.{Rewrites, Stores}
use Rattle.store_trait.specs.Views.{View}

-- ---- A driver of one file

pub as_file : (forms : Forms) (d : Driver) → is_directory_driver d ≡ false → IsForm d forms → IsFileForm d (forms.file d)
as_file forms Unix kind law = law
as_file forms Mmdf kind law = law
as_file forms Mbx kind law = law
as_file forms Mtx kind law = law
as_file forms Tenex kind law = law
as_file forms Mh kind law = absurd (false≢true (sym kind))
as_file forms Mix kind law = absurd (false≢true (sym kind))

pub is_file_form : (forms : Forms) (d : Driver) → is_directory_driver d ≡ false → IsFileForm d (forms.file d) → IsForm d forms
is_file_form forms Unix kind law = law
is_file_form forms Mmdf kind law = law
is_file_form forms Mbx kind law = law
is_file_form forms Mtx kind law = law
is_file_form forms Tenex kind law = law
is_file_form forms Mh kind law = absurd (false≢true (sym kind))
is_file_form forms Mix kind law = absurd (false≢true (sym kind))

-- the grammar of a driver of one file is that of its form
pub grammar_is : (forms : Forms) (d : Driver) → is_directory_driver d ≡ false → (path : List ℕ) → grammar_of forms d path ≡ file_grammar (forms.file d) path
grammar_is forms Unix kind path = refl
grammar_is forms Mmdf kind path = refl
grammar_is forms Mbx kind path = refl
grammar_is forms Mtx kind path = refl
grammar_is forms Tenex kind path = refl
grammar_is forms Mh kind path = absurd (false≢true (sym kind))
grammar_is forms Mix kind path = absurd (false≢true (sym kind))

pub as_spelled : (forms : Forms) (d : Driver) → is_directory_driver d ≡ false → (path : List ℕ) (image : Image) (c : StoreContents) (n : ℕ) → written_by forms d path image c n → IsSpelledAt (forms.file d) path image c n
as_spelled forms Unix kind path image c n is = is
as_spelled forms Mmdf kind path image c n is = is
as_spelled forms Mbx kind path image c n is = is
as_spelled forms Mtx kind path image c n is = is
as_spelled forms Tenex kind path image c n is = is
as_spelled forms Mh kind path image c n is = absurd (false≢true (sym kind))
as_spelled forms Mix kind path image c n is = absurd (false≢true (sym kind))

pub as_written : (forms : Forms) (d : Driver) → is_directory_driver d ≡ false → (path : List ℕ) (image : Image) (c : StoreContents) (n : ℕ) → IsSpelledAt (forms.file d) path image c n → written_by forms d path image c n
as_written forms Unix kind path image c n is = is
as_written forms Mmdf kind path image c n is = is
as_written forms Mbx kind path image c n is = is
as_written forms Mtx kind path image c n is = is
as_written forms Tenex kind path image c n is = is
as_written forms Mh kind path image c n is = absurd (false≢true (sym kind))
as_written forms Mix kind path image c n is = absurd (false≢true (sym kind))

pub part_is : (d : Driver) → is_directory_driver d ≡ false → (path q : List ℕ) → IsPartOf d is_content_name path q → q ≡ path
part_is Unix kind path q is = is
part_is Mmdf kind path q is = is
part_is Mbx kind path q is = is
part_is Mtx kind path q is = is
part_is Tenex kind path q is = is
part_is Mh kind path q is = absurd (false≢true (sym kind))
part_is Mix kind path q is = absurd (false≢true (sym kind))

pub is_part : (d : Driver) → is_directory_driver d ≡ false → (path : List ℕ) → IsPartOf d is_content_name path path
is_part Unix kind path = refl
is_part Mmdf kind path = refl
is_part Mbx kind path = refl
is_part Mtx kind path = refl
is_part Tenex kind path = refl
is_part Mh kind path = absurd (false≢true (sym kind))
is_part Mix kind path = absurd (false≢true (sym kind))

-- the file whose length a limit speaks of is the one that is written
pub length_is : (length_of : Mailbox → ℕ) (d : Driver) → is_directory_driver d ≡ false → (m : Mailbox) (new : List NewMessage) → file_length length_of d m new ≡ length_of m
length_is length_of Unix kind m new = refl
length_is length_of Mmdf kind m new = refl
length_is length_of Mbx kind m new = refl
length_is length_of Mtx kind m new = refl
length_is length_of Tenex kind m new = refl
length_is length_of Mh kind m new = absurd (false≢true (sym kind))
length_is length_of Mix kind m new = absurd (false≢true (sym kind))

-- ---- Within the limits

-- a text in the driver's form is stored as it is
pub stored_text : (keeps : Keeps) (r : Record) → take_record keeps r ≡ r → (stored_record keeps r).text ≡ r.text
stored_text keeps r form = step keeps.uids
  where
    step : (b : Bool) → (cond b (kept_record keeps r) (record (kept_record keeps r) { uid = 0 })).text ≡ r.text
    step true = ap (λ q. q.text) form
    step false = ap (λ q. q.text) form

pub stored_short : (keeps : Keeps) (rs : List Record) → AllByRecursion (λ r. take_record keeps r ≡ r) rs → has_large_text rs ≡ false → has_large_text (map (stored_record keeps) rs) ≡ false
stored_short keeps [] all small = refl
stored_short keeps (r ∷ rs) all small = step (nat_lt text_limit (length r.text)) (has_large_text rs) refl refl (λ later. stored_short keeps rs all.1 later) small
  where
    step : (a b : Bool) → nat_lt text_limit (length r.text) ≡ a → has_large_text rs ≡ b → (has_large_text rs ≡ false → has_large_text (map (stored_record keeps) rs) ≡ false) → (a || b) ≡ false → (nat_lt text_limit (length (stored_record keeps r).text) || has_large_text (map (stored_record keeps) rs)) ≡ false
    step true b here later rest is = absurd (false≢true (sym is))
    step false true here later rest is = absurd (false≢true (sym is))
    step false false here later rest is =
        ap (λ t. nat_lt text_limit (length t) || has_large_text (map (stored_record keeps) rs)) (stored_text keeps r all.0)
        ∙ ap (λ x. x || has_large_text (map (stored_record keeps) rs)) here ∙ rest later

pub stored_few : (keeps : Keeps) (rs : List Record) → has_many rs ≡ false → has_many (map (stored_record keeps) rs) ≡ false
stored_few keeps rs few = ap (λ n. nat_lt 1048576 n) (length-map rs (stored_record keeps)) ∙ few

-- ---- What the file says and means afterwards

module _ (forms : Forms) (d : Driver) (path : List ℕ) (kind : is_directory_driver d ≡ false) (law : IsFileForm d (forms.file d)) where
  abbrev long : Mailbox → ℕ
  long m = length ((forms.file d).written m)

  module _ (start end : Image) (before : StoreContents) (records : ℕ) (prior : Mailbox) (change : Change) (was : IsSpelledAt (forms.file d) path start before records) (comes : ComesBy long d before prior change)
      (short : may_outgrow d ≡ false → length was.bytes ≤ file_limit) (has : bytes_at end path ≡ Some ((forms.file d).rewritten was.bytes prior change)) where
    abbrev pub now : Mailbox
    now = changed_mailbox (keeps_of d) prior change

    pub says_rewritten : IsWritten (grammar_of forms d path) end (stored_contents d before prior now)
    says_rewritten =
        let next = law.goes_on was.bytes before records prior change was.spells comes in
        (next.0, as_written forms d kind path end (stored_contents d before prior now) next.0 (record { bytes = (forms.file d).rewritten was.bytes prior change; has = has; spells = next.1 }))

    stands : Stands path end
    stands none = let e : None ≡ Some ((forms.file d).rewritten was.bytes prior change) = sym (ap bytes_of none) ∙ has in absurd (cc)

    pub means_rewritten : Means (grammar_of forms d path) d path end (cond (outgrows long d now) (Err (TooLarge File)) (Ok (stored_contents d before prior now)))
    means_rewritten = step (outgrows long d now) (law.fits was.bytes before records prior change was.spells comes short)
      where
        step : (b : Bool) → nat_lt file_limit (length ((forms.file d).rewritten was.bytes prior change)) ≡ b → Means (grammar_of forms d path) d path end (cond b (Err (TooLarge File)) (Ok (stored_contents d before prior now)))
        step true long_file = record { is = (stands, (path, is_part d kind path, ((forms.file d).rewritten was.bytes prior change, has, grind (arith, nat_tests, long_file)))) }
        step false short_file = record {
          is = (
            record {
              stands = stands;
              short = λ large.
                  let at : large.0 ≡ path = part_is d kind path large.0 large.1 in
                  let same : (forms.file d).rewritten was.bytes prior change ≡ large.2.0 = same_Some _ _ (sym has ∙ ap (bytes_at end) (sym at) ∙ large.2.1) in
                  let below : length ((forms.file d).rewritten was.bytes prior change) ≤ file_limit = grind (arith, nat_tests, short_file) in
                  absurd (omega (arith, ap length same, below, large.2.2));
            },
            says_rewritten,
            stored_few (keeps_of d) now.records comes.is.many,
            stored_short (keeps_of d) now.records comes.is.in_form comes.is.large,
          );
        }

-- The clause on what is stored, from the one on what is written.
pub stores_rewritten : (forms : Forms) (was : View) (change : Change) (start end : Image) → is_directory_driver was.driver ≡ false → IsForm was.driver forms
    → is_nothing (was.mailbox start).words change ≡ false
    → ((before : StoreContents) → IsWritten (grammar_of forms was.driver was.path) start before
    → ComesBy (λ m. length ((forms.file was.driver).written m)) was.driver before (was.mailbox start) change)
    → ((bytes : List ℕ) → bytes_at start was.path ≡ Some bytes → may_outgrow was.driver ≡ false → length bytes ≤ file_limit)
    → Rewrites forms was change start end → Stores forms was change start end
stores_rewritten forms was change start end kind law some comes short rewrites before written =
    let d = was.driver in
    let prior = was.mailbox start in
    let now = changed_mailbox (keeps_of d) prior change in
    let spelled = as_spelled forms d kind was.path start before written.0 written.1 in
    let has = rewrites some spelled.bytes spelled.has kind in
    let file = as_file forms d kind law in
    let stored : changed_contents d before prior change ≡ stored_contents d before prior now = ap (λ b. cond b before (stored_contents d before prior now)) some in
    let says = says_rewritten forms d was.path kind file start end before written.0 prior change spelled (comes before written) (short spelled.bytes spelled.has) has in
    let means = means_rewritten forms d was.path kind file start end before written.0 prior change spelled (comes before written) (short spelled.bytes spelled.has) has in (
      subst (IsWritten (grammar_of forms d was.path) end) (sym stored) says,
      (λ done. subst (λ c. Means (grammar_of forms d was.path) d was.path end (cond (outgrows (λ m. length ((forms.file d).written m)) d now) (Err (TooLarge File)) (Ok c))) (sym stored) means),
    )
