-- What is told of an opened file, with its texts, is the opened mailbox.
use Rattle.std.proofs.Common.{◌≡◌, ℕ, zero, suc, ◌+◌, ◌==◌, Bool, true, false, cond, List, [], ◌∷◌, length, map, Option, refl, ap, ◌∙◌, arith}
use Rattle.std.proofs.lemmas.List.{length-map}
use Rattle.mail_types.specs.Opening.{uids_of, with_uids, given_uids, numbers_from, opened_uids, uids_last, highest, opened_numbering, opened_mailbox}
use Rattle.store_trait.specs.declared.store.Info.{Info}
use Rattle.store_index.specs.declared.opening.Found.{Found}
use Rattle.store_index.specs.Opened.{contents_at, uids_told, infos_with, opened_summary}
use Rattle.store_index.specs.Told.{record_at, records_at, mailbox_at}

uids_at : (infos : List Info) (texts : List (List ℕ)) → length texts ≡ length infos → uids_of (records_at infos texts) ≡ uids_told infos
uids_at [] texts same = refl
uids_at (i ∷ infos) [] same = absurd (omega (arith, same))
uids_at (i ∷ infos) (t ∷ texts) same = ap (λ l. i.uid ∷ l) (uids_at infos texts (omega (arith, same)))

with_at : (uids : List ℕ) (infos : List Info) (texts : List (List ℕ)) → with_uids uids (records_at infos texts) ≡ records_at (infos_with uids infos) texts
with_at uids [] texts = refl
with_at [] (i ∷ infos) [] = refl
with_at [] (i ∷ infos) (t ∷ texts) = refl
with_at (u ∷ uids) (i ∷ infos) [] = refl
with_at (u ∷ uids) (i ∷ infos) (t ∷ texts) = ap (λ l. record_at (record i { uid = u }) t ∷ l) (with_at uids infos texts)

pub opened_at : (f : Found) (texts : List (List ℕ)) (fresh : ℕ) → length texts ≡ length f.infos.items → opened_mailbox (contents_at f texts) fresh ≡ mailbox_at (opened_summary f fresh) texts
opened_at f texts fresh same =
    ap (λ us. record {
      validity = (opened_numbering f.validity f.last us fresh).validity;
      number = 0;
      last = (opened_numbering f.validity f.last us fresh).last;
      words = f.words;
      records = with_uids (opened_uids f.validity f.last us) (records_at f.infos.items texts);
    }) (uids_at f.infos.items texts same)
    ∙ ap (λ rs. record {
      validity = (opened_numbering f.validity f.last (uids_told f.infos.items) fresh).validity;
      number = 0;
      last = (opened_numbering f.validity f.last (uids_told f.infos.items) fresh).last;
      words = f.words;
      records = rs;
    }) (with_at (opened_uids f.validity f.last (uids_told f.infos.items)) f.infos.items texts)

numbers_count : (k n : ℕ) → length (numbers_from k n) ≡ n
numbers_count k zero = refl
numbers_count k (suc n) = ap suc (numbers_count (k + 1) n)

given_count : (k : ℕ) (us : List ℕ) → length (given_uids k us) ≡ length us
given_count k [] = refl
given_count k (u ∷ us) = step (u == 0) (given_count (k + 1) us) (given_count k us)
  where
    step : (b : Bool) → length (given_uids (k + 1) us) ≡ length us → length (given_uids k us) ≡ length us → length (cond b (k ∷ given_uids (k + 1) us) (u ∷ given_uids k us)) ≡ length (u ∷ us)
    step true one other = ap suc one
    step false one other = ap suc other

-- each message gets a UID
pub uids_count : (validity : Option ℕ) (last : ℕ) (us : List ℕ) → length (opened_uids validity last us) ≡ length us
uids_count validity last us = step (uids_last validity last us)
  where
    step : (b : Bool) → length (cond b (given_uids (highest last us + 1) us) (numbers_from 1 (length us))) ≡ length us
    step true = given_count (highest last us + 1) us
    step false = numbers_count 1 (length us)

pub told_uids : (f : Found) → length (opened_uids f.validity f.last (uids_told f.infos.items)) ≡ length f.infos.items
told_uids f = uids_count f.validity f.last (uids_told f.infos.items) ∙ length-map f.infos.items (λ (i : Info). i.uid)

pub with_sizes : (uids : List ℕ) (infos : List Info) → length uids ≡ length infos → map (λ (i : Info). i.size) (infos_with uids infos) ≡ map (λ (i : Info). i.size) infos
with_sizes uids [] same = refl
with_sizes [] (i ∷ infos) same = absurd (omega (arith, same))
with_sizes (u ∷ uids) (i ∷ infos) same = ap (λ l. i.size ∷ l) (with_sizes uids infos (omega (arith, same)))

pub with_count : (uids : List ℕ) (infos : List Info) → length uids ≡ length infos → length (infos_with uids infos) ≡ length infos
with_count uids [] same = refl
with_count [] (i ∷ infos) same = absurd (omega (arith, same))
with_count (u ∷ uids) (i ∷ infos) same = ap suc (with_count uids infos (omega (arith, same)))
