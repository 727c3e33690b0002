-- Begun keys one by one.
use Rattle.std.proofs.Common.{ℕ, suc, ◌+◌, ◌-◌, ◌<◌, Bool, true, false, List, [], ◌∷◌, ◌++◌, ◌≡◌, Result, Ok, Err, arith, refl, sym, ◌∙◌, ap, subst, length, drop}
use Rattle.std.proofs.lemmas.Grind.{common_steps}
use Rattle.std.specs.Result.{IsErrAnd}
use Rattle.imap_arguments.specs.Readings.{Read, ◌>>=◌, Fails}
use Rattle.imap_arguments.specs.declared.reason.Refused.{Refused}
use Rattle.imap_syntax.specs.declared.search.Step.{Step}
use Rattle.imap_arguments.specs.Tokens.{begins, separated}
use Rattle.imap_arguments.specs.declared.reason.Reason.{Reason}
use Rattle.imap_syntax.specs.Keys.{ReadKey, ReadKeys, add_key, closed, key_at, key_of, opening_of, all_of, Opening, parenthesis}
use Rattle.imap_syntax.specs.Stack.{given, among, unwound, deeper, gone_on, opened, Leads}
use Rattle.imap_syntax.specs.declared.key.Key.{Key}
use Rattle.imap_syntax.specs.declared.key.Key as keys
use Rattle.imap_syntax.specs.declared.search.Frame.{Frame}

pub bind_assoc : {A B C : Type 0} (r : Result A Reason) (f : A → Result B Reason) (g : B → Result C Reason) → ((r >>= f) >>= g) ≡ (r >>= λ x. f x >>= g)
bind_assoc (Ok x) f g = refl
bind_assoc (Err e) f g = refl

pub bind_same : {A B : Type 0} (r : Result A Reason) (f g : A → Result B Reason) → ((x : A) → f x ≡ g x) → (r >>= f) ≡ (r >>= g)
bind_same (Ok x) f g same = same x
bind_same (Err e) f g same = refl

pub bind_ok : {A : Type 0} (r : Result A Reason) → (r >>= λ x. Ok x) ≡ r
bind_ok (Ok x) = refl
bind_ok (Err e) = refl

-- the innermost is given the key first
pub unwound_last : (frames : List Frame) (frame : Frame) (depth : ℕ) (key : ReadKey)
    → unwound depth (frames ++ frame ∷ []) key ≡ (given (key_at (100 - suc (depth + length frames))) frame key >>= unwound depth frames)
unwound_last [] frame depth key =
    let same : 100 - suc depth ≡ 100 - suc (depth + 0) = omega arith in
    ap (λ n. given (key_at n) frame key) same ∙ sym (bind_ok (given (key_at (100 - suc (depth + 0))) frame key))
unwound_last (first ∷ frames) frame depth key =
    let level : 100 - suc (suc depth + length frames) ≡ 100 - suc (depth + length (first ∷ frames)) = omega arith in
    ap (λ r. r >>= given (key_at (100 - suc depth)) first) (unwound_last frames frame (suc depth) key)
    ∙ bind_assoc (given (key_at (100 - suc (suc depth + length frames))) frame key) (unwound (suc depth) frames) (given (key_at (100 - suc depth)) first)
    ∙ ap (λ n. given (key_at n) frame key >>= λ k. unwound (suc depth) frames k >>= given (key_at (100 - suc depth)) first) level

-- the same from the outermost on
pub innermost : (frames : List Frame) (frame : Frame) (key : ReadKey) → unwound 0 (frames ++ frame ∷ []) key ≡ (given (key_at (99 - length frames)) frame key >>= unwound 0 frames)
innermost frames frame key =
    let level : 100 - suc (0 + length frames) ≡ 99 - length frames = omega arith in
    unwound_last frames frame 0 key ∙ ap (λ n. given (key_at n) frame key >>= unwound 0 frames) level

-- a key that is read in one more
pub one_deeper : (frames : List Frame) (frame : Frame) (bytes : List ℕ) (literals : List (List ℕ)) → length frames < 100
    → deeper (frames ++ frame ∷ []) bytes literals ≡ ((key_at (99 - length frames) bytes literals >>= given (key_at (99 - length frames)) frame) >>= unwound 0 frames)
one_deeper frames frame bytes literals less =
    let long : length (frames ++ frame ∷ []) ≡ length frames + 1 = grind (arith, common_steps) in
    let level : 100 - length (frames ++ frame ∷ []) ≡ 99 - length frames = omega arith in
    let read = key_at (99 - length frames) bytes literals in
    ap (λ n. key_at n bytes literals >>= unwound 0 (frames ++ frame ∷ [])) level
    ∙ bind_same read (unwound 0 (frames ++ frame ∷ [])) (λ key. given (key_at (99 - length frames)) frame key >>= unwound 0 frames) (innermost frames frame)
    ∙ sym (bind_assoc read (given (key_at (99 - length frames)) frame) (unwound 0 frames))

abbrev after_key : (List ℕ → List (List ℕ) → Read ReadKey) → ℕ → ReadKeys × List ℕ → Bool → Read (ReadKeys × List ℕ)
after_key inner room all more = elim more as (λ _. Read (ReadKeys × List ℕ)) [ true ↦ separated 32 (add_key inner) room all.0 (drop 1 all.1) | false ↦ Ok all ]

list_here : (inner : List ℕ → List (List ℕ) → Read ReadKey) (room : ℕ) (before : ReadKeys) (rest : List ℕ) (more : Bool) → (after_key inner room (before, rest) more >>= closed) ≡ among inner room before rest more
list_here inner room before rest true = refl
list_here inner room before rest false = refl

list_from : (inner : List ℕ → List (List ℕ) → Read ReadKey) (room : ℕ) (before : List Key) (read : Read ReadKey)
    → (((read >>= λ key. Ok (record { keys = before ++ key.key ∷ []; literals = key.literals }, key.rest)) >>= λ all. after_key inner room all (begins 32 all.1)) >>= closed)
    ≡ (read >>= λ key. among inner room (record { keys = before ++ key.key ∷ []; literals = key.literals }) key.rest (begins 32 key.rest))
list_from inner room before (Ok key) = list_here inner room (record { keys = before ++ key.key ∷ []; literals = key.literals }) key.rest (begins 32 key.rest)
list_from inner room before (Err reason) = refl

-- keys in parentheses by the first of them
pub list_step : (inner : List ℕ → List (List ℕ) → Read ReadKey) (n room : ℕ) (before : List Key) (bytes : List ℕ) (literals : List (List ℕ)) → n ≡ room + 1
    → (separated 32 (add_key inner) n (record { keys = before; literals = literals }) bytes >>= closed)
    ≡ (inner bytes literals >>= λ key. among inner room (record { keys = before ++ key.key ∷ []; literals = key.literals }) key.rest (begins 32 key.rest))
list_step inner n room before bytes literals is =
    let next : n ≡ suc room = omega arith in
    ap (λ m. separated 32 (add_key inner) m (record { keys = before; literals = literals }) bytes >>= closed) next
    ∙ list_from inner room before (inner bytes literals)

-- a key more in parentheses is read
pub go_deeper : (frames : List Frame) (frame : Frame) (room : ℕ) (before : List Key) (rest bytes : List ℕ) (literals : List (List ℕ)) (new : List Frame) → length frames < 100 → (room ≡ 0 → ⊥)
    → begins 32 rest ≡ true → new ≡ frames ++ frame ∷ [] → bytes ≡ drop 1 rest
    → ((key : ReadKey) → given (key_at (99 - length frames)) frame key
    ≡ among (key_at (99 - length frames)) (room - 1) (record { keys = before ++ key.key ∷ []; literals = key.literals }) key.rest (begins 32 key.rest))
    → deeper new bytes literals ≡ gone_on frames literals before room rest
go_deeper frames frame room before rest bytes literals new less some more pushed behind are =
    let inner = key_at (99 - length frames) in
    let next : room ≡ room - 1 + 1 = omega arith in
    ap (λ n. deeper n bytes literals) pushed ∙ ap (λ b. deeper (frames ++ frame ∷ []) b literals) behind
    ∙ one_deeper frames frame (drop 1 rest) literals less
    ∙ ap (λ r. r >>= unwound 0 frames) (bind_same (inner (drop 1 rest) literals) (given inner frame) _ are ∙ sym (list_step inner room (room - 1) before (drop 1 rest) literals next))
    ∙ ap (λ m. among inner room (record { keys = before; literals = literals }) rest m >>= unwound 0 frames) (sym more)

-- the first key in parentheses is read
pub first_deeper : (frames : List Frame) (frame : Frame) (bytes : List ℕ) (literals : List (List ℕ)) (new : List Frame) → length frames < 100 → 0 < length bytes → new ≡ frames ++ frame ∷ []
    → ((key : ReadKey) → given (key_at (99 - length frames)) frame key
    ≡ among (key_at (99 - length frames)) (length bytes - 1) (record { keys = key.key ∷ []; literals = key.literals }) key.rest (begins 32 key.rest))
    → deeper new bytes literals ≡ opened frames literals (parenthesis bytes)
first_deeper frames frame bytes literals new less some pushed are =
    let inner = key_at (99 - length frames) in
    let next : length bytes ≡ length bytes - 1 + 1 = omega arith in
    ap (λ n. deeper n bytes literals) pushed ∙ one_deeper frames frame bytes literals less
    ∙ ap (λ r. r >>= unwound 0 frames) (bind_same (inner bytes literals) (given inner frame) _ are ∙ sym (list_step inner (length bytes) (length bytes - 1) [] bytes literals next))

-- behind NOT and OR
pub word_deeper : (frames : List Frame) (frame : Frame) (bytes : List ℕ) (literals : List (List ℕ)) (new : List Frame) (whole : Read ReadKey) → length frames < 100 → new ≡ frames ++ frame ∷ []
    → ((key_at (99 - length frames) bytes literals >>= given (key_at (99 - length frames)) frame) >>= unwound 0 frames) ≡ whole → deeper new bytes literals ≡ whole
word_deeper frames frame bytes literals new whole less pushed is = ap (λ n. deeper n bytes literals) pushed ∙ one_deeper frames frame bytes literals less ∙ is

-- a key by what it begins with
pub key_here : (frames : List Frame) (bytes : List ℕ) (literals : List (List ℕ)) (opening : Opening) → length frames < 100 → opening_of bytes ≡ Ok opening
    → deeper frames bytes literals ≡ opened frames literals opening
key_here frames bytes literals opening less is =
    let level : 100 - length frames ≡ suc (99 - length frames) = omega arith in
    ap (λ n. key_at n bytes literals >>= unwound 0 frames) level
    ∙ ap (λ o. (o >>= key_of (key_at (99 - length frames)) literals) >>= unwound 0 frames) is

pub no_key_here : (frames : List Frame) (bytes : List ℕ) (literals : List (List ℕ)) (reason : Reason) → length frames < 100 → opening_of bytes ≡ Err reason
    → deeper frames bytes literals ≡ Err reason
no_key_here frames bytes literals reason less is =
    let level : 100 - length frames ≡ suc (99 - length frames) = omega arith in
    ap (λ n. key_at n bytes literals >>= unwound 0 frames) level
    ∙ ap (λ o. (o >>= key_of (key_at (99 - length frames)) literals) >>= unwound 0 frames) is

-- a call that answers an error
pub leads_err : (result : Result Step Refused) (refused : Refused) (frames : List Frame) (literals : List (List ℕ)) (whole : Read ReadKey) → IsErrAnd result (λ e. e ≡ refused)
    → Fails refused whole → Leads result frames literals whole
leads_err (Ok step) refused frames literals whole is fails = absurd is
leads_err (Err e) refused frames literals whole is fails = subst (λ r. Fails r whole) (sym is) fails

pub one_key : (items rest : List Key) (key : Key) → items ≡ rest ++ key ∷ [] → length items ≡ 1 → all_of items ≡ key
one_key items [] key is one = ap all_of is
one_key items (first ∷ rest) key is one =
    let long : length (first ∷ rest ++ key ∷ []) ≡ length rest + 2 = grind (arith, common_steps) in
    let short : length (first ∷ rest ++ key ∷ []) ≡ 1 = sym (ap length is) ∙ one in
    absurd (omega arith)

pub several_keys : (items : List Key) → (length items ≡ 1 → ⊥) → all_of items ≡ keys.AllOf items
several_keys [] several = refl
several_keys (key ∷ []) several = absurd (several refl)
several_keys (one ∷ other ∷ more) several = refl
