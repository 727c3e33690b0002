-- What is in a key, variant by variant.
use Rattle.std.proofs.Common.{◌≡◌, ℕ, ℤ, List, [], ◌∷◌, map, sym, ◌∙◌, ap}
use Rattle.imap_arguments.specs.Laws.{set_numbers}
use Rattle.imap_arguments.specs.declared.set.Set.{Set}
use Rattle.imap_syntax.specs.Laws.{KeyParts, leaf_parts, key_step, key_parts}
use Rattle.imap_syntax.specs.declared.key.Key.{Key}
use Rattle.imap_syntax.specs.declared.key.Key as keys
use Rattle.imap_syntax.specs.declared.key.Key.TheOpen as open_key
use Rattle.imap_syntax.specs.declared.key.Key.TheVariants.{rolls-All, rolls-Answered, rolls-Deleted, rolls-Draft, rolls-Flagged, rolls-Seen, rolls-Recent, rolls-Unanswered, rolls-Undeleted, rolls-Undraft, rolls-Unflagged, rolls-Unseen, rolls-New, rolls-Old, rolls-Bcc, rolls-Cc, rolls-From, rolls-Subject, rolls-To, rolls-Body, rolls-Text, rolls-Keyword, rolls-Unkeyword, rolls-Header, rolls-Larger, rolls-Smaller, rolls-Before, rolls-On, rolls-Since, rolls-SentBefore, rolls-SentOn, rolls-SentSince, rolls-Uid, rolls-Numbers, rolls-Not, rolls-Or, rolls-AllOf}
use Rattle.imap_syntax.specs.declared.key.Key.TheFolds.{fold-roll-Key}

pub in_All : key_parts keys.All ≡ leaf_parts [] []
in_All = ap key_parts (sym rolls-All) ∙ fold-roll-Key KeyParts key_step open_key.All

pub in_Answered : key_parts keys.Answered ≡ leaf_parts [] []
in_Answered = ap key_parts (sym rolls-Answered) ∙ fold-roll-Key KeyParts key_step open_key.Answered

pub in_Deleted : key_parts keys.Deleted ≡ leaf_parts [] []
in_Deleted = ap key_parts (sym rolls-Deleted) ∙ fold-roll-Key KeyParts key_step open_key.Deleted

pub in_Draft : key_parts keys.Draft ≡ leaf_parts [] []
in_Draft = ap key_parts (sym rolls-Draft) ∙ fold-roll-Key KeyParts key_step open_key.Draft

pub in_Flagged : key_parts keys.Flagged ≡ leaf_parts [] []
in_Flagged = ap key_parts (sym rolls-Flagged) ∙ fold-roll-Key KeyParts key_step open_key.Flagged

pub in_Seen : key_parts keys.Seen ≡ leaf_parts [] []
in_Seen = ap key_parts (sym rolls-Seen) ∙ fold-roll-Key KeyParts key_step open_key.Seen

pub in_Recent : key_parts keys.Recent ≡ leaf_parts [] []
in_Recent = ap key_parts (sym rolls-Recent) ∙ fold-roll-Key KeyParts key_step open_key.Recent

pub in_Unanswered : key_parts keys.Unanswered ≡ leaf_parts [] []
in_Unanswered = ap key_parts (sym rolls-Unanswered) ∙ fold-roll-Key KeyParts key_step open_key.Unanswered

pub in_Undeleted : key_parts keys.Undeleted ≡ leaf_parts [] []
in_Undeleted = ap key_parts (sym rolls-Undeleted) ∙ fold-roll-Key KeyParts key_step open_key.Undeleted

pub in_Undraft : key_parts keys.Undraft ≡ leaf_parts [] []
in_Undraft = ap key_parts (sym rolls-Undraft) ∙ fold-roll-Key KeyParts key_step open_key.Undraft

pub in_Unflagged : key_parts keys.Unflagged ≡ leaf_parts [] []
in_Unflagged = ap key_parts (sym rolls-Unflagged) ∙ fold-roll-Key KeyParts key_step open_key.Unflagged

pub in_Unseen : key_parts keys.Unseen ≡ leaf_parts [] []
in_Unseen = ap key_parts (sym rolls-Unseen) ∙ fold-roll-Key KeyParts key_step open_key.Unseen

pub in_New : key_parts keys.New ≡ leaf_parts [] []
in_New = ap key_parts (sym rolls-New) ∙ fold-roll-Key KeyParts key_step open_key.New

pub in_Old : key_parts keys.Old ≡ leaf_parts [] []
in_Old = ap key_parts (sym rolls-Old) ∙ fold-roll-Key KeyParts key_step open_key.Old

pub in_Bcc : (text : List ℕ) → key_parts (keys.Bcc text) ≡ leaf_parts [] (text ∷ [])
in_Bcc text = ap key_parts (sym (rolls-Bcc text)) ∙ fold-roll-Key KeyParts key_step (open_key.Bcc text)

pub in_Cc : (text : List ℕ) → key_parts (keys.Cc text) ≡ leaf_parts [] (text ∷ [])
in_Cc text = ap key_parts (sym (rolls-Cc text)) ∙ fold-roll-Key KeyParts key_step (open_key.Cc text)

pub in_From : (text : List ℕ) → key_parts (keys.From text) ≡ leaf_parts [] (text ∷ [])
in_From text = ap key_parts (sym (rolls-From text)) ∙ fold-roll-Key KeyParts key_step (open_key.From text)

pub in_Subject : (text : List ℕ) → key_parts (keys.Subject text) ≡ leaf_parts [] (text ∷ [])
in_Subject text = ap key_parts (sym (rolls-Subject text)) ∙ fold-roll-Key KeyParts key_step (open_key.Subject text)

pub in_To : (text : List ℕ) → key_parts (keys.To text) ≡ leaf_parts [] (text ∷ [])
in_To text = ap key_parts (sym (rolls-To text)) ∙ fold-roll-Key KeyParts key_step (open_key.To text)

pub in_Body : (text : List ℕ) → key_parts (keys.Body text) ≡ leaf_parts [] (text ∷ [])
in_Body text = ap key_parts (sym (rolls-Body text)) ∙ fold-roll-Key KeyParts key_step (open_key.Body text)

pub in_Text : (text : List ℕ) → key_parts (keys.Text text) ≡ leaf_parts [] (text ∷ [])
in_Text text = ap key_parts (sym (rolls-Text text)) ∙ fold-roll-Key KeyParts key_step (open_key.Text text)

pub in_Keyword : (name : List ℕ) → key_parts (keys.Keyword name) ≡ leaf_parts [] (name ∷ [])
in_Keyword name = ap key_parts (sym (rolls-Keyword name)) ∙ fold-roll-Key KeyParts key_step (open_key.Keyword name)

pub in_Unkeyword : (name : List ℕ) → key_parts (keys.Unkeyword name) ≡ leaf_parts [] (name ∷ [])
in_Unkeyword name = ap key_parts (sym (rolls-Unkeyword name)) ∙ fold-roll-Key KeyParts key_step (open_key.Unkeyword name)

pub in_Header : (name text : List ℕ) → key_parts (keys.Header name text) ≡ leaf_parts [] (name ∷ text ∷ [])
in_Header name text = ap key_parts (sym (rolls-Header name text)) ∙ fold-roll-Key KeyParts key_step (open_key.Header name text)

pub in_Larger : (size : ℕ) → key_parts (keys.Larger size) ≡ leaf_parts [] []
in_Larger size = ap key_parts (sym (rolls-Larger size)) ∙ fold-roll-Key KeyParts key_step (open_key.Larger size)

pub in_Smaller : (size : ℕ) → key_parts (keys.Smaller size) ≡ leaf_parts [] []
in_Smaller size = ap key_parts (sym (rolls-Smaller size)) ∙ fold-roll-Key KeyParts key_step (open_key.Smaller size)

pub in_Before : (day : ℤ) → key_parts (keys.Before day) ≡ leaf_parts [] []
in_Before day = ap key_parts (sym (rolls-Before day)) ∙ fold-roll-Key KeyParts key_step (open_key.Before day)

pub in_On : (day : ℤ) → key_parts (keys.On day) ≡ leaf_parts [] []
in_On day = ap key_parts (sym (rolls-On day)) ∙ fold-roll-Key KeyParts key_step (open_key.On day)

pub in_Since : (day : ℤ) → key_parts (keys.Since day) ≡ leaf_parts [] []
in_Since day = ap key_parts (sym (rolls-Since day)) ∙ fold-roll-Key KeyParts key_step (open_key.Since day)

pub in_SentBefore : (day : ℤ) → key_parts (keys.SentBefore day) ≡ leaf_parts [] []
in_SentBefore day = ap key_parts (sym (rolls-SentBefore day)) ∙ fold-roll-Key KeyParts key_step (open_key.SentBefore day)

pub in_SentOn : (day : ℤ) → key_parts (keys.SentOn day) ≡ leaf_parts [] []
in_SentOn day = ap key_parts (sym (rolls-SentOn day)) ∙ fold-roll-Key KeyParts key_step (open_key.SentOn day)

pub in_SentSince : (day : ℤ) → key_parts (keys.SentSince day) ≡ leaf_parts [] []
in_SentSince day = ap key_parts (sym (rolls-SentSince day)) ∙ fold-roll-Key KeyParts key_step (open_key.SentSince day)

pub in_Uid : (set : Set) → key_parts (keys.Uid set) ≡ leaf_parts (set_numbers set) []
in_Uid set = ap key_parts (sym (rolls-Uid set)) ∙ fold-roll-Key KeyParts key_step (open_key.Uid set)

pub in_Numbers : (set : Set) → key_parts (keys.Numbers set) ≡ leaf_parts (set_numbers set) []
in_Numbers set = ap key_parts (sym (rolls-Numbers set)) ∙ fold-roll-Key KeyParts key_step (open_key.Numbers set)

pub in_Not : (key : Key) → key_parts (keys.Not key) ≡ key_step (open_key.Not (key_parts key))
in_Not key = ap key_parts (sym (rolls-Not key)) ∙ fold-roll-Key KeyParts key_step (open_key.Not key)

pub in_Or : (one other : Key) → key_parts (keys.Or one other) ≡ key_step (open_key.Or (key_parts one) (key_parts other))
in_Or one other = ap key_parts (sym (rolls-Or one other)) ∙ fold-roll-Key KeyParts key_step (open_key.Or one other)

pub in_AllOf : (all : List Key) → key_parts (keys.AllOf all) ≡ key_step (open_key.AllOf (map key_parts all))
in_AllOf all = ap key_parts (sym (rolls-AllOf all)) ∙ fold-roll-Key KeyParts key_step (open_key.AllOf all)
