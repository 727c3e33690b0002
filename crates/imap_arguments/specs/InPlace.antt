-- A tag gives its fields back: its bytes, and zeros behind them.
use Rattle.std.specs.Prelude.{◌≡◌, ◌≤◌, ◌-◌, ◌++◌, ℕ, List, length, take, drop, replicate}
use Rattle.std.proofs.Common.{◌∙◌, ap, sym, subst, take-append-drop, length-take-le}
use Rattle.imap_arguments.specs.declared.tag.Tag.TheInside.{Inside}

abbrev pub in_place : List ℕ → ℕ → Inside
in_place bytes len = record { bytes = bytes; len = len }

pub tag_back : (a : Inside) → (length a.bytes ≡ 64) × (a.len ≤ 64) × (drop a.len a.bytes ≡ replicate (64 - a.len) 0)
    → in_place (take a.len a.bytes ++ replicate (64 - length (take a.len a.bytes)) 0) (length (take a.len a.bytes)) ≡ a
tag_back a h =
    let within : a.len ≤ length a.bytes = subst (λ n. a.len ≤ n) (sym h.0) h.1 in
    let long : length (take a.len a.bytes) ≡ a.len = length-take-le a.len a.bytes within in
    ap (λ n. in_place (take a.len a.bytes ++ replicate (64 - n) 0) n) long ∙ ap (λ rest. in_place (take a.len a.bytes ++ rest) a.len) (sym h.2)
    ∙ ap (λ bytes. in_place bytes a.len) (take-append-drop a.len a.bytes)
