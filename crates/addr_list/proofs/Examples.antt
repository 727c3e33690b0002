-- A group of one mailbox, and texts of strings, read by the definitions.
use Rattle.std.proofs.Common.{◌≡◌, List, ℕ, [], ◌∷◌, None, Some, refl}
use Rattle.addr_list.specs.Tokens.{run, quoted, literal, mark, AreTokens, none, skip_blank, skip_comment, one_run, one_mark, nothing, byte}
use Rattle.addr_list.specs.Addresses.{unquoted, phrase_of, local_of, host_of, plain, IsAddressList, mailbox, group, ReadsAddresses}
use Rattle.addr_list.specs.declared.address.Address.TheVariants.{Mailbox, GroupStart, GroupEnd}

-- `F: a@(c)b;`
friends : List ℕ
friends = 70 ∷ 58 ∷ 32 ∷ 97 ∷ 64 ∷ 40 ∷ 99 ∷ 41 ∷ 98 ∷ 59 ∷ []

friends-tokens : AreTokens friends (run (70 ∷ []) ∷ mark 58 ∷ run (97 ∷ []) ∷ mark 64 ∷ run (98 ∷ []) ∷ mark 59 ∷ [])
unfolding friends
friends-tokens =
    one_run 70 [] _ _ refl refl (one_mark 58 _ _ refl (skip_blank 32 _ _ refl (one_run 97 [] _ _ refl refl (one_mark 64 _ _ refl
    (skip_comment (99 ∷ []) _ _ (byte 99 [] refl nothing) (one_run 98 [] _ _ refl refl (one_mark 59 _ _ refl none)))))))

friends-list : IsAddressList (run (70 ∷ []) ∷ mark 58 ∷ run (97 ∷ []) ∷ mark 64 ∷ run (98 ∷ []) ∷ mark 59 ∷ []) (GroupStart (70 ∷ []) ∷ Mailbox None None (97 ∷ []) (98 ∷ []) ∷ GroupEnd ∷ [])
friends-list =
    group (run (70 ∷ []) ∷ []) (run (97 ∷ []) ∷ mark 64 ∷ run (98 ∷ []) ∷ []) (70 ∷ []) (Mailbox None None (97 ∷ []) (98 ∷ []) ∷ []) refl
    (mailbox _ _ (plain (run (97 ∷ []) ∷ []) (run (98 ∷ []) ∷ []) (97 ∷ []) (98 ∷ []) refl refl))

friends-read : ReadsAddresses friends (GroupStart (70 ∷ []) ∷ Mailbox None None (97 ∷ []) (98 ∷ []) ∷ GroupEnd ∷ [])
unfolding friends
friends-read = record { unfolded = refl; tokens = _; spelled = friends-tokens; list = friends-list }

-- `a\"b`
unquoted-example : unquoted (97 ∷ 92 ∷ 34 ∷ 98 ∷ []) ≡ 97 ∷ 34 ∷ 98 ∷ []
unquoted-example = refl

-- `Q.` and `"R"`
phrase-example : phrase_of (run (81 ∷ 46 ∷ []) ∷ quoted (82 ∷ []) ∷ []) ≡ Some (81 ∷ 46 ∷ 32 ∷ 82 ∷ [])
phrase-example = refl

-- `a.` and `b`; `a` and `b`
dotted-example : local_of (run (97 ∷ 46 ∷ []) ∷ run (98 ∷ []) ∷ []) ≡ Some (97 ∷ 46 ∷ 98 ∷ [])
dotted-example = refl

apart-example : host_of (run (97 ∷ []) ∷ run (98 ∷ []) ∷ []) ≡ None
apart-example = refl

-- `[1]`
literal-example : host_of (literal (91 ∷ 49 ∷ 93 ∷ []) ∷ []) ≡ Some (91 ∷ 49 ∷ 93 ∷ [])
literal-example = refl
