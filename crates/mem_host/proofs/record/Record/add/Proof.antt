-- The borrow is opened and closed at the record with one event more: no byte changes.
use Rattle.std.proofs.Common.{[], ◌∷◌, refl}
use Rattle.std.proofs.raw_atomic.Walks.{proved}
use base.Logic.{id⊢}
use base.Fml.{ftrue, flft}
use mir.Syntax.{named}
use mir.Val.{vunit}
use types.Kit.{‵, ◌⊛◌, ◌$◌, ◌∵◌, !, qed, done, move, keep, use1, split, join, fsplit, fsplit3, feq_i, suffices, frame, group}
use types.Run.{enter, of_opd, unit_lit, returns}
use types.ByLocal.{alloc_all, pass_all, free_all, look_at, sets}
use denote.Exit.{yes}
use denote.RattleType.{owns}
use denote.Ref.{mut_vals, mut_Tells, shr_vals, shr_Tells}
use denote.Builtin.{RefOf}
use denote.Signature.{Slot, plain, types_at, named_lft}
use denote.Steps.{nothing, opens, closes}
use denote.Triple.Walked.{Stays, walk_of, says, stay_ref, stay_dropped, Goes-ref, Goes-dropped, ends_at}
use Rattle.mem_host.specs.Notes.{event_of}
use Rattle.mem_host.specs.declared.record.Record.{Record}
use Rattle.mem_host.specs.contracts.record.Record.{the_row}
use Rattle.mem_host.specs.contracts.record.Note as Note
use Rattle.mem_host.specs.contracts.record.Record.add as f
use Rattle.mem_host.proofs.record.Record.add.Statement.{statement}
use Rattle.mem_host.proofs.record.Record.add.Code as code

abbrev note_ref : Slot 3
note_ref = RefOf (1 ∷ []) tt (plain (λ κs. Note.the_row (named_lft 3 2 tt κs))) (λ _. tt)

abbrev stayed : Stays f.ended.signature.params f.ended.kept
stayed = (stay_ref (0 ∷ []) tt (plain (λ _. the_row)), (stay_dropped note_ref yes, tt))

pub add_spec : {M : Type 1} → statement M
add_spec 𝓤 𝓛 𝓜 𝓡 wired =
    let c = f.clauses 𝓛 𝓜.mem 𝓡.returns in
    proved 𝓛 f.ended stayed c 𝓜 𝓡 (Goes-ref 𝓛 3 0 tt (plain (λ _. the_row)), (Goes-dropped 𝓛 3 note_ref yes (λ κs x w. refl), tt))
    f.Key.name code.function (code.unfolded 𝓤 𝓛.H 𝓜 𝓡 wired)
    (λ κs. (mut_vals, (shr_vals, tt)))
    (λ κs. (mut_Tells (named 0) κs.0 the_row, (shr_Tells (named 1) κs.1.0 (Note.the_row (named_lft 3 2 tt κs)), tt)))
    (λ κs qs bounds a g are.
    let W = walk_of 𝓛 f.ended stayed c in let b = a.0.ref_ptr.0 in let o = a.0.ref_ptr.1 in
    let y : W.Ghost = ((κs, qs, bounds, a, (mut_vals a.0, (shr_vals a.1.0, tt))), g) in
    let more : Record = record { events = event_of a.1.0.now ∷ a.0.now.events } in
    qed 𝓛 (((‵ (flft κs.0 qs.0) ⊛ (‵ (flft κs.1.0 qs.1.0) ⊛ (‵ (flft κs.1.1.0 qs.1.1.0) ⊛ ‵ ftrue))) ⊛ ‵ (owns (types_at f.signature.params κs) a y.0.4)) ∷ ‵ ftrue ∷ []) ∵
    split ! $ split ! $ move ! (2 ∷ []) $ fsplit ! $ keep ! (0 ∷ 2 ∷ 3 ∷ []) $
    enter ! _ _ _ _ _ $ alloc_all ! (λ l. pass_all ! refl ((tt, tt), ((tt, tt), tt)) $
    -- [self, in three parts; its token; the other tokens]
    fsplit3 ! $ move ! (1 ∷ 2 ∷ 3 ∷ []) $ opens ! tt the_row b o (λ us.
    move ! (1 ∷ []) $ use1 𝓛 (‵ (the_row.own_val more us)) (id⊢ 𝓤 _) $ move ! (1 ∷ []) $ closes ! tt the_row more us b o $
    sets ! (of_opd ! (unit_lit !)) refl (tt, tt) $
    returns ! (look_at ! 0 refl) $ free_all ! refl $ move ! (3 ∷ []) $
    suffices ! _ (ends_at 𝓛 f.ended stayed c y vunit tt (more, (tt, tt)) (tt, (tt, tt))) $ says ! refl $
    group ! 3 $ nothing ! $ nothing ! $ join ! $ move ! (1 ∷ 0 ∷ []) $ join ! $
    move ! (1 ∷ 2 ∷ []) $ join ! $ frame ! $ frame ! $ feq_i ! _ (vunit ∷ []) _ refl $ done !)))
