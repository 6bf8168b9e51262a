-- `note` changes nothing but the items that only proofs read. Assumes `Logic`.
use Rattle.std.proofs.Common.{List, [], ◌∷◌, ◌++◌, refl}
use Rattle.std.proofs.raw_atomic.Walks.{proved}
use base.Fml.{ftrue, flft}
use mir.Syntax.{named}
use mir.Val.{Val, vunit}
use types.Kit.{‵, ◌⊛◌, ◌$◌, ◌∵◌, !, qed, done, move, keep, split, join, fsplit3, feq_i, suffices, frame, group}
use types.Run.{enter, of_opd, unit_lit, returns}
use types.ByLocal.{alloc_all, pass_all, free_all, look_at, sets}
use denote.Builtin.{RefOf}
use denote.Exit.{yes}
use denote.RattleType.{RattleType}
use denote.Ref.{MutRef, ShrRef, mut_vals, mut_Tells, shr_vals, shr_Tells}
use denote.Signature.{plain, named_lft}
use denote.Steps.{nothing, opens, closes}
use denote.Triple.Walked.{Stays, says, stay_dropped, Goes-dropped, stay_ref, Goes-ref, ends_at}
use Rattle.cw_types.specs.contracts.past.Past as past
use Rattle.cw_txn.specs.Tables.{entry_of}
use Rattle.cw_txn.specs.contracts.entry.Entry as entry
use Rattle.cw_txn.specs.contracts.entry.EntryRef as borrowed
use Rattle.cw_txn.specs.contracts.coordinator.note as f
use Rattle.cw_txn.proofs.coordinator.note.Statement.{statement}
use Rattle.cw_txn.proofs.coordinator.note.Code as code

abbrev items : RattleType
items = past.the_row entry.the_row

abbrev stayed : Stays f.ended.signature.params f.ended.kept
stayed = (stay_ref (0 ∷ []) tt (plain (λ _. items)), (stay_dropped _ yes, tt))

pub note_spec : {M : Type 1} → statement M
note_spec 𝓤 𝓛 𝓜 𝓡 wired =
    let c = f.clauses 𝓛 𝓜.mem 𝓡.returns in
    let borrow = RefOf (1 ∷ []) tt (plain (λ κs. borrowed.the_row (named_lft 3 2 tt κs))) (λ _. tt) in
    proved 𝓛 f.ended stayed c 𝓜 𝓡 (Goes-ref 𝓛 3 0 tt (plain (λ _. items)), (Goes-dropped 𝓛 3 borrow yes (λ κs x w. refl), tt))
    f.Key.name code.function (code.unfolded 𝓤 𝓛.H 𝓜 𝓡 wired)
    (λ κs. (mut_vals, (shr_vals, tt))) (λ κs. (mut_Tells (named 0) κs.0 items, (shr_Tells (named 1) κs.1.0 (borrowed.the_row (named_lft 3 2 tt κs)), tt))) (λ κs qs bounds a _ are.
    let r = a.0 in let b = r.ref_ptr.0 in let o = r.ref_ptr.1 in let vs = mut_vals r in let us = shr_vals a.1.0 in
    let longer : items.Denot = record r.now { items = r.now.items ++ entry_of a.1.0.now ∷ [] } in
    qed 𝓛 (((‵ (flft κs.0 qs.0) ⊛ ‵ (flft κs.1.0 qs.1.0) ⊛ ‵ (flft κs.1.1.0 qs.1.1.0) ⊛ ‵ ftrue)
    ⊛ ‵ ((MutRef (named 0) κs.0 items).own_val r vs) ⊛ ‵ ((ShrRef (named 1) κs.1.0 (borrowed.the_row (named_lft 3 2 tt κs))).own_val a.1.0 us) ⊛ ‵ ftrue) ∷ ‵ ftrue ∷ []) ∵
    split ! $ split ! $ move ! (2 ∷ []) $ split ! $ keep ! (0 ∷ 2 ∷ 3 ∷ []) $
    enter ! _ _ _ _ _ $ alloc_all ! (λ l. pass_all ! refl ((tt, tt), ((tt, tt), tt)) $
    -- [the reference; its token; the other tokens]
    fsplit3 ! $ move ! (1 ∷ 2 ∷ 3 ∷ []) $ opens ! tt items b o (λ held. closes ! tt items longer held b o $
    sets ! (of_opd ! (unit_lit !)) refl (tt, tt) $
    returns ! (look_at ! 0 refl) $ free_all ! refl $ keep ! (3 ∷ 0 ∷ 1 ∷ 2 ∷ 4 ∷ []) $
    suffices ! _ (ends_at 𝓛 f.ended stayed c ((κs, qs, bounds, a, (vs, (us, tt))), tt) vunit tt (longer, (tt, tt)) (tt, (tt, tt))) $ says ! refl $
    group ! 3 $ nothing ! $ nothing ! $ join ! $ move ! (1 ∷ 0 ∷ []) $ join ! $ move ! (1 ∷ 2 ∷ []) $ join ! $ frame ! $ frame ! $
    feq_i ! (List Val) (vunit ∷ []) (vunit ∷ []) refl $ done !)))
