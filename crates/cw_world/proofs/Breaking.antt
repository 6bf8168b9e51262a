-- What a stop leaves of a log behind a call that failed, and which disk it was.
use Rattle.std.proofs.Common.{◌≡◌, ◌⊎◌, inl, inr, ⊎_elim, ℕ, List, Option, Some, refl, sym, ap, ◌∙◌}
use Rattle.cw_types.specs.declared.logs.LogName.{LogName}
use Rattle.cw_log.specs.State.{FailedOn}
use Rattle.cw_world.specs.Logs.{disk_of}
use Rattle.cw_world.specs.Write.{FailsOn}

-- each image stands for a list, which is that before the call or the one behind it
pub left_either : {I : Type 0} (may_leave : I → Type 0) (stands_for : List (List ℕ) → I → Type 0) (before after : List (List ℕ)) → ((image : I) → may_leave image → stands_for before image ⊎ stands_for after image)
    → (image : I) → may_leave image → (list : List (List ℕ)) × ((list ≡ before) ⊎ (list ≡ after)) × stands_for list image
left_either may_leave stands_for before after left image may = ⊎_elim (λ stands. (before, inl refl, stands)) (λ stands. (after, inr refl, stands)) (left image may)

-- which disk failed
pub fails-on : (name : LogName) (old now : ℕ → ℕ) (last : Option (ℕ × ℕ)) (side count : ℕ) → FailedOn old now last → last ≡ Some (side, count) → FailsOn name old now (disk_of name side) count
fails-on name old now last side count f is =
    let same : Some (f.side, now f.side) ≡ Some (side, count) = sym f.last_is ∙ is in
    let pair : (f.side, now f.side) ≡ (side, count) = cc in
    record { side = f.side; disk_is = ap (λ (p : ℕ × ℕ). disk_of name p.0) (sym pair); count_is = ap (λ (p : ℕ × ℕ). p.1) (sym pair); rose = f.rose }
