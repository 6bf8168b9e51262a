use Rattle.std.proofs.Common.{◌≡◌, ◌<◌, ℕ, List, length, get_or, Result, Ok, Err, OnErr, take, subst}
use Rattle.cw_io.specs.Outlet.{IsAppendedInPart, line_bytes}
use Rattle.cw_edges.specs.Poured.{poured}
use Rattle.cw_sinktask.proofs.Poured.{in-part}
use Rattle.cw_sinktask.proofs.pouring.pour.Goals as goal

where-err : {A E : Type 0} (r : Result A E) (P : Type 0) → P → OnErr r P
where-err (Ok x) P p = tt
where-err (Err e) P p = p

pub returns-in_err-append-clause-in_part : goal.returns-in_err-append-clause-in_part
returns-in_err-append-clause-in_part g c = where-err c.from_residual.result _ (λ held is.
    let file = c.args.delivery.now.file in
    let lines = c.args.delivery.now.lines in
    let k = c.loop-line.line-index in
    let line : List ℕ = c.line-item.result in
    let part = c.in_err-append.ensures.in_part (poured file (take k lines) held) (c.loop-line.invariant.poured held is) in
    let own = subst (λ (l : List (List ℕ)). line ≡ get_or l k line) c.as_slice-line-items.ensures c.line-item.is in
    let within = subst (λ (l : List (List ℕ)). k < length l) c.as_slice-line-items.ensures c.loop-line-test.true in
    let put = subst (λ (l : List ℕ). IsAppendedInPart file (line_bytes l) (poured file (take k lines) held) part.0) c.as_slice.ensures part.2 in
    (part.0, part.1, in-part file lines k line within own held part.0 put))
