use Rattle.std.proofs.Common.{◌≡◌, ◌<◌, ◌∙◌, ◌+◌, ◌-◌, ℕ, length, ap, arith}
use Rattle.std.proofs.lemmas.List.{get_or_default}
use Rattle.cw_log.specs.declared.place.Place.{Place}
use Rattle.cw_log.proofs.Starts.{place_is}
use Rattle.cw_log.proofs.place.Frames.get.Goals as goal

pub returns : goal.returns
returns c found =
    let low : c.args.index < length c.args.self.now.starts.items = omega (arith, c.requires) in
    let long : c.saturating_sub.result ≡ c.start-end.result - (c.start-at.result + 5) = omega (arith, c.saturating_sub.ensures, c.saturating_add.ensures, c.start-end.type_inv) in
    let place : Place = record { at = c.start-at.result; length = c.saturating_sub.result } in
    place_is c.args.self.now.gate c.start-at.result c.start-end.result c.args.index c.args.self.now.starts.items place low
    (c.start-at.ensures found ∙ get_or_default c.args.self.now.starts.items c.args.index c.args.self.now.gate c.start-at.result low) (c.start-end.ensures found)
    (ap (λ (n : ℕ). record { at = c.start-at.result; length = n }) long)
