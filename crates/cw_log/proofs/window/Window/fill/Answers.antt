use Rattle.std.proofs.Common.{◌∙◌, List, ℕ, length, take, ap, refl, arith}
use Rattle.std.proofs.lemmas.List.{with_items_is}
use Rattle.cw_log.proofs.window.Window.fill.Goals as goal

pub returns-in_err-n-clause-window : goal.returns-in_err-n-clause-window
returns-in_err-n-clause-window g c file is =
    let e = with_items_is c.args.self.now.bytes c.read.new.into (omega (arith, c.read.auto.into, c.as_mut_slice.ensures.len)) in
    record { wide = omega (arith, ap length e, c.read.auto.into, ap length c.as_mut_slice.ensures.value, (c.requires file is).wide); filled = omega arith; shows = refl }

pub returns-clause-window : goal.returns-clause-window
returns-clause-window g c file is =
    let e = with_items_is c.args.self.now.bytes c.read.new.into (omega (arith, c.read.auto.into, c.as_mut_slice.ensures.len)) in
    record { wide = omega (arith, ap length e, c.read.auto.into, ap length c.as_mut_slice.ensures.value, (c.requires file is).wide); filled = omega (arith, ap length e, c.read.auto.into, c.in_ok-n.ensures.within); shows = ap (λ (l : List ℕ). take c.in_ok-n.n l) e ∙ (c.in_ok-n.ensures.bytes file is).1 }

pub returns-in_err-n-clause-size : goal.returns-in_err-n-clause-size
returns-in_err-n-clause-size g c =
    let e = with_items_is c.args.self.now.bytes c.read.new.into (omega (arith, c.read.auto.into, c.as_mut_slice.ensures.len)) in
    omega (arith, ap length e, c.read.auto.into, ap length c.as_mut_slice.ensures.value)

pub returns-clause-size : goal.returns-clause-size
returns-clause-size g c =
    let e = with_items_is c.args.self.now.bytes c.read.new.into (omega (arith, c.read.auto.into, c.as_mut_slice.ensures.len)) in
    omega (arith, ap length e, c.read.auto.into, ap length c.as_mut_slice.ensures.value)
