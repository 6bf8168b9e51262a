use Rattle.std.proofs.Common.{rules, ◌≡◌, ◌∙◌, ◌++◌, ◌∷◌, [], sym, subst, arith}
use Rattle.cw_txn.specs.declared.entry.Entry.{Entry}
use Rattle.cw_txn.specs.Tables.{HasRows}
use Rattle.cw_txn.proofs.Settled.{with_rows, reserved_one}
use Rattle.cw_txn.proofs.coordinator.Coordinator.reserve.Goals as goal

pub invariant_of-self : goal.invariant_of-self
invariant_of-self c = with_rows c.self.inside.tables c.self.inside.entries.items c.self.inside.reserved.items c.self.inside.length c.self.invariant c.make_room.new.tables c.make_room.ensures.same c.make_room.ensures.kept

pub invariant_of-self-in_err-copy : goal.invariant_of-self-in_err-copy
invariant_of-self-in_err-copy c = with_rows c.self.inside.tables c.self.inside.entries.items c.self.inside.reserved.items c.self.inside.length c.self.invariant c.make_room.new.tables c.make_room.ensures.same c.make_room.ensures.kept

pub invariant_of-self-in_err-push : goal.invariant_of-self-in_err-push
invariant_of-self-in_err-push c =
    let ready = with_rows c.self.inside.tables c.self.inside.entries.items c.self.inside.reserved.items c.self.inside.length c.self.invariant c.make_room.new.tables c.make_room.ensures.same c.make_room.ensures.kept in
    let stays : c.push.new.self.items ≡ c.self.inside.reserved.items = search rules in
    rw stays ready

pub invariant_of-self-2 : goal.invariant_of-self-2
invariant_of-self-2 c =
    let ready = with_rows c.self.inside.tables c.self.inside.entries.items c.self.inside.reserved.items c.self.inside.length c.self.invariant c.make_room.new.tables c.make_room.ensures.same c.make_room.ensures.kept in
    let pushed : c.push.new.self.items ≡ c.self.inside.reserved.items ++ c.in_ok-copy.field-0 ∷ [] = search rules in
    let has = subst (λ (e : Entry). HasRows c.make_room.new.tables e) (c.of.ensures ∙ sym c.in_ok-copy.ensures) c.in_ok-make_room.ensures.there in
    reserved_one c.make_room.new.tables c.self.inside.entries.items c.self.inside.reserved.items c.self.inside.length ready
    c.in_ok-copy.field-0 c.push.new.self.items pushed has (omega (arith, c.self.invariant.counted, c.in_ok-make_room.ensures.few))
