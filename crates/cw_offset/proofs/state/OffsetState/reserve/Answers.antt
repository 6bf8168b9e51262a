use Rattle.std.proofs.Common.{rules, ◌≡◌, ◌++◌, ◌∷◌, [], sym, subst, length, IsSome, ◌+◌, ◌<◌, ◌^◌, ℕ}
use Rattle.std.specs.BTreeMap.{get}
use Rattle.std.specs.Ordering.{nat_cmp}
use Rattle.cw_offset.specs.Tables.{HasRows, IsOffsets}
use Rattle.cw_offset.proofs.Rooms.{offsets_roomier, offsets_reserved}
use Rattle.cw_offset.proofs.state.OffsetState.reserve.Goals as goal

pub invariant_of-self : goal.invariant_of-self
invariant_of-self c = offsets_roomier c.self.inside.tables c.make_room.new.self c.self.inside.calls.items c.self.inside.reserved.items c.self.invariant c.make_room.ensures.roomier

pub invariant_of-self-in_err-to_call : goal.invariant_of-self-in_err-to_call
invariant_of-self-in_err-to_call c = offsets_roomier c.self.inside.tables c.make_room.new.self c.self.inside.calls.items c.self.inside.reserved.items c.self.invariant c.make_room.ensures.roomier

pub invariant_of-self-in_err-push : goal.invariant_of-self-in_err-push
invariant_of-self-in_err-push c =
    let stays : c.push.new.self.items ≡ c.self.inside.reserved.items = search rules in
    subst (IsOffsets c.make_room.new.self c.self.inside.calls.items) (sym stays)
    (offsets_roomier c.self.inside.tables c.make_room.new.self c.self.inside.calls.items c.self.inside.reserved.items c.self.invariant c.make_room.ensures.roomier)

pub invariant_of-self-2 : goal.invariant_of-self-2
invariant_of-self-2 c =
    let pushed : c.push.new.self.items ≡ c.self.inside.reserved.items ++ c.in_ok-to_call.field-0 ∷ [] = search rules in
    let len : c.len.result ≡ length c.self.inside.reserved.items = search rules in
    subst (IsOffsets c.make_room.new.self c.self.inside.calls.items) (sym pushed)
    (offsets_reserved c.self.inside.tables c.make_room.new.self c.self.inside.calls.items c.self.inside.reserved.items c.self.invariant c.make_room.ensures.roomier c.in_ok-to_call.field-0
    (subst (HasRows c.make_room.new.self) (sym c.in_ok-to_call.ensures) c.in_ok-make_room.ensures.rows)
    (subst (λ (n : ℕ). IsSome (get nat_cmp c.make_room.new.self.order (c.self.inside.tables.next + n))) len c.in_ok-make_room.ensures.place)
    (subst (λ (n : ℕ). c.self.inside.tables.next + n + 1 < 2 ^ 64) len c.in_ok-make_room.ensures.small))
