use Rattle.std.proofs.Common.{rules, ◌≡◌, ◌++◌, ◌∷◌, [], sym, subst, length, IsSome, ◌+◌, ◌<◌, ◌^◌, ℕ}
use Rattle.std.proofs.lemmas.List.{append-nil}
use Rattle.std.specs.BTreeMap.{get}
use Rattle.std.specs.Ordering.{nat_cmp}
use Rattle.cw_offset.specs.Tables.{HasRows, HasRoom}
use Rattle.cw_offset.proofs.Rooms.{offsets_roomier, roomier_keeps, roomier_more}
use Rattle.cw_offset.proofs.state.OffsetState.call.Goals as goal

pub invariant_of-self-in_err-make_room : goal.invariant_of-self-in_err-make_room
invariant_of-self-in_err-make_room c = offsets_roomier c.self.inside.tables c.make_room.new.self c.self.inside.calls.items c.self.inside.reserved.items c.self.invariant c.make_room.ensures.roomier

pub invariant_of-self-in_err-to_call : goal.invariant_of-self-in_err-to_call
invariant_of-self-in_err-to_call c = offsets_roomier c.self.inside.tables c.make_room.new.self c.self.inside.calls.items c.self.inside.reserved.items c.self.invariant c.make_room.ensures.roomier

pub add-requires-2-clause-kept : goal.add-requires-2-clause-kept
add-requires-2-clause-kept c = roomier_keeps c.self.inside.tables c.make_room.new.self c.make_room.ensures.roomier c.self.inside.calls.items c.self.invariant.kept

pub invariant_of-self-2 : goal.invariant_of-self-2
invariant_of-self-2 c =
    let len : c.len.result ≡ length c.self.inside.reserved.items = search rules in
    let room : HasRoom c.make_room.new.self (c.self.inside.reserved.items ++ c.in_ok-to_call.field-0 ∷ []) =
    roomier_more c.self.inside.tables c.make_room.new.self c.make_room.ensures.roomier c.self.inside.reserved.items c.self.invariant.room c.in_ok-to_call.field-0
    (subst (HasRows c.make_room.new.self) (sym c.in_ok-to_call.ensures) c.in_ok-make_room.ensures.rows)
    (subst (λ (n : ℕ). IsSome (get nat_cmp c.make_room.new.self.order (c.self.inside.tables.next + n))) len c.in_ok-make_room.ensures.place)
    (subst (λ (n : ℕ). c.self.inside.tables.next + n + 1 < 2 ^ 64) len c.in_ok-make_room.ensures.small) in
    record { kept = c.add-2.ensures.kept; room = subst (HasRoom c.add-2.new.self) (append-nil c.self.inside.reserved.items) (c.add-2.ensures.room c.self.inside.reserved.items [] room) }
