use Rattle.std.proofs.Common.{rules, ◌≡◌, [], sym, subst}
use Rattle.cw_offset.specs.Tables.{IsOffsets}
use Rattle.cw_offset.proofs.Rooms.{offsets_none}
use Rattle.cw_offset.proofs.state.OffsetState.unreserve.Goals as goal

pub invariant_of-self : goal.invariant_of-self
invariant_of-self c =
    let empty : c.replace-reserved.new.dest.items ≡ [] = search rules in
    subst (IsOffsets c.self.inside.tables c.self.inside.calls.items) (sym empty) (offsets_none c.self.inside.tables c.self.inside.calls.items c.self.inside.reserved.items c.self.invariant)
