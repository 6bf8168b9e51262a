use Rattle.std.proofs.Common.{List, ap, subst, arith, inl}
use Rattle.cw_txn.specs.declared.entry.Entry.{Entry}
use Rattle.cw_txn.specs.Tables.{IsFirstAt, entry_of}
use Rattle.cw_txn.proofs.Kept.{Keeps-same}
use Rattle.cw_txn.proofs.Settled.{with_rows, settled, without, fewer, is_there}
use Rattle.cw_txn.proofs.coordinator.Coordinator.append.Goals as goal

pub settle-requires-clause-rows : goal.settle-requires-clause-rows
settle-requires-clause-rows c =
    let first = subst (λ (l : List Entry). IsFirstAt (entry_of c.args.entry.now) l c.in-Some.at) c.deref.ensures.value c.in-Some.ensures in
    c.self.invariant.rows (entry_of c.args.entry.now) (is_there c.self.inside.reserved.items c.in-Some.at (entry_of c.args.entry.now) first)

pub invariant_of-self : goal.invariant_of-self
invariant_of-self c =
    settled c.self.inside.tables c.self.inside.entries.items c.self.inside.reserved.items c.self.inside.length c.self.invariant
    c.settle.new.tables (entry_of c.args.entry.now) c.settle.new.entries.items c.args.self.now.entries c.remove-room.new.self.items c.settle.new.count
    c.settle.ensures.written c.settle.ensures.kept c.settle.ensures.rows (ap (λ t. t.entries) c.self.view_is) c.requires.legal c.requires.chains
    (fewer c.self.inside.reserved.items c.remove-room.new.self.items c.in-Some.at c.remove-room.ensures.by_index.2) c.settle.ensures.counted (omega (arith, c.self.invariant.few, c.remove-room.ensures.len))

pub returns-in-Some-clause-ok : goal.returns-in-Some-clause-ok
returns-in-Some-clause-ok c =
    let first = subst (λ (l : List Entry). IsFirstAt (entry_of c.args.entry.now) l c.in-Some.at) c.deref.ensures.value c.in-Some.ensures in
    rw (← c.self.view_is) (record {
      entries = c.settle.ensures.written;
      reserved = inl (without c.self.inside.reserved.items c.remove-room.new.self.items c.in-Some.at c.remove-room.ensures.by_index.2 (entry_of c.args.entry.now) first);
    })

pub invariant_of-self-in_err-make_room : goal.invariant_of-self-in_err-make_room
invariant_of-self-in_err-make_room c = with_rows c.self.inside.tables c.self.inside.entries.items c.self.inside.reserved.items c.self.inside.length c.self.invariant c.make_room.new.tables c.make_room.ensures.same c.make_room.ensures.kept

pub invariant_of-self-2 : goal.invariant_of-self-2
invariant_of-self-2 c =
    let ready = with_rows c.self.inside.tables c.self.inside.entries.items c.self.inside.reserved.items c.self.inside.length c.self.invariant c.make_room.new.tables c.make_room.ensures.same c.make_room.ensures.kept in
    settled c.make_room.new.tables c.self.inside.entries.items c.self.inside.reserved.items c.self.inside.length ready
    c.settle-2.new.tables (entry_of c.args.entry.now) c.settle-2.new.entries.items c.args.self.now.entries c.self.inside.reserved.items c.settle-2.new.count
    c.settle-2.ensures.written c.settle-2.ensures.kept c.settle-2.ensures.rows (ap (λ t. t.entries) c.self.view_is) c.requires.legal c.requires.chains
    (λ e there. there) c.settle-2.ensures.counted (omega (arith, c.self.invariant.counted, c.in_ok-make_room.ensures.few))

pub settle-requires-2-clause-kept : goal.settle-requires-2-clause-kept
settle-requires-2-clause-kept c = Keeps-same c.self.inside.tables c.make_room.new.tables c.self.inside.entries.items c.make_room.ensures.same c.self.invariant.kept
