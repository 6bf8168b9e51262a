use Rattle.std.proofs.Common.{◌∙◌, ◌+◌, ◌++◌, ◌∷◌, [], List, length, take, drop, ap, sym, subst, arith, inl, length-append}
use Rattle.cw_data.specs.declared.entry.DataEntry.{DataEntry}
use Rattle.cw_data.specs.Tables.{IsFirstAt, HasRoom, FitsBehind, entry_of}
use Rattle.cw_data.proofs.Settled.{alone, without, taken_is, has_all}
use Rattle.cw_data.proofs.state.DataState.add_reserved.Goals as goal

pub settle-requires : goal.settle-requires
settle-requires c =
    let first = subst (λ (l : List DataEntry). IsFirstAt (entry_of c.args.entry.now) l c.in-Some.at) c.deref.ensures.value c.in-Some.ensures in
    let one = taken_is c.self.inside.reserved.items c.in-Some.at (entry_of c.args.entry.now) c.remove-reserved.result first c.remove-reserved.ensures.value in
    record {
      room = omega (arith, c.self.invariant.room, first.within);
      has = alone c.self.inside.tables (take c.in-Some.at c.self.inside.reserved.items) c.remove-reserved.result (drop (c.in-Some.at + 1) c.self.inside.reserved.items)
          (has_all c.self.inside.tables c.self.inside.reserved.items c.in-Some.at (entry_of c.args.entry.now) c.remove-reserved.result first one c.self.invariant.has);
      kept = c.self.invariant.kept;
      fits = subst (FitsBehind c.self.inside.entries.items) (sym one) (subst (λ log. FitsBehind log.entries (entry_of c.args.entry.now)) (sym c.self.view_is) c.requires);
    }

pub invariant_of-self : goal.invariant_of-self
invariant_of-self c =
    let first = subst (λ (l : List DataEntry). IsFirstAt (entry_of c.args.entry.now) l c.in-Some.at) c.deref.ensures.value c.in-Some.ensures in
    let one = taken_is c.self.inside.reserved.items c.in-Some.at (entry_of c.args.entry.now) c.remove-reserved.result first c.remove-reserved.ensures.value in
    record {
      kept = c.settle.ensures.kept;
      has = subst (HasRoom c.settle.new.tables) (sym c.remove-reserved.ensures.by_index.2)
          (c.settle.ensures.has (take c.in-Some.at c.self.inside.reserved.items) (drop (c.in-Some.at + 1) c.self.inside.reserved.items)
          (has_all c.self.inside.tables c.self.inside.reserved.items c.in-Some.at (entry_of c.args.entry.now) c.remove-reserved.result first one c.self.invariant.has));
      room = omega (arith, c.self.invariant.room, c.remove-reserved.ensures.len, c.settle.ensures.room, ap length c.settle.ensures.pushed, length-append c.self.inside.entries.items (c.remove-reserved.result ∷ []));
    }

pub returns-in-Some-clause-done : goal.returns-in-Some-clause-done
returns-in-Some-clause-done c yes' =
    let first = subst (λ (l : List DataEntry). IsFirstAt (entry_of c.args.entry.now) l c.in-Some.at) c.deref.ensures.value c.in-Some.ensures in
    let one = taken_is c.self.inside.reserved.items c.in-Some.at (entry_of c.args.entry.now) c.remove-reserved.result first c.remove-reserved.ensures.value in
    rw (← c.self.view_is) (record {
      entries = c.settle.ensures.pushed ∙ ap (λ (e : DataEntry). c.self.inside.entries.items ++ e ∷ []) one;
      reserved = inl (without c.self.inside.reserved.items c.remove-reserved.new.self.items c.in-Some.at c.remove-reserved.ensures.by_index.2 (entry_of c.args.entry.now) first);
    })
