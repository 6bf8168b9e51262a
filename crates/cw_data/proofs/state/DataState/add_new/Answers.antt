use Rattle.std.proofs.Common.{[], ◌++◌, ◌∷◌, subst}
use Rattle.cw_data.specs.declared.entry.DataEntry.{DataEntry}
use Rattle.cw_data.specs.Tables.{HasRoom}
use Rattle.cw_data.proofs.Settled.{alone}
use Rattle.cw_data.proofs.state.DataState.add_new.Goals as goal

pub settle-requires-clause-has : goal.settle-requires-clause-has
settle-requires-clause-has c =
    alone c.make_room.new.tables c.deref.result.now c.args.entry []
    (subst (λ (e : DataEntry). HasRoom c.make_room.new.tables (c.deref.result.now ++ e ∷ [])) c.of.ensures c.in_ok-make_room.ensures.there)
