use Rattle.std.proofs.Common.{ap, ◌<◌, ◌^◌, length, subst, sym}
use Rattle.cw_rows.specs.Kept.{Kept}
use Rattle.cw_rows.proofs.OffsetDue.{puts-offered, state-offered, unmarked-offered}
use Rattle.cw_rows.proofs.Few.{few}
use Rattle.cw_offset.specs.Body.{entry_bytes}
use Rattle.cw_rows.proofs.cluster.Cluster.put_put_offsets.Goals as goal

pub returns : goal.returns
returns c =
    let inside = c.self.inside in
    puts-offered c.args.i c.args.frame c.args.self.now _ c.requires.frame c.requires.passed c.requires.fits
    (ap (λ (k : Kept). k.setting) c.self.view_is) c.requires.room
    (state-offered inside.topics c.put_offset.new.self inside.crew c.set_phase.new.self
    inside.circle inside.journal.items inside.closed c.args.frame _ c.args.i c.args.self.now.state (ap (λ (k : Kept). k.state) c.self.view_is)
    c.put_offset.ensures.put c.set_phase.ensures)

pub put_offset-requires-clause-unmarked : goal.put_offset-requires-clause-unmarked
put_offset-requires-clause-unmarked c = unmarked-offered c.args.i c.args.frame c.args.self.now.state _ c.requires.frame
    (ap (λ (k : Kept). k.state.offsets.frames) c.self.view_is) c.requires.unmarked

pub put_offset-requires-clause-few : goal.put_offset-requires-clause-few
put_offset-requires-clause-few c = subst (λ (k : Kept). length k.state.offsets.frames < 2 ^ 62) (sym c.self.view_is) (few entry_bytes c.args.self.now.state.offsets.frames _ c.requires.room)
