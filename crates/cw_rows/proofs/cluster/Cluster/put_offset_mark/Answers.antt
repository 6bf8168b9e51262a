use Rattle.std.proofs.Common.{◌<◌, ◌^◌, length, subst, sym}
use Rattle.cw_rows.proofs.OffsetDue.{unmarked-marker}
use Rattle.cw_rows.specs.Kept.{Kept}
use Rattle.cw_rows.proofs.Few.{few}
use Rattle.cw_offset.specs.Body.{entry_bytes}
use Rattle.cw_rows.proofs.cluster.Cluster.put_offset_mark.Goals as goal

pub put_offset-requires-clause-unmarked : goal.put_offset-requires-clause-unmarked
put_offset-requires-clause-unmarked c = unmarked-marker c.args.frame c.args.self.now.state c.self.inside.topics.offsets.frames c.requires.frame

pub put_offset-requires-clause-few : goal.put_offset-requires-clause-few
put_offset-requires-clause-few c = subst (λ (k : Kept). length k.state.offsets.frames < 2 ^ 62) (sym c.self.view_is) (few entry_bytes c.args.self.now.state.offsets.frames _ c.requires.room)
