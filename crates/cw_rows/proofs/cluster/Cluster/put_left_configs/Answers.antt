use Rattle.std.proofs.Common.{ap}
use Rattle.cw_rows.specs.Kept.{Kept}
use Rattle.cw_rows.proofs.PutLeft.{configs-put}
use Rattle.cw_rows.proofs.cluster.Cluster.put_left_configs.Goals as goal

pub returns : goal.returns
returns c = rw (c.put_left_configs.ensures) (configs-put c.args.self.now _ c.args.left c.args.side c.requires.left c.requires.side c.ranges.side.fits c.requires.alive
    (ap (λ (k : Kept). k.setting) c.self.view_is) (ap (λ (k : Kept). record (k.state) { config = record { frames = c.args.left.frames; side = c.args.side } }) c.self.view_is))
