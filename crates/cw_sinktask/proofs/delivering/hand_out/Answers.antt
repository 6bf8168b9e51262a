use Rattle.std.proofs.Common.{refl}
use Rattle.cw_model.specs.Lookups.{instance_of}
use Rattle.cw_model.specs.Polls.{gathered}
use Rattle.cw_edges.specs.Handing.{file_of}
use Rattle.cw_sinktask.proofs.Delivered.{into, cut-off}
use Rattle.cw_sinktask.proofs.delivering.hand_out.Goals as goal

pub returns-in-Err-pour : goal.returns-in-Err-pour
returns-in-Err-pour g c =
    let old = c.args.world.now in
    let own = instance_of c.args.i old.state in
    let d = c.args.delivery in
    record {
      world = refl;
      files = λ held is. let part = c.in-Err-pour.ensures.in_part held is in (
        part.0,
        part.1,
        cut-off old.setting c.args.i old.state c.requires.goes_on c.requires.phase c.requires.sink d (into (file_of own) (gathered own old.state.batches) d c.requires.gathered) held part.0 part.2,
      );
      told = c.pour.ensures.told;
      later = c.pour.ensures.later;
      counted = c.in-Err-pour.ensures.rose;
    }
