use Rattle.std.proofs.Common.{◌<◌, length, sym, subst}
use Rattle.cw_model.specs.State.{Cluster}
use Rattle.cw_laws.proofs.Sync.{live-within}
use Rattle.cw_turns.proofs.closed.tell_closed.Goals as goal

pub entry_of_fault-requires : goal.entry_of_fault-requires
entry_of_fault-requires g c = subst (λ (s : Cluster). c.args.w < length s.rows) (sym c.cluster.ensures.state) (live-within c.args.w c.args.world.now.state c.requires.live)
