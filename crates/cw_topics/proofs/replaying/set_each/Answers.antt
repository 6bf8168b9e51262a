use Rattle.std.proofs.Common.{take, [], ◌∷◌}
use Rattle.std.proofs.Common.{map}
use Rattle.cw_txn.specs.declared.entry.SetOffset.{SetOffset}
use Rattle.cw_topics.proofs.Replays.{none-told, more-told, all-told, free-told, set_of, each-set}
use Rattle.cw_topics.proofs.replaying.set_each.Goals as goal

pub loop-set-init : goal.loop-set-init
loop-set-init c = none-told (map set_of) (λ (set : SetOffset). set_of set ∷ []) each-set c.args.state.now c.args.list.now c.requires

pub tell_set-requires : goal.tell_set-requires
tell_set-requires c = free-told (map set_of (take c.loop-set.set-index c.args.list.now)) c.args.state.now c.loop-set.state c.loop-set.invariant

pub loop-set-preserved : goal.loop-set-preserved
loop-set-preserved c =
    more-told (map set_of) (λ (set : SetOffset). set_of set ∷ []) each-set c.args.state.now c.args.list.now c.loop-set.set-index c.loop-set.state c.loop-set.invariant c.set-item.result
    c.loop-set-test.true c.set-item.is c.tell_set.new.state c.in_ok-tell_set.ensures

pub returns : goal.returns
returns c = all-told (map set_of) (λ (set : SetOffset). set_of set ∷ []) each-set c.args.state.now c.args.list.now c.loop-set.set-index c.loop-set.state c.loop-set.invariant c.loop-set-test.false
