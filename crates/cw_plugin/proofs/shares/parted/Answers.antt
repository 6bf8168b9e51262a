use Rattle.std.proofs.Common.{◌+◌, ◌/◌, ◌%◌, length, map, ap}
use Rattle.std.specs.List.{join_with_byte}
use Rattle.cw_plugin.specs.Tasks.{groups}
use Rattle.cw_plugin.proofs.ShareLemmas.{parted_next, parted_done}
use Rattle.cw_plugin.proofs.shares.parted.Goals as goal

pub loop-index-preserved : goal.loop-index-preserved
loop-index-preserved c =
    let next = parted_next c.args.count c.loop-index.index (length c.args.texts.now / c.args.count) (length c.args.texts.now % c.args.count) _ c.loop-index.rest.now c.split_at.result.0.now c.split_at.result.1.now
    c.loop-index.groups.items c.push.new.self.items (map (join_with_byte 44) (groups c.args.count (length c.args.texts.now / c.args.count) (length c.args.texts.now % c.args.count) c.args.texts.now)) c.in_ok-joined.field-0
    c.loop-index-test.true (ap (λ n. length c.args.texts.now / c.args.count + n) c.from.ensures) c.loop-index.invariant.left c.split_at.ensures.front c.split_at.ensures.back c.in_ok-joined.ensures c.in_ok-push.ensures.items c.loop-index.invariant.made in
    record { left = next.0; made = next.1 }

pub returns : goal.returns
returns c = parted_done c.args.count c.loop-index.index (length c.args.texts.now / c.args.count) (length c.args.texts.now % c.args.count) c.loop-index.rest.now c.loop-index.groups.items _ c.loop-index-test.false c.loop-index.invariant.made
