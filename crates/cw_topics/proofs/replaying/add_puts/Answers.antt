use Rattle.std.proofs.Common.{rules, sym}
use Rattle.std.specs.List.{filter_map}
use Rattle.cw_offset.specs.Replay.{put_in}
use Rattle.cw_topics.proofs.Replays.{longer-row}
use Rattle.cw_topics.proofs.replaying.add_puts.Goals as goal

pub returns-in_ok-push_puts-in-Some : goal.returns-in_ok-push_puts-in-Some
returns-in_ok-push_puts-in-Some c =
    longer-row c.args.tag.now c.args.rows.now (c.get_mut.follows.lender c.push_puts.new.calls) c.push_puts.new.calls (λ q. search rules)
    c.in-Some.row.now (filter_map (put_in c.args.tag.now) c.args.records.now) (sym c.in-Some.ensures.value) c.in_ok-push_puts-in-Some.ensures
