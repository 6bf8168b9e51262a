use Rattle.std.proofs.Common.{cond}
use Rattle.std.specs.BTreeMap.{get}
use Rattle.cw_types.specs.Same.{same_tag, tag_order}
use Rattle.cw_data.proofs.RowLemmas.{room_less}
use Rattle.cw_data.proofs.unmarked.push_if.Goals as goal

pub returns-then-not-waits-clause-room : goal.returns-then-not-waits-clause-room
returns-then-not-waits-clause-room c n q was = room_less n (cond (same_tag q c.args.tag.now) 1 0) (get tag_order c.args.places.now q) was
