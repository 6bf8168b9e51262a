use Rattle.std.proofs.Common.{rules, ◌≡◌, ◌<◌, ◌++◌, length, slice_set}
use Rattle.cw_board.specs.Shelving.{added, add_at}
use Rattle.cw_board.proofs.Shelved.{records, set_added, set_same, both_ends}
use Rattle.cw_board.proofs.shelves.add_to.Goals as goal

pub returns : goal.returns
returns c =
    let items = c.args.shelves.now.items in
    let w = c.args.worker in
    let old = c.index_mut.result.now in
    let new = c.add.new.self in
    let more = added c.args.applied.now in
    let low : w < length items = search rules in
    both_ends (new.config ≡ old.config ++ more) (records (slice_set items w new) ≡ add_at w more (records items)) (new.config ≡ old.config) (records (slice_set items w new) ≡ records items)
    c.add.result (set_added items w old new more low c.index_mut.ensures.value) (set_same items w old new low c.index_mut.ensures.value) c.add.ensures.ok c.add.ensures.err
