use Rattle.std.proofs.Common.{◌≡◌, List, sym, subst}
use Rattle.std.specs.List.{AllByRecursion}
use Rattle.cw_bytes.specs.Frames.{joined}
use Rattle.cw_offset.specs.Body.{HasRecords}
use Rattle.cw_offset.specs.Compaction.{compact_offsets}
use Rattle.cw_txn.specs.declared.entry.Entry.{Entry}
use Rattle.cw_rows.specs.Kept.{Kept}
use Rattle.cw_topics.specs.Left.{IsLeftLog}
use Rattle.cw_rows.proofs.cluster.Cluster.left_offsets.Goals as goal

pub left_offsets-requires-clause-whole : goal.left_offsets-requires-clause-whole
left_offsets-requires-clause-whole c = sym (subst (λ (k : Kept). joined k.state.txn ≡ k.state.entries) (sym c.self.view_is) c.requires.whole)

pub left_offsets-requires-clause-written : goal.left_offsets-requires-clause-written
left_offsets-requires-clause-written c =
    let whole = subst (λ (k : Kept). joined k.state.txn ≡ k.state.entries) (sym c.self.view_is) c.requires.whole in
    subst (λ (l : List Entry). AllByRecursion HasRecords (compact_offsets l c.self.inside.topics.offsets.frames)) (sym whole)
    (subst (λ (k : Kept). AllByRecursion HasRecords (compact_offsets k.state.entries k.state.offsets.frames)) (sym c.self.view_is) c.requires.written)

pub returns-in-Ok-clause-left : goal.returns-in-Ok-clause-left
returns-in-Ok-clause-left c =
    let whole = subst (λ (k : Kept). joined k.state.txn ≡ k.state.entries) (sym c.self.view_is) c.requires.whole in
    let frames = c.self.inside.topics.offsets.frames in
    subst (λ (k : Kept). IsLeftLog k.state.offsets.frames (compact_offsets k.state.entries k.state.offsets.frames) c.in-Ok.left) c.self.view_is
    (subst (λ (l : List Entry). IsLeftLog frames (compact_offsets l frames) c.in-Ok.left) whole c.in-Ok.ensures)
