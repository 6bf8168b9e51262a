use Rattle.std.proofs.Common.{◌≡◌, ℕ, ◌++◌, ◌∷◌, [], false, List, Some, sym, ap, subst, ◌∙◌}
use Rattle.cw_types.specs.declared.ids.Tag.{Tag}
use Rattle.cw_offset.specs.Calls.{Calls}
use Rattle.cw_offset.specs.declared.body.OffsetEntry.{OffsetEntry}
use Rattle.cw_offset.specs.declared.call.OffsetCall.{OffsetCall}
use Rattle.cw_offset.specs.Log.{offset_tag, offset_records, is_marked}
use Rattle.cw_offset.specs.Replay.{told_in}
use Rattle.cw_topics.specs.Offsets.{OffsetLogState, IsNext, raised}
use Rattle.cw_topics.proofs.Told.{log-more}
use Rattle.cw_topics.proofs.offset_log.OffsetLog.put.Goals as goal

pub invariant_of-self : goal.invariant_of-self
invariant_of-self c =
    let calls_is : c.tell_each.new.state.calls ≡ c.self.inside.state.calls ++ told_in c.args.frame =
    ap (λ (t : Calls). t.calls) c.tell_each.ensures ∙ ap (λ (l : List OffsetCall). c.self.inside.state.calls ++ l) (c.as_slice.ensures.value ∙ c.into_parts-entry.ensures.calls) in
    let frames_is : c.hang.new.frames ≡ c.self.inside.frames ++ c.args.frame ∷ [] =
    c.hang.ensures ∙ ap (λ (l : List OffsetEntry). c.self.inside.frames ++ l) c.into_parts-entry.ensures.list in
    rw (calls_is, frames_is) (log-more c.self.inside.frames c.self.inside.state.calls c.args.frame c.self.inside.next c.next_behind-self-inside.result c.self.invariant
    (subst (λ (l : OffsetLogState). (tag : Tag) → offset_tag c.args.frame ≡ Some tag → is_marked tag l.frames ≡ false) (sym c.self.view_is) c.requires.unmarked)
    (subst (λ (e : OffsetEntry). (n : ℕ) → IsNext n c.self.inside.next → IsNext (raised n (offset_records e)) c.next_behind-self-inside.result) c.into_parts-entry.ensures.entry c.next_behind-self-inside.ensures))
