use Rattle.std.proofs.Common.{◌++◌, List, take, ap, sym, subst, ◌∙◌, arith}
use Rattle.std.specs.List.{filter_map}
use Rattle.std.proofs.lemmas.List.{take_all}
use Rattle.std.proofs.lemmas.List.Elements.{filter_map-append}
use Rattle.cw_bytes.specs.declared.applied.Applied.{Applied}
use Rattle.cw_bytes.specs.Frames.{joined}
use Rattle.cw_config.specs.declared.records.ConfigRecord.{ConfigRecord}
use Rattle.cw_config.specs.Compaction.{keyed}
use Rattle.cw_compact.specs.Clean.{IsClean}
use Rattle.cw_compact.proofs.Joined.{joined_more}
use Rattle.cw_compact.proofs.keyed.clean_of.Goals as goal

pub loop-frame-preserved : goal.loop-frame-preserved
loop-frame-preserved c =
    let frames : List (List Applied) = c.args.frames.now in
    let before : List Applied = joined (take c.loop-frame.frame-index frames) in
    subst (λ (l : List ConfigRecord). IsClean c.note_keyed.new.clean l)
    (sym (ap (filter_map keyed) (joined_more frames c.loop-frame.frame-index c.frame-item.result c.loop-frame-test.true c.frame-item.is) ∙ filter_map-append keyed before c.frame-item.result))
    (subst (λ (f : List Applied). IsClean c.note_keyed.new.clean (filter_map keyed before ++ filter_map keyed f)) c.as_slice.ensures
    (c.in_ok-note_keyed.ensures (filter_map keyed before) c.loop-frame.invariant))

pub returns : goal.returns
returns c = subst (λ (l : List (List Applied)). IsClean c.loop-frame.clean (filter_map keyed (joined l))) (take_all c.loop-frame.frame-index c.args.frames.now (omega arith)) c.loop-frame.invariant
