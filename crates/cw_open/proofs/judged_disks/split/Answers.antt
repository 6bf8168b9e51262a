use Rattle.cw_open.proofs.JudgedLemmas.{found-in-some}
use Rattle.cw_open.proofs.judged_disks.split.Goals as goal

pub returns-clause-found : goal.returns-clause-found
returns-clause-found g c =
    found-in-some c.args.logs c.into_parts-config_frames.ensures.found c.into_parts-config_frames.ensures.small c.into_parts-offsets_frames.ensures.found c.into_parts-offsets_frames.ensures.small
    c.into_parts-status_frames.ensures.found c.into_parts-status_frames.ensures.small c.into_parts-txn_frames.ensures.found c.into_parts-txn_frames.ensures.small
    c.into_parts-batches_frames.ensures.found c.into_parts-batches_frames.ensures.small
