use Rattle.std.proofs.Common.{unwrap_or, ◌==◌, ◌&&◌}
use Rattle.std.specs.List.{list_all}
use Rattle.cw_types.specs.declared.logs.LogName.TheVariants.{Config}
use Rattle.cw_types.specs.declared.ids.Tid.TheVariants.{Lead}
use Rattle.cw_config.specs.View.{generation_of, task_count_of}
use Rattle.cw_model.specs.Lookups.{row_of, seen, last_epoch}
use Rattle.cw_model.specs.Bodies.{config_body, config_length, frame_of, has_room}
use Rattle.cw_model.specs.Updates.{epoch_in, stamped, is_offset, next_config, with_configs, changes_row}
use Rattle.cw_model.specs.EventsLeading.{fencing_of, fence_record, without_fencing}
use Rattle.cw_model.proofs.LeadersRefusals.{append_fence-stays}
use Rattle.cw_model.proofs.refusals.refused_event_changes_nothing.Goals as goal

pub returns-clause-append_fence : goal.returns-clause-append_fence
returns-clause-append_fence c = λ s w name.
    let own = (fencing_of w name s).generation in
    let newest = unwrap_or (generation_of name s.configs) 0 in
    let frame = stamped (fence_record name (task_count_of name (seen w s))) s in
    append_fence-stays w s (changes_row w without_fencing (with_configs frame s)) (next_config s) s.closed (row_of w s).live
    (epoch_in (row_of w s).lead == last_epoch Lead s) (own == newest)
    (list_all (λ r. is_offset r.offset) frame && has_room (config_length s) (frame_of (config_body frame)))
    (epoch_in (row_of w s).lead) (last_epoch Lead s) own newest (config_length s) (frame_of (config_body frame)) Config
