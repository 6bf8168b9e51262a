-- Alterations of offsets, as the definitions of calls have them.
use Rattle.serde_json.specs.View.{view}
use Rattle.cw_rest.specs.Offsets.{Alteration as AlterationOf}
use Rattle.cw_reply.specs.declared.alteration.Alteration.{Alteration}

-- an alteration that JSON tells
abbrev pub alteration_in : Alteration → AlterationOf
alteration_in alteration =
    record { partition = view alteration.partition.now; offset = view alteration.offset.now }
