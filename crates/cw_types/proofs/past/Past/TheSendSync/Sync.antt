-- A log owns nothing, so threads may share it.
use denote.RattleType.{RattleType}
use denote.Param.Send.{IsSend, IsSync, struct_send, whole-keyless, sendable}
use denote.Struct.Owning.{shape, to}
use Rattle.std.specs.contracts.marker.PhantomData as Mark
use Rattle.cw_types.specs.contracts.past.Past.{the_row, the_type}

pub sync : (A : RattleType) → IsSync (the_row A)
sync A =
    let O = the_type A in
    let mark : IsSend (Mark.the_field A).row = search sendable in
    record { shared = λ d b o κ q. whole-keyless _ _ (λ z vs. ((struct_send (shape O) (mark, tt)).owned (to O z) vs, tt)) q d b o }
