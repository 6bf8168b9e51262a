-- What a call is answered where its event was refused. The codes are this project's own.
use Rattle.cw_route.specs.declared.reply.Reply.{Reply}
use Rattle.cw_rest.specs.Messages.{memory_reply, full_reply, failed_reply, rebalancing}
use Rattle.cw_model.specs.declared.fault.WorldFault.{WorldFault}
use Rattle.cw_model.specs.declared.fault.WorldFault.TheVariants.{Fenced, StaleGeneration, PendingFence, BadCut, Gone}
use Rattle.cw_model.specs.declared.fault.WorldFault.TheVariants.{Full, StoreFault, Closed, Dead, Group, TooMany, Memory}

-- a disk failed, now or before; a log is full; memory ran out; or the worker can't write now
abbrev pub fault_reply : WorldFault → Reply
fault_reply (StoreFault disk count) = failed_reply
fault_reply (Closed disk count) = failed_reply
fault_reply (Full log length frame) = full_reply log
fault_reply Memory = memory_reply
fault_reply (Fenced own current) = rebalancing
fault_reply (StaleGeneration own current) = rebalancing
fault_reply PendingFence = rebalancing
fault_reply (BadCut from to) = rebalancing
fault_reply (Gone i) = rebalancing
fault_reply (Dead w) = rebalancing
fault_reply (Group fault) = rebalancing
fault_reply TooMany = rebalancing
