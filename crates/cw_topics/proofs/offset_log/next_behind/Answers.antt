use Rattle.std.proofs.Common.{List, sym, subst}
use Rattle.cw_bytes.specs.declared.applied.Applied.{Applied}
use Rattle.cw_offset.specs.declared.body.OffsetEntry.{OffsetEntry}
use Rattle.cw_offset.specs.Log.{offset_records}
use Rattle.cw_topics.specs.Offsets.{IsNext, raised}
use Rattle.cw_topics.proofs.offset_log.next_behind.Goals as goal

pub returns-in-Records : goal.returns-in-Records
returns-in-Records c n is = subst (λ (e : OffsetEntry). IsNext (raised n (offset_records e)) c.raised.result) (sym c.in-Records.is)
    (subst (λ (l : List Applied). IsNext (raised n l) c.raised.result) c.as_slice.ensures (c.raised.ensures n is))
