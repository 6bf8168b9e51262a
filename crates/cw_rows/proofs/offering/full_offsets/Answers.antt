use Rattle.std.proofs.Common.{ℕ, List, length, ap, arith}
use Rattle.cw_types.specs.declared.logs.LogName.TheVariants.{Offsets}
use Rattle.cw_offset.specs.Body.{entry_bytes}
use Rattle.cw_offset.specs.declared.body.OffsetEntry.{OffsetEntry}
use Rattle.cw_model.specs.declared.fault.WorldFault.TheVariants.{Full}
use Rattle.cw_model.specs.Tasks.{span_of}
use Rattle.cw_rows.proofs.OffsetDue.{as_long}
use Rattle.cw_rows.proofs.offering.full_offsets.Goals as goal

pub returns : goal.returns
returns c n other = ap (λ (m : ℕ). Full Offsets c.args.bytes m) (omega (
  arith,
  as_long c.args.tag (span_of c.args.own.now) c.args.stamp 18446744073709551615 n,
  c.len.ensures,
  ap (λ (l : List ℕ). length l) c.in-Ok-write_offsets.ensures.bytes,
  ap (λ (e : OffsetEntry). length (entry_bytes e)) c.in-Ok.ensures.entry,
))
