use Rattle.std.proofs.Common.{arith}
use Rattle.cw_bytes.proofs.Bodies.{is_found, is_only, not_refused}
use Rattle.cw_offset.specs.Body.{entry_bytes, IsEntry}
use Rattle.cw_offset.specs.BodyReading.{entry_at}
use Rattle.cw_offset.proofs.Bodies.{entry_takes, entry_again, itself}
use Rattle.cw_offset.proofs.body.read_offsets.Goals as goal

pub returns-clause-found : goal.returns-clause-found
returns-clause-found c = is_found entry_at entry_bytes IsEntry entry_takes entry_again itself c.args.body.now c.read_body.result (λ i. omega (arith, c.type_inv.body i)) c.read_body.ensures

pub returns-clause-only : goal.returns-clause-only
returns-clause-only c entry has spelled = is_only entry_at entry_bytes IsEntry entry_takes entry_again itself c.args.body.now c.read_body.result entry has spelled c.read_body.ensures

pub returns-clause-refused : goal.returns-clause-refused
returns-clause-refused c entry has spelled = not_refused entry_at entry_bytes IsEntry entry_takes entry_again itself c.args.body.now c.read_body.result entry has spelled c.read_body.ensures
