use Rattle.std.proofs.Common.{arith, List}
use Rattle.std.specs.Global.{Vec}
use Rattle.cw_bytes.specs.declared.applied.Applied.{Applied}
use Rattle.cw_bytes.specs.Spelling.{records_bytes, AreRecords}
use Rattle.cw_bytes.specs.Reading.{records_at}
use Rattle.cw_bytes.proofs.Records.{records_takes, records_again}
use Rattle.cw_bytes.proofs.Bodies.{is_found, is_only, not_refused}
use Rattle.cw_bytes.proofs.body.read_record_body.Goals as goal

abbrev listed : Vec Applied → List Applied
listed records = records.items

pub returns-clause-found : goal.returns-clause-found
returns-clause-found c = is_found records_at records_bytes AreRecords records_takes records_again listed c.args.body.now c.read_body.result (λ i. omega (arith, c.type_inv.body i)) c.read_body.ensures

pub returns-clause-only : goal.returns-clause-only
returns-clause-only c records are spelled = is_only records_at records_bytes AreRecords records_takes records_again listed c.args.body.now c.read_body.result records are spelled c.read_body.ensures

pub returns-clause-refused : goal.returns-clause-refused
returns-clause-refused c records are spelled = not_refused records_at records_bytes AreRecords records_takes records_again listed c.args.body.now c.read_body.result records are spelled c.read_body.ensures
