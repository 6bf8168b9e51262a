use Rattle.std.proofs.Common.{refl}
use Rattle.cw_rows.proofs.CrewLemmas.{numbers-within, numbers-read}
use Rattle.cw_rows.proofs.RunningLemmas.{reports-of, crew-reports}
use Rattle.cw_rows.proofs.crew.Crew.report.Goals as goal

pub report_among-requires : goal.report_among-requires
report_among-requires c =
    let read = numbers-read _ _ _ _ c.self.invariant _ c.self.view_is c.args.w c.requires c.index.result.now c.index.ensures in
    rw (c.as_slice.ensures, read) (numbers-within c.args.w c.self.inside.instances.items)

pub invariant_of-self : goal.invariant_of-self
invariant_of-self c =
    let read = numbers-read _ _ _ _ c.self.invariant _ c.self.view_is c.args.w c.requires c.index.result.now c.index.ensures in
    rw (c.report_among.ensures, c.as_slice.ensures, read, reports-of c.args.w c.args.item.now c.args.state c.self.inside.instances.items)
    (crew-reports _ _ _ _ c.args.w c.args.item.now c.args.state c.self.invariant)

pub returns : goal.returns
returns c =
    let read = numbers-read _ _ _ _ c.self.invariant _ c.self.view_is c.args.w c.requires c.index.result.now c.index.ensures in
    rw (c.report_among.ensures, c.as_slice.ensures, read, reports-of c.args.w c.args.item.now c.args.state c.self.inside.instances.items, ← c.self.view_is) refl
