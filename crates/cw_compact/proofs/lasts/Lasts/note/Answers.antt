use Rattle.std.proofs.Common.{◌∙◌}
use Rattle.cw_compact.proofs.Noted.{noted}
use Rattle.cw_compact.proofs.lasts.Lasts.note.Goals as goal

pub invariant_of-self-2 : goal.invariant_of-self-2
invariant_of-self-2 c =
    rw (c.higher-self-inside.ensures, c.and-self-inside.ensures)
    (noted c.self.inside.offsets c.insert.new.self c.self.inside.highest c.self.inside.records.items c.args.written.now c.into_vec-key.result (c.into_vec-key.ensures ∙ c.in_ok-copy.ensures) c.in_ok-insert.ensures.updates c.self.invariant)
