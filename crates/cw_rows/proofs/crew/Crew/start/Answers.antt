use Rattle.std.proofs.Common.{◌<◌, length, sym, subst, rules}
use Rattle.cw_rows.specs.Crew.{CrewState}
use Rattle.cw_rows.proofs.CrewLemmas.{crew-started}
use Rattle.cw_rows.proofs.crew.Crew.start.Goals as goal

pub invariant_of-self-2 : goal.invariant_of-self-2
invariant_of-self-2 c = rw (c.push_made.ensures, c.make_room.ensures.same)
    (crew-started _ _ _ _ c.args.instance (subst (λ (s : CrewState). c.args.instance.worker < length s.rows) (sym c.self.view_is) c.requires.worker)
    c.requires.on c.len-number.result (search rules) _ c.in_ok-add_number.ensures.ok c.self.invariant)
