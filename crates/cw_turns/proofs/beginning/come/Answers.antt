use Rattle.std.proofs.Common.{◌<◌, ◌∙◌, subst, ℕ, sym}
use Rattle.cw_turns.proofs.Spawned.{came, spawn-on}
use Rattle.cw_turns.proofs.beginning.come.Goals as goal

pub returns-in-Ok : goal.returns-in-Ok
returns-in-Ok g c =
    let old = c.args.world.now in let new = c.spawn.new.self in
    let did = came old new c.requires.alive (subst (λ (n : ℕ). n < 64) (sym c.requires.next) c.requires.most) c.spawn.result c.spawn.ensures in
    record {
      goes_on = spawn-on g.D.Disk old new c.spawn.result c.requires.alive (c.is_safe.ensures.holds c.requires.alive) c.spawn.ensures;
      journal = did.journal;
      alive = did.alive ∙ c.requires.alive;
      same = (c.spawn.ensures.setting, c.spawn.ensures.name);
      rows = did.rows c.in-Ok.field-0 c.in-Ok.is;
      wants = tt;
    }

pub returns-in-Err : goal.returns-in-Err
returns-in-Err g c =
    let old = c.args.world.now in let new = c.spawn.new.self in
    let did = came old new c.requires.alive (subst (λ (n : ℕ). n < 64) (sym c.requires.next) c.requires.most) c.spawn.result c.spawn.ensures in
    record {
      goes_on = spawn-on g.D.Disk old new c.spawn.result c.requires.alive (c.is_safe.ensures.holds c.requires.alive) c.spawn.ensures;
      journal = did.journal;
      alive = did.alive ∙ c.requires.alive;
      same = (c.spawn.ensures.setting, c.spawn.ensures.name);
      rows = tt;
      wants = did.wants c.in-Err.fault c.in-Err.is;
    }
