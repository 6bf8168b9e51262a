use Rattle.std.proofs.Common.{List, ℕ, subst}
use Rattle.cw_model.specs.Cases.{empty_cluster}
use Rattle.cw_model.specs.Reopening.{stored_of}
use Rattle.cw_open.specs.Opened.{IsSetBy}
use Rattle.cw_gen.proofs.Opened.{empty-tell, no_files, no_files-stand, only-wants, opened-empty, setting-is, tell-all}
use Rattle.cw_gen.proofs.opening.open.Goals as goal

pub returns-in-Ok-clause-state : goal.returns-in-Ok-clause-state
returns-in-Ok-clause-state g c =
    let told = empty-tell g.D.Disk c.args.disks c.requires.empty in
    opened-empty c.in-Ok.world.state
    (c.in-Ok.ensures.again no_files (stored_of empty_cluster) empty_cluster told no_files-stand c.empty_files_stand_for_the_empty_cluster.ensures)
    (c.in-Ok.ensures.files no_files told)

pub returns-in-Ok-clause-setting : goal.returns-in-Ok-clause-setting
returns-in-Ok-clause-setting g c =
    setting-is c.args.group c.args.delay c.in-Ok.world.setting c.in-Ok.world.state (returns-in-Ok-clause-state g c)
    (subst (λ (feeds : List (List ℕ × List ℕ)). IsSetBy c.args.group c.args.delay feeds c.in-Ok.world.setting) c.in_ok-feeds.ensures c.in-Ok.ensures.setting)
    c.in-Ok.ensures.agreed

pub returns-in-Ok-clause-tells : goal.returns-in-Ok-clause-tells
returns-in-Ok-clause-tells g c = tell-all g.D.Disk c.args.disks c.in-Ok.world.logs c.in-Ok.ensures.from c.requires.empty

pub unreachable-requires : goal.unreachable-requires
unreachable-requires g c =
    only-wants _ _ g.D.Disk c.args.disks c.in-Err.fault.disks c.in-Err.fault.cause c.requires.steady
    (c.in-Err.ensures.again no_files (stored_of empty_cluster) empty_cluster (empty-tell g.D.Disk c.args.disks c.requires.empty) no_files-stand c.empty_files_stand_for_the_empty_cluster.ensures)
    c.in-Err.ensures.cause c.in-Damaged.is
