use Rattle.cw_model.specs.State.{Cluster}
use Rattle.cw_model.specs.Reopening.{stored_of}
use Rattle.cw_model.specs.StandsFor.{StandFor}
use Rattle.cw_world.specs.World.{WorldState}
use Rattle.cw_open.specs.Opened.{logs_in, opened_by}
use Rattle.cw_open.specs.OpenedFrom.{AreFrom}
use Rattle.cw_open.specs.Reopened.{DiskFiles, FilesHold, TellAll}
use Rattle.cw_open.proofs.CauseLemmas.{kept-part}
use Rattle.cw_open.proofs.LeavingLemmas.{told-left}
use Rattle.cw_open.proofs.ReopenLemmas.{again, judged-stand, memory-why, no-damage, world-holds}
use Rattle.cw_open.proofs.StayLemmas.{answer-none-fell, given-stay, none-fell}
use Rattle.cw_open.proofs.reopening.reopen.Goals as goal

pub returns-in-Ok-clause-stands : goal.returns-in-Ok-clause-stands
returns-in-Ok-clause-stands g c = let judged = c.in-Ok.judged in
    kept-part c.build.result (λ (w : WorldState g.row.D.Denot). w.state) (opened_by judged) (λ (s : Cluster). StandFor (stored_of s) s) c.build.ensures.state (judged-stand judged c.in-Ok.ensures.sound)

pub returns-in-Ok-clause-files : goal.returns-in-Ok-clause-files
returns-in-Ok-clause-files g c = let judged = c.in-Ok.judged in
    kept-part c.build.result (λ (w : WorldState g.row.D.Denot). w.state) (opened_by judged) (λ (s : Cluster). (files : DiskFiles) → TellAll g.D.Disk c.args.disks files → FilesHold files (stored_of s))
    c.build.ensures.state c.in-Ok.ensures.files

pub returns-in-Ok-clause-from : goal.returns-in-Ok-clause-from
returns-in-Ok-clause-from g c = let judged = c.in-Ok.judged in
    kept-part c.build.result (λ (w : WorldState g.row.D.Denot). w.logs) (logs_in judged) (AreFrom g.D.Disk c.args.disks) c.build.ensures.logs c.in-Ok.ensures.from

pub returns-in-Ok-clause-cause : goal.returns-in-Ok-clause-cause
returns-in-Ok-clause-cause g c = memory-why g.D.Disk c.args.disks c.build.result c.build.ensures.memory

pub returns-in-Ok-clause-logs : goal.returns-in-Ok-clause-logs
returns-in-Ok-clause-logs g c = let judged = c.in-Ok.judged in
    world-holds g.D.Disk c.build.result judged c.in-Ok.ensures.logs c.build.ensures.state c.build.ensures.logs

pub returns-in-Ok-clause-again : goal.returns-in-Ok-clause-again
returns-in-Ok-clause-again g c = λ files stored s tell lists stand.
    again g.D.Disk c.args.disks files stored s tell lists stand c.build.result (returns-in-Ok-clause-stands g c) (returns-in-Ok-clause-files g c) (returns-in-Ok-clause-cause g c)

pub returns-in-Ok-clause-left : goal.returns-in-Ok-clause-left
returns-in-Ok-clause-left g c = λ files stored s tell leave stand.
    returns-in-Ok-clause-again g c files stored s tell (leave files (told-left g.D.Disk g.met.D.Disk.as_read c.args.disks files tell.0 tell.1.0 tell.1.1.0 tell.1.1.1.0 tell.1.1.1.1.0)) stand

pub returns-in-Err-clause-again : goal.returns-in-Err-clause-again
returns-in-Err-clause-again g c = λ files stored s tell lists stand.
    no-damage g.D.Disk c.args.disks files stored s tell lists stand c.in-Err.fault.disks c.in-Err.fault.cause c.in-Err.ensures.cause

pub returns-in-Err-clause-left : goal.returns-in-Err-clause-left
returns-in-Err-clause-left g c = λ files stored s tell leave stand.
    returns-in-Err-clause-again g c files stored s tell (leave files (told-left g.D.Disk g.met.D.Disk.as_read c.args.disks files tell.0 tell.1.0 tell.1.1.0 tell.1.1.1.0 tell.1.1.1.1.0)) stand

pub returns-in-Ok-clause-stay : goal.returns-in-Ok-clause-stay
returns-in-Ok-clause-stay g c = given-stay g.D.Disk c.args.disks (logs_in c.in-Ok.judged) c.build.result c.in-Ok.ensures.from c.build.ensures.disks

pub returns-in-Ok-clause-later : goal.returns-in-Ok-clause-later
returns-in-Ok-clause-later g c = answer-none-fell g.D.Disk c.args.disks c.build.result (returns-in-Ok-clause-from g c) (returns-in-Ok-clause-stay g c)

pub returns-in-Err-clause-later : goal.returns-in-Err-clause-later
returns-in-Err-clause-later g c = none-fell g.D.Disk c.args.disks c.in-Err.fault.disks c.in-Err.ensures.stay
