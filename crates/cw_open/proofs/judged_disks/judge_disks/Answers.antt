use Rattle.cw_open.specs.Contents.{logs_read}
use Rattle.cw_open.specs.Judged.{judged_of}
use Rattle.cw_open.specs.Opened.{logs_in}
use Rattle.cw_open.specs.OpenedFrom.{AreFrom}
use Rattle.cw_open.proofs.CauseLemmas.{kept-part}
use Rattle.cw_open.proofs.JudgedLemmas.{answers-soundly, answers-logs, answers-files, answers-why, files-why}
use Rattle.cw_open.proofs.StayLemmas.{given-stay}
use Rattle.cw_open.proofs.judged_disks.judge_disks.Goals as goal

pub returns-in-Ok-clause-sound : goal.returns-in-Ok-clause-sound
returns-in-Ok-clause-sound g c = let read = c.in-Ok.read in
    answers-soundly read.logs read.unreadable c.in-Ok.ensures.what c.judge_read.result c.judge_read.ensures.same c.judge_read.ensures.found c.judge_read.ensures.sound

pub returns-in-Ok-clause-logs : goal.returns-in-Ok-clause-logs
returns-in-Ok-clause-logs g c = let read = c.in-Ok.read in
    answers-logs read.logs read.unreadable c.in-Ok.ensures.what g.D.Disk c.in-Ok.ensures.logs c.judge_read.result c.judge_read.ensures.same c.judge_read.ensures.found c.judge_read.ensures.sound

pub returns-in-Ok-clause-from : goal.returns-in-Ok-clause-from
returns-in-Ok-clause-from g c = let read = c.in-Ok.read in
    kept-part c.judge_read.result (λ j. j) (judged_of read.logs) (λ j. AreFrom g.D.Disk c.args.disks (logs_in j)) c.judge_read.ensures.same c.in-Ok.ensures.from

pub returns-in-Ok-clause-files : goal.returns-in-Ok-clause-files
returns-in-Ok-clause-files g c = let read = c.in-Ok.read in
    answers-files read.logs read.unreadable c.in-Ok.ensures.what g.D.Disk c.args.disks c.in-Ok.ensures.files c.judge_read.result c.judge_read.ensures.same c.judge_read.ensures.sound

pub returns-in-Ok-clause-cause : goal.returns-in-Ok-clause-cause
returns-in-Ok-clause-cause g c = let read = c.in-Ok.read in
    answers-why read.logs read.unreadable c.in-Ok.ensures.what g.D.Disk c.args.disks c.in-Ok.ensures.files c.judge_read.result c.judge_read.ensures.cause

pub returns-in-Err-clause-cause : goal.returns-in-Err-clause-cause
returns-in-Err-clause-cause g c = files-why g.D.Disk c.args.disks c.in-Err.fault c.in-Err.ensures.cause

pub returns-in-Ok-clause-stay : goal.returns-in-Ok-clause-stay
returns-in-Ok-clause-stay g c = given-stay g.D.Disk c.args.disks (logs_read c.in-Ok.read.logs) c.judge_read.result c.in-Ok.ensures.from c.judge_read.ensures.disks
