use Rattle.std.proofs.Common.{None}
use Rattle.cw_open.proofs.JudgedLemmas.{said-of, met-on}
use Rattle.cw_open.proofs.judged_disks.judge_read.Goals as goal

pub returns-in-Ok-None-clause-sound : goal.returns-in-Ok-None-clause-sound
returns-in-Ok-None-clause-sound g c = let split = c.split-judged in
    said-of c.args.read.logs c.args.read.unreadable split.result.0 split.result.1 split.ensures.judged split.ensures.gates
    c.in-Ok-None.field-0 None c.in-Ok-None.field-0-is c.in-Ok-None.ensures

pub returns-in-Ok-Some-clause-cause : goal.returns-in-Ok-Some-clause-cause
returns-in-Ok-Some-clause-cause g c = let split = c.split-judged in
    met-on c.args.read.logs c.args.read.unreadable split.result.0 split.result.1 split.ensures.judged split.ensures.gates
    c.in-Ok-Some.field-0 c.in-Ok-Some.met c.in-Ok-Some.field-0-is c.in-Ok-Some.ensures c.chosen_disk-disk.result c.chosen_disk-disk.ensures
