use Rattle.std.proofs.Common.{◌≡◌, Ok, rules}
use Rattle.cw_script.specs.Words.{words}
use Rattle.cw_script.specs.Lines.{directive_of}
use Rattle.cw_script.proofs.Sayable.{words_sayable}
use Rattle.cw_script.proofs.read.read_line.Goals as goal

pub returns-in-Ok-clause-sayable : goal.returns-in-Ok-clause-sayable
returns-in-Ok-clause-sayable c =
    let says : directive_of (words c.args.line.now) ≡ Ok c.in-Ok.directive = search rules in
    words_sayable c.args.line.now c.in-Ok.directive says
