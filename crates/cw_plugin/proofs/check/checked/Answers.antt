use Rattle.std.proofs.Common.{ap, sym, ◌∙◌}
use Rattle.cw_plugin.specs.Classes.{class_of}
use Rattle.cw_plugin.proofs.FaultlessLemmas.{faultless_from}
use Rattle.cw_plugin.proofs.check.checked.Goals as goal

pub returns-in-None-clause-faultless : goal.returns-in-None-clause-faultless
returns-in-None-clause-faultless c = faultless_from c.args.props.now c.in-Some.text.now c.in-Some-class_of.class (sym c.in-Some.ensures) (ap class_of (sym c.as_str.ensures) ∙ sym c.in-Some-class_of.ensures) (c.in_ok-fault.ensures.named c.in-None.is)
