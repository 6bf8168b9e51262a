use Rattle.cw_audit.proofs.auditing.text_of.Goals as goal

pub returns : goal.returns
returns g c = record { agrees = c.in_ok-agrees.agrees; agrees_is = c.in_ok-agrees.ensures; holds = c.in_ok-text.ensures }
