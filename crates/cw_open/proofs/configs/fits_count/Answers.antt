use Rattle.cw_open.specs.WaitingTasks.{AreReady}
use Rattle.cw_open.proofs.configs.fits_count.Goals as goal

pub returns : goal.returns
returns c = (
  λ e.
      let ready : AreReady c.args.passed.now c.args.name.now c.args.count = c.in_ok-apart.ensures.0 e in
      record { tasks = ready.tasks; apart = ready.apart; stopped = c.may_be_stopped.ensures.0 c.if-not-may_be_stopped.false },
  λ fits. c.in_ok-apart.ensures.1 (record { tasks = fits.tasks; apart = fits.apart }),
)
