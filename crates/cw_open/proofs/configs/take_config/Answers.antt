use Rattle.std.proofs.Common.{sym, ◌∙◌}
use Rattle.cw_open.proofs.ConfigLemmas.{config_read, config_unread}
use Rattle.cw_open.proofs.configs.take_config.Goals as goal

pub returns-in_ok-taken-in-Some : goal.returns-in_ok-taken-in-Some
returns-in_ok-taken-in-Some c =
    config_read c.args.passed.now c.take_record.new.passed c.args.applied.now c.in-Some.read (sym c.in_ok-read.ensures ∙ c.in-Some.is) c.in_ok-taken-in-Some.taken c.in_ok-taken-in-Some.ensures

pub returns-in-None : goal.returns-in-None
returns-in-None c = config_unread c.args.passed.now c.args.passed.now c.args.applied.now (sym c.in_ok-read.ensures ∙ c.in-None.is)
