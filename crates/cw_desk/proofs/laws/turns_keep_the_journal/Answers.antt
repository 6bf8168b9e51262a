use Rattle.cw_desk.proofs.Quiet.{tick-quiet, task_step-quiet, expire-quiet, compact-quiet, closes-quiet, keeps-trans, clock-quiet}
use Rattle.cw_desk.proofs.laws.turns_keep_the_journal.Goals as goal

pub returns : goal.returns
returns c = record {
  tick = λ setting s w f. tick-quiet setting w s f;
  task_step = λ setting s i f. task_step-quiet setting i s f;
  expire = λ setting s w. expire-quiet setting w s;
  compact = λ s log. compact-quiet log s;
  clock = λ s to. clock-quiet to s;
  closes = λ s disk count. closes-quiet disk count s;
  goes_on = λ s t u g h. keeps-trans s t u g h;
}
