use Rattle.std.proofs.Common.{refl}
use Rattle.cw_data.proofs.Waiting.{new_topic}
use Rattle.cw_data.proofs.topic.Topic.new.Goals as goal

pub returns : goal.returns
returns c marks entries name none = new_topic marks entries name (record { end = 0; rows = c.new.result; kept = 0; passed = 0 }) c.new.ensures.items refl refl refl none
