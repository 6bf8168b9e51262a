use Rattle.std.proofs.Common.{◌≡◌, ◌<◌, ℕ, Option, Some, None, [], true, false, refl, arith}
use Rattle.std.specs.List.{IsDistinct}
use Rattle.cw_types.specs.declared.ids.TaskId.{TaskId}
use Rattle.cw_group.specs.declared.member.Member.{Member}
use Rattle.cw_model.specs.State.{Setting}
use Rattle.cw_model.specs.FactsGroup.{GroupFacts}
use Rattle.cw_model.specs.FactsProducers.{IsOfTask, ProducerFacts}
use Rattle.cw_model.specs.FactsRows.{RowFacts}
use Rattle.cw_model.specs.FactsLogs.{AreShort, ConfigFacts, LogFacts}
use Rattle.cw_model.specs.Cases.{empty_cluster}
use Rattle.cw_model.proofs.EmptyCluster.{empty_is_safe}
use Rattle.cw_model.proofs.judged.empty_cluster_meets_the_facts.Goals as goal

-- false isn't true
unlike : false ≡ true → ⊥
unlike same = cc

-- there is no member
no_member : (member : Member) (found : Option Member) → found ≡ None → found ≡ Some member → ⊥
no_member member found is_none is_one = cc

-- there is no instance
no_task : (n : ℕ) (id : TaskId) → IsOfTask empty_cluster n id → ⊥
no_task n id is_task = let within : n < 0 = is_task.within in omega arith

group : GroupFacts empty_cluster
unfolding IsDistinct
group = record {
  rising = tt;
  apart = tt;
  held = λ w claim claims x there. absurd (unlike there);
  assigned = λ w claim claims x there. absurd (unlike there);
  known = λ w member there. absurd (no_member member None refl there);
  no_repeat = tt;
  in_order = λ other. tt;
  all_joined = λ closed. tt;
  waiting = λ other w member there. absurd (no_member member None refl there);
  within = λ planned. tt;
  once = λ planned. tt;
  told = λ planned w leader known is_stable. absurd (unlike known);
  all_given = λ planned idle x there. absurd (unlike there);
  round = omega arith;
}

producers : (setting : Setting) → ProducerFacts setting empty_cluster
producers setting = record {
  generation = λ n id unfenced. absurd (unlike unfenced.verified);
  counted = λ n id unfenced. absurd (unlike unfenced.verified);
  positions = λ n id unfenced fetched. absurd (unlike unfenced.verified);
  apart = λ m n a b other unfenced. absurd (unlike unfenced.verified);
  task = λ n id newest. absurd (no_task n id newest.is_task);
  one_batch = λ n id epoch writes. absurd (no_task n id writes.is_task);
  fencing = λ w n fencing id is_fencing unfenced. absurd (unlike unfenced.verified);
  not_ahead = λ n id newest. absurd (no_task n id newest.is_task);
  apart_epochs = λ m n id epoch other writes. absurd (no_task m id writes.is_task);
  known_epochs = λ n id epoch writes. absurd (no_task n id writes.is_task);
  numbers = λ n id epoch writes. absurd (no_task n id writes.is_task);
}

configs : ConfigFacts [] [] []
configs = record {
  allowed = tt;
  stamped = tt;
  same = record {
    end = refl;
    config = λ name. refl;
    target = λ name. refl;
    generation = λ name. refl;
    task_count = λ name. refl;
    fenced_count = λ name. refl;
    task = λ id. refl;
    deferred = λ id. refl;
    pending = λ name. refl;
  };
  among = tt;
  standing_allowed = tt;
  fences = λ name generation mark stands. stands;
}

logs : (setting : Setting) → AreShort setting.feeds → LogFacts setting empty_cluster
logs setting short = record {
  configs_read = tt;
  statuses_read = tt;
  configs = configs;
  statuses = record { allowed = tt; standing_allowed = tt; end = refl; latest = λ item. refl };
  entries = tt;
  all_entries = refl;
  offsets = tt;
  batches = tt;
  agree = λ agreed. tt;
  short = short;
  disks = record { config = omega arith; offsets = omega arith; status = omega arith; txn = omega arith; batches = omega arith };
  written = record { config = tt; offsets = tt; status = tt; txn = tt; batches = tt };
}

rows : RowFacts empty_cluster
rows = record { few = omega arith; rows = tt; instances = tt }

pub returns : goal.returns
returns c = λ setting short. record {
  safe = empty_is_safe setting;
  group = group;
  logs = logs setting short;
  rows = rows;
  producers = producers setting;
  journal = tt;
}
