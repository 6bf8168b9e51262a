use Rattle.std.proofs.Common.{◌≡◌, ◌<◌, ℕ, [], true, false, codes, refl, arith}
use Rattle.cw_plugin.specs.Tasks.{IsFaultless}
use Rattle.cw_keys.specs.declared.config_value.ConfigValue.TheVariants as value
use Rattle.cw_keys.specs.Configs.{HasTexts}
use Rattle.cw_keys.specs.declared.target.Target.TheVariants.{Started, Stopped}
use Rattle.cw_model.specs.declared.instance.InstancePhase.TheVariants as phase
use Rattle.cw_model.specs.FactsRows.{RowFacts}
use Rattle.cw_model.specs.ConfigsAllowed.{AreAllowedConfigs}
use Rattle.cw_model.specs.FactsLogs.{ConfigFacts}
use Rattle.cw_model.specs.WorkedCases.{properties, task_properties, commit_record, all_configs, committed}
use Rattle.cw_model.proofs.judged.story_meets_the_facts.Goals as goal

-- false isn't true
unlike : false ≡ true → ⊥
unlike same = cc

-- who polls hands nothing out
polling : phase.Polling ≡ phase.Delivered → ⊥
polling same = cc

-- a connector's instance isn't at work
idle : phase.Connector ≡ phase.Delivered → ⊥
idle same = cc

-- a task's instance isn't a connector's
busy : phase.Polling ≡ phase.Connector → ⊥
busy same = cc

rows : RowFacts committed
rows = record {
  few = omega arith;
  rows = (record { prefix = omega arith; lead = omega arith; fencing = tt; round = omega arith }, tt);
  instances = (
    record {
      at_worker = omega arith;
      named = refl;
      of_item = record { idle = refl; task = refl; generation = refl };
      generation = omega arith;
      source = λ other. absurd (unlike other);
      sink = λ other. absurd (idle other);
      epoch = λ other. absurd (unlike other);
      positions = λ other. absurd (unlike other);
      cut = λ other. absurd (unlike other);
      delivered = λ other. absurd (idle other);
      number = omega arith;
    },
    (
      record {
        at_worker = omega arith;
        named = (refl, omega arith);
        of_item = record {
          phase = busy;
          task = record { properties = task_properties; asked = refl };
          generation = (2, record commit_record { stamp = 1 }, omega arith, refl, record { commits = refl; at = refl });
        };
        generation = omega arith;
        source = λ other. absurd (unlike other);
        sink = λ other. absurd (polling other);
        epoch = λ has. refl;
        positions = λ has. refl;
        cut = λ other. absurd (unlike other);
        delivered = λ other. absurd (polling other);
        number = omega arith;
      },
      tt,
    ),
  );
}

-- one task shares nothing with another
alone : (i j : ℕ) → i < j → j < 1 → ⊥
alone i j below within = omega arith

-- a connector that was never stopped isn't
started_state : Started ≡ Stopped → ⊥
started_state same = cc

-- the connector's properties rise by their keys, and are texts
properties_fit : HasTexts (value.Connector properties)
unfolding lib.Utf8.encode
properties_fit = (
  ((refl, (refl, (refl, (refl, tt)))), ((refl, (refl, (refl, tt))), ((refl, (refl, tt)), ((refl, tt), (tt, tt))))),
  (
    (codes "connector.class", (refl, refl)),
    (codes "FileStreamSource", (refl, refl)),
    (
      (codes "file", (refl, refl)),
      (codes "orders", (refl, refl)),
      (
        (codes "name", (refl, refl)),
        (codes "a", (refl, refl)),
        (
          (codes "tasks.max", (refl, refl)),
          (codes "1", (refl, refl)),
          ((codes "topic", (refl, refl)), (codes "t", (refl, refl)), tt),
        ),
      ),
    ),
  ),
)

-- so do its task's
task_properties_fit : HasTexts (value.Task task_properties)
unfolding lib.Utf8.encode
task_properties_fit = (
  ((refl, (refl, tt)), ((refl, tt), (tt, tt))),
  (
    (codes "file", (refl, refl)),
    (codes "orders", (refl, refl)),
    (
      (codes "task.class", (refl, refl)),
      (codes "FileStreamSourceTask", (refl, refl)),
      ((codes "topic", (refl, refl)), (codes "t", (refl, refl)), tt),
    ),
  ),
)

allowed : AreAllowedConfigs [] all_configs
unfolding IsFaultless
allowed = (
  record { rising = omega arith; key = refl; kind = refl; value = (tt, properties_fit); fits = refl },
  (
    record { rising = omega arith; key = (refl, omega arith); kind = refl; value = (tt, task_properties_fit); fits = refl },
    (
      record {
        rising = omega arith;
        key = refl;
        kind = refl;
        value = (omega arith, tt);
        fits = record { tasks = refl; apart = λ i j below within. absurd (alone i j below within); stopped = λ is. absurd (started_state is) };
      },
      (record { rising = omega arith; key = refl; kind = refl; value = (omega arith, tt); fits = λ has. refl }, tt),
    ),
  ),
)

configs : ConfigFacts committed.configs committed.configs committed.entries
configs = record {
  allowed = allowed;
  stamped = (omega arith, (omega arith, (omega arith, (omega arith, tt))));
  same = record {
    end = refl;
    config = λ name. refl;
    target = λ name. refl;
    generation = λ name. refl;
    task_count = λ name. refl;
    fenced_count = λ name. refl;
    task = λ id. refl;
    deferred = λ id. refl;
    pending = λ name. refl;
  };
  among = ((0, omega arith, refl), ((1, omega arith, refl), ((2, omega arith, refl), ((3, omega arith, refl), tt))));
  standing_allowed = allowed;
  fences = λ name generation mark stands. stands;
}

pub returns : goal.returns
returns c = record { configs = configs; rows = rows }
