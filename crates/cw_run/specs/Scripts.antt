-- Scripts of worked cases, each line with its answer.
use Rattle.std.specs.Prelude.{◌≡◌, ◌^◌, ◌-◌, ℕ, List, [], ◌∷◌, ◌++◌, None, map, codes}
use Rattle.cw_keys.specs.declared.config_key.ConfigKey.TheVariants.{Connector}
use Rattle.std.specs.List.{flat_map}
use Rattle.cw_model.specs.State.{Cluster}
use Rattle.cw_model.specs.Cases.{empty_cluster}
use Rattle.cw_model.specs.WorkedCases.{setting}
use Rattle.cw_lines.specs.Plays.{Played}
use Rattle.cw_run.specs.Run.{run}

-- a script: its lines, each with the answer that is wanted
abbrev pub Script : Type 0
Script = List (List ℕ × List ℕ)

-- lines as a text
abbrev pub lines : List (List ℕ) → List ℕ
lines texts = flat_map (λ line. line ++ 10 ∷ []) texts

-- the text of a script
abbrev pub script_text : Script → List ℕ
script_text script = lines (map (λ (p : List ℕ × List ℕ). p.0) script)

-- the answers that are wanted
abbrev pub wanted : Script → List ℕ
wanted script = lines (map (λ (p : List ℕ × List ℕ). p.1) script)

-- a script over empty logs, with the feed `orders` of twelve lines, and with these feeds
abbrev pub played : Script → Played Cluster
played script = run setting empty_cluster (script_text script)

abbrev pub played_with : List (List ℕ × List ℕ) → Script → Played Cluster
played_with feeds script = run (record setting { feeds = feeds }) empty_cluster (script_text script)

-- three empty feeds
abbrev pub empty_feeds : List (List ℕ × List ℕ)
empty_feeds = (codes "x", []) ∷ (codes "y", []) ∷ (codes "z", []) ∷ []

-- the answers are those that are wanted
abbrev pub IsAnswered : Script → Type 0
IsAnswered script = (played script).text ≡ wanted script

-- ---- logs that are full

-- a config log whose side has the greatest number
abbrev pub worn : Cluster
worn = record empty_cluster { config = record { frames = []; side = 2 ^ 64 - 1 } }

-- a group with a leader, and a config log that has no offset left
abbrev pub out_of_offsets : Cluster
out_of_offsets = record ((run setting empty_cluster (lines (codes "spawn" ∷ codes "settle 100" ∷ []))).store) {
  configs = record { offset = 2 ^ 64 - 1; stamp = 0; key = Connector (codes "z"); value = None } ∷ [];
}

-- a request for a connector that reads the feed
abbrev pub creation : List ℕ
creation = codes "rest 0 POST /connectors {\"name\":\"a\"," ++
    codes "\"config\":{\"connector.class\":\"FileStreamSource\",\"file\":\"orders\",\"topic\":\"t\"}}"

-- ---- the scripts

-- a producer commits, and is outrun by a later one of its number
abbrev pub producers : Script
producers =
    (codes "init 0", codes "epoch 1") ∷
    (codes "init 0", codes "epoch 2") ∷
    (codes "commit 0 1 0 5", codes "fenced 1 2") ∷
    (codes "commit 0 2 0 5 1 7", codes "committed 0 0 5 1 0 7") ∷
    (codes "commit 0 2 0 5", codes "badcut 5 5") ∷ []

-- a worker joins as the first member
abbrev pub member : Script
member =
    (codes "spawn", codes "worker 0") ∷
    (codes "tick 0", codes "tick 0 join 1") ∷
    (codes "member 0", codes "member 0 dfbb45a0-ebed-508e-90af-07219c404c1d") ∷ []

-- a worker that isn't a member yet is asked, and then killed
abbrev pub killed : Script
killed =
    (codes "spawn", codes "worker 0") ∷ (
      codes "rest 0 PUT /connectors/a/stop",
      codes "409 {\"error_code\":409,\"message\":\"Cannot complete request because of a rebalance\"}",
    ) ∷
    (codes "rest 0 GET /connectors/a", codes "404 {\"error_code\":404,\"message\":\"Connector a not found\"}") ∷
    (codes "kill 0", codes "killed 0") ∷
    (codes "rest 0 GET /connectors", codes "dead 0") ∷
    (codes "kill 0", codes "dead 0") ∷
    (codes "tick 0", codes "tick 0 dead") ∷
    (codes "held 0", codes "held 0") ∷
    (codes "member 0", codes "none 0") ∷
    (codes "expire 0", codes "unknown 0") ∷ []

-- a connector is created once there is a leader
abbrev pub created : Script
created =
    (codes "spawn", codes "worker 0") ∷
    (codes "tick 0", codes "tick 0 join 1") ∷ (
      codes "rest 0 POST /connectors {\"name\":\"a\"," ++
          codes "\"config\":{\"connector.class\":\"FileStreamSource\",\"tasks.max\":1,\"file\":\"orders\"," ++
          codes "\"topic\":\"t\"}}",
      codes "409 {\"error_code\":409,\"message\":\"Cannot complete request because of a rebalance\"}",
    ) ∷
    (codes "settle 100", codes "quiet 4") ∷ (
      codes "rest 0 POST /connectors {\"name\":\"a\"," ++
          codes "\"config\":{\"connector.class\":\"FileStreamSource\",\"tasks.max\":1,\"file\":\"orders\"," ++
          codes "\"topic\":\"t\"}}",
      codes "201 {\"config\":{\"connector.class\":\"FileStreamSource\",\"file\":\"orders\"," ++
          codes "\"name\":\"a\",\"tasks.max\":\"1\",\"topic\":\"t\"},\"name\":\"a\",\"tasks\":[]," ++
          codes "\"type\":\"source\"}",
    ) ∷ []

-- a connector is created and settles half way
abbrev pub settled : Script
settled =
    (codes "spawn", codes "worker 0") ∷
    (codes "settle 100", codes "quiet 5") ∷ (
      codes "rest 0 POST /connectors {\"name\":\"a\"," ++
          codes "\"config\":{\"connector.class\":\"FileStreamSource\",\"tasks.max\":1,\"file\":\"orders\"," ++
          codes "\"topic\":\"t\"}}",
      codes "201 {\"config\":{\"connector.class\":\"FileStreamSource\",\"file\":\"orders\"," ++
          codes "\"name\":\"a\",\"tasks.max\":\"1\",\"topic\":\"t\"},\"name\":\"a\",\"tasks\":[]," ++
          codes "\"type\":\"source\"}",
    ) ∷
    (codes "settle 6", codes "unquiet 6") ∷ []

-- a source is read through, and then again from an offset that a user sets
abbrev pub altered : Script
altered =
    (codes "spawn", codes "worker 0") ∷
    (codes "settle 100", codes "quiet 5") ∷ (
      codes "rest 0 POST /connectors {\"name\":\"a\"," ++
          codes "\"config\":{\"connector.class\":\"FileStreamSource\",\"tasks.max\":1,\"file\":\"orders\"," ++
          codes "\"topic\":\"t\"}}",
      codes "201 {\"config\":{\"connector.class\":\"FileStreamSource\",\"file\":\"orders\"," ++
          codes "\"name\":\"a\",\"tasks.max\":\"1\",\"topic\":\"t\"},\"name\":\"a\",\"tasks\":[]," ++
          codes "\"type\":\"source\"}",
    ) ∷
    (codes "settle 1000", codes "quiet 26") ∷ (
      codes "rest 0 GET /connectors/a/offsets",
      codes "200 {\"offsets\":[{\"offset\":{\"position\":96},\"partition\":{\"filename\":\"orders\"}}]}",
    ) ∷
    (codes "take t 11", codes "record 11 line-12") ∷
    (codes "take t 12", codes "none") ∷ (
      codes "rest 0 GET /connectors/a/status",
      codes "200 {\"connector\":{\"state\":\"RUNNING\",\"worker_id\":\"worker-0\"},\"name\":\"a\"," ++
          codes "\"tasks\":[{\"id\":0,\"state\":\"RUNNING\",\"worker_id\":\"worker-0\"}],\"type\":\"source\"}",
    ) ∷ (
      codes "rest 0 PATCH /connectors/a/offsets {\"offsets\":[{\"partition\":{\"filename\":\"orders\"}," ++
          codes "\"offset\":{\"position\":6}}]}",
      codes "400 {\"error_code\":400,\"message\":\"Connectors must be in the STOPPED state before their " ++
          codes "offsets can be modified\"}",
    ) ∷
    (codes "rest 0 PUT /connectors/a/stop", codes "204") ∷ (
      codes "rest 0 PATCH /connectors/a/offsets {\"offsets\":[{\"partition\":{\"filename\":\"orders\"}," ++
          codes "\"offset\":{\"position\":6}}]}",
      codes "200 {\"message\":\"The offsets for this connector have been altered successfully\"}",
    ) ∷
    (codes "rest 0 PUT /connectors/a/resume", codes "202") ∷
    (codes "settle 1000", codes "quiet 26") ∷
    (codes "take t 12", codes "record 12 1") ∷
    (codes "take t 13", codes "record 13 line-02") ∷
    (codes "take t 23", codes "record 23 line-12") ∷
    (codes "take t 24", codes "none") ∷ []

-- a worker turns deaf and is lost, and its task is fenced before the next set of tasks
abbrev pub zombie : Script
zombie =
    (codes "spawn", codes "worker 0") ∷
    (codes "settle 100", codes "quiet 5") ∷ (
      codes "rest 0 POST /connectors {\"name\":\"s\",\"config\":{\"connector.class\":\"SequenceSource\"," ++
          codes "\"partitions\":1,\"count\":10,\"batch.size\":4,\"topic\":\"t\"}}",
      codes "201 {\"config\":{\"batch.size\":\"4\",\"connector.class\":\"SequenceSource\"," ++
          codes "\"count\":\"10\",\"name\":\"s\",\"partitions\":\"1\",\"topic\":\"t\"},\"name\":\"s\"," ++
          codes "\"tasks\":[],\"type\":\"source\"}",
    ) ∷
    (codes "settle 23", codes "unquiet 23") ∷
    (codes "deaf 0", codes "deaf 0") ∷
    (codes "expire 0", codes "expired 0") ∷
    (codes "spawn", codes "worker 1") ∷
    (codes "tick 1", codes "tick 1 read 4") ∷
    (codes "tick 1", codes "tick 1 join 4") ∷
    (codes "tick 1", codes "tick 1 close 4") ∷
    (codes "tick 1", codes "tick 1 plan 4") ∷
    (codes "tick 1", codes "tick 1 sync 4") ∷
    (codes "tick 1", codes "tick 1 lead 2") ∷ (
      codes "rest 1 PUT /connectors/s/config {\"connector.class\":\"SequenceSource\",\"partitions\":1," ++
          codes "\"count\":10,\"batch.size\":5,\"topic\":\"t\"}",
      codes "200 {\"config\":{\"batch.size\":\"5\",\"connector.class\":\"SequenceSource\"," ++
          codes "\"count\":\"10\",\"name\":\"s\",\"partitions\":\"1\",\"topic\":\"t\"},\"name\":\"s\"," ++
          codes "\"tasks\":[{\"connector\":\"s\",\"task\":0}],\"type\":\"source\"}",
    ) ∷
    (codes "clock 300000", codes "clock 300000") ∷
    (codes "tick 1", codes "tick 1 join 5") ∷
    (codes "tick 1", codes "tick 1 close 5") ∷
    (codes "tick 1", codes "tick 1 plan 5") ∷
    (codes "tick 1", codes "tick 1 sync 5") ∷
    (codes "tick 1", codes "tick 1 start c/s 2") ∷
    (codes "tick 1", codes "tick 1 propose s 1") ∷
    (codes "tick 1", codes "tick 1 read 6") ∷
    (codes "tick 1", codes "tick 1 commit s 6") ∷
    (codes "tick 1", codes "tick 1 read 7") ∷
    (codes "tick 1", codes "tick 1 fence s/0 2") ∷
    (codes "tick 1", codes "tick 1 fenced s 7") ∷
    (codes "tick 1", codes "tick 1 read 8") ∷
    (codes "tick 1", codes "tick 1 mark batches connect-cluster-s-0 1 0 abort") ∷
    (codes "tick 1", codes "tick 1 mark offsets connect-cluster-s-0 1 0 abort") ∷
    (codes "tick 1", codes "tick 1 start t/s/0 3") ∷
    (codes "step 1", codes "step 1 fenced 1 2") ∷
    (codes "step 3", codes "step 3 init 3") ∷
    (codes "step 3", codes "step 3 verify 6") ∷
    (codes "step 3", codes "step 3 fetch") ∷
    (codes "step 3", codes "step 3 produce {\"sequence\":0} 0 5") ∷
    (codes "step 3", codes "step 3 offsets") ∷
    (codes "step 3", codes "step 3 commit {\"sequence\":0} 0 5") ∷
    (codes "take t 0", codes "none") ∷
    (codes "tick 1", codes "tick 1 mark batches connect-cluster-s-0 3 0 commit") ∷
    (codes "take t 0", codes "record 4 0-0") ∷
    (codes "init 7", codes "epoch 1") ∷
    (codes "commit 7 1 0 9", codes "committed 0 0 9") ∷ []

-- a connector gets fewer tasks, and its config log is compacted
abbrev pub compacted : Script
compacted =
    (codes "spawn", codes "worker 0") ∷
    (codes "settle 100", codes "quiet 5") ∷ (
      codes "rest 0 POST /connectors {\"name\":\"a\",\"config\":{\"connector.class\":\"FileSetSource\"," ++
          codes "\"files\":\"x,y,z\",\"tasks.max\":3,\"topic\":\"t\"}}",
      codes "201 {\"config\":{\"connector.class\":\"FileSetSource\",\"files\":\"x,y,z\",\"name\":\"a\"," ++
          codes "\"tasks.max\":\"3\",\"topic\":\"t\"},\"name\":\"a\",\"tasks\":[],\"type\":\"source\"}",
    ) ∷
    (codes "settle 1000", codes "quiet 31") ∷ (
      codes "rest 0 PUT /connectors/a/config {\"connector.class\":\"FileSetSource\",\"files\":\"x,y,z\"," ++
          codes "\"tasks.max\":1,\"topic\":\"t\"}",
      codes "200 {\"config\":{\"connector.class\":\"FileSetSource\",\"files\":\"x,y,z\",\"name\":\"a\"," ++
          codes "\"tasks.max\":\"1\",\"topic\":\"t\"},\"name\":\"a\",\"tasks\":[{\"connector\":\"a\"," ++
          codes "\"task\":0},{\"connector\":\"a\",\"task\":1},{\"connector\":\"a\",\"task\":2}]," ++
          codes "\"type\":\"source\"}",
    ) ∷
    (codes "tick 0", codes "tick 0 propose a 1") ∷
    (codes "tick 0", codes "tick 0 read 8") ∷
    (codes "tick 0", codes "tick 0 commit a 8") ∷
    (codes "tick 0", codes "tick 0 read 9") ∷
    (codes "tick 0", codes "tick 0 stop t/a/0") ∷
    (codes "tick 0", codes "tick 0 stop t/a/1") ∷
    (codes "tick 0", codes "tick 0 stop t/a/2") ∷
    (codes "tick 0", codes "tick 0 join 4") ∷
    (codes "tick 0", codes "tick 0 close 4") ∷
    (codes "tick 0", codes "tick 0 plan 4") ∷
    (codes "tick 0", codes "tick 0 sync 4") ∷
    (codes "tick 0", codes "tick 0 fence a/0 2") ∷
    (codes "settle 1000", codes "quiet 9") ∷
    (codes "compact config", codes "compacted config 10 6") ∷ []
