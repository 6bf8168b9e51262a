-- What each directive of a script does to a cluster, and what it is answered. Workers come and go, tick and are asked
-- by requests as Kafka Connect's are; that a script says when, and the texts of the answers, are this project's own.
use Rattle.std.specs.Prelude.{[], ◌∷◌, map, codes, decimal}
use Rattle.cw_script.specs.declared.directive.Directive.{Directive}
use Rattle.cw_script.specs.declared.directive.Directive.TheVariants.{Init, Commit, Spawn, Kill, Deaf, Hear, Expire}
use Rattle.cw_script.specs.declared.directive.Directive.TheVariants.{Clock, Tick, Step, Settle, Rest, Held, Member}
use Rattle.cw_script.specs.declared.directive.Directive.TheVariants.{Take, Compact}
use Rattle.cw_model.specs.State.{Setting, Cluster}
use Rattle.cw_model.specs.EventsWorkers.{spawn, kill, deaf, hear, expire, clock}
use Rattle.cw_model.specs.EventsRaw.{raw_init, raw_commit}
use Rattle.cw_model.specs.EventsCompaction.{compact}
use Rattle.cw_model.specs.Tick.{tick}
use Rattle.cw_model.specs.Steps.{step}
use Rattle.cw_edges.specs.Requests.{answers, call_of}
use Rattle.cw_run.specs.Answers.{Told, told, says, epoch_words, committed_words, worker_words, tick_words, step_words}
use Rattle.cw_run.specs.Answers.{compacted_words, reply_words, pair_of}
use Rattle.cw_run.specs.Looks.{held_words, member_words, taken_words}
use Rattle.cw_run.specs.Settling.{settles}

-- what a directive is answered, and the cluster behind it
abbrev pub does : Setting → Directive → Cluster → Told
does setting (Init n) s = told n (raw_init n s) epoch_words
does setting (Commit n epoch pairs) s =
    told n (raw_commit n (record { 0 = epoch }) (map pair_of pairs) s) committed_words
does setting Spawn s = told 0 (spawn s) (worker_words (codes "worker"))
does setting (Kill w) s = told w (kill w s) (λ _. worker_words (codes "killed") w)
does setting (Deaf w) s = told w (deaf w s) (λ _. worker_words (codes "deaf") w)
does setting (Hear w) s = told w (hear w s) (λ _. worker_words (codes "hears") w)
does setting (Expire w) s = told w (expire setting w s) (λ _. worker_words (codes "expired") w)
does setting (Clock to) s = told 0 (clock to s) (λ now. codes "clock" ∷ decimal now ∷ [])
does setting (Tick w) s = told w (tick w s) (tick_words setting.group w)
does setting (Step i) s = told i (step setting i s) (step_words i)
does setting (Settle most) s = settles setting most s
does setting (Rest w method target body) s = told w (answers setting w (call_of method target body) s) reply_words
does setting (Held w) s = says (held_words w s) s
does setting (Member w) s = says (member_words setting.group w s) s
does setting (Take topic from) s = says (taken_words topic from s) s
does setting (Compact log) s = told 0 (compact log s) (compacted_words log)
