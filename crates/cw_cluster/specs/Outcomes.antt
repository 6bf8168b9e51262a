-- What a directive came to, as a value: its words are those of the directive's answer. The texts are this project's
-- own.
use Rattle.std.specs.Prelude.{ℕ, List, [], ◌∷◌, ◌++◌, map, Option, Some, None, codes, decimal}
use Rattle.std.specs.List.{flat_map}
use Rattle.uuid.specs.Text.{lower, hyphenated_text}
use Rattle.cw_model.specs.TickText.{item_text}
use Rattle.cw_run.specs.Answers.{epoch_words, committed_words, worker_words, tick_words, step_words, compacted_words}
use Rattle.cw_run.specs.Answers.{reply_words}
use Rattle.cw_run.specs.Looks.{uuid_of, member_name, record_words}
use Rattle.cw_run.specs.Settling.{quiet_text}
use Rattle.cw_cluster.specs.declared.outcome.Outcome.{Outcome}
use Rattle.cw_cluster.specs.declared.outcome.Outcome.TheVariants as came

-- words, each behind a space
abbrev pub spaced : List (List ℕ) → List ℕ
spaced = flat_map (λ word. 32 ∷ word)

-- the id of a worker as the member of an incarnation, or that it is none
abbrev pub incarnation_words : (group : List ℕ) → ℕ → Option ℕ → List (List ℕ)
incarnation_words group w None = worker_words (codes "none") w
incarnation_words group w (Some incarnation) = worker_words (codes "member") w ++
    hyphenated_text lower (uuid_of (member_name group w incarnation)) ∷ []

-- the words in which an answer tells it
abbrev pub outcome_words : (group : List ℕ) → Outcome → List (List ℕ)
outcome_words group (came.Epoch epoch) = epoch_words epoch
outcome_words group (came.Committed spans) = committed_words spans
outcome_words group (came.Spawned w) = worker_words (codes "worker") w
outcome_words group (came.Killed w) = worker_words (codes "killed") w
outcome_words group (came.Deaf w) = worker_words (codes "deaf") w
outcome_words group (came.Hears w) = worker_words (codes "hears") w
outcome_words group (came.Expired w) = worker_words (codes "expired") w
outcome_words group (came.Clock now) = codes "clock" ∷ decimal now ∷ []
outcome_words group (came.Tick w tick) = tick_words group w tick
outcome_words group (came.Step i did) = step_words i did
outcome_words group (came.Settled quiet moved) = quiet_text quiet ∷ decimal moved ∷ []
outcome_words group (came.Replied reply) = reply_words reply
outcome_words group (came.Held w items) = worker_words (codes "held") w ++ map item_text items
outcome_words group (came.Member w incarnation) = incarnation_words group w incarnation
outcome_words group (came.Record offset value) = record_words (Some (offset, value))
outcome_words group came.NoRecord = record_words None
outcome_words group (came.Compacted log before after) = compacted_words log (before, after)
