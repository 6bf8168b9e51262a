-- What is in flight where a disk fails in a directive: the event that was to make of a state that was come to the next
-- one; and what may be said last. This project's own.
use Rattle.std.specs.Prelude.{◌≡◌, ◌⊎◌, ℕ, List, [], ◌∷◌, ◌++◌}
use Rattle.cw_script.specs.declared.directive.Directive.{Directive}
use Rattle.cw_script.specs.declared.directive.Directive.TheVariants.{Settle, Rest}
use Rattle.cw_rest.specs.Messages.{failed_reply}
use Rattle.cw_model.specs.State.{Setting, Cluster}
use Rattle.cw_model.specs.Steps.{step}
use Rattle.cw_model.specs.Tick.{tick}
use Rattle.cw_model.specs.TickText.{words}
use Rattle.cw_run.specs.Amid.{IsHalfSettled}
use Rattle.cw_run.specs.Answers.{reply_words}
use Rattle.cw_run.specs.Directives.{does}
use Rattle.cw_run.specs.Ran.{Ran}

-- a state behind a turn of a worker or of an instance
abbrev pub IsBehindTurn : Setting → Cluster → Cluster → Type 0
IsBehindTurn setting s t = ((w : ℕ) × (t ≡ (tick w s).1)) ⊎ ((i : ℕ) × (t ≡ (step setting i s).1))

-- where a directive is played from one running cluster, an event of it was to make of another one this state
abbrev pub IsInFlight : Setting → Directive → (ran at : Ran) → (next : Cluster) → Type 0
IsInFlight setting (Settle most) ran at next = IsHalfSettled setting most ran at × IsBehindTurn setting at.cluster next
IsInFlight setting directive ran at next = (at ≡ ran) × (next ≡ (does setting directive ran.cluster).1)

-- the line that replies to a request that the store failed
abbrev pub failed_line : List ℕ
failed_line = words (reply_words failed_reply) ++ 10 ∷ []

-- what may be said last where a disk failed: to a request this, else nothing
abbrev pub IsLastWord : Directive → List ℕ → Type 0
IsLastWord (Rest w method target body) said = (said ≡ []) ⊎ (said ≡ failed_line)
IsLastWord directive said = said ≡ []
