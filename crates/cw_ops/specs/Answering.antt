-- What a call that writes comes to, before it writes. That all its answers are made before is this project's own.
use Rattle.std.specs.Prelude.{◌≡◌, ℕ, true, false}
use Rattle.cw_types.specs.declared.logs.LogName.{LogName}
use Rattle.cw_route.specs.declared.call.Call.{Call}
use Rattle.cw_route.specs.declared.reply.Reply.{Reply}
use Rattle.cw_rest.specs.Messages.{full_reply, rebalancing}
use Rattle.cw_model.specs.State.{Setting, Cluster}
use Rattle.cw_edges.specs.Requests.{reply_now, would_succeed}
use Rattle.cw_ops.specs.declared.answering.Answers.{Answers}
use Rattle.cw_ops.specs.declared.answering.Answering.{Answering}
use Rattle.cw_ops.specs.declared.answering.Answering.TheVariants.{Refused, Writes}

-- it is refused
pub record IsRefused (setting : Setting) (w : ℕ) (call : Call) (s : Cluster) (reply : Reply) : Type 0 where
  pub fails : would_succeed setting w call s ≡ false
  pub is : reply ≡ reply_now setting w call s

-- it writes, and these are its answers
pub record AreAnswers (setting : Setting) (w : ℕ) (call : Call) (log : LogName) (s : Cluster) (answers : Answers)
    : Type 0 where
  pub succeeds : would_succeed setting w call s ≡ true
  pub done : answers.done ≡ reply_now setting w call s
  pub full : answers.full ≡ full_reply log
  pub outrun : answers.outrun ≡ rebalancing

-- one of both
abbrev pub IsAnswering : Setting → ℕ → Call → LogName → Cluster → Answering → Type 0
IsAnswering setting w call log s (Refused reply) = IsRefused setting w call s reply
IsAnswering setting w call log s (Writes answers) = AreAnswers setting w call log s answers
