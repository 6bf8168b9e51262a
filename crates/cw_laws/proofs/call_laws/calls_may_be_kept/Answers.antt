use Rattle.std.proofs.Common.{inl, inr}
use Rattle.cw_laws.proofs.KeptCalls.{configs-true, offsets-true, view-true}
use Rattle.cw_laws.proofs.call_laws.calls_may_be_kept.Goals as goal

pub returns-clause-configs : goal.returns-clause-configs
returns-clause-configs c = λ setting s t e f h. inr (inl (inl h.wrote), configs-true setting s t e f h)

pub returns-clause-offsets : goal.returns-clause-offsets
returns-clause-offsets c = λ setting s t e f h. inr (inl (inr h.wrote), offsets-true setting s t e f h)

pub returns-clause-view : goal.returns-clause-view
returns-clause-view c = λ setting s e f h. inr (inr h.board, view-true setting s e f h)
