-- The text of a step, as a script's answer tells it. The texts are this project's own.
use Rattle.std.specs.Prelude.{ℕ, List, [], ◌∷◌, codes, decimal}
use Rattle.serde_json.specs.Written.{compact_text}
use Rattle.cw_types.specs.declared.ids.Span.{Span}
use Rattle.cw_rest.specs.Offsets.{partition_of}
use Rattle.cw_model.specs.declared.did.Did.{Did}
use Rattle.cw_model.specs.declared.did.Did.TheVariants as did
use Rattle.cw_model.specs.TickText.{words}

-- a span: its part's partition, begin and end
abbrev pub span_words : Span → List (List ℕ)
span_words span = compact_text (partition_of span.part) ∷ decimal span.from ∷ decimal span.to ∷ []

-- the words of a step
abbrev pub step_words : Did → List (List ℕ)
step_words (did.Init epoch) = codes "init" ∷ decimal epoch ∷ []
step_words (did.Verify generation) = codes "verify" ∷ decimal generation ∷ []
step_words did.Fetch = codes "fetch" ∷ []
step_words (did.Produce span) = codes "produce" ∷ span_words span
step_words did.Offsets = codes "offsets" ∷ []
step_words (did.Commit span) = codes "commit" ∷ span_words span
step_words (did.Deliver topic from to) = codes "deliver" ∷ topic ∷ decimal from ∷ decimal to ∷ []
step_words did.AtEnd = codes "atend" ∷ []
step_words did.Paused = codes "paused" ∷ []
step_words (did.Stale own current) = codes "stale" ∷ decimal own ∷ decimal current ∷ []
step_words did.Pending = codes "pending" ∷ []
step_words (did.Fenced own current) = codes "fenced" ∷ decimal own ∷ decimal current ∷ []
step_words (did.LineTooLong at) = codes "linetoolong" ∷ decimal at ∷ []
step_words did.Gone = codes "gone" ∷ []
step_words did.Failed = codes "failed" ∷ []

-- its text
abbrev pub step_text : Did → List ℕ
step_text d = words (step_words d)
