-- The answers of a script: the text of what was done, or of why it was refused; and the refusals that end the script.
-- The texts are this project's own.
use Rattle.std.specs.Prelude.{ℕ, List, [], ◌∷◌, Result, Ok, Err, codes, decimal}
use Rattle.std.specs.List.{flat_map}
use Rattle.cw_types.specs.declared.ids.Epoch.{Epoch}
use Rattle.cw_types.specs.declared.ids.Span.{Span}
use Rattle.cw_types.specs.declared.ids.PartKey.{PartKey}
use Rattle.cw_types.specs.declared.ids.PartKey.TheVariants.{Raw, File, Seq, Sink}
use Rattle.cw_types.specs.declared.logs.LogName.{LogName}
use Rattle.cw_script.specs.declared.directive.PartEnd.{PartEnd}
use Rattle.cw_route.specs.declared.reply.Reply.{Reply}
use Rattle.cw_model.specs.declared.did.Did.{Did}
use Rattle.cw_model.specs.declared.tick.Tick.{Tick}
use Rattle.cw_model.specs.declared.fault.WorldFault.{WorldFault}
use Rattle.cw_model.specs.declared.fault.WorldFault.TheVariants as fault
use Rattle.cw_model.specs.State.{Cluster}
use Rattle.cw_model.specs.Answers.{Answer}
use Rattle.cw_model.specs.StepText.{step_text}
use Rattle.cw_model.specs.TickText.{words, tick_text}
use Rattle.cw_lines.specs.declared.end.DriveEnd.{DriveEnd}
use Rattle.cw_lines.specs.declared.end.DriveEnd.TheVariants as ends
use Rattle.cw_rest.specs.Messages.{log_text}
use Rattle.cw_script.specs.Spelling.{body_words}

-- an answer's text, or what ends the script; and the cluster behind it
abbrev pub Told : Type 0
Told = Result (List ℕ) DriveEnd × Cluster

-- words are said, and the cluster is this
abbrev pub says : List (List ℕ) → Cluster → Told
says text s = (Ok (words text), s)

-- ---- refusals

-- what is said of an event that is refused, by the worker or instance that the line names. A log that is full, a disk
-- that fails and want of memory end the script
abbrev pub refusal : ℕ → WorldFault → Result (List ℕ) DriveEnd
refusal n (fault.Fenced own current) = Ok (words (codes "fenced" ∷ decimal own ∷ decimal current ∷ []))
refusal n (fault.StaleGeneration own current) = Ok (words (codes "stale" ∷ decimal own ∷ decimal current ∷ []))
refusal n fault.PendingFence = Ok (codes "pending")
refusal n (fault.BadCut from to) = Ok (words (codes "badcut" ∷ decimal from ∷ decimal to ∷ []))
refusal n (fault.Gone i) = Ok (words (codes "gone" ∷ decimal i ∷ []))
refusal n (fault.Dead w) = Ok (words (codes "dead" ∷ decimal w ∷ []))
refusal n (fault.Group cause) = Ok (words (codes "unknown" ∷ decimal n ∷ []))
refusal n fault.TooMany = Ok (codes "toomany 64")
refusal n (fault.Full log length frame) = Err (ends.Full log length frame)
refusal n (fault.StoreFault disk count) = Err (ends.StoreFault disk count)
refusal n (fault.Closed disk count) = Err (ends.StoreFault disk count)
refusal n fault.Memory = Err ends.Memory

-- what is said of an event that was done, or refused
abbrev pub text_of : {A : Type 0} → ℕ → Result A WorldFault → (A → List (List ℕ)) → Result (List ℕ) DriveEnd
text_of n (Ok x) text = Ok (words (text x))
text_of n (Err fault) text = refusal n fault

-- the same, with the cluster behind the event
abbrev pub told : {A : Type 0} → ℕ → Answer A → (A → List (List ℕ)) → Told
told n done text = (text_of n done.0 text, done.1)

-- ---- the words of what was done

-- a script's producer got an epoch
abbrev pub epoch_words : Epoch → List (List ℕ)
epoch_words epoch = codes "epoch" ∷ decimal epoch.0 ∷ []

-- a pair of a commit: its part, and the end to which it moves that
abbrev pub pair_of : PartEnd → ℕ × ℕ
pair_of pair = (pair.part, pair.to)

-- the number of a script's part; no other part stands in its commits
abbrev pub part_number : PartKey → ℕ
part_number (Raw n) = n
part_number (File connector feed) = 0
part_number (Seq connector index) = 0
part_number (Sink connector topic) = 0

-- a script's producer committed parts, each from where to where
abbrev pub span_words : Span → List (List ℕ)
span_words span = decimal (part_number span.part) ∷ decimal span.from ∷ decimal span.to ∷ []

abbrev pub committed_words : List Span → List (List ℕ)
committed_words spans = codes "committed" ∷ flat_map span_words spans

-- something of a worker
abbrev pub worker_words : List ℕ → ℕ → List (List ℕ)
worker_words word w = word ∷ decimal w ∷ []

-- what a worker's tick did
abbrev pub tick_words : (group : List ℕ) → ℕ → Tick → List (List ℕ)
tick_words group w tick = codes "tick" ∷ decimal w ∷ tick_text group tick ∷ []

-- what an instance's step did
abbrev pub step_words : ℕ → Did → List (List ℕ)
step_words i did = codes "step" ∷ decimal i ∷ step_text did ∷ []

-- how many records a log had before its compaction, and has
abbrev pub compacted_words : LogName → ℕ × ℕ → List (List ℕ)
compacted_words log counts =
    codes "compacted" ∷ log_text log ∷ decimal counts.0 ∷ decimal counts.1 ∷ []

-- what a request is answered
abbrev pub reply_words : Reply → List (List ℕ)
reply_words reply = decimal reply.code ∷ body_words reply.body
