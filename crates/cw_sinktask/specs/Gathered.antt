-- What a sink's task hands out, with the file that it goes to (Kafka Connect's FileStreamSinkTask writes one file).
use Rattle.std.specs.Prelude.{ℕ, ◌+◌, List, map, IsSome}
use Rattle.std.specs.List.{fold}
use Rattle.cw_model.specs.declared.instance.Instance.{Instance}
use Rattle.cw_model.specs.Polls.{Delivery}
use Rattle.cw_edges.specs.Handing.{file_in}
use Rattle.cw_sinktask.specs.declared.delivery.Delivery.{Delivery as FileDelivery}

-- it has a file
abbrev pub HasFile : Instance → Type 0
HasFile i = IsSome (file_in i)

-- what is handed out into a file
abbrev pub into_file : (file : List ℕ) → Delivery → FileDelivery
into_file file d =
    record { turn = d.turn; topic = d.topic; file = file; from = d.from; to = d.to; lines = d.lines }

-- the values of records that have places
abbrev pub values_of : List (ℕ × List ℕ) → List (List ℕ)
values_of records = map (λ p. p.1) records

-- the place behind the last of some records, and where there are none, behind those before them
abbrev pub place_behind : (before : ℕ) → List (ℕ × List ℕ) → ℕ
place_behind before records = fold (λ end p. p.0 + 1) before records
