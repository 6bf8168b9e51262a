-- What a consumer that reads committed records alone is to be given (KIP-98, isolation level read_committed): by the
-- transaction list, not by markers.
use Rattle.std.specs.Prelude.{ℕ, ◌&&◌, List, Option, option_map, take, nat_le}
use Rattle.std.specs.List.{find, enumerate_from}
use Rattle.cw_txn.specs.Legal.{is_committed}
use Rattle.cw_data.specs.Log.{records, stable}
use Rattle.cw_model.specs.State.{Cluster}

-- the first record of a topic from a place on and below the last stable offset that is committed, with its offset
abbrev pub first_committed : List ℕ → ℕ → Cluster → Option (ℕ × List ℕ)
first_committed topic from s =
    option_map {U = ℕ × List ℕ} (λ p. (p.0, p.1.value))
    (find (λ p. nat_le from p.0 && is_committed p.1.tag s.entries)
    (enumerate_from 0 (take (stable topic s.batches) (records topic s.batches))))
