-- A record that removes the connector `a` may stand behind all records of lower offsets. The tests put such ones.
use Rattle.std.proofs.Common.{◌≡◌, ◌≤◌, ◌+◌, ℕ, true, leb, max, List, [], ◌∷◌, ◌++◌, Some, None, refl, subst, arith}
use Rattle.std.specs.Prelude.{codes, Result, Ok, OnOk}
use Rattle.std.proofs.lemmas.Bool.Decides.{nat_tests}
use Rattle.cw_bytes.specs.declared.applied.Applied.{Applied}
use Rattle.cw_keys.specs.declared.config_key.ConfigKey.TheVariants.{Connector}
use Rattle.cw_config.specs.declared.records.ConfigRecord.{ConfigRecord}
use Rattle.cw_config.specs.Acceptance.{applied, end_of}
use Rattle.cw_config.proofs.Pushed.{end_of-push}
use Rattle.cw_board.specs.declared.posted.Posted.{Posted}
use Rattle.cw_board.specs.declared.writer.Unpublished.{Unpublished}
use Rattle.cw_board.specs.Records.{posted, configs_of}
use Rattle.cw_board.proofs.Shelved.{put_one}

-- the record at an offset, as it stands in the log and as it is read
abbrev pub removal : ℕ → Applied
removal offset = record { offset = offset; stamp = 0; key = codes "connector-a"; value = None }

abbrev removed : ℕ → ConfigRecord
removed offset = record { offset = offset; stamp = 0; key = Connector (97 ∷ []); value = None }

follows : (records : List ConfigRecord) (offset : ℕ) → end_of records ≤ offset
    → applied records offset 0 (codes "connector-a") None ≡ Some (records ++ removed offset ∷ [])
follows records offset low =
    let above : leb (end_of records) offset ≡ true = grind (arith, nat_tests) in
    rw above refl

module _ (log : List Posted) (offset : ℕ) (low : end_of (configs_of 0 log) ≤ offset) where
  ends : end_of (configs_of 0 (log ++ posted 0 (removal offset ∷ []))) ≤ offset + 1
  ends =
      let state : List ConfigRecord = configs_of 0 log in
      let next : state ++ removed offset ∷ [] ≡ configs_of 0 (log ++ posted 0 (removal offset ∷ [])) =
      put_one log 0 state (state ++ removed offset ∷ []) (removal offset) (codes "connector-a") None refl refl (follows state offset low) refl in
      let pushed : end_of (state ++ removed offset ∷ []) ≡ max (end_of state) (offset + 1) = end_of-push state (removed offset) in
      let one : end_of (state ++ removed offset ∷ []) ≤ offset + 1 = omega (arith, pushed, low) in
      subst (λ (rs : List ConfigRecord). end_of rs ≤ offset + 1) next one

  -- once it was put, all offsets are lower than the next one
  pub stands_behind : (records : List Applied) (given published : List Posted) (answer : Result ℕ Unpublished) (front : ℕ) → records ≡ removal offset ∷ [] → answer ≡ Ok front
      → OnOk answer (published ≡ log ++ posted 0 records) → OnOk answer (given ≡ published) → end_of (configs_of 0 given) ≤ offset + 1
  stands_behind records given published answer front is done put all =
      let put : published ≡ log ++ posted 0 records = subst (λ (r : Result ℕ Unpublished). OnOk r (published ≡ log ++ posted 0 records)) done put in
      let all : given ≡ published = subst (λ (r : Result ℕ Unpublished). OnOk r (given ≡ published)) done all in
      rw (all, put, is) ends
