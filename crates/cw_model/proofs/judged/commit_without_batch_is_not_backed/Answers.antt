use Rattle.std.proofs.Common.{◌≡◌, List, [], ◌∷◌, refl}
use Rattle.cw_data.specs.declared.entry.Batch.{Batch}
use Rattle.cw_model.proofs.judged.commit_without_batch_is_not_backed.Goals as goal

-- nothing is one batch
no_batch : (batch : Batch) (found : List Batch) → found ≡ [] → found ≡ batch ∷ [] → ⊥
no_batch batch found is_none is_one = cc

pub returns : goal.returns
returns c = λ backed. let found = (backed.batches.1.0 refl).0 in no_batch found.batch [] refl found.only
