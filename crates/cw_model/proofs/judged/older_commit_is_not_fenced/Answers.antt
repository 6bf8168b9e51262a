use Rattle.std.proofs.Common.{◌≤◌, [], ◌∷◌, refl, arith}
use Rattle.cw_model.specs.Fences.{StandingFence}
use Rattle.cw_model.specs.WorkedCases.{name, commit_record, fence_record, overtaken}
use Rattle.cw_model.proofs.judged.older_commit_is_not_fenced.Goals as goal

-- the fence stands for the generation of the commit before it
stands : StandingFence overtaken.configs name 2 1
stands = record {
  before = commit_record ∷ [];
  fence = fence_record;
  behind = [];
  split = refl;
  fences = refl;
  stamped = refl;
  of_generation = refl;
}

pub returns : goal.returns
returns c = λ fenced. let older : 2 ≤ 1 = (fenced name 2 1 stands).none_older.0 refl in omega arith
