-- What a line of a script did to a cluster, step by step: it is a run of the cluster's events, each made where it may
-- be made. This project's own.
use Rattle.std.specs.Prelude.{◌≡◌, List}
use Rattle.std.specs.List.{AllByRecursion}
use Rattle.cw_types.specs.Name.{IsName}
use Rattle.cw_io.specs.Shelf.{names_of}
use Rattle.cw_model.specs.State.{Setting, Cluster}
use Rattle.cw_model.specs.Runs.{Step, IsRun, behind_all}

-- some steps lead from one state to another, and each may be made
pub record Reaches (setting : Setting) (s t : Cluster) : Type 0 where
  pub steps : List Step
  pub run : IsRun setting s steps
  pub ends : behind_all setting s steps ≡ t

-- the feeds that are loaded have names
abbrev pub HaveNames : Setting → Type 0
HaveNames setting = AllByRecursion IsName (names_of setting.feeds)
