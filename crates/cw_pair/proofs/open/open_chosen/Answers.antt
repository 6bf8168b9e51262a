use Rattle.std.proofs.Common.{◌≡◌, List, ℕ, Some, sym, subst}
use Rattle.cw_log.specs.Log.{IsDamaged, kind_of}
use Rattle.cw_pair.specs.Pair.{IsBehind}
use Rattle.cw_pair.proofs.Judged.{behind_opened, broken_beside, cause_weaker, opened_adds, told_from}
use Rattle.cw_pair.proofs.Pairs.{opens_beside}
use Rattle.cw_pair.proofs.open.open_chosen.Goals as goal

pub returns-in-Ok-clause-list : goal.returns-in-Ok-clause-list
returns-in-Ok-clause-list g c file is beside is' =
    let opens = c.in-Ok.ensures.list file is in
    (opens.0, opens.1, opens_beside (kind_of c.args.name) opens.0 file beside (c.requires.first file is beside is') opens.2)

pub returns-in-Ok-clause-pair : goal.returns-in-Ok-clause-pair
returns-in-Ok-clause-pair g c = record {
  settled = λ alive. c.requires.settled;
  behind = λ alive bodies told beside is'.
      let file = told_from (g.D.Disk.holds c.args.chosen) c.in-Ok.log.bodies bodies c.in-Ok.ensures.told told in
      subst (λ (kind : ℕ). IsBehind kind c.in-Ok.log.number beside) (sym c.in-Ok.ensures.new.0)
      (behind_opened (kind_of c.args.name) c.in-Ok.log.number file.0 beside (g.D.Disk.holds c.in-Ok.log.disk) (c.requires.first file.0 file.1 beside is') (c.in-Ok.ensures.bytes file.0 file.1));
}

pub returns-in-Ok-clause-any_moment : goal.returns-in-Ok-clause-any_moment
returns-in-Ok-clause-any_moment g c file is beside is' =
    opened_adds g.D.Disk.moment g.D.Disk.left_since c.args.chosen c.in-Ok.log.disk (kind_of c.args.name) file beside (c.requires.first file is beside is') (c.in-Ok.ensures.any_moment file is) (c.in-Ok.ensures.head file is)

pub returns-in-Err-clause-any_moment : goal.returns-in-Err-clause-any_moment
returns-in-Err-clause-any_moment g c file is beside is' =
    opened_adds g.D.Disk.moment g.D.Disk.left_since c.args.chosen c.in-Err.fault.disk (kind_of c.args.name) file beside (c.requires.first file is beside is') (c.in-Err.ensures.any_moment file is) (c.in-Err.ensures.head file is)

pub returns-in-Err-clause-cause : goal.returns-in-Err-clause-cause
returns-in-Err-clause-cause g c =
    cause_weaker c.in-Err.fault.cause
    (λ at harm. (g.D.Disk.holds c.in-Err.fault.disk ≡ g.D.Disk.holds c.args.chosen) × ((file : List ℕ) → g.D.Disk.holds c.args.chosen ≡ Some file → IsDamaged (kind_of c.args.name) file at harm)) _ _ _
    (λ at harm found. (found.0, λ file is beside is'. broken_beside (kind_of c.args.name) at harm file beside (c.requires.first file is beside is') (found.1 file is))) c.in-Err.ensures.cause
