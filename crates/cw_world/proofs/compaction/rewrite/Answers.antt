use Rattle.std.proofs.Common.{rules, arith, ◌≡◌, ◌⊎◌, ℕ, List, sym, ◌∙◌, subst}
use Rattle.cw_log.specs.Compaction.{OnCompactFault, bodies_in}
use Rattle.cw_log.specs.declared.fault.CompactFault.{CompactFault}
use Rattle.cw_log.specs.declared.fault.CompactFault.TheVariants as compacts
use Rattle.cw_pair.specs.Pair.{PairStandsFor}
use Rattle.cw_pair.specs.State.{MayLeave, disks_of, faults_of}
use Rattle.cw_world.proofs.Breaking.{fails-on, left_either}
use Rattle.cw_world.proofs.compaction.rewrite.Goals as goal

-- what a compaction that failed says
failed : (fault : CompactFault) (F S W M : Type 0) → fault ≡ compacts.Failed → OnCompactFault F S W M fault → F
failed compacts.Failed F S W M is holds = holds
failed compacts.Shut F S W M is holds = cc
failed compacts.Worn F S W M is holds = cc
failed compacts.Memory F S W M is holds = cc

pub returns-in-Some : goal.returns-in-Some
returns-in-Some g c =
    let found = failed c.in-Err-Failed.field-0 _ _ _ _ c.in-Err-Failed.field-0-is c.in-Err-Failed.ensures.fault in
    let after = bodies_in c.args.bodies.now.items in
    record {
      answer = record {
        fails = rw (c.disk_of-disk.ensures) (fails-on c.args.name (faults_of g.D.Disk (disks_of c.args.log.now)) (faults_of g.D.Disk (disks_of c.compact.new.self)) c.compact.new.self.failed c.in-Some.side c.in-Some.count found.2 (sym c.failed.ensures ∙ c.in-Some.is));
        same = search (rules, found);
        state = c.close.ensures.state;
        setting = c.close.ensures.setting;
        left = λ list told. left_either (λ (image : List ℕ × List ℕ). MayLeave g.D.Disk.may_leave (disks_of c.compact.new.self) image.0 image.1)
            (λ (l : List (List ℕ)) (image : List ℕ × List ℕ). PairStandsFor c.compact.new.self.log.kind l image.0 image.1) list after
            (λ image may. subst (λ (kind : ℕ). PairStandsFor kind list image.0 image.1 ⊎ PairStandsFor kind after image.0 image.1) (sym c.compact.ensures.kind)
            (c.compact.ensures.left c.requires.ready.alive list told image.0 image.1 may));
      };
      leaves = λ list told. c.compact.ensures.any_moment c.requires.ready.alive list told;
      keeps = record { kind = c.compact.ensures.kind; told = c.compact.ensures.told; later = c.compact.ensures.later };
    }
