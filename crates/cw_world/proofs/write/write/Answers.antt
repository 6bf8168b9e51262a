use Rattle.std.proofs.Common.{rules, arith, ◌≡◌, ◌⊎◌, ◌≤◌, Option, Some, Result, ◌++◌, ◌∷◌, [], ℕ, List, length, true, inl, inr, ⊎_elim, refl, sym, ap, ◌∙◌, subst, is_some}
use Rattle.cw_disk.proofs.Moments.{adds_weaker}
use Rattle.cw_model.specs.Bodies.{frame_of, has_room}
use Rattle.cw_rows.specs.Writes.{bytes_in}
use Rattle.cw_log.specs.State.{OnAppendFault}
use Rattle.cw_log.specs.declared.fault.AppendFault.{AppendFault}
use Rattle.cw_log.specs.declared.fault.AppendFault.TheVariants as appends
use Rattle.cw_world.proofs.Breaking.{fails-on, left_either}
use Rattle.cw_world.proofs.write.write.Goals as goal

-- what an append that failed says
failed : (fault : AppendFault) (F : Type 0) (L : ℕ → ℕ → Type 0) (S M : Type 0) → fault ≡ appends.Failed → OnAppendFault F L S M fault → F
failed appends.Failed F L S M is holds = holds
failed (appends.Full length frame) F L S M is holds = cc
failed appends.Shut F L S M is holds = cc
failed appends.Memory F L S M is holds = cc

pub returns-in-Some : goal.returns-in-Some
returns-in-Some g c =
    let found = failed c.in-Err-Failed.field-0 _ _ _ _ c.in-Err-Failed.field-0-is c.in-Err-Failed.ensures.fault in
    let roomy : has_room (bytes_in c.args.name c.args.cluster.now.state) (frame_of c.args.body.now) ≡ true = search (rules, found) in
    record {
      answer = record {
        room = roomy;
        fails = rw (c.disk_of-disk.ensures) (fails-on c.args.name (g.L.BodyLog.faults c.args.log.now) (g.L.BodyLog.faults c.append.new.self) (g.L.BodyLog.last_failed c.append.new.self) c.in-Some.side c.in-Some.count found.2 (sym c.failed.ensures ∙ c.in-Some.is));
        same = record { number = c.append.ensures.side_number; bodies = c.in-Err-Failed.ensures.same.0; size = c.in-Err-Failed.ensures.same.1; bytes = c.in-Err-Failed.ensures.same.2; limit = c.append.ensures.limit };
        state = c.close.ensures.state;
        setting = c.close.ensures.setting;
        left = λ list told. left_either (g.L.BodyLog.may_leave c.append.new.self) (g.L.BodyLog.stands_for c.append.new.self) list (list ++ c.args.body.now ∷ []) (c.append.ensures.left c.requires.ready.alive list told);
      };
      leaves = λ list told. adds_weaker g.L.BodyLog.moment g.L.BodyLog.stands_since c.args.log.now c.append.new.self
          (λ left. (left ≡ list) ⊎ (left ≡ list ++ c.args.body.now ∷ []))
          (λ left. (left ≡ list) ⊎ ((has_room (bytes_in c.args.name c.args.cluster.now.state) (frame_of c.args.body.now) ≡ true) × (left ≡ list ++ c.args.body.now ∷ [])))
          (c.append.ensures.any_moment c.requires.ready.alive list told)
          (λ left either. ⊎_elim (λ same. inl same) (λ more. inr (roomy, more)) either);
      keeps = record { kind = c.append.ensures.kind; told = ap is_some c.in-Err-Failed.ensures.same.0; later = c.append.ensures.later };
    }
