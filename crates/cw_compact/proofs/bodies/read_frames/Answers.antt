use Rattle.std.proofs.Common.{◌≡◌, ◌+◌, ◌++◌, ◌∷◌, [], List, Vec, ℕ, take, get_or, Err, ap, sym, subst, ◌∙◌}
use Rattle.std.specs.declared.alloc.Global.{Global}
use Rattle.cw_bytes.specs.declared.applied.Applied.{Applied}
use Rattle.cw_bytes.specs.declared.body.BodyFault.TheVariants.{NotBody}
use Rattle.cw_compact.specs.Bodies.{AreBodiesOf, bodies_in}
use Rattle.cw_compact.proofs.Joined.{more}
use Rattle.cw_compact.proofs.Spelled.{read_one, frame_at, body_at, taken}
use Rattle.cw_compact.proofs.bodies.read_frames.Goals as goal

pub loop-body-preserved : goal.loop-body-preserved
loop-body-preserved c =
    let bodies : List (Vec ℕ Global) = c.args.bodies.now in
    let at : ℕ = c.loop-body.body-index in
    let body : Vec ℕ Global = c.body-item.result in
    record {
      found = subst (λ (fs : List (List Applied)). AreBodiesOf fs (bodies_in (take (at + 1) bodies))) (sym c.in_ok-push_frame-in-Ok.ensures.pushed)
          (subst (λ (l : List (Vec ℕ Global)). AreBodiesOf (c.loop-body.frames.items ++ c.in-Ok.records.items ∷ []) (bodies_in l)) (sym (more bodies at body c.loop-body-test.true c.body-item.is))
          (read_one c.loop-body.frames.items (take at bodies) c.in-Ok.records.items body c.loop-body.invariant.found c.in-Ok.ensures.found.0 (sym c.as_slice.ensures.value ∙ c.in-Ok.ensures.found.1)));
      only = λ frames known.
          c.in_ok-push_frame-in-Ok.ensures.pushed
          ∙ ap (λ (l : List (List Applied)). l ++ c.in-Ok.records.items ∷ []) (c.loop-body.invariant.only frames known)
          ∙ ap (λ (r : List Applied). take at frames ++ r ∷ [])
          (c.in-Ok.ensures.only (get_or frames at []) (frame_at frames bodies known at body c.loop-body-test.true c.body-item.is) (c.as_slice.ensures.value ∙ body_at frames bodies known at body c.loop-body-test.true c.body-item.is))
          ∙ sym (taken frames bodies known at body c.loop-body-test.true c.body-item.is);
    }

pub returns-in-Err-clause-refused : goal.returns-in-Err-clause-refused
returns-in-Err-clause-refused c = λ frames known e.
    let bodies : List (Vec ℕ Global) = c.args.bodies.now in
    let at : ℕ = c.loop-body.body-index in
    let body : Vec ℕ Global = c.body-item.result in
    let fault : c.in-Err.fault ≡ NotBody = cc e in
    c.in-Err.ensures.refused (get_or frames at []) (frame_at frames bodies known at body c.loop-body-test.true c.body-item.is) (c.as_slice.ensures.value ∙ body_at frames bodies known at body c.loop-body-test.true c.body-item.is) (ap Err fault)
