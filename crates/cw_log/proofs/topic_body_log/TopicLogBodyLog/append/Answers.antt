use Rattle.std.proofs.Common.{◌≡◌, ◌⊎◌, ◌++◌, ◌∷◌, [], List, ℕ, inl, inr, ⊎_elim, subst}
use Rattle.cw_log.specs.Log.{StandsFor, BeforeOrAfter}
use Rattle.cw_log.proofs.OneReading.{stands_for_one}
use Rattle.cw_log.proofs.topic_body_log.TopicLogBodyLog.append.Goals as goal

one : (kind : ℕ) (bodies list : List (List ℕ)) (body image : List ℕ) → StandsFor kind list image → BeforeOrAfter kind bodies body image → (list ≡ bodies) ⊎ (list ≡ bodies ++ body ∷ [])
one kind bodies list body image stands (inl is) = inl (stands_for_one kind list bodies image stands is)
one kind bodies list body image stands (inr is) = inr (stands_for_one kind list (bodies ++ body ∷ []) image stands is)

pub returns-clause-any_moment : goal.returns-clause-any_moment
returns-clause-any_moment g c alive bodies told =
    let run = c.append.ensures.any_moment alive bodies told in
    record {
      later = run.later;
      before = λ t list le left.
          let stands = subst (λ (kind : ℕ). StandsFor kind list left.image) c.append.ensures.kind left.stands in
          ⊎_elim (λ was. inl (record { image = left.image; left = was; stands = stands })) (λ is. inr (one c.args.self.now.kind bodies list c.args.body.now left.image stands is)) (run.before t left.image le left.left);
    }
