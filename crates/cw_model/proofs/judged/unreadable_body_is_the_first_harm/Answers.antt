use Rattle.std.proofs.Common.{◌≡◌, true, false, [], ◌∷◌, refl, inl}
use Rattle.cw_bytes.specs.Reading.{records_at}
use Rattle.cw_model.proofs.judged.unreadable_body_is_the_first_harm.Goals as goal

-- false isn't true
unlike : false ≡ true → ⊥
unlike same = cc

pub returns : goal.returns
unfolding records_at
returns c = inl (record {
  earlier = tt;
  here = record { before = []; lacking = 9 ∷ []; behind = []; split = refl; place = refl; each = tt; lacks = unlike };
})
