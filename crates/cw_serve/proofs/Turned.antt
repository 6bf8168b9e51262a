-- What a herder's turn comes to.
use Rattle.std.proofs.Common.{◌≡◌, ◌≢◌, ◌∙◌, inl, inr, ℕ, true, List, Vec, length, Option, Result, Err, refl, sym, subst}
use Rattle.std.specs.Prelude.{⊤}
use Rattle.std.specs.Vec.{with_items}
use Rattle.std.proofs.lemmas.List.{with_items_is}
use Rattle.cw_disk.specs.declared.device.Disk.{Ghosts}
use Rattle.cw_model.specs.declared.fault.WorldFault.{WorldFault}
use Rattle.cw_model.specs.declared.fault.WorldFault.TheVariants as fault
use Rattle.cw_model.specs.declared.tick.Tick.{Tick}
use Rattle.cw_model.specs.EventsWorkers.{expire}
use Rattle.cw_model.specs.Tick.{tick}
use Rattle.cw_world.specs.Moments.{at_moment}
use Rattle.cw_world.specs.World.{WorldState, Acts, Does}
use Rattle.cw_serve.specs.declared.shared.Stop.{Stop}
use Rattle.cw_serve.specs.declared.shared.Stop.TheVariants as stop
use Rattle.cw_serve.specs.declared.turns.Herded.{Herded}
use Rattle.cw_serve.specs.Sharing.{SharedState, first_stop}
use Rattle.cw_serve.specs.Turning.{Herds, Notes, is_late, expiry_came, tick_came}

-- what was noted is all that the vector holds
pub noted : {Z : Type 0} (w now : ℕ) (v : Vec ℕ Z) (old new : List ℕ) → old ≡ v.items → length old ≡ v.len → Notes w now old new
    → Notes w now v.items (with_items v new).items
noted w now v old new is count notes =
    subst (λ (l : List ℕ). Notes w now v.items l) (sym (with_items_is v new (notes.count ∙ count)))
    (subst (λ (l : List ℕ). Notes w now l new) is notes)

module _ {D : Type 0} (G : Ghosts D) (w now : ℕ) (was old : SharedState D) (is : was ≡ old)
    (moments : List ℕ) (notes : Notes w now was.moments moments) (world : WorldState D) (first : Option Stop) (result : Herded) where
  abbrev pub left : SharedState D
  left = record was { world = world; stop = first; moments = moments }

  -- a late member was let go
  pub expired : (came : Result ⊤ WorldFault) (m : ℕ) → is_late now moments m ≡ true → Does (expire was.world.setting m) (at_moment now was.world) world came
      → result ≡ expiry_came came → (came ≡ Err fault.Memory → first ≡ first_stop was.stop stop.Memory)
      → (came ≢ Err fault.Memory → first ≡ was.stop) → Herds G w now old left result
  expired came m late does told wants keeps = subst (λ (s : SharedState D). Herds G w now s left result) is (record {
    notes = notes;
    turn = inr (m, late, record { came = came; acted = does; told = told; wants = wants; keeps = keeps; rest = refl });
  })

  -- the worker ticked
  pub ticked : (came : Result Tick WorldFault) → Acts G (tick w) (at_moment now was.world) world came
      → result ≡ tick_came came → (came ≡ Err fault.Memory → first ≡ first_stop was.stop stop.Memory)
      → (came ≢ Err fault.Memory → first ≡ was.stop) → Herds G w now old left result
  ticked came acts told wants keeps = subst (λ (s : SharedState D). Herds G w now s left result) is (record {
    notes = notes;
    turn = inl (record { came = came; acted = acts; told = told; wants = wants; keeps = keeps; rest = refl });
  })
