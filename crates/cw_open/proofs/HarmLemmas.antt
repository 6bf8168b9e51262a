-- The logs one after the other: the first that lacks something.
use Rattle.std.proofs.Common.{ℕ, [], ◌∷◌}
use Rattle.cw_types.specs.declared.logs.LogName.{LogName}
use Rattle.cw_types.specs.declared.logs.LogName.TheVariants.{Config, Offsets, Status, Txn, Batches}
use Rattle.cw_model.specs.StandsFor.{Judgement, Frames, AreSound, IsFirstOf, safety_of}
use Rattle.cw_laws.proofs.Reopens.{each-nothing}

module _ (judge : LogName → Judgement) where
  pub config_first : (at : ℕ) → (judge Config).lacks at → IsFirstOf judge Config at
  config_first at here = record { earlier = tt; here = here }

  module _ (config : (judge Config).sound) where
    pub offsets_first : (at : ℕ) → (judge Offsets).lacks at → IsFirstOf judge Offsets at
    offsets_first at here = record { earlier = (config, tt); here = here }

    module _ (offsets : (judge Offsets).sound) where
      pub status_first : (at : ℕ) → (judge Status).lacks at → IsFirstOf judge Status at
      status_first at here = record { earlier = (config, (offsets, tt)); here = here }

      module _ (status : (judge Status).sound) where
        pub txn_first : (at : ℕ) → (judge Txn).lacks at → IsFirstOf judge Txn at
        txn_first at here = record { earlier = (config, (offsets, (status, tt))); here = here }

        module _ (txn : (judge Txn).sound) where
          pub batches_first : (at : ℕ) → (judge Batches).lacks at → IsFirstOf judge Batches at
          batches_first at here = record { earlier = (config, (offsets, (status, (txn, tt)))); here = here }

          pub all_sound : (judge Batches).sound → AreSound judge
          all_sound batches = (config, (offsets, (status, (txn, (batches, tt)))))

-- safety is asked of the config log and of the transaction log alone
module _ (frames : Frames) (config : (safety_of frames Config).sound) where
  pub txn_unsafe : (at : ℕ) → (safety_of frames Txn).lacks at → IsFirstOf (safety_of frames) Txn at
  txn_unsafe = txn_first (safety_of frames) config (each-nothing [] frames.offsets) (each-nothing [] frames.status)

  pub all_safe : (safety_of frames Txn).sound → AreSound (safety_of frames)
  all_safe txn = all_sound (safety_of frames) config (each-nothing [] frames.offsets) (each-nothing [] frames.status) txn (each-nothing [] frames.batches)
