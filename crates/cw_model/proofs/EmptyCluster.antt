-- The cluster where nothing was ever written is safe.
use Rattle.std.proofs.Common.{◌≡◌, ◌++◌, List, [], ◌∷◌, refl, arith}
use Rattle.std.proofs.lemmas.List.Elements.{All-nil}
use Rattle.cw_types.specs.declared.ids.PartKey.{PartKey}
use Rattle.cw_types.specs.declared.ids.PartKey.TheVariants.{Raw, File, Seq, Sink}
use Rattle.cw_config.specs.declared.records.ConfigRecord.{ConfigRecord}
use Rattle.cw_io.specs.Shelf.{Files}
use Rattle.cw_feed.specs.Feeds.{IsOfSource}
use Rattle.cw_feed.specs.Yield.{joined, IsLine, Yield}
use Rattle.cw_model.specs.State.{Setting}
use Rattle.cw_model.specs.Safe.{IsSafe}
use Rattle.cw_model.specs.Cases.{empty_cluster}

-- no record stands in an empty list
nothing_in : (before : List ConfigRecord) (r : ConfigRecord) (behind : List ConfigRecord) → [] ≡ before ++ r ∷ behind → ⊥
nothing_in [] r behind split = cc
nothing_in (x ∷ before) r behind split = cc

-- a source's part yields nothing where nothing is committed of it
yields_nothing : (feeds : Files) (part : PartKey) → IsOfSource part → Yield feeds part 0 0 []
unfolding joined
yields_nothing feeds (Raw n) source = absurd source
yields_nothing feeds (Sink connector topic) source = absurd source
yields_nothing feeds (Seq connector index) source = (omega arith, refl)
yields_nothing feeds (File connector feed) source =
    (record { ordered = omega arith; within = λ some. omega arith; ended = λ some. omega arith }, record { whole = refl; each = All-nil IsLine })

-- nothing is held, no fence stands, and nothing is committed
pub empty_is_safe : (setting : Setting) → IsSafe setting empty_cluster
empty_is_safe setting = record {
  disjoint = λ v w x other v_is w_is held. refl;
  fenced = λ name generation mark stands. absurd (nothing_in stands.before stands.fence stands.behind stands.split);
  exact = record { chains = λ part. tt; yields = λ agrees part source. yields_nothing setting.feeds part source };
  backed = record { legal = tt; batches = tt };
}
