-- What a turn that answers no call leaves as it is: no entry is kept in the journal, and no worker killed. This
-- project's own.
use Rattle.std.specs.Prelude.{◌≡◌, ℕ}
use Rattle.cw_model.specs.State.{Cluster}
use Rattle.cw_model.specs.Lookups.{row_of}

-- the journal is the same, and the same workers live
pub record KeepsJournal (s t : Cluster) : Type 0 where
  pub journal : t.journal ≡ s.journal
  pub live : (w : ℕ) → (row_of w t).live ≡ (row_of w s).live
