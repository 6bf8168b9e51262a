-- What a connection handler keeps of a call that was answered. This project's own.
use Rattle.std.specs.Prelude.{◌≡◌, ℕ, List, [], ◌∷◌, ◌++◌}
use Rattle.cw_route.specs.declared.call.Call.{Call}
use Rattle.cw_world.specs.Receipts.{ReceiptState}

-- a receipt of this call through a worker is kept behind the others
pub record IsKeptBy (w : ℕ) (call : Call) (receipt : ReceiptState) (before now : List ReceiptState) : Type 0 where
  pub kept : now ≡ before ++ receipt ∷ []
  pub through : receipt.entry.worker ≡ w
  pub asked : receipt.entry.call ≡ call
