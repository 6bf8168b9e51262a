-- How large a server may be. This project's own.
use Rattle.std.specs.Prelude.{◌<◌, ◌≤◌}
use Rattle.cw_serve.specs.declared.sizes.Sizes.{Sizes}

-- the sizes that a server may have
pub record AreServed (sizes : Sizes) : Type 0 where
  pub workers : (0 < sizes.workers) × (sizes.workers ≤ 64)
  pub runners : (0 < sizes.runners) × (sizes.runners ≤ 64)
  pub handlers : (0 < sizes.handlers) × (sizes.handlers ≤ 64)
  pub conns : (0 < sizes.conns) × (sizes.conns ≤ 10000)
