-- Which feeds a check takes as loaded. Internal: no public contract cites this.
use Rattle.std.specs.Prelude.{ℕ, List, Bool}
use Rattle.cw_plugin.specs.declared.check.Loaded.{Loaded}
use Rattle.cw_plugin.specs.declared.check.Loaded.TheVariants.{These, Any}
use Rattle.cw_plugin.specs.Checks.{is_name, is_among}

-- the test of a feed: it is one of these, or any name
abbrev pub is_loaded_by : Loaded → List ℕ → Bool
is_loaded_by (These feeds) = is_among feeds.now
is_loaded_by Any = is_name
