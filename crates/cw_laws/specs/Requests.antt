-- What is taken for granted of a call of Connect's REST API that writes: its names are names, as a path's are, and so
-- are those of the feeds that it sees. This project's own.
use Rattle.std.specs.Bool.{⊤}
use Rattle.std.specs.List.{AllByRecursion}
use Rattle.cw_types.specs.Name.{IsName}
use Rattle.cw_route.specs.declared.call.Call.{Call}
use Rattle.cw_route.specs.declared.call.Call.TheVariants.{PutConfig}
use Rattle.cw_rest.specs.Seen.{Seen}

-- the connector that is given a config has a name; a new one's is tested, and others' are configured
abbrev pub IsOfName : Call → Type 0
IsOfName (PutConfig name body) = IsName name
IsOfName _ = ⊤

-- the feeds that a call sees have names
abbrev pub HasNamedFeeds : Seen → Type 0
HasNamedFeeds seen = AllByRecursion IsName seen.feeds
