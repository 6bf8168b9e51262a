-- What is known of a call that makes a connector, where it succeeds: the connector has a name.
use Rattle.std.specs.Prelude.{◌≡◌, true, Option, Some, None}
use Rattle.std.specs.Bool.{⊤}
use Rattle.cw_plugin.specs.Checks.{is_name}
use Rattle.cw_route.specs.declared.call.Call.{Call}
use Rattle.cw_route.specs.declared.call.Call.TheVariants.{Create}
use Rattle.cw_rest.specs.Bodies.{Asked, asked_in}

-- what is asked for, if it is anything, has a name
abbrev pub IsNamedIn : Option Asked → Type 0
IsNamedIn None = ⊤
IsNamedIn (Some asked) = is_name asked.name ≡ true

-- the connector that a call makes has one
abbrev pub IsNamed : Call → Type 0
IsNamed (Create body) = IsNamedIn (asked_in body)
IsNamed _ = ⊤
