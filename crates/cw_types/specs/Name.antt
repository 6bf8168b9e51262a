-- Which bytes are a name, and the first fault of others. The lengths and bytes are this project's own.
use Rattle.std.specs.Prelude.{◌≡◌, ℕ, ◌==◌, ◌&&◌, Bool, not, List, length, nat_lt, nat_le, Option, None, Some, position}
use Rattle.std.specs.Prelude.{if◌then◌else◌}
use Rattle.std.specs.Option.{option_map}
use Rattle.cw_types.specs.declared.name.NameFault.{NameFault}
use Rattle.cw_types.specs.declared.name.NameFault.TheVariants.{Empty, TooLong, BadByte}

-- a byte that a name may hold: `!` to `~`
abbrev pub is_name_byte : ℕ → Bool
is_name_byte b = nat_le 33 b && nat_le b 126

-- the first fault of bytes that are no name
abbrev pub name_fault : List ℕ → Option NameFault
name_fault bytes =
    if length bytes == 0 then Some Empty else
    if nat_lt 128 (length bytes) then Some TooLong else
    option_map BadByte (position (λ b. not (is_name_byte b)) bytes)

-- the bytes, where they have no fault
abbrev pub unless_fault : List ℕ → Option NameFault → Option (List ℕ)
unless_fault bytes None = Some bytes
unless_fault bytes (Some fault) = None

-- the name that bytes are
abbrev pub name_of : List ℕ → Option (List ℕ)
name_of bytes = unless_fault bytes (name_fault bytes)

-- the bytes of a name
abbrev pub IsName : List ℕ → Type 0
IsName bytes = name_fault bytes ≡ None
