-- How many items of a class a member may keep, so that the others get their part of them (KIP-415). The order of
-- members is this project's own.
use Rattle.std.specs.Prelude.{ℕ, ◌+◌, ◌/◌, ◌%◌, ◌==◌, Bool, true, false, List, length, nat_lt, if◌then◌else◌}
use Rattle.std.specs.List.{count_by}
use Rattle.cw_assign.specs.declared.standing.Standing.{Standing}

-- whether one member stands before another: the greater load first, then the lower number
abbrev pub stands_before : Standing → Standing → Bool
stands_before a b = if nat_lt b.load a.load then true else if a.load == b.load then nat_lt a.worker b.worker else false

-- how many members stand before one
abbrev pub rank : List Standing → Standing → ℕ
rank standings own = count_by (λ other. stands_before other own) standings

-- the items divided by the members, of which those that stand first have one more each while there is a remainder
abbrev pub quota : ℕ → List Standing → Standing → ℕ
quota total standings own =
    total / length standings + (if nat_lt (rank standings own) (total % length standings) then 1 else 0)
