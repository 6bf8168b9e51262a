use Rattle.std.proofs.Common.{◌≡◌, ◌++◌}
use Rattle.cw_io.specs.Shelf.{names_of}
use Rattle.cw_io.proofs.memory_shelf.MemShelf.copied_names.Given as goal

-- the names so far, and those of the files that are left
abbrev pub invariant-loop-name : goal.invariant-loop-name
invariant-loop-name l = l.names.items ++ l.name-iterator ≡ names_of l.self.files
