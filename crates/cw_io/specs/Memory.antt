-- What clauses see of the source, the sink, the link, the shelf and the outlet in memory.
use Rattle.std.specs.Prelude.{◌<◌, ◌+◌, ℕ, List, Bool, true, false, length, min, Result, Ok, Err}
use Rattle.cw_io.specs.Shelf.{Files}
use Rattle.cw_io.specs.Calls.{Calls}
use Rattle.cw_io.specs.declared.shelf.ShelfFault.{ShelfFault}
use Rattle.cw_io.specs.declared.shelf.ShelfFault.TheVariants.{Failed, Memory}

-- the bytes that are left to read, and the calls
pub record SourceState : Type 0 where
  pub left : List ℕ
  pub calls : Calls

-- the bytes that were taken, how many there is room for, how many are taken at once, and the calls
pub record SinkState : Type 0 where
  pub held : List ℕ
  pub room : ℕ
  pub most : ℕ
  pub calls : Calls

-- what is left to read, what was taken, how many bytes there is room for, how many go at once, and the calls
pub record LinkState : Type 0 where
  pub left : List ℕ
  pub held : List ℕ
  pub room : ℕ
  pub most : ℕ
  pub calls : Calls

-- the files, and the calls
pub record ShelfState : Type 0 where
  pub files : Files
  pub calls : Calls

-- taking some of these bytes asks for memory
abbrev pub AsksForMemory : ℕ → List ℕ → ℕ → List ℕ → Type 0
AsksForMemory room held most from = room < length held + min (length from) most

-- a call of a shelf failed, and not for want of memory
abbrev pub is_failed : {T : Type 0} → Result T ShelfFault → Bool
is_failed (Ok _) = false
is_failed (Err Failed) = true
is_failed (Err Memory) = false
