-- What the committed offsets are to their callers: the list of calls, and calls for which room was made before they
-- are done.
use Rattle.std.specs.Prelude.{◌≡◌, List, [], ◌∷◌, ◌++◌, Contains, ◌⊎◌}
use Rattle.cw_offset.specs.declared.call.OffsetCall.{OffsetCall}

-- the calls in order, and those reserved, each of which takes no memory when it is done
pub record Calls : Type 0 where
  pub calls : List OffsetCall
  pub reserved : List OffsetCall

-- a list without the first place of a call in it
pub record WithoutFirst (call : OffsetCall) (old new : List OffsetCall) : Type 0 where
  pub front : List OffsetCall
  pub back : List OffsetCall
  pub split : old ≡ front ++ call ∷ back
  pub first : ¬ Contains front call
  pub rest : new ≡ front ++ back

-- a list without one place of a call, where it has one
abbrev pub UsesUp : OffsetCall → List OffsetCall → List OffsetCall → Type 0
UsesUp call old new = WithoutFirst call old new ⊎ ((¬ Contains old call) × (new ≡ old))

-- a call was done, and its reservation, if there was one, is used up
pub record Does (call : OffsetCall) (old new : Calls) : Type 0 where
  pub calls : new.calls ≡ old.calls ++ call ∷ []
  pub reserved : UsesUp call old.reserved new.reserved
