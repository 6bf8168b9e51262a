-- The language of scripts: each directive's word, and what stands behind it. It is this project's own.
use Rattle.std.specs.Prelude.{ℕ, List, [], ◌∷◌, codes}
use Rattle.cw_types.specs.declared.logs.LogName.{LogName}
use Rattle.cw_script.specs.declared.directive.PartEnd.{PartEnd}
use Rattle.cw_script.specs.declared.directive.Directive.{Directive}
use Rattle.cw_script.specs.declared.directive.Directive.TheVariants.{Init, Commit, Spawn, Kill, Deaf, Hear, Expire}
use Rattle.cw_script.specs.declared.directive.Directive.TheVariants.{Clock, Tick, Step, Settle, Rest, Held, Member}
use Rattle.cw_script.specs.declared.directive.Directive.TheVariants.{Take, Compact}

-- what one word behind a directive's word may be
pub data Place : Type 0 where
  number32 : Place
  number64 : Place
  limit : Place
  name : Place
  log : Place
  text : Place

-- what stands behind these words: nothing, pairs of a part and its end, or bytes up to the line's end
pub data End : Type 0 where
  nothing : End
  pairs : End
  body : End

-- what is read at each place
abbrev pub ValueOf : Place → Type 0
ValueOf number32 = ℕ
ValueOf number64 = ℕ
ValueOf limit = ℕ
ValueOf name = List ℕ
ValueOf log = LogName
ValueOf text = List ℕ

-- what makes a directive of the values
abbrev pub Maker : List Place → End → Type 0
Maker [] nothing = Directive
Maker [] pairs = List PartEnd → Directive
Maker [] body = List ℕ → Directive
Maker (place ∷ places) end = ValueOf place → Maker places end

-- a directive's word, what stands behind it, and the directive that is made of it
pub record Row : Type 0 where
  pub word : List ℕ
  pub places : List Place
  pub end : End
  pub make : Maker places end

abbrev pub row : List ℕ → (places : List Place) (end : End) → Maker places end → Row
row word places end make = record { word = word; places = places; end = end; make = make }

-- the whole language
abbrev pub table : List Row
table =
    row (codes "init") (number32 ∷ []) nothing Init ∷
    row (codes "commit") (number32 ∷ number64 ∷ []) pairs Commit ∷
    row (codes "spawn") [] nothing Spawn ∷
    row (codes "kill") (number64 ∷ []) nothing Kill ∷
    row (codes "deaf") (number64 ∷ []) nothing Deaf ∷
    row (codes "hear") (number64 ∷ []) nothing Hear ∷
    row (codes "expire") (number64 ∷ []) nothing Expire ∷
    row (codes "clock") (number64 ∷ []) nothing Clock ∷
    row (codes "tick") (number64 ∷ []) nothing Tick ∷
    row (codes "step") (number64 ∷ []) nothing Step ∷
    row (codes "settle") (limit ∷ []) nothing Settle ∷
    row (codes "rest") (number64 ∷ text ∷ text ∷ []) body Rest ∷
    row (codes "held") (number64 ∷ []) nothing Held ∷
    row (codes "member") (number64 ∷ []) nothing Member ∷
    row (codes "take") (name ∷ number64 ∷ []) nothing Take ∷
    row (codes "compact") (log ∷ []) nothing Compact ∷ []
