-- How a directive is spelled, and which directives a line can spell.
use Rattle.std.specs.Prelude.{◌≡◌, ◌⊎◌, ℕ, ◌≤◌, ◌<◌, ◌^◌, false, nat_eq, List, [], ◌∷◌, ◌++◌, codes, decimal}
use Rattle.std.specs.List.{flat_map, AllByRecursion}
use Rattle.cw_types.specs.Name.{IsName}
use Rattle.cw_types.specs.declared.logs.LogName.{LogName}
use Rattle.cw_types.specs.declared.logs.LogName.TheVariants.{Config, Offsets, Status, Txn, Batches}
use Rattle.cw_script.specs.declared.directive.PartEnd.{PartEnd}
use Rattle.cw_script.specs.declared.directive.Directive.{Directive}
use Rattle.cw_script.specs.declared.directive.Directive.TheVariants.{Init, Commit, Spawn, Kill, Deaf, Hear, Expire}
use Rattle.cw_script.specs.declared.directive.Directive.TheVariants.{Clock, Tick, Step, Settle, Rest, Held, Member}
use Rattle.cw_script.specs.declared.directive.Directive.TheVariants.{Take, Compact}
use Rattle.cw_script.specs.Words.{joined}
use Rattle.cw_script.specs.Pairs.{ArePairs}

-- the words of a pair
abbrev pub pair_words : PartEnd → List (List ℕ)
pair_words pair = decimal pair.part ∷ decimal pair.to ∷ []

-- a pair behind a space
abbrev pub pair_text : PartEnd → List ℕ
pair_text pair = 32 ∷ decimal pair.part ++ 32 ∷ decimal pair.to

-- a body stands behind one more space; nothing stands for no body
abbrev pub body_words : List ℕ → List (List ℕ)
body_words [] = []
body_words (c ∷ cs) = (c ∷ cs) ∷ []

abbrev pub log_text : LogName → List ℕ
log_text Config = codes "config"
log_text Offsets = codes "offsets"
log_text Status = codes "status"
log_text Txn = codes "txn"
log_text Batches = codes "batches"

-- the words of a directive
abbrev pub words_for : Directive → List (List ℕ)
words_for (Init id) = codes "init" ∷ decimal id ∷ []
words_for (Commit id epoch pairs) = codes "commit" ∷ decimal id ∷ decimal epoch ∷ flat_map pair_words pairs
words_for Spawn = codes "spawn" ∷ []
words_for (Kill worker) = codes "kill" ∷ decimal worker ∷ []
words_for (Deaf worker) = codes "deaf" ∷ decimal worker ∷ []
words_for (Hear worker) = codes "hear" ∷ decimal worker ∷ []
words_for (Expire worker) = codes "expire" ∷ decimal worker ∷ []
words_for (Clock moment) = codes "clock" ∷ decimal moment ∷ []
words_for (Tick worker) = codes "tick" ∷ decimal worker ∷ []
words_for (Step instance) = codes "step" ∷ decimal instance ∷ []
words_for (Settle most) = codes "settle" ∷ decimal most ∷ []
words_for (Rest worker method target body) = codes "rest" ∷ decimal worker ∷ method ∷ target ∷ body_words body
words_for (Held worker) = codes "held" ∷ decimal worker ∷ []
words_for (Member worker) = codes "member" ∷ decimal worker ∷ []
words_for (Take topic from) = codes "take" ∷ topic ∷ decimal from ∷ []
words_for (Compact log) = codes "compact" ∷ log_text log ∷ []

-- the line of a directive
abbrev pub spelled : Directive → List ℕ
spelled directive = joined (words_for directive)

-- a request without a body
abbrev pub HasNoBody : Directive → Type 0
HasNoBody (Rest worker method target []) = Unit {0}
HasNoBody (Rest worker method target (c ∷ cs)) = ⊥
HasNoBody _ = ⊥

-- the line spells the directive; a space may end a request without a body
abbrev pub IsSpelling : List ℕ → Directive → Type 0
IsSpelling line directive = (line ≡ spelled directive) ⊎ (HasNoBody directive × (line ≡ spelled directive ++ 32 ∷ []))

-- bytes of one word: none is a space
abbrev pub IsWord : List ℕ → Type 0
IsWord bytes = AllByRecursion (λ b. nat_eq b 32 ≡ false) bytes

-- a log that can be compacted
abbrev pub IsCompacted : LogName → Type 0
IsCompacted Config = Unit {0}
IsCompacted Offsets = Unit {0}
IsCompacted Status = Unit {0}
IsCompacted Txn = ⊥
IsCompacted Batches = ⊥

-- numbers of a pair that fit
pub record PairFits (pair : PartEnd) : Type 0 where
  pub part : pair.part < 2 ^ 32
  pub to : pair.to < 2 ^ 64

-- a commit that a line can spell
pub record IsCommit (id epoch : ℕ) (pairs : List PartEnd) : Type 0 where
  pub id_fits : id < 2 ^ 32
  pub epoch_fits : epoch < 2 ^ 64
  pub numbers_fit : AllByRecursion PairFits pairs
  pub named : ArePairs pairs

-- a request that a line can spell
pub record IsRequest (worker : ℕ) (method target : List ℕ) : Type 0 where
  pub worker_fits : worker < 2 ^ 64
  pub one_method : IsWord method
  pub one_target : IsWord target

-- a take that a line can spell
pub record IsTake (topic : List ℕ) (from : ℕ) : Type 0 where
  pub name : IsName topic
  pub from_fits : from < 2 ^ 64

-- the directives that a line can spell: 1 to 16 parts, none twice; a limit from 1 to 1,000,000; methods and
-- targets of one word each; a log that can be compacted
abbrev pub IsSayable : Directive → Type 0
IsSayable (Init id) = id < 2 ^ 32
IsSayable (Commit id epoch pairs) = IsCommit id epoch pairs
IsSayable Spawn = Unit {0}
IsSayable (Kill worker) = worker < 2 ^ 64
IsSayable (Deaf worker) = worker < 2 ^ 64
IsSayable (Hear worker) = worker < 2 ^ 64
IsSayable (Expire worker) = worker < 2 ^ 64
IsSayable (Clock moment) = moment < 2 ^ 64
IsSayable (Tick worker) = worker < 2 ^ 64
IsSayable (Step instance) = instance < 2 ^ 64
IsSayable (Settle most) = (1 ≤ most) × (most ≤ 1000000)
IsSayable (Rest worker method target body) = IsRequest worker method target
IsSayable (Held worker) = worker < 2 ^ 64
IsSayable (Member worker) = worker < 2 ^ 64
IsSayable (Take topic from) = IsTake topic from
IsSayable (Compact log) = IsCompacted log
