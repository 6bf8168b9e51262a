-- The first rule that applies, rule by rule and stage by stage.
use Rattle.std.proofs.Common.{◌≡◌, Bool, true, false, List, [], ◌∷◌, ◌++◌, Option, Some, None, IsSome, refl, sym, ◌∙◌, ap, ℕ, if◌then◌else◌}
use Rattle.std.specs.Option.{option_or}
use Rattle.cw_model.specs.Answers.{Answer}
use Rattle.cw_model.specs.declared.tick.Tick.{Tick}
use Rattle.cw_model.specs.State.{Cluster}
use Rattle.cw_model.specs.Lookups.{row_of}
use Rattle.cw_model.specs.TickRules.{Rule, rule}
use Rattle.cw_model.specs.Tick.{first_rule, rules, deaf_rules, rule_for}
use Rattle.cw_offset.proofs.Replays.{option_or-assoc}

-- ---- rule by rule

pub finds : {A : Type 0} (o : Option A) (does : A → Answer Tick) (later : List Rule) (x : A) → o ≡ Some x →
    first_rule (rule o does ∷ later) ≡ Some (λ _. does x)
finds {A} o does later x is = ap (λ (p : Option A). first_rule (rule p does ∷ later)) is

-- ---- stage by stage

-- the first rule of some, or else of others
pub first_rule-append : (earlier later : List Rule) → first_rule (earlier ++ later) ≡ option_or (first_rule earlier) (first_rule later)
first_rule-append [] later = refl
first_rule-append (r ∷ earlier) later =
    ap (option_or r) (first_rule-append earlier later) ∙ sym (option_or-assoc r (first_rule earlier) (first_rule later))

pub or-some : {A : Type 0} (a b : Option A) → IsSome a → option_or a b ≡ a
or-some None b is = absurd (cc)
or-some (Some x) b is = refl

pub or-later : {A : Type 0} (a b : Option A) → a ≡ None → option_or a b ≡ b
or-later {A} a b is = ap (λ (o : Option A). option_or o b) is

-- the rules of a worker that hears and of one that is deaf
pub hears : (w : ℕ) (s : Cluster) → (row_of w s).hearing ≡ true → rule_for w s ≡ first_rule (rules w s)
hears w s is = ap (λ (b : Bool). first_rule (if b then rules w s else deaf_rules w s)) is

pub is_deaf : (w : ℕ) (s : Cluster) → (row_of w s).hearing ≡ false → rule_for w s ≡ first_rule (deaf_rules w s)
is_deaf w s is = ap (λ (b : Bool). first_rule (if b then rules w s else deaf_rules w s)) is
