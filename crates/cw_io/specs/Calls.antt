-- Which calls of an object in memory fail: those whose numbers it was given, counted from 0. This project's own rule.
use Rattle.std.specs.Prelude.{ℕ, ◌+◌, ◌-◌, ◌^◌, ◌==◌, min, List, Bool, if◌then◌else◌}
use Rattle.std.specs.List.{list_any}

-- the numbers of the calls that fail, the number of the next call, and how many calls failed
pub record Calls : Type 0 where
  pub failing : List ℕ
  pub number : ℕ
  pub faults : ℕ

-- before the first call
abbrev pub no_calls : List ℕ → Calls
no_calls failing = record { failing = failing; number = 0; faults = 0 }

-- whether the next call is one of those that fail
abbrev pub is_listed : Calls → Bool
is_listed calls = list_any (λ number. number == calls.number) calls.failing

-- one more, but for a count at the greatest u64
abbrev pub raised : ℕ → ℕ
raised count = min (count + 1) (2 ^ 64 - 1)

-- one call later, which failed or not
abbrev pub after_call : Bool → Calls → Calls
after_call failed calls = record {
  failing = calls.failing;
  number = raised calls.number;
  faults = (if failed then raised calls.faults else calls.faults);
}
