use Rattle.std.proofs.Common.{◌≡◌, ℕ, zero, suc, true, false, refl}
use Rattle.std.specs.Fmt.{digits}
use Rattle.json.specs.Print.{escape_byte}
use Rattle.cw_bytes.specs.Spelling.{word, long, text}
use Rattle.cw_feed.specs.Cut.{lengths_behind, fitting}
use Rattle.cw_plugin.specs.Tasks.{groups, task_config}
use Rattle.cw_model.specs.Lookups.{is_member}
use Rattle.cw_model.specs.WorkedCases.{committed}
use Rattle.cw_model.proofs.judged.story_ends_done.Goals as goal

-- false isn't true
unlike : false ≡ true → ⊥
unlike same = cc

-- there is one member
only : (w : ℕ) → is_member w committed ≡ true → w ≡ 0
unfolding digits escape_byte word long text groups task_config
only zero known = refl
only (suc w) known = absurd (unlike known)

pub returns : goal.returns
unfolding digits escape_byte word long text groups task_config lengths_behind fitting
returns c = record {
  tasks = refl;
  runs = (
    record { worker = 0; member = refl; holds = refl; only = λ other known runs. only other known },
    (record { worker = 0; member = refl; holds = refl; only = λ other known runs. only other known }, tt),
  );
  through = λ is_started. ((refl, tt), tt);
}
