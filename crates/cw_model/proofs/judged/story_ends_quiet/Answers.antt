use Rattle.std.proofs.Common.{◌≡◌, ℕ, zero, suc, true, false, None, refl, inl, inr}
use Rattle.std.specs.Fmt.{digits}
use Rattle.json.specs.Print.{escape_byte}
use Rattle.cw_bytes.specs.Spelling.{word, long, text}
use Rattle.cw_feed.specs.Cut.{lengths_behind, fitting}
use Rattle.cw_plugin.specs.Tasks.{groups, task_config}
use Rattle.cw_model.specs.EventsItems.{is_active}
use Rattle.cw_model.specs.Tick.{rule_for}
use Rattle.cw_model.specs.WorkedCases.{committed, task}
use Rattle.cw_model.proofs.judged.story_ends_quiet.Goals as goal

-- false isn't true
unlike : false ≡ true → ⊥
unlike same = cc

-- to the only worker no rule applies
idle : (w : ℕ) → is_active committed w ≡ true → rule_for w committed ≡ None
unfolding digits escape_byte word long text groups task_config
idle zero active = refl
idle (suc w) active = absurd (unlike active)

pub returns : goal.returns
unfolding digits escape_byte word long text groups task_config lengths_behind fitting
returns c = record {
  idle = idle;
  at_rest = ((λ runs. inr (inl (inl refl))), ((λ runs. inr (inl (inr (record { task = task; is_task = refl; polls = refl; nothing = (refl, tt) })))), tt));
}
