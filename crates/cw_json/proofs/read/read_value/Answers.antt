use Rattle.std.proofs.Common.{sym, ◌∙◌, rules}
use Rattle.cw_json.proofs.Texts.{reading_text, reading_none}
use Rattle.cw_json.proofs.read.read_value.Goals as goal

pub returns-in-Ok : goal.returns-in-Ok
returns-in-Ok c = sym (reading_text c.args.text.now c.in-Ok.ensures.ok.0 ∙ c.in-Ok.ensures.ok.1)

pub returns-else-is_memory : goal.returns-else-is_memory
returns-else-is_memory c = sym (reading_none c.args.text.now (c.in-Err.ensures.err (search rules)))
