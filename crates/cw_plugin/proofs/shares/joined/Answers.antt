use Rattle.std.proofs.Common.{◌∙◌, ◌++◌, ap, string_bytes}
use Rattle.cw_plugin.proofs.ShareLemmas.{join_begun}
use Rattle.cw_plugin.proofs.shares.joined.Goals as goal

pub loop-next-init : goal.loop-next-init
loop-next-init c = join_begun (string_bytes c.push_str.new.self) c.in-Some.first.now c.args.texts.now c.in-Some.behind.now c.in-Some.ensures.cases.0 (c.in_ok-push_str.ensures.bytes ∙ ap (λ t. t ++ c.as_str.result.now) c.new-text.ensures.bytes ∙ c.as_str.ensures)
