use Rattle.std.proofs.Common.{◌≡◌, ◌<◌, List, ℕ, true, false, ap, sym, ◌∙◌}
use Rattle.cw_config.specs.Tables.{is_deferred}
use Rattle.cw_config.proofs.Ranges.{all_more, all_fail}
use Rattle.cw_config.proofs.tables.Tables.has_tasks.Goals as goal

pub loop-index-preserved : goal.loop-index-preserved
loop-index-preserved c =
    let here : is_deferred c.args.self.now c.args.name.now c.loop-index.index ≡ true =
    ap (λ (n : List ℕ). is_deferred c.args.self.now n c.loop-index.index) (sym c.loop-index.invariant.name) ∙ sym c.is_deferred.ensures ∙ c.if-not-is_deferred.false in
    record { name = c.loop-index.invariant.name; so_far = all_more (is_deferred c.args.self.now c.args.name.now) c.loop-index.index c.loop-index.invariant.so_far here }

pub returns-then-not-is_deferred : goal.returns-then-not-is_deferred
returns-then-not-is_deferred c =
    let here : is_deferred c.args.self.now c.args.name.now c.loop-index.index ≡ false =
    ap (λ (n : List ℕ). is_deferred c.args.self.now n c.loop-index.index) (sym c.loop-index.invariant.name) ∙ sym c.is_deferred.ensures ∙ c.if-not-is_deferred.true in
    sym (all_fail (is_deferred c.args.self.now c.args.name.now) c.args.count c.loop-index.index c.loop-index-test.true here)
