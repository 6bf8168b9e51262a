use Rattle.std.proofs.Common.{ℕ, ◌∷◌, [], ◌++◌, List, sym, ◌∙◌, ap}
use Rattle.cw_rest.specs.Operations.{bumps_of}
use Rattle.cw_txn.specs.declared.entry.Entry.{Entry}
use Rattle.cw_rows.proofs.Bumps.{bump_at, bumps-more}
use Rattle.cw_rows.proofs.leading.bumps_of.Goals as goal

pub loop-index-preserved : goal.loop-index-preserved
loop-index-preserved c = c.in_ok-push.ensures.items ∙
    ap (λ (l : List Entry). l ++ bump_at c.in_ok-connector.connector c.loop-index.index ∷ []) c.loop-index.invariant ∙
    ap (λ (name : List ℕ). bumps_of c.args.name.now c.loop-index.index ++ bump_at name c.loop-index.index ∷ []) c.in_ok-connector.ensures ∙
    sym (bumps-more c.args.name.now c.loop-index.index)
