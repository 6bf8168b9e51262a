use Rattle.std.proofs.Common.{[], ap, sym, subst, ◌∙◌}
use Rattle.cw_bytes.specs.Frames.{EachFrom, joined}
use Rattle.cw_config.specs.Compaction.{configs_in}
use Rattle.cw_txn.specs.Allowed.{IsAllowedBehind}
use Rattle.cw_txn.specs.Legal.{ChainsBehind}
use Rattle.cw_model.specs.ConfigsAllowed.{AreAllowedConfigs}
use Rattle.cw_model.specs.StandsFor.{Frames}
use Rattle.cw_open.specs.Opened.{opened_as}
use Rattle.cw_open.proofs.ReopenLemmas.{configs-may, entries-may, entries-chain, frames-same, topics-open}
use Rattle.cw_open.proofs.reopening.topics_of.Goals as goal

pub opened-requires-clause-configs : goal.opened-requires-clause-configs
opened-requires-clause-configs c = subst (λ l. AreAllowedConfigs [] (configs_in l)) (ap (λ (f : Frames). f.config) (sym c.frames.view_is) ∙ sym c.as_slice.ensures.value)
    (configs-may c.args.frames c.requires.allowed)

pub opened-requires-clause-entries : goal.opened-requires-clause-entries
opened-requires-clause-entries c = subst (λ l. EachFrom IsAllowedBehind [] (joined l)) (ap (λ (f : Frames). f.txn) (sym c.frames.view_is) ∙ sym c.as_slice-4.ensures.value)
    (entries-may c.args.frames c.requires.allowed)

pub opened-requires-clause-chains : goal.opened-requires-clause-chains
opened-requires-clause-chains c = λ part. subst (λ l. EachFrom (ChainsBehind part) [] (joined l)) (ap (λ (f : Frames). f.txn) (sym c.frames.view_is) ∙ sym c.as_slice-4.ensures.value)
    (entries-chain c.args.frames c.requires.safe part)

pub returns : goal.returns
returns c = let sides = c.args.sides.now in
    topics-open c.opened.result _ (opened_as c.args.frames sides.config sides.offsets sides.status) c.opened.ensures
    (ap (λ (f : Frames). opened_as f sides.config sides.offsets sides.status)
    (frames-same c.frames.inside.batches.items c.as_slice.ensures.value c.as_slice-2.ensures.value c.as_slice-3.ensures.value c.as_slice-4.ensures.value ∙ c.frames.view_is))
