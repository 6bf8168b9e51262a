use Rattle.std.proofs.Common.{ℕ, slice_index_or, ◌≡◌, ◌∙◌, ◌<◌, ◌≤◌, ◌-◌, List, take, drop, map, length, slice_index, ap, sym, subst, arith}
use Rattle.std.specs.List.{AllByRecursion}
use Rattle.std.proofs.lemmas.List.{get_or_read}
use Rattle.cw_config.specs.declared.records.ConfigRecord.{ConfigRecord}
use Rattle.cw_laws.proofs.Workers.{sound_at}
use Rattle.cw_model.specs.Bodies.{config_applied}
use Rattle.cw_topics.specs.Configs.{IsWritableRecord}
use Rattle.cw_serve.proofs.Boarding.{writable-part, allowed-part, takes-all, puts-all, puts-some, fits-some}
use Rattle.cw_serve.proofs.publishing.put_read.Goals as goal

-- the place from which records are put
place : (given : List ℕ) (w workers from : ℕ) → length given ≡ workers → w < workers → from ≡ slice_index_or given w from → from ≡ slice_index given w
place given w workers from count low is = get_or_read given w from (omega (arith, count, low)) is 0

pub records_between-requires-clause-from : goal.records_between-requires-clause-from
records_between-requires-clause-from g c =
    let read = c.requires.boarded.read c.args.w c.requires.worker in
    let from = place c.args.given.now.items c.args.w g.J.BoardNaming.workers c.index-from.result.now c.requires.boarded.count c.requires.worker c.index-from.ensures in
    let to = c.read_of-to.ensures in omega (arith, read, from, to)

pub records_between-requires-clause-to : goal.records_between-requires-clause-to
records_between-requires-clause-to g c =
    subst (λ (n : ℕ). n ≤ length c.args.world.now.state.configs) (sym c.read_of-to.ensures)
    (sound_at c.args.world.now.state c.is_safe.ensures.facts.rows c.args.w).prefix

pub applied_of-requires : goal.applied_of-requires
applied_of-requires g c =
    let configs = c.args.world.now.state.configs in
    let from = c.index-from.result.now in
    let count = c.read_of-to.result - from in
    subst (λ (l : List ConfigRecord). AllByRecursion IsWritableRecord l) (sym c.records_between.ensures)
    (writable-part (take from configs) (take count (drop from configs)) (allowed-part configs from count c.is_safe.ensures.facts.logs.configs.allowed))

pub put-requires-clause-takes : goal.put-requires-clause-takes
put-requires-clause-takes g c =
    takes-all c.requires.boarded c.args.w c.requires.worker c.is_safe.ensures.facts.logs.configs.allowed
    (sound_at c.args.world.now.state c.is_safe.ensures.facts.rows c.args.w).prefix c.index-from.result.now c.read_of-to.result
    (place c.args.given.now.items c.args.w g.J.BoardNaming.workers c.index-from.result.now c.requires.boarded.count c.requires.worker c.index-from.ensures)
    c.read_of-to.ensures c.in-Ok.applied.items (c.in-Ok.ensures ∙ ap (λ (l : List ConfigRecord). map config_applied l) c.records_between.ensures)

pub overflow_add-from : goal.overflow_add-from
overflow_add-from g c =
    let fits = fits-some c.requires.boarded c.args.w c.requires.worker c.is_safe.ensures.facts.logs.configs.allowed
    (sound_at c.args.world.now.state c.is_safe.ensures.facts.rows c.args.w).prefix c.index-from.result.now c.read_of-to.result
    (place c.args.given.now.items c.args.w g.J.BoardNaming.workers c.index-from.result.now c.requires.boarded.count c.requires.worker c.index-from.ensures)
    c.read_of-to.ensures c.in-Ok.applied.items (c.in-Ok.ensures ∙ ap (λ (l : List ConfigRecord). map config_applied l) c.records_between.ensures)
    c.in-Err.fault.given c.in-Err.ensures.partly.0 in
    omega (arith, fits)

pub returns-in-Ok-put-clause-boarded : goal.returns-in-Ok-put-clause-boarded
returns-in-Ok-put-clause-boarded g c =
    puts-all c.requires.boarded c.args.w c.requires.worker c.is_safe.ensures.facts.logs.configs.allowed
    (sound_at c.args.world.now.state c.is_safe.ensures.facts.rows c.args.w).prefix c.index-from.result.now c.read_of-to.result
    (place c.args.given.now.items c.args.w g.J.BoardNaming.workers c.index-from.result.now c.requires.boarded.count c.requires.worker c.index-from.ensures)
    c.read_of-to.ensures c.in-Ok.applied.items (c.in-Ok.ensures ∙ ap (λ (l : List ConfigRecord). map config_applied l) c.records_between.ensures)
    c.put.new.self c.in-Ok-put.ensures.published c.in-Ok-put.ensures.all

pub returns-clause-boarded : goal.returns-clause-boarded
returns-clause-boarded g c =
    puts-some c.requires.boarded c.args.w c.requires.worker c.is_safe.ensures.facts.logs.configs.allowed
    (sound_at c.args.world.now.state c.is_safe.ensures.facts.rows c.args.w).prefix c.index-from.result.now c.read_of-to.result
    (place c.args.given.now.items c.args.w g.J.BoardNaming.workers c.index-from.result.now c.requires.boarded.count c.requires.worker c.index-from.ensures)
    c.read_of-to.ensures c.in-Ok.applied.items (c.in-Ok.ensures ∙ ap (λ (l : List ConfigRecord). map config_applied l) c.records_between.ensures)
    c.put.new.self c.in-Err.fault.given c.in-Err.ensures.partly.0 c.in-Err.ensures.partly.1
