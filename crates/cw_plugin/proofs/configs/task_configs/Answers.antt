use Rattle.std.proofs.Common.{◌≡◌, [], ap, ◌∙◌}
use Rattle.std.specs.Option.{option_map_or}
use Rattle.cw_plugin.specs.Classes.{row_of}
use Rattle.cw_plugin.specs.Tasks.{AreTaskConfigs, AreApart, HaveAllParts, configs_of_class}
use Rattle.cw_plugin.proofs.LawLemmas.{each_is_task, no_part_twice, nothing_left_out, if_ok}
use Rattle.cw_plugin.proofs.configs.task_configs.Goals as goal

pub returns-in-Some-clause-tasks : goal.returns-in-Some-clause-tasks
returns-in-Some-clause-tasks c =
    if_ok c.configs_of_class.result (λ configs. configs.items ≡ configs_of_class c.args.props.now (row_of c.in-Some.class)) (λ configs. AreTaskConfigs configs.items)
    (λ configs are connector. each_is_task connector c.args.props.now configs.items c.requires (are ∙ ap (λ o. option_map_or (λ class. configs_of_class c.args.props.now (row_of class)) o []) c.in-Some.ensures))
    c.configs_of_class.ensures

pub returns-in-Some-clause-apart : goal.returns-in-Some-clause-apart
returns-in-Some-clause-apart c =
    if_ok c.configs_of_class.result (λ configs. configs.items ≡ configs_of_class c.args.props.now (row_of c.in-Some.class)) (λ configs. AreApart configs.items)
    (λ configs are connector. no_part_twice connector c.args.props.now configs.items c.requires (are ∙ ap (λ o. option_map_or (λ class. configs_of_class c.args.props.now (row_of class)) o []) c.in-Some.ensures))
    c.configs_of_class.ensures

pub returns-in-Some-clause-whole : goal.returns-in-Some-clause-whole
returns-in-Some-clause-whole c =
    if_ok c.configs_of_class.result (λ configs. configs.items ≡ configs_of_class c.args.props.now (row_of c.in-Some.class)) (λ configs. HaveAllParts c.args.props.now configs.items)
    (λ configs are connector. nothing_left_out connector c.args.props.now configs.items c.requires (are ∙ ap (λ o. option_map_or (λ class. configs_of_class c.args.props.now (row_of class)) o []) c.in-Some.ensures))
    c.configs_of_class.ensures
