use Rattle.std.proofs.Common.{map, ap, ◌∙◌}
use Rattle.serde_json.specs.Data.{string}
use Rattle.serde_json.proofs.Views.{view-Array}
use Rattle.cw_rest.specs.Pages as page
use Rattle.cw_reply.specs.View.{seen_in}
use Rattle.cw_reply.proofs.Connectors.{are_listed}
use Rattle.cw_reply.proofs.page.names_value.Goals as goal

pub returns : goal.returns
returns c =
    view-Array c.in_ok-name_values.field-0 ∙ ap page.list_of (c.in_ok-name_values.ensures ∙ ap (map string) (c.deref.ensures.value ∙ are_listed (seen_in c.args.seen.now) c.in_ok-names.names.items c.in_ok-names.ensures))
