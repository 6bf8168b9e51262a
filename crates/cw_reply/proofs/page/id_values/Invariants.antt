use Rattle.std.proofs.Common.{◌≡◌, map, take}
use Rattle.serde_json.specs.View.{view}
use Rattle.cw_rest.specs.Pages as page
use Rattle.cw_reply.proofs.page.id_values.Given as goal

abbrev pub invariant-loop-id : goal.invariant-loop-id
invariant-loop-id l = map view l.values.items ≡ map page.id_data (take l.id-index l.tasks)
