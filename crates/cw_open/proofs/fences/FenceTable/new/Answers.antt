use Rattle.std.proofs.Common.{ap}
use Rattle.std.specs.Map.{lookup}
use Rattle.std.specs.BTreeMap.{is_at}
use Rattle.cw_types.specs.Order.{name_cmp}
use Rattle.cw_open.proofs.FenceLemmas.{table_begins}
use Rattle.cw_open.proofs.fences.FenceTable.new.Goals as goal

pub returns : goal.returns
returns c = table_begins _
    (λ q. ap (λ es. lookup (is_at (name_cmp q)) es) c.new.ensures.empty)
    (λ q. ap (λ es. lookup (is_at (name_cmp q)) es) c.new-2.ensures.empty)
