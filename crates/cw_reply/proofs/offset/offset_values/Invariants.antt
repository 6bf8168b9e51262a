use Rattle.std.proofs.Common.{◌≡◌, ◌++◌, map}
use Rattle.serde_json.specs.View.{view}
use Rattle.cw_rest.specs.Pages as page
use Rattle.cw_reply.specs.View.{seen_in}
use Rattle.cw_reply.proofs.offset.offset_values.Given as goal

abbrev pub invariant-loop-placed : goal.invariant-loop-placed
invariant-loop-placed l =
    map view l.values.items ++ map (λ placed. page.offset_info (seen_in l.seen) placed.part) l.placed-iterator
    ≡ map (λ placed. page.offset_info (seen_in l.seen) placed.part) l.parts.keys
