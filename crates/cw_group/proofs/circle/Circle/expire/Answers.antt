use Rattle.std.proofs.Common.{refl}
use Rattle.std.specs.List.{flat_map}
use Rattle.cw_group.proofs.CircleLemmas.{departed}
use Rattle.cw_group.proofs.circle.Circle.expire.Goals as goal

pub returns-in-Ok : goal.returns-in-Ok
returns-in-Ok c = rw (← c.self.view_is)
    (departed c.args.scheduled c.args.w
    (record { group = c.self.inside.group; lost = flat_map (λ items. items) c.self.inside.lost.items; delay = c.self.inside.delay; moment = c.self.inside.moment })
    c.expire.new.self c.self.inside.lost.items c.put_made.new.lost.items c.in-Ok.claim.items c.new.result c.as_slice.result.now c.delay_behind-self-inside.result
    c.in-Ok.ensures.row refl c.put_made.ensures.items c.new.ensures c.delay_behind-self-inside.ensures c.as_slice.ensures.value)
