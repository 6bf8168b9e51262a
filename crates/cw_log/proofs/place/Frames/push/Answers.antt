use Rattle.std.proofs.Common.{◌∙◌, ◌+◌, ap, refl}
use Rattle.cw_log.specs.Log.{places_before}
use Rattle.cw_log.proofs.Starts.{places_before-push}
use Rattle.cw_log.proofs.place.Frames.push.Goals as goal

pub returns-clause-places : goal.returns-clause-places
returns-clause-places c =
    ap (places_before (c.args.self.now.gate + (c.args.length + 5))) c.and-self.ensures ∙ places_before-push c.args.self.now.gate c.args.length (c.args.self.now.gate + (c.args.length + 5)) c.args.self.now.starts.items refl
