use Rattle.std.proofs.Common.{◌≡◌, ◌+◌, ◌-◌, length, take, drop, ap, ◌∙◌, arith, rules, length-take, length-drop}
use Rattle.std.proofs.lemmas.Grind.{common_steps}
use Rattle.cw_http.proofs.Moves.{moved_none, piece_kept, front_kept}
use Rattle.cw_http.proofs.reading.read_piece.Goals as goal

pub returns-in-Ok-clause-moved : goal.returns-in-Ok-clause-moved
returns-in-Ok-clause-moved g c =
    let size : c.len-length.result ≡ length c.args.kept.now.items = search rules in
    let front = ap (take c.len-length.result) (c.deref_mut.ensures.value ∙ c.in_ok-resize.ensures.items)
    ∙ front_kept c.args.kept.now.items _ c.len-length.result (c.len-length.result + c.args.most) size (omega arith) in
    record {
      piece = take c.in-Ok.count c.read.new.into;
      behind = c.truncate-in-Ok.ensures.items
          ∙ piece_kept c.args.kept.now.items c.deref_mut.result.now c.read.new.into _ _ c.len-length.result c.in-Ok.count
          (c.len-length.result + c.in-Ok.count) c.resize.new.self.len front size (omega (arith, c.in-Ok.ensures.fits, c.read.auto.into)) (λ i. c.len-length.result + c.in-Ok.count)
          (omega (arith, c.in-Ok.ensures.fits, c.deref_mut.ensures.len, length-take (length c.deref_mut.result.now - c.len-length.result) (drop c.len-length.result c.deref_mut.result.now), length-drop c.len-length.result c.deref_mut.result.now));
      taken = c.in-Ok.ensures.taken;
    }

pub returns-in-Err-clause-moved : goal.returns-in-Err-clause-moved
returns-in-Err-clause-moved g c =
    let same : c.truncate-in-Err.new.self.items ≡ c.args.kept.now.items = grind (arith, common_steps) in
    moved_none c.args.kept.now.items c.truncate-in-Err.new.self.items (g.L.Link.left c.args.link.now) (g.L.Link.left c.read.new.self) same c.in-Err.ensures.kept
