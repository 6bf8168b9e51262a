use Rattle.std.proofs.Common.{ap}
use Rattle.cw_board.specs.declared.posted.Posted.{Posted}
use Rattle.cw_board.specs.declared.shelves.Post.{Post}
use Rattle.cw_board.specs.Books.{Begun}
use Rattle.cw_board.proofs.Written.{writes}
use Rattle.cw_board.proofs.writer.BoardWriter.post.Goals as goal

pub invariant_of-self-2 : goal.invariant_of-self-2
invariant_of-self-2 g c =
    let p : Posted = record { worker = c.args.worker; applied = c.in-Ok-copy.applied } in
    let with_front : Begun → Post = λ f. record { posted = p; front = f } in (
      c.self.invariant.0,
      writes _ _ _ c.self.inside.given p c.self.inside.press c.append_held.new.press c.append_or_hold.new.press c.self.inside.held c.append_held.new.held
          c.append_or_hold.new.held c.in-Some.given (with_front c.again.result) c.self.invariant.1 c.append_held.ensures.shown c.append_held.ensures.due
          c.in-Ok.ensures.none c.append_or_hold.ensures.shown c.append_or_hold.ensures.due (ap with_front c.again.ensures) c.in-Some.ensures.book c.in-Some.ensures.log,
    )
