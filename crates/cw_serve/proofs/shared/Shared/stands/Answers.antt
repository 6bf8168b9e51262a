use Rattle.std.proofs.Common.{◌≡◌, ◌<◌, Some, length, subst, arith}
use Rattle.std.proofs.lemmas.List.{get_or_read}
use Rattle.cw_serve.specs.Boarding.{IsStanding, known_of}
use Rattle.cw_serve.specs.Sharing.{SharedState}
use Rattle.cw_serve.proofs.Standing.{stands-told, passed}
use Rattle.cw_serve.proofs.shared.Shared.stands.Goals as goal

pub returns-then-is_some : goal.returns-then-is_some
returns-then-is_some g c = λ test.
    let was = c.self.invariant.2 in
    let is : c.args.reader.now ≡ Some c.in-Some.board = cc in
    let low : c.args.w < length c.self.inside.given.items = let count = was.count in let below = c.requires.worker in omega (arith, count, below) in
    subst (λ (s : SharedState g.row.D.Denot). IsStanding (known_of c.args.w c.args.reader.now) c.args.w s.world.state) c.self.view_is
    (stands-told was c.args.w c.requires.worker c.if-self.false c.args.reader.now c.in-Some.board c.look_again-board.result.0 c.note.result is
    c.look_again-board.ensures.kept c.note.ensures c.look_again-board.ensures.told c.args.prefix c.index.result.now c.requires.prefix
    (get_or_read c.self.inside.given.items c.args.w c.index.result.now low c.index.ensures 0) (passed c.args.prefix c.index.result.now test))
