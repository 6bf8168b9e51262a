use Rattle.std.proofs.Common.{sym, ◌∙◌, ap}
use Rattle.cw_board.specs.Books.{Begun}
use Rattle.cw_board.proofs.Adding.{adds_moves}
use Rattle.cw_board.proofs.history.Front.with.Goals as goal

pub compare_exchange-found-requires : goal.compare_exchange-found-requires
compare_exchange-found-requires c =
    let h = c.requires in
    let offer = c.plain-offer.ensures in
    let pen = c.no_pen-pen.ensures in
    let seen = c.again-seen.ensures in
    let book = ap (λ (b : Begun). b.book) c.self.view_is ∙ sym (ap (λ w. w.book) h) in (
      ap (λ w. w.tracked) h,
      ap (λ s. s.book) seen ∙ book,
      pen.0 ∙ book,
      offer.0 ∙ sym (ap (λ s. s.names) seen),
      rw (ap (λ w. w.key) h, pen.1, offer.1, offer.3, ap (λ s. s.log) seen) (adds_moves c.self.inside.seen.log c.args.posted.now c.self.inside.count (sym c.self.invariant)),
    )
