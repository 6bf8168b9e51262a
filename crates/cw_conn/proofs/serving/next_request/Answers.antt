use Rattle.std.proofs.Common.{◌≡◌, ℕ, List, Option, Err, refl, sym, ap, subst, ◌∙◌}
use Rattle.cw_io.specs.Told.{with_front}
use Rattle.cw_http.specs.Reading.{unfinished, refused}
use Rattle.cw_http.specs.Kept.{IsTold}
use Rattle.cw_http.proofs.Moves.{moved_whole}
use Rattle.cw_conn.specs.Refusals.{EndsUnread}
use Rattle.cw_conn.proofs.Lasts.{unread}
use Rattle.cw_conn.proofs.serving.next_request.Goals as goal

pub returns-in-Err-clause-off : goal.returns-in-Err-clause-off
returns-in-Err-clause-off g c number entries low =
    let before : Option (List ℕ) = with_front c.args.kept.now.items (g.L.Link.left c.args.link.now) in
    let behind : Option (List ℕ) = with_front c.read_request.new.kept.items (g.L.Link.left c.end_unread.new.link) in
    let same : behind ≡ before =
    ap (with_front c.read_request.new.kept.items) c.end_unread.ensures.apart
    ∙ sym (moved_whole c.args.kept.now.items c.read_request.new.kept.items (g.L.Link.left c.args.link.now) (g.L.Link.left c.read_request.new.link) c.in-Err.ensures.kept) in
    unread number low before behind (g.L.Link.held c.args.link.now) (g.L.Link.held c.end_unread.new.link) entries entries refl
    c.in-Err.fault c.end_unread.result same
    (λ is. subst (λ (o : Option (List ℕ)). IsTold unfinished o) (sym same) (c.in-Err.ensures.ended (λ i. Err (is i))))
    (λ code is. subst (λ (o : Option (List ℕ)). IsTold (refused code) o) (sym same) (c.in-Err.ensures.bad code (λ i. Err (is i))))
    (subst (λ (h : Option (List ℕ)). EndsUnread c.in-Err.fault h (g.L.Link.held c.end_unread.new.link) c.end_unread.result) c.read_request.ensures.apart c.end_unread.ensures.end)
