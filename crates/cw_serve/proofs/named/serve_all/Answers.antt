use Rattle.std.proofs.Common.{◌≡◌, ◌+◌, ◌≤◌, ◌⊎◌, ⊎_elim, inl, inr, length, true, arith, ap, sym, subst, ◌∙◌}
use Rattle.std.proofs.lemmas.List.{length-append}
use Rattle.cw_types.specs.Faults.{Rose}
use Rattle.cw_serve.proofs.Talking.{have_talked}
use Rattle.cw_serve.proofs.named.serve_all.Goals as goal

pub returns-clause-served : goal.returns-clause-served
returns-clause-served g c = λ began faults.
    let L = g.N.Listener in
    let net = c.args.net in
    let conns = c.args.conns in
    let a = c.accept_beside-accepted in
    let end = c.finish.ensures in
    let left = sym end.net in
    let grew : length (L.given a.new.net) ≡ length (L.given net) + a.result.pushed =
    ap length a.ensures.given ∙ length-append (L.given net) a.new.acceptor.pushed ∙ ap (λ count. length (L.given net) + count) a.ensures.count in
    record {
      ledger = end.ledger;
      differs = end.differs;
      alive = λ is. (end.done is).0;
      done = λ is. subst (λ n. (length (L.given n) ≡ length (L.given net) + conns) ⊎ (L.ended n ≡ true)) left
          (⊎_elim (λ full. inl (omega (arith, grew, full))) (λ over. inr over) (a.ensures.done (end.done is).1));
      given = subst (λ n. length (L.given net) ≤ length (L.given n)) left (omega (arith, grew));
      most = subst (λ n. length (L.given n) ≤ length (L.given net) + conns) left (omega (arith, grew, a.ensures.most));
      store = end.store;
      closed = end.closed;
      outlet_fault = λ is. subst (λ count. Rose count (g.U.Outlet.faults c.finish.result.outlet)) faults (end.outlet_fault is);
      net_fault = λ is. subst (λ n. Rose (L.faults net) (L.faults n)) left (a.ensures.failed (end.net_fault is));
      later_outlet = subst (λ count. count ≤ g.U.Outlet.faults c.finish.result.outlet) faults end.later;
      later_net = subst (λ n. L.faults net ≤ L.faults n) left a.ensures.later;
    }

pub returns-clause-talked : goal.returns-clause-talked
returns-clause-talked g c =
    let a = c.accept_beside-accepted in
    let line = c.end_line-books.ensures in
    have_talked g.N.Listener g.N.Link.Link _ c.args.net a.new.net _ a.new.acceptor.pushed _ _ c.finish.result.receipts.items
    a.ensures.given c.finish.ensures.net line.each_once line.talks c.finish.ensures.same
