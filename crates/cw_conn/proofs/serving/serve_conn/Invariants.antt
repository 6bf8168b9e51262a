use Rattle.std.proofs.Common.{◌≡◌, ◌≤◌, List, length}
use Rattle.cw_io.specs.Told.{with_front}
use Rattle.cw_conn.specs.Exchanges.{Exchange}
use Rattle.cw_conn.specs.Talked.{moment}
use Rattle.cw_conn.specs.Steps.{Went}
use Rattle.cw_conn.proofs.serving.serve_conn.Given as goal

abbrev pub invariant-loop-number : goal.invariant-loop-number
invariant-loop-number g l = record {
  bounded : l.number ≤ 99;
  later : g.L.Link.faults l.fn.link ≤ g.L.Link.faults l.link;
  went : (exchanges : List Exchange) × (length exchanges ≡ l.number) ×
      Went exchanges (moment (g.L.Link.left l.fn.link) (g.L.Link.held l.fn.link) (g.K.Desk.entries l.fn.desk))
      (moment (with_front l.kept.items (g.L.Link.left l.link)) (g.L.Link.held l.link) (g.K.Desk.entries l.desk));
}
