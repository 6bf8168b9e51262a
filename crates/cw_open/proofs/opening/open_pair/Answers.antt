use Rattle.std.proofs.Common.{◌∙◌, IsSome, refl, sym, subst}
use Rattle.cw_log.specs.Log.{kind_of}
use Rattle.cw_open.specs.OpenedFrom.{PairStays}
use Rattle.cw_open.proofs.Steps.{refuted}
use Rattle.cw_open.proofs.OpeningLemmas.{begins-empty, numbered-by}
use Rattle.cw_open.proofs.opening.open_pair.Goals as goal

pub returns-then-not-counts-clause-cause : goal.returns-then-not-counts-clause-cause
returns-then-not-counts-clause-cause g c = λ file_a told_a file_b told_b.
    let list = c.in-Ok.ensures.list file_a told_a file_b told_b in
    let found = c.in-Ok.ensures.seen (begins-empty g.A.LogFrame.at c.new-found.result c.new-found.ensures) list.0 list.1 in
    let sizes = c.rest.ensures.sizes list.0 list.1 in
    absurd (refuted c.counts.result c.counts.ensures c.if-not-counts.true
    (c.count.ensures ∙ sizes.0 ∙ sym found.count, c.length.ensures ∙ sizes.1 ∙ sym found.size))

pub returns-else-not-counts-clause-opened : goal.returns-else-not-counts-clause-opened
returns-else-not-counts-clause-opened g c =
    let seen = c.in-Ok.ensures.seen (begins-empty g.A.LogFrame.at c.new-found.result c.new-found.ensures) in
    let same = c.counts.ensures.0 c.if-not-counts.false in
    record {
      log = record {
        told = seen;
        size_is = sym c.count.ensures ∙ same.0;
        bytes_are = sym c.length.ensures ∙ same.1;
        limit_is = c.in-Ok.ensures.new.1;
        alive = c.in-Ok.ensures.new.2;
      };
      files = λ file_a file_b told_a told_b.
          let list = c.in-Ok.ensures.list file_a told_a file_b told_b in
          record {
            bodies = list.0;
            stands = list.2;
            on_b = c.in-Ok.log.on_b;
            numbered = numbered-by (kind_of c.args.name) c.in-Ok.log.on_b c.in-Ok.log.log.number file_a file_b (g.D.Disk.holds c.in-Ok.log.log.disk) (g.D.Disk.holds c.in-Ok.log.other)
                (c.in-Ok.ensures.side file_a told_a file_b told_b) (c.in-Ok.ensures.bytes file_a told_a file_b told_b);
            «in» = seen list.0 list.1;
          };
      side = λ file_a file_b told_a told_b. c.in-Ok.ensures.side file_a told_a file_b told_b;
      from = record {
        kind = c.in-Ok.ensures.new.0;
        tells = λ file_a file_b told_a told_b. let list = c.in-Ok.ensures.list file_a told_a file_b told_b in subst (λ o. IsSome o) (sym list.1) refl;
        side = λ file_a file_b told_a told_b. c.in-Ok.ensures.side file_a told_a file_b told_b;
        bytes = λ file_a file_b told_a told_b. c.in-Ok.ensures.bytes file_a told_a file_b told_b;
        stays = record {
          leaves = λ file_a file_b told_a told_b. c.in-Ok.ensures.any_moment file_a told_a file_b told_b;
          later_a = c.in-Ok.ensures.later 0;
          later_b = c.in-Ok.ensures.later 1;
        };
        rest = λ told is list since. c.rest.ensures.left c.in-Ok.ensures.new.2 told is list since;
      };
    }

pub returns-then-not-counts-clause-stays : goal.returns-then-not-counts-clause-stays
returns-then-not-counts-clause-stays g c = subst (PairStays g.D.Disk c.args.name c.args.a c.args.b) (sym c.give_back-a.ensures.disks) (record {
  leaves = λ file_a file_b told_a told_b. c.in-Ok.ensures.any_moment file_a told_a file_b told_b;
  later_a = c.in-Ok.ensures.later 0;
  later_b = c.in-Ok.ensures.later 1;
})

pub returns-in-Err-clause-stays : goal.returns-in-Err-clause-stays
returns-in-Err-clause-stays g c = record {
  leaves = λ file_a file_b told_a told_b. c.in-Err.ensures.any_moment file_a told_a file_b told_b;
  later_a = c.in-Err.ensures.later 0;
  later_b = c.in-Err.ensures.later 1;
}
