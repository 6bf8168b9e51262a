use Rattle.std.proofs.Common.{◌∙◌, IsSome, refl, sym, subst}
use Rattle.cw_log.proofs.OneReading.{stands_for_one}
use Rattle.cw_open.specs.OpenedFrom.{TopicStays}
use Rattle.cw_open.proofs.Steps.{refuted}
use Rattle.cw_open.proofs.OpeningLemmas.{begins-empty}
use Rattle.cw_open.proofs.opening.open_topic.Goals as goal

pub returns-then-not-counts-clause-cause : goal.returns-then-not-counts-clause-cause
returns-then-not-counts-clause-cause g c = λ file told.
    let list = c.in-Ok.ensures.list file told in
    let found = c.in-Ok.ensures.seen (begins-empty g.A.LogFrame.at c.new-found.result c.new-found.ensures) list.0 list.1 in
    absurd (refuted c.counts.result c.counts.ensures c.if-not-counts.true
    (c.count.ensures.list list.0 list.1 ∙ sym found.count, c.length.ensures.list list.0 list.1 ∙ sym found.size))

pub returns-else-not-counts-clause-opened : goal.returns-else-not-counts-clause-opened
returns-else-not-counts-clause-opened g c =
    let seen = c.in-Ok.ensures.seen (begins-empty g.A.LogFrame.at c.new-found.result c.new-found.ensures) in
    let same = c.counts.ensures.0 c.if-not-counts.false in
    record {
      log = record {
        told = seen;
        size_is = sym c.count.ensures.count ∙ same.0;
        bytes_are = sym c.length.ensures.length ∙ same.1;
        limit_is = c.in-Ok.ensures.new.1;
        alive = c.in-Ok.ensures.new.2;
      };
      files = λ file told.
          let list = c.in-Ok.ensures.list file told in
          record { bodies = list.0; stands = list.2; «in» = seen list.0 list.1 };
      from = record {
        kind = c.in-Ok.ensures.new.0;
        tells = λ file told. let list = c.in-Ok.ensures.list file told in subst (λ o. IsSome o) (sym list.1) refl;
        bytes = c.in-Ok.ensures.bytes;
        stays = record { leaves = c.in-Ok.ensures.any_moment; later = c.in-Ok.ensures.later };
        rest = λ told is list since. stands_for_one c.in-Ok.log.kind list told since.image since.stands
            (c.rest.ensures.left c.in-Ok.ensures.new.2 told is since.image (g.met.D.Disk.only_now c.in-Ok.log.disk since.image since.left));
      };
    }

pub returns-then-not-counts-clause-stays : goal.returns-then-not-counts-clause-stays
returns-then-not-counts-clause-stays g c =
    subst (TopicStays g.D.Disk c.args.name c.args.disk) (sym c.give_back.ensures.disk) (record { leaves = c.in-Ok.ensures.any_moment; later = c.in-Ok.ensures.later })

pub returns-in-Err-clause-stays : goal.returns-in-Err-clause-stays
returns-in-Err-clause-stays g c = record { leaves = c.in-Err.ensures.any_moment; later = c.in-Err.ensures.later }
