use Rattle.cw_open.proofs.AgreeLemmas.{not-as-many}
use Rattle.cw_open.proofs.agreeing.has_as_many.Goals as goal

pub returns-in-Seq : goal.returns-in-Seq
returns-in-Seq c feeds fails yields =
    not-as-many feeds c.args.batch.now.part c.in-Seq.connector c.in-Seq.index c.args.batch.now.from c.args.batch.now.to c.args.batch.now.values c.in-Seq.is c.counts.result c.counts.ensures fails yields
