use Rattle.std.proofs.Common.{◌∙◌, ◌+◌, ◌==◌, Bool, cond, ap, refl}
use Rattle.cw_data.specs.declared.entry.DataEntry.TheVariants.{Batch as InBatch}
use Rattle.cw_data.specs.Unmarked.{stands_at}
use Rattle.cw_data.proofs.Waits.{keeps_batch, room_on, not_before}
use Rattle.cw_data.proofs.unmarked.Unmarked.add_batch.Goals as goal

pub returns-clause-kept : goal.returns-clause-kept
returns-clause-kept c marks entries is was =
    keeps_batch marks entries c.args.batch.now c.args.self.now (record { order = c.fill_row.new.order; places = c.push_if-begins.new.places; next = c.args.self.now.next + 1 }) was c.args.waits is refl c.push_if-begins.ensures.places
    (λ n. c.fill_row.ensures.rows n ∙ ap (λ (b : Bool). cond (c.args.self.now.next == n) b (stands_at c.args.self.now.order n)) c.push_if-begins.ensures.begins)

pub returns-clause-has : goal.returns-clause-has
returns-clause-has c front back was =
    room_on c.args.self.now (record { order = c.fill_row.new.order; places = c.push_if-begins.new.places; next = c.args.self.now.next + 1 }) (InBatch c.args.batch.now) refl
    (λ n later had. c.fill_row.ensures.kept n (not_before c.args.self.now.next n later) had) c.push_if-begins.ensures.room front back was
