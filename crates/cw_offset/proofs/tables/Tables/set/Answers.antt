use Rattle.std.proofs.Common.{rules, refl}
use Rattle.cw_offset.specs.declared.call.OffsetCall.TheVariants.{Set}
use Rattle.cw_offset.proofs.Done.{set_keeps}
use Rattle.cw_offset.proofs.Rooms.{one_there}
use Rattle.cw_offset.proofs.tables.Tables.set.Goals as goal

pub set_row-requires : goal.set_row-requires
set_row-requires c = c.requires.rows (Set c.args.part.now c.args.to) (one_there (Set c.args.part.now c.args.to))

pub returns-clause-kept : goal.returns-clause-kept
returns-clause-kept c calls kept = set_keeps c.args.self.now _ calls kept c.args.part.now c.args.to refl refl c.empty_place.ensures.rows c.set_row.ensures (λ q has. search (rules, has))
