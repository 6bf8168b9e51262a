use Rattle.cw_keys.proofs.PartKeys.{part_told}
use Rattle.cw_keys.proofs.part.write_part.Goals as goal

pub returns-clause-again : goal.returns-clause-again
returns-clause-again c =
    part_told c.args.part.now _ c.in_ok-part_bytes.ensures.part c.requires c.in_ok-part_bytes.ensures.text c.in_ok-part_bytes.ensures.again
