use Rattle.std.proofs.Common.{◌∷◌, decimal, append_assoc, refl}
use Rattle.std.specs.List.{flat_map}
use Rattle.cw_script.specs.Spelling.{pair_text}
use Rattle.cw_script.proofs.Again.{joined-pairs}
use Rattle.cw_script.proofs.spell.commit_line.Goals as goal

pub returns : goal.returns
returns c =
    rw (
      joined-pairs (decimal c.args.epoch) c.args.pairs.now,
      c.in_ok-add_pairs.ensures,
      c.in_ok-add_number.ensures,
      c.in_ok-line.ensures,
      c.from.ensures,
      append_assoc (decimal c.args.id) (32 ∷ decimal c.args.epoch) (flat_map pair_text c.args.pairs.now),
    )
    refl
