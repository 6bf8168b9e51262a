use Rattle.std.proofs.Common.{◌≡◌, ◌++◌, ℕ, List, codes, decimal, append_assoc}
use Rattle.cw_gen.proofs.directives.add_config.Goals as goal

in-one : (old a b n z : List ℕ) → (((old ++ a) ++ b) ++ n) ++ z ≡ old ++ (((a ++ b) ++ n) ++ z)
in-one old a b n z = simp append_assoc

pub returns : goal.returns
returns c =
    rw (
      c.in_ok-extend_from_slice-4.ensures.items,
      c.in_ok-extend_from_slice-3.ensures.items,
      c.as_bytes.ensures.value,
      c.in_ok-to_string.ensures.ok,
      c.in_ok-extend_from_slice-2.ensures.items,
      c.in_ok-extend_from_slice.ensures.items,
    )
    (in-one c.args.text.now.items (codes "{\"connector.class\":\"SequenceSource\",\"partitions\":8,")
    (codes "\"count\":1000,\"tasks.max\":4,\"batch.size\":") (decimal c.args.batch) (codes ",\"topic\":\"t\"}"))
