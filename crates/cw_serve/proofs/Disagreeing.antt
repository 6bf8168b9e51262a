-- What shows that receipts of one world aren't its journal.
use Rattle.std.proofs.Common.{◌≡◌, List, [], ◌∷◌, ◌++◌, Option, Some, None}
use Rattle.std.specs.Prelude.{All}
use Rattle.std.proofs.lemmas.List.Elements.{All-nil, All-cons, All-head, All-tail}
use Rattle.std.proofs.lemmas.List.Sorted.{All-permutation}
use Rattle.cw_desk.specs.declared.comparing.Disagree.{Disagree}
use Rattle.cw_desk.specs.declared.comparing.Member.{Member}
use Rattle.cw_desk.specs.declared.comparing.Member.TheVariants as member
use Rattle.cw_desk.specs.Comparing.{Disagrees, receipts_in}
use Rattle.cw_world.specs.Receipts.{ReceiptState}
use Rattle.cw_world.specs.World.{WorldState}
use Rattle.cw_serve.specs.Serving.{Differs}

-- what is so of all is so of the one that was found
found_one : (P : ReceiptState → Type 0) (found : Option Member) (rest : List ReceiptState) → All P (receipts_in found ++ rest) → All P (receipts_in found)
found_one P (Some (member.Receipt other)) rest all = All-cons P other [] (All-head P other rest all) (All-nil P)
found_one P (Some member.Entry) rest all = All-nil P
found_one P None rest all = All-nil P

pub differs : {D : Type 0} (world : WorldState D) (receipts : List ReceiptState) (d : Disagree) → All (λ r. r.name ≡ world.name) receipts
    → Disagrees world.state.journal receipts d → Differs world d
differs world receipts d named dis =
    let P : ReceiptState → Type 0 = λ r. r.name ≡ world.name in
    let all = All-permutation P receipts (d.kept ∷ receipts_in d.found ++ dis.rest) dis.among named in
    record {
      at = dis.at;
      found = dis.found;
      name = All-head P d.kept (receipts_in d.found ++ dis.rest) all;
      other = found_one P d.found dis.rest (All-tail P d.kept (receipts_in d.found ++ dis.rest) all);
    }
