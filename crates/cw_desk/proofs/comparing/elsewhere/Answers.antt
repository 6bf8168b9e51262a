use Rattle.std.proofs.Common.{rules, ◌<◌, subst, sym, List, ◌∷◌, ◌++◌, length}
use Rattle.std.specs.List.Sorted.{IsPermutation}
use Rattle.cw_world.specs.Receipts.{ReceiptState}
use Rattle.cw_desk.proofs.Witnesses.{taken}
use Rattle.cw_desk.proofs.comparing.elsewhere.Goals as goal

pub returns : goal.returns
returns c =
    let kept = c.swap_remove-kept.result in
    let rest = c.swap_remove-kept.new.self.items in
    let within : c.args.k < length c.args.receipts.items = search rules in
    record {
      at = search rules;
      found = search rules;
      rest = rest;
      among = subst (λ (l : List ReceiptState). IsPermutation c.args.receipts.items (kept ∷ l ++ rest)) (sym c.entry_at-found.ensures.none)
          (taken c.args.receipts.items rest c.args.k kept within c.swap_remove-kept.ensures.value c.swap_remove-kept.ensures.items);
    }
