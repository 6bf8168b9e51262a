use Rattle.std.proofs.Common.{rules, ◌≡◌, ◌<◌, length, vec_len}
use Rattle.cw_desk.proofs.Witnesses.{both_among, same_number}
use Rattle.cw_desk.proofs.comparing.twice.Goals as goal

pub returns : goal.returns
returns c =
    let rs = c.args.receipts.items in
    let left = c.swap_remove-kept.new.self.items in
    let rest = c.swap_remove-other.new.self.items in
    let kept = c.swap_remove-kept.ensures in
    let other = c.swap_remove-other.ensures in
    let within : c.args.k < length rs = search rules in
    let whole : vec_len c.args.receipts ≡ length rs = search rules in
    let less : vec_len c.swap_remove-kept.new.self ≡ length left = search rules in
    record {
      at = search rules;
      found = same_number rs left rest c.args.k c.swap_remove-kept.result c.swap_remove-other.result c.requires.place.0 within
          c.requires.twice kept.value kept.items (vec_len c.swap_remove-kept.new.self) (vec_len c.args.receipts) whole less kept.len
          other.value other.items kept.by_index.1;
      rest = rest;
      among = both_among rs left rest c.args.k c.swap_remove-kept.result c.swap_remove-other.result c.requires.place.0 within
          c.requires.twice kept.value kept.items (vec_len c.swap_remove-kept.new.self) (vec_len c.args.receipts) whole less kept.len
          other.value other.items kept.by_index.1;
    }
