use Rattle.std.proofs.Common.{◌≡◌, ◌∙◌, true, false, sym}
use Rattle.cw_txn.proofs.WalkLemmas.{stays_found, so_far, not_allowed_here, walked_on}
use Rattle.cw_txn.proofs.replay.Walk.take.Goals as goal

pub lengthen-requires-clause-found : goal.lengthen-requires-clause-found
lengthen-requires-clause-found c =
    let walk = c.args.self.now in
    stays_found walk.entries.items walk.gates.items c.args.entry.now c.args.gate c.requires.aligned walk.not_allowed walk.unchained walk.tables
    (sym c.is_some.ensures ∙ c.if-is_some.true) c.requires.found

pub lengthen-requires-then-not-branch-clause-found : goal.lengthen-requires-then-not-branch-clause-found
lengthen-requires-then-not-branch-clause-found c =
    let walk = c.args.self.now in
    let walked = so_far walk.not_allowed walk.unchained walk.tables walk.entries.items walk.gates.items (sym c.is_some.ensures ∙ c.if-is_some.false) c.requires.found in
    not_allowed_here walk.entries.items walk.gates.items c.args.entry.now c.args.gate c.requires.aligned walked.allowed
    (λ allowed. let clash : true ≡ false = sym ((c.in_ok-is_allowed.ensures walk.entries.items walked.kept (sym c.requires.counted)).1 allowed) ∙ c.if-not-branch.true in cc)

pub lengthen-requires-2-clause-found : goal.lengthen-requires-2-clause-found
lengthen-requires-2-clause-found c =
    let walk = c.args.self.now in
    let none : _ ≡ false = sym c.is_some.ensures ∙ c.if-is_some.false in
    let walked = so_far walk.not_allowed walk.unchained walk.tables walk.entries.items walk.gates.items none c.requires.found in
    walked_on walk.entries.items walk.gates.items c.args.entry.now c.args.gate c.requires.aligned walk.tables c.put.new.self walk.unchained c.first_unchained-self.result walk.not_allowed walked none
    ((c.in_ok-is_allowed.ensures walk.entries.items walked.kept (sym c.requires.counted)).0 c.if-not-branch.false)
    c.in_ok-chains.ensures.kept
    (c.first_unchained-self.ensures walk.entries.items walk.gates.items c.args.entry.now c.requires.aligned (c.in_ok-chains.ensures.chains walk.entries.items walked.kept))
