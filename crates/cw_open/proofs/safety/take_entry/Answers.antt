use Rattle.std.proofs.Common.{◌↔◌, ℕ, true, false, IsTrue, subst}
use Rattle.cw_model.specs.StandsFor.{IsSafeEntry}
use Rattle.cw_open.specs.SafeEntries.{StandsBehind}
use Rattle.cw_open.proofs.SafeLemmas.{safe_entry, unchained, stays}
use Rattle.cw_open.proofs.safety.take_entry.Goals as goal

pub returns-then-not-chains : goal.returns-then-not-chains
returns-then-not-chains c = record {
  taken = λ e. cc;
  fits = λ records log known. unchained records log c.args.passed.now.entries c.args.entry.now c.chains.result c.chains.ensures c.if-not-chains.true;
}

pub returns-then-not-branch : goal.returns-then-not-branch
returns-then-not-branch c = record {
  taken = λ e. cc;
  fits = λ records log known.
      stays (IsSafeEntry records log c.args.passed.now.entries c.args.entry.now) c.in_ok-stands.field-0 false
      (safe_entry records log c.args.passed.now.entries c.args.entry.now c.chains.result c.in_ok-stands.field-0 c.chains.ensures c.if-not-chains.false
      (subst (λ (n : ℕ). IsTrue c.in_ok-stands.field-0 ↔ StandsBehind records log n c.args.entry.now) c.length.ensures (c.in_ok-stands.ensures records log known)))
      c.if-not-branch.true;
}

pub returns : goal.returns
returns c = record {
  taken = λ e. c.in_ok-put.ensures;
  fits = λ records log known.
      stays (IsSafeEntry records log c.args.passed.now.entries c.args.entry.now) c.in_ok-stands.field-0 true
      (safe_entry records log c.args.passed.now.entries c.args.entry.now c.chains.result c.in_ok-stands.field-0 c.chains.ensures c.if-not-chains.false
      (subst (λ (n : ℕ). IsTrue c.in_ok-stands.field-0 ↔ StandsBehind records log n c.args.entry.now) c.length.ensures (c.in_ok-stands.ensures records log known)))
      c.if-not-branch.false;
}

pub put-requires : goal.put-requires
put-requires c = record { allowed = c.requires; chains = c.chains.ensures.0 c.if-not-chains.false }
