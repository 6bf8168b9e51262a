use Rattle.std.proofs.Common.{List, Option, ℕ, sym, ap, ◌∙◌}
use Rattle.std.specs.Prelude.{unwrap_or}
use Rattle.cw_group.specs.declared.member.Member.{Member}
use Rattle.cw_group.specs.Members.{member_of, lowest_in}
use Rattle.cw_group.specs.Group.{GroupState}
use Rattle.cw_group.proofs.RowLemmas.{store-allowed}
use Rattle.cw_group.proofs.group.Group.storing.Goals as goal

pub returns : goal.returns
returns c = rw (← c.self.view_is) (
  (c.in-Some.field-0.now, ap (λ (ms : List Member). member_of c.args.worker ms) (sym c.deref.ensures.value) ∙ sym c.in-Some.ensures),
  store-allowed c.args.worker c.args.round
      (record { round = c.self.inside.round; phase = c.self.inside.phase; made = c.self.inside.made; members = c.self.inside.members.items; planned = c.self.inside.planned.items })
      (sym c.is_closed.ensures ∙ c.if-not-is_closed.false) c.if-self-round.false
      (ap (λ (s : GroupState). unwrap_or (lowest_in s.members) c.args.worker) c.self.view_is
      ∙ sym (c.unwrap_or.ensures ∙ ap (λ (o : Option ℕ). unwrap_or o c.args.worker) c.lowest.ensures) ∙ c.if-unwrap_or-worker.false),
)
