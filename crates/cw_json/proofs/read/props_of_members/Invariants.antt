use Rattle.std.proofs.Common.{◌≡◌}
use Rattle.serde_json.specs.View.{members_view}
use Rattle.cw_json.specs.Props.{member_props, with_front}
use Rattle.cw_json.proofs.read.props_of_members.Given as goal

-- the pairs so far, and those of the members that are left, are those of all
abbrev pub invariant-loop-key : goal.invariant-loop-key
invariant-loop-key l = with_front l.pairs.items (member_props (members_view l.key-iterator)) ≡ member_props (members_view l.members.entries)
