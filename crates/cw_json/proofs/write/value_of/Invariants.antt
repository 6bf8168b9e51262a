use Rattle.std.proofs.Common.{◌≡◌, drop}
use Rattle.serde_json.specs.Data.{no_members}
use Rattle.serde_json.specs.View.{members_view}
use Rattle.cw_json.proofs.Pairs.{puts}
use Rattle.cw_json.proofs.write.value_of.Given as goal

-- the members so far, with the properties that are left, are those of all
abbrev pub invariant-loop-key : goal.invariant-loop-key
invariant-loop-key l = puts (drop l.key-index l.props) (members_view l.members.entries) ≡ puts l.props no_members
