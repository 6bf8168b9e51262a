use Rattle.std.proofs.Common.{◌≡◌}
use Rattle.serde_json.specs.View.{members_view}
use Rattle.cw_keys.specs.Properties.{member_texts}
use Rattle.cw_keys.proofs.Texts.{texts_before}
use Rattle.cw_keys.proofs.members.member_texts.Given as goal

-- the pairs so far, and those of the members that are left, are those of all
abbrev pub invariant-loop-key : goal.invariant-loop-key
invariant-loop-key l = texts_before l.pairs.items (member_texts (members_view l.key-iterator)) ≡ member_texts (members_view l.members.entries)
