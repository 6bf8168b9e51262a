-- Where a member stands in the list. Internal: no public contract cites this.
use Rattle.std.specs.Prelude.{◌≡◌, ℕ, ◌<◌, List, length, slice_index_or, Some}
use Rattle.cw_group.specs.declared.member.Member.{Member}
use Rattle.cw_group.specs.Members.{member_of, AreRising, AreApart, HaveNoRepeat}

-- the place of the member with a number
pub record IsPlace (worker : ℕ) (members : List Member) (at : ℕ) : Type 0 where
  pub within : at < length members
  pub here : (d : Member) → (slice_index_or members at d).worker ≡ worker
  pub found : (d : Member) → member_of worker members ≡ Some (slice_index_or members at d)

-- what is true of every group: its members stand in order, their claims are apart, and none has an item twice
pub record IsGroup (members : List Member) : Type 0 where
  pub rising : AreRising members
  pub apart : AreApart members
  pub no_repeat : HaveNoRepeat members
