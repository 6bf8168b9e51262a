-- What the tables of a walk keep of what it has passed, so that no step walks it again. Internal.
use Rattle.std.specs.Prelude.{◌≡◌, Bool, List, [], is_some}
use Rattle.std.specs.List.{list_any}
use Rattle.std.specs.BTreeMap.{BTreeMap, get}
use Rattle.cw_types.specs.declared.ids.Tag.{Tag}
use Rattle.cw_types.specs.Same.{same_tag, tag_order}

-- a transaction has a row just where it is one of these
abbrev pub HasTags : BTreeMap Tag Bool → List Tag → Type 0
HasTags rows tags = (tag : Tag) → is_some (get tag_order rows tag) ≡ list_any (same_tag tag) tags
