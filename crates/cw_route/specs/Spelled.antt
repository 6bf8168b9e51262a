-- How a path is spelled, in plain words: the parts that stand in a pattern's place of a parameter are segments.
use Rattle.std.specs.Prelude.{◌≡◌, ℕ, ◌<◌, false, List, [], ◌∷◌, length}
use Rattle.matchit.specs.Seek.{has_slash}
use Rattle.cw_route.specs.declared.page.Page.{Page}
use Rattle.cw_route.specs.Table.{page_path}

-- bytes below 256
abbrev pub AreBytes : List ℕ → Type 0
AreBytes [] = Unit {0}
AreBytes (c ∷ cs) = (c < 256) × AreBytes cs

-- one byte or more, none of them a slash
pub record IsSegment (part : List ℕ) : Type 0 where
  pub some : 0 < length part
  pub whole : has_slash part ≡ false
  pub bytes : AreBytes part

-- a path is a page's, with a segment in place of each parameter that the page has
pub record IsAt (path : List ℕ) (page : Page) : Type 0 where
  pub name : List ℕ
  pub task : List ℕ
  pub name_part : IsSegment name
  pub task_part : IsSegment task
  pub text : path ≡ page_path page name task
