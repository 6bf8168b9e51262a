-- Bytes that are read from left to right: what isn't read yet, and its place in the whole.
use Rattle.std.specs.Prelude.{◌≡◌, ℕ, ◌+◌, ◌<◌, List, ◌++◌, length, drop, slice_index}

-- the unread bytes, and the place of the first of them
pub record Unread : Type 0 where
  pub place : ℕ
  pub rest : List ℕ

-- behind the next n bytes
abbrev pub past : ℕ → Unread → Unread
past n from = record { place = from.place + n; rest = drop n from.rest }

-- numbers that are bytes
abbrev pub AreBytes : List ℕ → Type 0
AreBytes bytes = (i : ℕ) → slice_index bytes i < 256

-- these bytes stand in front, and what is behind them is left
pub record Takes (field : List ℕ) (from next : Unread) : Type 0 where
  pub spelled : from.rest ≡ field ++ next.rest
  pub place : next.place ≡ from.place + length field
