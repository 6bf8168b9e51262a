-- What is committed of a part: where its offsets begin (base) and where its last commit ended (end).
-- The transaction list is walked from its first entry on, as a consumer of Kafka's transaction topic would (KIP-618).
-- The two numbers are this project's own.
use Rattle.std.specs.Prelude.{◌≡◌, ℕ, ◌<◌, true, List, [], ◌∷◌, Option, Some, None, unwrap_or, if◌then◌else◌}
use Rattle.std.specs.Bool.{⊤}
use Rattle.std.specs.List.{fold}
use Rattle.cw_types.specs.declared.ids.PartKey.{PartKey}
use Rattle.cw_types.specs.declared.ids.Span.{Span}
use Rattle.cw_txn.specs.declared.entry.Entry.{Entry}
use Rattle.cw_txn.specs.declared.entry.Entry.TheVariants.{Bump, Commit, Set}
use Rattle.cw_txn.specs.declared.entry.SetOffset.{SetOffset}
use Rattle.cw_txn.specs.declared.history.History.{History}
use Rattle.cw_types.specs.Same.{same_part}

-- before anything was committed or set
abbrev pub unset : History
unset = record { base = 0; end = None }

-- a committed span moves the end of its part to its own
abbrev pub after_span : PartKey → History → Span → History
after_span part h span = if same_part part span.part then record { base = h.base; end = Some span.to } else h

-- a set offset is base and end of its part; none is base 0 and no end
abbrev pub after_offset : PartKey → History → SetOffset → History
after_offset part h set = if same_part part set.part then record { base = unwrap_or set.to 0; end = set.to } else h

-- what an entry does to a part
abbrev pub after_entry : PartKey → History → Entry → History
after_entry part h (Bump tid) = h
after_entry part h (Commit tag generation spans) = fold (after_span part) h spans
after_entry part h (Set tid epoch list) = fold (after_offset part) h list

-- the history of a part
abbrev pub history : PartKey → List Entry → History
history part entries = fold (after_entry part) unset entries

-- where its offsets begin
abbrev pub base_of : PartKey → List Entry → ℕ
base_of part entries = (history part entries).base

-- where its last commit, or a set offset behind that, ended
abbrev pub end_of : PartKey → List Entry → Option ℕ
end_of part entries = (history part entries).end

-- a span begins where its part ended, at 0 where that has no end, and isn't empty
abbrev pub GoesOn : History → Span → Type 0
GoesOn h span = (span.from ≡ unwrap_or h.end 0) × (span.from < span.to)

-- each of these spans of the part goes on from those before it
abbrev pub SpansChain : PartKey → History → List Span → Type 0
SpansChain part h [] = ⊤
SpansChain part h (span ∷ spans) =
    (same_part part span.part ≡ true → GoesOn h span) × SpansChain part (after_span part h span) spans
