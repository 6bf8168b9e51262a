-- What a task writes to the offset log, and its markers (KIP-618, KIP-98).
use Rattle.std.specs.Prelude.{◌≡◌, ℕ, true, [], ◌∷◌, Some, None}
use Rattle.std.specs.List.{list_all}
use Rattle.cw_bytes.specs.declared.applied.Applied.{Applied}
use Rattle.cw_offset.specs.declared.body.OffsetEntry.{OffsetEntry}
use Rattle.cw_offset.specs.declared.body.OffsetEntry.TheVariants.{Records, Mark}
use Rattle.cw_offset.specs.Log.{offset_records}
use Rattle.cw_types.specs.declared.ids.Span.{Span}
use Rattle.cw_types.specs.declared.logs.LogName.TheVariants.{Offsets}
use Rattle.cw_keys.specs.Parts.{part_text}
use Rattle.cw_keys.specs.Offsets.{offset_text}
use Rattle.cw_model.specs.State.{Cluster}
use Rattle.cw_model.specs.Answers.{Answer}
use Rattle.cw_model.specs.Lookups.{instance_of}
use Rattle.cw_model.specs.Tasks.{tag_of, span_of}
use Rattle.cw_model.specs.EventsSources.{offset_record}
use Rattle.cw_model.specs.Updates.{appends_offset, is_offset}
use Rattle.cw_rows.specs.Marking.{marked_tag, marked_so}

-- the record of an offset of this number
abbrev pub record_at : (offset stamp : ℕ) → Span → Applied
record_at offset stamp span = record {
  offset = offset;
  stamp = stamp;
  key = part_text span.part;
  value = Some (offset_text span.part span.to);
}

-- the entry by which a task writes the offset behind what it took last
abbrev pub offered : ℕ → Cluster → OffsetEntry
offered i s = Records (tag_of (instance_of i s)) (offset_record (span_of (instance_of i s)) s ∷ [])

-- the next marker of the offset log
abbrev pub offset_marker : Cluster → OffsetEntry
offset_marker s = Mark (record { tag = marked_tag Offsets s; committed = marked_so Offsets s })

-- an event comes to one entry more in the offset log, whose records have offsets, and a change behind it
pub record AddsOffset {A : Type 0} (event : Cluster → Answer A) (entry : OffsetEntry) (change : Cluster → Cluster)
    (answer : A) (s : Cluster) : Type 0 where
  pub alive : s.closed ≡ None
  pub fits : list_all (λ r. is_offset r.offset) (offset_records entry) ≡ true
  pub comes : event s ≡ appends_offset entry change answer s
