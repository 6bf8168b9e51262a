-- What a task has in hand: its cut is that of its transaction's one batch.
use Rattle.std.proofs.Common.{◌≡◌, ℕ, ◌<◌, Option, List, length, unwrap_or, sym, ap, subst, ◌∙◌}
use Rattle.std.proofs.lemmas.Option.{slice_get_within, get_or_from_slice_get}
use Rattle.cw_types.specs.declared.ids.Tag.{Tag}
use Rattle.cw_types.specs.declared.ids.PartKey.{PartKey}
use Rattle.cw_types.specs.declared.ids.PartKey.TheVariants.{Raw}
use Rattle.cw_types.specs.declared.ids.Span.{Span}
use Rattle.cw_io.specs.Shelf.{Files}
use Rattle.cw_data.specs.declared.entry.Batch.{Batch}
use Rattle.cw_model.specs.declared.instance.Cut.{Cut}
use Rattle.cw_model.specs.declared.instance.Instance.{Instance}
use Rattle.cw_model.specs.Tasks.{parts_of, part_at, cut_of, span_of}
use Rattle.cw_model.specs.FactsProducers.{HasItsBatch}

abbrev spanned : PartKey → ℕ → ℕ → Span
spanned part from to = record { part = part; from = from; to = to }

module _ (feeds : Files) (batches : List Batch) (tag : Tag) (j : Instance) (its : HasItsBatch feeds batches tag j) where
  pub cut-is : cut_of j ≡ its.cut
  cut-is = ap (λ (o : Option Cut). unwrap_or o (record { turn = 0; from = 0; to = 0 })) its.is_cut

  pub part-is : part_at (cut_of j).turn j ≡ its.batch.part
  part-is = ap (λ (cut : Cut). part_at cut.turn j) cut-is ∙ get_or_from_slice_get (parts_of j) its.cut.turn its.batch.part (Raw 0) its.part

  from-is : (cut_of j).from ≡ its.batch.from
  from-is = ap (λ (cut : Cut). cut.from) cut-is ∙ its.cut_begins

  pub to-is : (cut_of j).to ≡ its.batch.to
  to-is = ap (λ (cut : Cut). cut.to) cut-is ∙ its.cut_ends

  -- its span is that of the batch
  pub span-is : span_of j ≡ record { part = its.batch.part; from = its.batch.from; to = its.batch.to }
  span-is =
      ap (λ (p : PartKey). spanned p (cut_of j).from (cut_of j).to) part-is
      ∙ ap (λ (n : ℕ). spanned its.batch.part n (cut_of j).to) from-is
      ∙ ap (λ (n : ℕ). spanned its.batch.part its.batch.from n) to-is

  pub turn-within : (cut_of j).turn < length (parts_of j)
  turn-within = subst (λ (cut : Cut). cut.turn < length (parts_of j)) (sym cut-is) (slice_get_within (parts_of j) its.cut.turn its.batch.part its.part)
