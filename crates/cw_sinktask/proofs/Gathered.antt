-- A delivery, member by member.
use Rattle.std.proofs.Common.{◌≡◌, ℕ, List, take, ap, ◌∙◌}
use Rattle.cw_data.specs.declared.entry.DataEntry.{DataEntry}
use Rattle.cw_model.specs.declared.instance.Instance.{Instance}
use Rattle.cw_model.specs.EventsSinks.{topic_in}
use Rattle.cw_model.specs.Polls.{delivery_at, most_records, records_from}
use Rattle.cw_model.specs.Tasks.{part_at, position_at}
use Rattle.cw_edges.specs.Handing.{file_of}
use Rattle.cw_sinktask.specs.declared.delivery.Delivery.{Delivery}
use Rattle.cw_sinktask.specs.Gathered.{into_file, values_of, place_behind}

module _ (own : Instance) (log : List DataEntry) (turn : ℕ) where
  abbrev its_topic : List ℕ
  its_topic = topic_in (part_at turn own)

  abbrev its_place : ℕ
  its_place = position_at turn own

  abbrev taken : List ℕ → ℕ → List (ℕ × List ℕ)
  taken topic from = take most_records (records_from topic from log)

  abbrev delivery : (turn : ℕ) (topic file : List ℕ) (from to : ℕ) (lines : List (List ℕ)) → Delivery
  delivery turn topic file from to lines = record { turn = turn; topic = topic; file = file; from = from; to = to; lines = lines }

  pub same-delivery : (place : ℕ) (topic file : List ℕ) (from to : ℕ) (lines : List (List ℕ)) → place ≡ turn → topic ≡ its_topic → file ≡ file_of own →
      from ≡ its_place → to ≡ place_behind from (taken topic from) → lines ≡ values_of (taken topic from) →
      delivery place topic file from to lines ≡ into_file (file_of own) (delivery_at own log turn)
  same-delivery place topic file from to lines is_turn is_topic is_file is_from is_to are_lines =
      let ends : to ≡ place_behind its_place (taken its_topic its_place) =
      is_to ∙ ap (λ (t : List ℕ). place_behind from (taken t from)) is_topic ∙ ap (λ (n : ℕ). place_behind n (taken its_topic n)) is_from in
      let values : lines ≡ values_of (taken its_topic its_place) =
      are_lines ∙ ap (λ (t : List ℕ). values_of (taken t from)) is_topic ∙ ap (λ (n : ℕ). values_of (taken its_topic n)) is_from in
      ap (λ (n : ℕ). delivery n topic file from to lines) is_turn ∙
      ap (λ (t : List ℕ). delivery turn t file from to lines) is_topic ∙
      ap (λ (t : List ℕ). delivery turn its_topic t from to lines) is_file ∙
      ap (λ (n : ℕ). delivery turn its_topic (file_of own) n to lines) is_from ∙
      ap (λ (n : ℕ). delivery turn its_topic (file_of own) its_place n lines) ends ∙
      ap (delivery turn its_topic (file_of own) its_place (place_behind its_place (taken its_topic its_place))) values
