-- What a part's yields are: two one behind the other are one, and between a place and itself there is none.
use Rattle.std.proofs.Common.{◌≡◌, ℕ, ◌-◌, List, [], ◌++◌, take, drop, map, sym, ap, ◌∙◌, arith}
use Rattle.std.specs.List.{range_with_len}
use Rattle.cw_types.specs.declared.ids.PartKey.{PartKey}
use Rattle.cw_types.specs.declared.ids.PartKey.TheVariants.{Raw, File, Seq, Sink}
use Rattle.cw_io.specs.Shelf.{Files}
use Rattle.cw_feed.specs.Feeds.{feed_of, IsOfSource}
use Rattle.cw_feed.specs.Yield.{Yield, records_between, record_text}
use Rattle.cw_feed.proofs.YieldLaws.{EndsLine-joined, lines-joined, records-joined}
use Rattle.cw_feed.proofs.Joined.{no_lines}

pub yields-joined : (feeds : Files) (part : PartKey) (from middle to : ℕ) (records more : List (List ℕ)) → Yield feeds part from middle records → Yield feeds part middle to more →
    Yield feeds part from to (records ++ more)
yields-joined feeds (File connector feed) from middle to records more first second =
    (EndsLine-joined (feed_of feed feeds) from middle to first.0 second.0, lines-joined (feed_of feed feeds) from middle to records more first.0 second.0 first.1 second.1)
yields-joined feeds (Seq connector index) from middle to records more first second = (
  omega (arith, first.0, second.0),
  ap (λ xs. xs ++ more) first.1 ∙ ap (λ xs. records_between index from middle ++ xs) second.1 ∙ records-joined index from middle to first.0 second.0,
)
yields-joined feeds (Raw n) from middle to records more first second = absurd first
yields-joined feeds (Sink connector topic) from middle to records more first second = absurd first

pub yields-none : (feeds : Files) (part : PartKey) (at : ℕ) → IsOfSource part → Yield feeds part at at []
yields-none feeds (File connector feed) at source =
    let none : at - at ≡ 0 = omega arith in
    (record { ordered = omega arith; within = λ further. absurd (omega arith); ended = λ further. absurd (omega arith) }, no_lines (take (at - at) (drop at (feed_of feed feeds))) (ap (λ n. take n (drop at (feed_of feed feeds))) none))
yields-none feeds (Seq connector index) at source =
    let none : at - at ≡ 0 = omega arith in
    (omega arith, sym (ap (λ n. map (record_text index) (range_with_len at n)) none))
yields-none feeds (Raw n) at source = absurd source
yields-none feeds (Sink connector topic) at source = absurd source

-- the same yield, told by equal places and records
pub yields-same : (feeds : Files) (part : PartKey) (from begin to end : ℕ) (records values : List (List ℕ)) → begin ≡ from → end ≡ to → values ≡ records →
    Yield feeds part from to records → Yield feeds part begin end values
yields-same feeds part from begin to end records values a b c yields = rw (a, b, c) yields
