use Rattle.std.proofs.Common.{◌≡◌, ◌∙◌, ℕ, ◌+◌, ◌==◌, false, cond, slice_get, Option, ap, refl, subst, arith}
use Rattle.std.specs.BTreeMap.{get}
use Rattle.cw_types.specs.Same.{tag_order}
use Rattle.cw_data.specs.declared.entry.DataEntry.TheVariants.{Mark}
use Rattle.cw_data.specs.Unmarked.{stands_at, is_place, places_at, HasRoomFor}
use Rattle.cw_data.proofs.Waits.{keeps_mark, room_on, not_before, first_passed}
use Rattle.cw_data.proofs.unmarked.Unmarked.add_mark.Goals as goal

pub returns-clause-kept : goal.returns-clause-kept
returns-clause-kept c marks now entries committed set was =
    keeps_mark marks now entries c.args.tag.now committed c.args.self.now (record { order = c.empty_row-2.new.order; places = c.clear_places-first.new.places; next = c.args.self.now.next + 1 }) was set refl c.clear_places-first.ensures.places
    (λ n. c.empty_row-2.ensures.rows n ∙ ap (cond (c.args.self.now.next == n) false) (c.empty_row.ensures.rows n ∙ ap (λ (o : Option ℕ). cond (is_place o n) false (stands_at c.args.self.now.order n)) c.clear_places-first.ensures.first))

pub returns-clause-has : goal.returns-clause-has
returns-clause-has c committed front back was =
    room_on c.args.self.now (record { order = c.empty_row-2.new.order; places = c.clear_places-first.new.places; next = c.args.self.now.next + 1 }) (Mark c.args.tag.now committed) refl
    (λ n later had. c.empty_row-2.ensures.kept n (not_before c.args.self.now.next n later)
    (c.empty_row.ensures.kept n (ap (λ (o : Option ℕ). is_place o n) c.clear_places-first.ensures.first ∙ first_passed c.args.self.now.next (slice_get (places_at c.args.self.now.places c.args.tag.now) 0) c.requires.before n later) had))
    (λ n q room. let e : n + 0 ≡ n = omega arith in c.clear_places-first.ensures.room n q (subst (λ k. HasRoomFor k (get tag_order c.args.self.now.places q)) e room))
    front back was
