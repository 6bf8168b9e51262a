-- From what is computed with sets and counts to the plan's definition.
use Rattle.std.proofs.Common.{◌≡◌, ℕ, ◌+◌, ◌<◌, Bool, cond, List, [], ◌∷◌, ◌++◌, length, take, get_or, map, sym, ap, ◌∙◌}
use Rattle.std.specs.List.{filter}
use Rattle.std.proofs.lemmas.List.{take_more, map-append, length-map}
use Rattle.cw_types.specs.declared.ids.Item.{Item}
use Rattle.cw_assign.specs.declared.items.Kind.{Kind}
use Rattle.cw_assign.specs.declared.items.Kind.TheVariants.{Connectors, Tasks}
use Rattle.cw_assign.specs.declared.share.Share.{Share}
use Rattle.cw_assign.specs.declared.share.Holder.{Holder}
use Rattle.cw_assign.specs.declared.standing.Standing.{Standing}
use Rattle.cw_assign.specs.Items.{has, of_kind}
use Rattle.cw_assign.specs.Quota.{quota}
use Rattle.cw_assign.specs.Plan.{Hand, own, standing_of, first_hand, is_free, hands_of, held_by, shares_of, plan_of}
use Rattle.cw_assign.proofs.Dealing.{take-most, length-deal}

module _ (kind : Kind) (p : Item → Bool) (members : List Holder) (running : Bool) (m : Holder) where
  pub first-is : (t total most : ℕ) (of_m : Standing) (all : List Standing) (kept : List Item) (hand : Hand)
      → total ≡ t → all ≡ map (standing_of kind p) members → of_m ≡ standing_of kind p m → most ≡ cond running of_m.load (quota total all of_m)
      → kept ≡ take most (own kind p m.held) → hand ≡ record { kept = kept; fresh = [] } → hand ≡ first_hand kind members t p running m
  first-is t total most of_m all kept hand total_is all_is of_m_is most_is kept_is hand_is =
      hand_is ∙ ap (λ (ks : List Item). record { kept = ks; fresh = [] })
      (kept_is ∙ ap (λ n. take n (own kind p m.held))
      (most_is ∙ ap (λ (s : Standing). cond running s.load (quota total all s)) of_m_is
      ∙ ap (λ (a : List Standing). cond running (standing_of kind p m).load (quota total a (standing_of kind p m))) all_is
      ∙ ap (λ n. cond running (standing_of kind p m).load (quota n (map (standing_of kind p) members) (standing_of kind p m))) total_is)
      ∙ take-most running (quota t (map (standing_of kind p) members) (standing_of kind p m)) (own kind p m.held))

-- one element more of a list that is mapped
pub map-more : (f : Holder → Hand) (members : List Holder) (i : ℕ) (m : Holder) (hands : List Hand) (hand : Hand)
    → i < length members → m ≡ get_or members i m → hands ≡ map f (take i members) → hand ≡ f m → hands ++ hand ∷ [] ≡ map f (take (i + 1) members)
map-more f members i m hands hand within m_is hands_is hand_is =
    ap (λ (hs : List Hand). hs ++ hand ∷ []) hands_is ∙ ap (λ (h : Hand). map f (take i members) ++ h ∷ []) (hand_is ∙ ap f m_is)
    ∙ sym (ap (map f) (take_more members i m within) ∙ map-append f (take i members) (get_or members i m ∷ []))

pub length-hands : (kind : Kind) (members : List Holder) (configured : List Item) (p q r : Item → Bool) (running : Bool) (hands : List Hand)
    → hands ≡ hands_of kind members configured p q r running → length hands ≡ length members
length-hands kind members configured p q r running hands is =
    ap length is ∙ length-deal (map (first_hand kind members (length (of_kind kind configured)) p running) members) (filter (is_free kind q r running) configured)
    ∙ length-map members (first_hand kind members (length (of_kind kind configured)) p running)

pub plan-is : (members : List Holder) (configured lost : List Item) (running : Bool) (p q r : Item → Bool) (cs ts : List Hand) (shares : List Share)
    → p ≡ has configured → q ≡ has (held_by members) → r ≡ has lost
    → cs ≡ hands_of Connectors members configured p q r running → ts ≡ hands_of Tasks members configured p q r running
    → shares ≡ shares_of members cs ts → record { shares = shares } ≡ plan_of members configured lost running
plan-is members configured lost running p q r cs ts shares p_is q_is r_is cs_is ts_is shares_is =
    ap (λ (ss : List Share). record { shares = ss })
    (shares_is ∙ ap (λ (hs : List Hand). shares_of members hs ts) (cs_is ∙ moved Connectors) ∙ ap (λ (hs : List Hand). shares_of members (hands_of Connectors members configured (has configured) (has (held_by members)) (has lost) running) hs) (ts_is ∙ moved Tasks)) where
      moved : (kind : Kind) → hands_of kind members configured p q r running ≡ hands_of kind members configured (has configured) (has (held_by members)) (has lost) running
      moved kind = ap (λ (t : Item → Bool). hands_of kind members configured t q r running) p_is
          ∙ ap (λ (t : Item → Bool). hands_of kind members configured (has configured) t r running) q_is
          ∙ ap (λ (t : Item → Bool). hands_of kind members configured (has configured) (has (held_by members)) t running) r_is
