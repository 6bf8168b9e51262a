-- The leader through which a worker may write: it lives, and once it has given its lead up, that worker isn't ready.
use Rattle.std.proofs.Common.{◌≡◌, ◌<◌, ℕ, ◌==◌, ◌&&◌, Bool, true, false, List, length, Option, Some, None, IsSome, if◌then◌else◌, refl, sym, ap, ◌∙◌, subst}
use Rattle.std.specs.Option.{option_map_or, is_some}
use Rattle.std.proofs.lemmas.Bool.{and_parts}
use Rattle.std.proofs.lemmas.List.{get_or-set_same}
use Rattle.cw_types.specs.declared.ids.Tid.TheVariants.{Lead}
use Rattle.cw_laws.proofs.Lists.{reads-set}
use Rattle.cw_laws.proofs.Proposed.{ready-leads}
use Rattle.cw_laws.proofs.Sync.{live-within}
use Rattle.cw_model.specs.declared.instance.Instance.{Instance}
use Rattle.cw_model.specs.declared.row.Row.{Row}
use Rattle.cw_model.specs.declared.row.RowPhase.{RowPhase}
use Rattle.cw_model.specs.declared.row.RowPhase.TheVariants.{Out, Joining, Stable}
use Rattle.cw_model.specs.State.{Cluster}
use Rattle.cw_model.specs.EventsItems.{is_active}
use Rattle.cw_model.specs.EventsLeading.{leads}
use Rattle.cw_model.specs.Journal.{is_ready}
use Rattle.cw_model.specs.Lookups.{row_of, no_row, last_epoch}
use Rattle.cw_model.specs.Ready.{ready, leader_for, leads_round, is_stable_in}
use Rattle.cw_model.specs.Updates.{changes_row, without_lead, epoch_in}

-- the leader of an assignment
leader_in : RowPhase → Option ℕ
leader_in Out = None
leader_in Joining = None
leader_in (Stable round leader) = Some leader

module _ (s : Cluster) (leader : ℕ) where
  lives-in : (phase : RowPhase) → leader_for phase s ≡ Some leader → (row_of leader s).live ≡ true
  lives-in Out is = absurd (cc)
  lives-in Joining is = absurd (cc)
  lives-in (Stable round at) is = of (leads_round round at s) refl is where
    of : (b : Bool) → leads_round round at s ≡ b → (if b then Some at else None) ≡ Some leader → (row_of leader s).live ≡ true
    of false none is = absurd (cc)
    of true all is =
        let same : at ≡ leader = cc in
        let three = and_parts (is_active s at && is_stable_in round (row_of at s).phase && leads at (row_of at s).phase) (is_some (row_of at s).lead) all in
        let two = and_parts (is_active s at && is_stable_in round (row_of at s).phase) (leads at (row_of at s).phase) three.0 in
        let one = and_parts (is_active s at) (is_stable_in round (row_of at s).phase) two.0 in
        let active = and_parts (row_of at s).live (row_of at s).hearing one.0 in
        subst (λ (v : ℕ). (row_of v s).live ≡ true) same active.0

  leads-in : (phase : RowPhase) → leader_for phase s ≡ Some leader → leader_in phase ≡ Some leader
  unfolding leader_in
  leads-in Out is = absurd (cc)
  leads-in Joining is = absurd (cc)
  leads-in (Stable round at) is = of (leads_round round at s) is where
    of : (b : Bool) → (if b then Some at else None) ≡ Some leader → Some at ≡ Some leader
    of true is = is
    of false is = absurd (cc)

  module _ (w : ℕ) where
    pub leader-lives : ready w s ≡ Some leader → (row_of leader s).live ≡ true
    leader-lives is = of (is_active s w) is where
      of : (b : Bool) → (if b then leader_for (row_of w s).phase s else None) ≡ Some leader → (row_of leader s).live ≡ true
      of true is = lives-in (row_of w s).phase is
      of false is = absurd (cc)

    leader-of : ready w s ≡ Some leader → leader_in (row_of w s).phase ≡ Some leader
    leader-of is = of (is_active s w) is where
      of : (b : Bool) → (if b then leader_for (row_of w s).phase s else None) ≡ Some leader → leader_in (row_of w s).phase ≡ Some leader
      of true is = leads-in (row_of w s).phase is
      of false is = absurd (cc)

-- whether it is ready, by its leader's epoch
pub ready-by : (w leader : ℕ) (s : Cluster) → ready w s ≡ Some leader → is_ready w s ≡ (epoch_in (row_of leader s).lead == last_epoch Lead s)
ready-by w leader s is = ap (λ (o : Option ℕ). option_map_or (λ l. epoch_in (row_of l s).lead == last_epoch Lead s) o false) is

pub unready-by : (w : ℕ) (s : Cluster) → ready w s ≡ None → is_ready w s ≡ false
unready-by w s is = ap (λ (o : Option ℕ). option_map_or (λ l. epoch_in (row_of l s).lead == last_epoch Lead s) o false) is

-- readiness goes by rows and entries
module _ (w : ℕ) (s : Cluster) (instances : List Instance) where
  leader-same : (phase : RowPhase) → leader_for phase (record s { instances = instances }) ≡ leader_for phase s
  leader-same Out = refl
  leader-same Joining = refl
  leader-same (Stable round leader) = refl

  pub ready-same : is_ready w (record s { instances = instances }) ≡ is_ready w s
  ready-same = ap (λ (o : Option ℕ). option_map_or (λ l. epoch_in (row_of l s).lead == last_epoch Lead s) (if is_active s w then o else None) false)
      (leader-same (row_of w s).phase)

-- a leader that has given its lead up
module _ (w leader : ℕ) (s : Cluster) (through : ready w s ≡ Some leader) where
  abbrev after : Cluster
  after = changes_row leader without_lead s

  row-after : row_of leader after ≡ without_lead (row_of leader s)
  row-after =
      let within : leader < length s.rows = live-within leader s (leader-lives s leader w through) in
      get_or-set_same s.rows leader (without_lead (row_of leader s)) no_row within

  phase-after : (row_of w after).phase ≡ (row_of w s).phase
  phase-after = reads-set (λ (r q : Row). q.phase ≡ r.phase) s.rows leader (without_lead (row_of leader s)) no_row (λ r. refl) refl w

  pub unready-after : is_ready w after ≡ false
  unready-after = of (ready w after) refl where
    of : (o : Option ℕ) → ready w after ≡ o → is_ready w after ≡ false
    of None is = unready-by w after is
    of (Some other) is = absurd (
        let own : leader_in (row_of w after).phase ≡ Some other = leader-of after other w is in
        let first : leader_in (row_of w s).phase ≡ Some leader = leader-of s leader w through in
        let same : other ≡ leader = (let both : Some other ≡ Some leader = sym own ∙ ap leader_in phase-after ∙ first in cc) in
        let leads : IsSome (row_of leader after).lead = subst (λ (v : ℕ). IsSome (row_of v after).lead) same (ready-leads w other after is) in
        let none : (row_of leader after).lead ≡ None = ap (λ (r : Row). r.lead) row-after in
        let no : false ≡ true = subst (λ o. is_some o ≡ true) none leads in cc)
