-- The events of leaders that bump an epoch.
use Rattle.std.proofs.Common.{◌≡◌, ℕ, ◌+◌, ◌∷◌, [], length, refl, arith}
use Rattle.cw_types.specs.declared.ids.Tid.TheVariants.{Lead, Raw}
use Rattle.cw_txn.specs.declared.entry.Entry.TheVariants.{Bump}
use Rattle.cw_txn.proofs.Walks.{epoch_of-push}
use Rattle.cw_model.specs.State.{Setting, Cluster}
use Rattle.cw_model.specs.Lookups.{row_of, last_epoch}
use Rattle.cw_model.specs.Updates.{with_entries, changes_row, next_epoch, without_lead}
use Rattle.cw_model.specs.EventsLeading.{claim_lead, leading}
use Rattle.cw_model.specs.EventsItems.{read_config}
use Rattle.cw_model.specs.EventsRaw.{raw_init, MayRawInit}
use Rattle.cw_model.specs.Facts.{AreFacts}
use Rattle.cw_model.specs.FactsRows.{IsSoundRow}
use Rattle.cw_laws.proofs.Wrappers.{closed-keeps, worker-keeps, entries-keeps}
use Rattle.cw_laws.proofs.Workers.{sound_at, recede-row}
use Rattle.cw_laws.proofs.Bump.{bump-keeps}

-- a leader that is fenced gives up its epoch
pub without_lead-keeps : (setting : Setting) (w : ℕ) (s : Cluster) → AreFacts setting s → AreFacts setting (changes_row w without_lead s)
without_lead-keeps setting w s f =
    let sound : IsSoundRow s (row_of w s) = sound_at s f.rows w in
    recede-row setting w without_lead s
    record { member = record { incarnation = refl; phase = refl; assigned = refl; revoked = refl }; prefix = omega arith; fences = λ lead fencing a b. absurd (cc) }
    record { prefix = sound.prefix; lead = omega arith; fencing = sound.fencing; round = sound.round } f

pub claim_lead-keeps : (setting : Setting) (w : ℕ) (s : Cluster) → AreFacts setting s → AreFacts setting (claim_lead w s).1
claim_lead-keeps setting w s f = worker-keeps (AreFacts setting) w s _ f (λ live.
    entries-keeps (AreFacts setting) s (Bump Lead ∷ []) _ _ f (λ room.
    let t : Cluster = with_entries (Bump Lead ∷ []) s in
    let g : AreFacts setting t = bump-keeps setting Lead s tt room f in
    let sound : IsSoundRow t (row_of w t) = sound_at t g.rows w in
    let last : last_epoch Lead t ≡ last_epoch Lead s + 1 = epoch_of-push Lead s.entries (Bump Lead) in
    recede-row setting w (leading (next_epoch Lead s)) t
    record { member = record { incarnation = refl; phase = refl; assigned = refl; revoked = refl }; prefix = omega arith; fences = λ lead fencing a b. absurd (cc) }
    record { prefix = sound.prefix; lead = omega (arith, last); fencing = tt; round = sound.round } g))

pub read_config-keeps : (setting : Setting) (w : ℕ) (s : Cluster) → AreFacts setting s → AreFacts setting (read_config w s).1
read_config-keeps setting w s f = worker-keeps (AreFacts setting) w s _ f (λ live.
    let sound : IsSoundRow s (row_of w s) = sound_at s f.rows w in
    recede-row setting w (λ row. record row { prefix = length s.configs }) s
    record { member = record { incarnation = refl; phase = refl; assigned = refl; revoked = refl }; prefix = omega arith; fences = λ lead fencing a b. (a, b) }
    record { prefix = omega arith; lead = sound.lead; fencing = sound.fencing; round = sound.round } f)

pub raw_init-keeps : (setting : Setting) (n : ℕ) (s : Cluster) → MayRawInit n → AreFacts setting s → AreFacts setting (raw_init n s).1
raw_init-keeps setting n s may f = closed-keeps (AreFacts setting) s s.closed _ f
    (entries-keeps (AreFacts setting) s (Bump (Raw n) ∷ []) _ _ f (λ room. bump-keeps setting (Raw n) s may room f))
