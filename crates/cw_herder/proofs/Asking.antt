-- What a call of the REST API comes to at a worker that lives, while no disk has failed.
use Rattle.std.proofs.Common.{◌≡◌, ◌∙◌, ℕ, Bool, true, false, Option, Some, None, Ok, Err, if◌then◌else◌, refl, ap}
use Rattle.std.proofs.Math.Seq.{take-length}
use Rattle.cw_types.specs.declared.ids.Item.{Item}
use Rattle.cw_types.specs.declared.logs.DiskName.{DiskName}
use Rattle.cw_route.specs.declared.call.Call.{Call}
use Rattle.cw_rest.specs.Calls.{Deed, reads, reads_configs, writes_configs, writes_offsets, restarts, deed_of, is_reading}
use Rattle.cw_rest.specs.Replies.{values_of, offsets_of, connector_set}
use Rattle.cw_model.specs.declared.fault.WorldFault.TheVariants.{Closed, Dead}
use Rattle.cw_model.specs.State.{Setting, Cluster}
use Rattle.cw_model.specs.Answers.{Answer, answered, refused, unless_closed}
use Rattle.cw_model.specs.EventsItems.{read_config, restart}
use Rattle.cw_model.specs.EventsLeading.{append_config, set_offsets}
use Rattle.cw_model.specs.Journal.{is_success}
use Rattle.cw_model.specs.Lookups.{row_of}
use Rattle.cw_model.specs.Ready.{ready}
use Rattle.cw_edges.specs.Requests.{seen_now, reply_now, would_succeed, behind_write, writes, item_of, restarted, written, answers_by, answers}

-- an event at a worker that lives
opened : {A : Type 0} (o : Option (DiskName × ℕ)) (done : Answer A) (s : Cluster) → o ≡ None → unless_closed o done s ≡ done
opened None done s is = refl
opened (Some fault) done s is = absurd (cc)

chosen : {A : Type 0} (b : Bool) (done other : Answer A) → b ≡ true → (if b then done else other) ≡ done
chosen true done other is = refl
chosen false done other is = absurd (cc)

passed : {A : Type 0} (b : Bool) (done other : Answer A) → b ≡ false → (if b then done else other) ≡ other
passed true done other is = absurd (cc)
passed false done other is = refl

pub at-work : {A : Type 0} (w : ℕ) (s : Cluster) (done : Answer A) → s.closed ≡ None → (row_of w s).live ≡ true →
    unless_closed s.closed (if (row_of w s).live then done else refused (Dead w) s) s ≡ done
at-work w s done alive live = opened s.closed (if (row_of w s).live then done else refused (Dead w) s) s alive ∙
    chosen (row_of w s).live done (refused (Dead w) s) live

-- where a disk has failed, or the worker was killed
pub closed-answers : (setting : Setting) (w : ℕ) (call : Call) (s : Cluster) (fault : DiskName × ℕ) → s.closed ≡ Some fault →
    answers setting w call s ≡ (Err (Closed fault.0 fault.1), s)
closed-answers setting w call s fault is = ap (λ (o : Option (DiskName × ℕ)). unless_closed o
    (if (row_of w s).live then answers_by setting w call (deed_of call) s else refused (Dead w) s) s) is

pub dead-answers : (setting : Setting) (w : ℕ) (call : Call) (s : Cluster) → s.closed ≡ None → (row_of w s).live ≡ false →
    answers setting w call s ≡ (Err (Dead w), s)
dead-answers setting w call s alive dead =
    opened s.closed (if (row_of w s).live then answers_by setting w call (deed_of call) s else refused (Dead w) s) s alive ∙
    passed (row_of w s).live (answers_by setting w call (deed_of call) s) (refused (Dead w) s) dead

-- its reading is done
pub read-done : (w : ℕ) (s : Cluster) → s.closed ≡ None → (row_of w s).live ≡ true → (read_config w s).0 ≡ Ok tt
read-done w s alive live = ap (λ (a : Answer (Unit {0})). a.0) (at-work w s _ alive live)

module _ (setting : Setting) (w : ℕ) (call : Call) (s : Cluster) (alive : s.closed ≡ None) (live : (row_of w s).live ≡ true) where
  pub by-deed : (deed : Deed) → deed_of call ≡ deed → answers setting w call s ≡ answers_by setting w call deed s
  by-deed deed is = at-work w s (answers_by setting w call (deed_of call) s) alive live ∙ ap (λ (d : Deed). answers_by setting w call d s) is

  -- one that reads
  by-reading : (deed : Deed) → is_reading deed ≡ true → answers_by setting w call deed s ≡ answered (reply_now setting w call s) s
  by-reading reads is = refl
  by-reading reads_configs is = refl
  by-reading writes_configs is = absurd (let no : false ≡ true = is in cc)
  by-reading writes_offsets is = absurd (let no : false ≡ true = is in cc)
  by-reading restarts is = absurd (let no : false ≡ true = is in cc)

  pub reading-answers : is_reading (deed_of call) ≡ true → answers setting w call s ≡ answered (reply_now setting w call s) s
  reading-answers is = by-deed (deed_of call) refl ∙ by-reading (deed_of call) is

  -- one that restarts an item
  module _ (deed : deed_of call ≡ restarts) where
    pub restart-refused : is_success (reply_now setting w call s) ≡ false → answers setting w call s ≡ answered (reply_now setting w call s) s
    restart-refused fails = by-deed restarts deed ∙
        ap (λ (b : Bool). answered (reply_now setting w call s) (if b then restarted w (item_of call) s else s)) fails

    pub restart-done : (item : Item) → item_of call ≡ Some item → is_success (reply_now setting w call s) ≡ true →
        answers setting w call s ≡ answered (reply_now setting w call s) (restart w item s).1
    restart-done item is succeeds = by-deed restarts deed ∙
        ap (λ (b : Bool). answered (reply_now setting w call s) (if b then restarted w (item_of call) s else s)) succeeds ∙
        ap (λ (o : Option Item). answered (reply_now setting w call s) (restarted w o s)) is

  pub restart-ok : (item : Item) → (restart w item s).0 ≡ Ok tt
  restart-ok item = ap (λ (a : Answer (Unit {0})). a.0) (at-work w s _ alive live)

  -- one that writes
  module _ {A : Type 0} (event : ℕ → Cluster → Answer A) where
    by-leader : (o : Option ℕ) → ready w s ≡ o → writes setting w call (ready w s) event s ≡ writes setting w call o event s
    by-leader o is = ap (λ (leader : Option ℕ). writes setting w call leader event s) is

    unled : ready w s ≡ None → writes setting w call (ready w s) event s ≡ answered (reply_now setting w call s) s
    unled is = by-leader None is

    fails-as : (leader : ℕ) → ready w s ≡ Some leader → would_succeed setting w call s ≡ false →
        writes setting w call (ready w s) event s ≡ answered (reply_now setting w call s) s
    fails-as leader is fails = by-leader (Some leader) is ∙
        passed (would_succeed setting w call s) (behind_write setting w call s (event leader s).0 (event leader s).1) (answered (reply_now setting w call s) s) fails

    writes-as : (leader : ℕ) → ready w s ≡ Some leader → would_succeed setting w call s ≡ true →
        writes setting w call (ready w s) event s ≡ behind_write setting w call s (event leader s).0 (event leader s).1
    writes-as leader is succeeds = by-leader (Some leader) is ∙
        chosen (would_succeed setting w call s) (behind_write setting w call s (event leader s).0 (event leader s).1) (answered (reply_now setting w call s) s) succeeds

  abbrev values_event : ℕ → Cluster → Answer ℕ
  values_event leader = append_config leader (values_of call)

  abbrev offsets_event : ℕ → Cluster → Answer (Unit {0})
  offsets_event leader = set_offsets leader (connector_set call) (offsets_of (seen_now setting w call s) call)

  module _ (deed : deed_of call ≡ writes_configs) where
    pub configs-unled : ready w s ≡ None → answers setting w call s ≡ answered (reply_now setting w call s) s
    configs-unled is = by-deed writes_configs deed ∙ unled values_event is

    pub configs-fail : (leader : ℕ) → ready w s ≡ Some leader → would_succeed setting w call s ≡ false →
        answers setting w call s ≡ answered (reply_now setting w call s) s
    configs-fail leader is fails = by-deed writes_configs deed ∙ fails-as values_event leader is fails

    pub configs-written : (leader : ℕ) → ready w s ≡ Some leader → would_succeed setting w call s ≡ true →
        answers setting w call s ≡ behind_write setting w call s (values_event leader s).0 (values_event leader s).1
    configs-written leader is succeeds = by-deed writes_configs deed ∙ writes-as values_event leader is succeeds

  module _ (deed : deed_of call ≡ writes_offsets) where
    pub offsets-unled : ready w s ≡ None → answers setting w call s ≡ answered (reply_now setting w call s) s
    offsets-unled is = by-deed writes_offsets deed ∙ unled offsets_event is

    pub offsets-fail : (leader : ℕ) → ready w s ≡ Some leader → would_succeed setting w call s ≡ false →
        answers setting w call s ≡ answered (reply_now setting w call s) s
    offsets-fail leader is fails = by-deed writes_offsets deed ∙ fails-as offsets_event leader is fails

    pub offsets-written : (leader : ℕ) → ready w s ≡ Some leader → would_succeed setting w call s ≡ true →
        answers setting w call s ≡ behind_write setting w call s (offsets_event leader s).0 (offsets_event leader s).1
    offsets-written leader is succeeds = by-deed writes_offsets deed ∙ writes-as offsets_event leader is succeeds

  -- it sees all configs
  pub sees-all : is_reading (deed_of call) ≡ false → (seen_now setting w call s).configs ≡ s.configs
  sees-all writing = rw writing (take-length s.configs)

  -- what its event leaves is what is written
  pub configs-stand : deed_of call ≡ writes_configs → (leader : ℕ) → written setting w call (deed_of call) leader s ≡ (append_config leader (values_of call) s).1
  configs-stand deed leader = ap (λ (d : Deed). written setting w call d leader s) deed

  pub offsets-stand : deed_of call ≡ writes_offsets → (leader : ℕ) →
      written setting w call (deed_of call) leader s ≡ (set_offsets leader (connector_set call) (offsets_of (seen_now setting w call s) call) s).1
  offsets-stand deed leader = ap (λ (d : Deed). written setting w call d leader s) deed
