-- A directive that makes one event, and whose outcome is said, is played.
use Rattle.std.proofs.Common.{◌≡◌, inl, inr, ⊎_elim, ℕ, ◌<◌, Bool, true, List, [], length, Option, Some, None, Result, Ok, Err, refl, sym, ap, ◌∙◌, subst, arith}
use Rattle.std.proofs.lemmas.Bool.Decides.{nat_tests}
use Rattle.std.proofs.lemmas.List.{append-nil}
use Rattle.std.specs.Prelude.{MatchResult}
use Rattle.cw_types.specs.declared.logs.DiskName.{DiskName}
use Rattle.cw_disk.specs.declared.device.Disk.{Ghosts}
use Rattle.cw_io.specs.Shelf.{Files}
use Rattle.cw_script.specs.declared.directive.Directive.{Directive}
use Rattle.cw_script.specs.declared.directive.Directive.TheVariants as directive
use Rattle.cw_model.specs.declared.fault.WorldFault.{WorldFault}
use Rattle.cw_model.specs.declared.fault.WorldFault.TheVariants as fault
use Rattle.cw_model.specs.State.{Setting, Cluster}
use Rattle.cw_model.specs.Answers.{Answer}
use Rattle.cw_model.specs.Reopening.{stored_of}
use Rattle.cw_world.specs.Logs.{HoldAll}
use Rattle.cw_world.specs.World.{WorldState, Acts, RunsOut, Breaks}
use Rattle.cw_lines.specs.declared.end.DriveEnd.{DriveEnd}
use Rattle.cw_lines.specs.declared.end.DriveEnd.TheVariants as ends
use Rattle.cw_lines.specs.Players.{is_amid, is_own}
use Rattle.cw_lines.specs.Plays.{Played}
use Rattle.cw_run.specs.Amid.{IsRanAmid, files_behind, ran_behind}
use Rattle.cw_run.specs.Answers.{Told, refusal, text_of}
use Rattle.cw_run.specs.Directives.{does}
use Rattle.cw_run.specs.Ran.{Ran}
use Rattle.cw_run.specs.Run.{played, unless_worker}
use Rattle.cw_run.proofs.Living.{IsOwnFault, IsOwnAnswer, Lives}
use Rattle.cw_cluster.specs.declared.outcome.Outcome.{Outcome}
use Rattle.cw_cluster.specs.Breaking.{IsAlive, IsBrokenWith, ran_with}
use Rattle.cw_cluster.specs.Events.{event_of, subject_of, IsPlain}
use Rattle.cw_cluster.specs.Outcomes.{outcome_words}
use Rattle.cw_cluster.specs.Playing.{HasPlayed, HasFailed, HasStopped, IsLeftAmid, PlaysDirective, ran_played}
use Rattle.cw_cluster.specs.Playing.HasStopped.{ended, left, failed}
use Rattle.cw_cluster.specs.Saying.{Says}
use Rattle.cw_cluster.proofs.Broken.{IsUnsettling, is-broken, kinds-same, says-nothing, tells-same}
use Rattle.cw_cluster.proofs.Worded.{does-event}

-- ---- what is said

-- a refusal of the event itself is said, or ends the script as its line does
own-refusal : (n : ℕ) (why : WorldFault) (end : DriveEnd) → IsOwnFault why → refusal n why ≡ Err end → is_own end ≡ true
own-refusal n (fault.Fenced own current) end is due = absurd (cc)
own-refusal n (fault.StaleGeneration own current) end is due = absurd (cc)
own-refusal n fault.PendingFence end is due = absurd (cc)
own-refusal n (fault.BadCut from to) end is due = absurd (cc)
own-refusal n (fault.Gone i) end is due = absurd (cc)
own-refusal n (fault.Full log length frame) end is due = let same : ends.Full log length frame ≡ end = cc in subst (λ (e : DriveEnd). is_own e ≡ true) same refl
own-refusal n (fault.StoreFault disk count) end is due = absurd is
own-refusal n (fault.Closed disk count) end is due = absurd is
own-refusal n (fault.Dead w) end is due = absurd (cc)
own-refusal n (fault.Group cause) end is due = absurd (cc)
own-refusal n fault.TooMany end is due = absurd (cc)
own-refusal n fault.Memory end is due = absurd is

pub own-text : {A : Type 0} (n : ℕ) (done : Result A WorldFault) (text : A → List (List ℕ)) (end : DriveEnd) → IsOwnAnswer done → text_of n done text ≡ Err end → is_own end ≡ true
own-text n (Ok x) text end is due = absurd (cc)
own-text n (Err why) text end is due = own-refusal n why end is due

module _ {D : Type 0} (G : Ghosts D) (amid : Ran → Type 0) (broken : List ℕ → Type 0) (old new : WorldState D) (before after : List ℕ) (t : Ran) where
  abbrev Outcomes : Played Ran → Result (Unit {0}) DriveEnd → Type 0
  Outcomes p result = MatchResult result (λ done. HasPlayed p before after t × IsAlive G new) (HasStopped G p amid broken old new before after t)

  -- what was meant came true
  pub said-played : (meant : Result (List ℕ) DriveEnd) (result : Result (Unit {0}) DriveEnd) → ((end : DriveEnd) → meant ≡ Err end → is_own end ≡ true) → amid t → IsAlive G new →
      Says meant before after result → Outcomes (played meant t) result
  said-played (Ok text) (Ok _) own here alive says = (record { goes_on = refl; store = refl; text = says }, alive)
  said-played (Err end) (Ok _) own here alive says = absurd says
  said-played (Ok text) (Err end) own here alive says = left (record { because = ap is_amid says.why; is_amid = here; text = says.same; lives = alive })
  said-played (Err due) (Err end) own here alive says = ended (record {
    own = ap is_own says.why ∙ own due refl;
    stop = ap (λ (e : DriveEnd). Some e) (sym says.why);
    silent = refl;
    store = refl;
    text = says.same;
    lives = alive;
  })

  -- for want of memory nothing was done
  pub said-wanted : (p : Played Ran) (meant : Result (List ℕ) DriveEnd) (result : Result (Unit {0}) DriveEnd) → meant ≡ Err ends.Memory → amid t → IsAlive G new →
      Says meant before after result → Outcomes p result
  said-wanted p (Ok text) result is here alive says = absurd (cc)
  said-wanted p (Err due) (Ok _) is here alive says = absurd says
  said-wanted p (Err due) (Err end) is here alive says =
      let due_is : due ≡ ends.Memory = cc in left (record { because = ap is_amid (says.why ∙ due_is); is_amid = here; text = says.same; lives = alive })

  -- a disk failed
  pub said-failed : (p : Played Ran) (meant : Result (List ℕ) DriveEnd) (result : Result (Unit {0}) DriveEnd) (disk : DiskName) (count : ℕ) → meant ≡ Err (ends.StoreFault disk count) →
      ((end : DriveEnd) → end ≡ ends.StoreFault disk count → after ≡ before → HasFailed G broken old new before after end) → Says meant before after result → Outcomes p result
  said-failed p (Ok text) result disk count is fails says = absurd (cc)
  said-failed p (Err due) (Ok _) disk count is fails says = absurd says
  said-failed p (Err due) (Err end) disk count is fails says =
      let due_is : due ≡ ends.StoreFault disk count = cc in failed (fails end (says.why ∙ due_is) says.same)

-- ---- where a directive may be left

module _ (setting : Setting) (r : Ran) where
  pub amid-behind : (d : Directive) → IsUnsettling d → IsRanAmid setting d r (ran_behind setting d r)
  amid-behind (directive.Init n) un = refl
  amid-behind (directive.Commit n epoch pairs) un = refl
  amid-behind directive.Spawn un = refl
  amid-behind (directive.Kill w) un = refl
  amid-behind (directive.Deaf w) un = refl
  amid-behind (directive.Hear w) un = refl
  amid-behind (directive.Expire w) un = refl
  amid-behind (directive.Clock to) un = refl
  amid-behind (directive.Tick w) un = refl
  amid-behind (directive.Step i) un = inl refl
  amid-behind (directive.Settle most) un = absurd (un most refl)
  amid-behind (directive.Rest w method target body) un = record { cluster = inr (inr refl); same = refl }
  amid-behind (directive.Held w) un = refl
  amid-behind (directive.Member w) un = refl
  amid-behind (directive.Take topic from) un = refl
  amid-behind (directive.Compact log) un = refl

  -- one that is of the world alone leaves the files
  pub plain-files : (d : Directive) → IsPlain d → files_behind setting d r ≡ r.files
  plain-files (directive.Init n) plain = refl
  plain-files (directive.Commit n epoch pairs) plain = refl
  plain-files directive.Spawn plain = refl
  plain-files (directive.Kill w) plain = refl
  plain-files (directive.Deaf w) plain = refl
  plain-files (directive.Hear w) plain = refl
  plain-files (directive.Expire w) plain = refl
  plain-files (directive.Clock to) plain = refl
  plain-files (directive.Tick w) plain = refl
  plain-files (directive.Step i) plain = absurd plain
  plain-files (directive.Settle most) plain = absurd plain
  plain-files (directive.Rest w method target body) plain = absurd plain
  plain-files (directive.Held w) plain = refl
  plain-files (directive.Member w) plain = refl
  plain-files (directive.Take topic from) plain = refl
  plain-files (directive.Compact log) plain = refl

-- ---- one event

-- how far it ran, by its parts
abbrev ran_by : Cluster → Option Files → Bool → Ran
ran_by s files tells = record { cluster = s; files = files; tells = tells }

pub same-ran : {s u : Cluster} {a b : Option Files} {x y : Bool} → s ≡ u → a ≡ b → x ≡ y → ran_by s a x ≡ ran_by u b y
same-ran {s} {u} {a} {b} {x} {y} p q w = ap (λ (c : Cluster). ran_by c a x) p ∙ ap (λ (f : Option Files). ran_by u f x) q ∙ ap (ran_by u b) w

module _ {D : Type 0} (G : Ghosts D) (d : Directive) (old new : WorldState D) (held after_files : Option Files) (done : Result Outcome WorldFault) (un : IsUnsettling d)
    (alive : IsAlive G old) (holds : HoldAll G (stored_of old.state) old.logs) (lives : Lives (event_of old.setting d old.state))
    (acts : Acts G (event_of old.setting d) old new done)
    (behind : event_of old.setting d old.state ≡ (done, new.state) → after_files ≡ files_behind old.setting d (ran_with G old held))
    (stay : (why : WorldFault) → done ≡ Err why → after_files ≡ held) where
  abbrev r : Ran
  r = ran_with G old held

  abbrev t : Ran
  t = ran_with G new after_files

  abbrev event : Answer Outcome
  event = event_of old.setting d old.state

  abbrev text : Result Outcome WorldFault → Result (List ℕ) DriveEnd
  text x = text_of (subject_of d) x (outcome_words old.setting.group)

  tells : t.tells ≡ r.tells
  tells = tells-same G old.logs new.logs acts.keeps

  -- what it does
  as-due : event ≡ (done, new.state) → does old.setting d old.state ≡ (text done, new.state)
  as-due row = does-event old.setting d old.state ∙ ap (λ (a : Answer Outcome). (text a.0, a.1)) row

  -- the cluster that runs behind it
  pub is-behind : event ≡ (done, new.state) → t ≡ ran_behind old.setting d r
  is-behind row = same-ran (sym (ap (λ (a : Told). a.1) (as-due row))) (behind row) tells

  pub is-before : (why : WorldFault) → done ≡ Err why → new.state ≡ old.state → t ≡ r
  is-before why is state = same-ran state (stay why is) tells

  pub lives-on : new.state.closed ≡ None → IsAlive G new
  lives-on unclosed = record { alive = unclosed; kinds = kinds-same G old.logs new.logs acts.keeps alive.kinds }

  open-behind : event ≡ (done, new.state) → new.state.closed ≡ None
  open-behind row = subst (λ (a : Answer Outcome). a.1.closed ≡ None) row lives.unclosed

  pub next-is : event.1 ≡ (does old.setting d old.state).1
  next-is = ap (λ (a : Told). a.1) (sym (does-event old.setting d old.state))

  module _ (before after : List ℕ) (result : Result (Unit {0}) DriveEnd) (said : Says (text done) before after result) where
    abbrev amid : Ran → Type 0
    amid = IsLeftAmid old.setting d r

    abbrev broken : List ℕ → Type 0
    broken = IsBrokenWith G old.setting d r new after_files

    abbrev CameTo : Played Ran → Type 0
    CameTo p = MatchResult result (λ done. HasPlayed p before after t × IsAlive G new) (HasStopped G p amid broken old new before after t)

    came-done : event ≡ (done, new.state) → CameTo (ran_played old.setting d r)
    came-done row =
        let same : played (text done) t ≡ ran_played old.setting d r =
        ap (λ (x : Result (List ℕ) DriveEnd). played x t) (sym (ap (λ (a : Told). a.0) (as-due row))) ∙ ap (played (does old.setting d old.state).0) (is-behind row) in
        subst CameTo same (said-played G amid broken old new before after t (text done) result
        (λ end. own-text (subject_of d) done (outcome_words old.setting.group) end (subst (λ (a : Answer Outcome). IsOwnAnswer a.0) row lives.own))
        (inr (subst (IsRanAmid old.setting d r) (sym (is-behind row)) (amid-behind old.setting r d un)))
        (lives-on (open-behind row)) said)

    came-short : RunsOut G acts.log old new done → CameTo (ran_played old.setting d r)
    came-short out = said-wanted G amid broken old new before after t (ran_played old.setting d r) (text done) result (ap text out.answer)
        (inl (is-before fault.Memory out.answer out.state)) (lives-on (ap (λ (s : Cluster). s.closed) out.state ∙ alive.alive)) said

    came-broken : Breaks G acts.log (event_of old.setting d) old new done → CameTo (ran_played old.setting d r)
    came-broken breaks = said-failed G amid broken old new before after t (ran_played old.setting d r) (text done) result breaks.disk breaks.count (ap text breaks.answer)
        (λ end is same. record {
          log = acts.log;
          disk = breaks.disk;
          count = breaks.count;
          fault = is;
          fails = breaks.fails;
          said = [];
          text = same ∙ sym (append-nil before);
          left = is-broken G d (event_of old.setting d) old new held after_files done acts.log [] un next-is breaks holds acts.others acts.keeps alive.kinds
              (stay (fault.StoreFault breaks.disk breaks.count) breaks.answer) (says-nothing d);
        }) said

    pub is-played : PlaysDirective G d old new held after_files before after result
    is-played = record {
      outcome = ⊎_elim (λ row. came-done row) (λ stops. ⊎_elim (λ out. came-short out) (λ breaks. came-broken breaks) stops) acts.answers;
      setting = acts.setting;
      name = acts.name;
      keeps = acts.keeps;
    }

-- ---- what a directive of the world alone asks

pub plain-unsettling : (d : Directive) → IsPlain d → IsUnsettling d
plain-unsettling d plain most is = subst (λ (e : Directive). IsPlain e) is plain

-- a worker that isn't missing
pub worker-there : (w : ℕ) (s : Cluster) → unless_worker w s ≡ None → w < length s.rows
worker-there w s is = grind (arith, nat_tests)
