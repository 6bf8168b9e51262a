-- A request to a worker is played.
use Rattle.std.proofs.Common.{◌≡◌, inl, inr, ⊎_elim, ℕ, ◌++◌, List, Option, Result, Err, refl, ap, subst}
use Rattle.cw_types.specs.declared.logs.DiskName.{DiskName}
use Rattle.cw_disk.specs.declared.device.Disk.{Ghosts}
use Rattle.cw_io.specs.Shelf.{Files}
use Rattle.cw_route.specs.declared.call.Call.{Call}
use Rattle.cw_route.specs.declared.reply.Reply.{Reply}
use Rattle.cw_script.specs.declared.directive.Directive.{Directive}
use Rattle.cw_script.specs.declared.directive.Directive.TheVariants as directive
use Rattle.cw_model.specs.declared.fault.WorldFault.{WorldFault}
use Rattle.cw_model.specs.declared.fault.WorldFault.TheVariants as fault
use Rattle.cw_model.specs.Answers.{Answer}
use Rattle.cw_model.specs.Reopening.{stored_of}
use Rattle.cw_edges.specs.Requests.{answers, call_of}
use Rattle.cw_world.specs.Logs.{HoldAll}
use Rattle.cw_world.specs.World.{WorldState, Acts, Breaks}
use Rattle.cw_world.proofs.Acting.{wants-acts}
use Rattle.cw_herder.specs.Submits.{StopsShort, Submits}
use Rattle.cw_lines.specs.declared.end.DriveEnd.{DriveEnd}
use Rattle.cw_lines.specs.declared.end.DriveEnd.TheVariants as ends
use Rattle.cw_run.specs.Answers.{text_of}
use Rattle.cw_run.specs.Flight.{IsLastWord}
use Rattle.cw_run.specs.Ran.{Ran}
use Rattle.cw_run.proofs.Living.{IsOwnAnswer, answers-lives, has-written-open}
use Rattle.cw_cluster.specs.declared.outcome.Outcome.TheVariants as came
use Rattle.cw_cluster.specs.Breaking.{IsAlive, IsBrokenWith, ran_with}
use Rattle.cw_cluster.specs.Events.{came_to, event_of}
use Rattle.cw_cluster.specs.Outcomes.{outcome_words}
use Rattle.cw_cluster.specs.Playing.{IsLeftAmid, PlaysDirective, ran_played}
use Rattle.cw_cluster.specs.Playing.HasStopped.{failed}
use Rattle.cw_cluster.specs.Saying.{Says}
use Rattle.cw_cluster.proofs.Broken.{IsUnsettling, is-broken, kinds-same, tells-same}
use Rattle.cw_cluster.proofs.Coming.{acts-comes}
use Rattle.cw_cluster.proofs.EventLives.{event-lives}
use Rattle.cw_cluster.proofs.Played.{is-played, said-wanted, same-ran}

-- for want of memory it wasn't read
pub not-read : {D : Type 0} (G : Ghosts D) (w : ℕ) (call : Call) (old : WorldState D) → Submits G w call old old (Err fault.Memory)
not-read G w call old = inl (wants-acts G (answers old.setting w call) old old (Err fault.Memory) (record { done = λ n. absurd (n refl); wants = λ e. refl; setting = refl; name = refl; logs = refl }))

-- it sets nothing anew
pub submits-setting : {D : Type 0} (G : Ghosts D) (w : ℕ) (call : Call) (old new : WorldState D) (answer : Result Reply WorldFault) → Submits G w call old new answer → new.setting ≡ old.setting
submits-setting G w call old new answer submits =
    ⊎_elim (λ (acts : Acts G (answers old.setting w call) old new answer). acts.setting) (λ (short : StopsShort G w call old new answer). short.setting) submits

module _ {D : Type 0} (G : Ghosts D) (w : ℕ) (method target body : List ℕ) (old new : WorldState D) (files : Option Files) (alive : IsAlive G old) (holds : HoldAll G (stored_of old.state) old.logs)
    (answer : Result Reply WorldFault) where
  abbrev request : Directive
  request = directive.Rest w method target body

  abbrev call : Call
  call = call_of method target body

  abbrev r : Ran
  r = ran_with G old files

  abbrev t : Ran
  t = ran_with G new files

  unsettling : IsUnsettling request
  unsettling most is = cc

  -- as the event of the directive
  event-acts : Acts G (answers old.setting w call) old new answer → Acts G (event_of old.setting request) old new (came_to came.Replied answer)
  unfolding event_of
  event-acts acts = acts-comes G (answers old.setting w call) (event_of old.setting request) came.Replied old new answer (came_to came.Replied answer) refl refl acts

  module _ (before after : List ℕ) (result : Result (Unit {0}) DriveEnd) where
    -- a reply or a refusal was said, or memory was wanting
    pub acts-played : Acts G (answers old.setting w call) old new answer → Says (text_of w (came_to came.Replied answer) (outcome_words old.setting.group)) before after result →
        PlaysDirective G request old new files files before after result
    acts-played acts said =
        is-played G request old new files files (came_to came.Replied answer) unsettling alive holds (event-lives old.setting request old.state unsettling alive.alive) (event-acts acts)
        (λ row. refl) (λ why is. refl) before after result said

    -- memory was wanting behind the write
    pub short-played : StopsShort G w call old new answer → Says (text_of w (came_to came.Replied answer) (outcome_words old.setting.group)) before after result →
        PlaysDirective G request old new files files before after result
    short-played short said = record {
      outcome = said-wanted G (IsLeftAmid old.setting request r) (IsBrokenWith G old.setting request r new files) old new before after t (ran_played old.setting request r)
          (text_of w (came_to came.Replied answer) (outcome_words old.setting.group)) result (ap (λ (a : Result Reply WorldFault). text_of w (came_to came.Replied a) (outcome_words old.setting.group)) short.answer)
          (inr (record { cluster = inr (inl short.state); same = same-ran refl refl (tells-same G old.logs new.logs short.keeps) }))
          (record { alive = has-written-open old.setting w call old.state alive.alive new.state short.state; kinds = kinds-same G old.logs new.logs short.keeps alive.kinds }) said;
      setting = short.setting;
      name = short.name;
      keeps = short.keeps;
    }

    pub submits-played : Submits G w call old new answer → Says (text_of w (came_to came.Replied answer) (outcome_words old.setting.group)) before after result →
        PlaysDirective G request old new files files before after result
    submits-played submits said = ⊎_elim (λ acts. acts-played acts said) (λ short. short-played short said) submits

  -- a disk failed: its last words are these
  module _ (disk : DiskName) (count : ℕ) (is : answer ≡ Err (fault.StoreFault disk count)) (before after said : List ℕ) (text : after ≡ before ++ said) (last : IsLastWord request said) where
    abbrev Failed : Type 0
    Failed = PlaysDirective G request old new files files before after (Err (ends.StoreFault disk count))

    breaks-played : (acts : Acts G (answers old.setting w call) old new answer) → Breaks G acts.log (answers old.setting w call) old new answer → Failed
    breaks-played acts breaks = record {
      outcome = failed (record {
        log = acts.log;
        disk = breaks.disk;
        count = breaks.count;
        fault = let same : fault.StoreFault disk count ≡ fault.StoreFault breaks.disk breaks.count = cc in cc;
        fails = breaks.fails;
        said = said;
        text = text;
        left = is-broken G request (answers old.setting w call) old new files files answer acts.log said unsettling refl breaks holds acts.others acts.keeps alive.kinds refl last;
      });
      setting = acts.setting;
      name = acts.name;
      keeps = acts.keeps;
    }

    acts-failed : Acts G (answers old.setting w call) old new answer → Failed
    acts-failed acts = ⊎_elim
        (λ (row : answers old.setting w call old.state ≡ (answer, new.state)).
        absurd (subst IsOwnAnswer is (subst (λ (a : Answer Reply). IsOwnAnswer a.0) row (answers-lives old.setting w call old.state alive.alive).own)))
        (λ stops. ⊎_elim (λ out. absurd (let never = out.answer in cc)) (λ breaks. breaks-played acts breaks) stops)
        acts.answers

    pub submits-failed : Submits G w call old new answer → Failed
    submits-failed submits = ⊎_elim acts-failed (λ short. absurd (let never = short.answer in cc)) submits
