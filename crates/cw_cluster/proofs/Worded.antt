-- The words of an outcome are those of the directive's answer.
use Rattle.std.proofs.Common.{◌≡◌, ℕ, List, [], ◌∷◌, map, codes, decimal, Option, Some, None, Result, Ok, Err, refl, ap}
use Rattle.std.specs.Option.{option_map}
use Rattle.cw_group.specs.declared.member.Member.{Member}
use Rattle.cw_group.specs.Members.{member_of}
use Rattle.cw_data.specs.Log.{taken}
use Rattle.cw_script.specs.declared.directive.Directive.{Directive}
use Rattle.cw_script.specs.declared.directive.Directive.TheVariants.{Init, Commit, Spawn, Kill, Deaf, Hear, Expire, Clock, Tick, Step, Settle, Rest, Held, Member as MemberOf, Take, Compact}
use Rattle.cw_model.specs.declared.fault.WorldFault.{WorldFault}
use Rattle.cw_model.specs.State.{Setting, Cluster}
use Rattle.cw_model.specs.Answers.{Answer}
use Rattle.cw_model.specs.TickText.{words}
use Rattle.cw_model.specs.EventsWorkers.{spawn, kill, deaf, hear, expire, clock}
use Rattle.cw_model.specs.EventsRaw.{raw_init, raw_commit}
use Rattle.cw_model.specs.EventsCompaction.{compact}
use Rattle.cw_model.specs.Tick.{tick}
use Rattle.cw_model.specs.Steps.{step}
use Rattle.cw_edges.specs.Requests.{answers, call_of}
use Rattle.cw_lines.specs.declared.end.DriveEnd.{DriveEnd}
use Rattle.cw_run.specs.Answers.{told, says, text_of, pair_of}
use Rattle.cw_run.specs.Directives.{does}
use Rattle.cw_run.specs.Looks.{id_words, record_words}
use Rattle.cw_run.specs.Ran.{alone}
use Rattle.cw_run.specs.Settling.{Settled, settled, settled_told}
use Rattle.cw_cluster.specs.declared.outcome.Outcome.{Outcome}
use Rattle.cw_cluster.specs.declared.outcome.Outcome.TheVariants as came
use Rattle.cw_cluster.specs.Events.{came_to, comes_to, compacted, event_of, found, settling, subject_of}
use Rattle.cw_cluster.specs.Outcomes.{outcome_words, incarnation_words}

-- an answer in words, and the same as an outcome
came-words : {A : Type 0} (group : List ℕ) (n : ℕ) (outcome : A → Outcome) (text : A → List (List ℕ)) (result : Result A WorldFault) →
    ((x : A) → words (text x) ≡ words (outcome_words group (outcome x))) → text_of n result text ≡ text_of n (came_to outcome result) (outcome_words group)
came-words group n outcome text (Ok x) same = ap (λ (t : List ℕ). Ok t) (same x)
came-words group n outcome text (Err fault) same = refl

-- the same with the cluster behind it
pub told-words : {A : Type 0} (group : List ℕ) (n : ℕ) (outcome : A → Outcome) (text : A → List (List ℕ)) (done : Answer A) →
    ((x : A) → words (text x) ≡ words (outcome_words group (outcome x))) → told n done text ≡ told n (comes_to outcome done) (outcome_words group)
told-words group n outcome text done same =
    ap (λ (t : Result (List ℕ) DriveEnd). (t, done.1)) (came-words group n outcome text done.0 same)

member-words : (group : List ℕ) (w : ℕ) (m : Option Member) → id_words group w m ≡ incarnation_words group w (option_map (λ x. x.incarnation) m)
member-words group w None = refl
member-words group w (Some m) = refl

found-words : (group : List ℕ) (o : Option (ℕ × List ℕ)) → record_words o ≡ outcome_words group (found o)
found-words group None = refl
found-words group (Some p) = refl

settled-words : (setting : Setting) (o : Option WorldFault) (g : Settled) →
    settled_told setting o g ≡ told 0 (settling setting o g, g.ran.cluster) (outcome_words setting.group)
settled-words setting None g = refl
settled-words setting (Some fault) g = refl

-- what a directive does is what its event comes to
pub does-event : (setting : Setting) (d : Directive) (s : Cluster) →
    does setting d s ≡ told (subject_of d) (event_of setting d s) (outcome_words setting.group)
unfolding event_of
does-event setting (Init n) s = told-words setting.group n came.Epoch _ (raw_init n s) (λ x. refl)
does-event setting (Commit n epoch pairs) s =
    told-words setting.group n came.Committed _ (raw_commit n (record { 0 = epoch }) (map pair_of pairs) s) (λ x. refl)
does-event setting Spawn s = told-words setting.group 0 came.Spawned _ (spawn s) (λ x. refl)
does-event setting (Kill w) s = told-words setting.group w (λ _. came.Killed w) _ (kill w s) (λ x. refl)
does-event setting (Deaf w) s = told-words setting.group w (λ _. came.Deaf w) _ (deaf w s) (λ x. refl)
does-event setting (Hear w) s = told-words setting.group w (λ _. came.Hears w) _ (hear w s) (λ x. refl)
does-event setting (Expire w) s = told-words setting.group w (λ _. came.Expired w) _ (expire setting w s) (λ x. refl)
does-event setting (Clock to) s = told-words setting.group 0 came.Clock (λ now. codes "clock" ∷ decimal now ∷ []) (clock to s) (λ x. refl)
does-event setting (Tick w) s = told-words setting.group w (came.Tick w) _ (tick w s) (λ x. refl)
does-event setting (Step i) s = told-words setting.group i (came.Step i) _ (step setting i s) (λ x. refl)
does-event setting (Settle most) s = let g : Settled = settled setting most (alone s) in settled-words setting g.refused g
does-event setting (Rest w method target body) s =
    told-words setting.group w came.Replied _ (answers setting w (call_of method target body) s) (λ x. refl)
does-event setting (Held w) s = refl
does-event setting (MemberOf w) s = ap (λ l. says l s) (member-words setting.group w (member_of w s.group.members))
does-event setting (Take topic from) s = ap (λ l. says l s) (found-words setting.group (taken topic from s.batches))
does-event setting (Compact log) s = told-words setting.group 0 (compacted log) _ (compact log s) (λ x. refl)
