-- The directive that a cluster settles is played, where it settled over the world and the outlet, and it is said how.
use Rattle.std.proofs.Common.{◌≡◌, ◌⊎◌, inl, inr, ⊎_elim, ℕ, zero, suc, ◌==◌, ◌&&◌, ◌≤◌, ◌++◌, Bool, true, false, List, [], ◌∷◌, Option, Some, None, is_some, is_none, nat_lt, length, Result, Ok, Err, IfErr, MatchResult, if◌then◌else◌, refl, sym, ap, ◌∙◌, subst, arith, append-nil}
use Rattle.std.specs.List.{fold, range_with_len}
use Rattle.cw_types.specs.Faults.{Rose}
use Rattle.cw_types.specs.declared.logs.DiskName.{DiskName}
use Rattle.cw_disk.specs.declared.device.Disk.{Ghosts}
use Rattle.cw_io.specs.declared.outlet.Outlet as outlet
use Rattle.cw_script.specs.declared.directive.Directive.TheVariants.{Settle}
use Rattle.cw_model.specs.declared.fault.WorldFault.{WorldFault}
use Rattle.cw_model.specs.State.{Setting, Cluster}
use Rattle.cw_model.specs.Lookups.{row_of}
use Rattle.cw_world.specs.World.{WorldState}
use Rattle.cw_lines.specs.declared.end.DriveEnd.{DriveEnd}
use Rattle.cw_lines.specs.declared.end.DriveEnd.TheVariants as ends
use Rattle.cw_lines.specs.Players.{NoneFell, is_own}
use Rattle.cw_lines.specs.Plays.{Played}
use Rattle.cw_run.specs.Amid.{IsHalfSettled, ran_behind}
use Rattle.cw_run.specs.Answers.{Told, refusal, text_of}
use Rattle.cw_run.specs.Ran.{Ran, RanAnswer, alone, ran_tick, ran_step}
use Rattle.cw_run.specs.Run.{played}
use Rattle.cw_run.specs.Settling.{Settled, tick_moves, step_moves, behind_turn, takes, ticks, may_step, steps, all_tick, round, rounds, settled, settled_told, settles}
use Rattle.cw_run.proofs.Alone.{settled_alone, settles-alone, settles-behind}
use Rattle.cw_run.proofs.Living.{IsOwnAnswer, IsOwnFault, Lives, tick-lives, step-lives}
use Rattle.cw_cluster.specs.declared.turn.TurnFault.{TurnFault}
use Rattle.cw_cluster.specs.declared.turn.TurnFault.TheVariants.{Refused, Memory, Store, Outlet}
use Rattle.cw_cluster.specs.Breaking.{IsAlive, IsBrokenIn, ran_of}
use Rattle.cw_cluster.specs.Broken.{IsBrokenAt}
use Rattle.cw_cluster.specs.Driven.{faults_of}
use Rattle.cw_cluster.specs.Lined.{PlaysOver, SaysSettled, moved_text}
use Rattle.cw_cluster.specs.Playing.{HasPlayed, HasStopped, IsLeftAmid, ran_played}
use Rattle.cw_cluster.specs.Playing.HasStopped.{left, failed}
use Rattle.cw_cluster.specs.Saying.{Says}
use Rattle.cw_cluster.specs.Turning.{HasSettled, IsRefused, Settles, TurnCaused, UnlessBroken}
use Rattle.cw_cluster.proofs.Lined.{fails-on}
use Rattle.cw_cluster.proofs.Played.{own-text, said-played}
use Rattle.cw_cluster.proofs.StepPlayed.{not-outlet}

-- ---- no disk has failed, and what refuses is an event's own fault

abbrev IsOwnRefusal : Option WorldFault → Type 0
IsOwnRefusal None = Unit {0}
IsOwnRefusal (Some why) = IsOwnFault why

record Goes (g : Settled) : Type 0 where
  pub unclosed : g.ran.cluster.closed ≡ None
  pub own : IsOwnRefusal g.refused

module _ (setting : Setting) (most : ℕ) where
  takes-goes : {A : Type 0} (there : Bool) (moves : A → Bool) (turn : RanAnswer A) (g : Settled) → (turn.1.cluster.closed ≡ None) → IsOwnAnswer turn.0 → Goes g → Goes (takes most there moves turn g)
  takes-goes {A} there moves turn g unclosed own now = either (there && (nat_lt g.moved most && is_none g.refused)) where
    behind : (r : Result A WorldFault) → IsOwnAnswer r → Goes (behind_turn moves r turn.1 g)
    behind (Ok x) its = record { unclosed = unclosed; own = tt }
    behind (Err why) its = record { unclosed = unclosed; own = its }

    either : (b : Bool) → Goes (if b then behind_turn moves turn.0 turn.1 g else g)
    either true = behind turn.0 own
    either false = now

  ticks-go : (g : Settled) (w : ℕ) → Goes g → Goes (ticks most g w)
  ticks-go g w now = let lives = tick-lives g.ran.cluster now.unclosed w in
      takes-goes (row_of w g.ran.cluster).live tick_moves (ran_tick w g.ran) g lives.unclosed lives.own now

  steps-go : (g : Settled) (i : ℕ) → Goes g → Goes (steps setting most g i)
  steps-go g i now = let lives = step-lives setting i g.ran.cluster now.unclosed in
      takes-goes (may_step i g.ran.cluster) step_moves (ran_step setting i g.ran) g lives.unclosed lives.own now

  fold-goes : (turn : Settled → ℕ → Settled) → ((g : Settled) (x : ℕ) → Goes g → Goes (turn g x)) → (xs : List ℕ) (g : Settled) → Goes g → Goes (fold turn g xs)
  fold-goes turn each [] g now = now
  fold-goes turn each (x ∷ xs) g now = fold-goes turn each xs (turn g x) (each g x now)

  round-goes : (g : Settled) → Goes g → Goes (round setting most g)
  round-goes g now =
      let ticked : Settled = all_tick most g in
      fold-goes (steps setting most) steps-go (range_with_len 0 (length ticked.ran.cluster.instances)) ticked
      (fold-goes (ticks most) ticks-go (range_with_len 0 (length g.ran.cluster.rows)) g now)

  rounds-go : (count : ℕ) (g : Settled) → Goes g → Goes (rounds setting most count g)
  unfolding rounds
  rounds-go zero g now = now
  rounds-go (suc count) g now = either ((round setting most g).moved == g.moved) (rounds-go count (round setting most g) (round-goes g now)) where
    either : (b : Bool) → Goes (rounds setting most count (round setting most g)) → Goes (if b then round setting most g else rounds setting most count (round setting most g))
    either true later = round-goes g now
    either false later = later

  settles-own : (r : Ran) (why : WorldFault) → r.cluster.closed ≡ None → (settled setting most r).refused ≡ Some why → IsOwnFault why
  settles-own r why unclosed is = subst IsOwnRefusal is (rounds-go most (record { moved = 0; refused = None; ran = r }) (record { unclosed = unclosed; own = tt })).own

  -- ---- how it is told

  refused-alone : (r : Ran) → (settled setting most r).refused ≡ (settled setting most (alone r.cluster)).refused
  refused-alone r = ap (λ (g : Settled). g.refused) (settles-alone setting most r)

  told-refused : (r : Ran) (why : WorldFault) → (settled setting most r).refused ≡ Some why → (settles setting most r.cluster).0 ≡ refusal 0 why
  told-refused r why is =
      ap (λ (o : Option WorldFault). (settled_told setting o (settled setting most (alone r.cluster))).0) (sym (refused-alone r) ∙ is)

  told-moved : (r t : Ran) (moved : ℕ) → HasSettled setting most r t moved → (settles setting most r.cluster).0 ≡ Ok (moved_text setting moved t.cluster)
  told-moved r t moved has =
      ap (λ (o : Option WorldFault). (settled_told setting o (settled setting most (alone r.cluster))).0) (sym (refused-alone r) ∙ has.refused)
      ∙ ap (λ (g : Settled). (settled_told setting None g).0) (sym (settles-alone setting most r))
      ∙ ap (λ (n : ℕ). Ok (moved_text setting n (settled setting most r).ran.cluster)) (sym has.count)
      ∙ ap (λ (x : Ran). Ok (moved_text setting moved x.cluster)) (sym has.ran)

  -- what was played
  abbrev due : Ran → Played Ran
  due r = ran_played setting (Settle most) r

  played-as : (r t : Ran) (text : Result (List ℕ) DriveEnd) → (settles setting most r.cluster).0 ≡ text → t ≡ (settled setting most r).ran → played text t ≡ due r
  played-as r t text told is =
      ap (λ (x : Result (List ℕ) DriveEnd). played x t) (sym told) ∙ ap (played (settles setting most r.cluster).0) (is ∙ settles-behind setting most r)

-- ---- it is played

module _ {D U : Type 0} (G : Ghosts D) (O : outlet.Ghosts U) (most : ℕ) (old new : WorldState D) (out_old out_new : U) (before after : List ℕ) (alive : IsAlive G old)
    (same : new.setting ≡ old.setting) (told : is_some (O.files out_new) ≡ is_some (O.files out_old)) (later : NoneFell (faults_of G O old out_old) (faults_of G O new out_new)) where
  abbrev r : Ran
  r = ran_of G O old out_old

  abbrev t : Ran
  t = ran_of G O new out_new

  abbrev amid : Ran → Type 0
  amid = IsLeftAmid old.setting (Settle most) r

  abbrev broken : List ℕ → Type 0
  broken = IsBrokenIn G O old.setting (Settle most) r new out_new

  abbrev ComesTo : Played Ran → Result (Unit {0}) DriveEnd → Type 0
  ComesTo p result = MatchResult result (λ done. HasPlayed p before after t × IsAlive G new) (HasStopped G p amid broken old new before after t)

  abbrev Plays : Result (Unit {0}) DriveEnd → Type 0
  Plays result = PlaysOver G O (Settle most) old new out_old out_new before after result

  over : (result : Result (Unit {0}) DriveEnd) → ComesTo (due old.setting most r) result → (result ≡ Err ends.OutletFault → Rose (O.faults out_old) (O.faults out_new)) → Plays result
  over result outcome rose = record { outcome = outcome; setting = same; told = told; later = later; rose = rose }

  half : IsHalfSettled old.setting most r t → amid t
  half is = inr (inl is)

  text-end : (text : List ℕ) (end : DriveEnd) → Ok text ≡ Err end → is_own end ≡ true
  text-end text end is = absurd (cc)

  text-not : (text : List ℕ) (result : Result (Unit {0}) DriveEnd) → Says (Ok text) before after result → result ≡ Err ends.OutletFault → ⊥
  text-not text (Ok _) says is = cc
  text-not text (Err end) says is = let why = says.why in cc

  -- by how it settled
  pub settled-over : (done : Result ℕ TurnFault) (result : Result (Unit {0}) DriveEnd) →
      Settles (λ at next. IsBrokenAt G at next new (O.files out_new)) old.setting most r t done → UnlessBroken (IsAlive G new) done →
      IfErr done (TurnCaused (faults_of G O old out_old) (faults_of G O new out_new)) → SaysSettled new.setting new.state done before after result → Plays result
  settled-over (Ok moved) result has lives caused says =
      let said : Says (Ok (moved_text old.setting moved t.cluster)) before after result = subst (λ (s : Setting). Says (Ok (moved_text s moved t.cluster)) before after result) same says in
      over result
      (subst (λ (p : Played Ran). ComesTo p result) (played-as old.setting most r t (Ok (moved_text old.setting moved t.cluster)) (told-moved old.setting most r t moved has) has.ran)
      (said-played G amid broken old new before after t (Ok (moved_text old.setting moved t.cluster)) result (text-end (moved_text old.setting moved t.cluster))
      (half (record { moved = most; fewer = omega arith; is = has.ran })) lives said))
      (λ is. absurd (text-not (moved_text old.setting moved t.cluster) result said is))
  settled-over (Err (Refused why)) result stops lives caused says =
      let ran : t ≡ (settled old.setting most r).ran = sym stops.ran in
      over result
      (subst (λ (p : Played Ran). ComesTo p result) (played-as old.setting most r t (refusal 0 why) (told-refused old.setting most r why stops.refused) ran)
      (said-played G amid broken old new before after t (refusal 0 why) result
      (λ end due_is. own-text {A = Unit {0}} 0 (Err why) (λ x. []) end (settles-own old.setting most r why alive.alive stops.refused) due_is)
      (half (record { moved = most; fewer = omega arith; is = ran })) lives says))
      (λ is. absurd (not-outlet 0 (Err why) (λ x. []) before after result says is))
  settled-over (Err Memory) result stops lives caused says =
      subst Plays (sym says.1) (over (Err ends.Memory) (left (record { because = refl; is_amid = half stops; text = says.0; lives = lives })) (λ is. absurd (cc)))
  settled-over (Err (Store disk count)) result stops lives caused says =
      let fails = fails-on G old.logs new.logs disk count caused in
      let at = stops.left in
      subst Plays (sym says.1) (over (Err (ends.StoreFault disk count)) (failed (record {
        log = fails.0;
        disk = disk;
        count = count;
        fault = refl;
        fails = fails.1;
        said = [];
        text = says.0 ∙ sym (append-nil before);
        left = record {
          at = stops.at;
          next = stops.next;
          log = at.log;
          in_flight = (stops.came, stops.turn);
          apart = at.apart;
          left = at.left;
          others = at.others;
          kinds = at.kinds;
          tells = at.tells;
          same = at.same;
          last = refl;
        };
      })) (λ is. absurd (cc)))
  settled-over (Err Outlet) result stops lives caused says =
      subst Plays (sym says.1) (over (Err ends.OutletFault) (left (record { because = refl; is_amid = inr (inr stops); text = says.0; lives = lives })) (λ is. caused))
