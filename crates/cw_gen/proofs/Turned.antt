-- A directive more: what is due in a cluster is played there.
use Rattle.std.proofs.Common.{◌≡◌, ℕ, ◌+◌, ◌<◌, ◌≤◌, ◌^◌, List, [], ◌∷◌, ◌++◌, length, min, nat_lt, Bool, true, false, Option, Some, None, Ok, Err, if◌then◌else◌, refl, sym, ap, subst, ◌∙◌, arith, length-append}
use Rattle.std.specs.Prelude.{Result, IfOk, IfErr}
use Rattle.std.proofs.lemmas.Bool.Decides.{nat_tests}
use Rattle.cw_types.specs.declared.logs.DiskName.{DiskName}
use Rattle.cw_disk.specs.declared.device.Disk.{Ghosts}
use Rattle.cw_io.specs.declared.outlet.Outlet as outlet
use Rattle.cw_script.specs.declared.directive.Directive.{Directive}
use Rattle.cw_script.specs.Lines.{line_of}
use Rattle.cw_script.specs.Spelling.{IsSayable, spelled}
use Rattle.cw_lines.specs.Lines.{is_line}
use Rattle.cw_lines.specs.Players as players
use Rattle.cw_lines.specs.Plays.{Played}
use Rattle.cw_model.specs.declared.fault.WorldFault.TheVariants.{TooMany}
use Rattle.cw_model.specs.Answers.{unless_closed}
use Rattle.cw_model.specs.EventsWorkers.{spawn}
use Rattle.cw_model.specs.Lookups.{new_row}
use Rattle.cw_model.specs.State.{Setting, Cluster}
use Rattle.cw_world.specs.World.{WorldState}
use Rattle.cw_cluster.specs.Breaking.{IsAlive, ran_of, tell_all}
use Rattle.cw_cluster.specs.Lined.{playing_of}
use Rattle.cw_run.specs.Directives.{does}
use Rattle.cw_run.specs.Ran.{Ran}
use Rattle.cw_run.specs.Reaches.{Reaches}
use Rattle.cw_run.specs.Rules.{drive_said}
use Rattle.cw_run.specs.Run.{play_line, play_said}
use Rattle.cw_gen.specs.Directives.{Due, due}
use Rattle.cw_gen.specs.Playing.{EndsSo, HasPlayed, HasTurned, IsPlayable, StopsSo}
use Rattle.cw_gen.specs.Scripts.{next_in, one_if, played_in, says_fenced}
use Rattle.cw_gen.specs.declared.making.Unfinished.{Unfinished}
use Rattle.cw_gen.specs.declared.making.Unfinished.TheVariants.{Full, Memory}
use Rattle.cw_gen.proofs.Crowds.{Crowd, run-crowd}
use Rattle.cw_gen.proofs.Ends.{played-store, said-is, whole-line}
use Rattle.cw_gen.proofs.Spelled.{due-plays, due-spawns}

-- ---- what a line did

pub played-so : {D U : Type 0} (G : Ghosts D) (O : outlet.Ghosts U) (old new : WorldState D) (out_old out_new : U) (before after : List ℕ) (number : ℕ) (line : List ℕ) →
    number ≤ 1000000 → length line ≤ 65536 → before ≡ [] →
    players.HasPlayed (drive_said old.setting number (line_of line) (ran_of G O old out_old)) (playing_of G O old out_old before) (playing_of G O new out_new after) →
    IsAlive G new → HasPlayed G (play_line old.setting number line old.state) old new after
played-so G O old new out_old out_new before after number line few short silent go alive =
    let whole = whole-line old.setting number line old.state few short in
    record {
      goes_on = ap (λ (p : Played Cluster). p.stop) whole ∙ go.goes_on;
      state_is = ap (λ (r : Ran). r.cluster) go.state ∙ sym (ap (λ (p : Played Cluster). p.store) whole);
      text = go.text ∙ ap (λ (t : List ℕ). t ++ (play_said old.setting number (line_of line) old.state).text) silent ∙ sym (ap (λ (p : Played Cluster). p.text) whole);
      setting = go.setting;
      alive = alive;
      tells = ap (λ (r : Ran). r.tells) go.state;
    }

-- and forgetting its answer changes nothing of that
pub forgotten-so : {D : Type 0} (G : Ghosts D) (p : Played Cluster) (old mid new : WorldState D) (answers : List ℕ) → HasPlayed G p old mid answers →
    new.setting ≡ mid.setting → new.state ≡ mid.state → tell_all G new.logs ≡ tell_all G mid.logs → IsAlive G new → HasPlayed G p old new answers
forgotten-so G p old mid new answers played same state told lives = record {
  goes_on = played.goes_on;
  state_is = state ∙ played.state_is;
  text = played.text;
  setting = same ∙ played.setting;
  alive = lives;
  tells = told ∙ played.tells;
}

-- ---- what is due

pub is-playable : (s : Cluster) (made instances moment x : ℕ) (d : Directive) (y : ℕ) → instances ≡ length s.instances → moment ≡ s.moment → instances < 2 ^ 64 →
    due made instances moment x ≡ record { directive = d; number = y } → min made 3 ≤ length s.rows → IsPlayable d s
is-playable s made instances moment x d y instances-are moment-is fit due-is crowd =
    let next : next_in made s x ≡ record { directive = d; number = y } =
    ap (λ (n : ℕ). due made n s.moment x) (sym instances-are) ∙ ap (λ (n : ℕ). due made instances n x) (sym moment-is) ∙ due-is in
    subst (λ (n : Due). IsPlayable n.directive s) next (due-plays s s.moment (omega (arith, fit, instances-are)) made x crowd)

-- ---- three workers

spawned : (made : ℕ) (s : Cluster) → s.closed ≡ None → min made 3 ≤ length s.rows → min (made + 1) 3 ≤ length (spawn s).1.rows
spawned made s alive crowd = at s.closed alive (nat_lt (length s.rows) 64) refl where
  at : (closed : Option (DiskName × ℕ)) → closed ≡ None → (b : Bool) → nat_lt (length s.rows) 64 ≡ b →
      min (made + 1) 3 ≤ length (unless_closed {A = ℕ} closed (if b then (Ok (length s.rows), record s { rows = s.rows ++ new_row ∷ [] }) else (Err TooMany, s)) s).1.rows
  at (Some fault) is b test = absurd (cc)
  at None is true test = omega (arith, crowd, length-append s.rows (new_row ∷ []))
  at None is false test = let many : 64 ≤ length s.rows = grind (arith, nat_tests) in omega (arith, many)

-- the first three directives make a worker each, and no other takes one away
pub crowd-next : (setting : Setting) (s : Cluster) (made x : ℕ) → s.closed ≡ None → made < 1000000 → IsPlayable (next_in made s x).directive s →
    ((d : Directive) → IsSayable d → line_of (spelled d) ≡ Ok (Some d)) → min made 3 ≤ length s.rows →
    Reaches setting s (played_in setting made s x).store → min (made + 1) 3 ≤ length (played_in setting made s x).store.rows
crowd-next setting s made x alive few plays again crowd reaches = at (nat_lt made 3) refl where
  d : Directive
  d = (next_in made s x).directive

  at : (b : Bool) → nat_lt made 3 ≡ b → min (made + 1) 3 ≤ length (played_in setting made s x).store.rows
  at true is =
      let first : made < 3 = grind (arith, nat_tests) in
      let store-is : (played_in setting made s x).store ≡ (spawn s).1 =
      ap (λ (p : Played Cluster). p.store) (whole-line setting (made + 1) (spelled d) s (omega (arith, few)) plays.short ∙ said-is setting (made + 1) (spelled d) d s (again d plays.sayable) plays.there)
      ∙ played-store (does setting d s).0 (does setting d s).1 ∙ ap (λ (e : Directive). (does setting e s).1) (due-spawns made (length s.instances) s.moment x first) in
      subst (λ (t : Cluster). min (made + 1) 3 ≤ length t.rows) (sym store-is) (spawned made s alive crowd)
  at false is =
      let more : 3 ≤ made = grind (arith, nat_tests) in
      let grown : Crowd s (played_in setting made s x).store = subst (λ (t : Cluster). Crowd s t) reaches.ends (run-crowd setting s reaches.steps) in
      omega (arith, crowd, more, grown.workers)

-- ---- a directive more

-- The directive that was due was played, and its answer forgotten.
module _ (setting : Setting) (made x y : ℕ) (d : Directive) (line : List ℕ) (s : Cluster) (due-is : next_in made s x ≡ record { directive = d; number = y })
    (line-is : line ≡ spelled d) where
  next-is : (next_in made s x).directive ≡ d
  next-is = ap (λ (n : Due). n.directive) due-is

  played-there : played_in setting made s x ≡ play_line setting (made + 1) line s
  played-there = ap (λ (e : Directive). play_line setting (made + 1) (spelled e) s) next-is ∙ ap (λ (l : List ℕ). play_line setting (made + 1) l s) (sym line-is)

  turned-so : {D : Type 0} (G : Ghosts D) (fenced : ℕ) (answers : List ℕ) (old new : WorldState D) → IsPlayable d s → tell_all G old.logs ≡ true →
      old.setting ≡ setting → min (made + 1) 3 ≤ length (played_in setting made s x).store.rows → HasPlayed G (play_line setting (made + 1) line s) old new answers →
      fenced ≡ one_if (says_fenced d answers) → HasTurned G setting made s x y fenced new
  turned-so G fenced answers old new plays tells own crowd played counted =
      let p : Played Cluster = play_line setting (made + 1) line s in
      let state-is : new.state ≡ (played_in setting made s x).store = played.state_is ∙ sym (ap (λ (q : Played Cluster). q.store) played-there) in
      record {
        number_is = sym (ap (λ (n : Due). n.number) due-is);
        line = ap (λ (e : Directive). is_line (spelled e)) next-is ∙ plays.line;
        goes_on = ap (λ (q : Played Cluster). q.stop) played-there ∙ played.goes_on;
        state_is = state-is;
        fenced_is = counted ∙ ap (λ (t : List ℕ). one_if (says_fenced d t)) played.text ∙ sym (ap (λ (e : Directive). one_if (says_fenced e p.text)) next-is)
            ∙ sym (ap (λ (q : Played Cluster). one_if (says_fenced (next_in made s x).directive q.text)) played-there);
        setting_is = played.setting ∙ own;
        alive = played.alive;
        tells = played.tells ∙ tells;
        crowd = subst (λ (t : Cluster). min (made + 1) 3 ≤ length t.rows) (sym state-is) crowd;
      }

  pub if-turned : {D : Type 0} (G : Ghosts D) (result : Result ℕ Unfinished) (old new : WorldState D) → IsPlayable d s → tell_all G old.logs ≡ true →
      old.setting ≡ setting → min (made + 1) 3 ≤ length (played_in setting made s x).store.rows →
      IfOk result (λ fenced. (answers : List ℕ) × HasPlayed G (play_line setting (made + 1) line s) old new answers × (fenced ≡ one_if (says_fenced d answers))) →
      IfOk result (λ fenced. HasTurned G setting made s x y fenced new)
  if-turned G (Ok fenced) old new plays tells own crowd did = turned-so G fenced did.0 old new plays tells own crowd did.1 did.2
  if-turned G (Err why) old new plays tells own crowd did = tt

  -- Or it ended the script.
  stops-there : (why : Unfinished) → IsPlayable d s → EndsSo (play_line setting (made + 1) line s) why → StopsSo setting made s x why
  stops-there (Full log length frame) plays stop =
      (ap (λ (e : Directive). is_line (spelled e)) next-is ∙ plays.line, ap (λ (q : Played Cluster). q.stop) played-there ∙ stop)
  stops-there Memory plays stop = tt

  pub if-stops : (result : Result ℕ Unfinished) → IsPlayable d s → IfErr result (EndsSo (play_line setting (made + 1) line s)) →
      IfErr result (StopsSo setting made s x)
  if-stops (Ok fenced) plays stop = tt
  if-stops (Err why) plays stop = stops-there why plays stop
