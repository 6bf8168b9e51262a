-- A script in the making: the run behind one directive more, and that a script which has ended gets no more of them.
use Rattle.std.proofs.Common.{◌≡◌, ℕ, zero, suc, ◌+◌, ◌-◌, ◌<◌, ◌≤◌, List, [], ◌∷◌, length, Bool, true, false, Option, Some, None, refl, sym, ap, subst, ◌∙◌, arith, add-one, length-append}
use Rattle.cw_disk.specs.declared.device.Disk.{Ghosts}
use Rattle.cw_script.specs.Spelling.{spelled}
use Rattle.cw_lines.specs.declared.end.DriveEnd.{DriveEnd}
use Rattle.cw_lines.specs.declared.end.DriveEnd.TheVariants as ends
use Rattle.cw_lines.specs.Lines.{is_line, lines_of}
use Rattle.cw_lines.specs.Plays.{Played, with_front, play, play_last}
use Rattle.cw_model.specs.Cases.{empty_cluster}
use Rattle.cw_model.specs.State.{Setting, Cluster}
use Rattle.cw_world.specs.World.{WorldState}
use Rattle.cw_cluster.specs.Breaking.{IsAlive, tell_all}
use Rattle.cw_run.specs.Run.{play_line}
use Rattle.cw_gen.specs.declared.making.Unfinished.{Unfinished}
use Rattle.cw_gen.specs.declared.making.Unfinished.TheVariants.{Full, Memory}
use Rattle.cw_gen.specs.Playing.{EndsSo, HasTurned, StandsBehind, StopsSo}
use Rattle.cw_gen.specs.Scripts.{Making, making, next_in, one_if, played_in, run_of, says_fenced, unless_ended, with_due, with_next}
use Rattle.cw_gen.proofs.RunsOn.{AreLines, lines-more, run-more, went-behind}

-- where a script stands in its making, and what is counted of it
pub record IsMaking {D : Type 0} (G : Ghosts D) (setting : Setting) (start count : ℕ) (number fenced : ℕ) (world : WorldState D) (answers : List ℕ) : Type 0
  where
    pub whole : AreLines (making setting start count).lines
    pub counted : length (making setting start count).lines ≡ count
    pub number_is : number ≡ (making setting start count).number
    pub fenced_is : fenced ≡ (making setting start count).fenced
    pub few : fenced ≤ count
    pub stands : StandsBehind G setting (making setting start count).lines world
    pub silent : answers ≡ []

-- before the first
pub making-none : {D : Type 0} (G : Ghosts D) (setting : Setting) (start : ℕ) (world : WorldState D) (answers : List ℕ) → StandsBehind G setting [] world → answers ≡ [] →
    IsMaking G setting start 0 start 0 world answers
unfolding making
making-none G setting start world answers stands silent = record {
  whole = tt;
  counted = refl;
  number_is = refl;
  fenced_is = refl;
  few = omega arith;
  stands = stands;
  silent = silent;
}

-- an empty cluster stands behind no line
pub stands-none : {D : Type 0} (G : Ghosts D) (world : WorldState D) → IsAlive G world → tell_all G world.logs ≡ true → world.state ≡ empty_cluster →
    StandsBehind G world.setting [] world
unfolding play play_last lines_of
stands-none G world alive tells state = record {
  setting_is = refl;
  alive = alive;
  tells = tells;
  goes_on = refl;
  state_is = state;
  crowd = omega arith;
}

module _ (setting : Setting) (start count : ℕ) where
  making-next : making setting start (count + 1) ≡ with_next setting count (making setting start count)
  unfolding making
  making-next = ap (making setting start) (add-one count)

  ended-next : (end : DriveEnd) → (run_of setting (making setting start count).lines).stop ≡ Some end → making setting start (count + 1) ≡ making setting start count
  ended-next end is =
      let made : Making = making setting start count in
      making-next ∙ ap (λ (stop : Option DriveEnd). unless_ended stop made (with_due setting count (run_of setting made.lines).store made)) is

  module _ (goes_on : (run_of setting (making setting start count).lines).stop ≡ None) where
    abbrev made : Making
    made = making setting start count

    abbrev at : Cluster
    at = (run_of setting (making setting start count).lines).store

    went-next : making setting start (count + 1) ≡ with_due setting count at made
    went-next = making-next ∙ ap (λ (stop : Option DriveEnd). unless_ended stop made (with_due setting count at made)) goes_on

    abbrev line : List ℕ
    line = spelled (next_in count at made.number).directive

    run-next : AreLines made.lines → length made.lines ≡ count → is_line line ≡ true →
        run_of setting (making setting start (count + 1)).lines ≡ with_front (run_of setting made.lines).text (played_in setting count at made.number)
    run-next whole counted one =
        ap (λ (m : Making). run_of setting m.lines) went-next
        ∙ run-more (play_line setting) made.lines line empty_cluster whole one
        ∙ went-behind (run_of setting made.lines) (λ after. play_line setting (length made.lines + 1) line after) goes_on
        ∙ ap (λ (n : ℕ). with_front (run_of setting made.lines).text (play_line setting (n + 1) line at)) counted

one-at-most : (b : Bool) → one_if b ≤ 1
one-at-most true = omega arith
one-at-most false = omega arith

pub turned-one : {D : Type 0} (G : Ghosts D) (setting : Setting) (count : ℕ) (s : Cluster) (number after fenced : ℕ) (new : WorldState D) →
    HasTurned G setting count s number after fenced new → fenced ≤ 1
turned-one G setting count s number after fenced new turned =
    omega (arith, turned.fenced_is, one-at-most (says_fenced (next_in count s number).directive (played_in setting count s number).text))

-- ---- one directive more

module _ {D : Type 0} (G : Ghosts D) (setting : Setting) (start count number after fenced one : ℕ) (old new : WorldState D) (before answers : List ℕ) where
  pub making-on : IsMaking G setting start count number fenced old before → HasTurned G setting count old.state number after one new → answers ≡ [] →
      IsMaking G setting start (count + 1) after (fenced + one) new answers
  making-on so turned-there silent =
      let m : Making = making setting start count in
      let s : Cluster = (run_of setting m.lines).store in
      let here : HasTurned G setting count s number after one new = subst (λ (t : Cluster). HasTurned G setting count t number after one new) so.stands.state_is turned-there in
      let turned : HasTurned G setting count s m.number after one new = subst (λ (n : ℕ). HasTurned G setting count s n after one new) so.number_is here in
      let next = went-next setting start count so.stands.goes_on in
      let run = run-next setting start count so.stands.goes_on so.whole so.counted turned.line in
      let longer : length (making setting start (count + 1)).lines ≡ count + 1 =
      ap (λ (n : Making). length n.lines) next ∙ length-append m.lines (spelled (next_in count s m.number).directive ∷ []) ∙ omega (arith, so.counted) in
      record {
        whole = subst (λ (n : Making). AreLines n.lines) (sym next) (lines-more m.lines (spelled (next_in count s m.number).directive) so.whole turned.line);
        counted = longer;
        number_is = turned.number_is ∙ sym (ap (λ (n : Making). n.number) next);
        fenced_is = ap (λ (n : ℕ). n + one) so.fenced_is ∙ ap (λ (n : ℕ). m.fenced + n) turned.fenced_is ∙ sym (ap (λ (n : Making). n.fenced) next);
        few = omega (arith, so.few, one-at-most (says_fenced (next_in count s m.number).directive (played_in setting count s m.number).text), turned.fenced_is);
        stands = record {
          setting_is = turned.setting_is;
          alive = turned.alive;
          tells = turned.tells;
          goes_on = ap (λ (p : Played Cluster). p.stop) run ∙ turned.goes_on;
          state_is = turned.state_is ∙ sym (ap (λ (p : Played Cluster). p.store) run);
          crowd = omega (arith, turned.crowd, longer);
        };
        silent = silent;
      }

  -- or it ended the script
  module _ (so : IsMaking G setting start count number fenced old before) where
    stopped-there : (why : Unfinished) → StopsSo setting count old.state number why → EndsSo (run_of setting (making setting start (count + 1)).lines) why
    stopped-there (Full log length frame) stops-there =
        let m : Making = making setting start count in
        let s : Cluster = (run_of setting m.lines).store in
        let here : StopsSo setting count s number (Full log length frame) = subst (λ (t : Cluster). StopsSo setting count t number (Full log length frame)) so.stands.state_is stops-there in
        let stops : StopsSo setting count s m.number (Full log length frame) = subst (λ (n : ℕ). StopsSo setting count s n (Full log length frame)) so.number_is here in
        ap (λ (p : Played Cluster). p.stop) (run-next setting start count so.stands.goes_on so.whole so.counted stops.0) ∙ stops.1
    stopped-there Memory stops = tt

-- a script that has ended gets no more directives
stays : (setting : Setting) (start count more : ℕ) (end : DriveEnd) → (run_of setting (making setting start count).lines).stop ≡ Some end →
    making setting start (count + more) ≡ making setting start count
stays setting start count zero end is = ap (making setting start) (omega arith)
stays setting start count (suc more) end is =
    let before : making setting start (count + more) ≡ making setting start count = stays setting start count more end is in
    let still : (run_of setting (making setting start (count + more)).lines).stop ≡ Some end = ap (λ (m : Making). (run_of setting m.lines).stop) before ∙ is in
    let later : count + suc more ≡ count + more + 1 = omega arith in
    ap (making setting start) later ∙ ended-next setting start (count + more) end still ∙ before

pub ends-all : {D : Type 0} (G : Ghosts D) (setting : Setting) (start count all number fenced : ℕ) (old : WorldState D) (before : List ℕ) →
    IsMaking G setting start count number fenced old before → count < all → (why : Unfinished) → StopsSo setting count old.state number why →
    EndsSo (run_of setting (making setting start all).lines) why
ends-all G setting start count all number fenced old before so below (Full log length frame) stops =
    let there : (run_of setting (making setting start (count + 1)).lines).stop ≡ Some (ends.Full log length frame) =
    stopped-there G setting start count number 0 fenced 0 old old before before so (Full log length frame) stops in
    let whole : count + 1 + (all - (count + 1)) ≡ all = omega (arith, below) in
    let same : making setting start all ≡ making setting start (count + 1) = ap (making setting start) (sym whole) ∙ stays setting start (count + 1) (all - (count + 1)) (ends.Full log length frame) there in
    ap (λ (m : Making). (run_of setting m.lines).stop) same ∙ there
ends-all G setting start count all number fenced old before so below Memory stops = tt
