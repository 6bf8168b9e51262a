-- How a directive that was made may end its script, where no disk fails: since a log is full, or for want of memory.
use Rattle.std.proofs.Common.{◌≡◌, ℕ, ◌≤◌, List, [], ◌∷◌, length, true, false, Option, Some, None, Result, Ok, Err, map, codes, decimal, refl, sym, ap, subst, ◌∙◌, arith}
use Rattle.cw_types.specs.declared.logs.DiskName.{DiskName}
use Rattle.cw_types.specs.declared.logs.LogName.{LogName}
use Rattle.cw_script.specs.declared.directive.Directive.{Directive}
use Rattle.cw_script.specs.declared.directive.Directive.TheVariants as directive
use Rattle.cw_script.specs.declared.fault.LineKind.{LineKind}
use Rattle.cw_script.specs.Lines.{line_of}
use Rattle.cw_lines.specs.declared.end.DriveEnd.{DriveEnd}
use Rattle.cw_lines.specs.declared.end.DriveEnd.TheVariants as ends
use Rattle.cw_lines.specs.Players.{Playing, Faults, Caused, is_own, is_amid}
use Rattle.cw_lines.specs.Players as players
use Rattle.cw_lines.specs.Players.HasStopped.{ended, left, failed}
use Rattle.cw_lines.specs.Plays.{Played}
use Rattle.cw_lines.proofs.PlayLemmas.{limits_fine}
use Rattle.cw_model.specs.declared.fault.WorldFault.{WorldFault}
use Rattle.cw_model.specs.declared.fault.WorldFault.TheVariants as fault
use Rattle.cw_model.specs.State.{Setting, Cluster}
use Rattle.cw_model.specs.EventsWorkers.{spawn, kill, deaf, hear, expire, clock}
use Rattle.cw_model.specs.EventsRaw.{raw_init, raw_commit}
use Rattle.cw_model.specs.EventsCompaction.{compact}
use Rattle.cw_model.specs.Steps.{step}
use Rattle.cw_model.specs.Tick.{tick}
use Rattle.cw_run.specs.Answers.{refusal, text_of, epoch_words, committed_words, worker_words, tick_words, step_words, compacted_words, reply_words, pair_of}
use Rattle.cw_run.specs.Directives.{does}
use Rattle.cw_run.specs.Ran.{Ran, alone}
use Rattle.cw_edges.specs.Requests.{answers, call_of}
use Rattle.cw_run.specs.Rules.{drive_said}
use Rattle.cw_run.specs.Run.{missing, play_line, play_said, play_unless, played}
use Rattle.cw_run.specs.Settling.{Settled, settled, settled_told}
use Rattle.cw_gen.specs.declared.making.Unfinished.{Unfinished}
use Rattle.cw_gen.specs.declared.making.Unfinished.TheVariants.{Full, Memory}
use Rattle.cw_gen.specs.Playing.{EndsSo, IsSame, IsUnfinished}

-- ---- events

-- an end that an event's refusal may have
abbrev IsEventEnd : DriveEnd → Type 0
IsEventEnd ends.Done = ⊥
IsEventEnd (ends.BadScript line kind) = ⊥
IsEventEnd (ends.TooLong count) = ⊥
IsEventEnd ends.ReadFault = ⊥
IsEventEnd ends.WriteFault = ⊥
IsEventEnd (ends.StoreFault disk count) = Unit {0}
IsEventEnd ends.OutletFault = ⊥
IsEventEnd (ends.Full log length frame) = Unit {0}
IsEventEnd ends.Memory = Unit {0}

refusal-ends : (n : ℕ) (why : WorldFault) (end : DriveEnd) → refusal n why ≡ Err end → IsEventEnd end
refusal-ends n (fault.Fenced own current) end is = absurd (cc)
refusal-ends n (fault.StaleGeneration own current) end is = absurd (cc)
refusal-ends n fault.PendingFence end is = absurd (cc)
refusal-ends n (fault.BadCut from to) end is = absurd (cc)
refusal-ends n (fault.Gone i) end is = absurd (cc)
refusal-ends n (fault.Dead w) end is = absurd (cc)
refusal-ends n (fault.Group cause) end is = absurd (cc)
refusal-ends n fault.TooMany end is = absurd (cc)
refusal-ends n (fault.Full log length frame) end is = let same : ends.Full log length frame ≡ end = cc in subst IsEventEnd same tt
refusal-ends n (fault.StoreFault disk count) end is = let same : ends.StoreFault disk count ≡ end = cc in subst IsEventEnd same tt
refusal-ends n (fault.Closed disk count) end is = let same : ends.StoreFault disk count ≡ end = cc in subst IsEventEnd same tt
refusal-ends n fault.Memory end is = let same : ends.Memory ≡ end = cc in subst IsEventEnd same tt

text-ends : {A : Type 0} (n : ℕ) (r : Result A WorldFault) (words : A → List (List ℕ)) (end : DriveEnd) → text_of n r words ≡ Err end → IsEventEnd end
text-ends n (Ok x) words end is = absurd (cc)
text-ends n (Err why) words end is = refusal-ends n why end is

settled-ends : (setting : Setting) (refused : Option WorldFault) (g : Settled) (end : DriveEnd) → (settled_told setting refused g).0 ≡ Err end → IsEventEnd end
settled-ends setting None g end is = absurd (cc)
settled-ends setting (Some why) g end is = refusal-ends 0 why end is

does-ends : (setting : Setting) (d : Directive) (s : Cluster) (end : DriveEnd) → (does setting d s).0 ≡ Err end → IsEventEnd end
does-ends setting (directive.Init n) s end is = text-ends n (raw_init n s).0 epoch_words end is
does-ends setting (directive.Commit n epoch pairs) s end is = text-ends n (raw_commit n (record { 0 = epoch }) (map pair_of pairs) s).0 committed_words end is
does-ends setting directive.Spawn s end is = text-ends 0 (spawn s).0 (worker_words (codes "worker")) end is
does-ends setting (directive.Kill w) s end is = text-ends w (kill w s).0 (λ _. worker_words (codes "killed") w) end is
does-ends setting (directive.Deaf w) s end is = text-ends w (deaf w s).0 (λ _. worker_words (codes "deaf") w) end is
does-ends setting (directive.Hear w) s end is = text-ends w (hear w s).0 (λ _. worker_words (codes "hears") w) end is
does-ends setting (directive.Expire w) s end is = text-ends w (expire setting w s).0 (λ _. worker_words (codes "expired") w) end is
does-ends setting (directive.Clock to) s end is = text-ends 0 (clock to s).0 (λ now. codes "clock" ∷ decimal now ∷ []) end is
does-ends setting (directive.Tick w) s end is = text-ends w (tick w s).0 (tick_words setting.group w) end is
does-ends setting (directive.Step i) s end is = text-ends i (step setting i s).0 (step_words i) end is
does-ends setting (directive.Settle most) s end is = let g : Settled = settled setting most (alone s) in settled-ends setting g.refused g end is
does-ends setting (directive.Rest w method target body) s end is = text-ends w (answers setting w (call_of method target body) s).0 reply_words end is
does-ends setting (directive.Held w) s end is = absurd (cc)
does-ends setting (directive.Member w) s end is = absurd (cc)
does-ends setting (directive.Take topic from) s end is = absurd (cc)
does-ends setting (directive.Compact log) s end is = text-ends 0 (compact log s).0 (compacted_words log) end is

-- ---- lines

-- a directive that names nobody who never was is played
pub said-is : (setting : Setting) (number : ℕ) (line : List ℕ) (d : Directive) (s : Cluster) → line_of line ≡ Ok (Some d) → missing d s ≡ None →
    play_said setting number (line_of line) s ≡ played (does setting d s).0 (does setting d s).1
said-is setting number line d s says there =
    ap (λ (said : Result (Option Directive) LineKind). play_said setting number said s) says
    ∙ ap (λ (kind : Option LineKind). play_unless setting number kind d s) there

pub whole-line : (setting : Setting) (number : ℕ) (line : List ℕ) (s : Cluster) → number ≤ 1000000 → length line ≤ 65536 →
    play_line setting number line s ≡ play_said setting number (line_of line) s
whole-line setting number line s few short = limits_fine number line s (play_said setting number (line_of line) s) few short

played-stop : {S : Type 0} (r : Result (List ℕ) DriveEnd) (t : S) (end : DriveEnd) → (played r t).stop ≡ Some end → r ≡ Err end
played-stop (Ok text) t end is = absurd (cc)
played-stop (Err own) t end is = let same : own ≡ end = cc in ap (λ (e : DriveEnd). Err e) same

pub played-store : {S : Type 0} (r : Result (List ℕ) DriveEnd) (t : S) → (played r t).store ≡ t
played-store (Ok text) t = refl
played-store (Err end) t = refl

own-unfinished : (end : DriveEnd) → is_own end ≡ true → IsEventEnd end → IsUnfinished end
own-unfinished ends.Done own is = absurd is
own-unfinished (ends.BadScript line kind) own is = absurd is
own-unfinished (ends.TooLong count) own is = absurd is
own-unfinished ends.ReadFault own is = absurd is
own-unfinished ends.WriteFault own is = absurd is
own-unfinished (ends.StoreFault disk count) own is = absurd (cc)
own-unfinished ends.OutletFault own is = absurd is
own-unfinished (ends.Full log length frame) own is = tt
own-unfinished ends.Memory own is = tt

module _ (f g : Faults) (outlet-old : f.outlet ≡ 0) (outlet-new : g.outlet ≡ 0) where
  amid-unfinished : (end : DriveEnd) → is_amid end ≡ true → Caused ⊥ ⊥ f g end → IsUnfinished end
  amid-unfinished ends.Done amid why = absurd (cc)
  amid-unfinished (ends.BadScript line kind) amid why = absurd (cc)
  amid-unfinished (ends.TooLong count) amid why = absurd (cc)
  amid-unfinished ends.ReadFault amid why = absurd why
  amid-unfinished ends.WriteFault amid why = absurd why
  amid-unfinished (ends.StoreFault disk count) amid why = absurd (cc)
  amid-unfinished ends.OutletFault amid why = absurd (omega (arith, why, outlet-old, outlet-new))
  amid-unfinished (ends.Full log length frame) amid why = tt
  amid-unfinished ends.Memory amid why = tt

-- a line that was played from a state in which it names nobody who never was
module _ (setting : Setting) (number : ℕ) (line : List ℕ) (r : Ran) (d : Directive)
    (says : line_of line ≡ Ok (Some d)) (there : missing d r.cluster ≡ None) where
  event-end : (end : DriveEnd) → (drive_said setting number (line_of line) r).stop ≡ Some end → IsEventEnd end
  event-end end stop =
      does-ends setting d r.cluster end (played-stop (does setting d r.cluster).0 (does setting d r.cluster).1 end
      (sym (ap (λ (p : Played Cluster). p.stop) (said-is setting number line d r.cluster says there)) ∙ stop))

  module _ (end : DriveEnd) (amid : Ran → Ran → Type 0) (at : Ran → Type 0) (broken : Ran → List ℕ → Type 0)
      (old : Playing Setting Ran) (text : List ℕ) where
    -- no disk and no outlet failed
    pub stops-unfinished : (f g : Faults) → ((disk : DiskName) → f.disks disk ≡ 0) →
        ((disk : DiskName) → g.disks disk ≡ 0) → f.outlet ≡ 0 → g.outlet ≡ 0 →
        players.HasStopped end amid at broken (drive_said setting number (line_of line) r) old text → Caused ⊥ ⊥ f g end → IsUnfinished end
    stops-unfinished f g disks-old disks-new outlet-old outlet-new (ended h) why = own-unfinished end h.own (event-end end h.stop)
    stops-unfinished f g disks-old disks-new outlet-old outlet-new (left h) why = amid-unfinished f g outlet-old outlet-new end h.because why
    stops-unfinished f g disks-old disks-new outlet-old outlet-new (failed h) why =
        let risen = subst (Caused ⊥ ⊥ f g) h.fault why in
        absurd (omega (arith, risen.rose, disks-old h.disk, disks-new h.disk))

    -- a full log is told by the line itself
    pub stops-full : players.HasStopped end amid at broken (drive_said setting number (line_of line) r) old text →
        (log : LogName) (length frame : ℕ) → end ≡ ends.Full log length frame →
        (play_said setting number (line_of line) r.cluster).stop ≡ Some end
    stops-full (ended h) log length frame is = h.stop
    stops-full (left h) log length frame is = let no : is_amid end ≡ false = ap is_amid is in let yes = h.because in absurd (cc)
    stops-full (failed h) log length frame is = let other = h.fault in absurd (cc)

pub ends-same : (p : Played Cluster) (end : DriveEnd) (why : Unfinished) → IsSame end why →
    ((log : LogName) (length frame : ℕ) → end ≡ ends.Full log length frame → p.stop ≡ Some end) → EndsSo p why
ends-same p end (Full log length frame) is full = full log length frame is ∙ ap (λ (e : DriveEnd). Some e) is
ends-same p end Memory is full = tt
