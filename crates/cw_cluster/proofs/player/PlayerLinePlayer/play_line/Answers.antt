use Rattle.std.proofs.Common.{◌≡◌, ℕ, Option, Some, None, Result, Ok, Err, sym, ap, subst, ◌∙◌}
use Rattle.cw_script.specs.declared.directive.Directive.{Directive}
use Rattle.cw_script.specs.declared.fault.LineKind.{LineKind}
use Rattle.cw_script.specs.declared.fault.ScriptFault.{ScriptFault}
use Rattle.cw_script.specs.declared.fault.ScriptFault.TheVariants.{BadLine, Memory}
use Rattle.cw_script.specs.Faults.{TellsFault}
use Rattle.cw_script.specs.Lines.{line_of}
use Rattle.cw_lines.specs.declared.end.DriveEnd.TheVariants.{BadScript}
use Rattle.cw_cluster.specs.Lined.{PlaysSaid}
use Rattle.cw_cluster.proofs.Lined.{bad-said, passed-said, wanted-said}
use Rattle.cw_cluster.proofs.player.PlayerLinePlayer.play_line.Goals as goal

pub returns-in-Ok-Some : goal.returns-in-Ok-Some
returns-in-Ok-Some g c =
    let p = c.args.self.now in let q = c.play.new.self in
    let said = subst (λ (s : Result (Option Directive) LineKind).
    PlaysSaid g.D.Disk g.U.Outlet c.args.number s p.running.world q.running.world p.running.outlet q.running.outlet p.answers q.answers c.play.result)
    (sym (c.in-Ok-Some.ensures.ok ∙ ap Ok c.in-Ok-Some.field-0-is)) c.play.ensures in
    record { go = said.go; alive = said.alive; stop = said.stop; later = said.later; caused = said.caused }

pub returns-in-Ok-None : goal.returns-in-Ok-None
returns-in-Ok-None g c =
    let p = c.args.self.now in
    let said = subst (λ (s : Result (Option Directive) LineKind).
    PlaysSaid g.D.Disk g.U.Outlet c.args.number s p.running.world p.running.world p.running.outlet p.running.outlet p.answers p.answers (Ok tt))
    (sym (c.in-Ok-None.ensures.ok ∙ ap Ok c.in-Ok-None.field-0-is)) (passed-said g.D.Disk g.U.Outlet c.args.number p.running.world p.running.outlet p.answers c.requires.alive) in
    record { go = said.go; alive = said.alive; stop = said.stop; later = said.later; caused = said.caused }

-- what the fault tells
tells : (number own : ℕ) (said : Result (Option Directive) LineKind) (kind : LineKind) (f : ScriptFault) → f ≡ BadLine own kind → ((f ≡ Memory → ⊥) → TellsFault number said f) →
    (own ≡ number) × (said ≡ Err kind)
tells number own said kind f is bad = subst (TellsFault number said) is (bad (λ e. let other : BadLine own kind ≡ Memory = sym is ∙ e in cc))

pub returns-in-Err-BadLine : goal.returns-in-Err-BadLine
returns-in-Err-BadLine g c =
    let p = c.args.self.now in
    let told = tells c.args.number c.in-Err-BadLine.number (line_of c.args.line.now) c.in-Err-BadLine.kind c.in-Err-BadLine.field-0 c.in-Err-BadLine.field-0-is c.in-Err-BadLine.ensures.bad in
    let said = subst (λ (n : ℕ). PlaysSaid g.D.Disk g.U.Outlet c.args.number (line_of c.args.line.now) p.running.world p.running.world p.running.outlet p.running.outlet p.answers p.answers (Err (BadScript n c.in-Err-BadLine.kind)))
    (sym told.0) (subst (λ (s : Result (Option Directive) LineKind).
    PlaysSaid g.D.Disk g.U.Outlet c.args.number s p.running.world p.running.world p.running.outlet p.running.outlet p.answers p.answers (Err (BadScript c.args.number c.in-Err-BadLine.kind)))
    (sym told.1) (bad-said g.D.Disk g.U.Outlet c.args.number p.running.world p.running.outlet p.answers c.requires.alive c.in-Err-BadLine.kind)) in
    record { go = said.go; alive = said.alive; stop = said.stop; later = said.later; caused = said.caused }

pub returns-in-Err-Memory : goal.returns-in-Err-Memory
returns-in-Err-Memory g c =
    let p = c.args.self.now in
    let said = wanted-said g.D.Disk g.U.Outlet c.args.number p.running.world p.running.outlet p.answers c.requires.alive (line_of c.args.line.now) in
    record { go = said.go; alive = said.alive; stop = said.stop; later = said.later; caused = said.caused }
