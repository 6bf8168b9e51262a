use Rattle.std.proofs.Common.{◌≡◌, ◌+◌, ℕ, List, [], ◌∷◌, ◌++◌, refl, ap, ◌∙◌, append_assoc, arith}
use Rattle.std.proofs.lemmas.Result.{err_from_is_err_and}
use Rattle.cw_lines.specs.declared.end.DriveEnd.TheVariants.{TooLong}
use Rattle.cw_lines.specs.Drives.{session_of, stands}
use Rattle.cw_lines.proofs.LineLemmas.{line_ends-ended}
use Rattle.cw_lines.proofs.PlayLemmas.{limits_many, limits_long}
use Rattle.cw_lines.proofs.StepLemmas.{goes_line, ends_whole, ends_limit}
use Rattle.cw_lines.proofs.reading.Reading.play_whole.Goals as goal

first : (pending line more : List ℕ) → pending ≡ [] → pending ++ ((line ++ 10 ∷ []) ++ more) ≡ line ++ 10 ∷ more
first pending line more alone = ap (λ (b : List ℕ). b ++ ((line ++ 10 ∷ []) ++ more)) alone ∙ append_assoc line (10 ∷ []) more

pub returns-then-self-ge-MOST_LINES-clause-stop : goal.returns-then-self-ge-MOST_LINES-clause-stop
returns-then-self-ge-MOST_LINES-clause-stop g c =
    ends_limit g.P.LinePlayer.rules (stands g.P.LinePlayer c.args.player.now) (g.P.LinePlayer.broken c.args.player.now) (TooLong 1000001) (session_of g.P.LinePlayer c.args.player.now c.args.self.now)
    c.args.line.now (c.args.line.now ++ 10 ∷ []) c.requires.whole (record { alive = c.requires.alive; is = refl }) refl
    (λ more. first c.args.self.now.pending.items c.args.line.now more c.requires.alone)
    (λ p. limits_many (c.args.self.now.count + 1) c.args.line.now (g.P.LinePlayer.playing c.args.player.now).state p (omega arith))

pub returns-then-line-gt-MOST_BYTES-clause-stop : goal.returns-then-line-gt-MOST_BYTES-clause-stop
returns-then-line-gt-MOST_BYTES-clause-stop g c =
    ends_limit g.P.LinePlayer.rules (stands g.P.LinePlayer c.args.player.now) (g.P.LinePlayer.broken c.args.player.now) (TooLong 65537) (session_of g.P.LinePlayer c.args.player.now c.args.self.now)
    c.args.line.now (c.args.line.now ++ 10 ∷ []) c.requires.whole (record { alive = c.requires.alive; is = refl }) refl
    (λ more. first c.args.self.now.pending.items c.args.line.now more c.requires.alone)
    (λ p. limits_long (c.args.self.now.count + 1) c.args.line.now (g.P.LinePlayer.playing c.args.player.now).state p (omega arith) (omega arith))

pub returns-in_err-play_line-clause-stop : goal.returns-in_err-play_line-clause-stop
returns-in_err-play_line-clause-stop g c =
    let p = err_from_is_err_and c.from_residual.result c.from_residual.ensures.1 in
    rw (p.1, p.2)
    (ends_whole g.P.LinePlayer.rules (stands g.P.LinePlayer c.play_line.new.self) (g.P.LinePlayer.broken c.play_line.new.self) c.in_err-play_line.field-0.0 (session_of g.P.LinePlayer c.args.player.now c.args.self.now)
    c.args.line.now (c.args.line.now ++ 10 ∷ []) (g.P.LinePlayer.playing c.play_line.new.self).text c.requires.whole (omega arith) (omega arith)
    (line_ends-ended c.args.line.now c.requires.whole) (λ more. first c.args.self.now.pending.items c.args.line.now more c.requires.alone) c.in_err-play_line.ensures.stop)

pub returns-clause-go : goal.returns-clause-go
returns-clause-go g c =
    goes_line g.P.LinePlayer.rules c.args.line.now (c.args.line.now ++ 10 ∷ []) (session_of g.P.LinePlayer c.args.player.now c.args.self.now) _ c.requires.whole (omega arith) (omega arith) refl c.requires.alone
    (line_ends-ended c.args.line.now c.requires.whole) (λ more. first c.args.self.now.pending.items c.args.line.now more c.requires.alone) c.in_ok-play_line.ensures.go
