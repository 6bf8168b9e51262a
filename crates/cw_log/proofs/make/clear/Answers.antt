use Rattle.std.proofs.Common.{◌≡◌, ◌∙◌, List, ℕ, [], ◌∷◌, take, option_map, arith}
use Rattle.std.proofs.lemmas.Result.{IfOk-weaker}
use Rattle.cw_disk.specs.Disk.{written}
use Rattle.cw_log.proofs.Gates.{told_alike}
use Rattle.cw_log.proofs.Made.{first_byte_0, first_written}
use Rattle.cw_log.proofs.make.clear.Goals as goal

pub returns-then-size-gt1-clause-done : goal.returns-then-size-gt1-clause-done
returns-then-size-gt1-clause-done g c =
    IfOk-weaker c.shorten.result (λ _. g.D.Disk.holds c.shorten.new.disk ≡ option_map (λ file. take 1 file) (g.D.Disk.holds c.args.disk.now)) (λ _. g.D.Disk.holds c.shorten.new.disk ≡ option_map (λ file. 0 ∷ []) (g.D.Disk.holds c.args.disk.now))
    (λ _ done. done ∙ told_alike (λ (file : List ℕ). take 1 file) (λ file. 0 ∷ []) (g.D.Disk.holds c.args.disk.now) (λ file is. first_byte_0 file (c.requires.unmade file is) (omega (arith, c.requires.length file is)))) c.shorten.ensures.done

pub returns-clause-done : goal.returns-clause-done
returns-clause-done g c =
    IfOk-weaker c.put.result (λ _. g.D.Disk.holds c.put.new.disk ≡ option_map (λ file. written file 0 (0 ∷ [])) (g.D.Disk.holds c.args.disk.now)) (λ _. g.D.Disk.holds c.put.new.disk ≡ option_map (λ file. 0 ∷ []) (g.D.Disk.holds c.args.disk.now))
    (λ _ done. done ∙ told_alike (λ (file : List ℕ). written file 0 (0 ∷ [])) (λ file. 0 ∷ []) (g.D.Disk.holds c.args.disk.now) (λ file is. first_written file (omega (arith, c.requires.length file is)))) c.put.ensures.done
