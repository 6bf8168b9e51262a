use Rattle.std.proofs.Common.{◌≡◌, ◌+◌, ◌∙◌, ℕ, get_or, take, drop, sym, ap, arith}
use Rattle.cw_log.specs.Log.{places_before, places_of}
use Rattle.cw_log.proofs.Opened.{gate_within}
use Rattle.cw_log.proofs.Appended.{body_at}
use Rattle.cw_log.proofs.Starts.{length-places_before}
use Rattle.cw_log.proofs.find.read_one.Goals as goal

pub returns-clause-body : goal.returns-clause-body
returns-clause-body g c file is =
    let frames = c.args.frames.now in
    let begins = (c.requires.known file is).0 in
    let same : places_of c.find.new.frames ≡ places_of frames = ap (λ (n : ℕ). places_before n c.find.new.frames.starts.items) c.find.ensures.keeps.gate ∙ ap (places_before frames.gate) c.find.ensures.keeps.starts in
    let item = c.get-place.ensures (c.in_ok-find.ensures.found file is) ∙ ap (λ l. get_or l c.args.index c.get-place.result) same in
    let place = body_at frames.gate (places_of frames) file c.args.index c.get-place.result begins (omega (arith, c.requires.within, length-places_before frames.gate frames.starts.items)) item in
    let start : c.saturating_add.result ≡ c.get-place.result.at + 5 = omega (arith, c.saturating_add.ensures, place.0, c.requires.high) in
    let within = gate_within frames.gate (places_of frames) file begins in
    c.in_ok-read_ahead.ensures.bytes file (c.find.ensures.reads.same ∙ is) (omega (arith, start, place.0, within.1)) ∙ ap (λ (n : ℕ). take c.get-place.result.length (drop n file)) start ∙ sym place.1
