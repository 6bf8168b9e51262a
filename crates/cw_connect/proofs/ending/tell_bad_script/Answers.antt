use Rattle.std.proofs.Common.{◌≡◌, ◌∙◌, ◌++◌, ◌∷◌, [], List, ℕ, subst}
use Rattle.std.specs.Prelude.{codes, decimal}
use Rattle.cw_script.specs.Faults.{kind_text}
use Rattle.cw_io.specs.Told.{with_back}
use Rattle.cw_connect.proofs.ending.tell_bad_script.Goals as goal
use Rattle.cw_lines.proofs.SoFar.{writes_then}

pub returns-clause-whole : goal.returns-clause-whole
returns-clause-whole g c =
    let start = g.E.Sink.held c.args.errors.now in
    let one = g.E.Sink.held c.write_all.new.output in
    let two = g.E.Sink.held c.write_all-2.new.output in
    let three = g.E.Sink.held c.write_all-3.new.output in
    let four = g.E.Sink.held c.write_all-4.new.output in
    let five = g.E.Sink.held c.write_all-5.new.output in
    let front = codes "status 2 BadScript " in
    let line = decimal c.args.line in
    let name = kind_text c.args.kind in
    let numbered : two ≡ with_back line one = subst (λ (t : List ℕ). two ≡ with_back t one) (c.as_bytes.ensures.value ∙ c.format.ensures.text) c.in_ok-write_all-2.ensures.whole in
    let named : four ≡ with_back name three = subst (λ (t : List ℕ). four ≡ with_back t three) (c.as_bytes-2.ensures.value ∙ c.name.ensures) c.in_ok-write_all-4.ensures.whole in
    writes_then (front ++ line ++ 32 ∷ [] ++ name) (10 ∷ []) start four five
    (writes_then (front ++ line ++ 32 ∷ []) name start three four
    (writes_then (front ++ line) (32 ∷ []) start two three
    (writes_then front line start one two c.in_ok-write_all.ensures.whole numbered) c.in_ok-write_all-3.ensures.whole) named) c.in_ok-write_all-5.ensures.whole
