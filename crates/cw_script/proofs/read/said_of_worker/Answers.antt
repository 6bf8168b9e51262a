use Rattle.std.proofs.Common.{map, codes, rules}
use Rattle.cw_script.specs.declared.directive.Directive.TheVariants.{Kill, Deaf, Hear, Expire, Tick, Held, Member}
use Rattle.cw_script.specs.Table.{number64}
use Rattle.cw_script.proofs.TableLemmas.{made_of_one, found_word}
use Rattle.cw_script.proofs.read.said_of_worker.Goals as goal

pub returns-then-eq : goal.returns-then-eq
returns-then-eq c =
    let is = found_word c.args.word.now c.eq.ensures c.if-eq.true c.as_slice.ensures in
    rw is (made_of_one (codes "kill") number64 Kill (map (λ word. word.now) c.args.args.now) c.only_number.ensures (search rules))

pub returns-then-eq-2 : goal.returns-then-eq-2
returns-then-eq-2 c =
    let is = found_word c.args.word.now c.eq-else-eq.ensures c.if-eq-2.true c.as_slice-else-eq.ensures in
    rw is (made_of_one (codes "deaf") number64 Deaf (map (λ word. word.now) c.args.args.now) c.only_number-then-eq-2.ensures (search rules))

pub returns-then-eq-3 : goal.returns-then-eq-3
returns-then-eq-3 c =
    let is = found_word c.args.word.now c.eq-else-eq-2.ensures c.if-eq-3.true c.as_slice-else-eq-2.ensures in
    rw is (made_of_one (codes "hear") number64 Hear (map (λ word. word.now) c.args.args.now) c.only_number-then-eq-3.ensures (search rules))

pub returns-then-eq-4 : goal.returns-then-eq-4
returns-then-eq-4 c =
    let is = found_word c.args.word.now c.eq-else-eq-3.ensures c.if-eq-4.true c.as_slice-else-eq-3.ensures in
    rw is (made_of_one (codes "expire") number64 Expire (map (λ word. word.now) c.args.args.now) c.only_number-then-eq-4.ensures (search rules))

pub returns-then-eq-5 : goal.returns-then-eq-5
returns-then-eq-5 c =
    let is = found_word c.args.word.now c.eq-else-eq-4.ensures c.if-eq-5.true c.as_slice-else-eq-4.ensures in
    rw is (made_of_one (codes "tick") number64 Tick (map (λ word. word.now) c.args.args.now) c.only_number-then-eq-5.ensures (search rules))

pub returns-then-eq-6 : goal.returns-then-eq-6
returns-then-eq-6 c =
    let is = found_word c.args.word.now c.eq-else-eq-5.ensures c.if-eq-6.true c.as_slice-else-eq-5.ensures in
    rw is (made_of_one (codes "held") number64 Held (map (λ word. word.now) c.args.args.now) c.only_number-then-eq-6.ensures (search rules))

pub returns-then-eq-7 : goal.returns-then-eq-7
returns-then-eq-7 c =
    let is = found_word c.args.word.now c.eq-else-eq-6.ensures c.if-eq-7.true c.as_slice-else-eq-6.ensures in
    rw is (made_of_one (codes "member") number64 Member (map (λ word. word.now) c.args.args.now) c.only_number-then-eq-7.ensures (search rules))
