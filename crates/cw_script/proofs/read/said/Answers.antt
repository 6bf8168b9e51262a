use Rattle.std.proofs.Common.{map, codes, rules}
use Rattle.cw_script.specs.declared.directive.Directive.TheVariants.{Init, Clock, Step, Settle, Compact}
use Rattle.cw_script.specs.Table.{limit, log, number32, number64}
use Rattle.cw_script.proofs.TableLemmas.{made_of_one, found_word}
use Rattle.cw_script.proofs.read.said.Goals as goal

pub returns-then-eq : goal.returns-then-eq
returns-then-eq c =
    let is = found_word c.args.word.now c.eq.ensures c.if-eq.true c.as_slice.ensures in
    rw is (made_of_one (codes "init") number32 Init (map (λ word. word.now) c.args.args.now) c.only_id.ensures (search rules))

pub returns-then-eq-2 : goal.returns-then-eq-2
returns-then-eq-2 c =
    let is = found_word c.args.word.now c.eq-else-eq.ensures c.if-eq-2.true c.as_slice-else-eq.ensures in
    rw is c.commit_of.ensures

pub returns-then-eq-3 : goal.returns-then-eq-3
returns-then-eq-3 c =
    let is = found_word c.args.word.now c.eq-else-eq-2.ensures c.if-eq-3.true c.as_slice-else-eq-2.ensures in
    rw is c.spawn_of.ensures

pub returns-then-eq-4 : goal.returns-then-eq-4
returns-then-eq-4 c =
    let is = found_word c.args.word.now c.eq-else-eq-3.ensures c.if-eq-4.true c.as_slice-else-eq-3.ensures in
    rw is (made_of_one (codes "clock") number64 Clock (map (λ word. word.now) c.args.args.now) c.only_number.ensures (search rules))

pub returns-then-eq-5 : goal.returns-then-eq-5
returns-then-eq-5 c =
    let is = found_word c.args.word.now c.eq-else-eq-4.ensures c.if-eq-5.true c.as_slice-else-eq-4.ensures in
    rw is (made_of_one (codes "step") number64 Step (map (λ word. word.now) c.args.args.now) c.only_number-then-eq-5.ensures (search rules))

pub returns-then-eq-6 : goal.returns-then-eq-6
returns-then-eq-6 c =
    let is = found_word c.args.word.now c.eq-else-eq-5.ensures c.if-eq-6.true c.as_slice-else-eq-5.ensures in
    rw is (made_of_one (codes "settle") limit Settle (map (λ word. word.now) c.args.args.now) c.only_limit.ensures (search rules))

pub returns-then-eq-7 : goal.returns-then-eq-7
returns-then-eq-7 c =
    let is = found_word c.args.word.now c.eq-else-eq-6.ensures c.if-eq-7.true c.as_slice-else-eq-6.ensures in
    rw is c.take_of.ensures

pub returns-then-eq-8 : goal.returns-then-eq-8
returns-then-eq-8 c =
    let is = found_word c.args.word.now c.eq-else-eq-7.ensures c.if-eq-8.true c.as_slice-else-eq-7.ensures in
    rw is (made_of_one (codes "compact") log Compact (map (λ word. word.now) c.args.args.now) c.only_log.ensures (search rules))
