use Rattle.std.proofs.Common.{◌≡◌, ℕ, List, Result, Err, None, vec_len, length, take, sym, subst, arith, rules}
use Rattle.cw_http.specs.declared.request.HttpFault.TheVariants as http
use Rattle.cw_http.specs.Head.{refusal_of_lines}
use Rattle.cw_http.specs.Reading.{refused, ReadsHead}
use Rattle.cw_http.specs.declared.request.Request.{Request}
use Rattle.cw_http.specs.declared.request.HttpFault.{HttpFault}
use Rattle.cw_http.specs.Kept.{IsTold}
use Rattle.cw_http.specs.Outline.{IsOutline}
use Rattle.cw_io.specs.Told.{with_front}
use Rattle.cw_http.proofs.Exits.{on_err, passed_on, ended_on, bad_is}
use Rattle.cw_http.proofs.Moves.{moved_none, moved_then}
use Rattle.cw_http.proofs.Readings.{ended_in_head, long_head, refused_head, ended_in_body, request_taken}
use Rattle.cw_http.proofs.reading.read_request.Goals as goal

pub returns-in_err-length-clause-ended : goal.returns-in_err-length-clause-ended
returns-in_err-length-clause-ended g c same =
    let is = passed_on c.read_head.result c.from_residual.result c.in_err-length.field-0.0 http.Ended c.in_err-length.was c.from_residual.ensures.1 same in
    ended_in_head c.args.kept.now.items c.read_head.new.kept.items (g.L.Link.left c.args.link.now) (g.L.Link.left c.read_head.new.link)
    c.read_head.ensures.moved (c.read_head.ensures.ended is)
    (let size : length c.read_head.new.kept.items ≡ vec_len c.read_head.new.kept = search rules in omega (arith, size, c.read_head.ensures.short is))
    (c.read_head.ensures.at_end is)

pub returns-in_err-length-clause-bad : goal.returns-in_err-length-clause-bad
returns-in_err-length-clause-bad g c code same =
    let is = passed_on c.read_head.result c.from_residual.result c.in_err-length.field-0.0 (http.Bad code) c.in_err-length.was c.from_residual.ensures.1 same in
    subst (λ n. IsTold (refused n) (with_front c.args.kept.now.items (g.L.Link.left c.args.link.now))) (sym (c.read_head.ensures.code code is))
    (long_head c.args.kept.now.items c.read_head.new.kept.items (g.L.Link.left c.args.link.now) (g.L.Link.left c.read_head.new.link)
    c.read_head.ensures.moved (c.read_head.ensures.bad code is)
    (let size : length c.read_head.new.kept.items ≡ vec_len c.read_head.new.kept = search rules in omega (arith, size, c.read_head.ensures.long code is)))

pub returns-in-Err-clause-bad : goal.returns-in-Err-clause-bad
returns-in-Err-clause-bad g c code same =
    let r : Result Request HttpFault = Err (http.Bad c.in-Err.code) in
    subst (λ n. IsTold (refused n) (with_front c.args.kept.now.items (g.L.Link.left c.args.link.now))) (bad_is r c.in-Err.code code (λ i. r) same)
    (refused_head c.args.kept.now.items c.read_head.new.kept.items (g.L.Link.left c.args.link.now) (g.L.Link.left c.read_head.new.link)
    c.in_ok-length.length c.in-Err.code c.read_head.ensures.moved c.in_ok-length.ensures.head
    (let size : length c.read_head.new.kept.items ≡ vec_len c.read_head.new.kept = search rules in omega (arith, size, c.in_ok-length.ensures.within))
    (subst (λ k. (rest : List ℕ) → ReadsHead (take c.in_ok-length.length k) rest (refusal_of_lines (take c.in_ok-length.length k)) (refused c.in-Err.code))
    c.deref.ensures.value c.in-Err.ensures.refused))

pub returns-in_err-read_body-clause-ended : goal.returns-in_err-read_body-clause-ended
returns-in_err-read_body-clause-ended g c same =
    let is = ended_on c.read_body.result c.from_residual-in_err-read_body.result c.in_err-read_body.field-0.0 c.in_err-read_body.was c.from_residual-in_err-read_body.ensures.1 same in
    let size : length c.read_head.new.kept.items ≡ vec_len c.read_head.new.kept = search rules in
    let size_now : length c.read_body.new.kept.items ≡ vec_len c.read_body.new.kept = search rules in
    ended_in_body c.read_head.new.kept.items c.read_body.new.kept.items c.in_ok-length.length c.in-Ok.outline c.in_ok-length.ensures.head
    (omega (arith, size, c.in_ok-length.ensures.within))
    (subst (λ k. refusal_of_lines (take c.in_ok-length.length k) ≡ None) c.deref.ensures.value c.in-Ok.ensures.lines)
    (subst (λ k. IsOutline (take c.in_ok-length.length k) c.in-Ok.outline) c.deref.ensures.value c.in-Ok.ensures.outline)
    c.read_body.ensures.moved.piece c.read_body.ensures.moved.behind
    c.args.kept.now.items (g.L.Link.left c.args.link.now) (g.L.Link.left c.read_body.new.link)
    (moved_then _ _ _ _ _ _ c.read_head.ensures.moved c.read_body.ensures.moved)
    (omega (arith, size_now, c.read_body.ensures.ended is)) (c.read_body.ensures.at_end is)

pub returns-in_err-read_body-clause-kept : goal.returns-in_err-read_body-clause-kept
returns-in_err-read_body-clause-kept g c =
    on_err c.from_residual-in_err-read_body.result (moved_then _ _ _ _ _ _ c.read_head.ensures.moved c.read_body.ensures.moved)

pub returns-in_err-take_request-clause-kept : goal.returns-in_err-take_request-clause-kept
returns-in_err-take_request-clause-kept g c =
    on_err c.from_residual-in_err-take_request.result
    (moved_then _ _ _ _ _ _ (moved_then _ _ _ _ _ _ c.read_head.ensures.moved c.read_body.ensures.moved)
    (moved_none _ _ _ _ c.in_err-take_request.ensures.kept (λ i. g.L.Link.left c.read_body.new.link)))

pub returns-clause-request : goal.returns-clause-request
returns-clause-request g c =
    let size : length c.read_head.new.kept.items ≡ vec_len c.read_head.new.kept = search rules in
    let size_now : length c.read_body.new.kept.items ≡ vec_len c.read_body.new.kept = search rules in
    request_taken c.read_head.new.kept.items c.read_body.new.kept.items c.in_ok-length.length c.in-Ok.outline c.in_ok-length.ensures.head
    (omega (arith, size, c.in_ok-length.ensures.within))
    (subst (λ k. refusal_of_lines (take c.in_ok-length.length k) ≡ None) c.deref.ensures.value c.in-Ok.ensures.lines)
    (subst (λ k. IsOutline (take c.in_ok-length.length k) c.in-Ok.outline) c.deref.ensures.value c.in-Ok.ensures.outline)
    c.read_body.ensures.moved.piece c.read_body.ensures.moved.behind
    c.args.kept.now.items (g.L.Link.left c.args.link.now) (g.L.Link.left c.read_body.new.link) c.take_request.new.kept.items c.in_ok-take_request.field-0
    (moved_then _ _ _ _ _ _ c.read_head.ensures.moved c.read_body.ensures.moved)
    c.in_ok-take_request.ensures.request (omega (arith, size_now, c.in_ok-read_body.ensures.whole)) c.in_ok-take_request.ensures.rest
