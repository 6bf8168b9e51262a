use Rattle.std.proofs.Common.{◌≡◌, [], length, Result, Ok, Err, sym, ap, subst, ◌∙◌, arith}
use Rattle.std.proofs.lemmas.List.{append-nil}
use Rattle.httparse.specs.declared.Status.{Status}
use Rattle.httparse.specs.declared.Status.TheVariants.{Complete, Partial}
use Rattle.httparse.specs.Grammar.{print_request}
use Rattle.httparse.specs.Outcome.{IsCompleteAnd}
use Rattle.httparse.specs.Spans.{IsRequestAt}
use Rattle.cw_http.proofs.Outlines.{few_fields}
use Rattle.cw_http.proofs.outline.parsed.Goals as goal

no_error : {A E : Type 0} (r : Result (Status A) E) (e : E) (P : A → Type 0) → r ≡ Err e → IsCompleteAnd r P → ⊥
no_error (Ok (Complete a)) e P is p = cc
no_error (Ok Partial) e P is p = p
no_error (Err x) e P is p = p

complete : {A E : Type 0} (r : Result (Status A) E) (s : Status A) (a : A) (P : A → Type 0) → r ≡ Ok s → s ≡ Complete a → IsCompleteAnd r P → P a
complete (Ok (Complete x)) s a P is_ok is_complete p = let e : x ≡ a = cc in subst P e p
complete (Ok Partial) s a P is_ok is_complete p = absurd p
complete (Err x) s a P is_ok is_complete p = absurd p

pub returns-in_default-clause-none : goal.returns-in_default-clause-none
returns-in_default-clause-none c head reads =
    let few = few_fields c.args.head.now head reads in
    let at = complete c.parse_request.result c.in-Ok-Complete.field-0 c.in-Ok-Complete.found
    (λ spans. IsRequestAt c.args.head.now c.parse_request.new.headers spans head) c.in-Ok-Complete.is c.in-Ok-Complete.field-0-is
    (c.parse_request.ensures.found head [] reads (omega (arith, few, c.requires))) in
    c.if-found-head.false (at.len ∙ ap length (sym (append-nil (print_request head))) ∙ ap length (sym reads.1))

pub returns-in_default-3-clause-none : goal.returns-in_default-3-clause-none
returns-in_default-3-clause-none c head reads =
    let few = few_fields c.args.head.now head reads in
    no_error c.parse_request.result c.in_default.field-0 (λ spans. IsRequestAt c.args.head.now c.parse_request.new.headers spans head) c.in_default.is
    (c.parse_request.ensures.found head [] reads (omega (arith, few, c.requires)))
