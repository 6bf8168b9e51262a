use Rattle.std.proofs.Common.{ℕ, List, Result, Ok, Err, subst}
use Rattle.matchit.specs.Route.{parse_route}
use Rattle.matchit.specs.Router.{InsertsRead}
use Rattle.matchit.specs.declared.error.InsertError.{InsertError}
use Rattle.cw_route.specs.Table.{page_route}
use Rattle.cw_route.proofs.Pages.{page_inserted, refused_for_memory}
use Rattle.cw_route.proofs.page.add.Goals as goal

pub want_of_memory-requires : goal.want_of_memory-requires
want_of_memory-requires c =
    let result : Result (Unit {0}) InsertError = Err c.in-Err.fault in
    let read = subst (λ (text : List ℕ). InsertsRead (parse_route text) c.args.page c.args.router.now c.insert.new.self result) c.pattern.ensures c.in-Err.ensures in
    refused_for_memory (page_route c.args.page).pattern c.args.router.now c.in-Err.fault (page_inserted c.args.page c.args.router.now c.insert.new.self result read).1 c.requires

pub returns-in-Ok : goal.returns-in-Ok
returns-in-Ok c =
    let result : Result (Unit {0}) InsertError = Ok tt in
    let read = subst (λ (text : List ℕ). InsertsRead (parse_route text) c.args.page c.args.router.now c.insert.new.self result) c.pattern.ensures c.in-Ok.ensures in
    (page_inserted c.args.page c.args.router.now c.insert.new.self result read).1
