use Rattle.std.proofs.Common.{◌≡◌, ◌<◌, ◌∷◌, [], ◌++◌, List, length, sym, ◌∙◌, ap, subst, arith}
use Rattle.std.proofs.lemmas.Bool.Decides.{nat_tests}
use Rattle.cw_types.specs.declared.ids.Tid.TheVariants.{Lead}
use Rattle.cw_rest.specs.Operations.{bumps_of, offset_entries}
use Rattle.cw_txn.specs.Body.{AreShort}
use Rattle.cw_txn.specs.declared.entry.Entry.{Entry}
use Rattle.cw_txn.specs.declared.entry.Entry.TheVariants.{Set}
use Rattle.cw_txn.specs.declared.entry.SetOffset.{SetOffset}
use Rattle.cw_rows.proofs.Bumps.{offsets-short}
use Rattle.cw_rows.proofs.leading.offset_entries.Goals as goal

pub returns-clause-short : goal.returns-clause-short
returns-clause-short c =
    let not_most = c.if-fenced-eq4294967295.false in
    let fits = c.ranges.fenced.fits in
    let not_long = c.if-list.false in
    let few : c.args.fenced < 4294967295 = grind (arith, nat_tests) in
    let short : length c.args.list.now < 4294967296 = grind (arith, nat_tests) in
    let entries : c.push.new.self.items ≡ offset_entries c.args.name.now c.args.fenced c.args.epoch c.args.list.now =
    c.in_ok-push.ensures.items ∙
    ap (λ (l : List Entry). l ++ Set Lead c.args.epoch c.in_ok-copy_sets.field-0 ∷ []) c.in_ok-entries.ensures ∙
    ap (λ (l : List SetOffset). bumps_of c.args.name.now c.args.fenced ++ Set Lead c.args.epoch l ∷ []) c.in_ok-copy_sets.ensures in
    subst (λ (l : List Entry). AreShort l) (sym entries) (offsets-short c.args.name.now c.args.fenced c.args.epoch c.args.list.now few short)
