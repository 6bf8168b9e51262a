use Rattle.std.proofs.Common.{◌≡◌, true, subst, sym, rules}
use Rattle.std.specs.List.{list_all}
use Rattle.std.proofs.lemmas.Str.{IsUtf8-from_ascii}
use Rattle.std.specs.Str.{IsAscii}
use Rattle.cw_types.specs.Name.{is_name_byte}
use Rattle.cw_route.proofs.Plain.{plain_ascii, walk_text}
use Rattle.cw_route.proofs.routing.call_at.Goals as goal

pub returns-in_default : goal.returns-in_default
returns-in_default c = λ _.
    let plain : list_all is_name_byte c.args.path.now ≡ true = search rules in
    absurd (c.in_default.ensures.cases.0 (IsUtf8-from_ascii c.args.path.now (plain_ascii c.args.path.now plain)))

pub call_for-requires : goal.call_for-requires
call_for-requires c =
    let plain : list_all is_name_byte c.args.path.now ≡ true = search rules in
    let same : c.in-Ok-at.found.params.path.now ≡ c.args.path.now = search rules in
    walk_text _ _ c.in-Ok-at.found.params.path.now _ 0 0 (subst IsAscii (sym same) (plain_ascii c.args.path.now plain))
