use Rattle.std.proofs.Common.{◌≡◌, ◌∙◌, ◌∷◌, [], List, length, take, sym, ap, subst, arith, length-append}
use Rattle.cw_data.specs.declared.entry.DataEntry.{DataEntry}
use Rattle.cw_data.specs.Tables.{Keeps, HasRoom, FitsBehind}
use Rattle.cw_data.proofs.Places.{pushed_front, pushed_end, pushed_last}
use Rattle.cw_data.proofs.state.settle.Goals as goal

pub add-requires : goal.add-requires
add-requires c =
    let now = c.as_slice.ensures.value ∙ c.push_made.ensures.pushed in
    let at : c.len-place.result ≡ length c.args.entries.now.items = omega (arith, c.len-place.ensures) in
    record {
      last = omega (arith, ap length now, length-append c.args.entries.now.items (c.args.entry ∷ []), c.len-place.ensures);
      kept = subst (Keeps c.args.tables.now) (sym (pushed_front c.as_slice.result.now c.args.entries.now.items c.args.entry c.len-place.result now at)) c.requires.kept;
      has = subst (HasRoom c.args.tables.now) (sym (pushed_end c.as_slice.result.now c.args.entries.now.items c.args.entry c.len-place.result now at)) c.requires.has;
      fits = λ entry ends. subst (λ (e : DataEntry). FitsBehind (take c.len-place.result c.as_slice.result.now) e) (sym (pushed_last c.as_slice.result.now c.args.entries.now.items c.args.entry c.len-place.result now entry ends))
          (subst (λ (l : List DataEntry). FitsBehind l c.args.entry) (sym (pushed_front c.as_slice.result.now c.args.entries.now.items c.args.entry c.len-place.result now at)) c.requires.fits);
    }
