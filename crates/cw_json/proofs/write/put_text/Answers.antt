use Rattle.std.proofs.Common.{◌≡◌, ap, refl, ◌∙◌, String as Text, Global, string_bytes, rules}
use Rattle.serde_json.specs.Data.{string}
use Rattle.serde_json.specs.View.{view, members_view}
use Rattle.serde_json.proofs.Views.{members_view-insert_entry}
use Rattle.serde_json.specs.declared.value.Value.{String, the_lemmas}
use Rattle.cw_json.proofs.write.put_text.Goals as goal

view-String : (s : Text Global) → view (String s) ≡ string (string_bytes s)
view-String s = search (rules, the_lemmas)

pub returns : goal.returns
returns c =
    let key : string_bytes c.in_ok-from_str-2.field-0 ≡ c.args.key.now = c.in_ok-from_str-2.ensures.ok ∙ c.as_str-2.ensures in
    let text : string_bytes c.in_ok-from_str.field-0 ≡ c.args.value.now = c.in_ok-from_str.ensures.ok ∙ c.as_str.ensures in
    ap members_view c.in_ok-insert.ensures.entries
    ∙ members_view-insert_entry c.args.members.now.entries c.in_ok-from_str-2.field-0 (String c.in_ok-from_str.field-0)
    ∙ (rw (view-String c.in_ok-from_str.field-0, key, text) refl)
