-- A text's reading is that of serde_json, where its bytes are UTF-8.
use Rattle.std.proofs.Common.{◌≡◌, ℕ, List, Bool, true, false, cond, None, refl, ap}
use Rattle.std.specs.Str.{IsUtf8, is_utf8}
use Rattle.std.proofs.lemmas.Str.{IsUtf8-from_is_utf8, is_utf8-from_IsUtf8}
use Rattle.serde_json.specs.Read.{read}
use Rattle.cw_json.specs.Reading.{reading}

pub reading_text : (text : List ℕ) → IsUtf8 text → reading text ≡ read text
reading_text text utf8 = ap (λ b. cond b (read text) None) (is_utf8-from_IsUtf8 text utf8)

unread : (text : List ℕ) (b : Bool) → is_utf8 text ≡ b → (IsUtf8 text → read text ≡ None) → cond b (read text) None ≡ None
unread text true is refused = refused (IsUtf8-from_is_utf8 text is)
unread text false is refused = refl

pub reading_none : (text : List ℕ) → (IsUtf8 text → read text ≡ None) → reading text ≡ None
reading_none text refused = unread text (is_utf8 text) refl refused
