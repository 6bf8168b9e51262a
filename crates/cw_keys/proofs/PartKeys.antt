-- Keys of the offset log, both ways.
use Rattle.std.proofs.Common.{◌≡◌, ℕ, ◌^◌, ◌<◌, ◌≤◌, List, false, cond, nat_lt, Option, Some, None, option_map, option_and_then, codes, refl, sym, ap, subst, ◌∙◌, arith, inl, inr, ◌⊎◌, ltb-true}
use Rattle.std.specs.Str.{bytes_eq}
use Rattle.std.specs.Cmp.Lexicographic.{bytes_decides}
use Rattle.std.proofs.lemmas.Option.{option_and_then_some, same_Some}
use Rattle.json.proofs.Printed.Utf8.{IsUtf8-are_ascii}
use Rattle.serde_json.specs.Data.{Data, Items, no_items, item, depth}
use Rattle.serde_json.specs.Find.{get, as_str, as_array}
use Rattle.cw_types.specs.Name.{IsName}
use Rattle.cw_types.specs.declared.ids.PartKey.{PartKey}
use Rattle.cw_types.specs.declared.ids.PartKey.TheVariants.{Raw, File, Seq, Sink}
use Rattle.cw_json.specs.Reading.{reading}
use Rattle.cw_json.specs.Plain.{IsPlain}
use Rattle.cw_json.proofs.Written.{reading-compact_text}
use Rattle.cw_types.specs.Name.{name_of}
use Rattle.cw_keys.specs.Counts.{below_32, u64_at, count_at}
use Rattle.cw_keys.specs.Parts.{key_data, file_partition, seq_partition, sink_partition, part_data, part_text, is_raw, IsPart, name_at, first_some, part_named, part_in_items, part_of}
use Rattle.cw_keys.proofs.Ascii.{name_utf8}
use Rattle.cw_keys.proofs.Cuts.{name_again, name_only, mapped, chosen}
use Rattle.cw_keys.proofs.Values.{below_again}

-- ---- what is read is in the grammar

below_only : (n m : ℕ) → below_32 n ≡ Some m → m < 2 ^ 32
below_only n m e = chosen (nat_lt n (2 ^ 32)) (Some n) None m (m < 2 ^ 32) e (λ small is. let same : n ≡ m = same_Some _ _ is in subst (λ k. k < 2 ^ 32) same (ltb-true n (2 ^ 32) small)) (λ e. cc)

count_only : (key : List ℕ) (d : Data) (m : ℕ) → count_at key d ≡ Some m → m < 2 ^ 32
count_only key d m e = option_and_then_some below_32 (u64_at key d) m e (λ n is found. below_only n m found)

name_at_only : (key : List ℕ) (d : Data) (name : List ℕ) → name_at key d ≡ Some name → IsName name
name_at_only key d name e = option_and_then_some name_of (option_and_then as_str (get key d)) name e (λ text is found. (name_only text name found).1)

first_of : (a b : Option PartKey) (p : PartKey) → first_some a b ≡ Some p → (a ≡ Some p) ⊎ (b ≡ Some p)
first_of (Some q) b p e = inl e
first_of None b p e = inr e

abbrev IsOfConnector : PartKey → Type 0
IsOfConnector p = IsPart p × (is_raw p ≡ false)

named_only : (connector : List ℕ) (d : Data) (p : PartKey) → IsName connector → part_named connector d ≡ Some p → IsOfConnector p
named_only connector d p named e = elim (first_of _ _ p e) [
  | inl is ↦ let x = mapped (File connector) (name_at (codes "filename") d) p is in subst IsOfConnector x.2 ((named, name_at_only (codes "filename") d x.0 x.1), refl)
  | inr e ↦ elim (first_of _ _ p e) [
    | inl is ↦ let x = mapped (Seq connector) (count_at (codes "sequence") d) p is in subst IsOfConnector x.2 ((named, count_only (codes "sequence") d x.0 x.1), refl)
    | inr is ↦ let x = mapped (Sink connector) (name_at (codes "kafka_topic") d) p is in subst IsOfConnector x.2 ((named, name_at_only (codes "kafka_topic") d x.0 x.1), refl)
  ]
]

items_only : (items : Items) (p : PartKey) → part_in_items items ≡ Some p → IsOfConnector p
items_only no_items p e = cc
items_only (item c no_items) p e = cc
items_only (item c (item d rest)) p e = option_and_then_some (λ name. part_named name d) (option_and_then name_of (as_str c)) p e (λ name is found.
    named_only name d p (option_and_then_some name_of (as_str c) name is (λ text told read. (name_only text name read).1)) found)

pub part_only : (p : PartKey) (bytes : List ℕ) → part_of bytes ≡ Some p → (bytes ≡ part_text p) × IsPart p × (is_raw p ≡ false)
part_only p bytes e = option_and_then_some (λ q. cond (bytes_eq (part_text q) bytes) (Some q) None) (option_and_then part_in_items (option_and_then as_array (reading bytes))) p e (λ q inside found.
    chosen (bytes_eq (part_text q) bytes) (Some q) None p _ found
    (λ same is.
    let whose : q ≡ p = same_Some _ _ is in
    let kept : IsOfConnector q = option_and_then_some part_in_items (option_and_then as_array (reading bytes)) q inside (λ items told read. items_only items q read) in
    subst (λ (r : PartKey). (bytes ≡ part_text r) × IsPart r × (is_raw r ≡ false)) whose (sym ((bytes_decides (part_text q) bytes).0 same), kept.0, kept.1))
    (λ e. cc))

-- ---- what is written is read again

plain_key : (connector : List ℕ) (partition : Data) → IsName connector → IsPlain partition → IsPlain (key_data connector partition)
plain_key connector partition named plain = (name_utf8 connector named, (plain, tt))

pub plain_part : (p : PartKey) → IsPart p → IsPlain (part_data p)
plain_part (Raw n) h = tt
plain_part (File connector feed) h = plain_key connector (file_partition feed) h.0 ((IsUtf8-are_ascii (codes "filename") refl, name_utf8 feed h.1, tt), refl)
plain_part (Seq connector index) h = let small : index < 2 ^ 32 = h.1 in plain_key connector (seq_partition index) h.0 ((IsUtf8-are_ascii (codes "sequence") refl, omega arith, tt), refl)
plain_part (Sink connector topic) h =
    plain_key connector (sink_partition topic) h.0 ((IsUtf8-are_ascii (codes "kafka_partition") refl, omega arith, (IsUtf8-are_ascii (codes "kafka_topic") refl, name_utf8 topic h.1, tt)), refl)

pub part_shallow : (p : PartKey) → depth (part_data p) ≤ 127
part_shallow (Raw n) = omega arith
part_shallow (File connector feed) = omega arith
part_shallow (Seq connector index) = omega arith
part_shallow (Sink connector topic) = omega arith

-- the part that the items of an array name
abbrev part_in : Data → Option PartKey
part_in d = option_and_then part_in_items (as_array d)

of_connector : (connector : List ℕ) (partition : Data) → IsName connector → part_in (key_data connector partition) ≡ part_named connector partition
of_connector connector partition named = ap (option_and_then (λ name. part_named name partition)) (name_again connector named)

part_in_again : (p : PartKey) → IsPart p → is_raw p ≡ false → part_in (part_data p) ≡ Some p
part_in_again (Raw n) h alive = cc
part_in_again (File connector feed) h alive = of_connector connector (file_partition feed) h.0 ∙ ap (λ o. first_some (option_map (File connector) o) None) (name_again feed h.1)
part_in_again (Seq connector index) h alive = of_connector connector (seq_partition index) h.0 ∙ ap (λ o. first_some (option_map (Seq connector) o) None) (below_again index h.1)
part_in_again (Sink connector topic) h alive = of_connector connector (sink_partition topic) h.0 ∙ ap (option_map (Sink connector)) (name_again topic h.1)

-- the text of a part that is read as the part's JSON is its key
pub part_told : (p : PartKey) (bytes : List ℕ) → IsPart p → is_raw p ≡ false → bytes ≡ part_text p → reading bytes ≡ Some (part_data p) → part_of bytes ≡ Some p
part_told p bytes h alive is tells =
    let inside : option_and_then part_in_items (option_and_then as_array (reading bytes)) ≡ Some p =
    ap (λ o. option_and_then part_in_items (option_and_then as_array o)) tells ∙ part_in_again p h alive in
    ap (option_and_then (λ q. cond (bytes_eq (part_text q) bytes) (Some q) None)) inside ∙ ap (λ b. cond b (Some p) None) ((bytes_decides (part_text p) bytes).1 (sym is))

pub part_again : (p : PartKey) → IsPart p → is_raw p ≡ false → part_of (part_text p) ≡ Some p
part_again p h alive = part_told p (part_text p) h alive refl (reading-compact_text (part_data p) (plain_part p h) (part_shallow p))
