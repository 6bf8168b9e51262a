-- What the calls of an opening say of a part, and that a compaction leaves a log that says the same.
use Rattle.std.proofs.Common.{◌≡◌, ℕ, Bool, true, false, ◌&&◌, cond, List, [], ◌∷◌, ◌++◌, map, Option, None, Some, refl, ap, sym, ◌∙◌}
use Rattle.std.specs.Option.{option_or, option_and_then, option_map}
use Rattle.std.specs.List.{filter_map, cons_option, AllByRecursion}
use Rattle.cw_types.specs.declared.ids.Tag.{Tag}
use Rattle.cw_types.specs.declared.ids.PartKey.{PartKey}
use Rattle.cw_types.specs.Same.{same_part}
use Rattle.cw_bytes.specs.declared.applied.Applied.{Applied}
use Rattle.cw_keys.specs.Parts.{part_of}
use Rattle.cw_keys.specs.Offsets.{offset_of}
use Rattle.cw_offset.specs.declared.body.OffsetEntry.{OffsetEntry}
use Rattle.cw_offset.specs.declared.body.OffsetEntry.TheVariants.{Records, Mark}
use Rattle.cw_offset.specs.declared.call.OffsetCall.{OffsetCall}
use Rattle.cw_offset.specs.declared.call.OffsetCall.TheVariants.{Stand, Put, Commit, Abort, Set}
use Rattle.cw_offset.specs.Offsets.{mark_in, marker_of, is_commit, said_in, said_of}
use Rattle.cw_offset.specs.Replay.{put_in, puts_in, puts_of}

pub option_or-none : {A : Type 0} (a : Option A) → option_or a None ≡ a
option_or-none None = refl
option_or-none (Some x) = refl

pub option_or-assoc : {A : Type 0} (a b c : Option A) → option_or (option_or a b) c ≡ option_or a (option_or b c)
option_or-assoc None b c = refl
option_or-assoc (Some x) b c = refl

-- ---- markers, and what is said under them

abbrev Said : Type 0
Said = Option (Option ℕ)

abbrev Markers : Type 0
Markers = Tag → Option Bool

-- what the last of these calls says of a part, under the same markers
abbrev pub said_by : PartKey → Markers → List OffsetCall → Said
said_by part m [] = None
said_by part m (call ∷ calls) = option_or (said_by part m calls) (said_in part m call)

-- a call that marks nothing
abbrev pub IsPlain : OffsetCall → Type 0
IsPlain call = (tag : Tag) → mark_in tag call ≡ None

abbrev pub ArePlain : List OffsetCall → Type 0
ArePlain calls = AllByRecursion IsPlain calls

pub marker_of-append : (tag : Tag) (xs ys : List OffsetCall) → marker_of tag (xs ++ ys) ≡ option_or (marker_of tag xs) (marker_of tag ys)
marker_of-append tag [] ys = refl
marker_of-append tag (x ∷ xs) ys = ap (option_or (mark_in tag x)) (marker_of-append tag xs ys) ∙ sym (option_or-assoc (mark_in tag x) (marker_of tag xs) (marker_of tag ys))

pub marker_of-plain : (tag : Tag) (xs ys : List OffsetCall) → ArePlain xs → marker_of tag (xs ++ ys) ≡ marker_of tag ys
marker_of-plain tag [] ys all = refl
marker_of-plain tag (x ∷ xs) ys all = ap (λ o. option_or o (marker_of tag (xs ++ ys))) (all.0 tag) ∙ marker_of-plain tag xs ys all.1

-- what a call says depends on its transaction's marker alone
pub said_in-same : (part : PartKey) (m n : Markers) (call : OffsetCall) → ((tag : Tag) → m tag ≡ n tag) → said_in part m call ≡ said_in part n call
said_in-same part m n (Stand tag) same = refl
said_in-same part m n (Put tag other to) same = ap (λ (o : Option Bool). cond (same_part part other && is_commit o) (Some (Some to)) None) (same tag)
said_in-same part m n (Commit tag) same = refl
said_in-same part m n (Abort tag) same = refl
said_in-same part m n (Set other to) same = refl

pub said_by-same : (part : PartKey) (m n : Markers) (calls : List OffsetCall) → ((tag : Tag) → m tag ≡ n tag) → said_by part m calls ≡ said_by part n calls
said_by-same part m n [] same = refl
said_by-same part m n (call ∷ calls) same = ap (λ o. option_or o (said_in part m call)) (said_by-same part m n calls same) ∙ ap (option_or (said_by part n calls)) (said_in-same part m n call same)

pub said_by-append : (part : PartKey) (m : Markers) (xs ys : List OffsetCall) → said_by part m (xs ++ ys) ≡ option_or (said_by part m ys) (said_by part m xs)
said_by-append part m [] ys = sym (option_or-none (said_by part m ys))
said_by-append part m (x ∷ xs) ys = ap (λ o. option_or o (said_in part m x)) (said_by-append part m xs ys) ∙ option_or-assoc (said_by part m ys) (said_by part m xs) (said_in part m x)

said_by-option : (part : PartKey) (m : Markers) (o : Option OffsetCall) (calls : List OffsetCall) → said_by part m (cons_option o calls) ≡ option_or (said_by part m calls) (option_and_then (said_in part m) o)
said_by-option part m None calls = sym (option_or-none (said_by part m calls))
said_by-option part m (Some call) calls = refl

-- calls that mark nothing, in front of others
pub said_of-plain : (part : PartKey) (xs ys : List OffsetCall) → ArePlain xs → said_of part (xs ++ ys) ≡ option_or (said_of part ys) (said_by part (λ tag. marker_of tag ys) xs)
said_of-plain part [] ys all = sym (option_or-none (said_of part ys))
said_of-plain part (x ∷ xs) ys all =
    ap (λ o. option_or o (said_in part (λ tag. marker_of tag (xs ++ ys)) x)) (said_of-plain part xs ys all.1)
    ∙ option_or-assoc (said_of part ys) (said_by part (λ tag. marker_of tag ys) xs) (said_in part (λ tag. marker_of tag (xs ++ ys)) x)
    ∙ ap (λ o. option_or (said_of part ys) (option_or (said_by part (λ tag. marker_of tag ys) xs) o)) (said_in-same part (λ tag. marker_of tag (xs ++ ys)) (λ tag. marker_of tag ys) x (λ tag. marker_of-plain tag xs ys all.1))

-- ---- the calls of an opening are plain, but for its markers

pub plain-append : (xs ys : List OffsetCall) → ArePlain xs → ArePlain ys → ArePlain (xs ++ ys)
plain-append [] ys one two = two
plain-append (x ∷ xs) ys one two = (one.0, plain-append xs ys one.1 two)

pub stands_plain : (tags : List Tag) → ArePlain (map Stand tags)
stands_plain [] = tt
stands_plain (tag ∷ tags) = ((λ _. refl), stands_plain tags)

pub stands_silent : (part : PartKey) (m : Markers) (tags : List Tag) → said_by part m (map Stand tags) ≡ None
stands_silent part m [] = refl
stands_silent part m (tag ∷ tags) = ap (λ (o : Said). option_or o None) (stands_silent part m tags)

put_plain : (tag : Tag) (part : Option PartKey) (value : Option (List ℕ)) (rest : List OffsetCall) → ArePlain rest
    → ArePlain (cons_option (option_and_then (λ p. option_map (Put tag p) (option_and_then (offset_of p) value)) part) rest)
put_plain tag None value rest all = all
put_plain tag (Some p) value rest all = by (option_and_then (offset_of p) value)
  where
    by : (to : Option ℕ) → ArePlain (cons_option (option_map (Put tag p) to) rest)
    by None = all
    by (Some to) = ((λ _. refl), all)

pub records_plain : (tag : Tag) (records : List Applied) → ArePlain (filter_map (put_in tag) records)
records_plain tag [] = tt
records_plain tag (r ∷ records) = put_plain tag (part_of r.key) r.value (filter_map (put_in tag) records) (records_plain tag records)

chosen_plain : (b : Bool) (calls : List OffsetCall) → ArePlain calls → ArePlain (cond b calls [])
chosen_plain true calls all = all
chosen_plain false calls all = tt

pub puts_plain : (of : Tag → Bool) (log : List OffsetEntry) → ArePlain (puts_of of log)
puts_plain of [] = tt
puts_plain of (Records tag records ∷ log) = plain-append (puts_in of (Records tag records)) (puts_of of log) (chosen_plain (of tag) (filter_map (put_in tag) records) (records_plain tag records)) (puts_plain of log)
puts_plain of (Mark mark ∷ log) = puts_plain of log
