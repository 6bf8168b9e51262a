-- What an opening tells of the offset log, frame by frame and entry by entry, and the puts that it finds for a commit.
use Rattle.std.proofs.Common.{◌≡◌, ℕ, ◌+◌, ◌≤◌, ◌<◌, Bool, true, false, cond, not, List, [], ◌∷◌, ◌++◌, length, map, take, get_or, Option, Some, None, refl, sym, ◌∙◌, ap, subst, append-nil, append_assoc}
use Rattle.std.specs.BTreeMap.{BTreeMap, get, is_at}
use Rattle.std.specs.Global.{Vec}
use Rattle.std.specs.List.{filter_map, flat_map}
use Rattle.std.proofs.lemmas.List.{map-append, take_more}
use Rattle.std.proofs.lemmas.List.Elements.{filter_map-append}
use Rattle.std.proofs.lemmas.List.Concat.{flat_map-append}
use Rattle.cw_types.specs.declared.ids.Tag.{Tag}
use Rattle.cw_types.specs.Same.{same_tag, tag_order}
use Rattle.cw_types.proofs.SameLemmas.{tag_at, same_tag-flip, same_tag-Decides}
use Rattle.cw_bytes.specs.declared.applied.Applied.{Applied}
use Rattle.cw_bytes.specs.declared.mark.Mark.{Mark as MarkValue}
use Rattle.cw_bytes.specs.Frames.{joined}
use Rattle.cw_txn.specs.declared.entry.Entry.{Entry}
use Rattle.cw_txn.specs.declared.entry.SetOffset.{SetOffset}
use Rattle.cw_txn.specs.Legal.{is_committed}
use Rattle.cw_offset.specs.Calls.{Calls}
use Rattle.cw_offset.specs.declared.body.OffsetEntry.{OffsetEntry}
use Rattle.cw_offset.specs.declared.body.OffsetEntry.TheVariants.{Records, Mark}
use Rattle.cw_offset.specs.declared.call.OffsetCall.{OffsetCall}
use Rattle.cw_offset.specs.declared.call.OffsetCall.TheVariants.{Stand, Set}
use Rattle.cw_offset.specs.Log.{offset_tag, marks_in}
use Rattle.cw_offset.specs.Replay.{put_in, puts_in, puts_of, calls_at, replayed}
use Rattle.cw_topics.specs.Replaying.{ArePuts, items_in, puts_at, told_more}
use Rattle.cw_topics.proofs.Opening.{more-put, all-put}

-- ---- calls that are told one part after the other

abbrev made : List OffsetCall → Calls
made calls = record { calls = calls; reserved = [] }

-- the calls of a list are those of its members
pub record IsParted {A : Type 0} (parts : List A → List OffsetCall) (part : A → List OffsetCall) : Type 0 where
  pub none : parts [] ≡ []
  pub push : (xs : List A) (x : A) → parts (xs ++ x ∷ []) ≡ parts xs ++ part x

module _ {A : Type 0} (parts : List A → List OffsetCall) (part : A → List OffsetCall) (is : IsParted parts part) where
  pub none-told : (start : Calls) (xs : List A) → start.reserved ≡ [] → start ≡ told_more (parts (take 0 xs)) start
  none-told start xs free =
      let all : start.calls ≡ start.calls ++ parts [] = sym (ap (λ (l : List OffsetCall). start.calls ++ l) is.none ∙ append-nil start.calls) in
      λ i. record { calls = all i; reserved = free i }

  pub more-told : (start : Calls) (xs : List A) (k : ℕ) (now : Calls) → now ≡ told_more (parts (take k xs)) start → (x : A) → k < length xs → x ≡ get_or xs k x →
      (new : Calls) → new ≡ told_more (part x) now → new ≡ told_more (parts (take (k + 1) xs)) start
  more-told start = more-put parts part is.push made (λ (t : Calls). t.calls) (λ l. refl) start.calls

  pub all-told : (start : Calls) (xs : List A) (k : ℕ) (now : Calls) → now ≡ told_more (parts (take k xs)) start → length xs ≤ k → now ≡ told_more (parts xs) start
  all-told start = all-put parts part is.push made (λ (t : Calls). t.calls) (λ l. refl) start.calls

pub free-told : (calls : List OffsetCall) (start now : Calls) → now ≡ told_more calls start → now.reserved ≡ []
free-told calls start now is = ap (λ (t : Calls). t.reserved) is

abbrev pub calls_of : List OffsetCall → List OffsetCall
calls_of calls = calls

abbrev pub call_of : OffsetCall → List OffsetCall
call_of call = call ∷ []

pub each-call : IsParted calls_of call_of
each-call = record { none = refl; push = λ xs x. refl }

abbrev pub stands_of : List OffsetEntry → List OffsetCall
stands_of frames = map Stand (filter_map offset_tag frames)

abbrev pub stand_of : OffsetEntry → List OffsetCall
stand_of frame = map Stand (filter_map offset_tag (frame ∷ []))

pub each-stand : IsParted stands_of stand_of
each-stand = record {
  none = refl;
  push = λ xs x. ap (map Stand) (filter_map-append offset_tag xs (x ∷ [])) ∙ map-append Stand (filter_map offset_tag xs) (filter_map offset_tag (x ∷ []));
}

pub each-flat : {A : Type 0} (f : A → List OffsetCall) → IsParted (flat_map f) f
each-flat f = record {
  none = refl;
  push = λ xs x. flat_map-append f xs (x ∷ []) ∙ ap (λ (l : List OffsetCall). flat_map f xs ++ l) (append-nil (f x));
}

abbrev pub list_calls : List OffsetEntry → List (List Entry) → List OffsetCall
list_calls log frames = flat_map (calls_at log) (joined frames)

pub each-list : (log : List OffsetEntry) → IsParted (list_calls log) (flat_map (calls_at log))
each-list log = record {
  none = refl;
  push = λ xs x. ap (flat_map (calls_at log)) (flat_map-append (λ (g : List Entry). g) xs (x ∷ []) ∙ ap (λ (l : List Entry). joined xs ++ l) (append-nil x)) ∙
      flat_map-append (calls_at log) (joined xs) x;
}

abbrev pub set_of : SetOffset → OffsetCall
set_of set = Set set.part set.to

pub each-set : IsParted (map set_of) (λ (set : SetOffset). set_of set ∷ [])
each-set = record { none = refl; push = λ xs x. map-append set_of xs (x ∷ []) }

-- the calls of an opening, one kind after the other
pub all-replayed : (frames : List OffsetEntry) (entries known : List Entry) → known ≡ entries → (empty stood listed left whole : Calls) → empty ≡ made [] →
    stood ≡ told_more (stands_of frames) empty → listed ≡ told_more (flat_map (calls_at frames) entries) stood →
    left ≡ told_more (puts_of (λ tag. not (is_committed tag known)) frames) listed → whole ≡ told_more (flat_map marks_in frames) left → whole ≡ made (replayed entries frames)
all-replayed frames entries known same empty stood listed left whole none a b c d =
    let behind : (calls : List OffsetCall) (old new : Calls) (before : List OffsetCall) → old ≡ made before → new ≡ told_more calls old → new ≡ made (before ++ calls) =
    λ calls old new before was is. is ∙ ap (λ (t : Calls). made (t.calls ++ calls)) was in
    let s : List OffsetCall = stands_of frames in
    let l : List OffsetCall = flat_map (calls_at frames) entries in
    let p : List OffsetCall = puts_of (λ tag. not (is_committed tag entries)) frames in
    let m : List OffsetCall = flat_map marks_in frames in
    let open_puts : left ≡ told_more p listed = c ∙ ap (λ (e : List Entry). told_more (puts_of (λ tag. not (is_committed tag e)) frames) listed) same in
    behind m left whole ((s ++ l) ++ p) (behind p listed left (s ++ l) (behind l stood listed s (behind s empty stood [] none a) b) open_puts) d ∙
    ap made (append_assoc (s ++ l) p m ∙ append_assoc s l (p ++ m))

-- ---- the puts of each transaction

module _ (t : Tag) (old new : BTreeMap Tag (Vec OffsetCall)) (now : Vec OffsetCall)
    (set : (q : Tag) → get tag_order new q ≡ cond (is_at (tag_order t) q) (Some now) (get tag_order old q)) where
  row-set : (q : Tag) → puts_at new q ≡ items_in (cond (same_tag q t) (Some now) (get tag_order old q))
  row-set q = ap items_in (set q ∙ ap (λ (b : Bool). cond b (Some now) (get tag_order old q)) (tag_at t q ∙ same_tag-flip t q))

  -- a row that is new
  pub made-row : now.items ≡ [] → get tag_order old t ≡ None → (q : Tag) → puts_at new q ≡ puts_at old q
  made-row empty none q = row-set q ∙ by (same_tag q t) (λ same. ap (get tag_order old) ((same_tag-Decides q t).0 same) ∙ none)
    where
      by : (b : Bool) → (b ≡ true → get tag_order old q ≡ None) → items_in (cond b (Some now) (get tag_order old q)) ≡ items_in (get tag_order old q)
      by true absent = empty ∙ sym (ap items_in (absent refl))
      by false absent = refl

  -- further calls in a row
  pub longer-row : (was : Vec OffsetCall) (calls : List OffsetCall) → get tag_order old t ≡ Some was → now.items ≡ was.items ++ calls →
      (q : Tag) → puts_at new q ≡ cond (same_tag q t) (puts_at old q ++ calls) (puts_at old q)
  longer-row was calls there longer q = row-set q ∙ by (same_tag q t) (λ same. ap (get tag_order old) ((same_tag-Decides q t).0 same) ∙ there)
    where
      by : (b : Bool) → (b ≡ true → get tag_order old q ≡ Some was) →
          items_in (cond b (Some now) (get tag_order old q)) ≡ cond b (items_in (get tag_order old q) ++ calls) (items_in (get tag_order old q))
      by true here = longer ∙ ap (λ (o : Option (Vec OffsetCall)). items_in o ++ calls) (sym (here refl))
      by false here = refl

puts-push : (of : Tag → Bool) (log : List OffsetEntry) (e : OffsetEntry) → puts_of of (log ++ e ∷ []) ≡ puts_of of log ++ puts_in of e
puts-push of log e = flat_map-append (puts_in of) log (e ∷ []) ∙ ap (λ (l : List OffsetCall). puts_of of log ++ l) (append-nil (puts_in of e))

-- one frame more
pub more-puts : (tag : Tag) (records : List Applied) (old mid new : BTreeMap Tag (Vec OffsetCall)) → ((q : Tag) → puts_at mid q ≡ puts_at old q) →
    ((q : Tag) → puts_at new q ≡ cond (same_tag q tag) (puts_at mid q ++ filter_map (put_in tag) records) (puts_at mid q)) →
    (log : List OffsetEntry) → ArePuts old log → ArePuts new (log ++ Records tag records ∷ [])
more-puts tag records old mid new same longer log are q =
    longer q ∙ by (same_tag q tag) (puts_at mid q) ∙ ap (λ (l : List OffsetCall). l ++ puts_in (same_tag q) (Records tag records)) (same q ∙ are q) ∙
    sym (puts-push (same_tag q) log (Records tag records))
  where
    by : (b : Bool) (l : List OffsetCall) → cond b (l ++ filter_map (put_in tag) records) l ≡ l ++ cond b (filter_map (put_in tag) records) []
    by true l = refl
    by false l = sym (append-nil l)

pub no-puts : (mark : MarkValue) (rows : BTreeMap Tag (Vec OffsetCall)) (log : List OffsetEntry) → ArePuts rows log → ArePuts rows (log ++ Mark mark ∷ [])
no-puts mark rows log are q = are q ∙ sym (puts-push (same_tag q) log (Mark mark) ∙ append-nil (puts_of (same_tag q) log))

pub frame-puts : (frames : List OffsetEntry) (k : ℕ) (new : BTreeMap Tag (Vec OffsetCall)) (frame : OffsetEntry) → k < length frames → frame ≡ get_or frames k frame →
    ArePuts new (take k frames ++ frame ∷ []) → ArePuts new (take (k + 1) frames)
frame-puts frames k new frame within is are =
    subst (ArePuts new) (sym (take_more frames k frame within ∙ ap (λ (f : OffsetEntry). take k frames ++ f ∷ []) (sym is))) are
