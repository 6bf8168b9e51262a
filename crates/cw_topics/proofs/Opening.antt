-- What the frames of a log hold is put in one after the other.
use Rattle.std.proofs.Common.{◌≡◌, ℕ, ◌+◌, ◌≤◌, ◌<◌, leb, Bool, true, false, ◌&&◌, List, [], ◌∷◌, ◌++◌, length, take, get_or, Option, Some, refl, sym, ◌∙◌, ap, arith, append-nil, append_assoc}
use Rattle.std.proofs.lemmas.Bool.Decides.{nat_tests}
use Rattle.std.specs.List.{filter_map, cons_option}
use Rattle.std.proofs.lemmas.List.{take_all, take_more}
use Rattle.std.proofs.lemmas.List.Elements.{filter_map-append}
use Rattle.std.proofs.lemmas.List.Concat.{flat_map-append}
use Rattle.cw_bytes.specs.declared.applied.Applied.{Applied}
use Rattle.cw_bytes.specs.Frames.{joined}
use Rattle.cw_keys.specs.declared.config_key.ConfigKey.{ConfigKey}
use Rattle.cw_keys.specs.declared.config_key.ConfigKey.TheVariants as key
use Rattle.cw_keys.specs.declared.config_value.ConfigValue.{ConfigValue}
use Rattle.cw_keys.specs.declared.config_value.ConfigValue.TheVariants as value
use Rattle.cw_config.specs.declared.records.ConfigRecord.{ConfigRecord}
use Rattle.cw_config.specs.Acceptance.{end_of, is_backed}
use Rattle.cw_config.specs.Compaction.{AreAccepted}
use Rattle.cw_model.specs.ConfigsAllowed.{AreAllowedConfigs, FitsBehind}
use Rattle.cw_model.specs.Bodies.{statuses_in, status_in}
use Rattle.cw_model.specs.State.{StampedStatus}
use Rattle.cw_topics.specs.Statuses.{StatusList}
use Rattle.std.proofs.lemmas.Bool.{and_from}

-- ---- a list that is made of the parts of others, behind what stood there

module _ {A B T : Type 0} (parts : List A → List B) (part : A → List B) (push : (xs : List A) (x : A) → parts (xs ++ x ∷ []) ≡ parts xs ++ part x)
    (made : List B → T) (list : T → List B) (same : (l : List B) → list (made l) ≡ l) where
  pub more-put : (before : List B) (xs : List A) (k : ℕ) (now : T) → now ≡ made (before ++ parts (take k xs)) → (x : A) → k < length xs → x ≡ get_or xs k x →
      (new : T) → new ≡ made (list now ++ part x) → new ≡ made (before ++ parts (take (k + 1) xs))
  more-put before xs k now so_far x within is new added =
      added ∙ ap (λ (l : List B). made (l ++ part x)) (ap list so_far ∙ same (before ++ parts (take k xs))) ∙
      ap made (append_assoc before (parts (take k xs)) (part x) ∙
      ap (λ (l : List B). before ++ l) (sym (push (take k xs) x) ∙ ap parts (sym (take_more xs k x within ∙ ap (λ (y : A). take k xs ++ y ∷ []) (sym is)))))

  pub all-put : (before : List B) (xs : List A) (k : ℕ) (now : T) → now ≡ made (before ++ parts (take k xs)) → length xs ≤ k → now ≡ made (before ++ parts xs)
  all-put before xs k now so_far all = so_far ∙ ap (λ (l : List A). made (before ++ parts l)) (take_all k xs all)

-- a list that is gone through
pub more-past : {A : Type 0} (xs : List A) (k : ℕ) (now : List A) → now ≡ take k xs → (x : A) → k < length xs → x ≡ get_or xs k x → (new : List A) → new ≡ now ++ x ∷ [] → new ≡ take (k + 1) xs
more-past {A} = more-put (λ (l : List A). l) (λ (x : A). x ∷ []) (λ xs x. refl) (λ (l : List A). l) (λ (l : List A). l) (λ l. refl) []

pub all-past : {A : Type 0} (xs : List A) (k : ℕ) (now : List A) → now ≡ take k xs → length xs ≤ k → now ≡ xs
all-past {A} = all-put (λ (l : List A). l) (λ (x : A). x ∷ []) (λ xs x. refl) (λ (l : List A). l) (λ (l : List A). l) (λ l. refl) []

push-filtered : {A B : Type 0} (f : A → Option B) (xs : List A) (x : A) → filter_map f (xs ++ x ∷ []) ≡ filter_map f xs ++ cons_option (f x) []
push-filtered f xs x = filter_map-append f xs (x ∷ [])

push-joined : {A : Type 0} (frames : List (List A)) (frame : List A) → joined (frames ++ frame ∷ []) ≡ joined frames ++ frame
push-joined {A} frames frame = flat_map-append (λ (g : List A). g) frames (frame ∷ []) ∙ ap (λ (l : List A). joined frames ++ l) (append-nil frame)

push-frame : {A B : Type 0} (f : A → Option B) (frames : List (List A)) (frame : List A) → filter_map f (joined (frames ++ frame ∷ [])) ≡ filter_map f (joined frames) ++ filter_map f frame
push-frame f frames frame = ap (filter_map f) (push-joined frames frame) ∙ filter_map-append f (joined frames) frame

-- ---- statuses

abbrev pub listed : List StampedStatus → StatusList
listed list = record { list = list; reserved = [] }

pub none-listed : (old : StatusList) (frame : List Applied) → old.reserved ≡ [] → old ≡ listed (old.list ++ filter_map status_in (take 0 frame))
none-listed old frame free = λ i. record { list = sym (append-nil old.list) i; reserved = free i }

pub more-listed : (before : List StampedStatus) (frame : List Applied) (k : ℕ) (now : StatusList) → now ≡ listed (before ++ filter_map status_in (take k frame)) →
    (x : Applied) → k < length frame → x ≡ get_or frame k x → (new : StatusList) → new ≡ listed (now.list ++ cons_option (status_in x) []) →
    new ≡ listed (before ++ filter_map status_in (take (k + 1) frame))
more-listed = more-put (filter_map status_in) (λ (x : Applied). cons_option (status_in x) []) (push-filtered status_in) listed (λ (l : StatusList). l.list) (λ l. refl)

pub all-listed : (before : List StampedStatus) (frame : List Applied) (k : ℕ) (now : StatusList) → now ≡ listed (before ++ filter_map status_in (take k frame)) →
    length frame ≤ k → now ≡ listed (before ++ filter_map status_in frame)
all-listed = all-put (filter_map status_in) (λ (x : Applied). cons_option (status_in x) []) (push-filtered status_in) listed (λ (l : StatusList). l.list) (λ l. refl)

pub more-framed : (frames : List (List Applied)) (k : ℕ) (now : StatusList) → now ≡ listed (statuses_in (take k frames)) → (frame : List Applied) → k < length frames →
    frame ≡ get_or frames k frame → (new : StatusList) → new ≡ listed (now.list ++ filter_map status_in frame) → new ≡ listed (statuses_in (take (k + 1) frames))
more-framed = more-put statuses_in (filter_map status_in) (push-frame status_in) listed (λ (l : StatusList). l.list) (λ l. refl) []

pub all-framed : (frames : List (List Applied)) (k : ℕ) (now : StatusList) → now ≡ listed (statuses_in (take k frames)) → length frames ≤ k → now ≡ listed (statuses_in frames)
all-framed = all-put statuses_in (filter_map status_in) (push-frame status_in) listed (λ (l : StatusList). l.list) (λ l. refl) []

-- ---- what an opening has judged

backed-by : (before : List ConfigRecord) (k : ConfigKey) (v : Option ConfigValue) → FitsBehind before k v → is_backed before k v ≡ true
backed-by before (key.Commit name) (Some (value.Commit count)) fits = fits.tasks
backed-by before k v fits = refl

-- records that may stand where they do are accepted
pub accepted-allowed : (before xs : List ConfigRecord) → AreAllowedConfigs before xs → AreAccepted before xs
accepted-allowed before [] allowed = tt
accepted-allowed before (x ∷ xs) allowed =
    let above : end_of before ≤ x.offset = allowed.0.rising in
    let is : leb (end_of before) x.offset ≡ true = grind (arith, nat_tests) in
    (and_from (leb (end_of before) x.offset) (is_backed before x.key x.value) is (backed-by before x.key x.value allowed.0.fits), accepted-allowed (before ++ x ∷ []) xs allowed.1)
