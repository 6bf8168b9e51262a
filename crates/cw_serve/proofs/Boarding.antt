-- What is put on the board as a worker reads on, and what a reader saw of it: an entry of it is true.
use Rattle.std.proofs.Common.{◌≡◌, ℕ, ◌+◌, ◌-◌, ◌<◌, ◌≤◌, ◌==◌, Bool, true, false, List, [], ◌∷◌, ◌++◌, length, map, take, drop, Option, Some, None, slice_index, slice_set, refl, ap, sym, ◌∙◌, subst, arith, append_assoc, length-append}
use Rattle.std.specs.Prelude.{IsSome, option_and_then, replicate, if◌then◌else◌}
use Rattle.std.specs.List.{filter_map, cons_option, AllByRecursion}
use Rattle.std.proofs.lemmas.List.{append-nil, take-append-le, take-append-drop, take-take, take_all, drop-take, length-replicate, length-take-le, length-drop, length-map, take-map, get_or-set_same, get_or-set_other, get_or-replicate, length-set}
use Rattle.std.proofs.lemmas.List.Elements.{filter_map-append}
use Rattle.std.proofs.lemmas.Bool.Decides.{nat_tests}
use Rattle.cw_board.specs.declared.posted.Posted.{Posted}
use Rattle.cw_board.specs.Records.{posted, config_for, configs_of, taken}
use Rattle.cw_board.specs.Sides.{Writing}
use Rattle.cw_bytes.specs.declared.applied.Applied.{Applied}
use Rattle.cw_config.specs.declared.records.ConfigRecord.{ConfigRecord}
use Rattle.cw_config.specs.Acceptance.{may_follow, followed_by}
use Rattle.cw_config.specs.Compaction.{config_in}
use Rattle.cw_laws.proofs.Allowed.{each_from-first, each_from-rest}
use Rattle.cw_laws.proofs.CompactConfigs.{accepted-allowed}
use Rattle.cw_laws.proofs.ConfigsAppended.{configs-read, read-again}
use Rattle.cw_laws.proofs.Lists.{each_from-each}
use Rattle.cw_model.specs.Bodies.{config_applied}
use Rattle.cw_model.specs.ConfigsAllowed.{IsAllowedConfig, AreAllowedConfigs}
use Rattle.cw_model.specs.Grows.{Grows}
use Rattle.cw_model.specs.Lookups.{row_of}
use Rattle.cw_model.specs.State.{Cluster}
use Rattle.cw_topics.specs.Configs.{IsWritableRecord}
use Rattle.cw_serve.specs.Boarding.{IsBoarded}

-- ---- the next records of the config log

-- what is taken behind a first part makes it longer
behind : (xs : List ConfigRecord) (from count : ℕ) → take from xs ++ take count (drop from xs) ≡ take (from + count) xs
behind xs from count =
    ap (λ (l : List ConfigRecord). l ++ take count (drop from xs)) (sym (take-take from (from + count) xs (omega arith))) ∙
    (ap (λ (l : List ConfigRecord). take from (take (from + count) xs) ++ l) (sym (drop-take from count xs)) ∙ take-append-drop from (take (from + count) xs))

pub allowed-next : (xs : List ConfigRecord) (from : ℕ) → AreAllowedConfigs [] xs → AreAllowedConfigs (take from xs) (drop from xs)
allowed-next xs from each =
    each_from-rest IsAllowedConfig [] (take from xs) (drop from xs)
    (subst (λ (l : List ConfigRecord). AreAllowedConfigs [] l) (sym (take-append-drop from xs)) each)

pub allowed-part : (xs : List ConfigRecord) (from count : ℕ) → AreAllowedConfigs [] xs → AreAllowedConfigs (take from xs) (take count (drop from xs))
allowed-part xs from count each =
    each_from-first IsAllowedConfig (take from xs) (take count (drop from xs)) (drop count (drop from xs))
    (subst (λ (l : List ConfigRecord). AreAllowedConfigs (take from xs) l) (sym (take-append-drop count (drop from xs))) (allowed-next xs from each))

-- they can be written
pub writable-part : (before xs : List ConfigRecord) → AreAllowedConfigs before xs → AllByRecursion IsWritableRecord xs
writable-part before xs each = each_from-each IsAllowedConfig IsWritableRecord before xs (λ b r allowed. allowed.kind) each

follow : (before : List ConfigRecord) (r : ConfigRecord) → may_follow before r ≡ true → followed_by before r ≡ Some (before ++ r ∷ [])
follow before r is = rw is refl

-- a config state takes them one after the other
pub takes : (before xs : List ConfigRecord) → AreAllowedConfigs before xs → taken before (map config_applied xs) ≡ Some (before ++ xs)
takes before [] each = ap (λ (l : List ConfigRecord). Some l) (sym (append-nil before))
takes before (r ∷ xs) each =
    let next : option_and_then (followed_by before) (config_in (config_applied r)) ≡ Some (before ++ r ∷ []) =
    ap (option_and_then (followed_by before)) (read-again before r each.0) ∙ follow before r (accepted-allowed before (r ∷ xs) each).0 in
    ap (option_and_then (λ (l : List ConfigRecord). taken l (map config_applied xs))) next ∙
    (takes (before ++ r ∷ []) xs each.1 ∙ ap (λ (l : List ConfigRecord). Some l) (append_assoc before (r ∷ []) xs))

-- ---- what was put for a worker

mine : (w : ℕ) (ps : List Applied) → filter_map (config_for w) (posted w ps) ≡ filter_map config_in ps
mine w [] = refl
mine w (a ∷ ps) =
    let self : (w == w) ≡ true = grind (arith, nat_tests) in
    ap (λ (b : Bool). cons_option (if b then config_in a else None) (filter_map (config_for w) (posted w ps))) self ∙
    ap (cons_option (config_in a)) (mine w ps)

others : (v w : ℕ) (ps : List Applied) → (w ≡ v → ⊥) → filter_map (config_for v) (posted w ps) ≡ []
others v w [] apart = refl
others v w (a ∷ ps) apart =
    let no : (w == v) ≡ false = grind (arith, nat_tests, apart) in
    ap (λ (b : Bool). cons_option (if b then config_in a else None) (filter_map (config_for v) (posted w ps))) no ∙ others v w ps apart

pub put_here : (w : ℕ) (log : List Posted) (ps : List Applied) → configs_of w (log ++ posted w ps) ≡ configs_of w log ++ filter_map config_in ps
put_here w log ps = filter_map-append (config_for w) log (posted w ps) ∙ ap (λ (l : List ConfigRecord). configs_of w log ++ l) (mine w ps)

pub put_elsewhere : (v w : ℕ) (log : List Posted) (ps : List Applied) → (w ≡ v → ⊥) → configs_of v (log ++ posted w ps) ≡ configs_of v log
put_elsewhere v w log ps apart = filter_map-append (config_for v) log (posted w ps) ∙
    (ap (λ (l : List ConfigRecord). configs_of v log ++ l) (others v w ps apart) ∙ append-nil (configs_of v log))

-- ---- the board beside the world

-- nothing is published yet
pub none-boarded : (workers : ℕ) (board : Writing) (given : List ℕ) (s : Cluster) → board.published ≡ [] → board.given ≡ [] → given ≡ replicate workers 0
    → IsBoarded workers board given false s
none-boarded workers board given s published nothing zeros =
    let at : (w : ℕ) → w < workers → slice_index given w ≡ 0 = λ w low. ap (λ (l : List ℕ). slice_index l w) zeros ∙ get_or-replicate workers w 0 0 low in
    record {
      count = ap (λ (l : List ℕ). length l) zeros ∙ length-replicate workers 0;
      first = λ w low. ap (configs_of w) nothing ∙ ap (λ (n : ℕ). take n s.configs) (sym (at w low));
      there = λ w low. subst (λ (n : ℕ). n ≤ length s.configs) (sym (at w low)) (omega arith);
      read = λ w low. subst (λ (n : ℕ). n ≤ (row_of w s).prefix) (sym (at w low)) (omega arith);
      shown = λ _. published ∙ sym nothing;
    }

-- a turn takes nothing back
pub stays-boarded : {workers : ℕ} {board : Writing} {given : List ℕ} {lacks : Bool} {s t : Cluster} → IsBoarded workers board given lacks s → Grows s t
    → IsBoarded workers board given lacks t
stays-boarded {given = given} {s = s} {t = t} was grows = record {
  count = was.count;
  first = λ w low. was.first w low ∙ (sym (take-append-le (slice_index given w) s.configs grows.configs.more (was.there w low)) ∙
      ap (λ (l : List ConfigRecord). take (slice_index given w) l) (sym grows.configs.is));
  there = λ w low.
      let longer : length t.configs ≡ length s.configs + length grows.configs.more =
      ap (λ (l : List ConfigRecord). length l) grows.configs.is ∙ length-append s.configs grows.configs.more in
      let before = was.there w low in omega (arith, longer, before);
  read = λ w low. let before = was.read w low in let more = grows.read w in omega (arith, before, more);
  shown = was.shown;
}

-- so many more were given for a worker
abbrev pub further : List ℕ → ℕ → ℕ → List ℕ
further given w k = slice_set given w (slice_index given w + k)

at-here : (given : List ℕ) (w k : ℕ) → w < length given → slice_index (further given w k) w ≡ slice_index given w + k
at-here given w k low = get_or-set_same given w (slice_index given w + k) 0 low

at-other : (given : List ℕ) (w k v : ℕ) → (w ≡ v → ⊥) → slice_index (further given w k) v ≡ slice_index given v
at-other given w k v apart = get_or-set_other given w v (slice_index given w + k) 0 (λ e. apart (sym e))

-- what holds of the worker and of each other one holds of all
at-each : (P : ℕ → ℕ → Type 0) (given : List ℕ) (w k workers : ℕ) → w < length given → P w (slice_index given w + k)
    → ((v : ℕ) → v < workers → (w ≡ v → ⊥) → P v (slice_index given v)) → (v : ℕ) → v < workers → (b : Bool) → (w == v) ≡ b → P v (slice_index (further given w k) v)
at-each P given w k workers low here there v lower true same =
    let e : w ≡ v = grind (arith, nat_tests) in
    subst (λ (x : ℕ). P x (slice_index (further given w k) x)) e (subst (P w) (sym (at-here given w k low)) here)
at-each P given w k workers low here there v lower false same =
    let apart : w ≡ v → ⊥ = λ e. grind (arith, nat_tests) in
    subst (P v) (sym (at-other given w k v apart)) (there v lower apart)

module _ {workers : ℕ} {board : Writing} {given : List ℕ} {lacks : Bool} {s : Cluster} (was : IsBoarded workers board given lacks s) (now : Writing) (w k : ℕ) (ps : List Applied)
    (low : w < workers) (is : filter_map config_in ps ≡ take k (drop (slice_index given w) s.configs)) (put : now.given ≡ board.given ++ posted w ps) where
  below : w < length given
  below = let count = was.count in omega (arith, count, low)

  first-here : configs_of w now.given ≡ take (slice_index given w + k) s.configs
  first-here = ap (configs_of w) put ∙ (put_here w board.given ps ∙ (ap (λ (l : List ConfigRecord). l ++ filter_map config_in ps) (was.first w low) ∙
      (ap (λ (l : List ConfigRecord). take (slice_index given w) s.configs ++ l) is ∙ behind s.configs (slice_index given w) k)))

  first-other : (v : ℕ) → v < workers → (w ≡ v → ⊥) → configs_of v now.given ≡ take (slice_index given v) s.configs
  first-other v lower apart = ap (configs_of v) put ∙ (put_elsewhere v w board.given ps apart ∙ was.first v lower)

  -- these records were put for a worker
  pub puts-boarded : slice_index given w + k ≤ length s.configs → slice_index given w + k ≤ (row_of w s).prefix → (lack : Bool) → (lack ≡ false → now.published ≡ now.given)
      → IsBoarded workers now (further given w k) lack s
  puts-boarded fits more lack shown = record {
    count = length-set given w (slice_index given w + k) ∙ was.count;
    first = λ v lower. at-each (λ x n. configs_of x now.given ≡ take n s.configs) given w k workers below first-here first-other v lower (w == v) refl;
    there = λ v lower. at-each (λ x n. n ≤ length s.configs) given w k workers below fits (λ x low _. was.there x low) v lower (w == v) refl;
    read = λ v lower. at-each (λ x n. n ≤ (row_of x s).prefix) given w k workers below more (λ x low _. was.read x low) v lower (w == v) refl;
    shown = shown;
  }

-- ---- what a worker has read since

module _ (xs : List ConfigRecord) (from m : ℕ) (each : AreAllowedConfigs [] xs) where
  -- records of it are read again as they are written
  pub read-part : (k : ℕ) → k ≤ m → filter_map config_in (take k (map config_applied (take m (drop from xs)))) ≡ take k (drop from xs)
  read-part k le =
      let ours = take m (drop from xs) in
      let allowed : AreAllowedConfigs (take from xs) (take k ours) = each_from-first IsAllowedConfig (take from xs) (take k ours) (drop k ours)
      (subst (λ (l : List ConfigRecord). AreAllowedConfigs (take from xs) l) (sym (take-append-drop k ours)) (allowed-part xs from m each)) in
      ap (filter_map config_in) (take-map config_applied k ours) ∙ (configs-read (take from xs) (take k ours) allowed ∙ take-take k m (drop from xs) le)

  -- they may be put
  pub may-put : (before : List ConfigRecord) → before ≡ take from xs → IsSome (taken before (map config_applied (take m (drop from xs))))
  may-put before is =
      let took : IsSome (taken (take from xs) (map config_applied (take m (drop from xs)))) =
      subst (λ (o : Option (List ConfigRecord)). IsSome o) (sym (takes (take from xs) (take m (drop from xs)) (allowed-part xs from m each))) refl in
      subst (λ (b : List ConfigRecord). IsSome (taken b (map config_applied (take m (drop from xs))))) (sym is) took

-- where something is lacking, nothing is said of what is shown
pub lacking : {workers : ℕ} {board : Writing} {given : List ℕ} {lacks : Bool} {s : Cluster} → IsBoarded workers board given lacks s → IsBoarded workers board given true s
lacking was = record {
  count = was.count;
  first = was.first;
  there = was.there;
  read = was.read;
  shown = λ e. absurd (let no : true ≡ false = e in cc);
}

-- ---- a put

module _ {workers : ℕ} {board : Writing} {given : List ℕ} {s : Cluster} (was : IsBoarded workers board given true s) (w : ℕ) (low : w < workers)
    (each : AreAllowedConfigs [] s.configs) (sound : (row_of w s).prefix ≤ length s.configs) (from to : ℕ) (is : from ≡ slice_index given w) (to_is : to ≡ (row_of w s).prefix)
    (ps : List Applied) (ps_are : ps ≡ map config_applied (take (to - from) (drop from s.configs))) where
  within : w < length given
  within = let count = was.count in omega (arith, count, low)

  low-from : from ≤ to
  low-from = let read = was.read w low in omega (arith, read, is, to_is)

  count : length ps ≡ to - from
  count =
      let long : length (drop from s.configs) ≡ length s.configs - from = length-drop from s.configs in
      let fits : to - from ≤ length (drop from s.configs) = let l = low-from in omega (arith, l, sound, long, to_is) in
      ap (λ (l : List Applied). length l) ps_are ∙
      (length-map (take (to - from) (drop from s.configs)) config_applied ∙ length-take-le (to - from) (drop from s.configs) fits)

  part-is : (k : ℕ) → k ≤ to - from → filter_map config_in (take k ps) ≡ take k (drop (slice_index given w) s.configs)
  part-is k le = ap (λ (l : List Applied). filter_map config_in (take k l)) ps_are ∙
      (read-part s.configs from (to - from) each k le ∙ ap (λ (n : ℕ). take k (drop n s.configs)) is)

  -- a config state takes them all
  pub takes-all : IsSome (taken (configs_of w board.given) ps)
  takes-all = subst (λ (l : List Applied). IsSome (taken (configs_of w board.given) l)) (sym ps_are)
      (may-put s.configs from (to - from) each (configs_of w board.given) (was.first w low ∙ ap (λ (n : ℕ). take n s.configs) (sym is)))

  some : (now : Writing) (k : ℕ) → k ≤ to - from → now.given ≡ board.given ++ posted w (take k ps) → (lack : Bool) → (lack ≡ false → now.published ≡ now.given)
      → IsBoarded workers now (slice_set given w (from + k)) lack s
  some now k le put lack shown =
      let fits : from + k ≤ length s.configs = let l = low-from in omega (arith, le, l, sound, to_is) in
      let more : from + k ≤ (row_of w s).prefix = let l = low-from in omega (arith, le, l, to_is) in
      subst (λ (n : ℕ). IsBoarded workers now (slice_set given w (n + k)) lack s) (sym is)
      (puts-boarded was now w k (take k ps) low (part-is k le) put (subst (λ (n : ℕ). n + k ≤ length s.configs) is fits)
      (subst (λ (n : ℕ). n + k ≤ (row_of w s).prefix) is more) lack shown)

  -- all was put
  pub puts-all : (now : Writing) → now.published ≡ board.given ++ posted w ps → now.given ≡ now.published → IsBoarded workers now (slice_set given w to) false s
  puts-all now published all =
      let put : now.given ≡ board.given ++ posted w (take (length ps) ps) = all ∙ (published ∙ ap (λ (l : List Applied). board.given ++ posted w l) (sym (take_all (length ps) ps (omega arith)))) in
      let le : length ps ≤ to - from = let n = count in omega (arith, n) in
      let whole : from + length ps ≡ to = let n = count in let l = low-from in omega (arith, n, l) in
      subst (λ (n : ℕ). IsBoarded workers now (slice_set given w n) false s) whole (some now (length ps) le put false (λ _. sym all))

  -- some were put
  pub puts-some : (now : Writing) (k : ℕ) → k ≤ length ps → now.given ≡ board.given ++ posted w (take k ps) → IsBoarded workers now (slice_set given w (from + k)) true s
  puts-some now k le put =
      let fits : k ≤ to - from = let n = count in omega (arith, n, le) in
      some now k fits put true (λ e. absurd (let no : true ≡ false = e in cc))

  pub fits-some : (k : ℕ) → k ≤ length ps → from + k ≤ to
  fits-some k le = let n = count in let l = low-from in omega (arith, n, l, le)
