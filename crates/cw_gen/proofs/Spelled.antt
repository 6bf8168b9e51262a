-- The directives that are due can be played: each is spelled as a short line, and names nobody who never was.
use Rattle.std.proofs.Common.{◌≡◌, ℕ, zero, suc, ◌+◌, ◌-◌, ◌*◌, ◌/◌, ◌^◌, ◌<◌, ◌≤◌, ◌==◌, List, [], ◌∷◌, ◌++◌, length, min, nat_eq, nat_lt, Bool, true, false, not, ◌&&◌, None, codes, decimal, refl, arith, length-append, if◌then◌else◌}
use Rattle.std.specs.List.{list_all}
use Rattle.std.specs.Char.{is_ascii_digit}
use Rattle.std.proofs.lemmas.Bool.Decides.{nat_tests}
use Rattle.std.proofs.lemmas.Fmt.{digits_decimal, length-decimal-le}
use Rattle.std.proofs.Math.Nat.{mod-lt}
use Rattle.cw_types.proofs.Decimals.{own}
use Rattle.cw_script.specs.declared.directive.Directive.{Directive}
use Rattle.cw_script.specs.declared.directive.Directive.TheVariants as directive
use Rattle.cw_script.specs.Spelling.{IsSayable, IsWord, spelled}
use Rattle.cw_lines.specs.Lines.{is_line}
use Rattle.cw_lines.proofs.LineLemmas.{is_line-append}
use Rattle.cw_model.specs.State.{Cluster}
use Rattle.cw_run.specs.Run.{missing, unless_instance, unless_worker}
use Rattle.cw_gen.specs.Draws.{next_number, drawn}
use Rattle.cw_gen.specs.Directives.{Due, by_draw, creation, due, source_config, step_from, turn_of}
use Rattle.cw_gen.specs.Playing.{IsPlayable}

drawn-below : (k x : ℕ) → 0 < k → drawn k x < k
unfolding drawn
drawn-below k x some = mod-lt (next_number x / 2 ^ 33) some

-- ---- lines

-- a line of at most so many bytes
pub record IsFine (most : ℕ) (line : List ℕ) : Type 0 where
  pub whole : is_line line ≡ true
  pub short : length line ≤ most

fine-append : (m n : ℕ) (xs ys : List ℕ) → IsFine m xs → IsFine n ys → IsFine (m + n) (xs ++ ys)
fine-append m n xs ys f g = record { whole = is_line-append xs ys f.whole g.whole; short = omega (arith, length-append xs ys, f.short, g.short) }

fine-more : (m n : ℕ) (xs : List ℕ) → IsFine m xs → m ≤ n → IsFine n xs
fine-more m n xs f more = record { whole = f.whole; short = omega (arith, f.short, more) }

fine-space : (n : ℕ) (xs : List ℕ) → IsFine n xs → IsFine (n + 1) (32 ∷ xs)
unfolding is_line
fine-space n xs f = record { whole = f.whole; short = omega (arith, f.short) }

no_end : (b : ℕ) → is_ascii_digit b ≡ true → nat_eq b 10 ≡ false
no_end b e = grind (arith, nat_tests)

and_both : (a b : Bool) → (a && b) ≡ true → (a ≡ true) × (b ≡ true)
and_both true b e = (refl, e)
and_both false b e = absurd (cc)

digits-line : (ds : List ℕ) → list_all is_ascii_digit ds ≡ true → is_line ds ≡ true
unfolding is_line
digits-line [] e = refl
digits-line (d ∷ ds) e =
    let both = and_both (is_ascii_digit d) (list_all is_ascii_digit ds) e in
    rw (no_end d both.0) (digits-line ds both.1)

fine-decimal : (n : ℕ) → n < 2 ^ 64 → IsFine 20 (decimal n)
fine-decimal n fits = record { whole = digits-line (decimal n) (digits_decimal own n fits); short = length-decimal-le 20 n (omega arith) (omega arith) fits }

text-fine : (text : List ℕ) → is_line text ≡ true → length text ≤ 1000 → IsFine 1000 text
text-fine text whole short = record { whole = whole; short = short }

word-by_test : (bytes : List ℕ) → list_all (λ b. not (nat_eq b 32)) bytes ≡ true → IsWord bytes
word-by_test [] e = tt
word-by_test (b ∷ bytes) e =
    let both = and_both (not (nat_eq b 32)) (list_all (λ b. not (nat_eq b 32)) bytes) e in
    (no_space (nat_eq b 32) both.0, word-by_test bytes both.1)
  where
    no_space : (t : Bool) → not t ≡ true → t ≡ false
    no_space true e = cc
    no_space false e = refl

config-fine : (batch : ℕ) → batch < 2 ^ 64 → IsFine 3000 (source_config batch)
unfolding is_line
config-fine batch fits =
    fine-more 2020 3000 (source_config batch)
    (fine-append 1020 1000 (codes "{\"connector.class\":\"SequenceSource\",\"partitions\":8,\"count\":1000,\"tasks.max\":4,\"batch.size\":" ++ decimal batch) (codes ",\"topic\":\"t\"}")
    (fine-append 1000 20 (codes "{\"connector.class\":\"SequenceSource\",\"partitions\":8,\"count\":1000,\"tasks.max\":4,\"batch.size\":") (decimal batch)
    (text-fine (codes "{\"connector.class\":\"SequenceSource\",\"partitions\":8,\"count\":1000,\"tasks.max\":4,\"batch.size\":") refl (omega arith)) (fine-decimal batch fits))
    (text-fine (codes ",\"topic\":\"t\"}") refl (omega arith)))
    (omega arith)

-- ---- directives

-- whom it names
worker-there : (w : ℕ) (s : Cluster) → w < length s.rows → unless_worker w s ≡ None
worker-there w s below = let yes : nat_lt w (length s.rows) ≡ true = grind (arith, nat_tests) in rw yes refl

instance-there : (i : ℕ) (s : Cluster) → i < length s.instances → unless_instance i s ≡ None
instance-there i s below = let yes : nat_lt i (length s.instances) ≡ true = grind (arith, nat_tests) in rw yes refl

module _ (s : Cluster) where
  plays : (d : Directive) → IsSayable d → missing d s ≡ None → IsFine 65536 (spelled d) → IsPlayable d s
  plays d sayable there fine = record { line = fine.whole; short = fine.short; sayable = sayable; there = there }

  -- a word and a number
  word-fine : (word : List ℕ) (n : ℕ) → is_line word ≡ true → length word ≤ 1000 → n < 2 ^ 64 → IsFine 65536 (word ++ 32 ∷ decimal n)
  word-fine word n whole short fits =
      fine-more 1021 65536 (word ++ 32 ∷ decimal n) (fine-append 1000 21 word (32 ∷ decimal n) (text-fine word whole short) (fine-space 20 (decimal n) (fine-decimal n fits))) (omega arith)

  spawn-plays : IsPlayable directive.Spawn s
  unfolding is_line
  spawn-plays = plays directive.Spawn tt refl record { whole = refl; short = omega arith }

  settle-plays : (most : ℕ) → 1 ≤ most → most ≤ 1000000 → IsPlayable (directive.Settle most) s
  unfolding is_line
  settle-plays most some few = plays (directive.Settle most) (some, few) refl (word-fine (codes "settle") most refl (omega arith) (omega (arith, few)))

  clock-plays : (to : ℕ) → to < 2 ^ 64 → IsPlayable (directive.Clock to) s
  unfolding is_line
  clock-plays to fits = plays (directive.Clock to) fits refl (word-fine (codes "clock") to refl (omega arith) fits)

  step-plays : (i : ℕ) → i < length s.instances → i < 2 ^ 64 → IsPlayable (directive.Step i) s
  unfolding is_line
  step-plays i below fits = plays (directive.Step i) fits (instance-there i s below) (word-fine (codes "step") i refl (omega arith) fits)

  -- of one of three workers
  module _ (enough : 3 ≤ length s.rows) (w : ℕ) (below : w < 3) where
    fits : w < 2 ^ 64
    fits = omega (arith, below)

    there : unless_worker w s ≡ None
    there = worker-there w s (omega (arith, below, enough))

    tick-plays : IsPlayable (directive.Tick w) s
    unfolding is_line
    tick-plays = plays (directive.Tick w) fits there (word-fine (codes "tick") w refl (omega arith) fits)

    turn-plays : (kind : ℕ) → IsPlayable (turn_of kind w) s
    unfolding is_line
    turn-plays kind = choose (kind == 0) (kind == 1) where
      choose : (a b : Bool) → IsPlayable (if a then directive.Expire w else if b then directive.Deaf w else directive.Hear w) s
      choose true b = plays (directive.Expire w) fits there (word-fine (codes "expire") w refl (omega arith) fits)
      choose false true = plays (directive.Deaf w) fits there (word-fine (codes "deaf") w refl (omega arith) fits)
      choose false false = plays (directive.Hear w) fits there (word-fine (codes "hear") w refl (omega arith) fits)

    -- a request with a body
    rest-plays : (method target : List ℕ) (c : ℕ) (cs : List ℕ) → IsFine 1000 method → IsFine 1000 target → IsFine 5000 (c ∷ cs) → IsWord method → IsWord target →
        IsPlayable (directive.Rest w method target (c ∷ cs)) s
    unfolding is_line
    rest-plays method target c cs f g h one other =
        plays (directive.Rest w method target (c ∷ cs)) (record { worker_fits = fits; one_method = one; one_target = other }) there
        (fine-more _ 65536 (spelled (directive.Rest w method target (c ∷ cs)))
        (fine-append 1000 _ (codes "rest") _ (text-fine (codes "rest") refl (omega arith)) (fine-space _ _
        (fine-append 20 _ (decimal w) _ (fine-decimal w fits) (fine-space _ _
        (fine-append 1000 _ method _ f (fine-space _ _
        (fine-append 1000 5001 target (32 ∷ c ∷ cs) g (fine-space 5000 (c ∷ cs) h)))))))
        ) (omega arith))

    put-plays : (batch : ℕ) → batch < 2 ^ 64 → IsPlayable (directive.Rest w (codes "PUT") (codes "/connectors/g/config") (source_config batch)) s
    unfolding is_line
    put-plays batch small =
        rest-plays (codes "PUT") (codes "/connectors/g/config") _ _ (text-fine (codes "PUT") refl (omega arith)) (text-fine (codes "/connectors/g/config") refl (omega arith))
        (fine-more 3000 5000 (source_config batch) (config-fine batch small) (omega arith)) (word-by_test (codes "PUT") refl) (word-by_test (codes "/connectors/g/config") refl)

  creation-plays : 3 ≤ length s.rows → IsPlayable creation s
  unfolding is_line
  creation-plays enough =
      rest-plays enough 0 (omega arith) (codes "POST") (codes "/connectors") _ _ (text-fine (codes "POST") refl (omega arith)) (text-fine (codes "/connectors") refl (omega arith))
      (fine-append 4000 1000 (codes "{\"name\":\"g\",\"config\":" ++ source_config 7) (codes "}")
      (fine-append 1000 3000 (codes "{\"name\":\"g\",\"config\":") (source_config 7) (text-fine (codes "{\"name\":\"g\",\"config\":") refl (omega arith)) (config-fine 7 (omega arith)))
      (text-fine (codes "}") refl (omega arith)))
      (word-by_test (codes "POST") refl) (word-by_test (codes "/connectors") refl)

  -- ---- what is due

  abbrev Plays : Due → Type 0
  Plays d = IsPlayable d.directive s

  either : (b : Bool) (x y : Due) → (b ≡ true → Plays x) → (b ≡ false → Plays y) → Plays (if b then x else y)
  either true x y so else_so = so refl
  either false x y so else_so = else_so refl

  step_from-plays : (x : ℕ) → length s.instances < 2 ^ 64 → Plays (step_from (length s.instances) x)
  step_from-plays x fit = either (length s.instances == 0) _ _ (λ none. settle-plays 10 (omega arith) (omega arith))
      (λ some. let there : 0 < length s.instances = grind (arith, nat_tests, some) in
      let below : drawn (length s.instances) x < length s.instances = drawn-below (length s.instances) x there in
      step-plays (drawn (length s.instances) x) below (omega (arith, below, fit)))

  module _ (enough : 3 ≤ length s.rows) (fit : length s.instances < 2 ^ 64) (moment : ℕ) where
    by_draw-plays : (d x : ℕ) → Plays (by_draw d (length s.instances) moment x)
    by_draw-plays d x =
        let below : (y : ℕ) → drawn 3 y < 3 = λ y. drawn-below 3 y (omega arith) in
        either (nat_lt d 6) _ _ (λ is. tick-plays enough (drawn 3 x) (below x))
        (λ no. either (nat_lt d 13) _ _ (λ is. step_from-plays x fit)
        (λ no. either (d == 13) _ _ (λ is. put-plays enough (drawn 3 x) (below x) (1 + drawn 9 (next_number x))
        (let few : drawn 9 (next_number x) < 9 = drawn-below 9 (next_number x) (omega arith) in omega (arith, few)))
        (λ no. either (d == 14) _ _ (λ is. turn-plays enough (drawn 3 (next_number x)) (below (next_number x)) (drawn 3 x))
        (λ no. clock-plays (min (moment + 60000 * drawn 10 x) (2 ^ 64 - 1)) (omega arith)))))

  module _ (moment : ℕ) (fit : length s.instances < 2 ^ 64) where
    pub due-plays : (made x : ℕ) → min made 3 ≤ length s.rows → Plays (due made (length s.instances) moment x)
    due-plays zero x crowd = spawn-plays
    due-plays (suc zero) x crowd = spawn-plays
    due-plays (suc (suc zero)) x crowd = spawn-plays
    due-plays (suc (suc (suc zero))) x crowd = settle-plays 1000 (omega arith) (omega arith)
    due-plays (suc (suc (suc (suc zero)))) x crowd = creation-plays (omega arith)
    due-plays (suc (suc (suc (suc (suc zero))))) x crowd = settle-plays 1000 (omega arith) (omega arith)
    due-plays (suc (suc (suc (suc (suc (suc made)))))) x crowd = by_draw-plays (omega arith) fit moment (drawn 16 x) (next_number x)

-- the first three are workers that come
pub due-spawns : (made instances moment x : ℕ) → made < 3 → (due made instances moment x).directive ≡ directive.Spawn
due-spawns zero instances moment x few = refl
due-spawns (suc zero) instances moment x few = refl
due-spawns (suc (suc zero)) instances moment x few = refl
due-spawns (suc (suc (suc made))) instances moment x few = absurd (omega arith)
