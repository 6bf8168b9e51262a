use Rattle.std.proofs.Common.{◌≡◌, ℕ, suc, ◌-◌, ◌+◌, ◌<◌, ◌≤◌, List, [], ◌∷◌, ◌++◌, length, length-append, take, drop, true, ltb, leb, codes, refl, sym, ap, ◌∙◌, append_assoc, append-nil, arith, rules}
use Rattle.std.proofs.lemmas.Bool.Decides.{nat_tests}
use Rattle.std.proofs.lemmas.List.{drop_at}
use Rattle.matchit.specs.Rows.{param_token}
use Rattle.matchit.specs.Seek.{segment}
use Rattle.matchit.specs.Params.{walk, wild_from, wild_stop, next_at, part_of, after_token}
use Rattle.cw_route.specs.declared.page.Page.{Page}
use Rattle.cw_route.specs.declared.page.Page.TheVariants.{Connectors, Plugins, Connector, Config, Offsets, Pause, Resume, Stop, Restart, Status, Tasks, TaskRestart, TaskStatus}
use Rattle.cw_route.specs.Table.{page_route, page_path, page_params}
use Rattle.cw_route.specs.Calls.{params_of}
use Rattle.cw_route.specs.Spelled.{IsSegment, AreBytes}
use Rattle.cw_route.proofs.Levels.{segment_to}

next_within : (len at : ℕ) → at < len → next_at len at ≡ at + 1
next_within len at low = let yes : ltb at len ≡ true = grind (arith, nat_tests) in rw yes refl

-- literal tokens are passed, one byte of the path each
lits : (t rest : List ℕ) (len token at : ℕ) → AreBytes t → at + length t ≤ len → wild_from (t ++ rest) len token at ≡ wild_from rest len (token + length t) (at + length t)
lits [] rest len token at small low = let a : token + 0 ≡ token = omega arith in let b : at + 0 ≡ at = omega arith in rw (a, b) refl
lits (x ∷ t) rest len token at small low =
    let byte : x < 256 = small.0 in
    let yes : ltb x 256 ≡ true = grind (arith, nat_tests) in
    let here : wild_from ((x ∷ t) ++ rest) len token at ≡ wild_from (t ++ rest) len (token + 1) (at + 1) = rw (yes, next_within len at (omega arith)) refl in
    let a : token + 1 + length t ≡ token + suc (length t) = omega arith in
    let b : at + 1 + length t ≡ at + suc (length t) = omega arith in
    here ∙ lits t rest len (token + 1) (at + 1) small.1 (omega arith) ∙ ap (λ k. wild_from rest len k (at + 1 + length t)) a ∙ ap (wild_from rest len (token + suc (length t))) b

-- the part between two texts
part_is : (front n back : List ℕ) (at stop : ℕ) → length front ≡ at → stop ≡ at + length n → part_of (front ++ (n ++ back)) at stop ≡ n
part_is front n back at stop size e =
    let all : length (front ++ (n ++ back)) ≡ length front + length (n ++ back) = length-append front (n ++ back) in
    let some : length (n ++ back) ≡ length n + length back = length-append n back in
    let low : leb at stop ≡ true = grind (arith, nat_tests, e) in
    let high : leb stop (length (front ++ (n ++ back))) ≡ true = grind (arith, nat_tests, e, all, some, size) in
    let there : drop at (front ++ (n ++ back)) ≡ n ++ back = drop_at front (n ++ back) at size in
    let much : stop - at ≡ length n = omega (arith, e) in
    rw (low, high) (ap (take (stop - at)) there ∙ ap (λ k. take k (n ++ back)) much ∙ take_front n back)
  where
    take_front : (xs ys : List ℕ) → take (length xs) (xs ++ ys) ≡ xs
    take_front [] ys = refl
    take_front (x ∷ xs) ys = ap (λ zs. x ∷ zs) (take_front xs ys)

-- one parameter of a walk
one_taken : (pattern text path : List ℕ) (name : ℕ × ℕ) (more : List (ℕ × ℕ)) (token at stop : ℕ) (p : ℕ × ℕ) (n : List ℕ)
    → wild_from (drop token pattern) (length path) token at ≡ p → wild_stop pattern p.0 path p.1 ≡ stop → part_of path p.1 stop ≡ n
    → walk pattern text path (name ∷ more) token at ≡ (part_of text name.0 name.1, n) ∷ walk pattern text path more (after_token p.0) stop
one_taken pattern text path name more token at stop p n from stops part =
    let row : List ℕ → List (List ℕ × List ℕ) → List (List ℕ × List ℕ) = λ m rest. (part_of text name.0 name.1, m) ∷ rest in
    ap (λ (q : ℕ × ℕ). row (part_of path q.1 (wild_stop pattern q.0 path q.1)) (walk pattern text path more (after_token q.0) (wild_stop pattern q.0 path q.1))) from
    ∙ ap (λ s. row (part_of path p.1 s) (walk pattern text path more (after_token p.0) s)) stops
    ∙ ap (λ m. row m (walk pattern text path more (after_token p.0) stop)) part

-- the end of a part before a slash
slash_end : (n back : List ℕ) (at : ℕ) → IsSegment n → at + length (segment (n ++ 47 ∷ back)) - 1 ≡ at + length n
slash_end n back at s =
    let seg : length (segment (n ++ 47 ∷ back)) ≡ length (n ++ 47 ∷ []) = ap length (segment_to n back s.whole) in
    omega (arith, seg, length-append n (47 ∷ []))

abbrev front : List ℕ
front = codes "/connectors/"

-- the name in a path that goes on behind it
name_taken : (text rest n back : List ℕ) (more : List (ℕ × ℕ)) → IsSegment n
    → wild_stop (front ++ param_token ∷ rest) 12 (front ++ (n ++ 47 ∷ back)) 12 ≡ 12 + length (segment (n ++ 47 ∷ back)) - 1
    → walk (front ++ param_token ∷ rest) text (front ++ (n ++ 47 ∷ back)) ((13, 17) ∷ more) 0 0
    ≡ (part_of text 13 17, n) ∷ walk (front ++ param_token ∷ rest) text (front ++ (n ++ 47 ∷ back)) more 13 (12 + length n)
name_taken text rest n back more s stops =
    let path : List ℕ = front ++ (n ++ 47 ∷ back) in
    let size : length path ≡ 12 + length (n ++ 47 ∷ back) = length-append front (n ++ 47 ∷ back) in
    let from : wild_from (front ++ param_token ∷ rest) (length path) 0 0 ≡ (12, 12) = lits front (param_token ∷ rest) (length path) 0 0 (search rules) (omega (arith, size)) in
    one_taken (front ++ param_token ∷ rest) text path (13, 17) more 0 0 (12 + length n) (12, 12) n from (stops ∙ slash_end n back 12 s)
    (part_is front n (47 ∷ back) 12 (12 + length n) refl refl)

-- the number of a task in a path that goes on behind it
task_taken : (text rest n i back : List ℕ) → IsSegment n → IsSegment i
    → ((path : List ℕ) (at : ℕ) → wild_stop (front ++ param_token ∷ (codes "/tasks/" ++ param_token ∷ rest)) 20 path at ≡ at + length (segment (drop at path)) - 1)
    → walk (front ++ param_token ∷ (codes "/tasks/" ++ param_token ∷ rest)) text (front ++ (n ++ (codes "/tasks/" ++ (i ++ 47 ∷ back)))) ((26, 30) ∷ []) 13 (12 + length n)
    ≡ (part_of text 26 30, i) ∷ []
task_taken text rest n i back s t stops =
    let tail : List ℕ = i ++ 47 ∷ back in
    let path : List ℕ = front ++ (n ++ (codes "/tasks/" ++ tail)) in
    let pattern : List ℕ = front ++ param_token ∷ (codes "/tasks/" ++ param_token ∷ rest) in
    let before : List ℕ = front ++ (n ++ codes "/tasks/") in
    let cut : before ++ tail ≡ path = ap (λ ys. front ++ ys) (append_assoc n (codes "/tasks/") tail) in
    let at : ℕ = 12 + length n + 7 in
    let long : length before ≡ at = length-append front (n ++ codes "/tasks/") ∙ ap (λ k. 12 + k) (length-append n (codes "/tasks/")) ∙ (omega arith) in
    let size : length path ≡ length before + length tail = ap length (sym cut) ∙ length-append before tail in
    let from : wild_from (drop 13 pattern) (length path) 13 (12 + length n) ≡ (20, at) = lits (codes "/tasks/") (param_token ∷ rest) (length path) 13 (12 + length n) (search rules) (omega (arith, size, long)) in
    let there : drop at path ≡ tail = ap (drop at) (sym cut) ∙ drop_at before tail at long in
    let stop : wild_stop pattern 20 path at ≡ at + length i = stops path at ∙ ap (λ ys. at + length (segment ys) - 1) there ∙ slash_end i back at t in
    let part : part_of path at (at + length i) ≡ i = ap (λ ys. part_of ys at (at + length i)) (sym cut) ∙ part_is before i (47 ∷ back) at (at + length i) long refl in
    one_taken pattern text path (26, 30) [] 13 (12 + length n) (at + length i) (20, at) i from stop part

-- the name at the end of a path
last_taken : (n : List ℕ) → params_of (page_path Connector n []) (page_route Connector) ≡ (codes "name", n) ∷ []
last_taken n =
    let path : List ℕ = front ++ n in
    let size : length path ≡ 12 + length n = length-append front n in
    let from : wild_from (front ++ param_token ∷ []) (length path) 0 0 ≡ (12, 12) = lits front (param_token ∷ []) (length path) 0 0 (search rules) (omega (arith, size)) in
    let part : part_of path 12 (length path) ≡ n = ap (λ ys. part_of (front ++ ys) 12 (length path)) (sym (append-nil n)) ∙ part_is front n [] 12 (length path) refl size in
    one_taken (front ++ param_token ∷ []) (page_route Connector).text path (13, 17) [] 0 0 (length path) (12, 12) n from refl part

-- the parts that a page's parameters take of its path
pub params_taken : (page : Page) (n i : List ℕ) → IsSegment n → IsSegment i → params_of (page_path page n i) (page_route page) ≡ page_params page n i
params_taken Connectors n i s t = refl
params_taken Plugins n i s t = refl
params_taken Connector n i s t = last_taken n
params_taken Config n i s t = name_taken (page_route Config).text (codes "/config") n (codes "config") [] s refl
params_taken Offsets n i s t = name_taken (page_route Offsets).text (codes "/offsets") n (codes "offsets") [] s refl
params_taken Pause n i s t = name_taken (page_route Pause).text (codes "/pause") n (codes "pause") [] s refl
params_taken Resume n i s t = name_taken (page_route Resume).text (codes "/resume") n (codes "resume") [] s refl
params_taken Stop n i s t = name_taken (page_route Stop).text (codes "/stop") n (codes "stop") [] s refl
params_taken Restart n i s t = name_taken (page_route Restart).text (codes "/restart") n (codes "restart") [] s refl
params_taken Status n i s t = name_taken (page_route Status).text (codes "/status") n (codes "status") [] s refl
params_taken Tasks n i s t = name_taken (page_route Tasks).text (codes "/tasks") n (codes "tasks") [] s refl
params_taken TaskRestart n i s t =
    name_taken (page_route TaskRestart).text (codes "/tasks/" ++ param_token ∷ codes "/restart") n (codes "tasks/" ++ (i ++ codes "/restart")) ((26, 30) ∷ []) s refl
    ∙ ap (λ rest. (codes "name", n) ∷ rest) (task_taken (page_route TaskRestart).text (codes "/restart") n i (codes "restart") s t (λ path at. refl))
params_taken TaskStatus n i s t =
    name_taken (page_route TaskStatus).text (codes "/tasks/" ++ param_token ∷ codes "/status") n (codes "tasks/" ++ (i ++ codes "/status")) ((26, 30) ∷ []) s refl
    ∙ ap (λ rest. (codes "name", n) ∷ rest) (task_taken (page_route TaskStatus).text (codes "/status") n i (codes "status") s t (λ path at. refl))
