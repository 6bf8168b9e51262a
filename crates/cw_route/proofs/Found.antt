use Rattle.std.proofs.Common.{◌≡◌, ℕ, ◌-◌, ◌<◌, List, [], ◌∷◌, ◌++◌, length, length-append, false, Some, codes, refl, sym, ap, ◌∙◌, append-nil, arith}
use Rattle.matchit.specs.Rows.{RowsOf, param_token}
use Rattle.matchit.specs.Router.{RouteOf}
use Rattle.matchit.specs.Seek.{seek, first, param_step, has_slash}
use Rattle.matchit.proofs.OnLiterals.{matchit_on_literals}
use Rattle.cw_route.specs.declared.page.Page.{Page}
use Rattle.cw_route.specs.declared.page.Page.TheVariants.{Connectors, Plugins, Connector, Config, Offsets, Pause, Resume, Stop, Restart, Status, Tasks, TaskRestart, TaskStatus}
use Rattle.cw_route.specs.Table.{table, page_route, page_path}
use Rattle.cw_route.specs.Spelled.{IsSegment}
use Rattle.cw_route.proofs.Spells.{under, param_at, seek_skip, segment_whole, pass}
use Rattle.cw_route.proofs.Levels.{no_cut, segment_to, cut_there}

abbrev Paths : Type 0
Paths = RowsOf (RouteOf Page)

-- behind the number of a task
abbrev task_rests : Paths
task_rests = (codes "/restart", page_route TaskRestart) ∷ (codes "/status", page_route TaskStatus) ∷ []

-- behind a name and a slash
abbrev slashed : Paths
slashed =
    (codes "/config", page_route Config) ∷ (codes "/offsets", page_route Offsets) ∷ (codes "/pause", page_route Pause)
    ∷ (codes "/restart", page_route Restart) ∷ (codes "/resume", page_route Resume) ∷ (codes "/status", page_route Status) ∷ (codes "/stop", page_route Stop)
    ∷ (codes "/tasks/" ++ param_token ∷ codes "/restart", page_route TaskRestart) ∷ (codes "/tasks/" ++ param_token ∷ codes "/status", page_route TaskStatus)
    ∷ (codes "/tasks", page_route Tasks) ∷ []

-- behind a name
abbrev rests : Paths
rests = slashed ++ ([], page_route Connector) ∷ []

abbrev below : Paths
below = under (param_token ∷ []) rests

whole_step : (n : List ℕ) → 0 < length n → has_slash n ≡ false → param_step rests n ≡ (length n, rests)
unfolding param_step
whole_step n some h = rw (segment_whole n h, no_cut n some h, h) refl

name_step : (n back : List ℕ) → 0 < length n → has_slash n ≡ false → param_step rests (n ++ 47 ∷ back) ≡ (length (n ++ 47 ∷ []) - 1, slashed)
unfolding param_step
name_step n back some h = rw (segment_to n back h, cut_there n some) refl

task_step : (n back : List ℕ) → 0 < length n → has_slash n ≡ false → param_step task_rests (n ++ 47 ∷ back) ≡ (length (n ++ 47 ∷ []) - 1, task_rests)
unfolding param_step
task_step n back some h = rw (segment_to n back h, cut_there n some) refl

-- a parameter before a slash leaves the slash to the rows that go on with it
behind_part : (rows more : Paths) → ((n back : List ℕ) → 0 < length n → has_slash n ≡ false → param_step rows (n ++ 47 ∷ back) ≡ (length (n ++ 47 ∷ []) - 1, more))
    → (n back : List ℕ) (r : RouteOf Page) → IsSegment n → first more (47 ∷ back) ≡ Some r → first (under (param_token ∷ []) rows) (n ++ 47 ∷ back) ≡ Some r
unfolding seek
behind_part rows more taken [] back r s e = absurd (omega (arith, s.some))
behind_part rows more taken (c ∷ cs) back r s e =
    let size : length ((c ∷ cs) ++ 47 ∷ []) - 1 - 1 ≡ length cs = omega (arith, length-append (c ∷ cs) (47 ∷ [])) in
    param_at c (cs ++ 47 ∷ back) rows more (length ((c ∷ cs) ++ 47 ∷ []) - 1) s.bytes.0 (taken (c ∷ cs) back s.some s.whole) r
    (ap (λ k. seek k more (cs ++ 47 ∷ back)) size ∙ seek_skip more cs (47 ∷ back) ∙ e)

-- below the connectors
to_below : (rest : List ℕ) → first table (codes "/connectors/" ++ rest) ≡ first below rest
to_below rest = pass (codes "/connectors/") table rest refl

name_found : (n : List ℕ) → IsSegment n → first below n ≡ Some (page_route Connector)
unfolding seek
name_found [] s = absurd (omega (arith, s.some))
name_found (c ∷ cs) s =
    let skipped : seek (length cs) rests cs ≡ Some (page_route Connector) = ap (seek (length cs) rests) (sym (append-nil cs)) ∙ seek_skip rests cs [] in
    param_at c cs rests rests (length (c ∷ cs)) s.bytes.0 (whole_step (c ∷ cs) s.some s.whole) (page_route Connector)
    (let less : length (c ∷ cs) - 1 ≡ length cs = omega arith in ap (λ k. seek k rests cs) less ∙ skipped)

-- a page below a name
word_found : (n word : List ℕ) (page : Page) → IsSegment n → first slashed (47 ∷ word) ≡ Some (page_route page) → first table (codes "/connectors/" ++ (n ++ 47 ∷ word)) ≡ Some (page_route page)
word_found n word page s e = to_below (n ++ 47 ∷ word) ∙ behind_part rests slashed name_step n word (page_route page) s e

-- a page below a task
task_found : (n i word : List ℕ) (page : Page) → IsSegment n → IsSegment i → first task_rests (47 ∷ word) ≡ Some (page_route page)
    → first table (codes "/connectors/" ++ (n ++ (codes "/tasks/" ++ (i ++ 47 ∷ word)))) ≡ Some (page_route page)
task_found n i word page s t e =
    word_found n (codes "tasks/" ++ (i ++ 47 ∷ word)) page s
    (pass (codes "/tasks/") slashed (i ++ 47 ∷ word) refl ∙ behind_part task_rests task_rests task_step i word (page_route page) t e)

-- a path that a page's pattern spells is found
pub page_found : (page : Page) (n i : List ℕ) → IsSegment n → IsSegment i → first table (page_path page n i) ≡ Some (page_route page)
unfolding matchit_on_literals
page_found Connectors n i s t = refl
page_found Plugins n i s t = refl
page_found Connector n i s t = to_below n ∙ name_found n s
page_found Config n i s t = word_found n (codes "config") Config s refl
page_found Offsets n i s t = word_found n (codes "offsets") Offsets s refl
page_found Pause n i s t = word_found n (codes "pause") Pause s refl
page_found Resume n i s t = word_found n (codes "resume") Resume s refl
page_found Stop n i s t = word_found n (codes "stop") Stop s refl
page_found Restart n i s t = word_found n (codes "restart") Restart s refl
page_found Status n i s t = word_found n (codes "status") Status s refl
page_found Tasks n i s t = word_found n (codes "tasks") Tasks s refl
page_found TaskRestart n i s t = task_found n i (codes "restart") TaskRestart s t refl
page_found TaskStatus n i s t = task_found n i (codes "status") TaskStatus s t refl
