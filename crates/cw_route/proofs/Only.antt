use Rattle.std.proofs.Common.{◌≡◌, inl, inr, ℕ, List, [], ◌∷◌, ◌++◌, append-nil, codes, length, Some, refl, sym, ap, subst, ◌∙◌, arith}
use Rattle.matchit.specs.Router.{RouteOf}
use Rattle.matchit.specs.Seek.{first}
use Rattle.cw_route.specs.declared.page.Page.{Page}
use Rattle.cw_route.specs.declared.page.Page.TheVariants.{Connectors, Plugins, Connector, Config, Offsets, Pause, Resume, Stop, Restart, Status, Tasks, TaskRestart, TaskStatus}
use Rattle.cw_route.specs.Table.{table, pages, rows_of, page_route, page_path}
use Rattle.cw_route.specs.Spelled.{IsSegment, AreBytes, IsAt}
use Rattle.cw_route.proofs.Sound.{spell, holes, AreSegments, Spelled, AllWell, Among, sound}

-- a row of the table is a page's
pub row_page : (ps : List Page) (t : List ℕ) (r : RouteOf Page) → Among t r (rows_of ps) → (page : Page) × (t ≡ (page_route page).pattern) × (r ≡ page_route page)
row_page [] t r h = absurd h
row_page (page ∷ ps) t r (inl e) = (page, sym e.0, sym e.1)
row_page (page ∷ ps) t r (inr h) = row_page ps t r h

-- a segment for a parameter that a page doesn't have
abbrev any : List ℕ
any = 48 ∷ []

any_segment : IsSegment any
any_segment = record { some = omega arith; whole = refl; bytes = (omega arith, tt) }

none : (parts : List (List ℕ)) → length parts ≡ 0 → parts ≡ []
none [] e = refl
none (p ∷ ps) e = absurd (omega (arith, e))

one : (parts : List (List ℕ)) → length parts ≡ 1 → AreSegments parts → (n : List ℕ) × IsSegment n × (parts ≡ n ∷ [])
one [] e s = absurd (omega (arith, e))
one (n ∷ []) e s = (n, s.0, refl)
one (n ∷ i ∷ ps) e s = absurd (omega (arith, e))

two : (parts : List (List ℕ)) → length parts ≡ 2 → AreSegments parts → (n : List ℕ) × (i : List ℕ) × IsSegment n × IsSegment i × (parts ≡ n ∷ i ∷ [])
two [] e s = absurd (omega (arith, e))
two (n ∷ []) e s = absurd (omega (arith, e))
two (n ∷ i ∷ []) e s = (n, i, s.0, s.1.0, refl)
two (n ∷ i ∷ j ∷ ps) e s = absurd (omega (arith, e))

abbrev pattern : Page → List ℕ
pattern page = (page_route page).pattern

at_none : (page : Page) (path : List ℕ) → holes (pattern page) ≡ 0 → spell (pattern page) [] ≡ page_path page any any → Spelled (pattern page) path → IsAt path page
at_none page path size same s = record { name = any; task = any; name_part = any_segment; task_part = any_segment; text = s.text ∙ ap (spell (pattern page)) (none s.parts (s.many ∙ size)) ∙ same }

at_one : (page : Page) (path : List ℕ) → holes (pattern page) ≡ 1 → ((n : List ℕ) → spell (pattern page) (n ∷ []) ≡ page_path page n any) → Spelled (pattern page) path → IsAt path page
at_one page path size same s =
    let p = one s.parts (s.many ∙ size) s.segments in
    record { name = p.0; task = any; name_part = p.1; task_part = any_segment; text = s.text ∙ ap (spell (pattern page)) p.2 ∙ same p.0 }

at_two : (page : Page) (path : List ℕ) → holes (pattern page) ≡ 2 → ((n i : List ℕ) → spell (pattern page) (n ∷ i ∷ []) ≡ page_path page n i) → Spelled (pattern page) path → IsAt path page
at_two page path size same s =
    let p = two s.parts (s.many ∙ size) s.segments in
    record { name = p.0; task = p.1; name_part = p.2; task_part = p.3; text = s.text ∙ ap (spell (pattern page)) p.4 ∙ same p.0 p.1 }

page_at : (page : Page) (path : List ℕ) → Spelled (pattern page) path → IsAt path page
page_at Connectors path s = at_none Connectors path refl refl s
page_at Plugins path s = at_none Plugins path refl refl s
page_at Connector path s = at_one Connector path refl (λ n. ap (λ ys. codes "/connectors/" ++ ys) (append-nil n)) s
page_at Config path s = at_one Config path refl (λ n. refl) s
page_at Offsets path s = at_one Offsets path refl (λ n. refl) s
page_at Pause path s = at_one Pause path refl (λ n. refl) s
page_at Resume path s = at_one Resume path refl (λ n. refl) s
page_at Stop path s = at_one Stop path refl (λ n. refl) s
page_at Restart path s = at_one Restart path refl (λ n. refl) s
page_at Status path s = at_one Status path refl (λ n. refl) s
page_at Tasks path s = at_one Tasks path refl (λ n. refl) s
page_at TaskRestart path s = at_two TaskRestart path refl (λ n i. refl) s
page_at TaskStatus path s = at_two TaskStatus path refl (λ n i. refl) s

table_well : AllWell table
table_well = (refl, (refl, (refl, (refl, (refl, (refl, (refl, (refl, (refl, (refl, (refl, (refl, (refl, tt)))))))))))))

-- what the table finds is spelled by the pattern of a page
pub table_only : (path : List ℕ) (r : RouteOf Page) → AreBytes path → first table path ≡ Some r → (page : Page) × IsAt path page × (r ≡ page_route page)
table_only path r small e =
    let s = sound path 0 table r table_well small e in
    let p = row_page pages s.pattern r s.among in
    (p.0, page_at p.0 path (subst (λ t. Spelled t path) p.1 s.spelled), p.2)
