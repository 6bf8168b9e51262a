use Rattle.std.proofs.Common.{◌≡◌, ℕ, ◌-◌, ◌^◌, ◌<◌, ◌≤◌, List, [], ◌∷◌, ◌++◌, Option, Some, Result, Ok, codes, decimal, refl, ap, ◌∙◌, arith}
use Rattle.std.specs.List.{flat_map}
use Rattle.std.proofs.lemmas.Bool.Decides.{nat_tests}
use Rattle.cw_types.specs.Decimal.{number_of}
use Rattle.cw_types.specs.declared.logs.LogName.{LogName}
use Rattle.cw_types.specs.declared.logs.LogName.TheVariants.{Config, Offsets, Status, Txn, Batches}
use Rattle.cw_script.specs.declared.directive.PartEnd.{PartEnd}
use Rattle.cw_script.specs.declared.directive.Directive.{Directive}
use Rattle.cw_script.specs.declared.directive.Directive.TheVariants.{Init, Commit, Spawn, Kill, Deaf, Hear, Expire, Clock, Tick, Step, Settle, Rest, Held, Member, Take, Compact}
use Rattle.cw_script.specs.declared.fault.LineKind.{LineKind}
use Rattle.cw_script.specs.Words.{words}
use Rattle.cw_script.specs.Lines.{limit_of, directive_of, some_directive, line_of}
use Rattle.cw_script.specs.Spelling.{pair_words, spelled, IsCompacted, IsCommit, IsRequest, IsTake, IsSayable}
use Rattle.cw_script.proofs.WordLemmas.{joined-words}
use Rattle.cw_script.proofs.WordsAgain.{words_one, words_step, words-joined, decimal_is_word, name_is_word}
use Rattle.cw_script.proofs.Again.{again_32, again_64, pairs_are_words, pairs_count, pairs_again}

-- what words say, a line of them says
said_line : Result Directive LineKind → Result (Option Directive) LineKind
said_line r = some_directive r

-- one number behind a word
number_line : (n : ℕ) → n < 2 ^ 64 → words (decimal n) ≡ decimal n ∷ []
number_line n h = words_one (decimal n) (decimal_is_word n h)

limit_again : (n : ℕ) → 1 ≤ n → n ≤ 1000000 → limit_of (number_of (2 ^ 64 - 1) (decimal n)) ≡ Some n
limit_again n some few = rw (again_64 n (omega (arith, few))) (grind (arith, nat_tests, some, few))

name_again : (topic : List ℕ) (from : ℕ) → IsTake topic from → words (topic ++ 32 ∷ decimal from) ≡ topic ∷ decimal from ∷ []
name_again topic from h = words_step topic (decimal from) (name_is_word topic h.name) ∙ ap (λ ws. topic ∷ ws) (number_line from h.from_fits)

commit_again : (id epoch : ℕ) (pairs : List PartEnd) → IsCommit id epoch pairs → line_of (spelled (Commit id epoch pairs)) ≡ Ok (Some (Commit id epoch pairs))
commit_again id epoch pairs h =
    ap (λ ws. some_directive (directive_of (codes "commit" ∷ ws)))
    (words-joined (decimal id) (decimal epoch ∷ flat_map pair_words pairs) (decimal_is_word id (omega (arith, h.id_fits)))
    (decimal_is_word epoch h.epoch_fits, pairs_are_words pairs h.numbers_fit))
    ∙ rw (pairs_count pairs h.named, again_32 id h.id_fits, again_64 epoch h.epoch_fits, pairs_again pairs h.numbers_fit h.named) refl

rest_again : (worker : ℕ) (method target body : List ℕ) → IsRequest worker method target → line_of (spelled (Rest worker method target body)) ≡ Ok (Some (Rest worker method target body))
rest_again worker method target [] h =
    ap (λ ws. some_directive (directive_of (codes "rest" ∷ ws)))
    (words-joined (decimal worker) (method ∷ target ∷ []) (decimal_is_word worker h.worker_fits) (h.one_method, (h.one_target, tt)))
    ∙ rw (again_64 worker h.worker_fits) refl
rest_again worker method target (c ∷ cs) h =
    ap (λ ws. some_directive (directive_of (codes "rest" ∷ ws)))
    (words_step (decimal worker) (method ++ 32 ∷ (target ++ 32 ∷ (c ∷ cs))) (decimal_is_word worker h.worker_fits)
    ∙ ap (λ ws. decimal worker ∷ ws) (words_step method (target ++ 32 ∷ (c ∷ cs)) h.one_method
    ∙ ap (λ ws. method ∷ ws) (words_step target (c ∷ cs) h.one_target)))
    ∙ rw (again_64 worker h.worker_fits) (ap (λ body. Ok (Some (Rest worker method target body))) (joined-words (c ∷ cs)))

compact_again : (l : LogName) → IsCompacted l → line_of (spelled (Compact l)) ≡ Ok (Some (Compact l))
compact_again Config h = refl
compact_again Offsets h = refl
compact_again Status h = refl
compact_again Txn h = absurd h
compact_again Batches h = absurd h

-- the line of a directive is read as that directive
pub line_again : (d : Directive) → IsSayable d → line_of (spelled d) ≡ Ok (Some d)
line_again (Init n) h = rw (number_line n (omega (arith, h)), again_32 n h) refl
line_again (Commit id epoch pairs) h = commit_again id epoch pairs h
line_again Spawn h = refl
line_again (Kill n) h = rw (number_line n h, again_64 n h) refl
line_again (Deaf n) h = rw (number_line n h, again_64 n h) refl
line_again (Hear n) h = rw (number_line n h, again_64 n h) refl
line_again (Expire n) h = rw (number_line n h, again_64 n h) refl
line_again (Clock n) h = rw (number_line n h, again_64 n h) refl
line_again (Tick n) h = rw (number_line n h, again_64 n h) refl
line_again (Step n) h = rw (number_line n h, again_64 n h) refl
line_again (Settle n) h = rw (number_line n (omega (arith, h.1)), limit_again n h.0 h.1) refl
line_again (Rest worker method target body) h = rest_again worker method target body h
line_again (Held n) h = rw (number_line n h, again_64 n h) refl
line_again (Member n) h = rw (number_line n h, again_64 n h) refl
line_again (Take topic from) h = rw (name_again topic from h, h.name, again_64 from h.from_fits) refl
line_again (Compact l) h = compact_again l h
