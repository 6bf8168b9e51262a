-- What a parse of the program's words says of the command that they are.
use Rattle.std.proofs.Common.{◌≡◌, ◌∙◌, codes, cond, option_map, true, refl, sym, ap, ap₂, subst, List, [], ◌∷◌, Option, Some, None, Result, Ok, Err, IfOk, inl, inr, true≢false, Bool, false}
use Rattle.clap.proofs.OnLiterals.{clap_on_literals}
use Rattle.clap.specs.Words.{App, HasMatchesOf, HasKind, IsAmong, Kinds, Text, fault_of, is_simple, is_simple_and_free, kind_of, subcommand_name_of, subcommand_of, subcommand_rows_of, Row}
use Rattle.std.specs.Str.{bytes_eq}
use Rattle.clap.specs.declared.error.Error.{Error}
use Rattle.clap.specs.declared.error.kind.ErrorKind.{ErrorKind}
use Rattle.clap.specs.declared.error.kind.ErrorKind.TheVariants.{OutOfMemory}
use Rattle.clap.specs.declared.parser.matches.ArgMatches.{ArgMatches}
use Rattle.cw_types.specs.Answers.{Gives}
use Rattle.clap.specs.Simple.{subcommand_rows}
use Rattle.cw_words.specs.declared.command.Command.TheVariants.{Audit, Drive}
use Rattle.clap.specs.declared.parser.matches.ArgMatches.TheViews.{out-ArgMatches}
use Rattle.cw_words.specs.Asked.{command_in, command_of, numbered_command_named, options_of, or_usage, where_taken}
use Rattle.cw_words.specs.Program.{program}
use Rattle.cw_words.specs.declared.command.Command.{Command}
use Rattle.cw_words.specs.declared.command.WordsFault.{WordsFault}
use Rattle.cw_words.specs.declared.command.WordsFault.TheVariants.{Memory, Usage}

program_is_simple : is_simple program ≡ true
unfolding clap_on_literals
program_is_simple = refl

program_is_free : is_simple_and_free program ≡ true
unfolding clap_on_literals
program_is_free = refl

-- words that are taken are the command of the subcommand that was found
pub taken : (a : App) (words : List Text) (m : ArgMatches) → a ≡ program → HasMatchesOf a words m
    → (is_simple_and_free a ≡ true → fault_of a words ≡ []) → command_in (subcommand_rows_of m) ≡ command_of words
taken a words m is found free =
    let none : fault_of program words ≡ [] = subst (λ (b : App). fault_of b words ≡ []) is (free (ap is_simple_and_free is ∙ program_is_free)) in
    let rows : subcommand_rows_of m ≡ subcommand_of program words =
    (found (ap is_simple is ∙ program_is_simple)).1 ∙ ap (λ (b : App). subcommand_of b words) is in
    ap command_in rows ∙ sym (ap (λ (ks : Kinds). where_taken ks (command_in (subcommand_of program words))) none)

-- words that are refused are no command
among : (k : ErrorKind) (ks : Kinds) (o : Option Command) → IsAmong k ks → where_taken ks o ≡ None
among k [] o h = absurd h
among k (x ∷ xs) o h = refl

pub refused : (a : App) (words : List Text) (e : Error) → a ≡ program
    → (is_simple_and_free a ≡ true → HasKind (fault_of a words) e) → (kind_of e ≡ OutOfMemory → ⊥) → command_of words ≡ None
refused a words e is fails other = elim (fails (ap is_simple_and_free is ∙ program_is_free)) [
  | inl memory ↦ absurd (other memory)
  | inr h ↦ among (kind_of e) (fault_of program words) _ (subst (λ (b : App). IsAmong (kind_of e) (fault_of b words)) is h)
]

-- a fault for want of memory is no usage
abbrev is_usage : WordsFault → Bool
is_usage Usage = true
is_usage Memory = false

abbrev fails_by_usage : Result Command WordsFault → Bool
fails_by_usage (Ok command) = false
fails_by_usage (Err fault) = is_usage fault

pub not_both : (fault : WordsFault) → ◌≡◌ {A = Result Command WordsFault} (Err fault) (Err Usage) → fault ≡ Memory → ⊥
not_both fault usage memory = true≢false (sym (ap fails_by_usage usage) ∙ ap is_usage memory)

abbrev is_ok : Result Command WordsFault → Bool
is_ok (Ok command) = true
is_ok (Err fault) = false

-- what was found is what is asked for
pub is_asked : (r : Result Command WordsFault) (o p : Option Command) → o ≡ p → Gives Memory r (or_usage o) → IfOk r (λ command. p ≡ Some command)
is_asked (Ok command) (Some x) p is h = sym is ∙ ap some h
  where
    some : Result Command WordsFault → Option Command
    some (Ok y) = Some y
    some (Err fault) = None
is_asked (Ok command) None p is h = absurd (true≢false (sym (ap is_ok h)))
is_asked (Err fault) o p is h = tt

-- usage comes where nothing is asked for
pub is_unasked : (r : Result Command WordsFault) (o p : Option Command) → o ≡ p → Gives Memory r (or_usage o) → r ≡ Err Usage → p ≡ None
is_unasked (Ok command) o p is h usage = absurd (true≢false (sym (ap fails_by_usage usage)))
is_unasked (Err fault) (Some x) p is h usage = absurd (true≢false (ap is_ok (h (not_both fault usage))))
is_unasked (Err fault) None p is h usage = sym is

-- ---- a subcommand that takes numbers of its own

fst_of : {B : Type 0} (f : B → Text) (g : B → List Row) (o : Option B)
    → option_map f o ≡ option_map {T = Text × List Row} (λ p. p.0) (option_map (λ b. (f b, g b)) o)
fst_of f g None = refl
fst_of f g (Some b) = refl

abbrev is_there : {A : Type 0} → Option A → Bool
is_there (Some x) = true
is_there None = false

abbrev or : {A : Type 0} → A → Option A → A
or d (Some x) = x
or d None = d

both : (o : Option (Text × List Row)) (name : Text) (rows : List Row) → Some name ≡ option_map (λ p. p.0) o
    → Some rows ≡ option_map (λ p. p.1) o → o ≡ Some (name, rows)
both (Some p) name rows n r = ap Some (ap₂ (λ a b. (a, b)) (ap (or p.0) (sym n)) (ap (or p.1) (sym r)))
both None name rows n r = absurd (true≢false (ap is_there n))

named : (name : Text) (rows : List Row) (r : Result Command WordsFault) (d a : Bool) → false ≡ d → false ≡ a
    → Gives Memory r (or_usage (numbered_command_named (name, rows)))
    → Gives Memory r (or_usage (cond d (option_map Drive (options_of rows)) (cond a (option_map Audit (options_of rows))
    (numbered_command_named (name, rows)))))
named name rows r false false d a h = h
named name rows r true a d e h = absurd (true≢false (sym d))
named name rows r false true d e h = absurd (true≢false (sym e))

pub numbered : (m : ArgMatches) (name : Text) (rows : List Row) (r : Result Command WordsFault)
    → Some name ≡ subcommand_name_of m → Some rows ≡ option_map (λ p. p.1) (subcommand_rows (out-ArgMatches m).subcommand)
    → false ≡ bytes_eq name (codes "drive") → false ≡ bytes_eq name (codes "audit")
    → Gives Memory r (or_usage (numbered_command_named (name, rows)))
    → Gives Memory r (or_usage (command_in (subcommand_rows_of m)))
numbered m name rows r n w drive audit h =
    let found = both (subcommand_rows_of m) name rows (n ∙ fst_of _ _ (out-ArgMatches m).subcommand) w in
    subst (λ o. Gives Memory r (or_usage (command_in o))) (sym found)
    (named name rows r (bytes_eq name (codes "drive")) (bytes_eq name (codes "audit")) drive audit h)
