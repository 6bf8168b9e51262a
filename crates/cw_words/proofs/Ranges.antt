-- The numbers of a command are in their ranges.
use Rattle.std.proofs.Common.{◌≡◌, ◌≤◌, ◌&&◌, ◌∷◌, ℕ, Bool, true, false, refl, List, [], Option, Some, None, Result, Ok, Err, IfOk, IfSome, cond, option_map, subst, codes}
use Rattle.std.specs.Prelude.{nat_le, option_and_then}
use Rattle.std.specs.Str.{bytes_eq}
use Rattle.std.proofs.lemmas.Bool.{leb-true}
use Rattle.clap.specs.Kinds.{Kinds}
use Rattle.clap.specs.Words.{Row, Text, fault_of, first_of, subcommand_of}
use Rattle.cw_types.specs.Decimal.{number_of}
use Rattle.cw_words.specs.Asked.{IsInRange, IsMadeInRange, IsServedInRange, command_in, command_of, gen_options_of, most_delay, most_directives}
use Rattle.cw_words.specs.Asked.{most_conns, most_threads, serve_options_of, sizes_of, threads_in}
use Rattle.cw_words.specs.Asked.{name_in, number_between, number_in, options_of, script_of, where_taken}
use Rattle.cw_words.specs.Program.{program}
use Rattle.cw_words.specs.declared.command.Command.{Command}
use Rattle.cw_words.specs.declared.command.Command.TheVariants.{Drive, Audit, Gen, Serve}
use Rattle.cw_words.specs.declared.command.GenOptions.{GenOptions}
use Rattle.cw_words.specs.declared.command.Options.{Options}
use Rattle.cw_words.specs.declared.command.ServeOptions.{ServeOptions}
use Rattle.cw_words.specs.declared.command.WordsFault.{WordsFault}

-- a number that passes its test is in its range
abbrev IsBetween : ℕ → ℕ → ℕ → Type 0
IsBetween least most n = (least ≤ n) × (n ≤ most)

tested : (n least most : ℕ) (least_passes most_passes : Bool) → nat_le least n ≡ least_passes → nat_le n most ≡ most_passes
    → IfSome (cond (least_passes && most_passes) (Some n) None) (IsBetween least most)
tested n least most false b e f = tt
tested n least most true false e f = tt
tested n least most true true e f = (leb-true least n e, leb-true n most f)

read_between : (least most : ℕ) (o : Option ℕ)
    → IfSome (option_and_then (λ n. cond (nat_le least n && nat_le n most) (Some n) None) o) (IsBetween least most)
read_between least most None = tt
read_between least most (Some n) = tested n least most (nat_le least n) (nat_le n most) refl refl

found_between : (least most : ℕ) (o : Option Text) → IfSome (option_and_then (number_between least most) o) (IsBetween least most)
found_between least most None = tt
found_between least most (Some text) = read_between least most (number_of _ text)

-- what every command takes
abbrev HasDelay : Options → Type 0
HasDelay options = options.delay ≤ most_delay

with_delay : (group : List ℕ) (d : Option ℕ) → IfSome d (IsBetween 0 most_delay)
    → IfSome (option_map {U = Options} (λ delay. record { group = group; delay = delay }) d) HasDelay
with_delay group None h = tt
with_delay group (Some n) h = h.1

with_group : (g : Option (List ℕ)) (d : Option ℕ) → IfSome d (IsBetween 0 most_delay)
    → IfSome (option_and_then {U = Options} (λ group. option_map (λ delay. record { group = group; delay = delay }) d) g) HasDelay
with_group None d h = tt
with_group (Some group) d h = with_delay group d h

in_range_options : (rows : List Row) → IfSome (options_of rows) HasDelay
in_range_options rows = with_group (name_in (codes "group") rows) (number_in 0 most_delay (codes "delay") rows)
    (found_between 0 most_delay (first_of (codes "delay") rows))

-- what `gen` takes
with_count : (shared : Options) (start : ℕ) (c : Option ℕ) → HasDelay shared → IfSome c (IsBetween 1 most_directives)
    → IfSome (option_map {U = GenOptions} (λ count. record { start = start; count = count; shared = shared }) c) IsMadeInRange
with_count shared start None delay h = tt
with_count shared start (Some count) delay h = record { least = h.0; most = h.1; delay = delay }

with_start : (shared : Options) (s c : Option ℕ) → HasDelay shared → IfSome c (IsBetween 1 most_directives)
    → IfSome (option_and_then {U = GenOptions} (λ start. option_map (λ count. record { start = start; count = count; shared = shared }) c) s) IsMadeInRange
with_start shared None c delay h = tt
with_start shared (Some start) c delay h = with_count shared start c delay h

with_shared_options : (rows : List Row) (o : Option Options) → IfSome o HasDelay
    → IfSome (option_and_then (λ shared. script_of shared rows) o) IsMadeInRange
with_shared_options rows None h = tt
with_shared_options rows (Some shared) h = with_start shared (number_in 0 _ (codes "START") rows) (number_in 1 most_directives (codes "COUNT") rows) h
    (found_between 1 most_directives (first_of (codes "COUNT") rows))

in_range_script : (rows : List Row) → IfSome (gen_options_of rows) IsMadeInRange
in_range_script rows = with_shared_options rows (options_of rows) (in_range_options rows)

-- what `serve` takes
bound : {A : Type 0} (P : ℕ → Type 0) (Q : A → Type 0) (f : ℕ → Option A) (o : Option ℕ) → IfSome o P
    → ((n : ℕ) → P n → IfSome (f n) Q) → IfSome (option_and_then f o) Q
bound P Q f None h each = tt
bound P Q f (Some n) h each = each n h

threads : (id : Text) (rows : List Row) → IfSome (threads_in id rows) (IsBetween 1 most_threads)
threads id rows = found_between 1 most_threads (first_of id rows)

with_all : (workers runners handlers : ℕ) (shared : Options) (c : Option ℕ) → IsBetween 1 most_threads workers
    → IsBetween 1 most_threads runners → IsBetween 1 most_threads handlers → HasDelay shared → IfSome c (IsBetween 1 most_conns)
    → IfSome (option_map {U = ServeOptions} (λ conns. record {
      workers = workers;
      runners = runners;
      handlers = handlers;
      conns = conns;
      shared = shared;
    }) c) IsServedInRange
with_all workers runners handlers shared None w r h delay c = tt
with_all workers runners handlers shared (Some conns) w r h delay c = record {
  workers_least = w.0;
  workers_most = w.1;
  runners_least = r.0;
  runners_most = r.1;
  handlers_least = h.0;
  handlers_most = h.1;
  conns_least = c.0;
  conns_most = c.1;
  delay = delay;
}

in_range_sizes : (rows : List Row) (shared : Options) → HasDelay shared → IfSome (sizes_of shared rows) IsServedInRange
in_range_sizes rows shared delay = bound (IsBetween 1 most_threads) IsServedInRange _ (threads_in (codes "workers") rows) (threads (codes "workers") rows)
    (λ workers w. bound (IsBetween 1 most_threads) IsServedInRange _ (threads_in (codes "runners") rows) (threads (codes "runners") rows)
    (λ runners r. bound (IsBetween 1 most_threads) IsServedInRange _ (threads_in (codes "handlers") rows) (threads (codes "handlers") rows)
    (λ handlers h. with_all workers runners handlers shared (number_in 1 most_conns (codes "conns") rows) w r h delay
    (found_between 1 most_conns (first_of (codes "conns") rows)))))

with_sizes : (rows : List Row) (o : Option Options) → IfSome o HasDelay → IfSome (option_and_then (λ shared. sizes_of shared rows) o) IsServedInRange
with_sizes rows None h = tt
with_sizes rows (Some shared) h = in_range_sizes rows shared h

in_range_server : (rows : List Row) → IfSome (serve_options_of rows) IsServedInRange
in_range_server rows = with_sizes rows (options_of rows) (in_range_options rows)

-- the commands
driven : (b : Bool) (o : Option Options) (rest : Option Command) → IfSome o HasDelay → IfSome rest IsInRange → IfSome (cond b (option_map Drive o) rest) IsInRange
driven false o rest h r = r
driven true None rest h r = tt
driven true (Some options) rest h r = h

audited : (b : Bool) (o : Option Options) (rest : Option Command) → IfSome o HasDelay → IfSome rest IsInRange → IfSome (cond b (option_map Audit o) rest) IsInRange
audited false o rest h r = r
audited true None rest h r = tt
audited true (Some options) rest h r = h

made : (b : Bool) (o : Option GenOptions) (rest : Option Command) → IfSome o IsMadeInRange → IfSome rest IsInRange → IfSome (cond b (option_map Gen o) rest) IsInRange
made false o rest h r = r
made true None rest h r = tt
made true (Some options) rest h r = h

served : (b : Bool) (o : Option ServeOptions) → IfSome o IsServedInRange → IfSome (cond b (option_map Serve o) None) IsInRange
served false o h = tt
served true None h = tt
served true (Some options) h = h

named : (o : Option (Text × List Row)) → IfSome (command_in o) IsInRange
named None = tt
named (Some p) = let options = in_range_options p.1 in
    driven (bytes_eq p.0 (codes "drive")) (options_of p.1) _ options
    (audited (bytes_eq p.0 (codes "audit")) (options_of p.1) _ options
    (made (bytes_eq p.0 (codes "gen")) (gen_options_of p.1) _ (in_range_script p.1)
    (served (bytes_eq p.0 (codes "serve")) (serve_options_of p.1) (in_range_server p.1))))

unless : (ks : Kinds) (o : Option Command) → IfSome o IsInRange → IfSome (where_taken ks o) IsInRange
unless [] o h = h
unless (k ∷ ks) o h = tt

in_range : (words : List Text) → IfSome (command_of words) IsInRange
in_range words = unless (fault_of program words) (command_in (subcommand_of program words)) (named (subcommand_of program words))

-- so are those of the command that was read
pub read_in_range : (words : List Text) (r : Result Command WordsFault) → IfOk r (λ command. command_of words ≡ Some command) → IfOk r IsInRange
read_in_range words (Ok command) is = subst (λ (o : Option Command). IfSome o IsInRange) is (in_range words)
read_in_range words (Err fault) is = tt
