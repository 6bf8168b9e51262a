-- Which command words are.
use Rattle.std.specs.Prelude.{ℕ, ◌^◌, ◌-◌, ◌≤◌, ◌&&◌, List, [], ◌∷◌, Option, None, Some, Result, Ok, Err}
use Rattle.std.specs.Prelude.{option_map, option_and_then, codes, nat_le, if◌then◌else◌}
use Rattle.std.specs.Str.{bytes_eq}
use Rattle.clap.specs.Words.{Row, Text, fault_of, first_of, subcommand_of}
use Rattle.clap.specs.Kinds.{Kinds}
use Rattle.cw_types.specs.Decimal.{number_of}
use Rattle.cw_types.specs.Name.{name_of}
use Rattle.cw_words.specs.Program.{program}
use Rattle.cw_words.specs.declared.command.Command.{Command}
use Rattle.cw_words.specs.declared.command.Command.TheVariants.{Drive, Audit, Gen, Serve}
use Rattle.cw_words.specs.declared.command.GenOptions.{GenOptions}
use Rattle.cw_words.specs.declared.command.Options.{Options}
use Rattle.cw_words.specs.declared.command.ServeOptions.{ServeOptions}
use Rattle.cw_words.specs.declared.command.WordsFault.{WordsFault}
use Rattle.cw_words.specs.declared.command.WordsFault.TheVariants.{Usage}

-- the name that an option's value is
abbrev pub name_in : Text → List Row → Option (List ℕ)
name_in id rows = option_and_then name_of (first_of id rows)

-- the number that a text is, where it is in a range
abbrev pub number_between : ℕ → ℕ → Text → Option ℕ
number_between least most text = option_and_then (λ n. if nat_le least n && nat_le n most then Some n else None)
    (number_of (2 ^ 64 - 1) text)

-- the number that an option's value is, where it is in a range
abbrev pub number_in : ℕ → ℕ → Text → List Row → Option ℕ
number_in least most id rows = option_and_then (number_between least most) (first_of id rows)

-- the longest delay
abbrev pub most_delay : ℕ
most_delay = 2 ^ 40

abbrev pub options_of : List Row → Option Options
options_of rows = option_and_then (λ group. option_map (λ delay. record { group = group; delay = delay })
    (number_in 0 most_delay (codes "delay") rows)) (name_in (codes "group") rows)

-- the most directives that a script is made of
abbrev pub most_directives : ℕ
most_directives = 1000000

-- which script is to be made, with what every command takes
abbrev pub script_of : Options → List Row → Option GenOptions
script_of shared rows = option_and_then (λ start. option_map (λ count. record {
  start = start;
  count = count;
  shared = shared;
}) (number_in 1 most_directives (codes "COUNT") rows)) (number_in 0 (2 ^ 64 - 1) (codes "START") rows)

-- what `gen` takes
abbrev pub gen_options_of : List Row → Option GenOptions
gen_options_of rows = option_and_then (λ shared. script_of shared rows) (options_of rows)

-- the most workers, and the most threads of a kind
abbrev pub most_threads : ℕ
most_threads = 64

-- the most connections that a server accepts
abbrev pub most_conns : ℕ
most_conns = 10000

-- how many workers or threads of a kind are asked for
abbrev pub threads_in : Text → List Row → Option ℕ
threads_in id rows = number_in 1 most_threads id rows

-- with how many connections
abbrev pub with_conns : (workers runners handlers : ℕ) → Options → List Row → Option ServeOptions
with_conns workers runners handlers shared rows = option_map (λ conns. record {
  workers = workers;
  runners = runners;
  handlers = handlers;
  conns = conns;
  shared = shared;
}) (number_in 1 most_conns (codes "conns") rows)

-- how large the server is to be, with what every command takes
abbrev pub sizes_of : Options → List Row → Option ServeOptions
sizes_of shared rows = option_and_then (λ workers. option_and_then (λ runners. option_and_then (λ handlers.
    with_conns workers runners handlers shared rows) (threads_in (codes "handlers") rows))
    (threads_in (codes "runners") rows)) (threads_in (codes "workers") rows)

-- what `serve` takes
abbrev pub serve_options_of : List Row → Option ServeOptions
serve_options_of rows = option_and_then (λ shared. sizes_of shared rows) (options_of rows)

-- the command of a subcommand that takes numbers of its own
abbrev pub numbered_command_named : Text × List Row → Option Command
numbered_command_named p = if bytes_eq p.0 (codes "gen") then option_map Gen (gen_options_of p.1)
    else if bytes_eq p.0 (codes "serve") then option_map Serve (serve_options_of p.1) else None

-- the command of a subcommand's name and of the values that were found for it
abbrev pub command_named : Text × List Row → Option Command
command_named p = if bytes_eq p.0 (codes "drive") then option_map Drive (options_of p.1)
    else if bytes_eq p.0 (codes "audit") then option_map Audit (options_of p.1) else numbered_command_named p

-- the command of the subcommand that was found
abbrev pub command_in : Option (Text × List Row) → Option Command
command_in = option_and_then command_named

-- nothing is asked for where `clap` has a fault
abbrev pub where_taken : Kinds → Option Command → Option Command
where_taken [] asked = asked
where_taken (kind ∷ kinds) asked = None

-- the command that words are, where `clap` takes them
abbrev pub command_of : List Text → Option Command
command_of words = where_taken (fault_of program words) (command_in (subcommand_of program words))

-- the numbers of `gen` are in their ranges
pub record IsMadeInRange (options : GenOptions) : Type 0 where
  pub least : 1 ≤ options.count
  pub most : options.count ≤ most_directives
  pub delay : options.shared.delay ≤ most_delay

-- the numbers of `serve` are in their ranges
pub record IsServedInRange (options : ServeOptions) : Type 0 where
  pub workers_least : 1 ≤ options.workers
  pub workers_most : options.workers ≤ most_threads
  pub runners_least : 1 ≤ options.runners
  pub runners_most : options.runners ≤ most_threads
  pub handlers_least : 1 ≤ options.handlers
  pub handlers_most : options.handlers ≤ most_threads
  pub conns_least : 1 ≤ options.conns
  pub conns_most : options.conns ≤ most_conns
  pub delay : options.shared.delay ≤ most_delay

-- the numbers of a command are in their ranges
abbrev pub IsInRange : Command → Type 0
IsInRange (Drive options) = options.delay ≤ most_delay
IsInRange (Audit options) = options.delay ≤ most_delay
IsInRange (Gen options) = IsMadeInRange options
IsInRange (Serve options) = IsServedInRange options

-- what is asked for, or the fault of words that ask for nothing
abbrev pub or_usage : {A : Type 0} → Option A → Result A WordsFault
or_usage (Some x) = Ok x
or_usage None = Err Usage

-- `drive` with this group and this delay
abbrev pub drive_with : Text → ℕ → Option Command
drive_with group delay = Some (Drive (record { group = group; delay = delay }))

-- `audit` with this group and this delay
abbrev pub audit_with : Text → ℕ → Option Command
audit_with group delay = Some (Audit (record { group = group; delay = delay }))

-- `gen` with this number and so many directives, with this group and this delay
abbrev pub gen_with : (start count : ℕ) → Text → ℕ → Option Command
gen_with start count group delay =
    Some (Gen (record { start = start; count = count; shared = record { group = group; delay = delay } }))

-- `serve` with so many workers, runners, handlers and connections, with this group and this delay
abbrev pub serve_with : (workers runners handlers conns : ℕ) → Text → ℕ → Option Command
serve_with workers runners handlers conns group delay = Some (Serve (record {
  workers = workers;
  runners = runners;
  handlers = handlers;
  conns = conns;
  shared = record { group = group; delay = delay };
}))
