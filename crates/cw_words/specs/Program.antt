-- The definition that `clap` is given of the program: its subcommands with their options. The names are this project's
-- own; the defaults are those of Kafka Connect's `group.id`, in its sample of a distributed worker, and of
-- `scheduled.rebalance.max.delay.ms` (KIP-415).
use Rattle.std.specs.Prelude.{true, [], ◌∷◌, Some, codes}
use Rattle.clap.specs.Words.{App, Rule, Text, new_app, new_rule, with_rule, with_subcommand}

-- `--NAME VALUE`, with the value that stands where it isn't given
abbrev pub option : Text → Text → Rule
option name default = record (new_rule name) { long = Some name; defaults = default ∷ [] }

-- a value without a name, which has to be given
abbrev pub value : Text → Rule
value name = record (new_rule name) { required = true }

-- with the options that every command takes
abbrev pub with_shared : App → App
with_shared a = with_rule (with_rule a (option (codes "group") (codes "connect-cluster")))
    (option (codes "delay") (codes "300000"))

abbrev pub drive : App
drive = with_shared (new_app (codes "drive"))

abbrev pub audit : App
audit = with_shared (new_app (codes "audit"))

-- `gen START COUNT`
abbrev pub generating : App
generating = with_rule (with_rule (with_shared (new_app (codes "gen"))) (value (codes "START"))) (value (codes "COUNT"))

-- `serve`, with how many workers, threads and connections there are
abbrev pub serving : App
serving = with_rule (with_rule (with_rule (with_rule (with_shared (new_app (codes "serve")))
    (option (codes "workers") (codes "3"))) (option (codes "runners") (codes "2")))
    (option (codes "handlers") (codes "4"))) (option (codes "conns") (codes "1000"))

-- the words are those behind the program's name
abbrev pub named : App
named = record (new_app (codes "connect")) {
  top = record (new_app (codes "connect")).top { no_binary_name = true; subcommand_required = true };
}

-- with the subcommands that play a script, and that report on a stopped cluster
abbrev pub offline : App
offline = with_subcommand (with_subcommand named drive.top) audit.top

abbrev pub program : App
program = with_subcommand (with_subcommand offline generating.top) serving.top
