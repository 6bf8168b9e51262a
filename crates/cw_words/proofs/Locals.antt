-- A plain command has no argument that its subcommands share, and no option is one.
use Rattle.std.proofs.Common.{◌≡◌, ◌∙◌, true, false, ap, not}
use Rattle.std.specs.Option.{is_some}
use Rattle.clap.proofs.SimpleLemmas.{is_false, plain_fields}
use Rattle.clap.proofs.WalkLemmas.{both}
use Rattle.clap.specs.Walk.{is_empty, is_simple_arg}
use Rattle.clap.specs.Words.{App, Rule, Text, app_of, rule_of}
use Rattle.clap.specs.declared.builder.arg.Arg.{Arg}
use Rattle.clap.specs.declared.builder.command.Command.{Command}
use Rattle.clap.specs.declared.builder.command.Command.TheViews.{out-Command}
use Rattle.cw_words.specs.Program.{option, value}

local_rule : (a : Arg) → is_simple_arg a ≡ true → a.global ≡ false
local_rule a e =
    let p = both (is_empty a.overrides.items) _ e in
    let q = both (is_empty a.default_vals_ifs.items) _ p.1 in
    let r = both (is_empty a.groups.items) _ q.1 in
    let s = both (not (is_some a.val_delim)) _ r.1 in
    let t = both (not (is_some a.terminator)) _ s.1 in
    let u = both (not a.allow_hyphen_values) _ t.1 in
    let v = both (not a.allow_negative_numbers) _ u.1 in
    let w = both (not a.require_equals) _ v.1 in
    let x = both (not a.last) _ w.1 in
    is_false a.global x.1

pub local_option : (a : Arg) (name default : Text) → rule_of a ≡ option name default → a.global ≡ false
local_option a name default is = local_rule a (ap (λ (r : Rule). r.is_simple) is)

pub local_value : (a : Arg) (name : Text) → rule_of a ≡ value name → a.global ≡ false
local_value a name is = local_rule a (ap (λ (r : Rule). r.is_simple) is)

pub local_app : (c : Command) (a : App) → app_of c ≡ a → a.top.is_plain ≡ true → (out-Command c).has_globals ≡ false
local_app c a is plain = (plain_fields c (ap (λ (b : App). b.top.is_plain) is ∙ plain)).globals
