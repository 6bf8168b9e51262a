use Rattle.std.proofs.Common.{refl}
use Rattle.clap.proofs.OnLiterals.{clap_on_literals}
use Rattle.cw_words.proofs.laws.words_are_read.Goals as goal

pub returns-clause-alone : goal.returns-clause-alone
unfolding clap_on_literals
returns-clause-alone c = refl

pub returns-clause-given : goal.returns-clause-given
unfolding clap_on_literals
returns-clause-given c = refl

pub returns-clause-nothing : goal.returns-clause-nothing
unfolding clap_on_literals
returns-clause-nothing c = refl

pub returns-clause-unknown : goal.returns-clause-unknown
unfolding clap_on_literals
returns-clause-unknown c = refl

pub returns-clause-more : goal.returns-clause-more
unfolding clap_on_literals
returns-clause-more c = refl

pub returns-clause-twice : goal.returns-clause-twice
unfolding clap_on_literals
returns-clause-twice c = refl

pub returns-clause-missing : goal.returns-clause-missing
unfolding clap_on_literals
returns-clause-missing c = refl

pub returns-clause-group : goal.returns-clause-group
unfolding clap_on_literals
returns-clause-group c = refl

pub returns-clause-above : goal.returns-clause-above
unfolding clap_on_literals
returns-clause-above c = refl

pub returns-clause-zeros : goal.returns-clause-zeros
unfolding clap_on_literals
returns-clause-zeros c = refl

pub returns-clause-help : goal.returns-clause-help
unfolding clap_on_literals
returns-clause-help c = refl

pub returns-clause-help_word : goal.returns-clause-help_word
unfolding clap_on_literals
returns-clause-help_word c = refl

pub returns-clause-help_of_drive : goal.returns-clause-help_of_drive
unfolding clap_on_literals
returns-clause-help_of_drive c = refl

pub returns-clause-version : goal.returns-clause-version
unfolding clap_on_literals
returns-clause-version c = refl

pub returns-clause-dashes : goal.returns-clause-dashes
unfolding clap_on_literals
returns-clause-dashes c = refl

pub returns-clause-minus : goal.returns-clause-minus
unfolding clap_on_literals
returns-clause-minus c = refl

pub returns-clause-minus_apart : goal.returns-clause-minus_apart
unfolding clap_on_literals
returns-clause-minus_apart c = refl

pub returns-clause-audit : goal.returns-clause-audit
unfolding clap_on_literals
returns-clause-audit c = refl

pub returns-clause-script : goal.returns-clause-script
unfolding clap_on_literals
returns-clause-script c = refl

pub returns-clause-script_given : goal.returns-clause-script_given
unfolding clap_on_literals
returns-clause-script_given c = refl

pub returns-clause-script_without : goal.returns-clause-script_without
unfolding clap_on_literals
returns-clause-script_without c = refl

pub returns-clause-script_none : goal.returns-clause-script_none
unfolding clap_on_literals
returns-clause-script_none c = refl

pub returns-clause-script_above : goal.returns-clause-script_above
unfolding clap_on_literals
returns-clause-script_above c = refl

pub returns-clause-script_minus : goal.returns-clause-script_minus
unfolding clap_on_literals
returns-clause-script_minus c = refl

pub returns-clause-script_more : goal.returns-clause-script_more
unfolding clap_on_literals
returns-clause-script_more c = refl

pub returns-clause-server : goal.returns-clause-server
unfolding clap_on_literals
returns-clause-server c = refl

pub returns-clause-server_given : goal.returns-clause-server_given
unfolding clap_on_literals
returns-clause-server_given c = refl

pub returns-clause-server_none : goal.returns-clause-server_none
unfolding clap_on_literals
returns-clause-server_none c = refl

pub returns-clause-server_above : goal.returns-clause-server_above
unfolding clap_on_literals
returns-clause-server_above c = refl

pub returns-clause-server_of_drive : goal.returns-clause-server_of_drive
unfolding clap_on_literals
returns-clause-server_of_drive c = refl
