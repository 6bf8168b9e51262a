use Rattle.std.proofs.Common.{subst, sym}
use Rattle.std.specs.Str.{IsUtf8}
use Rattle.cw_keys.proofs.Ascii.{name_utf8}
use Rattle.cw_keys.proofs.names.text_of_name.Goals as goal

pub returns-in-Err-clause-text : goal.returns-in-Err-clause-text
returns-in-Err-clause-text c = absurd (c.in-Err.ensures.cases.0 (subst IsUtf8 (sym c.as_bytes.ensures.bytes) (name_utf8 c.args.name.now c.as_bytes.ensures.name)))
