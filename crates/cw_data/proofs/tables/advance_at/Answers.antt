use Rattle.std.proofs.Common.{◌≡◌, true, false, None, sym, subst}
use Rattle.cw_data.specs.Tables.{is_in_topic}
use Rattle.cw_data.proofs.tables.advance_at.Goals as goal

pub advance-requires : goal.advance-requires
advance-requires c = c.requires c.in-Some.batch.now.topic

pub returns-in-Some-clause-advanced : goal.returns-in-Some-clause-advanced
returns-in-Some-clause-advanced c name is = c.advance.ensures.advanced name (subst (λ o. is_in_topic name o ≡ true) (sym c.in-Some.ensures) is)

pub returns-in-Some-clause-others : goal.returns-in-Some-clause-others
returns-in-Some-clause-others c name is = c.advance.ensures.others name (subst (λ o. is_in_topic name o ≡ false) (sym c.in-Some.ensures) is)

pub returns-in-None-clause-advanced : goal.returns-in-None-clause-advanced
returns-in-None-clause-advanced c name is = let never : is_in_topic name None ≡ true = subst (λ o. is_in_topic name o ≡ true) (sym c.in-None.ensures) is in cc
