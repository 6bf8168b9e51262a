use Rattle.cw_laws.proofs.Produce.{produce-keeps}
use Rattle.cw_laws.proofs.PutOffsets.{put_offsets-keeps}
use Rattle.cw_laws.proofs.Commit.{commit-keeps}
use Rattle.cw_laws.proofs.source_laws.transactions_keep_facts.Goals as goal

pub returns-clause-produce : goal.returns-clause-produce
returns-clause-produce c = λ setting s i cut may. produce-keeps setting i cut s may

pub returns-clause-put_offsets : goal.returns-clause-put_offsets
returns-clause-put_offsets c = λ setting s i may. put_offsets-keeps setting i s may

pub returns-clause-commit : goal.returns-clause-commit
returns-clause-commit c = λ setting s i may. commit-keeps setting i s may
