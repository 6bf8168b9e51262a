use Rattle.cw_laws.proofs.fact_laws.world_facts_hold.Goals as goal

pub returns-clause-disjoint : goal.returns-clause-disjoint
returns-clause-disjoint c = λ setting s f. f.safe.disjoint

pub returns-clause-backed : goal.returns-clause-backed
returns-clause-backed c = λ setting s f. f.safe.backed

pub returns-clause-held : goal.returns-clause-held
returns-clause-held c = λ setting s w claim f claims. f.group.held w claim claims

pub returns-clause-assigned : goal.returns-clause-assigned
returns-clause-assigned c = λ setting s w claim f claims. f.group.assigned w claim claims

pub returns-clause-known : goal.returns-clause-known
returns-clause-known c = λ setting s w member f there. f.group.known w member there

pub returns-clause-within : goal.returns-clause-within
returns-clause-within c = λ setting s f planned. f.group.within planned

pub returns-clause-once : goal.returns-clause-once
returns-clause-once c = λ setting s f planned. f.group.once planned

pub returns-clause-told : goal.returns-clause-told
returns-clause-told c = λ setting s w leader f planned member stable. f.group.told planned w leader member stable

pub returns-clause-all_given : goal.returns-clause-all_given
returns-clause-all_given c = λ setting s f planned idle. f.group.all_given planned idle
