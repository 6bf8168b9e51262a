use Rattle.std.proofs.Common.{refl, ap}
use Rattle.cw_keys.specs.declared.config_key.ConfigKey.{ConfigKey}
use Rattle.cw_keys.specs.declared.config_key.ConfigKey.TheVariants as key
use Rattle.cw_config.specs.Records.{same_key}
use Rattle.cw_open.proofs.FenceLemmas.{with_other, with_commit, with_fence}
use Rattle.cw_open.proofs.fences.add.Goals as goal

pub returns-in-Connector : goal.returns-in-Connector
returns-in-Connector c = λ records kept. with_other records c.args.added.now c.args.table.now kept
    (λ name. ap (λ (k : ConfigKey). same_key k (key.Commit name)) c.in-Connector.is) (λ name. ap (λ (k : ConfigKey). same_key k (key.Fencing name)) c.in-Connector.is)

pub returns-in-Task : goal.returns-in-Task
returns-in-Task c = λ records kept. with_other records c.args.added.now c.args.table.now kept
    (λ name. ap (λ (k : ConfigKey). same_key k (key.Commit name)) c.in-Task.is) (λ name. ap (λ (k : ConfigKey). same_key k (key.Fencing name)) c.in-Task.is)

pub returns-in-Target : goal.returns-in-Target
returns-in-Target c = λ records kept. with_other records c.args.added.now c.args.table.now kept
    (λ name. ap (λ (k : ConfigKey). same_key k (key.Commit name)) c.in-Target.is) (λ name. ap (λ (k : ConfigKey). same_key k (key.Fencing name)) c.in-Target.is)

pub returns-in_ok-note_commit-in-Commit : goal.returns-in_ok-note_commit-in-Commit
returns-in_ok-note_commit-in-Commit c = λ records kept. with_commit records c.args.added.now c.args.table.now kept c.in-Commit.name c.in-Commit.is _ refl c.in_ok-note_commit-in-Commit.ensures

pub returns-in_ok-note_fence-in-Fencing : goal.returns-in_ok-note_fence-in-Fencing
returns-in_ok-note_fence-in-Fencing c = λ records kept. with_fence records c.args.added.now c.args.table.now kept c.in-Fencing.name c.in-Fencing.is c.note_fence.new.table c.in_ok-note_fence-in-Fencing.ensures
