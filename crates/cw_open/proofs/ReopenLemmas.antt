-- Frames that are allowed and safe are those of a state in which all facts hold.
use Rattle.std.proofs.Common.{◌≡◌, ℕ, ◌<◌, ◌^◌, List, [], map, Result, Ok, Err, refl, sym, ap, subst, ◌∙◌}
use Rattle.std.specs.Prelude.{IfErr, IfOk, MatchResult}
use Rattle.cw_disk.specs.declared.device.Disk.{Ghosts}
use Rattle.cw_disk.specs.declared.disks.Disks.{Disks}
use Rattle.cw_types.specs.declared.ids.PartKey.{PartKey}
use Rattle.cw_types.specs.declared.logs.LogName.TheVariants.{Config, Offsets, Status, Txn, Batches}
use Rattle.cw_bytes.specs.Frames.{EachFrom, joined}
use Rattle.cw_config.specs.Compaction.{configs_in}
use Rattle.cw_bytes.specs.declared.applied.Applied.{Applied}
use Rattle.cw_offset.specs.declared.body.OffsetEntry.{OffsetEntry}
use Rattle.cw_data.specs.declared.entry.DataEntry.{DataEntry}
use Rattle.cw_data.specs.Body.{entry_bytes as data_body}
use Rattle.cw_log.specs.Log.{length_of}
use Rattle.cw_txn.specs.declared.entry.Entry.{Entry}
use Rattle.cw_txn.specs.Allowed.{IsAllowedBehind}
use Rattle.cw_txn.specs.Legal.{ChainsBehind}
use Rattle.cw_model.specs.State.{Cluster, Setting}
use Rattle.cw_model.specs.ConfigsAllowed.{AreAllowedConfigs}
use Rattle.cw_model.specs.Facts.{AreFacts}
use Rattle.cw_model.specs.FactsLogs.{AreShort}
use Rattle.cw_model.specs.Reopening.{stored_of}
use Rattle.cw_model.specs.StandsFor.{Stored, Frames, AreSound, IsSafeEntry, StandFor, TellsWhetherFeedsAgree, allowing_of, safety_of}
use Rattle.cw_laws.proofs.Framed.{unframed}
use Rattle.cw_laws.proofs.Lists.{each_from-weaker}
use Rattle.cw_laws.proofs.OpenLogs.{configs-allowed}
use Rattle.cw_laws.proofs.Opens.{opens}
use Rattle.cw_topics.specs.Topics.{TopicsState}
use Rattle.cw_rows.specs.Opened.{opened_of}
use Rattle.cw_world.specs.Logs.{HoldAll, HoldsList, LogsState, LogView, view_in}
use Rattle.cw_world.specs.World.{WorldState}
use Rattle.cw_open.specs.Judged.{AreLogsOf, HasFirstHarm, IsLogOf, IsSoundly, IsWhyNot, stored_by}
use Rattle.cw_open.specs.Leaving.{IsNoDamage, IsSameBesidesSides, StandForLists}
use Rattle.cw_open.specs.Opened.{logs_in, opened_as, opened_by}
use Rattle.cw_open.specs.Reopened.{DiskFiles, FailedAt, FilesHold, OnReopenCause, TellAll}
use Rattle.cw_open.specs.declared.judged_disks.JudgedDisks.{JudgedDisks}
use Rattle.cw_open.specs.declared.reopen_fault.ReopenFault.{ReopenFault}
use Rattle.cw_open.specs.declared.reopen_fault.ReopenCause.{ReopenCause}
use Rattle.cw_open.specs.declared.reopen_fault.ReopenCause.TheVariants.{Damaged, StoreFault, Memory}
use Rattle.cw_open.proofs.LeavingLemmas.{no-first-harm, same-besides-sides}

module _ (frames : Frames) where
  module _ (allowed : AreSound (allowing_of frames)) where
    pub configs-may : AreAllowedConfigs [] (configs_in frames.config)
    configs-may = configs-allowed frames.config allowed.0

    pub entries-may : EachFrom IsAllowedBehind [] (joined frames.txn)
    entries-may = unframed IsAllowedBehind [] frames.txn allowed.1.1.1.0

  pub entries-chain : AreSound (safety_of frames) → (part : PartKey) → EachFrom (ChainsBehind part) [] (joined frames.txn)
  entries-chain safe part =
      each_from-weaker (IsSafeEntry (configs_in frames.config) frames.batches) (ChainsBehind part) [] (joined frames.txn) (λ before entry is. is.chains part)
      (unframed (IsSafeEntry (configs_in frames.config) frames.batches) [] frames.txn safe.1.1.1.0)

  module _ (config offsets status : ℕ) where
    abbrev state : Cluster
    state = opened_as frames config offsets status

    module _ (is : IsSoundly (stored_of state) frames) where
      pub stand : StandFor (stored_of state) state
      stand = record {
        frames = frames;
        read = is.read;
        allowed = is.allowed;
        safe = is.safe;
        holds = record { config = refl; offsets = refl; status = refl; txn = refl; batches = refl };
        opened = record {
          configs = refl;
          statuses = refl;
          entries = refl;
          group = refl;
          lost = refl;
          delay = refl;
          moment = refl;
          rows = refl;
          instances = refl;
          journal = refl;
          closed = refl;
        };
      }

      pub facts : (setting : Setting) → AreShort setting.feeds → TellsWhetherFeedsAgree setting state → AreFacts setting state
      facts setting short tells = opens setting (stored_of state) state (record { files = is.files; stand = stand; short = short; tells = tells })

      pub fits : length_of (map data_body frames.batches) < 2 ^ 64
      fits = is.files.batches.size

-- the same frames, log by log
abbrev frames_as : List (List Applied) → List OffsetEntry → List (List Applied) → List (List Entry) → List DataEntry → Frames
frames_as config offsets status txn batches = record { config = config; offsets = offsets; status = status; txn = txn; batches = batches }

pub frames-same : {config configs : List (List Applied)} {offsets offset_log : List OffsetEntry} {status statuses : List (List Applied)} {txn entries : List (List Entry)} (batches : List DataEntry) →
    config ≡ configs → offsets ≡ offset_log → status ≡ statuses → txn ≡ entries →
    frames_as config offsets status txn batches ≡ frames_as configs offset_log statuses entries batches
frames-same batches c o s t = λ i. record { config = c i; offsets = o i; status = s i; txn = t i; batches = batches }

-- what is told of the topics tells the state
pub topics-open : {E : Type 0} (r : Result TopicsState E) (topics : TopicsState) (s : Cluster) → IfOk r (λ t. t ≡ topics) → opened_of topics ≡ s → IfOk r (λ t. opened_of t ≡ s)
topics-open (Ok t) topics s is opens = ap (λ (topics : TopicsState). opened_of topics) is ∙ opens
topics-open (Err fault) topics s is opens = tt

-- ---- of disks that were judged

module _ {D : Type 0} (judged : JudgedDisks D) where
  -- by the side numbers that the logs tell
  pub state-by : (s : Cluster) (config offsets status : ℕ) → config ≡ judged.config.log.number → offsets ≡ judged.offsets.log.number → status ≡ judged.status.log.number →
      s ≡ opened_as judged.frames config offsets status → s ≡ opened_by judged
  state-by s config offsets status same_config same_offsets same_status is = is ∙ (λ i. opened_as judged.frames (same_config i) (same_offsets i) (same_status i))

  module _ (sound : IsSoundly (stored_by judged) judged.frames) where
    pub judged-stand : StandFor (stored_of (opened_by judged)) (opened_by judged)
    judged-stand = stand judged.frames judged.config.log.number judged.offsets.log.number judged.status.log.number sound

    pub judged-facts : (setting : Setting) (s : Cluster) → s ≡ opened_by judged → AreShort setting.feeds → TellsWhetherFeedsAgree setting s → AreFacts setting s
    judged-facts setting s is short tells = subst (AreFacts setting) (sym is)
        (facts judged.frames judged.config.log.number judged.offsets.log.number judged.status.log.number sound setting short (subst (TellsWhetherFeedsAgree setting) is tells))

-- a log that tells of itself that it holds a list holds it
holds-list : (list : List (List ℕ)) (log : LogView) → IsLogOf list log.bodies log.size log.bytes log.limit log.shut → HoldsList list log
holds-list list log of = record {
  told = of.told;
  count = of.size_is;
  ready = record { bytes_are = of.bytes_are; limit = of.limit_is; alive = of.alive };
}

pub judged-hold : {D : Type 0} (G : Ghosts D) (judged : JudgedDisks D) → AreLogsOf G (stored_by judged) judged → HoldAll G (stored_by judged) (logs_in judged)
judged-hold G judged of Config = holds-list (stored_by judged).config.frames (view_in G Config (logs_in judged)) of.config
judged-hold G judged of Offsets = holds-list (stored_by judged).offsets.frames (view_in G Offsets (logs_in judged)) of.offsets
judged-hold G judged of Status = holds-list (stored_by judged).status.frames (view_in G Status (logs_in judged)) of.status
judged-hold G judged of Txn = holds-list (stored_by judged).txn (view_in G Txn (logs_in judged)) of.txn
judged-hold G judged of Batches = holds-list (stored_by judged).batches (view_in G Batches (logs_in judged)) of.batches

-- ---- what is answered

-- what holds of a state on these logs holds of the world that has both
pub of-world : {D E : Type 0} (r : Result (WorldState D) E) (judged : JudgedDisks D) (P : WorldState D → Type 0) → IfOk r (λ world. world.state ≡ opened_by judged) → IfOk r (λ world. world.logs ≡ logs_in judged) →
    ((world : WorldState D) → world.state ≡ opened_by judged → world.logs ≡ logs_in judged → P world) → IfOk r P
of-world (Ok world) judged P same_state same_logs has = has world same_state same_logs
of-world (Err fault) judged P same_state same_logs has = tt

-- its logs hold what is stored
pub world-holds : {D E : Type 0} (G : Ghosts D) (r : Result (WorldState D) E) (judged : JudgedDisks D) → AreLogsOf G (stored_by judged) judged → IfOk r (λ world. world.state ≡ opened_by judged) →
    IfOk r (λ world. world.logs ≡ logs_in judged) → IfOk r (λ world. HoldAll G (stored_of world.state) world.logs)
world-holds G r judged of state logs = of-world r judged (λ world. HoldAll G (stored_of world.state) world.logs) state logs (λ world same_state same_logs.
    subst (λ (s : Cluster). HoldAll G (stored_of s) world.logs) (sym same_state) (subst (λ (l : LogsState _). HoldAll G (stored_by judged) l) (sym same_logs) (judged-hold G judged of)))

-- want of memory is why not
pub memory-why : {A D : Type 0} (G : Ghosts D) (disks : Disks D) (r : Result A (ReopenFault D)) → IfErr r (λ fault. fault.cause ≡ Memory) → IfErr r (IsWhyNot G disks)
memory-why G disks (Ok world) is = tt
memory-why G disks (Err fault) is = subst (λ (cause : ReopenCause). OnReopenCause (λ at place harm. (files : DiskFiles) → TellAll G disks files → HasFirstHarm files at place harm) (FailedAt G.count disks fault.disks) (Unit {0}) cause) (sym is) tt

-- files that stand for a state are opened as that state, and no harm is met
module _ {D : Type 0} (G : Ghosts D) (disks : Disks D) (files : DiskFiles) (stored : Stored) (s : Cluster) (tell : TellAll G disks files) (lists : StandForLists files stored) (stand : StandFor stored s) where
  pub no-damage : (now : Disks D) (cause : ReopenCause) →
      OnReopenCause (λ at place harm. (files : DiskFiles) → TellAll G disks files → HasFirstHarm files at place harm) (FailedAt G.count disks now) (Unit {0}) cause → IsNoDamage cause
  no-damage now (Damaged at place harm) why = no-first-harm files stored s lists stand at place harm (why files tell)
  no-damage now (StoreFault at count) why = tt
  no-damage now Memory why = tt

  pub again : (r : Result (WorldState D) (ReopenFault D)) → IfOk r (λ world. StandFor (stored_of world.state) world.state) →
      IfOk r (λ world. (files : DiskFiles) → TellAll G disks files → FilesHold files (stored_of world.state)) → IfErr r (IsWhyNot G disks) →
      MatchResult r (λ world. IsSameBesidesSides s world.state) (λ fault. IsNoDamage fault.cause)
  again (Ok world) stands hold why = same-besides-sides files stored s lists stand world.state stands (hold files tell)
  again (Err fault) stands hold why = no-damage fault.disks fault.cause why
