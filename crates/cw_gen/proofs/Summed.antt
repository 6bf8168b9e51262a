-- What is behind a whole script: what was counted of it, and the commits that a stop leaves in the transaction log.
use Rattle.std.proofs.Common.{◌≡◌, ℕ, ◌<◌, ◌^◌, List, length, codes, sym, ap, subst, ◌∙◌}
use Rattle.cw_bytes.specs.Frames.{joined}
use Rattle.cw_disk.specs.declared.device.Disk.{Ghosts}
use Rattle.cw_txn.specs.declared.entry.Entry.{Entry}
use Rattle.cw_data.specs.declared.entry.DataEntry.{DataEntry}
use Rattle.cw_model.specs.Facts.{AreFacts}
use Rattle.cw_model.specs.Reopening.{stored_of}
use Rattle.cw_model.specs.State.{Setting, Cluster}
use Rattle.cw_world.specs.World.{WorldState}
use Rattle.cw_open.specs.Leaving.{LeaveLists}
use Rattle.cw_gen.specs.declared.summing.Behind.{Behind}
use Rattle.cw_gen.specs.Counts.{HoldsFrames, commit_count, committed_count}
use Rattle.cw_gen.specs.Playing.{AreBehind, AreSums, StandsBehind}
use Rattle.cw_gen.specs.Scripts.{making, run_of}

pub counted-so : (topic name : List ℕ) (entries own : List Entry) (batches log : List DataEntry) → topic ≡ name → entries ≡ own → batches ≡ log →
    committed_count topic entries batches ≡ committed_count name own log
counted-so topic name entries own batches log topic-is entries-are batches-are =
    ap (λ (t : List ℕ). committed_count t entries batches) topic-is ∙ ap (λ (e : List Entry). committed_count name e batches) entries-are
    ∙ ap (λ (b : List DataEntry). committed_count name own b) batches-are

module _ {D : Type 0} (G : Ghosts D) (setting : Setting) (start count : ℕ) (behind : Behind D) where
  pub behind-so : (world : WorldState D) → StandsBehind G setting (making setting start count).lines world → behind.fenced ≡ (making setting start count).fenced →
      behind.records ≡ committed_count (codes "t") world.state.entries world.state.batches → LeaveLists G behind.disks (stored_of world.state) →
      AreFacts world.setting world.state → length world.state.entries < 2 ^ 64 → AreBehind G setting start count behind
  behind-so world stands fenced records disks facts few = record {
    goes_on = stands.goes_on;
    fenced = fenced;
    records = records ∙ ap (λ (s : Cluster). committed_count (codes "t") s.entries s.batches) stands.state_is;
    disks = subst (λ (s : Cluster). LeaveLists G behind.disks (stored_of s)) stands.state_is disks;
    facts = subst (λ (s : Cluster). AreFacts setting s) stands.state_is (subst (λ (c : Setting). AreFacts c world.state) stands.setting_is facts);
    few = subst (λ (s : Cluster). length s.entries < 2 ^ 64) stands.state_is few;
  }

  module _ (are : AreBehind G setting start count behind) where
    -- a stop leaves the frames of the transaction log
    pub held-frames : (image : D → List ℕ) → ((disk : D) → G.may_leave disk (image disk)) →
        HoldsFrames (image behind.disks.txn) (run_of setting (making setting start count).lines).store.txn
    held-frames image may = let d = behind.disks in record {
      stands = (are.disks (record {
        config_a = image d.config_a;
        config_b = image d.config_b;
        offsets_a = image d.offsets_a;
        offsets_b = image d.offsets_b;
        status_a = image d.status_a;
        status_b = image d.status_b;
        txn = image d.txn;
        batches = image d.batches;
      }) (record {
        config_a = may d.config_a;
        config_b = may d.config_b;
        offsets_a = may d.offsets_a;
        offsets_b = may d.offsets_b;
        status_a = may d.status_a;
        status_b = may d.status_b;
        txn = may d.txn;
        batches = may d.batches;
      })).txn;
      written = are.facts.logs.written.txn;
      few = subst (λ (entries : List Entry). length entries < 2 ^ 64) (sym are.facts.logs.all_entries) are.few;
    }

    pub sums-so : (commits : ℕ) → commits ≡ commit_count (joined (run_of setting (making setting start count).lines).store.txn) →
        AreSums setting start count (record { commits = commits; fenced = behind.fenced; records = behind.records })
    sums-so commits counted = record {
      goes_on = are.goes_on;
      commits = counted ∙ ap (λ (entries : List Entry). commit_count entries) are.facts.logs.all_entries;
      fenced = are.fenced;
      records = are.records;
    }
