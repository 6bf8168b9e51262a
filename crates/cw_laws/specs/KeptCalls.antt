-- What is known of a call once it wrote, or was read from a published view, so that it may be kept in the journal. This
-- project's own.
use Rattle.std.specs.Prelude.{◌≡◌, ◌≤◌, true, ◌++◌, length}
use Rattle.cw_rest.specs.Replies.{values_of, entries_of}
use Rattle.cw_model.specs.declared.journal.JournalEntry.{JournalEntry}
use Rattle.cw_model.specs.State.{Setting, Cluster}
use Rattle.cw_model.specs.Lookups.{row_of}
use Rattle.cw_model.specs.Grows.{Grows}
use Rattle.cw_model.specs.Journal.{seen_by, IsRightReply, IsOfBoard, WroteConfigs, WroteOffsets, SeesAsOfNow}
use Rattle.cw_model.specs.Journal.{IsReplyOfNow}
use Rattle.cw_model.specs.Updates.{stamped}

-- a call was answered by a state, and wrote its configs behind what stood there; its worker has read them since
pub record HasWritten (setting : Setting) (s t : Cluster) (e : JournalEntry) : Type 0 where
  pub wrote : WroteConfigs e
  pub sees : SeesAsOfNow s e
  pub reply : IsReplyOfNow setting s e
  pub some : 1 ≤ length (values_of e.call)
  pub configs : t.configs ≡ s.configs ++ stamped (values_of e.call) s
  pub read : (row_of e.worker t).prefix ≡ length t.configs
  pub grows : Grows s t
  pub journal : t.journal ≡ s.journal

-- a call was answered by a state, and set its offsets behind what stood there
pub record HasSet (setting : Setting) (s t : Cluster) (e : JournalEntry) : Type 0 where
  pub wrote : WroteOffsets e
  pub sees : SeesAsOfNow s e
  pub reply : IsReplyOfNow setting s e
  pub entries : t.entries ≡ s.entries ++ entries_of (seen_by setting s e) e.call
  pub grows : Grows s t
  pub journal : t.journal ≡ s.journal

-- a call was answered from a published view of the configs that its worker had read
pub record IsOfView (setting : Setting) (s : Cluster) (e : JournalEntry) : Type 0 where
  pub board : e.board ≡ true
  pub view : IsOfBoard e
  pub prefix : e.prefix ≤ (row_of e.worker s).prefix
  pub reply : IsRightReply setting s e
