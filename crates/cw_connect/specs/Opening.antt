-- A cluster that was opened for a script, as Kafka Connect's workers read their topics before they take part: what the
-- words, the shelf of feeds and the eight disks say of it. This project's own, as are the files.
use Rattle.std.specs.Prelude.{◌≡◌, Bool, true, Some}
use Rattle.cw_disk.specs.declared.device.Disk.{Ghosts}
use Rattle.cw_disk.specs.declared.disks.Disks.{Disks}
use Rattle.cw_io.specs.Shelf.{Files}
use Rattle.cw_io.specs.declared.shelf.Shelf as shelf
use Rattle.cw_model.specs.Facts.{AreFacts}
use Rattle.cw_model.specs.Reopening.{stored_of}
use Rattle.cw_model.specs.StandsFor.{StandFor, TellsWhetherFeedsAgree}
use Rattle.cw_model.specs.State.{Cluster, Setting}
use Rattle.cw_open.specs.Opened.{IsSetBy}
use Rattle.cw_open.specs.Reopened.{DiskFiles, FilesHold, TellAll}
use Rattle.cw_words.specs.declared.command.Options.{Options}
use Rattle.cw_run.specs.Reaches.{HaveNames}

-- the feeds that were loaded are those of the shelf, where it tells them, and the setting is by them and by the words
pub record IsSetFor {H : Type 0} (S : shelf.Ghosts H) (options : Options) (on : H) (setting : Setting) : Type 0 where
  pub feeds : Files
  pub loaded : (held : Files) → S.files on ≡ Some held → feeds ≡ held
  pub set : IsSetBy options.group options.delay feeds setting
  pub names : HaveNames setting

-- a state without workers, as the disks held it: it stands for what its logs hold, and the files hold just this; and
-- whether the logs tell their lists
pub record IsOpenedFrom {D : Type 0} (G : Ghosts D) (disks : Disks D) (setting : Setting) (s : Cluster) (tells : Bool)
    : Type 0 where
  pub stands : StandFor (stored_of s) s
  pub files : (files : DiskFiles) → TellAll G disks files → FilesHold files (stored_of s)
  pub agreed : TellsWhetherFeedsAgree setting s
  pub facts : AreFacts setting s
  pub told : (files : DiskFiles) → TellAll G disks files → tells ≡ true
