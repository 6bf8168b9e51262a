-- What an opening may take for granted of the files of the five logs: they hold bytes, no more than a disk can count.
-- This project's own.
use Rattle.std.specs.Prelude.{ℕ, ◌<◌, ◌^◌, List}
use Rattle.std.specs.List.{AllByRecursion}
use Rattle.cw_bytes.specs.Unread.{AreBytes}
use Rattle.cw_log.specs.Log.{length_of}
use Rattle.cw_model.specs.State.{Setting, Cluster}
use Rattle.cw_model.specs.Facts.{AreFacts}
use Rattle.cw_model.specs.FactsLogs.{AreShort}
use Rattle.cw_model.specs.StandsFor.{Stored, StandFor, TellsWhetherFeedsAgree}

-- bodies that a file can hold
pub record IsLogFile (bodies : List (List ℕ)) : Type 0 where
  pub bytes : AllByRecursion AreBytes bodies
  pub size : length_of bodies < 2 ^ 64

-- the files of all logs
pub record AreFiles (stored : Stored) : Type 0 where
  pub config : IsLogFile stored.config.frames
  pub offsets : IsLogFile stored.offsets.frames
  pub status : IsLogFile stored.status.frames
  pub txn : IsLogFile stored.txn
  pub batches : IsLogFile stored.batches

-- files are opened, and stand for a state: the feeds are short, and the setting says whether they agree with what is
-- committed
pub record IsOpening (setting : Setting) (stored : Stored) (s : Cluster) : Type 0 where
  pub files : AreFiles stored
  pub stand : StandFor stored s
  pub short : AreShort setting.feeds
  pub tells : TellsWhetherFeedsAgree setting s

-- files open to a state, which has all facts with any feeds of which the setting tells whether they agree
pub record Opens (setting : Setting) (stored : Stored) : Type 0 where
  pub state : Cluster
  pub stand : StandFor stored state
  pub facts : TellsWhetherFeedsAgree setting state → AreFacts setting state
