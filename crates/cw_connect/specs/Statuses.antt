-- The numbers that the program exits with, and the line that it prints for each. This project's own.
use Rattle.std.specs.Prelude.{ℕ, List, [], ◌∷◌, ◌++◌, Option, None, Some, codes, decimal}
use Rattle.cw_audit.specs.declared.end.AuditEnd.{AuditEnd}
use Rattle.cw_audit.specs.declared.end.AuditEnd.TheVariants as audit
use Rattle.cw_gen.specs.declared.end.GenEnd.{GenEnd}
use Rattle.cw_gen.specs.declared.end.GenEnd.TheVariants as gen
use Rattle.cw_io.specs.declared.shelf.ShelfFault.{ShelfFault as OfShelf}
use Rattle.cw_io.specs.declared.shelf.ShelfFault.TheVariants as shelf
use Rattle.cw_lines.specs.declared.end.DriveEnd.{DriveEnd}
use Rattle.cw_lines.specs.declared.end.DriveEnd.TheVariants as end
use Rattle.cw_open.specs.declared.reopen_fault.ReopenCause.{ReopenCause}
use Rattle.cw_open.specs.declared.reopen_fault.ReopenCause.TheVariants as cause
use Rattle.cw_script.specs.Faults.{kind_text}
use Rattle.cw_serve.specs.declared.ends.ServeEnd.{ServeEnd}
use Rattle.cw_serve.specs.declared.ends.ServeEnd.TheVariants as serve
use Rattle.cw_words.specs.declared.command.WordsFault.{WordsFault}
use Rattle.cw_words.specs.declared.command.WordsFault.TheVariants as words
use Rattle.cw_connect.specs.declared.status.Status.{Status}
use Rattle.cw_connect.specs.declared.status.Status.TheVariants.{Done, Usage, BadScript, TooLong, ReadFault, WriteFault}
use Rattle.cw_connect.specs.declared.status.Status.TheVariants.{StoreFault, Damaged, ShelfFault, OutletFault, NetFault}
use Rattle.cw_connect.specs.declared.status.Status.TheVariants.{Full, Memory, Disagree}

-- the exit status
abbrev pub status_number : Status → ℕ
status_number Done = 0
status_number Usage = 1
status_number (BadScript line kind) = 2
status_number (TooLong count) = 2
status_number ReadFault = 3
status_number WriteFault = 4
status_number (StoreFault disk count) = 5
status_number (Damaged disk at harm) = 6
status_number ShelfFault = 7
status_number OutletFault = 8
status_number NetFault = 9
status_number (Full log length frame) = 10
status_number Memory = 11
status_number (Disagree at kept found) = 12

-- the words on standard error
abbrev pub status_text : Status → List ℕ
status_text Done = codes "status 0 Done"
status_text Usage = codes "status 1 Usage"
status_text (BadScript line kind) = codes "status 2 BadScript " ++ decimal line ++ codes " " ++ kind_text kind
status_text (TooLong count) = codes "status 2 TooLong"
status_text ReadFault = codes "status 3 ReadFault"
status_text WriteFault = codes "status 4 WriteFault"
status_text (StoreFault disk count) = codes "status 5 StoreFault"
status_text (Damaged disk at harm) = codes "status 6 Damaged"
status_text ShelfFault = codes "status 7 ShelfFault"
status_text OutletFault = codes "status 8 OutletFault"
status_text NetFault = codes "status 9 NetFault"
status_text (Full log length frame) = codes "status 10 Full"
status_text Memory = codes "status 11 Memory"
status_text (Disagree at kept found) = codes "status 12 Disagree"

-- the line with them, none at Done
abbrev pub status_line : Status → List ℕ
status_line Done = []
status_line status = status_text status ++ 10 ∷ []

-- ---- whose fault it was

-- words that are no command
abbrev pub status_of_words : WordsFault → Status
status_of_words words.Usage = Usage
status_of_words words.Memory = Memory

-- feeds that couldn't be loaded
abbrev pub status_of_shelf : OfShelf → Status
status_of_shelf shelf.Failed = ShelfFault
status_of_shelf shelf.Memory = Memory

-- disks that weren't opened
abbrev pub status_of_cause : ReopenCause → Status
status_of_cause (cause.Damaged disk at harm) = Damaged disk at harm
status_of_cause (cause.StoreFault disk count) = StoreFault disk count
status_of_cause cause.Memory = Memory

-- a script that ended
abbrev pub status_of_end : DriveEnd → Status
status_of_end end.Done = Done
status_of_end (end.BadScript line kind) = BadScript line kind
status_of_end (end.TooLong count) = TooLong count
status_of_end end.ReadFault = ReadFault
status_of_end end.WriteFault = WriteFault
status_of_end (end.StoreFault disk count) = StoreFault disk count
status_of_end end.OutletFault = OutletFault
status_of_end (end.Full log length frame) = Full log length frame
status_of_end end.Memory = Memory

-- a script by what ended it early, if anything did
abbrev pub status_of_stop : Option DriveEnd → Status
status_of_stop None = Done
status_of_stop (Some end) = status_of_end end

-- a report that ended
abbrev pub status_of_audit : AuditEnd → Status
status_of_audit audit.Done = Done
status_of_audit audit.WriteFault = WriteFault
status_of_audit (audit.StoreFault disk count) = StoreFault disk count
status_of_audit (audit.Damaged disk at harm) = Damaged disk at harm
status_of_audit audit.Memory = Memory

-- a script that was made, and ended
abbrev pub status_of_gen : GenEnd → Status
status_of_gen gen.Done = Done
status_of_gen gen.WriteFault = WriteFault
status_of_gen (gen.Full log length frame) = Full log length frame
status_of_gen gen.Memory = Memory

-- a server that ended
abbrev pub status_of_serve : ServeEnd → Status
status_of_serve serve.Done = Done
status_of_serve (serve.StoreFault disk count) = StoreFault disk count
status_of_serve serve.OutletFault = OutletFault
status_of_serve serve.NetFault = NetFault
status_of_serve serve.Memory = Memory
status_of_serve (serve.Disagree d) = Disagree d.at d.kept d.found
