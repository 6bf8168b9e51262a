-- The lines of a report on a stopped cluster's logs: what is printed of a log, a producer's id, a part and a connector.
-- The words are this project's own.
use Rattle.std.specs.Prelude.{ℕ, Bool, true, false, List, ◌++◌, Option, Some, None, codes, decimal}
use Rattle.cw_types.specs.declared.logs.LogName.{LogName}
use Rattle.cw_rest.specs.Messages.{log_text}

-- how many frames a log has, and how many bytes its file
abbrev pub log_line : LogName → (frames bytes : ℕ) → List ℕ
log_line log frames bytes =
    codes "log " ++ log_text log ++ codes " frames " ++ decimal frames ++ codes " bytes " ++ decimal bytes ++ codes "\n"

-- the epoch of a producer's id (KIP-98, KIP-618)
abbrev pub tid_line : (text : List ℕ) → (epoch : ℕ) → List ℕ
tid_line text epoch = codes "tid " ++ text ++ codes " epoch " ++ decimal epoch ++ codes "\n"

-- where a part's offsets end; a part that was reset has no end
abbrev pub end_text : Option ℕ → List ℕ
end_text (Some end) = decimal end
end_text None = codes "none"

-- where the offsets of a part, under its key in Connect's offset topic, begin and end
abbrev pub part_line : (key : List ℕ) → (base : ℕ) → (end : Option ℕ) → List ℕ
part_line key base end =
    codes "part " ++ key ++ codes " base " ++ decimal base ++ codes " end " ++ end_text end ++ codes "\n"

abbrev pub yes_or_no : Bool → List ℕ
yes_or_no true = codes "yes"
yes_or_no false = codes "no"

-- the task set of a connector that was committed last, how many tasks it has, and whether older ones still have to be
-- fenced (KIP-618)
abbrev pub connector_line : (name : List ℕ) → (generation count : ℕ) → (pending : Bool) → List ℕ
connector_line name generation count pending =
    codes "connector " ++ name ++ codes " generation " ++ decimal generation ++ codes " count " ++ decimal count
    ++ codes " pending " ++ yes_or_no pending ++ codes "\n"

-- whether the feeds are those of which the committed records were read
abbrev pub feeds_line : Bool → List ℕ
feeds_line true = codes "feeds agree\n"
feeds_line false = codes "feeds differ\n"
