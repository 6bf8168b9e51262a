use Rattle.cw_bytes.proofs.Steps.{byte_again}
use Rattle.cw_bytes.proofs.Widths.{word_again, long_again, text_again}
use Rattle.cw_bytes.proofs.Producers.{tid_again, tag_again}
use Rattle.cw_bytes.proofs.Marks.{mark_again}
use Rattle.cw_bytes.proofs.Parts.{part_again, span_again}
use Rattle.cw_bytes.proofs.Records.{records_again}
use Rattle.cw_bytes.proofs.reader.spelled_fields_are_read.Goals as goal

pub returns-clause-byte : goal.returns-clause-byte
returns-clause-byte c = byte_again

pub returns-clause-word : goal.returns-clause-word
returns-clause-word c x from next is = word_again x is from next

pub returns-clause-long : goal.returns-clause-long
returns-clause-long c x from next is = long_again x is from next

pub returns-clause-text : goal.returns-clause-text
returns-clause-text c x from next is = text_again x is from next

pub returns-clause-tid : goal.returns-clause-tid
returns-clause-tid c x from next is = tid_again x is from next

pub returns-clause-tag : goal.returns-clause-tag
returns-clause-tag c x from next is = tag_again x is from next

pub returns-clause-mark : goal.returns-clause-mark
returns-clause-mark c x from next is = mark_again x is from next

pub returns-clause-part : goal.returns-clause-part
returns-clause-part c x from next is = part_again x is from next

pub returns-clause-span : goal.returns-clause-span
returns-clause-span c x from next is = span_again x is from next

pub returns-clause-records : goal.returns-clause-records
returns-clause-records c x from next is = records_again x is from next
