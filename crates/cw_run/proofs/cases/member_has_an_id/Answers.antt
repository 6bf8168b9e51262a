use Rattle.std.proofs.Common.{refl}
use Rattle.std.specs.Fmt.{digits}
use Rattle.sha1.specs.Sha1.{first_words, schedule, rounds, compress, hash_after, digest_bytes, sha1}
use Rattle.uuid.specs.Text.{by_index}
use Rattle.cw_bytes.specs.Spelling.{word, long, text}
use Rattle.cw_lines.specs.Lines.{lines_of}
use Rattle.cw_lines.specs.Plays.{play, play_last}
use Rattle.cw_run.specs.Looks.{uuid_of}
use Rattle.cw_run.proofs.cases.member_has_an_id.Goals as goal

pub returns : goal.returns
unfolding digits first_words schedule rounds compress hash_after digest_bytes sha1 by_index word long text uuid_of lines_of play play_last
returns c = refl
