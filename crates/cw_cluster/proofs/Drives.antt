-- A drive is the same where what is left of it is more than what its player is.
use Rattle.std.proofs.Common.{◌≡◌, ◌⊎◌, inl, inr, ⊎_elim, ℕ, List, [], ◌++◌, Option, Some, None}
use Rattle.cw_lines.specs.declared.end.DriveEnd.{DriveEnd}
use Rattle.cw_lines.specs.declared.end.DriveEnd.TheVariants.{Done, BadScript, TooLong, ReadFault, WriteFault, StoreFault, OutletFault, Full, Memory}
use Rattle.cw_lines.specs.Due.{Plays, Leaves, LeavesNext, SaysInPart, EndsAmid, EndsUnwritten, EndsBroken, IsDue, Drives}
use Rattle.cw_lines.specs.Plays.{Played, LinePlayer, behind_lines}
use Rattle.cw_lines.specs.Players.{Amid}

module _ {S : Type 0} (player : LinePlayer S) (amid : Amid S) (state : S) (bytes taken rest text : List ℕ) (at at' : S → Type 0)
    (broken broken' : ℕ → List ℕ → S → List ℕ → Type 0) (to : (s : S) → at s → at' s)
    (breaks : (number : ℕ) (line : List ℕ) (s : S) (said : List ℕ) → broken number line s said → broken' number line s said) where
  plays : (played : Played S) (stop : Option DriveEnd) → Plays played stop text at → Plays played stop text at'
  plays played stop p = record { ends = p.ends; said = p.said; left = to played.store p.left }

  leaves : (lines : ℕ) → Leaves player amid state bytes taken rest text at lines → Leaves player amid state bytes taken rest text at' lines
  leaves lines left = ⊎_elim
      (λ (here : at (behind_lines player lines bytes state).store). inl (to (behind_lines player lines bytes state).store here))
      (λ (next : LeavesNext player amid state bytes taken rest text at lines). inr (record { read = next.read; to = next.to; on_way = next.on_way; left = to next.to next.left })) left

  part : (whole : List ℕ) → SaysInPart player amid state bytes taken rest text at whole → SaysInPart player amid state bytes taken rest text at' whole
  part whole p = record {
    before = record { before = p.before.before; piece = p.before.piece; split = p.before.split; short = p.before.short; answered = p.before.answered };
    part = p.part;
  }

  ends-amid : EndsAmid player amid state bytes taken rest text at → EndsAmid player amid state bytes taken rest text at'
  ends-amid e = record { lines = e.lines; read = e.read; goes_on = e.goes_on; said = e.said; left = leaves e.lines e.left }

  due : (end : DriveEnd) (unwritten : Type 0) → IsDue player amid state bytes taken rest text at end unwritten broken →
      IsDue player amid state bytes taken rest text at' end unwritten broken'
  due Done unwritten is = (is.0, plays _ _ is.1)
  due (BadScript line kind) unwritten is = plays _ _ is
  due (TooLong count) unwritten is = plays _ _ is
  due (Full log size frame) unwritten is = plays _ _ is
  due ReadFault unwritten is = plays _ _ is
  due WriteFault unwritten is = record { lines = is.lines; read = is.read; said = part _ is.said; left = leaves is.lines is.left }
  due Memory unwritten is = ends-amid is
  due OutletFault unwritten is = ends-amid is
  due (StoreFault disk count) unwritten is = record {
    lines = is.lines;
    read = is.read;
    words = is.words;
    said = ⊎_elim (λ whole. inl whole) (λ (cut : unwritten × SaysInPart player amid state bytes taken rest text at ((behind_lines player is.lines bytes state).text ++ is.words)).
        inr (cut.0, part _ cut.1)) is.said;
    left = breaks _ _ _ _ is.left;
  }

pub drives-to : {S : Type 0} (player : LinePlayer S) (amid : Amid S) (end : DriveEnd) (state : S) (bytes : List ℕ) (left before after : Option (List ℕ))
    (unwritten : Type 0) (at at' : S → Type 0) (broken broken' : ℕ → List ℕ → S → List ℕ → Type 0) → ((s : S) → at s → at' s) →
    ((number : ℕ) (line : List ℕ) (s : S) (said : List ℕ) → broken number line s said → broken' number line s said) →
    Drives player amid end state bytes left before after unwritten at broken → Drives player amid end state bytes left before after unwritten at' broken'
drives-to player amid end state bytes left before after unwritten at at' broken broken' to breaks d = record {
  taken = d.taken;
  rest = d.rest;
  text = d.text;
  split = d.split;
  left_over = d.left_over;
  written = d.written;
  due = due player amid state bytes d.taken d.rest d.text at at' broken broken' to breaks end unwritten d.due;
}
