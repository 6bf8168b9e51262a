-- What ends a connection off which no request was read: nothing is said, or a refusal.
use Rattle.std.specs.Prelude.{◌≡◌, ◌⊎◌, ℕ, List, Option}
use Rattle.cw_io.specs.Told.{with_back}
use Rattle.cw_io.specs.Written.{IsWrittenInPart}
use Rattle.cw_http.specs.declared.request.HttpFault.{HttpFault}
use Rattle.cw_http.specs.declared.request.HttpFault.TheVariants as http
use Rattle.cw_conn.specs.declared.ends.ConnEnd.{ConnEnd}
use Rattle.cw_conn.specs.declared.ends.ConnEnd.TheVariants.{Ended, Bad, LinkFault, Memory}
use Rattle.cw_conn.specs.Ends.{bad_text, memory_text}

-- a refusal was written and the connection ends so, or its link failed in the refusal
abbrev pub Refuses : ConnEnd → List ℕ → Option (List ℕ) → Option (List ℕ) → ConnEnd → Type 0
Refuses wanted text held held_now end =
    ((end ≡ wanted) × (held_now ≡ with_back text held)) ⊎ ((end ≡ LinkFault) × IsWrittenInPart text held held_now)

-- nothing was written
abbrev pub EndsSilent : ConnEnd → Option (List ℕ) → Option (List ℕ) → ConnEnd → Type 0
EndsSilent wanted held held_now end = (end ≡ wanted) × (held_now ≡ held)

-- the end of a connection, by why no request was read. Want of memory for a refusal is told in its place
abbrev pub EndsUnread : HttpFault → Option (List ℕ) → Option (List ℕ) → ConnEnd → Type 0
EndsUnread http.Ended held held_now end = EndsSilent Ended held held_now end
EndsUnread http.LinkFault held held_now end = EndsSilent LinkFault held held_now end
EndsUnread (http.Bad code) held held_now end =
    Refuses (Bad code) (bad_text code) held held_now end ⊎ Refuses Memory memory_text held held_now end
EndsUnread http.Memory held held_now end = Refuses Memory memory_text held held_now end
