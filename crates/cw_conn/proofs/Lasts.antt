-- How one step ends a connection: with no request, behind the reply to one, or for want of memory.
use Rattle.std.proofs.Common.{◌≡◌, ◌⊎◌, ℕ, ◌+◌, ◌<◌, ◌≤◌, ◌==◌, ◌||◌, Bool, true, false, List, [], ◌∷◌, ◌++◌, length, Option, Some, None, inl, inr, refl, sym, ap, ◌∙◌, subst, arith}
use Rattle.std.proofs.lemmas.List.{append-nil}
use Rattle.std.specs.Prelude.{IfSome, IfNone}
use Rattle.cw_types.specs.Faults.{Rose}
use Rattle.cw_io.specs.Told.{with_back}
use Rattle.cw_io.specs.Written.{IsWrittenInPart}
use Rattle.cw_route.specs.declared.call.Call.{Call}
use Rattle.cw_model.specs.declared.journal.JournalEntry.{JournalEntry}
use Rattle.cw_http.specs.declared.request.Request.{Request}
use Rattle.cw_http.specs.declared.request.HttpFault.{HttpFault}
use Rattle.cw_http.specs.declared.request.HttpFault.TheVariants as http
use Rattle.cw_http.specs.Reading.{unfinished, refused}
use Rattle.cw_http.specs.Kept.{IsTaken, IsTold}
use Rattle.cw_http.specs.Replies.{reply_text}
use Rattle.cw_conn.specs.declared.ends.ConnEnd.{ConnEnd}
use Rattle.cw_conn.specs.declared.ends.ConnEnd.TheVariants.{Ended, Closed, Many, Bad, LinkFault, Memory}
use Rattle.cw_conn.specs.Exchanges.{Exchange, asked_call, Stand, shuts, GoesOn, HasLast}
use Rattle.cw_conn.specs.Ends.{bad_text, memory_text, Ends}
use Rattle.cw_conn.specs.Refusals.{Refuses, EndsUnread}
use Rattle.cw_conn.specs.Talked.{moment, Talked}
use Rattle.cw_conn.specs.Steps.{Exchanged}
use Rattle.cw_conn.proofs.Texts.{with_back-nil}
use Rattle.cw_conn.proofs.Behind.{outcome}

-- ---- counts of faults

pub rose_before : (a b c : ℕ) → a ≤ b → Rose b c → Rose a c
rose_before a b c first rose = omega arith

pub rose_behind : (a b c : ℕ) → Rose a b → b ≤ c → Rose a c
rose_behind a b c rose then = omega arith

pub rose_unread : (a b c : ℕ) (fault : HttpFault) → a ≤ b → b ≤ c → (fault ≡ http.LinkFault → Rose a b) → (fault ≡ http.LinkFault) ⊎ Rose b c → Rose a c
rose_unread a b c fault first then failed (inl is) = rose_behind a b c (failed is) then
rose_unread a b c fault first then failed (inr rose) = rose_before a b c first rose

-- ---- no request

-- which fault an end tells
pub unread_ended : (fault : HttpFault) (held now : Option (List ℕ)) (end : ConnEnd) → EndsUnread fault held now end → end ≡ Ended → fault ≡ http.Ended
unread_ended http.Ended held now end e is = refl
unread_ended http.LinkFault held now end e is = cc
unread_ended (http.Bad code) held now end (inl (inl e)) is = cc
unread_ended (http.Bad code) held now end (inl (inr e)) is = cc
unread_ended (http.Bad code) held now end (inr (inl e)) is = cc
unread_ended (http.Bad code) held now end (inr (inr e)) is = cc
unread_ended http.Memory held now end (inl e) is = cc
unread_ended http.Memory held now end (inr e) is = cc

pub unread_bad : (fault : HttpFault) (held now : Option (List ℕ)) (end : ConnEnd) (code : ℕ) → EndsUnread fault held now end → end ≡ Bad code → fault ≡ http.Bad code
unread_bad http.Ended held now end code e is = cc
unread_bad http.LinkFault held now end code e is = cc
unread_bad (http.Bad other) held now end code (inl (inl e)) is = cc
unread_bad (http.Bad other) held now end code (inl (inr e)) is = cc
unread_bad (http.Bad other) held now end code (inr (inl e)) is = cc
unread_bad (http.Bad other) held now end code (inr (inr e)) is = cc
unread_bad http.Memory held now end code (inl e) is = cc
unread_bad http.Memory held now end code (inr e) is = cc

no_exchange : (number : ℕ) → number < 100 → GoesOn number []
no_exchange number low = record { few = omega arith; stays = tt }

-- nothing more was answered
module _ (number : ℕ) (low : number < 100) (a b h0 h1 : Option (List ℕ)) (k0 k1 : List JournalEntry) (same : k1 ≡ k0) where
  silent : (end : ConnEnd) (unanswered : List Request) → Stand unanswered a b → Ends end (outcome number [] unanswered b h0 h1)
      → Talked number end (moment a h0 k0) (moment b h1 k1)
  silent end unanswered read ends = record {
    exchanges = [];
    unanswered = unanswered;
    read = read;
    calls = tt;
    grew = same ∙ sym (append-nil k0);
    ends = ends;
  }

  ended_as : (end wanted : ConnEnd) → end ≡ wanted → Talked number wanted (moment a h0 k0) (moment b h1 k1) → Talked number end (moment a h0 k0) (moment b h1 k1)
  ended_as end wanted is talk = subst (λ (e : ConnEnd). Talked number e (moment a h0 k0) (moment b h1 k1)) (sym is) talk

  from_start : (text : List ℕ) → IsWrittenInPart text h0 h1 → IsWrittenInPart text (with_back [] h0) h1
  from_start text part = subst (λ (h : Option (List ℕ)). IsWrittenInPart text h h1) (sym (with_back-nil h0)) part

  -- want of memory
  pub wanting : (end : ConnEnd) (unanswered : List Request) → length unanswered ≤ 1 → Stand unanswered a b → Refuses Memory memory_text h0 h1 end
      → Talked number end (moment a h0 k0) (moment b h1 k1)
  wanting end un one read (inl e) =
      ended_as end Memory e.0 (silent Memory un read (record { goes_on = no_exchange number low; unanswered = one; wrote = e.1 }))
  wanting end un one read (inr e) =
      ended_as end LinkFault e.0 (silent LinkFault un read
      (inl (record { goes_on = no_exchange number low; text = memory_text; due = inr (inl (refl, one)); wrote = from_start memory_text e.1 })))

  nothing : h1 ≡ h0 → IsWrittenInPart [] (with_back [] h0) h1
  nothing is = record { part = []; rest = []; split = refl; added = is ∙ sym (with_back-nil h0) ∙ sym (with_back-nil (with_back [] h0)) }

  -- no request was read
  pub unread : (fault : HttpFault) (end : ConnEnd) → b ≡ a → (fault ≡ http.Ended → IsTold unfinished b)
      → ((code : ℕ) → fault ≡ http.Bad code → IsTold (refused code) b) → EndsUnread fault h0 h1 end → Talked number end (moment a h0 k0) (moment b h1 k1)
  unread http.Ended end stays ended bad e =
      ended_as end Ended e.0 (silent Ended [] stays
      (record { goes_on = no_exchange number low; answered = refl; found = ended refl; wrote = e.1 ∙ sym (with_back-nil h0) }))
  unread http.LinkFault end stays ended bad e =
      ended_as end LinkFault e.0 (silent LinkFault [] stays
      (inl (record { goes_on = no_exchange number low; text = []; due = inl (refl, refl); wrote = nothing e.1 })))
  unread (http.Bad code) end stays ended bad (inl (inl e)) =
      ended_as end (Bad code) e.0 (silent (Bad code) [] stays
      (record { goes_on = no_exchange number low; answered = refl; found = bad code refl; wrote = e.1 }))
  unread (http.Bad code) end stays ended bad (inl (inr e)) =
      ended_as end LinkFault e.0 (silent LinkFault [] stays
      (inl (record {
        goes_on = no_exchange number low;
        text = bad_text code;
        due = inr (inr (record { code = code; is = refl; answered = refl; found = bad code refl }));
        wrote = from_start (bad_text code) e.1;
      })))
  unread (http.Bad code) end stays ended bad (inr e) = wanting end [] (omega arith) stays e
  unread http.Memory end stays ended bad e = wanting end [] (omega arith) stays e

-- ---- a request that was answered by an entry

module _ (number : ℕ) (low : number < 100) (request : Request) (entry : JournalEntry) (call : Call) (shut : Bool) (h0 h1 : Option (List ℕ)) (k0 k1 : List JournalEntry)
    (is : entry.call ≡ call) (asked : call ≡ asked_call request) (how : shut ≡ (request.close || (number == 99))) (grew : k1 ≡ k0 ++ entry ∷ []) where
  one : (end : ConnEnd) (a b : Option (List ℕ)) → IsTaken request a b
      → Ends end (outcome number (record { request = request; entry = entry } ∷ []) [] b h0 h1) → Talked number end (moment a h0 k0) (moment b h1 k1)
  one end a b taken ends = record {
    exchanges = record { request = request; entry = entry } ∷ [];
    unanswered = [];
    read = (b, taken, refl);
    calls = (is ∙ asked, tt);
    grew = grew;
    ends = ends;
  }

  abbrev alone : HasLast number (record { request = request; entry = entry } ∷ [])
  alone = record { before = []; last = record { request = request; entry = entry }; split = refl; goes_on = no_exchange number low }

  -- the reply was written
  module _ (wrote : h1 ≡ with_back (reply_text entry.reply shut) h0) where
    text_is : reply_text entry.reply shut ≡ (reply_text entry.reply (shuts number request) ++ []) ++ []
    text_is =
        ap (reply_text entry.reply) how ∙ sym (append-nil (reply_text entry.reply (shuts number request)))
        ∙ sym (append-nil (reply_text entry.reply (shuts number request) ++ []))

    pub goes_on : (r : Option ConnEnd) → IfNone r ((request.close ≡ false) × (number < 99))
        → IfNone r ((before behind : Option (List ℕ)) → IsTaken request before behind →
        (x : Exchange) × Exchanged number x (moment before h0 k0) (moment behind h1 k1) × (x.request.close ≡ false))
    goes_on None on = λ before behind taken. (
      record { request = request; entry = entry },
      record { taken = taken; call = is ∙ asked; grew = grew; wrote = wrote ∙ ap (λ b. with_back (reply_text entry.reply b) h0) how },
      on.0,
    )
    goes_on (Some end) on = tt

    pub shuts_behind : (r : Option ConnEnd)
        → IfSome r (λ end. ((end ≡ Closed) × (request.close ≡ true)) ⊎ ((end ≡ Many) × (request.close ≡ false) × (number ≡ 99)))
        → IfSome r (λ end. (before behind : Option (List ℕ)) → IsTaken request before behind → Talked number end (moment before h0 k0) (moment behind h1 k1))
    shuts_behind None off = tt
    shuts_behind (Some end) (inl off) = λ before behind taken.
        subst (λ (e : ConnEnd). Talked number e (moment before h0 k0) (moment behind h1 k1)) (sym off.0)
        (one Closed before behind taken
        (record { last = alone; last_asks = off.1; answered = refl; wrote = wrote ∙ ap (λ l. with_back l h0) text_is }))
    shuts_behind (Some end) (inr off) = λ before behind taken.
        subst (λ (e : ConnEnd). Talked number e (moment before h0 k0) (moment behind h1 k1)) (sym off.0)
        (one Many before behind taken
        (record { last = alone; last_asks = off.1; answered = refl; wrote = wrote ∙ ap (λ l. with_back l h0) text_is }, omega (arith, off.2)))

  -- the link failed in the reply
  pub fails_in : IsWrittenInPart (reply_text entry.reply shut) h0 h1 → (before behind : Option (List ℕ)) → IsTaken request before behind
      → Talked number LinkFault (moment before h0 k0) (moment behind h1 k1)
  fails_in part before behind taken =
      let same : number ≡ number + length {A = Exchange} [] = omega arith in
      let text : reply_text entry.reply shut ≡ reply_text entry.reply (shuts (number + length {A = Exchange} []) request) =
      ap (reply_text entry.reply) how ∙ ap (λ n. reply_text entry.reply (shuts n request)) same in
      one LinkFault before behind taken
      (inr (record {
        last = alone;
        answered = refl;
        wrote = subst (λ (t : List ℕ). IsWrittenInPart t (with_back [] h0) h1) text
            (subst (λ (h : Option (List ℕ)). IsWrittenInPart (reply_text entry.reply shut) h h1) (sym (with_back-nil h0)) part);
      }))
