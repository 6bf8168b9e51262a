-- Exchanges one behind the other, and then an end.
use Rattle.std.proofs.Common.{◌≡◌, ℕ, ◌+◌, ◌<◌, false, List, [], ◌∷◌, ◌++◌, length, Option, refl, sym, ap, ◌∙◌, subst, arith, append_assoc, length-append}
use Rattle.std.proofs.lemmas.List.{append-nil, map-append}
use Rattle.cw_io.specs.Told.{with_back}
use Rattle.cw_model.specs.declared.journal.JournalEntry.{JournalEntry}
use Rattle.cw_http.specs.declared.request.Request.{Request}
use Rattle.cw_http.specs.Replies.{reply_text}
use Rattle.cw_conn.specs.declared.ends.ConnEnd.{ConnEnd}
use Rattle.cw_conn.specs.Exchanges.{Exchange, requests_of, entries_of, asked_call, Stand, shuts, reply_texts}
use Rattle.cw_conn.specs.Talked.{Moment, moment, Talked}
use Rattle.cw_conn.specs.Steps.{Exchanged, Went}
use Rattle.cw_conn.proofs.Texts.{with_back-append, with_back-nil, reply_texts-append}
use Rattle.cw_conn.proofs.Behind.{all-append, ends_behind}

-- requests behind others
pub stand-append : (xs ys : List Request) (a b c : Option (List ℕ)) → Stand xs a b → Stand ys b c → Stand (xs ++ ys) a c
stand-append [] ys a b c is then = subst (λ (o : Option (List ℕ)). Stand ys o c) is then
stand-append (x ∷ xs) ys a b c s then = (s.0, s.1, stand-append xs ys s.0 b c s.2 then)

requests-append : (xs ys : List Exchange) → requests_of (xs ++ ys) ≡ requests_of xs ++ requests_of ys
requests-append xs ys = map-append (λ (x : Exchange). x.request) xs ys

entries-append : (xs ys : List Exchange) → entries_of (xs ++ ys) ≡ entries_of xs ++ entries_of ys
entries-append xs ys = map-append (λ (x : Exchange). x.entry) xs ys

grew_behind : (xs ys : List Exchange) (a b c : List JournalEntry) → b ≡ a ++ entries_of xs → c ≡ b ++ entries_of ys → c ≡ a ++ entries_of (xs ++ ys)
grew_behind xs ys a b c first second =
    second ∙ ap (λ l. l ++ entries_of ys) first ∙ append_assoc a (entries_of xs) (entries_of ys) ∙ ap (λ l. a ++ l) (sym (entries-append xs ys))

-- before the first exchange
pub went_none : (left left_now held : Option (List ℕ)) (entries : List JournalEntry) → left_now ≡ left → Went [] (moment left held entries) (moment left_now held entries)
went_none left left_now held entries same = record {
  read = same;
  calls = tt;
  grew = sym (append-nil entries);
  wrote = sym (with_back-nil held);
  goes_on = record { few = omega arith; stays = tt };
}

-- one exchange more
pub went_on : (xs : List Exchange) (x : Exchange) (s t u : Moment) → Went xs s t → Exchanged (length xs) x t u → x.request.close ≡ false → length xs < 99
    → Went (xs ++ x ∷ []) s u
went_on xs x s t u w e stays few =
    let text : List ℕ = reply_text x.entry.reply (shuts (length xs) x.request) in
    let same : 0 + length xs ≡ length xs = omega arith in
    let texts : reply_texts 0 (xs ++ x ∷ []) ≡ reply_texts 0 xs ++ text =
    reply_texts-append xs (x ∷ []) 0 ∙ ap (λ n. reply_texts 0 xs ++ reply_texts n (x ∷ [])) same
    ∙ ap (λ l. reply_texts 0 xs ++ l) (append-nil text) in
    record {
      read = subst (λ (rs : List Request). Stand rs s.left u.left) (sym (requests-append xs (x ∷ [])))
          (stand-append (requests_of xs) (x.request ∷ []) s.left t.left u.left w.read (u.left, e.taken, refl));
      calls = all-append (λ (y : Exchange). y.entry.call ≡ asked_call y.request) xs (x ∷ []) w.calls (e.call, tt);
      grew = grew_behind xs (x ∷ []) s.entries t.entries u.entries w.grew e.grew;
      wrote = e.wrote ∙ ap (with_back text) w.wrote ∙ with_back-append (reply_texts 0 xs) text s.held ∙ ap (λ l. with_back l s.held) (sym texts);
      goes_on = record {
        few = omega (arith, few, length-append xs (x ∷ []));
        stays = all-append (λ (y : Exchange). y.request.close ≡ false) xs (x ∷ []) w.goes_on.stays (stays, tt);
      };
    }

-- an end behind exchanges
pub talked_behind : (xs : List Exchange) (end : ConnEnd) (s t u : Moment) → Went xs s t → Talked (length xs) end t u → Talked 0 end s u
talked_behind xs end s t u w talk =
    let requests : requests_of (xs ++ talk.exchanges) ++ talk.unanswered ≡ requests_of xs ++ (requests_of talk.exchanges ++ talk.unanswered) =
    ap (λ rs. rs ++ talk.unanswered) (requests-append xs talk.exchanges)
    ∙ append_assoc (requests_of xs) (requests_of talk.exchanges) talk.unanswered in
    record {
      exchanges = xs ++ talk.exchanges;
      unanswered = talk.unanswered;
      read = subst (λ (rs : List Request). Stand rs s.left u.left) (sym requests)
          (stand-append (requests_of xs) (requests_of talk.exchanges ++ talk.unanswered) s.left t.left u.left w.read talk.read);
      calls = all-append (λ (y : Exchange). y.entry.call ≡ asked_call y.request) xs talk.exchanges w.calls talk.calls;
      grew = grew_behind xs talk.exchanges s.entries t.entries u.entries w.grew talk.grew;
      ends = ends_behind xs s.held t.held u.held w.goes_on w.wrote end talk.exchanges talk.unanswered u.left talk.ends;
    }
