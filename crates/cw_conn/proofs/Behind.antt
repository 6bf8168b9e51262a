-- How a connection ends, behind exchanges that there were before.
use Rattle.std.proofs.Common.{◌≡◌, ℕ, ◌+◌, false, List, [], ◌∷◌, ◌++◌, length, Option, inl, inr, sym, ap, ◌∙◌, subst, arith, append_assoc, length-append}
use Rattle.std.specs.List.{AllByRecursion}
use Rattle.cw_io.specs.Told.{with_back}
use Rattle.cw_io.specs.Written.{IsWrittenInPart}
use Rattle.cw_http.specs.declared.request.Request.{Request}
use Rattle.cw_http.specs.Replies.{reply_text}
use Rattle.cw_conn.specs.declared.ends.ConnEnd.{ConnEnd}
use Rattle.cw_conn.specs.declared.ends.ConnEnd.TheVariants.{Ended, Closed, Many, Bad, LinkFault, Memory}
use Rattle.cw_conn.specs.Exchanges.{Exchange, shuts, reply_texts, GoesOn, HasLast}
use Rattle.cw_conn.specs.Ends.{Outcome, Ends}
use Rattle.cw_conn.proofs.Texts.{with_back-append, reply_texts-append}

pub all-append : {X : Type 0} (P : X → Type 0) (xs ys : List X) → AllByRecursion P xs → AllByRecursion P ys → AllByRecursion P (xs ++ ys)
all-append P [] ys a b = b
all-append P (x ∷ xs) ys a b = (a.0, all-append P xs ys a.1 b)

abbrev pub outcome : ℕ → List Exchange → List Request → Option (List ℕ) → Option (List ℕ) → Option (List ℕ) → Outcome
outcome number exchanges unanswered left held held_now = record {
  number = number;
  exchanges = exchanges;
  unanswered = unanswered;
  left = left;
  held = held;
  held_now = held_now;
}

module _ (xs : List Exchange) (held middle now : Option (List ℕ)) (front : GoesOn 0 xs) (wrote : middle ≡ with_back (reply_texts 0 xs) held) where
  pub goes_on_behind : (ys : List Exchange) → GoesOn (length xs) ys → GoesOn 0 (xs ++ ys)
  goes_on_behind ys on = record {
    few = omega (arith, on.few, length-append xs ys);
    stays = all-append (λ (x : Exchange). x.request.close ≡ false) xs ys front.stays on.stays;
  }

  abbrev last_behind : (ys : List Exchange) → HasLast (length xs) ys → HasLast 0 (xs ++ ys)
  last_behind ys l = record {
    before = xs ++ l.before;
    last = l.last;
    split = ap (λ zs. xs ++ zs) l.split ∙ sym (append_assoc xs l.before (l.last ∷ []));
    goes_on = goes_on_behind l.before l.goes_on;
  }

  texts_behind : (ys : List Exchange) → reply_texts 0 (xs ++ ys) ≡ reply_texts 0 xs ++ reply_texts (length xs) ys
  texts_behind ys =
      let same : 0 + length xs ≡ length xs = omega arith in
      reply_texts-append xs ys 0 ∙ ap (λ n. reply_texts 0 xs ++ reply_texts n ys) same

  back_behind : (ys : List Exchange) → with_back (reply_texts (length xs) ys) middle ≡ with_back (reply_texts 0 (xs ++ ys)) held
  back_behind ys =
      ap (with_back (reply_texts (length xs) ys)) wrote
      ∙ with_back-append (reply_texts 0 xs) (reply_texts (length xs) ys) held
      ∙ ap (λ text. with_back text held) (sym (texts_behind ys))

  wrote_behind : (ys : List Exchange) (text : List ℕ) → now ≡ with_back (reply_texts (length xs) ys ++ text) middle → now ≡ with_back (reply_texts 0 (xs ++ ys) ++ text) held
  wrote_behind ys text is =
      is ∙ sym (with_back-append (reply_texts (length xs) ys) text middle)
      ∙ ap (with_back text) (back_behind ys)
      ∙ with_back-append (reply_texts 0 (xs ++ ys)) text held

  part_behind : (before : List Exchange) (x : Exchange)
      → IsWrittenInPart (reply_text x.entry.reply (shuts (length xs + length before) x.request)) (with_back (reply_texts (length xs) before) middle) now
      → IsWrittenInPart (reply_text x.entry.reply (shuts (0 + length (xs ++ before)) x.request)) (with_back (reply_texts 0 (xs ++ before)) held) now
  part_behind before x part =
      let same : length xs + length before ≡ 0 + length (xs ++ before) = omega (arith, length-append xs before) in
      subst (λ (n : ℕ). IsWrittenInPart (reply_text x.entry.reply (shuts n x.request)) (with_back (reply_texts 0 (xs ++ before)) held) now) same
      (subst (λ (h : Option (List ℕ)). IsWrittenInPart (reply_text x.entry.reply (shuts (length xs + length before) x.request)) h now) (back_behind before) part)

  pub ends_behind : (end : ConnEnd) (ys : List Exchange) (unanswered : List Request) (left : Option (List ℕ))
      → Ends end (outcome (length xs) ys unanswered left middle now) → Ends end (outcome 0 (xs ++ ys) unanswered left held now)
  ends_behind Ended ys un left e = record { goes_on = goes_on_behind ys e.goes_on; answered = e.answered; found = e.found; wrote = wrote_behind ys _ e.wrote }
  ends_behind Closed ys un left e = record { last = last_behind ys e.last; last_asks = e.last_asks; answered = e.answered; wrote = wrote_behind ys _ e.wrote }
  ends_behind Many ys un left e = (
    record { last = last_behind ys e.0.last; last_asks = e.0.last_asks; answered = e.0.answered; wrote = wrote_behind ys _ e.0.wrote },
    omega (arith, e.1, length-append xs ys),
  )
  ends_behind (Bad code) ys un left e = record { goes_on = goes_on_behind ys e.goes_on; answered = e.answered; found = e.found; wrote = wrote_behind ys _ e.wrote }
  ends_behind LinkFault ys un left (inl e) = inl (record {
    goes_on = goes_on_behind ys e.goes_on;
    text = e.text;
    due = e.due;
    wrote = subst (λ (h : Option (List ℕ)). IsWrittenInPart e.text h now) (back_behind ys) e.wrote;
  })
  ends_behind LinkFault ys un left (inr e) = inr (record { last = last_behind ys e.last; answered = e.answered; wrote = part_behind e.last.before e.last.last e.wrote })
  ends_behind Memory ys un left e = record { goes_on = goes_on_behind ys e.goes_on; unanswered = e.unanswered; wrote = wrote_behind ys _ e.wrote }
