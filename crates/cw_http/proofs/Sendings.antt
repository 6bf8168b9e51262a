-- Texts that are sent in parts.
use Rattle.std.proofs.Common.{◌≡◌, ℕ, List, [], ◌++◌, Option, Some, None, refl, sym, ap, ◌∙◌, append_assoc}
use Rattle.std.proofs.lemmas.List.{append-nil}
use Rattle.cw_io.specs.Told.{with_back}
use Rattle.cw_io.specs.Written.{IsWrittenInPart}
use Rattle.cw_http.specs.Sending.{Waits}

with_back-append : (xs ys : List ℕ) (h : Option (List ℕ)) → with_back ys (with_back xs h) ≡ with_back (xs ++ ys) h
with_back-append xs ys None = refl
with_back-append xs ys (Some h) = ap Some (append_assoc h xs ys)

with_back-nil : (h : Option (List ℕ)) → h ≡ with_back [] h
with_back-nil None = refl
with_back-nil (Some h) = ap Some (sym (append-nil h))

-- nothing waits, and nothing was sent
pub waits_none : (h : Option (List ℕ)) → Waits [] [] h h
waits_none h = record { part = []; split = refl; added = with_back-nil h }

-- all of it was sent
pub waits_sent : (text : List ℕ) (before after : Option (List ℕ)) → after ≡ with_back text before → Waits text [] before after
waits_sent text before after sent = record { part = text; split = sym (append-nil text); added = sent }

-- what waited was sent
pub sent_whole : (text w : List ℕ) (h0 h1 h2 : Option (List ℕ)) → Waits text w h0 h1 → h2 ≡ with_back w h1 → h2 ≡ with_back text h0
sent_whole text w h0 h1 h2 a sent =
    sent ∙ ap (with_back w) a.added ∙ with_back-append a.part w h0 ∙ ap (λ xs. with_back xs h0) (sym a.split)

-- what waited was sent in part
pub sent_in_part : (text w : List ℕ) (h0 h1 h2 : Option (List ℕ)) → Waits text w h0 h1 → IsWrittenInPart w h1 h2 → IsWrittenInPart text h0 h2
sent_in_part text w h0 h1 h2 a b = record {
  part = a.part ++ b.part;
  rest = b.rest;
  split = a.split ∙ ap (λ xs. a.part ++ xs) b.split ∙ sym (append_assoc a.part b.part b.rest);
  added = b.added ∙ ap (with_back b.part) a.added ∙ with_back-append a.part b.part h0;
}

-- more text behind what waits
pub waits_more : (text w more : List ℕ) (h0 h1 : Option (List ℕ)) → Waits text w h0 h1 → Waits (text ++ more) (w ++ more) h0 h1
waits_more text w more h0 h1 a = record {
  part = a.part;
  split = ap (λ xs. xs ++ more) a.split ∙ append_assoc a.part w more;
  added = a.added;
}

pub waits_then : (text w more v : List ℕ) (h0 h1 h2 : Option (List ℕ)) → Waits text w h0 h1 → Waits (w ++ more) v h1 h2 → Waits (text ++ more) v h0 h2
waits_then text w more v h0 h1 h2 a b = record {
  part = a.part ++ b.part;
  split = ap (λ xs. xs ++ more) a.split ∙ append_assoc a.part w more ∙ ap (λ xs. a.part ++ xs) b.split ∙ sym (append_assoc a.part b.part v);
  added = b.added ∙ ap (with_back b.part) a.added ∙ with_back-append a.part b.part h0;
}

pub waits_failed : (text w more : List ℕ) (h0 h1 h2 : Option (List ℕ)) → Waits text w h0 h1 → IsWrittenInPart (w ++ more) h1 h2 → IsWrittenInPart (text ++ more) h0 h2
waits_failed text w more h0 h1 h2 a b = sent_in_part (text ++ more) (w ++ more) h0 h1 h2 (waits_more text w more h0 h1 a) b

-- a first part of the front is one of the whole
pub in_front_part : (a b : List ℕ) (h0 h1 : Option (List ℕ)) → IsWrittenInPart a h0 h1 → IsWrittenInPart (a ++ b) h0 h1
in_front_part a b h0 h1 w = record {
  part = w.part;
  rest = w.rest ++ b;
  split = ap (λ xs. xs ++ b) w.split ∙ append_assoc w.part w.rest b;
  added = w.added;
}

-- a second write failed behind a whole one
pub in_second_part : (a b : List ℕ) (h0 h1 h2 : Option (List ℕ)) → h1 ≡ with_back a h0 → IsWrittenInPart b h1 h2 → IsWrittenInPart (a ++ b) h0 h2
in_second_part a b h0 h1 h2 first second =
    waits_failed a [] b h0 h1 h2 (waits_sent a h0 h1 first) second

assoc_line : (a w p q r : List ℕ) → (((a ++ w) ++ p) ++ q) ++ r ≡ a ++ (((w ++ p) ++ q) ++ r)
assoc_line a w p q r =
    ap (λ xs. (xs ++ q) ++ r) (append_assoc a w p) ∙ ap (λ xs. xs ++ r) (append_assoc a (w ++ p) q) ∙ append_assoc a ((w ++ p) ++ q) r

-- a line behind what waits
pub waits_line : (text w p q r v : List ℕ) (h0 h1 h2 : Option (List ℕ)) → Waits text w h0 h1 → Waits (((w ++ p) ++ q) ++ r) v h1 h2 → Waits (((text ++ p) ++ q) ++ r) v h0 h2
waits_line text w p q r v h0 h1 h2 a b = record {
  part = a.part ++ b.part;
  split = ap (λ xs. ((xs ++ p) ++ q) ++ r) a.split ∙ assoc_line a.part w p q r ∙ ap (λ xs. a.part ++ xs) b.split ∙ sym (append_assoc a.part b.part v);
  added = b.added ∙ ap (with_back b.part) a.added ∙ with_back-append a.part b.part h0;
}

pub failed_line : (text w p q r : List ℕ) (h0 h1 h2 : Option (List ℕ)) → Waits text w h0 h1 → IsWrittenInPart (((w ++ p) ++ q) ++ r) h1 h2 → IsWrittenInPart (((text ++ p) ++ q) ++ r) h0 h2
failed_line text w p q r h0 h1 h2 a b = record {
  part = a.part ++ b.part;
  rest = b.rest;
  split = ap (λ xs. ((xs ++ p) ++ q) ++ r) a.split ∙ assoc_line a.part w p q r ∙ ap (λ xs. a.part ++ xs) b.split ∙ sym (append_assoc a.part b.part b.rest);
  added = b.added ∙ ap (with_back b.part) a.added ∙ with_back-append a.part b.part h0;
}

-- the same text
pub part_of : (a b : List ℕ) (h0 h1 : Option (List ℕ)) → a ≡ b → IsWrittenInPart a h0 h1 → IsWrittenInPart b h0 h1
part_of a b h0 h1 same w = record { part = w.part; rest = w.rest; split = sym same ∙ w.split; added = w.added }

pub waits_of : (a b w : List ℕ) (h0 h1 : Option (List ℕ)) → a ≡ b → Waits a w h0 h1 → Waits b w h0 h1
waits_of a b w h0 h1 same x = record { part = x.part; split = sym same ∙ x.split; added = x.added }
