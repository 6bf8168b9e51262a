-- What the writer keeps, behind each record that is given.
use Rattle.std.proofs.Common.{◌≡◌, ℕ, List, [], ◌∷◌, ◌++◌, Option, None, ap, sym, ◌∙◌, subst}
use Rattle.logbook.specs.Pages.{Book}
use Rattle.cw_board.specs.declared.posted.Posted.{Posted}
use Rattle.cw_board.specs.declared.shelves.Post.{Post}
use Rattle.cw_board.specs.Books.{Begun}
use Rattle.cw_board.specs.Shelving.{Shelved, AreShelved, IsOfBoard, added, add_at}
use Rattle.cw_board.specs.Posting.{behind}
use Rattle.cw_board.specs.Pressing.{Pressed}
use Rattle.cw_board.specs.Writing.{IsWriting, due}
use Rattle.cw_board.proofs.Shelved.{shelved_more}

module _ (book : Book) (workers : ℕ) (published given : Begun) (p : Posted) where
  -- the state behind one post more
  pub goes_on : (s : Shelved) (front : Begun) → IsOfBoard book workers s → s.log ≡ given.log → front.book ≡ book → front.log ≡ given.log ++ p ∷ []
      → IsOfBoard book workers (behind s (record { posted = p; front = front }))
  goes_on s front of same named longer =
      let log : front.log ≡ s.log ++ p ∷ [] = longer ∙ ap (λ l. l ++ p ∷ []) (sym same) in
      record {
        book_is = named;
        shelved = subst (λ (l : List Posted). AreShelved workers l (add_at p.worker (added p.applied) s.shelved)) (sym log) (shelved_more s.log p workers s.shelved of.shelved);
      }

  pub writes : (p0 p1 p2 : Pressed) (h0 h1 h2 : Option Post) (front : Begun) (post : Post)
      → IsWriting book workers p0 h0 published given
      → p1.shown ≡ p0.shown → due p1 h1 ≡ due p0 h0 → h1 ≡ None
      → p2.shown ≡ p1.shown → due p2 h2 ≡ behind (due p1 None) post
      → post ≡ record { posted = p; front = front } → front.book ≡ given.book → front.log ≡ given.log ++ p ∷ []
      → IsWriting book workers p2 h2 published front
  writes p0 p1 p2 h0 h1 h2 front post was shown1 due1 none shown2 due2 is named longer =
      let before : due p1 None ≡ due p0 h0 = ap (λ h. due p1 h) (sym none) ∙ due1 in
      let now : due p2 h2 ≡ behind (due p0 h0) (record { posted = p; front = front }) = due2 ∙ (ap (λ s. behind s post) before ∙ ap (λ q. behind (due p0 h0) q) is) in
      record {
        published_book = was.published_book;
        given_book = named ∙ was.given_book;
        shown = ap (λ s. s.log) (shown2 ∙ shown1) ∙ was.shown;
        of_board = subst (λ (s : Shelved). IsOfBoard book workers s) (sym now) (goes_on (due p0 h0) front was.of_board was.all (named ∙ was.given_book) longer);
        all = ap (λ s. s.log) now;
      }
