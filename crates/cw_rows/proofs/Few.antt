-- A log that has room for a frame has few frames.
use Rattle.std.proofs.Common.{◌≡◌, ℕ, ◌+◌, ◌<◌, ◌≤◌, ◌^◌, true, List, [], ◌∷◌, length, map, arith}
use borrow.Author.Tests.{leb-true}
use Rattle.cw_log.specs.Log.{length_of}
use Rattle.cw_model.specs.Bodies.{has_room}

many : {A : Type 0} (body : A → List ℕ) (frames : List A) → length frames ≤ length_of (map body frames)
many body [] = omega arith
many body (frame ∷ frames) = omega (arith, many body frames)

pub few : {A : Type 0} (body : A → List ℕ) (frames : List A) (frame : ℕ) → has_room (length_of (map body frames)) frame ≡ true → length frames < 2 ^ 62
few body frames frame room =
    let most : length_of (map body frames) + frame ≤ 2 ^ 28 = leb-true (length_of (map body frames) + frame) (2 ^ 28) room in
    omega (arith, most, many body frames)
