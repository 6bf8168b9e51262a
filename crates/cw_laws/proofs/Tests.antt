-- What is known of tests by what two or three of them say together.
use Rattle.std.proofs.Common.{◌≡◌, Bool, true, false, ◌&&◌, refl}

-- not both, but the first
pub not-second : (a b : Bool) → (a && b) ≡ false → a ≡ true → b ≡ false
not-second true b is so = is
not-second false b is so = absurd (cc)

pub all-three : (a b c : Bool) → a ≡ true → b ≡ true → c ≡ true → (a && b && c) ≡ true
all-three true true true x y z = refl
all-three false b c x y z = absurd (cc)
all-three true false c x y z = absurd (cc)
all-three true true false x y z = absurd (cc)
