-- The draws of a script that is made from a number: a linear congruential sequence modulo 2^64 with Knuth's constants
-- (MMIX), of which the high bits are taken. The same number makes the same draws. This project's own choice.
use Rattle.std.specs.Prelude.{ℕ, ◌+◌, ◌*◌, ◌/◌, ◌%◌, ◌^◌}

-- the number behind a number
unfoldable pub next_number : ℕ → ℕ
next_number x = (x * 6364136223846793005 + 1442695040888963407) % 2 ^ 64

-- a draw moves on to the next number: of its bits from the 33rd on, what is left of a division by k
unfoldable pub drawn : (k x : ℕ) → ℕ
drawn k x = next_number x / 2 ^ 33 % k
