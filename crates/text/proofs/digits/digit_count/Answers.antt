-- The digits of a number below a million, by what it is at least.
use Rattle.std.proofs.Common.{◌≡◌, ℕ, ◌+◌, ◌/◌, ◌<◌, ◌≤◌, leb, length, decimal, ap, ⊎_elim, arith}
use mir.Val.{bool_byte}
use Rattle.std.proofs.lemmas.Bool.{cases_lt, le-leb, lt-leb}
use Rattle.text.proofs.Written.{one_digit, digit_more}
use Rattle.text.proofs.digits.digit_count.Goals as goal

up : (k n : ℕ) → k ≤ n → bool_byte (leb k n) ≡ 1
up k n h = ap bool_byte (le-leb k n h)

down : (k n : ℕ) → n < k → bool_byte (leb k n) ≡ 0
down k n h = ap bool_byte (lt-leb k n h)

count : (n : ℕ) → n < 1000000 → 1 + bool_byte (leb 10 n) + bool_byte (leb 100 n) + bool_byte (leb 1000 n) + bool_byte (leb 10000 n) + bool_byte (leb 100000 n) ≡ length (decimal n)
count n h =
    ⊎_elim
    (λ (l : n < 10). omega (arith, down 10 n (omega arith), down 100 n (omega arith), down 1000 n (omega arith), down 10000 n (omega arith), down 100000 n (omega arith), one_digit n (omega arith)))
    (λ (g : 10 ≤ n). ⊎_elim
    (λ (l : n < 100). omega (arith, up 10 n (omega arith), down 100 n (omega arith), down 1000 n (omega arith), down 10000 n (omega arith), down 100000 n (omega arith), digit_more n (omega arith) (omega arith), one_digit (n / 10) (omega arith)))
    (λ (g : 100 ≤ n). ⊎_elim
    (λ (l : n < 1000). omega (arith, up 10 n (omega arith), up 100 n (omega arith), down 1000 n (omega arith), down 10000 n (omega arith), down 100000 n (omega arith), digit_more n (omega arith) (omega arith), digit_more (n / 10) (omega arith) (omega arith), one_digit (n / 10 / 10) (omega arith)))
    (λ (g : 1000 ≤ n). ⊎_elim
    (λ (l : n < 10000). omega (arith, up 10 n (omega arith), up 100 n (omega arith), up 1000 n (omega arith), down 10000 n (omega arith), down 100000 n (omega arith), digit_more n (omega arith) (omega arith), digit_more (n / 10) (omega arith) (omega arith), digit_more (n / 10 / 10) (omega arith) (omega arith), one_digit (n / 10 / 10 / 10) (omega arith)))
    (λ (g : 10000 ≤ n). ⊎_elim
    (λ (l : n < 100000). omega (arith, up 10 n (omega arith), up 100 n (omega arith), up 1000 n (omega arith), up 10000 n (omega arith), down 100000 n (omega arith), digit_more n (omega arith) (omega arith), digit_more (n / 10) (omega arith) (omega arith), digit_more (n / 10 / 10) (omega arith) (omega arith), digit_more (n / 10 / 10 / 10) (omega arith) (omega arith), one_digit (n / 10 / 10 / 10 / 10) (omega arith)))
    (λ (g : 100000 ≤ n). omega (arith, up 10 n (omega arith), up 100 n (omega arith), up 1000 n (omega arith), up 10000 n (omega arith), up 100000 n (omega arith), digit_more n (omega arith) (omega arith), digit_more (n / 10) (omega arith) (omega arith), digit_more (n / 10 / 10) (omega arith) (omega arith), digit_more (n / 10 / 10 / 10) (omega arith) (omega arith), digit_more (n / 10 / 10 / 10 / 10) (omega arith) (omega arith), one_digit (n / 10 / 10 / 10 / 10 / 10) (omega arith)))
    (cases_lt n 100000))
    (cases_lt n 10000))
    (cases_lt n 1000))
    (cases_lt n 100))
    (cases_lt n 10)

pub returns-clause-counts_digits : goal.returns-clause-counts_digits
returns-clause-counts_digits c = count c.args.n c.requires.small
