-- Blocks of words, one after another.
use Rattle.std.proofs.Common.{◌≡◌, ℕ, ◌+◌, ◌<◌, ◌≤◌, List, length, get_or, take, sum, ap, arith, inl, inr}
use Rattle.at_board.proofs.Prelude.{cases_order, take-take, sum_by_more, sum_by-take-le, start_of}

-- the next block begins where this one ends
pub start_of-more : (sizes : List ℕ) (i : ℕ) → i < length sizes → start_of sizes (i + 1) ≡ start_of sizes i + get_or sizes i 0
start_of-more sizes i within = sum_by_more (λ n. n) sizes i 0 within

-- a later block doesn't begin before an earlier one
pub start_of-mono : (sizes : List ℕ) (i j : ℕ) → i ≤ j → start_of sizes i ≤ start_of sizes j
start_of-mono sizes i j before =
    omega (arith, ap sum (take-take i j sizes before), sum_by-take-le (λ n. n) (take j sizes) i)

-- a word of a block is a word of all blocks
pub block-inside : (sizes : List ℕ) (i x : ℕ) → i < length sizes → x < get_or sizes i 0 → start_of sizes i + x < sum sizes
block-inside sizes i x within inside =
    omega (arith, start_of-more sizes i within, sum_by-take-le (λ n. n) sizes (i + 1))

-- one index is of one block
pub same_block : (sizes : List ℕ) (i j x y : ℕ) → i < length sizes → j < length sizes → x < get_or sizes i 0 → y < get_or sizes j 0
    → start_of sizes i + x ≡ start_of sizes j + y → (i ≡ j) × (x ≡ y)
same_block sizes i j x y a b inside other same =
    elim (cases_order i j) as (λ _. (i ≡ j) × (x ≡ y)) [
      | inl equal ↦ (equal, omega (arith, ap (start_of sizes) equal))
      | inr apart ↦ elim apart as (λ _. (i ≡ j) × (x ≡ y)) [
        | inl below ↦ absurd (omega (arith, start_of-more sizes i a, start_of-mono sizes (i + 1) j (omega arith)))
        | inr above ↦ absurd (omega (arith, start_of-more sizes j b, start_of-mono sizes (j + 1) i (omega arith)))
      ]
    ]
