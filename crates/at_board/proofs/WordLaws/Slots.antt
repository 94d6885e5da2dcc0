-- Indices of the words of requests.
use Rattle.std.proofs.Common.{◌≡◌, ℕ, ◌+◌, ◌*◌, ◌<◌, ◌^◌, List, length, map, sum, take, ap, ◌∙◌, arith}
use Rattle.at_board.proofs.Prelude.{take-map, take_all, length-map-range_with_len, sum-map, sum_by, range_with_len, AccountTerms, slots_of, BookTerms, IsBegun, log_room_of, sum_by-mul, IsAddress, announced_of, index_of, record_width, record_word, request_word, start_of}
use Rattle.at_board.proofs.WordLaws.Addresses.{index_of-below}
use Rattle.at_board.proofs.WordLaws.Sizes.{word_count-le}

-- a block of a group of accounts begins after those of the accounts before
pub start_of-accounts : (f : AccountTerms → ℕ) (accounts : List AccountTerms) (a : ℕ) → start_of (map f accounts) a ≡ sum_by f (take a accounts)
start_of-accounts f accounts a = ap sum (take-map f a accounts) ∙ sum-map f (take a accounts)

-- the logs end where the announced words begin
pub logs_end : (b : BookTerms) → let f : ℕ → ℕ = λ p. log_room_of b p * record_width b in
    sum (take b.processes (map f (range_with_len 0 b.processes))) ≡ sum (map f (range_with_len 0 b.processes))
logs_end b =
    let f : ℕ → ℕ = λ p. log_room_of b p * record_width b in
    ap sum (take_all b.processes (map f (range_with_len 0 b.processes)) (omega (arith, length-map-range_with_len f 0 b.processes)))

pub index_of-announced_of : (b : BookTerms) (a slot : ℕ)
    → index_of b (announced_of a slot) ≡ index_of b (record_word b.processes 0 0) + sum_by slots_of (take a b.accounts) + slot
unfolding index_of
index_of-announced_of b a slot = omega (arith, logs_end b, start_of-accounts slots_of b.accounts a)

pub index_of-request_word : (b : BookTerms) (a slot i j : ℕ)
    → index_of b (request_word a slot i j)
    ≡ index_of b (record_word b.processes 0 0) + sum_by slots_of b.accounts
    + ((sum_by slots_of (take a b.accounts) + slot) * b.request_room + i) * 6 + j
unfolding index_of
index_of-request_word b a slot i j =
    let q = b.request_room in
    let before = start_of-accounts (λ t. slots_of t * q * 6) b.accounts a in
    let six = sum_by-mul (λ t. slots_of t * q) 6 (take a b.accounts) in
    let rooms = sum_by-mul slots_of q (take a b.accounts) in
    omega (arith, logs_end b, sum-map slots_of b.accounts, before, six, rooms)

-- where a word of a request stands, as it is computed
pub record IsRequestAddress (b : BookTerms) (a slot i j start requests : ℕ) : Type 0 where
  pub here : start + requests * 6 + j ≡ index_of b (request_word a slot i j)
  pub small : start + requests * 6 + j < 2 ^ 32

pub request_index-computed : (b : BookTerms) (a slot i j logs all before room : ℕ) → IsBegun b → IsAddress b (request_word a slot i j)
    → logs ≡ index_of b (record_word b.processes 0 0) → all ≡ sum_by slots_of (take (length b.accounts) b.accounts)
    → before ≡ sum_by slots_of (take a b.accounts) → room ≡ b.request_room
    → IsRequestAddress b a slot i j (logs + all) ((before + slot) * room + i)
request_index-computed b a slot i j logs all before room begun within logs_is all_is before_is room_is =
    let product : (before + slot) * room ≡ (sum_by slots_of (take a b.accounts) + slot) * b.request_room = λ t. (before_is t + slot) * room_is t in
    let every : sum_by slots_of (take (length b.accounts) b.accounts) ≡ sum_by slots_of b.accounts = ap (sum_by slots_of) (take_all (length b.accounts) b.accounts (omega arith)) in
    let here : logs + all + ((before + slot) * room + i) * 6 + j ≡ index_of b (request_word a slot i j) =
    omega (arith, logs_is, all_is, every, product, index_of-request_word b a slot i j) in
    record { here = here; small = omega (arith, here, index_of-below b (request_word a slot i j) within, word_count-le b begun) }
