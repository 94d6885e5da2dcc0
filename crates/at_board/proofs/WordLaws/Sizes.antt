-- How many words a board has, and where its logs begin.
use Rattle.std.proofs.Common.{◌≡◌, ℕ, ◌+◌, ◌*◌, ◌<◌, ◌≤◌, ◌^◌, map, sum, sym, ap, ◌∙◌, arith}
use Rattle.at_board.proofs.Prelude.{take_all, length-map-range_with_len, sum-map, sum_by-le-sum_by, mul-le, sum_by, range_with_len, slots_of, BookTerms, IsBegun, log_room_of, rounds_of, rounds_room-slots_of, sum-log_room_of, sum_by-mul, mul-one-le, index_of, record_width, record_word, word_count, words_max}
use Rattle.at_board.proofs.WordLaws.Addresses.{index_of-record_word-le, index_of-record_word_next}

-- the words of the largest board
pub word_count-le : (b : BookTerms) → IsBegun b → word_count b ≤ words_max
unfolding word_count
word_count-le b begun =
    let range = range_with_len 0 b.processes in
    let q = b.request_room in
    let width = record_width b in
    let logs = sum-map (λ p. log_room_of b p * width) range ∙ sum_by-mul (log_room_of b) width range in
    let logs_small = mul-le (sum_by (log_room_of b) range) width 131072 23 (sum-log_room_of b begun) (omega (arith, begun.few_processes)) in
    let rooms : sum_by (λ t. slots_of t * q) b.accounts ≡ rounds_of b =
    λ i. sum_by (λ t. sym (rounds_room-slots_of q t) i) b.accounts in
    let announced = sum-map slots_of b.accounts in
    let announced_small = sum_by-le-sum_by slots_of (λ t. slots_of t * q) b.accounts (λ t. mul-one-le (slots_of t) q begun.some_request_room) in
    let requests = sum-map (λ t. slots_of t * q * 6) b.accounts ∙ sum_by-mul (λ t. slots_of t * q) 6 b.accounts in
    let cells = sum-map (λ t. slots_of t * q) b.accounts in
    omega (arith, logs, logs_small, rooms, announced, announced_small, requests, cells, begun.few_processes, begun.rounds)

-- a step of the walk over the logs
pub log_start-next : (b : BookTerms) (p next room processes : ℕ) → IsBegun b → p < b.processes → next ≡ index_of b (record_word p 0 0)
    → room ≡ log_room_of b p → processes ≡ b.processes
    → (next + room * (7 + processes) ≡ index_of b (record_word (p + 1) 0 0)) × (next + room * (7 + processes) < 2 ^ 32)
log_start-next b p next room processes begun within here room_is processes_is =
    let same : room * (7 + processes) ≡ log_room_of b p * record_width b = λ t. room_is t * (7 + processes_is t) in
    let step = index_of-record_word_next b p within in
    (omega (arith, step, same, here), omega (arith, step, same, here, index_of-record_word-le b (p + 1) (omega arith), word_count-le b begun))

-- the words of a board: up to the end of the last log, and then an announced word and the requests and rounds of each slot
pub word_count-slots : (b : BookTerms)
    → word_count b ≡ index_of b (record_word b.processes 0 0) + (sum_by slots_of b.accounts + 7 * (sum_by slots_of b.accounts * b.request_room))
unfolding word_count index_of
word_count-slots b =
    let q = b.request_room in
    let f : ℕ → ℕ = λ p. log_room_of b p * record_width b in
    let logs = map f (range_with_len 0 b.processes) in
    let announced = sum-map slots_of b.accounts in
    let requests = sum-map (λ t. slots_of t * q * 6) b.accounts ∙ sum_by-mul (λ t. slots_of t * q) 6 b.accounts in
    let cells = sum-map (λ t. slots_of t * q) b.accounts in
    let slots = sum_by-mul slots_of q b.accounts in
    let all = ap sum (take_all b.processes logs (omega (arith, length-map-range_with_len f 0 b.processes))) in
    omega (arith, announced, requests, cells, slots, all)

-- as it is computed
pub word_count-computed : (b : BookTerms) (end slots request_room : ℕ) → end ≡ index_of b (record_word b.processes 0 0)
    → slots ≡ sum_by slots_of b.accounts → request_room ≡ b.request_room → end + slots * (1 + 7 * request_room) ≡ word_count b
word_count-computed b end slots request_room end_is slots_is request_is =
    let product : slots * (1 + 7 * request_room) ≡ sum_by slots_of b.accounts * (1 + 7 * b.request_room) = λ t. slots_is t * (1 + 7 * request_is t) in
    let spread : sum_by slots_of b.accounts * (1 + 7 * b.request_room) ≡ sum_by slots_of b.accounts + 7 * (sum_by slots_of b.accounts * b.request_room) = omega arith in
    omega (arith, end_is, product, spread, word_count-slots b)
