-- Indices of cells.
use Rattle.std.proofs.Common.{◌≡◌, ℕ, ◌+◌, ◌*◌, ◌<◌, ◌^◌, take, arith}
use Rattle.at_board.proofs.Prelude.{sum-map, sum_by, slots_of, BookTerms, IsBegun, sum_by-mul, IsAddress, cell_of, index_of, record_word}
use Rattle.at_board.proofs.WordLaws.Addresses.{index_of-below}
use Rattle.at_board.proofs.WordLaws.Sizes.{word_count-le, word_count-slots}
use Rattle.at_board.proofs.WordLaws.Slots.{logs_end, start_of-accounts}

index_of-cell_of : (b : BookTerms) (a r : ℕ)
    → index_of b (cell_of a r)
    ≡ index_of b (record_word b.processes 0 0) + sum_by slots_of b.accounts + 6 * (sum_by slots_of b.accounts * b.request_room)
    + sum_by slots_of (take a b.accounts) * b.request_room + r
unfolding index_of
index_of-cell_of b a r =
    let q = b.request_room in
    let before = start_of-accounts (λ t. slots_of t * q) b.accounts a in
    let requests = sum-map (λ t. slots_of t * q * 6) b.accounts in
    let six = sum_by-mul (λ t. slots_of t * q) 6 b.accounts in
    let rooms = sum_by-mul slots_of q b.accounts in
    let rooms_before = sum_by-mul slots_of q (take a b.accounts) in
    omega (arith, logs_end b, sum-map slots_of b.accounts, before, requests, six, rooms, rooms_before)

-- the index as it is computed, and that its parts are small
pub record IsCellIndex (b : BookTerms) (a r start slots room first : ℕ) : Type 0 where
  pub index : start + slots + 6 * (slots * room) + first * room + r ≡ index_of b (cell_of a r)
  pub requests : slots * room < 2 ^ 32
  pub cells : first * room < 2 ^ 32
  pub all : start + slots + 6 * (slots * room) + first * room + r < 2 ^ 32

pub IsCellIndex-computed : (b : BookTerms) (a r start slots room first : ℕ) → IsBegun b → IsAddress b (cell_of a r)
    → start ≡ index_of b (record_word b.processes 0 0) → slots ≡ sum_by slots_of b.accounts → room ≡ b.request_room
    → first ≡ sum_by slots_of (take a b.accounts) → IsCellIndex b a r start slots room first
IsCellIndex-computed b a r start slots room first begun is start_is slots_is room_is first_is =
    let rooms : slots * room ≡ sum_by slots_of b.accounts * b.request_room = λ t. slots_is t * room_is t in
    let before : first * room ≡ sum_by slots_of (take a b.accounts) * b.request_room = λ t. first_is t * room_is t in
    let at = index_of-cell_of b a r in
    let below = index_of-below b (cell_of a r) is in
    let small = word_count-le b begun in
    let all = word_count-slots b in
    record {
      index = omega (arith, rooms, before, at, start_is, slots_is);
      requests = omega (arith, rooms, all, small);
      cells = omega (arith, before, at, below, small);
      all = omega (arith, rooms, before, at, start_is, slots_is, below, small);
    }
