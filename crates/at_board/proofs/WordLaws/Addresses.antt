-- Addresses of words: two of them have one index only if they are one address.
use Rattle.std.proofs.Common.{◌≡◌, ◌≢◌, ℕ, ◌+◌, ◌*◌, ◌<◌, ◌≤◌, List, [], length, get_or, set, map, sum, sym, ap, subst, ◌∙◌, arith}
use Rattle.at_board.proofs.Prelude.{get_or-map, length-map, get_or-set_same, get_or-set_other, get_or-map-range_with_len, length-map-range_with_len, sum_by-take-le, mul-add-lt, same_from_place, range_with_len, no_account, slots_of, BookTerms, account_of, log_room_of, rounds_room-slots_of, Address, length_of, record_word, announced_of, request_word, cell_of, IsAddress, block_of, blocks_of, group_of, groups, number_in, index_of, record_width, start_of, word_at, word_count}
use Rattle.at_board.proofs.WordLaws.Blocks.{block-inside, same_block, start_of-more}

-- a word has its block, and its number is below the block's size
record IsWord (b : BookTerms) (x : Address) : Type 0 where
  group : group_of x < 5
  block : block_of x < length (blocks_of b (group_of x))
  number : number_in b x < get_or (blocks_of b (group_of x)) (block_of x) 0

IsWord-IsAddress : (b : BookTerms) (x : Address) → IsAddress b x → IsWord b x
IsWord-IsAddress b (length_of p) within = record { group = omega arith; block = omega arith; number = within }
IsWord-IsAddress b (record_word p i j) within =
    let size = get_or-map-range_with_len (λ q. log_room_of b q * record_width b) 0 b.processes p p 0 within.0 (omega arith) in
    record {
      group = omega arith;
      block = omega (arith, within.0, length-map-range_with_len (λ q. log_room_of b q * record_width b) 0 b.processes);
      number = omega (arith, size, mul-add-lt i (record_width b) j (log_room_of b p) within.1 within.2);
    }
IsWord-IsAddress b (announced_of a s) within = record {
  group = omega arith;
  block = omega (arith, within.0, length-map b.accounts slots_of);
  number = omega (arith, within.1, get_or-map slots_of b.accounts a no_account 0 within.0);
}
IsWord-IsAddress b (request_word a s i j) within =
    let size = get_or-map (λ t. slots_of t * b.request_room * 6) b.accounts a no_account 0 within.0 in
    let request = mul-add-lt s b.request_room i (slots_of (account_of b a)) within.1 within.2 in
    let word = mul-add-lt (s * b.request_room + i) 6 j (b.request_room * slots_of (account_of b a)) request within.3 in
    record {
      group = omega arith;
      block = omega (arith, within.0, length-map b.accounts (λ t. slots_of t * b.request_room * 6));
      number = omega (arith, size, word);
    }
IsWord-IsAddress b (cell_of a r) within = record {
  group = omega arith;
  block = omega (arith, within.0, length-map b.accounts (λ t. slots_of t * b.request_room));
  number = omega (
    arith,
    within.1,
    rounds_room-slots_of b.request_room (account_of b a),
    get_or-map (λ t. slots_of t * b.request_room) b.accounts a no_account 0 within.0,
  );
}

-- the number of a word in its group is below the group's size
in_group : (b : BookTerms) (x : Address) → IsWord b x
    → start_of (blocks_of b (group_of x)) (block_of x) + number_in b x < get_or (map sum (groups b)) (group_of x) 0
in_group b x word =
    omega (
      arith,
      get_or-map sum (groups b) (group_of x) [] 0 word.group,
      block-inside (blocks_of b (group_of x)) (block_of x) (number_in b x) word.block word.number,
    )

-- a word's index is below the number of words
pub index_of-below : (b : BookTerms) (x : Address) → IsAddress b x → index_of b x < word_count b
unfolding index_of word_count
index_of-below b x within =
    let word = IsWord-IsAddress b x within in
    omega (
      arith,
      block-inside (map sum (groups b)) (group_of x)
          (start_of (blocks_of b (group_of x)) (block_of x) + number_in b x) word.group (in_group b x word),
    )

-- the blocks and numbers of words of one group
same_in_group : (b : BookTerms) (g h k l i j : ℕ) → g ≡ h
    → k < length (blocks_of b g) → l < length (blocks_of b h) → i < get_or (blocks_of b g) k 0 → j < get_or (blocks_of b h) l 0
    → start_of (blocks_of b g) k + i ≡ start_of (blocks_of b h) l + j → (k ≡ l) × (i ≡ j)
same_in_group b g h k l i j same one other first second equal =
    same_block (blocks_of b h) k l i j (subst (λ t. k < length (blocks_of b t)) same one) other
    (subst (λ t. i < get_or (blocks_of b t) k 0) same first) second
    (ap (λ t. start_of (blocks_of b t) k + i) (sym same) ∙ equal)

-- words of one index have one group, one block and one number
record AreSame (b : BookTerms) (x y : Address) : Type 0 where
  group : group_of x ≡ group_of y
  block : block_of x ≡ block_of y
  number : number_in b x ≡ number_in b y

AreSame-index_of : (b : BookTerms) (x y : Address) → IsWord b x → IsWord b y → index_of b x ≡ index_of b y → AreSame b x y
unfolding index_of
AreSame-index_of b x y one other same =
    let group = same_block (map sum (groups b)) (group_of x) (group_of y)
    (start_of (blocks_of b (group_of x)) (block_of x) + number_in b x)
    (start_of (blocks_of b (group_of y)) (block_of y) + number_in b y)
    one.group other.group (in_group b x one) (in_group b y other) (omega arith) in
    let block = same_in_group b (group_of x) (group_of y) (block_of x) (block_of y) (number_in b x) (number_in b y)
    group.0 one.block other.block one.number other.number group.1 in
    record { group = group.0; block = block.0; number = block.1 }

-- words of one group, block and number are one word
same_place : (b : BookTerms) (x y : Address) → IsAddress b x → IsAddress b y → AreSame b x y → x ≡ y
same_place b (length_of p) (length_of q) one other same = ap length_of same.number
same_place b (record_word p i j) (record_word q k l) one other same =
    let inner = same_from_place i j k l (record_width b) one.2 other.2 same.number in
    cc (same.block, inner.0, inner.1)
same_place b (announced_of a s) (announced_of c t) one other same = cc (same.block, same.number)
same_place b (request_word a s i j) (request_word c t k l) one other same =
    let word = same_from_place (s * b.request_room + i) j (t * b.request_room + k) l 6 one.3 other.3 same.number in
    let request = same_from_place s i t k b.request_room one.2 other.2 word.0 in
    cc (same.block, request.0, request.1, word.1)
same_place b (cell_of a r) (cell_of c t) one other same = cc (same.block, same.number)
same_place b x y one other same = absurd (omega (arith, same.group))

-- two addresses have one index only if they are one
pub index_of-injective : (b : BookTerms) (x y : Address) → IsAddress b x → IsAddress b y → index_of b x ≡ index_of b y → x ≡ y
index_of-injective b x y one other same =
    same_place b x y one other (AreSame-index_of b x y (IsWord-IsAddress b x one) (IsWord-IsAddress b y other) same)

-- a store at an address is read there
pub word_at-set_same : (b : BookTerms) (words : List ℕ) (x : Address) (w : ℕ) → length words ≡ word_count b → IsAddress b x
    → word_at b (set words (index_of b x) w) x ≡ w
word_at-set_same b words x w sized within =
    get_or-set_same words (index_of b x) w 0 (omega (arith, index_of-below b x within))

-- and changes no other word
pub word_at-set_other : (b : BookTerms) (words : List ℕ) (x y : Address) (w : ℕ) → IsAddress b x → IsAddress b y → y ≢ x
    → word_at b (set words (index_of b x) w) y ≡ word_at b words y
word_at-set_other b words x y w one other apart =
    get_or-set_other words (index_of b x) (index_of b y) w 0 (λ same. apart (index_of-injective b y x other one same))

-- a word of a record stands by its number after the log's first
pub index_of-record_word : (b : BookTerms) (p i j : ℕ)
    → index_of b (record_word p i j) ≡ index_of b (record_word p 0 0) + i * record_width b + j
unfolding index_of
index_of-record_word b p i j = omega arith

-- the next log begins where this one ends
pub index_of-record_word_next : (b : BookTerms) (p : ℕ) → p < b.processes
    → index_of b (record_word (p + 1) 0 0) ≡ index_of b (record_word p 0 0) + log_room_of b p * record_width b
unfolding index_of
index_of-record_word_next b p within =
    let f : ℕ → ℕ = λ q. log_room_of b q * record_width b in
    let sizes = map f (range_with_len 0 b.processes) in
    omega (
      arith,
      start_of-more sizes p (omega (arith, length-map-range_with_len f 0 b.processes)),
      get_or-map-range_with_len f 0 b.processes p p 0 within (omega arith),
    )

-- the first log begins after the lengths
pub index_of-record_word_first : (b : BookTerms) → index_of b (record_word 0 0 0) ≡ b.processes
unfolding index_of
index_of-record_word_first b = omega arith

-- the logs end within the words
pub index_of-record_word-le : (b : BookTerms) (p : ℕ) → p ≤ b.processes → index_of b (record_word p 0 0) ≤ word_count b
unfolding index_of word_count
index_of-record_word-le b p within =
    let sizes = map (λ q. log_room_of b q * record_width b) (range_with_len 0 b.processes) in
    omega (arith, sum_by-take-le (λ n. n) sizes p, sum_by-take-le (λ n. n) (map sum (groups b)) 2)
