-- Where each word of the board stands.
use Rattle.std.specs.Prelude.{◌≡◌, ℕ, ◌+◌, ◌*◌, ◌<◌, ◌≤◌, List, [], ◌∷◌, length, map, sum, sum_by, take, slice_index, slice_index_or, refl}
use Rattle.at_board.specs.Prelude.{range_with_len, rounds_room, slots_of, BookTerms, account_of, log_room_of, PROCESSES_MAX, ROUNDS_MAX, places_max}
use Rattle.at_board.specs.declared.layout.Layout.{Layout}
use Rattle.at_board.specs.declared.words.TheConstants.{RECORD_WORDS, REQUEST_WORDS}

-- each word by what it means
pub data Address : Type 0 where
  length_of : (process : ℕ) → Address
  record_word : (process number word : ℕ) → Address
  announced_of : (account slot : ℕ) → Address
  request_word : (account slot number word : ℕ) → Address
  cell_of : (account round : ℕ) → Address

-- the words of a record with its view
abbrev pub record_width : BookTerms → ℕ
record_width b = RECORD_WORDS + b.processes

-- there is such a word
abbrev pub IsAddress : BookTerms → Address → Type 0
IsAddress b (length_of p) = p < b.processes
IsAddress b (record_word p i j) = (p < b.processes) × (i < log_room_of b p) × (j < record_width b)
IsAddress b (announced_of a s) = (a < length b.accounts) × (s < slots_of (account_of b a))
IsAddress b (request_word a s i j) =
    (a < length b.accounts) × (s < slots_of (account_of b a)) × (i < b.request_room) × (j < REQUEST_WORDS)
IsAddress b (cell_of a r) = (a < length b.accounts) × (r < rounds_room b.request_room (account_of b a))

-- the words come in five groups, and those of a group in blocks of these sizes: all lengths in one block, a log for
-- each process, and for each account its announced words, its requests and its cells
abbrev pub groups : BookTerms → List (List ℕ)
groups b =
    (b.processes ∷ [])
    ∷ map (λ p. log_room_of b p * record_width b) (range_with_len 0 b.processes)
    ∷ map slots_of b.accounts
    ∷ map (λ t. slots_of t * b.request_room * REQUEST_WORDS) b.accounts
    ∷ map (λ t. slots_of t * b.request_room) b.accounts
    ∷ []

-- the group of a word
abbrev pub group_of : Address → ℕ
group_of (length_of p) = 0
group_of (record_word p i j) = 1
group_of (announced_of a s) = 2
group_of (request_word a s i j) = 3
group_of (cell_of a r) = 4

-- the block of a word in its group
abbrev pub block_of : Address → ℕ
block_of (length_of p) = 0
block_of (record_word p i j) = p
block_of (announced_of a s) = a
block_of (request_word a s i j) = a
block_of (cell_of a r) = a

-- the number of a word in its block
abbrev pub number_in : BookTerms → Address → ℕ
number_in b (length_of p) = p
number_in b (record_word p i j) = i * record_width b + j
number_in b (announced_of a s) = s
number_in b (request_word a s i j) = (s * b.request_room + i) * REQUEST_WORDS + j
number_in b (cell_of a r) = r

-- where a block begins: after those before it
abbrev pub start_of : List ℕ → ℕ → ℕ
start_of sizes i = sum (take i sizes)

-- the blocks of a group
abbrev pub blocks_of : BookTerms → ℕ → List ℕ
blocks_of b group = slice_index_or (groups b) group []

-- the index of a word. Two addresses have one index only if they are one
unfoldable pub index_of : BookTerms → Address → ℕ
index_of b x =
    start_of (map sum (groups b)) (group_of x) + start_of (blocks_of b (group_of x)) (block_of x) + number_in b x

-- how many words a board has
unfoldable pub word_count : BookTerms → ℕ
word_count b = sum (map sum (groups b))

-- the most words that a board has: the lengths, the records of all logs, and for each round at most an announced word, a
-- request and a cell
abbrev pub words_max : ℕ
words_max = PROCESSES_MAX + places_max * (RECORD_WORDS + PROCESSES_MAX) + ROUNDS_MAX * (REQUEST_WORDS + 2)

-- as a number: whoever changes what bounds a book or a record changes this too
pub words_max-number : words_max ≡ 3080208
words_max-number = refl

-- the word at an address
abbrev pub word_at : BookTerms → List ℕ → Address → ℕ
word_at b words x = slice_index words (index_of b x)

-- where the log of each process begins
pub record AreLogStarts (b : BookTerms) (starts : List ℕ) : Type 0 where
  pub count : length starts ≡ b.processes
  pub each : (p : ℕ) → p < b.processes → slice_index starts p ≡ index_of b (record_word p 0 0)

-- how many slots stand before those of each account, and at the end how many there are
pub record AreSlotsBefore (b : BookTerms) (before : List ℕ) : Type 0 where
  pub count : length before ≡ length b.accounts + 1
  pub each : (a : ℕ) → a ≤ length b.accounts → slice_index before a ≡ sum_by slots_of (take a b.accounts)

-- where the words of a board of its book stand
pub record IsLayout (l : Layout) : Type 0 where
  pub logs : AreLogStarts l.book l.log_starts.items
  pub slots : l.slots_start ≡ index_of l.book (record_word l.book.processes 0 0)
  pub before : AreSlotsBefore l.book l.slots_before.items
