-- The arrows of decisions: from the exchange that decides to the lane of the owner whose request it decides.
use Rattle.std.specs.Prelude.{ℕ, ◌+◌, ◌==◌, ◌&&◌, Bool, false, not, List, [], ◌++◌, Option, None, Some, codes, decimal, flat_map, length, slice_get, take, if◌then◌else◌}
use Rattle.at_pages.specs.Prelude.{list_any, range_with_len, BoardStep, Exchange, Load, Store, BoardWord, Announced, Cell, Length, Record, Request, NameList, process_name, BookTerms, account_of, turn_at, TurnMade}
use Rattle.at_pages.specs.Places.{facing_edge, lane_place, caption_line, caption_place, place_text, time_place}
use Rattle.at_pages.specs.Turns.{own_step, own_turn, own_turns}
use Rattle.at_pages.specs.declared.decisions.CellNumbers.{CellNumbers}

-- the cell that a step exchanges, if it does
abbrev pub cell_of_word : BoardWord → Option CellNumbers
cell_of_word (Length p) = None
cell_of_word (Record p i j) = None
cell_of_word (Announced a slot) = None
cell_of_word (Request a slot i j) = None
cell_of_word (Cell a round) = Some (record { account = a; round = round })

abbrev pub cell_exchanged : Option BoardStep → Option CellNumbers
cell_exchanged None = None
cell_exchanged (Some (Load word)) = None
cell_exchanged (Some (Store word)) = None
cell_exchanged (Some (Exchange word)) = cell_of_word word

abbrev pub is_same_cell : CellNumbers → CellNumbers → Bool
is_same_cell c d = (c.account == d.account) && (c.round == d.round)

abbrev pub is_cell : CellNumbers → Option CellNumbers → Bool
is_cell c None = false
is_cell c (Some d) = is_same_cell c d

-- whether one of these turns has exchanged the cell
abbrev pub was_exchanged : List TurnMade → CellNumbers → Bool
was_exchanged turns c = list_any (λ t. is_cell c (cell_exchanged t.step)) turns

-- whether there is a cell that none of them has exchanged
abbrev pub is_first_exchange : List TurnMade → Option CellNumbers → Bool
is_first_exchange turns None = false
is_first_exchange turns (Some c) = not (was_exchanged turns c)

-- a turn decides a round if it is the first to exchange the round's cell: in a run each later exchange finds it decided
abbrev pub decides_at : List TurnMade → ℕ → Bool
decides_at turns m = is_first_exchange (take m turns) (cell_exchanged (turn_at turns m).step)

-- whose request a step loads a word of, if it does
abbrev pub asker_of_word : BookTerms → BoardWord → Option ℕ
asker_of_word b (Length p) = None
asker_of_word b (Record p i j) = None
asker_of_word b (Announced a slot) = None
asker_of_word b (Request a slot i j) = slice_get (account_of b a).owners slot
asker_of_word b (Cell a round) = None

-- the owner of the request that a step loads a word of
abbrev pub asker_loaded : BookTerms → Option BoardStep → Option ℕ
asker_loaded b None = None
asker_loaded b (Some (Load word)) = asker_of_word b word
asker_loaded b (Some (Store word)) = None
asker_loaded b (Some (Exchange word)) = None

abbrev pub unless_own : ℕ → Option ℕ → Option ℕ
unless_own p None = None
unless_own p (Some q) = if q == p then None else Some q

-- for which other owner the process's turn of this position decides, if it does: in a run its next turn loads the request that was decided
abbrev pub decided_for : BookTerms → List TurnMade → ℕ → ℕ → Option ℕ
decided_for b turns p k = if decides_at turns (own_turn turns p k) then unless_own p (asker_loaded b (own_step turns p (k + 1))) else None

-- straight from the mark of the turn to the edge of the other lane's bars
abbrev pub arrow_path : ℕ → ℕ → ℕ → List ℕ
arrow_path m p q =
    codes "M" ++ decimal (time_place m) ++ codes " " ++ decimal (lane_place p) ++ codes "V" ++ decimal (facing_edge q p)

abbrev pub arrow_words : NameList → ℕ → List ℕ
arrow_words names q = codes "decides for " ++ process_name names q

-- the stroke of an arrow, with its title
abbrev pub arrow_stroke : NameList → ℕ → ℕ → ℕ → List ℕ
arrow_stroke names m p q =
    codes "<path class='helps' d='" ++ arrow_path m p q ++ codes "'><title>turn " ++ decimal (m + 1) ++ codes ": " ++ arrow_words names q
    ++ codes "</title></path>\n"

-- and the caption beside it
abbrev pub arrow_caption : NameList → ℕ → ℕ → ℕ → List ℕ
arrow_caption names m p q =
    codes "<text class='caption'" ++ place_text (caption_place m) (caption_line p q) ++ codes ">" ++ arrow_words names q ++ codes "</text>\n"

-- the arrow with its title and the caption beside it; of arrows_text all of them
abbrev pub arrow_text : NameList → ℕ → ℕ → Option ℕ → List ℕ
arrow_text names m p None = []
arrow_text names m p (Some q) = arrow_stroke names m p q ++ arrow_caption names m p q

-- the arrows from the lane of a process, and all of them
abbrev pub arrows_from : BookTerms → NameList → List TurnMade → ℕ → List ℕ
arrows_from b names turns p =
    flat_map (λ k. arrow_text names (own_turn turns p k) p (decided_for b turns p k)) (range_with_len 0 (length (own_turns turns p)))

abbrev pub arrows_text : BookTerms → NameList → List TurnMade → List ℕ
arrows_text b names turns = flat_map (arrows_from b names turns) (range_with_len 0 b.processes)
