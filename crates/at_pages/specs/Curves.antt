-- The curves of publications: from a publication to the first turn of each other process in which its record is loaded.
use Rattle.std.specs.Prelude.{ℕ, ◌+◌, ◌==◌, ◌&&◌, Bool, false, List, [], ◌++◌, Option, None, Some, codes, decimal, filter, flat_map, length, nat_le, slice_get, take, if◌then◌else◌}
use Rattle.at_pages.specs.Prelude.{list_any, range_with_len, BoardStep, Exchange, Load, Store, BoardWord, Announced, Cell, Length, Record, Request, RECORD_WORDS, BookTerms, turn_at, TurnMade}
use Rattle.at_pages.specs.Places.{borrow_line, facing_edge, lane_place, middle_of, caption_place, place_text, time_place}
use Rattle.at_pages.specs.declared.loads.LoadNumbers.{LoadNumbers}

-- the turns in which a process publishes, in order: in a run its record of a number is that of the turn at this position
abbrev pub is_publication_of : List TurnMade → ℕ → ℕ → Bool
is_publication_of turns q m = ((turn_at turns m).process == q) && (turn_at turns m).published

-- the turns in which a process publishes, in order
abbrev pub publishing_turns : List TurnMade → ℕ → List ℕ
publishing_turns turns q = filter (is_publication_of turns q) (range_with_len 0 (length turns))

-- of which record of process q a step of process p loads a word, if it does
abbrev pub load_of_word : ℕ → ℕ → BoardWord → Option LoadNumbers
load_of_word q p (Length r) = None
load_of_word q p (Record r i j) = if r == q then Some (record { process = p; number = i }) else None
load_of_word q p (Announced a slot) = None
load_of_word q p (Request a slot i j) = None
load_of_word q p (Cell a round) = None

abbrev pub load_of_step : ℕ → ℕ → Option BoardStep → Option LoadNumbers
load_of_step q p None = None
load_of_step q p (Some (Load word)) = load_of_word q p word
load_of_step q p (Some (Store word)) = None
load_of_step q p (Some (Exchange word)) = None

-- and a turn of another process
abbrev pub load_from : ℕ → TurnMade → Option LoadNumbers
load_from q t = if t.process == q then None else load_of_step q t.process t.step

abbrev pub is_same_load : LoadNumbers → LoadNumbers → Bool
is_same_load x y = (x.process == y.process) && (x.number == y.number)

abbrev pub is_load : LoadNumbers → Option LoadNumbers → Bool
is_load x None = false
is_load x (Some y) = is_same_load x y

-- whether one of these turns has loaded a word of the record too
abbrev pub was_loaded : ℕ → List TurnMade → LoadNumbers → Bool
was_loaded q turns x = list_any (λ t. is_load x (load_from q t)) turns

abbrev pub unless_loaded : ℕ → List TurnMade → Option LoadNumbers → Option LoadNumbers
unless_loaded q turns None = None
unless_loaded q turns (Some x) = if was_loaded q turns x then None else Some x

-- the record of q that is loaded in this turn, if it is the first one of its process to do so
abbrev pub first_load_at : ℕ → List TurnMade → ℕ → Option LoadNumbers
first_load_at q turns m = unless_loaded q (take m turns) (load_from q (turn_at turns m))

-- the turn that published it, if there is one
abbrev pub publishing_turn : List ℕ → Option LoadNumbers → Option ℕ
publishing_turn published None = None
publishing_turn published (Some x) = slice_get published x.number

-- whether a step loads a word that stands behind the record's own: one of its view
abbrev pub is_view_word : BoardWord → Bool
is_view_word (Length r) = false
is_view_word (Record r i j) = nat_le RECORD_WORDS j
is_view_word (Announced a slot) = false
is_view_word (Request a slot i j) = false
is_view_word (Cell a round) = false

-- whether a step loads a word of a record's view
abbrev pub loads_view : Option BoardStep → Bool
loads_view None = false
loads_view (Some (Load word)) = is_view_word word
loads_view (Some (Store word)) = false
loads_view (Some (Exchange word)) = false

-- from the mark of one turn to the edge of the other lane's bars at another
abbrev pub curve_path : ℕ → ℕ → ℕ → ℕ → List ℕ
curve_path s q m p =
    codes "M" ++ decimal (time_place s) ++ codes " " ++ decimal (lane_place q) ++ codes "C" ++ decimal (time_place s) ++ codes " " ++ decimal (middle_of q p)
    ++ codes " " ++ decimal (time_place m) ++ codes " " ++ decimal (middle_of q p) ++ codes " " ++ decimal (time_place m) ++ codes " " ++ decimal (facing_edge p q)

-- the stroke of a curve, with its title
abbrev pub curve_stroke : ℕ → ℕ → ℕ → ℕ → List ℕ
curve_stroke s q m p =
    codes "<path class='sees' d='" ++ curve_path s q m p ++ codes "'><title>turn " ++ decimal (m + 1) ++ codes ": first load of what turn " ++ decimal (s + 1)
    ++ codes " published</title></path>\n"

-- the caption beside it, where a view is borrowed
abbrev pub borrow_text : ℕ → ℕ → ℕ → List ℕ
borrow_text q m p = codes "<text class='caption'" ++ place_text (caption_place m) (borrow_line p q) ++ codes ">borrows</text>\n"

abbrev pub borrow_caption : Bool → ℕ → ℕ → ℕ → List ℕ
borrow_caption borrows q m p = if borrows then borrow_text q m p else []

-- the curve with its title, and the caption `borrows` beside it where that turn loads a view; of curves_text all of them
abbrev pub curve_text : ℕ → ℕ → TurnMade → Option ℕ → List ℕ
curve_text q m t None = []
curve_text q m t (Some s) = curve_stroke s q m t.process ++ borrow_caption (loads_view t.step) q m t.process

-- the curve to a turn from the lane of a process, if there is one; those from its lane; and all of them
abbrev pub curve_to : List TurnMade → ℕ → ℕ → List ℕ
curve_to turns q m = curve_text q m (turn_at turns m) (publishing_turn (publishing_turns turns q) (first_load_at q turns m))

abbrev pub curves_from : List TurnMade → ℕ → List ℕ
curves_from turns q = flat_map (curve_to turns q) (range_with_len 0 (length turns))

abbrev pub curves_text : BookTerms → List TurnMade → List ℕ
curves_text b turns = flat_map (curves_from turns) (range_with_len 0 b.processes)
