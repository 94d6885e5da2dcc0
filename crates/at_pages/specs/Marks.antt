-- The marks of the turns.
use Rattle.std.specs.Prelude.{ℕ, ◌+◌, List, ◌++◌, codes, decimal, flat_map, length, if◌then◌else◌}
use Rattle.at_pages.specs.Prelude.{range_with_len, NameList, BookTerms, Word, turn_at, TurnMade, step_address, step_word}
use Rattle.at_pages.specs.Places.{lane_place, place_text, time_place}

-- the shape of a turn's mark: a publication has its own, and any other turn that of its step
abbrev pub mark_shape : TurnMade → Word
mark_shape t = if t.published then codes "publication" else step_word t.step

-- what a turn did, and to which word
abbrev pub turn_title : BookTerms → NameList → ℕ → TurnMade → List ℕ
turn_title b names m t =
    codes "turn " ++ decimal (m + 1) ++ codes ": " ++ step_word t.step ++ codes " " ++ step_address b names t.step

-- the mark stands at its turn, in the lane of its process
abbrev pub mark_text : BookTerms → NameList → ℕ → TurnMade → List ℕ
mark_text b names m t =
    codes "<use href='#" ++ mark_shape t ++ codes "'" ++ place_text (time_place m) (lane_place t.process)
    ++ codes "><title>" ++ turn_title b names m t ++ codes "</title></use>\n"

-- the marks of all turns
abbrev pub marks_text : BookTerms → NameList → List TurnMade → List ℕ
marks_text b names turns = flat_map (λ m. mark_text b names m (turn_at turns m)) (range_with_len 0 (length turns))
