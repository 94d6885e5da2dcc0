-- Where the picture has what: time goes from left to right by turns, and each process has a lane.
use Rattle.std.specs.Prelude.{ℕ, ◌+◌, ◌-◌, ◌*◌, List, ◌++◌, codes, decimal, nat_lt, if◌then◌else◌}

-- the place of a turn, from 0
abbrev pub time_place : ℕ → ℕ
time_place m = 136 + 6 * m

-- the place of a process's lane
abbrev pub lane_place : ℕ → ℕ
lane_place p = 64 + 132 * p

-- a bar, from half a turn before its first to half a turn after its last, and from above its lane
abbrev pub bar_left : ℕ → ℕ
bar_left first = 133 + 6 * first

abbrev pub bar_width : ℕ → ℕ → ℕ
bar_width first last = 6 * (last - first) + 6

abbrev pub bar_top : ℕ → ℕ
bar_top p = 51 + 132 * p

-- the right end of a bar, and the lines of text above and below it
abbrev pub bar_right : ℕ → ℕ
bar_right last = 139 + 6 * last

abbrev pub words_line : ℕ → ℕ
words_line p = 45 + 132 * p

abbrev pub reply_line : ℕ → ℕ
reply_line p = 92 + 132 * p

-- the line of a process's name
abbrev pub name_line : ℕ → ℕ
name_line p = 68 + 132 * p

-- the edge of a lane's bars that faces another lane
abbrev pub facing_edge : ℕ → ℕ → ℕ
facing_edge p q = if nat_lt p q then lane_place p + 13 else lane_place p - 13

-- the words beside an arrow from one lane to another: right of it, and nearer to the lane that it comes from
abbrev pub caption_place : ℕ → ℕ
caption_place m = 141 + 6 * m

abbrev pub caption_line : ℕ → ℕ → ℕ
caption_line p q = if nat_lt p q then lane_place p + 58 else lane_place p - 54

-- the word beside a curve: near the lane to which it goes
abbrev pub borrow_line : ℕ → ℕ → ℕ
borrow_line p q = if nat_lt p q then lane_place p + 44 else lane_place p - 38

-- the middle between two lanes
abbrev pub middle_of : ℕ → ℕ → ℕ
middle_of p q = 64 + 66 * (p + q)

-- the size of a picture of so many turns and processes, and how long its lanes are
abbrev pub picture_width : ℕ → ℕ
picture_width turns = 160 + 6 * turns

abbrev pub picture_height : ℕ → ℕ
picture_height processes = 132 * processes

abbrev pub lane_width : ℕ → ℕ
lane_width turns = 24 + 6 * turns

-- an element's place
abbrev pub place_text : ℕ → ℕ → List ℕ
place_text x y = codes " x='" ++ decimal x ++ codes "' y='" ++ decimal y ++ codes "'"
