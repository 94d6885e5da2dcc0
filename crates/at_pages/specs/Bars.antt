-- The lanes, and in them the bars of the calls with their words and replies.
use Rattle.std.specs.Prelude.{ℕ, ◌+◌, ◌-◌, ◌*◌, ◌==◌, ◌&&◌, Bool, List, [], ◌++◌, Option, None, Some, codes, decimal, flat_map, length, nat_le, nat_lt, slice_get, slice_index_or, if◌then◌else◌}
use Rattle.at_pages.specs.Prelude.{range_with_len, NameList, account_name, process_name, amount_of, Call, Pay, Read, Transfer, Word, reply_field}
use Rattle.at_pages.specs.Places.{bar_left, bar_right, bar_top, bar_width, lane_place, lane_width, name_line, place_text, reply_line, words_line}
use Rattle.at_pages.specs.declared.spans.Span.{Span}

-- a lane with its process's name
abbrev pub lane_text : NameList → ℕ → ℕ → List ℕ
lane_text names turns p =
    codes "<rect class='lane'" ++ place_text 124 (lane_place p) ++ codes " width='" ++ decimal (lane_width turns)
    ++ codes "' height='1'/><text class='name'" ++ place_text 8 (name_line p) ++ codes ">" ++ process_name names p ++ codes "</text>\n"

-- the lanes of all processes
abbrev pub lanes_text : NameList → ℕ → ℕ → List ℕ
lanes_text names turns processes = flat_map (lane_text names turns) (range_with_len 0 processes)

-- a call in few words
abbrev pub label_text : NameList → Call → Word
label_text names (Transfer from to amount) =
    decimal amount ++ codes " from " ++ account_name names from ++ codes " to " ++ account_name names to
label_text names (Read account) = codes "read " ++ account_name names account
label_text names (Pay from targets) = decimal (amount_of targets) ++ codes " paid from " ++ account_name names from

-- the label of a call of the files, if it is there
abbrev pub label_if : NameList → Option Call → Word
label_if names None = []
label_if names (Some call) = label_text names call

-- the call of these turns
abbrev pub spanned_call : List (List Call) → Span → Option Call
spanned_call files s = slice_get (slice_index_or files s.process []) s.number

-- a first turn and a last, counted from 1
abbrev pub range_text : ℕ → ℕ → List ℕ
range_text first last = codes ", turns " ++ decimal (first + 1) ++ codes " to " ++ decimal (last + 1)

-- which call it is, of whom, what it asks, what it is answered, and its first and last turn
abbrev pub span_title : NameList → Word → Span → List ℕ
span_title names label s =
    codes "call " ++ decimal (s.number + 1) ++ codes " of " ++ process_name names s.process ++ codes ": " ++ label
    ++ codes ", " ++ reply_field s.reply ++ range_text s.first s.last

-- whether a text of seven units a byte ends within this room
abbrev pub fits : Word → ℕ → Bool
fits text room = nat_le (7 * length text) room

-- the bar itself: its place and its width, and its title
abbrev pub rect_begin : Span → List ℕ
rect_begin s =
    codes "<rect class='bar'" ++ place_text (bar_left s.first) (bar_top s.process) ++ codes " width='" ++ decimal (bar_width s.first s.last)
    ++ codes "' height='26'><title>"

abbrev pub rect_text : NameList → Word → Span → List ℕ
rect_text names label s = rect_begin s ++ span_title names label s ++ codes "</title></rect>\n"

-- the call's words, above the bar's left end, where they end before the lane's next bar begins
abbrev pub words_text : Word → ℕ → Span → List ℕ
words_text label after s =
    if fits label (6 * (after - s.first))
    then codes "<text" ++ place_text (bar_left s.first) (words_line s.process) ++ codes ">" ++ label ++ codes "</text>\n"
    else []

-- and its reply, below the bar's right end, where it is no longer than the bar
abbrev pub answer_text : Word → Span → List ℕ
answer_text reply s =
    if fits reply (bar_width s.first s.last)
    then codes "<text class='reply'" ++ place_text (bar_right s.last) (reply_line s.process) ++ codes ">" ++ reply ++ codes "</text>\n"
    else []

-- a bar, where the lane's next one begins at this turn. The bar of a call, with its words and its reply where they fit
abbrev pub bar_text : NameList → List (List Call) → ℕ → Span → List ℕ
bar_text names files after s =
    let label = label_if names (spanned_call files s) in rect_text names label s ++ words_text label after s ++ answer_text (reply_field s.reply) s

abbrev pub span_in : List Span → ℕ → Span
span_in spans k = slice_index_or spans k (record { process = 0; number = 0; first = 0; last = 0; steps = 0; exchanges = 0; new_records = 0; reply = None })

-- the turn at which the lane's next bar begins, and the end of all turns where there is none
abbrev pub begins_next : ℕ → List Span → ℕ → ℕ
begins_next turns spans k =
    if nat_lt (k + 1) (length spans) && ((span_in spans (k + 1)).process == (span_in spans k).process) then (span_in spans (k + 1)).first else turns

-- the bars of all calls
abbrev pub bars_text : NameList → List (List Call) → ℕ → List Span → List ℕ
bars_text names files turns spans =
    flat_map (λ k. bar_text names files (begins_next turns spans k) (span_in spans k)) (range_with_len 0 (length spans))
