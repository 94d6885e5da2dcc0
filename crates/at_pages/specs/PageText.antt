-- The page of a run.
use Rattle.std.specs.Prelude.{ℕ, List, ◌++◌, codes, decimal, length}
use Rattle.at_pages.specs.Prelude.{NameList, sentence_text, BookTerms, Call, Replayed, TurnMade}
use Rattle.at_pages.specs.Arrows.{arrows_text}
use Rattle.at_pages.specs.Bars.{bars_text, lanes_text}
use Rattle.at_pages.specs.Curves.{curves_text}
use Rattle.at_pages.specs.Marks.{marks_text}
use Rattle.at_pages.specs.Places.{picture_height, picture_width}
use Rattle.at_pages.specs.Spans.{all_spans}
use Rattle.at_pages.specs.Tables.{items_text, rows_text}
use Rattle.at_pages.specs.declared.parts.TheConstants.{CALLS, END, HEAD, JOURNAL, KEY, PICTURE, SHAPES}

-- the picture's size
abbrev pub size_text : ℕ → ℕ → List ℕ
size_text turns processes =
    codes " width='" ++ decimal (picture_width turns) ++ codes "' height='" ++ decimal (picture_height processes) ++ codes "'"

-- the picture: its size, the lanes, the bars of the calls, the curves of the publications, the arrows of the decisions, and the marks of the
-- turns
abbrev pub picture_text : BookTerms → NameList → List (List Call) → List TurnMade → List ℕ
picture_text b names files turns =
    codes "<svg" ++ size_text (length turns) b.processes ++ SHAPES.now ++ lanes_text names (length turns) b.processes
    ++ bars_text names files (length turns) (all_spans turns b.processes) ++ curves_text b turns ++ arrows_text b names turns ++ marks_text b names turns

-- the page: what the payments need, the picture with its key, the calls, and the journal, each under its heading
abbrev pub page_text : BookTerms → NameList → List (List Call) → Replayed → List ℕ
page_text b names files r =
    HEAD.now ++ sentence_text b names files ++ PICTURE.now ++ picture_text b names files r.turns.items ++ KEY.now ++ CALLS.now
    ++ rows_text b names files (all_spans r.turns.items b.processes) ++ JOURNAL.now ++ items_text names r.lines.items ++ END.now
