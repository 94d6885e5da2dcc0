-- What the types of state machines keep of their fields, which no caller sees.
use Rattle.std.specs.Prelude.{◌≡◌, ℕ, ◌<◌, ◌≤◌, List, length, map}
use Rattle.at_machines.specs.Prelude.{range_with_len, SeesRecord, seen_word, IsKept, FitsNext, record_width, record_words, IsStoring, MayAppend, IsCollecting}
use Rattle.at_machines.specs.Appending.{AppendingTerms, publication_of}
use Rattle.at_machines.specs.Collecting.{CollectingTerms}
use Rattle.at_machines.specs.Loading.{LoadingTerms, loading_with}
use Rattle.at_machines.specs.declared.appending.Appending.TheInside as appending
use Rattle.at_machines.specs.declared.collecting.Collecting.TheInside as collecting
use Rattle.at_machines.specs.declared.loading_entry.LoadingEntry.TheInside as entry
use Rattle.at_machines.specs.declared.loading_view.LoadingView.TheInside as view

-- the terms of their fields
abbrev pub loading_entry_of : entry.Inside → LoadingTerms
loading_entry_of l = loading_with l.seat.value.knows l.process l.number l.words.items

abbrev pub loading_view_of : view.Inside → LoadingTerms
loading_view_of l = loading_with l.seat.value.knows l.process l.number l.words.items

abbrev pub collecting_of : collecting.Inside → CollectingTerms
collecting_of c = record {
  start = c.start.value.knows;
  mark = c.mark.value.knows;
  loaded = c.loaded;
}

abbrev pub appending_of : appending.Inside → AppendingTerms
appending_of a = record {
  start = a.start.value.knows;
  mark = a.mark.value.knows;
  rec = a.rec;
  stored = a.stored;
}

-- what a collect's type keeps: since the start the lengths of so many processes are loaded, in their order, and these are the numbers
pub record IsCollectingSo (c : CollectingTerms) (counts : List ℕ) : Type 0 where
  pub part : 0 < length c.start.parts
  pub within : c.loaded ≤ c.start.book.processes
  pub so_far : IsCollecting c.start.book c.start c.mark counts c.loaded

-- what the types of loads keep: the seat has seen the record, and those that are loaded are its words from this one on, in order
pub record IsLoadingSo (l : LoadingTerms) (first : ℕ) : Type 0 where
  pub record_seen : SeesRecord l.knows l.process l.number
  pub words_are : l.words ≡ map (seen_word l.knows l.process l.number) (range_with_len first l.loaded)

-- what an append's type keeps: the record may come next after all that was seen at the start, and until it is published so many of its
-- words are stored since then, and nothing else has changed
pub record IsAppendingSo (a : AppendingTerms) : Type 0 where
  pub seat : IsKept a.start
  pub book : a.mark.book ≡ a.start.book
  pub fits : FitsNext a.start
  pub may : MayAppend a.start.book a.start a.rec
  pub so_far : a.stored ≤ record_width a.start.book → IsStoring a.start a.mark (record_words (publication_of a)) a.stored
