-- The passes of a new ledger.
use Rattle.std.proofs.Common.{◌≡◌, ℕ, ◌<◌, List, [], ◌∷◌, ◌++◌, length, get_or, replicate, refl, sym, ap, subst, ◌∙◌, arith, below_more}
use Rattle.at_object.proofs.Prelude.{get_or-append_seam, get_or_append_left, get_or_at, length-append, TableId, BookTerms, place-zeros, Request, asking_on, own_part, get_or-zeros, Publication, AreNew, starting_seat, BoardTerms, SeatTerms, Knowledge, StandsWith-starting, announced-starting, HasCounted, TotalSums, Told, AreNewPasses, IsNewPass, IsPass, PassTerms, seat_of}
use Rattle.std.specs.Prelude.{sum}

-- what the type of a pass keeps, where its seat has seen nothing and its totals have counted nothing
pub IsPass-starting : (b : BookTerms) (p : ℕ) (totals : TotalSums) → totals.upto ≡ replicate b.processes 0
    → ((seen : List Publication) → HasCounted totals b seen) → IsPass (starting_seat b p) totals 0
IsPass-starting b p totals upto counted = record {
  between = (StandsWith-starting b p).between;
  counted = counted [];
  own_counted = ap (λ (counts : List ℕ). get_or counts p 0) upto ∙ get_or-zeros b.processes p;
  sent_is = refl;
  unasked = λ a none. announced-starting b p a 0;
}

-- the seat of a process on a new board
abbrev pub new_seat : BookTerms → TableId → ℕ → SeatTerms
new_seat b id p = record { board = id; knows = starting_seat b p; steps = 0; exchanges = 0 }

-- a seat of a new board that stands before others is that of its place
pub new_seat-at : (b : BookTerms) (id : TableId) (seats before after : List SeatTerms) (seat : SeatTerms) → AreNew b id seats
    → seats ≡ before ++ seat ∷ after → seat ≡ new_seat b id (length before)
new_seat-at b id seats before after seat new parts =
    let within : length before < b.processes =
    omega (arith, new.count, ap (λ (xs : List SeatTerms). length xs) parts, length-append before (seat ∷ after)) in
    sym (get_or-append_seam before seat after seat) ∙ (sym (ap (λ (xs : List SeatTerms). get_or xs (length before) seat) parts)
    ∙ new.each (length before) seat within)

-- a pass that is made of it is new
pub IsNewPass-starting : (b : BookTerms) (id : TableId) (p : ℕ) (seat : SeatTerms) (pass : PassTerms) → seat ≡ new_seat b id p
    → seat_of pass ≡ seat → pass.calls ≡ 0 → pass.past ≡ [] → pass.counted ≡ replicate b.processes 0 → IsNewPass (record { id = id; book = b }) p pass
IsNewPass-starting b id p seat pass is of calls past counted =
    let new : seat_of pass ≡ new_seat b id p = of ∙ is in
    let same : pass.knows ≡ starting_seat b p = ap (λ (s : SeatTerms). s.knows) new in record {
      of_ledger = record { id = ap (λ (s : SeatTerms). s.board) new; book = ap (λ (v : Knowledge). v.book) same };
      process_is = ap (λ (v : Knowledge). v.first) same;
      seen = ap (λ (v : Knowledge). v.seen) same;
      steps_are = ap (λ (s : SeatTerms). s.steps) new;
      exchanges_are = ap (λ (s : SeatTerms). s.exchanges) new;
      calls_are = calls;
      past_none = past;
      counted_none = ap sum counted ∙ place-zeros b.processes;
      asked_none = λ a. ap (λ (v : Knowledge). length (asking_on (own_part v) a).announced) same
          ∙ ap (λ (row : List Request). length row) (announced-starting b p a 0);
      stands = subst (λ (v : Knowledge). Told v.book v.first v.seen []) (sym same) (StandsWith-starting b p).told;
    }

-- each pass so far is new
abbrev pub AreNewSoFar : BookTerms → List SeatTerms → List PassTerms → Type 0
AreNewSoFar b seats passes = (id : TableId) → AreNew b id seats → (p : ℕ) (d : PassTerms) → p < length passes →
    IsNewPass (record { id = id; book = b }) p (get_or passes p d)

pub AreNewSoFar-more : (b : BookTerms) (seats before after : List SeatTerms) (seat : SeatTerms) (passes : List PassTerms) (pass : PassTerms)
    → AreNewSoFar b seats passes → seats ≡ before ++ seat ∷ after → length passes ≡ length before
    → seat_of pass ≡ seat → pass.calls ≡ 0 → pass.past ≡ [] → pass.counted ≡ replicate b.processes 0 → AreNewSoFar b seats (passes ++ pass ∷ [])
AreNewSoFar-more b seats before after seat passes pass made parts count of calls past counted =
    λ id new p d within.
    let ledger : BoardTerms = record { id = id; book = b } in
    let last : IsNewPass ledger (length passes) pass =
    IsNewPass-starting b id (length passes) seat pass
    (new_seat-at b id seats before after seat new parts ∙ ap (new_seat b id) (sym count)) of calls past counted in
    below_more (λ k. IsNewPass ledger k (get_or (passes ++ pass ∷ []) k d)) (length passes)
    (λ k below. subst (IsNewPass ledger k) (sym (get_or_append_left passes (pass ∷ []) d k below)) (made id new k d below))
    (subst (IsNewPass ledger (length passes)) (sym (get_or_at passes pass [] d (length passes) refl)) last)
    p (omega (arith, within, length-append passes (pass ∷ [])))

-- and so all are, where there is one for each seat
pub AreNewPasses-all : (b : BookTerms) (seats : List SeatTerms) (passes : List PassTerms) → AreNewSoFar b seats passes → length passes ≡ length seats
    → (id : TableId) → AreNew b id seats → AreNewPasses (record { id = id; book = b }) passes
AreNewPasses-all b seats passes made count id new = record {
  count = count ∙ new.count;
  each = λ p d within. made id new p d (omega (arith, within, count, new.count));
}
