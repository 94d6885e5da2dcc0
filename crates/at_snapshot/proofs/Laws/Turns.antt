-- The turns of a snapshot: how many there may be.
use Rattle.std.proofs.Common.{◌≡◌, ℕ, ◌+◌, ◌<◌, ◌≤◌, length, get_or, refl, sym, ap, subst, ◌∙◌, arith, inl, inr, Option, Some, None}
use Rattle.at_snapshot.proofs.Prelude.{cases_eq, cases_lt, mul-le, BookTerms, IsPrefix-count_of, Knowledge, count_of, Collects, Turn, Clean, Borrowed, Again, HasLoaded, IsCollect, collect_of, AreCollects, IsScanOf, ScanTerms, SeesOwnRecords, collects_after, scan_after, starting_scan, IsSnapping, turns_left, unmoved, HasCollected, snapshot_steps, IsAnswer, LeavesUndecided, view_steps}
use Rattle.at_snapshot.proofs.Laws.Loads.{HasLoaded-trans, first-HasLoaded, parts-HasLoaded}
use Rattle.at_snapshot.proofs.Laws.Scans.{IsScanOf-after, last_le, length-collect_of}
use Rattle.at_snapshot.proofs.UnmovedLaws.{unmoved-falls, unmoved-same, unmoved-some}

-- no count is two above the first
close_to_first : (b : BookTerms) (scan : ScanTerms) (c : Collects) (v w : Knowledge) (p : ℕ) → SeesOwnRecords scan.start
    → IsScanOf b scan v → AreCollects b scan c → IsCollect b v w → LeavesUndecided c w (collect_of w) → p < b.processes → get_or (collect_of w) p 0 ≤ get_or c.first p 0 + 1
close_to_first b scan c v w p own so are told undecided known =
    elim (cases_eq p w.first) as (λ _. get_or (collect_of w) p 0 ≤ get_or c.first p 0 + 1) [
      | inl mine ↦
          let same : w.first ≡ v.first = first-HasLoaded b v w told.loaded in
          omega (
            arith,
            told.most p known,
            ap (λ k. count_of k w.seen) (mine ∙ same),
            told.loaded.own,
            so.published,
            own,
            ap (λ k. count_of k scan.start.seen) (mine ∙ (same ∙ so.process)),
            are.first p known,
          )
      | inr other ↦
          elim (cases_lt (get_or c.first p 0 + 1) (get_or (collect_of w) p 0)) as (λ _. get_or (collect_of w) p 0 ≤ get_or c.first p 0 + 1) [
            | inl risen ↦ absurd (undecided.none p (record { within = omega (arith, known, length-collect_of b v w told.loaded); other = other; risen = omega arith }))
            | inr close ↦ close
          ]
    ]

-- a turn that answers Again leaves fewer
turns_left-undecided : (b : BookTerms) (scan : ScanTerms) (c : Collects) (v w : Knowledge) → SeesOwnRecords scan.start
    → IsScanOf b scan v → AreCollects b scan c → IsCollect b v w → LeavesUndecided c w (collect_of w) → unmoved c.first (collect_of w) < unmoved c.first c.last
turns_left-undecided b scan c v w own so are told undecided =
    let known : (p : ℕ) → p < length c.first → p < b.processes = λ p within. omega (arith, within, are.first_length) in
    unmoved-falls c.first c.last (collect_of w) (are.last_length ∙ sym are.first_length) (length-collect_of b v w told.loaded ∙ sym are.first_length)
    (λ p within. are.rising p (omega (arith, within, are.first_length, are.last_length)))
    (λ p within. last_le b scan c v w p so are told (known p within))
    (λ p within. close_to_first b scan c v w p own so are told undecided (known p within))
    undecided.differs

pub turns_left-Again : (b : BookTerms) (start mark : Knowledge) (cs : Option Collects) (v w : Knowledge) → SeesOwnRecords start
    → IsScanOf b (record { start = start; mark = mark; collects = cs }) v → IsCollect b v w
    → IsAnswer (record { start = start; mark = mark; collects = cs }) w Again
    → turns_left b.processes (Some (collects_after cs (collect_of w))) < turns_left b.processes cs
turns_left-Again b start mark None v w own so told answer = omega (arith, unmoved-same (collect_of w), length-collect_of b v w told.loaded)
turns_left-Again b start mark (Some c) v w own so told answer =
    turns_left-undecided b (record { start = start; mark = mark; collects = Some c }) c v w own so so.collects told answer

-- the scan's own count never moves
pub turns_left-some : (b : BookTerms) (start mark : Knowledge) (cs : Option Collects) (v : Knowledge) → start.first < b.processes → SeesOwnRecords start
    → IsScanOf b (record { start = start; mark = mark; collects = cs }) v → ((c : Collects) → cs ≡ Some c → HasLoaded b start v)
    → 1 ≤ turns_left b.processes cs
turns_left-some b start mark None v known own so loaded = omega arith
turns_left-some b start mark (Some c) v known own so loaded =
    let are : AreCollects b (record { start = start; mark = mark; collects = Some c }) c = so.collects in
    let p = start.first in
    let same : get_or c.first p 0 ≡ get_or c.last p 0 =
    omega (
      arith,
      own,
      are.first p known,
      are.rising p (omega (arith, known, are.last_length)),
      are.last p known,
      IsPrefix-count_of p mark.seen v.seen so.marked,
      (loaded c refl).own,
    ) in
    unmoved-some c.first c.last p (are.last_length ∙ sym are.first_length) (omega (arith, known, are.first_length)) same

-- after one more collect all loads are loads of lengths
pub HasLoaded-more : (b : BookTerms) (begun v w : Knowledge) (cs : Option Collects) → 0 < length begun.parts → (cs ≡ None → v ≡ begun)
    → ((c : Collects) → cs ≡ Some c → HasLoaded b begun v) → HasLoaded b v w → HasLoaded b begun w
HasLoaded-more b begun v w None part new loaded told = subst (λ (t : Knowledge). HasLoaded b t w) (new refl) told
HasLoaded-more b begun v w (Some c) part new loaded told = HasLoaded-trans b begun v w part (loaded c refl) told

parts-more : (b : BookTerms) (begun v : Knowledge) (cs : Option Collects) → (cs ≡ None → v ≡ begun)
    → ((c : Collects) → cs ≡ Some c → HasLoaded b begun v) → length v.parts ≡ length begun.parts
parts-more b begun v None new loaded = ap (λ (t : Knowledge). length t.parts) (new refl)
parts-more b begun v (Some c) new loaded = parts-HasLoaded b begun v (loaded c refl)

pub IsSnapping-start : (b : BookTerms) (begun : Knowledge) (before : ℕ) → SeesOwnRecords begun → IsScanOf b (starting_scan begun) begun
    → IsSnapping b begun (starting_scan begun) begun before before 0
IsSnapping-start b begun before own so = record {
  scan_of = so;
  start = refl;
  own = own;
  new = λ none. refl;
  loaded = λ c is. absurd (cc);
  times = λ p known. omega arith;
  steps_are = omega arith;
  few = omega arith;
}

pub IsSnapping-Again : (b : BookTerms) (begun : Knowledge) (scan : ScanTerms) (v w : Knowledge) (before steps turns : ℕ) → 0 < length begun.parts
    → IsSnapping b begun scan v before steps turns → IsCollect b v w → IsAnswer scan w Again
    → IsSnapping b begun (scan_after scan w) w before (steps + b.processes) (turns + 1)
IsSnapping-Again b begun scan v w before steps turns part so_far told answer =
    let less = turns_left-Again b scan.start scan.mark scan.collects v w so_far.own so_far.scan_of told answer in
    let part' : 0 < length v.parts = omega (arith, part, parts-more b begun v scan.collects so_far.new so_far.loaded) in
    record {
      scan_of = IsScanOf-after b scan v w part' so_far.scan_of told;
      start = so_far.start;
      own = so_far.own;
      new = λ none. absurd (cc);
      loaded = λ c is. HasLoaded-more b begun v w scan.collects part so_far.new so_far.loaded told.loaded;
      times = λ p known. omega (arith, told.times p known, so_far.times p known);
      steps_are = omega (arith, so_far.steps_are);
      few = omega (arith, so_far.few, less);
    }

-- at most one turn for each process may stand before the last one
few_turns : (b : BookTerms) (begun : Knowledge) (scan : ScanTerms) (v : Knowledge) (before steps turns : ℕ) → begun.first < b.processes
    → IsSnapping b begun scan v before steps turns → turns ≤ b.processes
few_turns b begun scan v before steps turns known so_far =
    let known' : scan.start.first < b.processes = omega (arith, known, ap (λ (t : Knowledge). t.first) so_far.start) in
    omega (
      arith,
      so_far.few,
      turns_left-some b scan.start scan.mark scan.collects v known' so_far.own so_far.scan_of
          (λ c is. subst (λ (t : Knowledge). HasLoaded b t v) (sym so_far.start) (so_far.loaded c is)),
    )

view_steps-le : (n : ℕ) (turn : Turn) → view_steps n turn ≤ n
view_steps-le n (Clean counts) = omega arith
view_steps-le n (Borrowed counts) = omega arith
view_steps-le n Again = omega arith

-- what holds after the last turn
pub record IsSnapped (b : BookTerms) (begun after : Knowledge) (before steps : ℕ) : Type 0 where
  pub loads : HasLoaded b begun after
  pub collects : HasCollected b begun after (b.processes + 1)
  pub few : steps ≤ before + snapshot_steps b.processes

pub IsSnapped-IsSnapping : (b : BookTerms) (begun : Knowledge) (scan : ScanTerms) (v w : Knowledge) (before steps turns : ℕ) (turn : Turn) → 0 < length begun.parts
    → begun.first < b.processes → IsSnapping b begun scan v before steps turns → IsCollect b v w
    → IsSnapped b begun w before (steps + b.processes + view_steps b.processes turn)
IsSnapped-IsSnapping b begun scan v w before steps turns turn part known so_far told =
    let n = b.processes in
    let few : turns ≤ n = few_turns b begun scan v before steps turns known so_far in
    record {
      loads = HasLoaded-more b begun v w scan.collects part so_far.new so_far.loaded told.loaded;
      collects = λ p within. omega (arith, told.times p within, so_far.times p within);
      few = omega (arith, so_far.steps_are, mul-le turns n n n few (omega arith), view_steps-le n turn);
    }
