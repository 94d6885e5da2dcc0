-- Two equal collects in a row are a snapshot, and so is the view of a process that has published twice.
use Rattle.std.proofs.Common.{◌≡◌, ℕ, Some, ◌+◌, ◌-◌, ◌<◌, ◌≤◌, List, length, get_or, take, refl, sym, ap, subst, ◌∙◌, arith, inl, inr}
use Rattle.at_snapshot.proofs.Prelude.{sum, cases_lt, ext_get_or, BookTerms, IsPosition, count_of-take-le, count_of-take_mono, get_or-counts, get_or-publications_of, length-counts, position_of, sum-counts, IsCut-IsPrefix, IsCut-counts, IsPrefix-prefix_of, IsPrefix-prefix_of_from_le, get_or-IsCut, ArePublishedBy-IsPrefix, ArePublishedBy-take, IsPrefix-count_of, IsPrefix-length, IsPrefix-take, IsPrefix-trans, take-IsPrefix, ArePublishedBy-IsHistory, Publication, Knowledge, publication_at, IsCut, place, prefix_of, IsPrefix, count_of, counts, no_publication, publications_of, HasView, loads_of, own_part, Collects, Turn, Clean, Borrowed, Again, IsCollect, collect_of, AreCollects, IsScanOf, ScanTerms, SeesOwnRecords, loads_at_least, IsSnapshot, OnCounts, HasRisen, IsLent, IsVerdict}
use Rattle.at_snapshot.proofs.Laws.Scans.{AreCollects-IsScanOf, length-collect_of}

-- each length was loaded once since the start, and after one more collect twice
loaded_once : (b : BookTerms) (scan : ScanTerms) (c : Collects) (v : Knowledge) → IsScanOf b scan v → scan.collects ≡ Some c
    → (p : ℕ) → p < b.processes → (loads_of (own_part scan.start) p).times + 1 ≤ (loads_of (own_part v) p).times
loaded_once b scan c v so is p known = omega (arith, so.loads p known, ap loads_at_least is)

loaded_twice : (b : BookTerms) (scan : ScanTerms) (v w : Knowledge) (p : ℕ) → IsCollect b v w → p < b.processes
    → (loads_of (own_part scan.start) p).times + 1 ≤ (loads_of (own_part v) p).times
    → (loads_of (own_part scan.start) p).times + 2 ≤ (loads_of (own_part w) p).times
loaded_twice b scan v w p told known once = omega (arith, told.times p known)

-- two equal collects in a row are the counts of what was seen between them
counts-equal : (b : BookTerms) (scan : ScanTerms) (c : Collects) (v w : Knowledge) → IsScanOf b scan v → AreCollects b scan c → IsCollect b v w
    → c.last ≡ collect_of w → counts b.processes scan.mark.seen ≡ collect_of w
counts-equal b scan c v w so are told same =
    let n = b.processes in
    ext_get_or 0 (counts n scan.mark.seen) (collect_of w)
    (length-counts n scan.mark.seen ∙ sym (length-collect_of b v w told.loaded))
    (λ p within.
    let known : p < n = omega (arith, within, length-counts n scan.mark.seen) in
    omega (
      arith,
      get_or-counts n scan.mark.seen p 0 known,
      are.last p known,
      IsPrefix-count_of p scan.mark.seen v.seen so.marked,
      told.least p known,
      ap (λ xs. get_or xs p 0) same,
    ))

-- a cut that begins with all that was seen at the start counts all of the scan's process
own_counted : (b : BookTerms) (scan : ScanTerms) (v w : Knowledge) (view : List ℕ) → SeesOwnRecords scan.start → IsScanOf b scan v
    → v.first < b.processes → IsCollect b v w → IsCut b.processes view w.seen
    → IsPrefix scan.start.seen (prefix_of view w.seen) → get_or view scan.start.first 0 ≡ (own_part scan.start).published
own_counted b scan v w view own so known told cut begins =
    let p : ℕ = scan.start.first in
    omega (
      arith,
      own,
      get_or-IsCut b.processes view w.seen p cut (omega (arith, known, so.process)),
      IsPrefix-count_of p scan.start.seen (prefix_of view w.seen) begins,
      count_of-take-le p (place view) w.seen,
      ap (λ k. count_of k w.seen) so.process,
      told.loaded.own,
      so.published,
    )

pub IsSnapshot-equal : (b : BookTerms) (scan : ScanTerms) (c : Collects) (v w : Knowledge) → SeesOwnRecords scan.start → IsScanOf b scan v → v.first < b.processes
    → AreCollects b scan c → IsCollect b v w
    → ((p : ℕ) → p < b.processes → (loads_of (own_part scan.start) p).times + 1 ≤ (loads_of (own_part v) p).times)
    → c.last ≡ collect_of w → IsSnapshot b scan.start w (collect_of w)
IsSnapshot-equal b scan c v w own so process are told once same =
    let n = b.processes in
    let mark = scan.mark.seen in
    let between : IsPrefix mark w.seen = IsPrefix-trans mark v.seen w.seen so.marked told.loaded.more in
    let known = ArePublishedBy-IsPrefix n mark w.seen between (ArePublishedBy-IsHistory b w.seen told.loaded.history) in
    let equal = counts-equal b scan c v w so are told same in
    let cut = subst (λ xs. IsCut n xs w.seen) equal (IsCut-IsPrefix n (counts n mark) mark w.seen (IsCut-counts n mark known) known between) in
    let start = scan.start.seen in
    let begins = IsPrefix-prefix_of_from_le (collect_of w) start w.seen (IsPrefix-trans start v.seen w.seen so.started told.loaded.more)
    (omega (arith, IsPrefix-length start mark are.seen, sum-counts n mark known, ap sum equal)) in
    record {
      cut = cut;
      begins = begins;
      fresh = record {
        loaded = λ p below. loaded_twice b scan v w p told below (once p below);
        taken = inl refl;
      };
      own = own_counted b scan v w (collect_of w) own so process told cut begins;
    }

-- the record whose view is lent: it was not seen at the start, and its view counts more of its process than was seen then
record IsNew (b : BookTerms) (scan : ScanTerms) (w : Knowledge) (q i m : ℕ) : Type 0 where
  pub at : IsPosition q i w.seen m
  pub view : HasView b (take m w.seen) (publication_at w.seen m)
  pub own : get_or (publication_at w.seen m).view q 0 ≡ i
  pub above : count_of q scan.start.seen < i
  pub later : length scan.start.seen ≤ m

is_new : (b : BookTerms) (scan : ScanTerms) (c : Collects) (v w : Knowledge) (q : ℕ) → IsScanOf b scan v → AreCollects b scan c → IsCollect b v w
    → HasRisen w.first c.first (collect_of w) q → (m : ℕ) × IsNew b scan w q (get_or (collect_of w) q 0 - 1) m
is_new b scan c v w q so are told risen =
    let i = get_or (collect_of w) q 0 - 1 in
    let known : q < b.processes = omega (arith, risen.within, length-collect_of b v w told.loaded) in
    let counted : i < count_of q w.seen = omega (arith, told.most q known, risen.risen) in
    let there = position_of q i w.seen counted in
    let m = there.0 in
    let x = publication_at w.seen m in
    let view = told.loaded.history.views m there.1.within in
    let start = scan.start.seen in
    let above : count_of q start < i = omega (arith, are.first q known, risen.risen) in
    let before : IsPrefix start w.seen = IsPrefix-trans start v.seen w.seen so.started told.loaded.more in (
      m,
      record {
        at = there.1;
        view = view;
        own = ap (λ k. get_or x.view k 0) (sym (there.1.own no_publication))
            ∙ (view.own ∙ (ap (λ k. count_of k (take m w.seen)) (there.1.own no_publication) ∙ there.1.before));
        above = above;
        later = elim (cases_lt m (length start)) as (λ _. length start ≤ m) [
          | inl below ↦ absurd (omega (
            arith,
            there.1.before,
            count_of-take_mono q m (length start) w.seen (omega arith),
            ap (count_of q) (take-IsPrefix start w.seen before),
            above,
          ))
          | inr beyond ↦ beyond
        ];
      },
    )

pub IsSnapshot-lent : (b : BookTerms) (scan : ScanTerms) (c : Collects) (v w : Knowledge) (lent : List ℕ) → SeesOwnRecords scan.start
    → IsScanOf b scan v → v.first < b.processes → AreCollects b scan c → IsCollect b v w
    → ((p : ℕ) → p < b.processes → (loads_of (own_part scan.start) p).times + 1 ≤ (loads_of (own_part v) p).times)
    → IsLent c w (collect_of w) lent → IsSnapshot b scan.start w lent
IsSnapshot-lent b scan c v w lent own so process are told once is =
    let n = b.processes in
    let q = is.process in
    let i = get_or (collect_of w) q 0 - 1 in
    let risen = is.least.risen in
    let known : q < n = omega (arith, risen.within, length-collect_of b v w told.loaded) in
    let there = is_new b scan c v w q so are told risen in
    let m = there.0 in
    let new = there.1 in
    let x = publication_at w.seen m in
    let same_record : publication_at (publications_of q w.seen) i ≡ x =
    ap (publication_at (publications_of q w.seen)) (sym new.at.before)
    ∙ get_or-publications_of q m w.seen no_publication new.at.within (new.at.own no_publication) in
    let same : x.view ≡ lent = sym (is.counts_are ∙ ap (λ (y : Publication). y.view) same_record) in
    let all = ArePublishedBy-IsHistory b w.seen told.loaded.history in
    let cut : IsCut n x.view w.seen =
    IsCut-IsPrefix n x.view (take m w.seen) w.seen new.view.cut (ArePublishedBy-take n m w.seen all) (IsPrefix-take m w.seen) in
    let start = scan.start.seen in
    let begins = IsPrefix-prefix_of n x.view start w.seen q cut known (IsPrefix-trans start v.seen w.seen so.started told.loaded.more)
    (omega (arith, new.own, new.above)) in
    subst (IsSnapshot b scan.start w) same (record {
      cut = cut;
      begins = begins;
      own = own_counted b scan v w x.view own so process told cut begins;
      fresh = record {
        loaded = λ p below. loaded_twice b scan v w p told below (once p below);
        taken = inr (
          m,
          record {
            later = new.later;
            seen = new.at.within;
            other = λ e. risen.other (sym (new.at.own no_publication) ∙ e);
            same = refl;
          },
        );
      };
    })

-- what a later turn answers
pub OnCounts-IsVerdict : (b : BookTerms) (scan : ScanTerms) (c : Collects) (v w : Knowledge) (turn : Turn) → SeesOwnRecords scan.start
    → IsScanOf b scan v → v.first < b.processes → scan.collects ≡ Some c → IsCollect b v w → IsVerdict c w (collect_of w) turn → OnCounts turn (IsSnapshot b scan.start w)
OnCounts-IsVerdict b scan c v w (Clean counts) own so process is told verdict =
    subst (IsSnapshot b scan.start w) (sym verdict.counts_are)
    (IsSnapshot-equal b scan c v w own so process (AreCollects-IsScanOf b scan c v so is) told (loaded_once b scan c v so is) verdict.equal)
OnCounts-IsVerdict b scan c v w (Borrowed counts) own so process is told verdict =
    IsSnapshot-lent b scan c v w counts own so process (AreCollects-IsScanOf b scan c v so is) told (loaded_once b scan c v so is) verdict
OnCounts-IsVerdict b scan c v w Again own so process is told verdict = tt
