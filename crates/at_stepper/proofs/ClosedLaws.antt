-- What is published at the end of a run is what its closing has.
use Rattle.std.proofs.Common.{◌≡◌, ℕ, zero, suc, ◌+◌, ◌<◌, ◌≤◌, List, [], ◌∷◌, ◌++◌, length, get_or, take, refl, sym, ap, subst, ◌∙◌, arith, inl, inr}
use Rattle.at_stepper.proofs.Prelude.{cases_lt, get_or-map, length-map, take_all, BookTerms, count_of-push_own, count_of-take_mono, ArePublishedBy-IsHistory, take-IsPrefix, take-publication_at, publication_at, IsPrefix, count_of, no_publication, Publication, ClosedTerms, HasAllLogs, PassTerms, seat_of, SeatTerms, CallerTerms, IsAllPublished, caller_passes, StepperTerms}
use Rattle.at_stepper.proofs.PublishedLaws.{IsPrefix-counts, IsPrefix-same}
use Rattle.at_stepper.proofs.TurnCounts.{some_of}

-- a prefix that has all records of the last one's process is the whole list
whole-prefix : (seen list : List Publication) (m : ℕ) → IsPrefix seen list → m + 1 ≡ length list
    → count_of (publication_at list m).process list ≡ count_of (publication_at list m).process seen → seen ≡ list
whole-prefix seen list m before last count =
    let x = publication_at list m in
    let own = x.process in
    elim (cases_lt (length seen) (length list)) as (λ _. seen ≡ list) [
      | inl short ↦
          let whole : list ≡ take m list ++ x ∷ [] =
          sym (take_all (m + 1) list (omega (arith, last))) ∙ take-publication_at list m (omega (arith, last)) in
          absurd (omega (
            arith,
            count,
            ap (count_of own) whole,
            count_of-push_own (take m list) x,
            ap (count_of own) (sym (take-IsPrefix seen list before)),
            count_of-take_mono own (length seen) m list (omega (arith, short, last)),
          ))
      | inr long ↦ sym (IsPrefix-same seen list before long)
    ]

module _ (s : StepperTerms) (closed : ClosedTerms) (logs : HasAllLogs (caller_passes s.callers) closed) (book_is : closed.book ≡ s.ledger.book)
    (count : length s.callers ≡ s.ledger.book.processes) (kept : IsAllPublished s.ledger.book s.callers s.published)
    (between : (p : ℕ) (d : CallerTerms) → p < length s.callers → seat_of (get_or s.callers p d).pass ≡ (get_or s.callers p d).seat) where
  pass_seen : (p : ℕ) (d : CallerTerms) → p < length s.callers → (get_or (caller_passes s.callers) p d.pass).knows.seen ≡ (get_or s.callers p d).seat.knows.seen
  pass_seen p d within =
      ap (λ (pass : PassTerms). pass.knows.seen) (get_or-map (λ (c : CallerTerms). c.pass) s.callers p d d.pass within)
      ∙ ap (λ (seat : SeatTerms). seat.knows.seen) (between p d within)

  seat_in_list : (p : ℕ) (d : CallerTerms) → p < length s.callers → IsPrefix (get_or s.callers p d).seat.knows.seen logs.state.published
  seat_in_list p d within =
      subst (λ (xs : List Publication). IsPrefix xs logs.state.published) (pass_seen p d within)
      (logs.seen p d.pass (omega (arith, within, length-map s.callers (λ (c : CallerTerms). c.pass))))

  -- the process of the last record has seen all
  last-in_list : (m : ℕ) → m + 1 ≡ length s.published → IsPrefix s.published logs.state.published
  last-in_list m last =
      let own = (publication_at s.published m).process in
      let inside : own < length s.callers = omega (arith, count, kept.known m no_publication (omega (arith, last))) in
      let d = some_of s.callers own inside in
      subst (λ (xs : List Publication). IsPrefix xs logs.state.published)
      (whole-prefix (get_or s.callers own d).seat.knows.seen s.published m (kept.seen own d inside) last (kept.own own d inside))
      (seat_in_list own d inside)

  published_in_list : (n : ℕ) → n ≡ length s.published → IsPrefix s.published logs.state.published
  published_in_list zero none =
      let empty : s.published ≡ [] = IsPrefix-same [] s.published (s.published, refl) (omega (arith, none)) in
      subst (λ (xs : List Publication). IsPrefix xs logs.state.published) (sym empty) (logs.state.published, refl)
  published_in_list (suc m) last = last-in_list m (omega (arith, last))

  same_counts : (q : ℕ) → q < closed.book.processes → count_of q logs.state.published ≤ count_of q s.published
  same_counts q known =
      let inside : q < length s.callers = omega (arith, known, count, ap (λ (b : BookTerms). b.processes) book_is) in
      let d = some_of s.callers q inside in
      omega (arith, logs.counted q d.pass known, ap (count_of q) (pass_seen q d inside), kept.own q d inside)

  pub published-closed : logs.state.published ≡ s.published
  published-closed =
      IsPrefix-counts closed.book.processes s.published logs.state.published (published_in_list (length s.published) refl)
      (ArePublishedBy-IsHistory closed.book logs.state.published logs.history) same_counts
