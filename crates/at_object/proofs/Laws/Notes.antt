-- A call that was made after a note stands in time with what the note tells.
use Rattle.std.proofs.Common.{◌≡◌, ℕ, ◌+◌, ◌*◌, ◌<◌, ◌≤◌, List, length, take, drop, slice_index, get_or, ap, subst, ◌∙◌, arith}
use Rattle.at_object.proofs.Prelude.{length-take, take-append-drop, BookTerms, IsHistory, IsPrefix, IsPrefix-length, IsPrefix-trans, Publication, look_at, receipt_at, receipts_of, keys_of, Told, Receipt, ClosedTerms, ComesAfterNote, HasAllLogs, KeepsNotes}
use Rattle.at_object.proofs.Laws.Calls.{begins-CallMade, placed-CallMade, process-CallMade}
use Rattle.at_object.proofs.Laws.Histories.{IsHistory-IsPrefix}
use Rattle.at_object.proofs.Laws.Keys.{key-le, key-same, look_at-IsPrefix}
use Rattle.at_object.proofs.Laws.Looks.{look-CallMade}

module _ (closed : ClosedTerms) (all : HasAllLogs closed.passes closed) (book : closed.book ≡ closed.ledger.book)
    (count : length closed.passes ≡ length closed.closing.receipts) where
  abbrev list : List Publication
  list = all.state.published

  history : IsHistory closed.ledger.book list
  history = subst (λ b. IsHistory b list) book all.history

  module _ (p i q j : ℕ) (q_in : q < length closed.closing.receipts) (comes : ComesAfterNote closed p i q j) where
    -- what each of the passes had seen is a prefix of the whole list
    after_seen : IsPrefix comes.after.knows.seen list
    after_seen =
        IsPrefix-trans comes.after.knows.seen (get_or closed.passes q comes.after).knows.seen list comes.last
        (all.seen q comes.after (omega (arith, q_in, count)))

    before_seen : IsPrefix comes.before.knows.seen list
    before_seen =
        IsPrefix-trans comes.before.knows.seen comes.after.knows.seen list
        (begins-CallMade closed.ledger.book comes.before comes.after comes.call (receipt_at (receipts_of closed.closing q) j) comes.made) after_seen

    noted_seen : IsPrefix comes.noted.knows.seen list
    noted_seen = IsPrefix-trans comes.noted.knows.seen comes.before.knows.seen list comes.learned before_seen

    -- the key of the first call is within what the note tells
    key : i < length (receipts_of closed.closing p)
        → slice_index (keys_of p list (receipts_of closed.closing p)) i ≤ 2 * length comes.noted.knows.seen
    key within =
        let b : BookTerms = closed.ledger.book in
        let receipts = receipts_of closed.closing p in
        let first = take (i + 1) receipts in
        let seen = comes.noted.knows.seen in
        let told : Told b p seen first =
        subst (λ n. Told b n seen first) comes.noted_process
        (subst (λ (t : BookTerms). Told t comes.noted.knows.first seen first) comes.noted_of.book comes.ended) in
        let was = IsHistory-IsPrefix b seen list noted_seen history in
        let inside : i < length first = omega (arith, within, length-take (i + 1) receipts) in
        omega (
          arith,
          key-le b p seen first told i was inside,
          key-same b p seen first told list noted_seen (drop (i + 1) receipts) i inside was,
          ap (λ rs. slice_index (keys_of p list rs) i) (take-append-drop (i + 1) receipts),
        )

    -- and the second one looked at no less
    looked : length comes.noted.knows.seen ≤ look_at q list (receipt_at (receipts_of closed.closing q) j).at
    looked =
        let b : BookTerms = closed.ledger.book in
        let r : Receipt = receipt_at (receipts_of closed.closing q) j in
        let placed = placed-CallMade b comes.before comes.after comes.call r comes.made (take j (receipts_of closed.closing q)) comes.stood in
        omega (
          arith,
          IsPrefix-length comes.noted.knows.seen comes.before.knows.seen comes.learned,
          look-CallMade b comes.before comes.after comes.call r comes.made comes.decided,
          ap (λ n. look_at n comes.after.knows.seen r.at) (process-CallMade b comes.before comes.after comes.call r comes.made ∙ comes.process_is),
          ap (λ n. look_at n comes.after.knows.seen r.at) comes.process_is,
          ap (λ n. look_at n list r.at) comes.process_is,
          look_at-IsPrefix b comes.before.knows.first comes.after.knows.seen list (take j (receipts_of closed.closing q)) r after_seen placed,
        )

  pub KeepsNotes-HasAllLogs : KeepsNotes closed
  KeepsNotes-HasAllLogs p i q j p_in i_in q_in j_in comes =
      all.in_time p i q j (length comes.noted.knows.seen) p_in i_in q_in j_in (key p i q j q_in comes i_in) (looked p i q j q_in comes)
