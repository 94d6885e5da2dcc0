-- The lines of one key: they are answered as they say.
use Rattle.std.proofs.Common.{◌≡◌, ℕ, ◌+◌, ◌-◌, ◌*◌, ◌<◌, ◌≤◌, zero, suc, Bool, true, false, cond, List, [], length, map, take, refl, sym, ap, subst, ◌∙◌, arith, inl, inr}
use Rattle.at_journal.proofs.Prelude.{range_with_len, BookTerms, Done, Short, ClosingTerms, receipts_of, Coherent, journal_order, line_key, process_lines_at, IsPlaced, read, not_owner, full, short, done, round, is_success, receipt_at, round_position, key_at-even, key_at-odd, line_key-receipt, line_key-sorted, previous_key, moves_at, first_account-payout, still_at}
use Rattle.at_journal.proofs.KeepLaws.{Keeps, with_count, with_count-other, with_count-own}
use Rattle.at_journal.proofs.LineKeys.{filter-key, reach, reach-above, reach-below, reach-le, reach_mono}
use Rattle.at_journal.proofs.LineRuns.{IsCounted, Ran, Ran-cons, Ran-still, Ran-weaken, line}
use Rattle.at_journal.proofs.MoveLaws.{own-answered, round-answered}
use Rattle.at_journal.proofs.SameMove.{IsMove, IsMove-own, IsMove-round, IsMove-same}
use Rattle.at_journal.proofs.StillLaws.{Answered}

-- how many lines of a process have smaller keys
abbrev pub reached : ClosingTerms → ℕ → ℕ → ℕ
reached c p key = reach (line_key c p) key (length (receipts_of c p))

-- those of a key come next
pub process_lines_at-range : (b : BookTerms) (c : ClosingTerms) (key p : ℕ) → Coherent b c → p < b.processes
    → process_lines_at c key p ≡ map (line c p) (range_with_len (reached c p key) (reached c p (key + 1) - reached c p key))
process_lines_at-range b c key p coherent known =
    ap (map (line c p)) (filter-key (line_key c p) key (length (receipts_of c p)) (line_key-sorted b c p coherent known))

pub reached-mono : (b : BookTerms) (c : ClosingTerms) (key p : ℕ) → Coherent b c → p < b.processes → reached c p key ≤ reached c p (key + 1)
reached-mono b c key p coherent known = reach_mono (line_key c p) key (length (receipts_of c p)) (line_key-sorted b c p coherent known)

-- such a line has the key
key_of-reached : (b : BookTerms) (c : ClosingTerms) (key p j : ℕ) → Coherent b c → p < b.processes → reached c p key ≤ j → j < reached c p (key + 1)
    → line_key c p j ≡ key
key_of-reached b c key p j coherent known from to =
    let sorted = line_key-sorted b c p coherent known in
    let n = length (receipts_of c p) in
    omega (
      arith,
      reach-above (line_key c p) key n sorted j from (omega (arith, to, reach-le (line_key c p) (key + 1) n)),
      reach-below (line_key c p) (key + 1) n sorted j to,
    )

-- a line is short of the end
pub within-reached : (c : ClosingTerms) (key p : ℕ) → reached c p key ≤ length (receipts_of c p)
within-reached c key p = reach-le (line_key c p) key (length (receipts_of c p))

-- the lines of a process with an even key
pub Ran-even : (b : BookTerms) (c : ClosingTerms) (m : ℕ) (count : ℕ → ℕ) (balances sent asked : List ℕ) (p : ℕ) → Coherent b c
    → Keeps b c m count balances sent asked → p < b.processes → count p ≡ reached c p (2 * m)
    → Ran b c m balances sent asked (process_lines_at c (2 * m) p) (IsCounted count p (reached c p (2 * m + 1)))
Ran-even b c m count balances sent asked p coherent keeps known here =
    let key = 2 * m in
    let i = reached c p key in
    let n = reached c p (key + 1) - i in
    let mono = reached-mono b c key p coherent known in
    let to : i + n ≡ reached c p (key + 1) = omega (arith, mono) in
    let ran = Ran-still b c m count balances sent asked p i n coherent keeps known here (omega (arith, to, within-reached c (key + 1) p))
    (λ j from below.
    let inside : j < reached c p (key + 1) = omega (arith, below, to) in
    let r = receipt_at (receipts_of c p) j in
    key_at-even m p (journal_order c) (previous_key c p j) r.call (is_success r.reply) r.at
    (sym (line_key-receipt c p j (omega (arith, inside, within-reached c (key + 1) p))) ∙ key_of-reached b c key p j coherent known from inside)) in
    subst (λ xs. Ran b c m balances sent asked xs (IsCounted count p (reached c p (key + 1)))) (sym (process_lines_at-range b c key p coherent known))
    (subst (λ k. Ran b c m balances sent asked (map (line c p) (range_with_len i n)) (IsCounted count p k)) to ran)

-- a line that moved is answered so, and is the move of its publication
record Moved (b : BookTerms) (c : ClosingTerms) (m : ℕ) (count : ℕ → ℕ) (balances sent asked : List ℕ) (p i : ℕ) : Type 0 where
  answered : Answered b c m (m + 1) count balances sent asked p i
  move : IsMove b c p i m

-- that a line moves is all that its key says of it
pub move_of : (b : BookTerms) (c : ClosingTerms) (p i m : ℕ) → Coherent b c
    → IsPlaced b p (journal_order c) (take i (receipts_of c p)) (receipt_at (receipts_of c p) i)
    → moves_at m p (journal_order c) (receipt_at (receipts_of c p) i).call (is_success (receipt_at (receipts_of c p) i).reply) (receipt_at (receipts_of c p) i).at
    → IsMove b c p i m
move_of b c p i m coherent (read account amount call reply cut) moves =
    let r = receipt_at (receipts_of c p) i in absurd (subst (moves_at m p (journal_order c) r.call (is_success r.reply)) cut.at moves)
move_of b c p i m coherent (not_owner source targets call owner reply at) moves =
    let r = receipt_at (receipts_of c p) i in absurd (subst (moves_at m p (journal_order c) r.call (is_success r.reply)) at moves)
move_of b c p i m coherent (full source targets call owner room reply at) moves =
    let r = receipt_at (receipts_of c p) i in absurd (subst (moves_at m p (journal_order c) r.call (is_success r.reply)) at moves)
move_of b c p i m coherent (short source amount targets may single reply cut less) moves =
    let r = receipt_at (receipts_of c p) i in absurd (subst (moves_at m p (journal_order c) r.call (is_success r.reply)) cut.at moves)
move_of b c p i m coherent (done source targets may single reply own) moves =
    let r = receipt_at (receipts_of c p) i in
    IsMove-own b c p i m source targets own (subst (moves_at m p (journal_order c) r.call (is_success r.reply)) own.at moves)
move_of b c p i m coherent (round source targets may shared so) moves =
    let r = receipt_at (receipts_of c p) i in
    let at = subst (moves_at m p (journal_order c) r.call (is_success r.reply)) so.at moves in
    IsMove-round b c p i m source targets coherent may so (ap (λ a. round_position a so.round (journal_order c)) (sym (first_account-payout source targets r.call may.call)) ∙ at.1)

moved-answered : (b : BookTerms) (c : ClosingTerms) (m : ℕ) (count : ℕ → ℕ) (balances sent asked : List ℕ) (p i : ℕ) → Coherent b c
    → Keeps b c m count balances sent asked → p < b.processes → count p ≡ i → i < length (receipts_of c p)
    → IsPlaced b p (journal_order c) (take i (receipts_of c p)) (receipt_at (receipts_of c p) i)
    → moves_at m p (journal_order c) (receipt_at (receipts_of c p) i).call (is_success (receipt_at (receipts_of c p) i).reply) (receipt_at (receipts_of c p) i).at
    → Answered b c m (m + 1) count balances sent asked p i
moved-answered b c m count balances sent asked p i coherent keeps known here within (read account amount call reply cut) moves =
    let r = receipt_at (receipts_of c p) i in absurd (subst (moves_at m p (journal_order c) r.call (is_success r.reply)) cut.at moves)
moved-answered b c m count balances sent asked p i coherent keeps known here within (not_owner source targets call owner reply at) moves =
    let r = receipt_at (receipts_of c p) i in absurd (subst (moves_at m p (journal_order c) r.call (is_success r.reply)) at moves)
moved-answered b c m count balances sent asked p i coherent keeps known here within (full source targets call owner room reply at) moves =
    let r = receipt_at (receipts_of c p) i in absurd (subst (moves_at m p (journal_order c) r.call (is_success r.reply)) at moves)
moved-answered b c m count balances sent asked p i coherent keeps known here within (short source amount targets may single reply cut less) moves =
    let r = receipt_at (receipts_of c p) i in absurd (subst (moves_at m p (journal_order c) r.call (is_success r.reply)) cut.at moves)
moved-answered b c m count balances sent asked p i coherent keeps known here within (done source targets may single reply own) moves =
    let r = receipt_at (receipts_of c p) i in
    own-answered b c m count balances sent asked p i source targets coherent keeps known here within may single reply own
    (subst (moves_at m p (journal_order c) r.call (is_success r.reply)) own.at moves)
moved-answered b c m count balances sent asked p i coherent keeps known here within (round source targets may shared so) moves =
    let r = receipt_at (receipts_of c p) i in
    let at = subst (moves_at m p (journal_order c) r.call (is_success r.reply)) so.at moves in
    round-answered b c m count balances sent asked p i source targets coherent keeps known here within may shared so
    (done_decision so.decision.ok (sym (ap is_success so.reply) ∙ at.0))
    (ap (λ a. round_position a so.round (journal_order c)) (sym (first_account-payout source targets r.call may.call)) ∙ at.1)
  where
    done_decision : (ok : Bool) → is_success (cond ok Done Short) ≡ true → ok ≡ true
    done_decision true is = refl
    done_decision false is = absurd (cc is)

-- the first line of a process with an odd key moved
pub first_moves : (b : BookTerms) (c : ClosingTerms) (m p : ℕ) → Coherent b c → p < b.processes → reached c p (2 * m + 1) < reached c p (2 * m + 1 + 1)
    → let r = receipt_at (receipts_of c p) (reached c p (2 * m + 1)) in moves_at m p (journal_order c) r.call (is_success r.reply) r.at
first_moves b c m p coherent known some =
    let key = 2 * m + 1 in
    let n = length (receipts_of c p) in
    let i = reached c p key in
    let r = receipt_at (receipts_of c p) i in
    let within : i < n = omega (arith, some, within-reached c (key + 1) p) in
    elim (key_at-odd m p (journal_order c) (previous_key c p i) r.call (is_success r.reply) r.at
    (sym (line_key-receipt c p i within) ∙ key_of-reached b c key p i coherent known (omega arith) some))
    as (λ _. moves_at m p (journal_order c) r.call (is_success r.reply) r.at) [
      | inl moves ↦ moves
      | inr previous ↦ absurd (no_previous i refl previous.1)
    ]
  where
    no_previous : (k : ℕ) → k ≡ reached c p (2 * m + 1) → previous_key c p k ≡ 2 * m + 1 → ⊥
    no_previous zero is at = omega (arith, at)
    no_previous (suc k) is at =
        omega (arith, at, reach-below (line_key c p) (2 * m + 1) (length (receipts_of c p)) (line_key-sorted b c p coherent known) k (omega (arith, is)))

-- the others with that key have no place of their own
later_still : (b : BookTerms) (c : ClosingTerms) (m p j : ℕ) → Coherent b c → p < b.processes → reached c p (2 * m + 1) < j → j < reached c p (2 * m + 1 + 1)
    → still_at (m + 1) (is_success (receipt_at (receipts_of c p) j).reply) (receipt_at (receipts_of c p) j).at
later_still b c m p j coherent known from to =
    let key = 2 * m + 1 in
    let i = reached c p key in
    let r = receipt_at (receipts_of c p) j in
    let end = within-reached c (key + 1) p in
    elim (key_at-odd m p (journal_order c) (previous_key c p j) r.call (is_success r.reply) r.at
    (sym (line_key-receipt c p j (omega (arith, to, end))) ∙ key_of-reached b c key p j coherent known (omega (arith, from)) to))
    as (λ _. still_at (m + 1) (is_success r.reply) r.at) [
      | inl moves ↦
          let told = coherent.told p known in
          let first = move_of b c p i m coherent (told.placed i (omega (arith, from, to, end))) (first_moves b c m p coherent known (omega (arith, from, to))) in
          let second = move_of b c p j m coherent (told.placed j (omega (arith, to, end))) moves in
          absurd (IsMove-same b c p i j m (omega (arith, from, to, end)) first second from)
      | inr previous ↦ subst (still_at (m + 1) (is_success r.reply)) (sym previous.0) tt
    ]

-- the lines of a process with an odd key, where there are some: the first moves
pub Ran-odd : (b : BookTerms) (c : ClosingTerms) (m : ℕ) (count : ℕ → ℕ) (balances sent asked : List ℕ) (p : ℕ) → Coherent b c
    → Keeps b c m count balances sent asked → p < b.processes → count p ≡ reached c p (2 * m + 1) → reached c p (2 * m + 1) < reached c p (2 * m + 1 + 1)
    → Ran b c (m + 1) balances sent asked (process_lines_at c (2 * m + 1) p) (IsCounted count p (reached c p (2 * m + 1 + 1)))
Ran-odd b c m count balances sent asked p coherent keeps known here some =
    let key = 2 * m + 1 in
    let i = reached c p key in
    let n = reached c p (key + 1) - (i + 1) in
    let end = within-reached c (key + 1) p in
    let within : i < length (receipts_of c p) = omega (arith, some, end) in
    let told = coherent.told p known in
    let moves = first_moves b c m p coherent known some in
    let one = moved-answered b c m count balances sent asked p i coherent keeps known here within (told.placed i within) moves in
    let to : i + 1 + n ≡ reached c p (key + 1) = omega (arith, some) in
    let rest = Ran-still b c (m + 1) (with_count count p (i + 1)) one.balances2 one.sent2 one.asked2 p (i + 1) n coherent one.keeps known
    (with_count-own count p (i + 1) p refl) (omega (arith, to, end)) (λ j from below. later_still b c m p j coherent known (omega (arith, from)) (omega (arith, below, to))) in
    let more : reached c p (key + 1) - i ≡ suc n = omega (arith, some) in
    let ran = Ran-cons b c m (m + 1) (m + 1) count balances sent asked p i (map (line c p) (range_with_len (i + 1) n)) (IsCounted count p (reached c p (key + 1))) one
    (Ran-weaken b c (m + 1) one.balances2 one.sent2 one.asked2 (map (line c p) (range_with_len (i + 1) n)) (IsCounted (with_count count p (i + 1)) p (i + 1 + n)) (IsCounted count p (reached c p (key + 1))) rest
    (λ count2 so. record { own = so.own ∙ to; others = λ q apart. so.others q apart ∙ with_count-other count p (i + 1) q apart })) in
    subst (λ xs. Ran b c (m + 1) balances sent asked xs (IsCounted count p (reached c p (key + 1))))
    (sym (process_lines_at-range b c key p coherent known ∙ ap (λ k. map (line c p) (range_with_len i k)) more)) ran

-- where a process has no line of a key
pub no_lines : (b : BookTerms) (c : ClosingTerms) (key p : ℕ) → Coherent b c → p < b.processes → reached c p (key + 1) ≤ reached c p key
    → process_lines_at c key p ≡ []
no_lines b c key p coherent known none =
    let nothing : reached c p (key + 1) - reached c p key ≡ 0 = omega (arith, none) in
    process_lines_at-range b c key p coherent known ∙ ap (λ k. map (line c p) (range_with_len (reached c p key) k)) nothing
