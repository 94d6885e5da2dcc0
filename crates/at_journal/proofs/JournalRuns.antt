-- The journal of a coherent closing is a legal run, which ends with the balances of all publications.
use Rattle.std.proofs.Common.{◌≡◌, ℕ, ◌+◌, ◌*◌, ◌<◌, ◌≤◌, zero, suc, List, [], ◌∷◌, ◌++◌, length, map, replicate, sum, refl, sym, ap, subst, append-nil, append_assoc, ◌∙◌, arith, inl, inr}
use Rattle.at_journal.proofs.Prelude.{flat_map, range_with_len, cases_lt, flat_map-append, ext_get_or, length-map, take_all, BookTerms, IsBegun, Legal, last_state, asked_position, balance_of, Line, balance_after, counts, get_or-counts, length-counts, sum-counts, Follows-nil, get_or-zeros, ClosingTerms, log_lengths, log_of, published_by, receipts_of, Coherent, journal_lines, journal_order, line_key, process_lines_at, range_with_len-more, get_or-log_lengths, ArePublishedBy-journal_order, publications_of-journal_order, line_key-sorted}
use Rattle.at_journal.proofs.BucketRuns.{reached}
use Rattle.at_journal.proofs.KeepLaws.{Keeps}
use Rattle.at_journal.proofs.KeyRuns.{CountsAt, Ran-even_all, Ran-odd_all}
use Rattle.at_journal.proofs.LineKeys.{reach-below}
use Rattle.at_journal.proofs.LineRuns.{Ran, Ran-append, Ran-nil, Ran-weaken}

-- the order has as many publications as the logs together
pub length-journal_order : (c : ClosingTerms) → length (journal_order c) ≡ sum (log_lengths c)
length-journal_order c =
    let order = journal_order c in
    let n = length c.logs in
    let ours = ArePublishedBy-journal_order c in
    let same : counts n order ≡ log_lengths c =
    ext_get_or 0 (counts n order) (log_lengths c) (length-counts n order ∙ sym (length-map c.logs length))
    (λ p within.
    let known : p < n = omega (arith, within, length-counts n order) in
    get_or-counts n order p 0 known
    ∙ (ap length (publications_of-journal_order c p known)
    ∙ (length-map (log_of c p) (published_by p) ∙ sym (get_or-log_lengths c p known)))) in
    sym (sum-counts n order ours) ∙ ap sum same

-- the lines of a key
abbrev lines_at : ClosingTerms → ℕ → List Line
lines_at c key = flat_map (process_lines_at c key) (range_with_len 0 (length c.receipts))

-- one key more
one_more : (c : ClosingTerms) (key : ℕ) → flat_map (lines_at c) (range_with_len 0 (key + 1)) ≡ flat_map (lines_at c) (range_with_len 0 key) ++ lines_at c key
one_more c key =
    let from_zero : 0 + key ≡ key = omega arith in
    ap (flat_map (lines_at c)) (range_with_len-more 0 key)
    ∙ (flat_map-append (lines_at c) (range_with_len 0 key) ((0 + key) ∷ [])
    ∙ (ap (λ ys. flat_map (lines_at c) (range_with_len 0 key) ++ ys) (append-nil (lines_at c (0 + key)))
    ∙ ap (λ k. flat_map (lines_at c) (range_with_len 0 key) ++ lines_at c k) from_zero))

-- the opening balances, with no room used
abbrev openings : BookTerms → List ℕ
openings b = map (λ t. t.opening) b.accounts

abbrev no_sent : BookTerms → List ℕ
no_sent b = replicate b.processes 0

abbrev no_asked : BookTerms → List ℕ
no_asked b = replicate (b.processes * length b.accounts) 0

Keeps-opening : (b : BookTerms) (c : ClosingTerms) → Keeps b c 0 (λ p. 0) (openings b) (no_sent b) (no_asked b)
Keeps-opening b c =
    let start = Follows-nil b in
    record {
      money = record { accounts = start.accounts; balanced = start.balanced; total = start.total };
      senders = start.senders;
      askers = start.askers;
      sent_so = λ p known. get_or-zeros b.processes p;
      asked_so = λ p a known inside. get_or-zeros (b.processes * length b.accounts) (asked_position b p a);
    }

reached-zero : (b : BookTerms) (c : ClosingTerms) (p : ℕ) → Coherent b c → p < b.processes → 0 ≡ reached c p 0
reached-zero b c p coherent known =
    elim (cases_lt 0 (reached c p 0)) as (λ _. 0 ≡ reached c p 0) [
      | inl some ↦ absurd (omega (arith, reach-below (line_key c p) 0 (length (receipts_of c p)) (line_key-sorted b c p coherent known) 0 some))
      | inr none ↦ omega (arith, none)
    ]

-- behind all lines with a key come those with the next
CountsAt-key : (b : BookTerms) (c : ClosingTerms) (key next : ℕ) (count : ℕ → ℕ) → key + 1 ≡ next → CountsAt b c key b.processes count → CountsAt b c next 0 count
CountsAt-key b c key next count is counts q known =
    ((λ before. absurd (omega (arith, before))), (λ after. (counts q known).0 known ∙ ap (reached c q) is))

-- the lines whose keys are below an even one
Ran-below : (b : BookTerms) (c : ClosingTerms) (m : ℕ) → Coherent b c → IsBegun b → m ≤ length (journal_order c)
    → Ran b c m (openings b) (no_sent b) (no_asked b) (flat_map (lines_at c) (range_with_len 0 (2 * m))) (CountsAt b c (2 * m) 0)
Ran-below b c zero coherent begun within =
    Ran-nil b c 0 (λ p. 0) (openings b) (no_sent b) (no_asked b) (CountsAt b c 0 0) (Keeps-opening b c)
    (λ q known. ((λ before. absurd (omega (arith, before))), (λ after. reached-zero b c q coherent known)))
Ran-below b c (suc m) coherent begun within =
    let n = b.processes in
    let before = Ran-below b c m coherent begun (omega (arith, within)) in
    let even = Ran-even_all b c m 0 n before.count2 before.balances2 before.sent2 before.asked2 coherent (omega arith) before.keeps before.holds in
    let odd = Ran-odd_all b c m even.count2 even.balances2 even.sent2 even.asked2 coherent begun (omega (arith, within)) even.keeps
    (CountsAt-key b c (2 * m) (2 * m + 1) even.count2 refl even.holds) in
    let keys = range_with_len 0 (2 * m) in
    let evens = flat_map (process_lines_at c (2 * m)) (range_with_len 0 n) in
    let odds = flat_map (process_lines_at c (2 * m + 1)) (range_with_len 0 n) in
    let pair = Ran-append b c m (m + 1) before.balances2 before.sent2 before.asked2 evens odds (CountsAt b c (2 * m) n) (CountsAt b c (2 * m + 1) n) even odd in
    let both = Ran-append b c m (m + 1) (openings b) (no_sent b) (no_asked b) (flat_map (lines_at c) keys) (evens ++ odds) (CountsAt b c (2 * m) 0) (CountsAt b c (2 * m + 1) n) before pair in
    let done = Ran-weaken b c (m + 1) (openings b) (no_sent b) (no_asked b) (flat_map (lines_at c) keys ++ (evens ++ odds)) (CountsAt b c (2 * m + 1) n) (CountsAt b c (2 * suc m) 0) both
    (λ count2 counts. CountsAt-key b c (2 * m + 1) (2 * suc m) count2 (omega arith) counts) in
    let next : m + 1 ≡ suc m = omega arith in
    let two : 2 * suc m ≡ 2 * m + 1 + 1 = omega arith in
    let lines_is : flat_map (lines_at c) (range_with_len 0 (2 * suc m)) ≡ flat_map (lines_at c) keys ++ (evens ++ odds) =
    ap (λ k. flat_map (lines_at c) (range_with_len 0 k)) two
    ∙ (one_more c (2 * m + 1) ∙ ((λ t. one_more c (2 * m) t ++ lines_at c (2 * m + 1))
    ∙ (append_assoc (flat_map (lines_at c) keys) (lines_at c (2 * m)) (lines_at c (2 * m + 1))
    ∙ (λ t. flat_map (lines_at c) keys ++ (flat_map (process_lines_at c (2 * m)) (range_with_len 0 (coherent.receipts t))
    ++ flat_map (process_lines_at c (2 * m + 1)) (range_with_len 0 (coherent.receipts t))))))) in
    subst (λ xs. Ran b c (suc m) (openings b) (no_sent b) (no_asked b) xs (CountsAt b c (2 * suc m) 0)) (sym lines_is)
    (subst (λ k. Ran b c k (openings b) (no_sent b) (no_asked b) (flat_map (lines_at c) keys ++ (evens ++ odds)) (CountsAt b c (2 * suc m) 0)) next done)

-- all lines
Ran-journal_lines : (b : BookTerms) (c : ClosingTerms) → Coherent b c → IsBegun b
    → Ran b c (length (journal_order c)) (openings b) (no_sent b) (no_asked b) (journal_lines c) (CountsAt b c (2 * length (journal_order c)) b.processes)
unfolding journal_lines
Ran-journal_lines b c coherent begun =
    let m = length (journal_order c) in
    let n = b.processes in
    let before = Ran-below b c m coherent begun (omega arith) in
    let even = Ran-even_all b c m 0 n before.count2 before.balances2 before.sent2 before.asked2 coherent (omega arith) before.keeps before.holds in
    let keys = range_with_len 0 (2 * m) in
    let evens = flat_map (process_lines_at c (2 * m)) (range_with_len 0 n) in
    let all = Ran-append b c m m (openings b) (no_sent b) (no_asked b) (flat_map (lines_at c) keys) evens (CountsAt b c (2 * m) 0) (CountsAt b c (2 * m) n) before even in
    let lines_is : flat_map (lines_at c) (range_with_len 0 (2 * sum (log_lengths c) + 1)) ≡ flat_map (lines_at c) keys ++ evens =
    (λ t. flat_map (lines_at c) (range_with_len 0 (2 * sym (length-journal_order c) t + 1)))
    ∙ (one_more c (2 * m) ∙ (λ t. flat_map (lines_at c) keys ++ flat_map (process_lines_at c (2 * m)) (range_with_len 0 (coherent.receipts t)))) in
    subst (λ xs. Ran b c m (openings b) (no_sent b) (no_asked b) xs (CountsAt b c (2 * m) n)) (sym lines_is) all

-- the journal is legal
pub Legal-journal_lines : (b : BookTerms) (c : ClosingTerms) → Coherent b c → IsBegun b → Legal b (journal_lines c)
Legal-journal_lines b c coherent begun = sym (Ran-journal_lines b c coherent begun).replies

-- and ends with the balances of all publications
pub balances-journal_lines : (b : BookTerms) (c : ClosingTerms) (a : ℕ) → Coherent b c → IsBegun b → a < length b.accounts
    → balance_of (last_state b (journal_lines c)) a ≡ balance_after b (journal_order c) a
balances-journal_lines b c a coherent begun within =
    let ran = Ran-journal_lines b c coherent begun in
    let order = journal_order c in
    let money = ran.keeps.money in
    ap (λ s. balance_of s a) ran.last
    ∙ (omega (arith, money.balanced a within) ∙ ap (λ xs. balance_after b xs a) (take_all (length order) order (omega arith)))
