-- The lines of a closing, key by key: they are answered as they say.
use Rattle.std.proofs.Common.{◌≡◌, ℕ, ◌+◌, ◌*◌, ◌<◌, ◌≤◌, ◌⊎◌, ◌==◌, ◌&&◌, zero, suc, Bool, false, cond, List, [], ◌∷◌, ◌++◌, length, take, refl, sym, ap, subst, append-nil, ◌∙◌, arith, inl, inr}
use Rattle.at_journal.proofs.Prelude.{flat_map, range_with_len, cases_Bool, cases_eq, cases_lt, ltb-false, BookTerms, IsBegun, amount_of, BalancesFollow, MovesSame, MovesSame-refused, MovesSame-repeat, IsNextAtMost, repeats-round, take-publication_at, Entry, Publication, amount_for, credit_of, debit_of, publication_at, is_own, is_same_round, firsts, repeats, rounds, list_any, HasRounds-Coherent, ClosingTerms, receipts_of, Coherent, journal_order, line_key, process_lines_at, IsInitial-journal_order, IsNextAtMost-journal_order, line_key-sorted}
use Rattle.at_journal.proofs.BucketRuns.{Ran-even, Ran-odd, first_moves, move_of, no_lines, reached, reached-mono, within-reached}
use Rattle.at_journal.proofs.KeepLaws.{Keeps}
use Rattle.at_journal.proofs.LineKeys.{reach-above, reach-below}
use Rattle.at_journal.proofs.LineRuns.{IsCounted, Ran, Ran-append, Ran-nil, Ran-weaken}
use Rattle.at_journal.proofs.MoveLaws.{IsNewRound}
use Rattle.at_journal.proofs.Movers.{HasLine, HasLine-own, HasLine-round}
use Rattle.at_journal.proofs.SameMove.{IsMove, IsMove-process}

-- the processes before one have made their calls with the key, and the others all with smaller keys
abbrev pub CountsAt : BookTerms → ClosingTerms → ℕ → ℕ → (ℕ → ℕ) → Type 0
CountsAt b c key a count = (q : ℕ) → q < b.processes → (q < a → count q ≡ reached c q (key + 1)) × (a ≤ q → count q ≡ reached c q key)

-- the processes of which one has made its calls
CountsAt-next : (b : BookTerms) (c : ClosingTerms) (key a : ℕ) (count count2 : ℕ → ℕ) → CountsAt b c key a count
    → IsCounted count a (reached c a (key + 1)) count2 → CountsAt b c key (a + 1) count2
CountsAt-next b c key a count count2 counts one q known = (
  λ before.
      elim (cases_eq q a) as (λ _. count2 q ≡ reached c q (key + 1)) [
        | inl same ↦ ap count2 same ∙ (one.own ∙ ap (λ p. reached c p (key + 1)) (sym same))
        | inr apart ↦ one.others q apart ∙ (counts q known).0 (omega (arith, before, apart))
      ],
  λ after. one.others q (λ e. omega (arith, after, e)) ∙ (counts q known).1 (omega (arith, after)),
)

-- the lines of an even key
pub Ran-even_all : (b : BookTerms) (c : ClosingTerms) (m a n : ℕ) (count : ℕ → ℕ) (balances sent asked : List ℕ) → Coherent b c → a + n ≡ b.processes
    → Keeps b c m count balances sent asked → CountsAt b c (2 * m) a count
    → Ran b c m balances sent asked (flat_map (process_lines_at c (2 * m)) (range_with_len a n)) (CountsAt b c (2 * m) b.processes)
Ran-even_all b c m a zero count balances sent asked coherent all keeps counts =
    let end : a ≡ b.processes = omega (arith, all) in
    Ran-nil b c m count balances sent asked (CountsAt b c (2 * m) b.processes) keeps (subst (λ k. CountsAt b c (2 * m) k count) end counts)
Ran-even_all b c m a (suc n) count balances sent asked coherent all keeps counts =
    let known : a < b.processes = omega (arith, all) in
    let one = Ran-even b c m count balances sent asked a coherent keeps known ((counts a known).1 (omega arith)) in
    let rest = Ran-even_all b c m (a + 1) n one.count2 one.balances2 one.sent2 one.asked2 coherent (omega (arith, all)) one.keeps
    (CountsAt-next b c (2 * m) a count one.count2 counts one.holds) in
    Ran-append b c m m balances sent asked (process_lines_at c (2 * m) a) (flat_map (process_lines_at c (2 * m)) (range_with_len (a + 1) n))
    (IsCounted count a (reached c a (2 * m + 1))) (CountsAt b c (2 * m) b.processes) one rest

-- lists one after another of which none has an element, or one
pub flat_map-none : {X : Type 0} (g : ℕ → List X) (a n : ℕ) → ((p : ℕ) → a ≤ p → p < a + n → g p ≡ []) → flat_map g (range_with_len a n) ≡ []
flat_map-none g a zero none = refl
flat_map-none g a (suc n) none = λ t. none a (omega arith) (omega arith) t ++ flat_map-none g (a + 1) n (λ p from to. none p (omega arith) (omega arith)) t

pub flat_map-only : {X : Type 0} (g : ℕ → List X) (a n q : ℕ) → a ≤ q → q < a + n → ((p : ℕ) → a ≤ p → p < a + n → (p ≡ q → ⊥) → g p ≡ [])
    → flat_map g (range_with_len a n) ≡ g q
flat_map-only g a zero q from to others = absurd (omega (arith, from, to))
flat_map-only g a (suc n) q from to others =
    elim (cases_eq a q) as (λ _. g a ++ flat_map g (range_with_len (a + 1) n) ≡ g q) [
      | inl here ↦
          (λ t. g (here t) ++ flat_map-none g (a + 1) n (λ p above below. others p (omega arith) (omega arith) (λ e. omega (arith, e, here, above))) t)
          ∙ append-nil (g q)
      | inr apart ↦
          (λ t. others a (omega arith) (omega arith) apart t ++ flat_map g (range_with_len (a + 1) n))
          ∙ flat_map-only g (a + 1) n q (omega (arith, from, apart)) (omega (arith, to)) (λ p above below differs. others p (omega arith) (omega arith) differs)
    ]

-- some process has a line of a key, or none has
find_lines : (c : ClosingTerms) (key a n : ℕ)
    → ((p : ℕ) → a ≤ p → p < a + n → reached c p (key + 1) ≤ reached c p key) ⊎ ((q : ℕ) × (a ≤ q) × (q < a + n) × (reached c q key < reached c q (key + 1)))
find_lines c key a zero = inl (λ p from to. absurd (omega (arith, from, to)))
find_lines c key a (suc n) =
    let Goal : Type 0 = ((p : ℕ) → a ≤ p → p < a + suc n → reached c p (key + 1) ≤ reached c p key)
    ⊎ ((q : ℕ) × (a ≤ q) × (q < a + suc n) × (reached c q key < reached c q (key + 1))) in
    elim (cases_lt (reached c a key) (reached c a (key + 1))) as (λ _. Goal) [
      | inl some ↦ inr (a, omega arith, omega arith, some)
      | inr none ↦
          elim (find_lines c key (a + 1) n) as (λ _. Goal) [
            | inl rest ↦ inl (λ p from to.
                elim (cases_eq p a) as (λ _. reached c p (key + 1) ≤ reached c p key) [
                  | inl here ↦ subst (λ k. reached c k (key + 1) ≤ reached c k key) (sym here) none
                  | inr apart ↦ rest p (omega (arith, from, apart)) (omega (arith, to))
                ])
            | inr found ↦ inr (found.0, omega (arith, found.1), omega (arith, found.2), found.3)
          ]
    ]

-- where some line has a key, its process has one
no_line : (b : BookTerms) (c : ClosingTerms) (key : ℕ) → Coherent b c → ((p : ℕ) → p < b.processes → reached c p (key + 1) ≤ reached c p key)
    → HasLine b c key → ⊥
no_line b c key coherent none line =
    let p = line.process in
    let n = length (receipts_of c p) in
    let sorted = line_key-sorted b c p coherent line.known in
    let empty = none p line.known in
    elim (cases_lt line.number (reached c p key)) as (λ _. ⊥) [
      | inl early ↦ omega (arith, line.key_is, reach-below (line_key c p) key n sorted line.number early)
      | inr late ↦ omega (arith, line.key_is, reach-above (line_key c p) (key + 1) n sorted line.number (omega (arith, late, empty)) line.within)
    ]

-- a list that moved the same leaves the balances
same_money : (b : BookTerms) (xs ys : List Publication) (balances : List ℕ) → MovesSame b xs ys → BalancesFollow b xs balances → BalancesFollow b ys balances
same_money b xs ys balances same money = record {
  accounts = money.accounts;
  balanced = λ a within. omega (arith, money.balanced a within, same.credits_same a, same.debits_same a);
  total = money.total;
}

-- a publication that no line moves changes no balance
unmoved : (b : BookTerms) (c : ClosingTerms) (m : ℕ) (balances : List ℕ) (e : Entry) → Coherent b c → IsBegun b → m < length (journal_order c)
    → ((p : ℕ) → p < b.processes → reached c p (2 * m + 1 + 1) ≤ reached c p (2 * m + 1)) → (publication_at (journal_order c) m).entry ≡ e
    → BalancesFollow b (take m (journal_order c)) balances → BalancesFollow b (take (m + 1) (journal_order c)) balances
unmoved b c m balances (Entry.Own from targets) coherent begun within none is money =
    absurd (no_line b c (2 * m + 1) coherent none (HasLine-own b c m from targets coherent within is))
unmoved b c m balances (Entry.Round a r d targets) coherent begun within none is money =
    let order = journal_order c in
    let xs = take m order in
    let x : Publication = publication_at order m in
    let off : is_own x.entry ≡ false = ap is_own is in
    subst (λ ys. BalancesFollow b ys balances) (sym (take-publication_at order m within))
    (elim (cases_Bool (repeats x (firsts xs))) as (λ _. BalancesFollow b (xs ++ x ∷ []) balances) [
      | inl again ↦ same_money b xs (xs ++ x ∷ []) balances (MovesSame-repeat b xs x again off) money
      | inr fresh ↦
          elim (cases_Bool d.ok) as (λ _. BalancesFollow b (xs ++ x ∷ []) balances) [
            | inl ok ↦
                let at_most : r ≤ rounds a xs = subst (λ t. IsNextAtMost xs t) is (IsNextAtMost-journal_order b c m (HasRounds-Coherent b c coherent) within) in
                let initial = IsInitial-journal_order b c m (HasRounds-Coherent b c coherent) (omega (arith, within)) a in
                let absent = sym (ap (λ t. list_any (λ (y : Publication). is_same_round t y.entry) (firsts xs)) is) ∙ fresh in
                let new : IsNewRound c m a r d targets = record {
                  within = within;
                  entry = is;
                  new = fresh;
                  next = omega (arith, at_most, ltb-false r (rounds a xs) (sym (repeats-round x.process x.view a r d targets xs initial) ∙ absent));
                } in
                absurd (no_line b c (2 * m + 1) coherent none (HasLine-round b c m a r d targets coherent begun new ok))
            | inr refused ↦
                same_money b xs (xs ++ x ∷ []) balances
                (MovesSame-refused b xs x fresh off
                (λ account. ap (credit_of account) is ∙ ap (λ (t : Bool). cond t (amount_for account targets) zero) refused)
                (λ account. ap (debit_of account) is ∙ refused_debit account a d.ok refused (amount_of targets)))
                money
          ]
    ])
  where
    refused_debit : (account source : ℕ) (ok : Bool) → ok ≡ false → (amount : ℕ) → cond (ok && (source == account)) amount 0 ≡ 0
    refused_debit account source ok refused amount = ap (λ (t : Bool). cond (t && (source == account)) amount 0) refused

-- the lines of an odd key
pub Ran-odd_all : (b : BookTerms) (c : ClosingTerms) (m : ℕ) (count : ℕ → ℕ) (balances sent asked : List ℕ) → Coherent b c → IsBegun b → m < length (journal_order c)
    → Keeps b c m count balances sent asked → CountsAt b c (2 * m + 1) 0 count
    → Ran b c (m + 1) balances sent asked (flat_map (process_lines_at c (2 * m + 1)) (range_with_len 0 b.processes)) (CountsAt b c (2 * m + 1) b.processes)
Ran-odd_all b c m count balances sent asked coherent begun within keeps counts =
    let key = 2 * m + 1 in
    let n = b.processes in
    let lines = process_lines_at c key in
    let Goal : Type 0 = Ran b c (m + 1) balances sent asked (flat_map lines (range_with_len 0 n)) (CountsAt b c key n) in
    elim (find_lines c key 0 n) as (λ _. Goal) [
      | inl none ↦
          let empty : (p : ℕ) → p < n → reached c p (key + 1) ≤ reached c p key = λ p known. none p (omega arith) (omega (arith, known)) in
          let kept : Keeps b c (m + 1) count balances sent asked = record {
            money = unmoved b c m balances (publication_at (journal_order c) m).entry coherent begun within empty refl keeps.money;
            senders = keeps.senders;
            askers = keeps.askers;
            sent_so = keeps.sent_so;
            asked_so = keeps.asked_so;
          } in
          subst (λ xs. Ran b c (m + 1) balances sent asked xs (CountsAt b c key n))
          (sym (flat_map-none lines 0 n (λ p from to. no_lines b c key p coherent (omega (arith, to)) (none p from to))))
          (Ran-nil b c (m + 1) count balances sent asked (CountsAt b c key n) kept (λ q known. (
            λ before. (counts q known).1 (omega arith) ∙ same_reach (reached c q key) (reached c q (key + 1)) (empty q known) (reached-mono b c key q coherent known),
            λ after. absurd (omega (arith, known, after)),
          )))
      | inr found ↦
          let q = found.0 in
          let known : q < n = omega (arith, found.2) in
          let told : (p : ℕ) → p < n → reached c p key < reached c p (key + 1) → IsMove b c p (reached c p key) m =
          λ p inside some. move_of b c p (reached c p key) m coherent
          ((coherent.told p inside).placed (reached c p key) (omega (arith, some, within-reached c (key + 1) p)))
          (first_moves b c m p coherent inside some) in
          let others : (p : ℕ) → p < n → (p ≡ q → ⊥) → reached c p (key + 1) ≤ reached c p key =
          λ p inside apart.
          elim (cases_lt (reached c p key) (reached c p (key + 1))) as (λ _. reached c p (key + 1) ≤ reached c p key) [
            | inl some ↦ absurd (apart (IsMove-process b c p q (reached c p key) (reached c q key) m (told p inside some) (told q known found.3)))
            | inr none ↦ none
          ] in
          let ran = Ran-odd b c m count balances sent asked q coherent keeps known ((counts q known).1 (omega arith)) found.3 in
          subst (λ xs. Ran b c (m + 1) balances sent asked xs (CountsAt b c key n))
          (sym (flat_map-only lines 0 n q (omega arith) (omega (arith, known)) (λ p from to apart. no_lines b c key p coherent (omega (arith, to)) (others p (omega (arith, to)) apart))))
          (Ran-weaken b c (m + 1) balances sent asked (lines q) (IsCounted count q (reached c q (key + 1))) (CountsAt b c key n) ran
          (λ count2 one. λ p inside. (
            λ before.
                elim (cases_eq p q) as (λ _. count2 p ≡ reached c p (key + 1)) [
                  | inl same ↦ ap count2 same ∙ (one.own ∙ ap (λ k. reached c k (key + 1)) (sym same))
                  | inr apart ↦ one.others p apart ∙ ((counts p inside).1 (omega arith)
                      ∙ same_reach (reached c p key) (reached c p (key + 1)) (others p inside apart) (reached-mono b c key p coherent inside))
                ],
            λ after. absurd (omega (arith, inside, after)),
          )))
    ]
  where
    same_reach : (i j : ℕ) → j ≤ i → i ≤ j → i ≡ j
    same_reach i j one two = omega (arith, one, two)
