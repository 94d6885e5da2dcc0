-- After each prefix of a history the balances sum to what the book opens with.
use Rattle.std.proofs.Common.{◌≡◌, ℕ, ◌+◌, ◌-◌, ◌<◌, ◌≤◌, zero, suc, not, ltb, Bool, true, false, cond, List, [], ◌∷◌, ◌++◌, length, get_or, map, set, sum, take, refl, sym, ap, subst, ◌∙◌, arith, inl, inr}
use Rattle.std.specs.Prelude.{None, Some, Option}
use Rattle.at_object.proofs.Prelude.{cases_Bool, cases_lt, le-ltb, lt-ltb, ext_get_or, length-map, length-set, sum-map, sum_by-set, filter_map, BookTerms, account_of, is_owner, is_shared, AreTargetsOn, TargetPair, amount_of, LedgerState, Run, Step, after_done, after_short, balance_of, is_full, moved, opening_state, pay, with_asked, with_sent, Call, Pay, Done, Full, NotOwner, Short, run, run_from-nil, last-push, length-credited, sum-credited, IsHistory, IsShownEntry, balance_after, decided_owner, move_of, moves, firsts, firsts-nil, firsts-repeat, repeats, prefix_of, publication_at, take-publication_at, Entry, Own, Round, Publication, AreBalancesAfter}
use Rattle.at_object.proofs.Laws.Covered.{moves-push, moves-still}

-- as many balances, with the same sum
record KeepsSum (s t : LedgerState) : Type 0 where
  sums : sum t.balances ≡ sum s.balances
  counts : length t.balances ≡ length s.balances

KeepsSum-same : (s t : LedgerState) → t.balances ≡ s.balances → KeepsSum s t
KeepsSum-same s t same = record { sums = ap sum same; counts = ap length same }

KeepsSum-either : (b : Bool) (s x y : LedgerState) → KeepsSum s x → KeepsSum s y → KeepsSum s (cond b x y)
KeepsSum-either true s x y first second = first
KeepsSum-either false s x y first second = second

-- what is taken is given
KeepsSum-moved : (s : LedgerState) (source : ℕ) (targets : List TargetPair) → source < length s.balances → AreTargetsOn (length s.balances) targets
    → amount_of targets ≤ balance_of s source → KeepsSum s (moved s source targets)
KeepsSum-moved s source targets inside known covered =
    let y = balance_of s source - amount_of targets in
    let taken : List ℕ = set s.balances source y in
    let on : AreTargetsOn (length taken) targets = subst (λ n. AreTargetsOn n targets) (sym (length-set s.balances source y)) known in
    record {
      sums = omega (arith, sum-credited taken targets on, sum_by-set (λ n. n) s.balances source y 0 inside, covered);
      counts = length-credited taken targets ∙ length-set s.balances source y;
    }

module _ (s : LedgerState) (process source : ℕ) (targets : List TargetPair) (inside : source < length s.balances)
    (known : AreTargetsOn (length s.balances) targets) where
  abbrev refused : Step
  refused = record { ledger = s; reply = NotOwner }

  abbrev filled : Step
  filled = record { ledger = s; reply = Full }

  abbrev short : Step
  short = record { ledger = after_short s process source; reply = Short }

  abbrev done : Step
  done = record { ledger = after_done s process source targets; reply = Done }

  kept_short : KeepsSum s (after_short s process source)
  kept_short =
      KeepsSum-either (is_shared (account_of s.book source)) s (with_asked s process source) s
      (KeepsSum-same s (with_asked s process source) refl) (KeepsSum-same s s refl)

  kept_done : amount_of targets ≤ balance_of s source → KeepsSum s (after_done s process source targets)
  kept_done covered =
      let t = moved s source targets in
      let so = KeepsSum-moved s source targets inside known covered in
      KeepsSum-either (is_shared (account_of t.book source)) s (with_asked t process source) (with_sent t process)
      (record { sums = so.sums; counts = so.counts }) (record { sums = so.sums; counts = so.counts })

  kept_covered : KeepsSum s (cond (ltb (balance_of s source) (amount_of targets)) short done).ledger
  kept_covered =
      elim (cases_lt (balance_of s source) (amount_of targets)) as
      (λ _. KeepsSum s (cond (ltb (balance_of s source) (amount_of targets)) short done).ledger) [
        | inl less ↦ subst (λ (t : Bool). KeepsSum s (cond t short done).ledger) (sym (lt-ltb (balance_of s source) (amount_of targets) less)) kept_short
        | inr enough ↦ subst (λ (t : Bool). KeepsSum s (cond t short done).ledger) (sym (le-ltb (balance_of s source) (amount_of targets) enough)) (kept_done enough)
      ]

  kept_tests : (owner full : Bool) (rest : Step) → KeepsSum s rest.ledger → KeepsSum s (cond (not owner) refused (cond full filled rest)).ledger
  kept_tests true true rest so = KeepsSum-same s s refl
  kept_tests true false rest so = so
  kept_tests false full rest so = KeepsSum-same s s refl

  KeepsSum-pay : KeepsSum s (pay s process source targets).ledger
  KeepsSum-pay =
      kept_tests (is_owner s.book process source) (is_full s process source) (cond (ltb (balance_of s source) (amount_of targets)) short done) kept_covered

KeepsSum-then : (s t u : LedgerState) → KeepsSum s t → KeepsSum t u → KeepsSum s u
KeepsSum-then s t u first second = record { sums = second.sums ∙ first.sums; counts = second.counts ∙ first.counts }

-- the moves of a list keep the sum of the openings
abbrev EndsWithTotal : BookTerms → List Publication → Type 0
EndsWithTotal b xs = KeepsSum (opening_state b) (run b (moves b xs)).last

EndsWithTotal-nil : (b : BookTerms) → EndsWithTotal b []
EndsWithTotal-nil b =
    let f : Publication → Option (ℕ × Call) = λ y. move_of b y.process y.entry in
    let none : moves b [] ≡ [] = ap (filter_map f) firsts-nil in
    KeepsSum-same (opening_state b) (run b (moves b [])).last
    (ap (λ cs. (run b cs).last.balances) none ∙ ap (λ (r : Run). r.last.balances) (run_from-nil (opening_state b)))

module _ (b : BookTerms) (xs : List Publication) (x : Publication) (so : EndsWithTotal b xs) where
  abbrev more : List Publication
  more = xs ++ x ∷ []

  -- one more publication that moves nothing
  ends-same : moves b more ≡ moves b xs → EndsWithTotal b more
  ends-same same = subst (λ cs. KeepsSum (opening_state b) (run b cs).last) (sym same) so

  -- and one that does
  ends-pay : (p source : ℕ) (targets : List TargetPair) → repeats x (firsts xs) ≡ false → move_of b x.process x.entry ≡ Some (p, Pay source targets)
      → source < length b.accounts → AreTargetsOn (length b.accounts) targets → EndsWithTotal b more
  ends-pay p source targets new pays inside known =
      let last : LedgerState = (run b (moves b xs)).last in
      let sized : length b.accounts ≡ length last.balances = sym (so.counts ∙ length-map b.accounts (λ t. t.opening)) in
      let call : ℕ × Call = (p, Pay source targets) in
      subst (λ (t : LedgerState). KeepsSum (opening_state b) t)
      (sym (ap (λ cs. (run b cs).last) (moves-push b xs x call new pays) ∙ last-push (opening_state b) (moves b xs) call))
      (KeepsSum-then (opening_state b) last (pay last p source targets).ledger so
      (KeepsSum-pay last p source targets (omega (arith, inside, sized)) (subst (λ n. AreTargetsOn n targets) sized known)))

  ends-entry : (e : Entry) → x.entry ≡ e → (prefix : List Publication) → IsShownEntry b x.process prefix e → repeats x (firsts xs) ≡ false → EndsWithTotal b more
  ends-entry (Own from targets) is prefix shown new =
      ends-pay x.process from targets new (ap (move_of b x.process) is) shown.source_in shown.targets_in.accounts
  ends-entry (Round account round d targets) is prefix shown new =
      elim (cases_Bool d.ok) as (λ _. EndsWithTotal b more) [
        | inl ok ↦
            ends-pay (decided_owner b account d) account targets new
            (ap (move_of b x.process) is ∙ ap (λ (t : Bool). cond t (Some (decided_owner b account d, Pay account targets)) None) ok)
            shown.0.account_in shown.1.accounts
        | inr not_ok ↦
            ends-same (moves-still b xs x new
            (ap (move_of b x.process) is ∙ ap (λ (t : Bool). cond t (Some (decided_owner b account d, Pay account targets)) None) not_ok))
      ]

  EndsWithTotal-push : (prefix : List Publication) → IsShownEntry b x.process prefix x.entry → EndsWithTotal b more
  EndsWithTotal-push prefix shown =
      elim (cases_Bool (repeats x (firsts xs))) as (λ _. EndsWithTotal b more) [
        | inl again ↦
            let f : Publication → Option (ℕ × Call) = λ y. move_of b y.process y.entry in
            ends-same (ap (filter_map f) (firsts-repeat xs x again))
        | inr new ↦ ends-entry x.entry refl prefix shown new
      ]

EndsWithTotal-take : (b : BookTerms) (list : List Publication) (m : ℕ) → IsHistory b list → m ≤ length list → EndsWithTotal b (take m list)
EndsWithTotal-take b list zero history within = EndsWithTotal-nil b
EndsWithTotal-take b list (suc m) history within =
    let x : Publication = publication_at list m in
    let e : m + 1 ≡ suc m = omega arith in
    subst (EndsWithTotal b) (sym (take-publication_at list m (omega arith)) ∙ ap (λ k. take k list) e)
    (EndsWithTotal-push b (take m list) x (EndsWithTotal-take b list m history (omega arith)) (prefix_of x.view list) (history.entries m (omega arith)))

-- so do the balances after it
pub AreBalancesAfter-each : (b : BookTerms) (list : List Publication) (m : ℕ) (balances : List ℕ) → IsHistory b list → m ≤ length list
    → length balances ≡ length b.accounts
    → ((a : ℕ) → a < length b.accounts → get_or balances a 0 ≡ balance_after b (take m list) a) → AreBalancesAfter b (take m list) balances
AreBalancesAfter-each b list m balances history within sized each =
    let last : LedgerState = (run b (moves b (take m list))).last in
    let so = EndsWithTotal-take b list m history within in
    let many : length last.balances ≡ length b.accounts = so.counts ∙ length-map b.accounts (λ t. t.opening) in
    let same : balances ≡ last.balances =
    ext_get_or 0 balances last.balances (sized ∙ sym many)
    (λ a below. each a (omega (arith, below, sized)) ∙ sym ((history.runs m within).balances a (omega (arith, below, sized)))) in
    record { sized = sized; each = each; total = ap sum same ∙ (so.sums ∙ sum-map (λ t. t.opening) b.accounts) }
