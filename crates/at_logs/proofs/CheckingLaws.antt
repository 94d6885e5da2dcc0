-- What a snapshot says is what a node keeps exactly where the tests of it hold.
use Rattle.std.proofs.Common.{◌≡◌, ◌↔◌, ℕ, ◌+◌, ◌<◌, ◌≤◌, Bool, IsTrue, List, length, get_or, sum, sum_by, Some, Result, Ok, Err, IfOk, ap, sym, subst, ◌∙◌, inl, inr, arith}
use Rattle.at_logs.specs.Saved.{HasBacklogs, IsSplit}
use Rattle.at_logs.proofs.Prelude.{All, MESSAGES_MAX, cases_eq, BacklogState, CompactState, Credit, IsBacklog, IsCompact, IsCreditOf, IsLogBook, IsSavedCore, NamesSaved, RoomyBacklog, account_on_logs, backlog_of, credit_to, kept_of, no_backlog, total_on_logs}
use Rattle.at_logs.proofs.CreditLaws.{no-credit_to}
use Rattle.at_logs.proofs.RoomLaws.{kept_read}

-- a log's backlog names what the book has
pub names_of : (c : CompactState) (p : ℕ) → IsSavedCore c.book c → p < c.book.logs → NamesSaved c.book.logs (length c.book.accounts) (backlog_of c.backlogs p)
names_of c p is known = is.names p no_backlog (omega (arith, known, is.sized))

-- the credits that are read at a position
pub credits_read : (all : List RoomyBacklog) (p : ℕ) (l : RoomyBacklog) (xs : List Credit) → p < length all → l ≡ get_or all p l → xs ≡ l.kept.credits → xs ≡ (backlog_of (kept_of all) p).credits
credits_read all p l xs within here same =
    same ∙ ap (λ (l : BacklogState). l.credits) (kept_read all p l within here)

-- the backlog of a log is one where its counts and its credits are
pub IsBacklog-tests : (c : CompactState) (p : ℕ) → IsSavedCore c.book c → p < c.book.logs
    → (get_or c.told p 0 ≤ get_or c.validated p 0)
    × ((get_or c.validated p 0 ≤ get_or c.told p 0 + length (backlog_of c.backlogs p).messages) × (get_or c.told p 0 + length (backlog_of c.backlogs p).messages ≤ MESSAGES_MAX))
    → All (IsCreditOf c.book p) (backlog_of c.backlogs p).credits → IsBacklog c p (backlog_of c.backlogs p)
IsBacklog-tests c p is known counts credits =
    let names = names_of c p is known in
    record { told = counts.0; within = counts.1.0; few = counts.1.1; known = names.messages; sized = names.sized; credits = credits }

-- ---- the credits are taken from the balances

-- before the log's are: each balance that it debits, and those of the logs after it
abbrev pub IsUntaken : CompactState → ℕ → List ℕ → Type 0
IsUntaken c p left = (q a : ℕ) → p ≤ q → a < length c.book.accounts → (account_on_logs c.book a).log ≡ Some q → get_or left a 0 ≡ get_or c.balances a 0

abbrev pub AreTaken : CompactState → ℕ → List ℕ → Type 0
AreTaken c p left =
    (q a : ℕ) → q < p → a < length c.book.accounts → (account_on_logs c.book a).log ≡ Some q
    → get_or left a 0 + sum_by (credit_to a) (backlog_of c.backlogs q).credits ≡ get_or c.balances a 0

-- where one has less, the balances aren't split
pub unsplit : (c : CompactState) (p : ℕ) (left : List ℕ) → HasBacklogs c → p < c.book.logs → IsUntaken c p left
    → ¬ All (λ x. sum_by (credit_to x.account) (backlog_of c.backlogs p).credits ≤ get_or left x.account 0) (backlog_of c.backlogs p).credits → IsSplit c → ⊥
unsplit c p left backlogs known untaken short split = short (λ k d w.
    let x : Credit = get_or (backlog_of c.backlogs p).credits k d in
    let is : IsCreditOf c.book p x = (backlogs p known).credits k d w in
    omega (arith, split p x.account known is.account is.owner, untaken p x.account (omega arith) is.account is.owner))

alone : (q p : ℕ) → Some q ≡ Some p → q ≡ p
alone q p e = cc

-- no account of another log has a credit there
other : (c : CompactState) (p q a : ℕ) → HasBacklogs c → p < c.book.logs → ¬ (q ≡ p) → (account_on_logs c.book a).log ≡ Some q → sum_by (credit_to a) (backlog_of c.backlogs p).credits ≡ 0
other c p q a backlogs known apart owner =
    no-credit_to a (backlog_of c.backlogs p).credits
    (λ k d w at. apart (alone q p (sym owner ∙ (ap (λ i. (account_on_logs c.book i).log) (sym at) ∙ ((backlogs p known).credits k d w).owner))))

pub taken_more : (c : CompactState) (p : ℕ) (left new : List ℕ) → HasBacklogs c → p < c.book.logs → AreTaken c p left → IsUntaken c p left
    → ((a : ℕ) → get_or new a 0 + sum_by (credit_to a) (backlog_of c.backlogs p).credits ≡ get_or left a 0) → AreTaken c (p + 1) new
taken_more c p left new backlogs known taken untaken moved q a within a_in owner =
    elim (cases_eq q p) as (λ _. get_or new a 0 + sum_by (credit_to a) (backlog_of c.backlogs q).credits ≡ get_or c.balances a 0) [
      | inl same ↦
          subst (λ i. get_or new a 0 + sum_by (credit_to a) (backlog_of c.backlogs i).credits ≡ get_or c.balances a 0) (sym same)
          (moved a ∙ untaken p a (omega arith) a_in (owner ∙ ap (λ i. Some i) same))
      | inr apart ↦ omega (arith, moved a, other c p q a backlogs known apart owner, taken q a (omega (arith, within, apart)) a_in owner)
    ]

pub untaken_less : (c : CompactState) (p : ℕ) (left new : List ℕ) → HasBacklogs c → p < c.book.logs → IsUntaken c p left
    → ((a : ℕ) → get_or new a 0 + sum_by (credit_to a) (backlog_of c.backlogs p).credits ≡ get_or left a 0) → IsUntaken c (p + 1) new
untaken_less c p left new backlogs known untaken moved q a after a_in owner =
    omega (arith, moved a, other c p q a backlogs known (λ same. absurd (omega (arith, after, same))) owner, untaken q a (omega (arith, after)) a_in owner)

-- then what is left is what is settled
pub split_of : (c : CompactState) (left : List ℕ) (t : Bool) → AreTaken c c.book.logs left
    → (IsTrue t ↔ ((p a : ℕ) → p < c.book.logs → a < length c.book.accounts → (account_on_logs c.book a).log ≡ Some p → get_or left a 0 ≡ get_or c.settled a 0)) → IsTrue t ↔ IsSplit c
split_of c left t taken settled = (
  λ e p a known a_in owner. omega (arith, settled.0 e p a known a_in owner, taken p a known a_in owner),
  λ split. settled.1 (λ p a known a_in owner. omega (arith, split p a known a_in owner, taken p a known a_in owner)),
)

-- the whole
pub compact_of : {E : Type 0} (c : CompactState) (r : Result Bool E) → IsSavedCore c.book c → IsLogBook c.book → sum c.balances ≡ total_on_logs c.book → HasBacklogs c
    → IfOk r (λ t. IsTrue t ↔ IsSplit c) → IfOk r (λ t. IsTrue t ↔ IsCompact c)
compact_of c (Ok t) is book total backlogs split = (
  λ e. record {
    book = book;
    counted = is.counted;
    told_counted = is.told_counted;
    sized = is.sized;
    settled_sized = is.settled_sized;
    balanced = is.balanced;
    total = total;
    backlogs = backlogs;
    split = split.0 e;
  },
  λ k. split.1 k.split,
)
compact_of c (Err e) is book total backlogs split = tt
