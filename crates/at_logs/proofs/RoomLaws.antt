-- Backlogs with their room.
use Rattle.std.proofs.Common.{◌≡◌, ◌≢◌, ℕ, ◌+◌, ◌<◌, ◌≤◌, Bool, true, false, cond, eqb, List, [], ◌∷◌, ◌++◌, length, map, get_or, set, take, drop, sum_by, append_assoc, Some, Result, Ok, Err, refl, ap, sym, subst, ◌∙◌, inl, inr, arith, get_or-set_same, get_or-set_other}
use Rattle.std.proofs.Math.ListN.{get_or-map as plain-get_or-map}
use Rattle.at_logs.proofs.Prelude.{append-nil, cases_eq, eqb_tells, get_or_default, get_or_read, map-set, map-set_same, BacklogState, Credit, LogTerms, Message, OnErr, OnOk, RoomyBacklog, TargetPair, range_with_len, sum_by-cons, sum_by-drop_more, sum_by-map-range_with_len_more, take_more, account_on_logs, backlog_credited, backlog_of, credits_of, is_log, kept_of, no_backlog}
use Rattle.at_logs.proofs.CreditLaws.{credits_of-append, is_log-same}

abbrev pub no_roomy : RoomyBacklog
no_roomy = record { kept = no_backlog; room = 0 }

pub kept_of-set : (all : List RoomyBacklog) (i : ℕ) (new : RoomyBacklog) → kept_of (set all i new) ≡ set (kept_of all) i new.kept
kept_of-set all i new = map-set (λ (l : RoomyBacklog). l.kept) all i new

pub kept_of-same : (all : List RoomyBacklog) (i : ℕ) (new : RoomyBacklog) → new.kept ≡ (get_or all i no_roomy).kept → kept_of (set all i new) ≡ kept_of all
kept_of-same all i new same = map-set_same (λ (l : RoomyBacklog). l.kept) all i new no_roomy same

pub backlog_of-kept_of : (all : List RoomyBacklog) (p : ℕ) → backlog_of (kept_of all) p ≡ (get_or all p no_roomy).kept
backlog_of-kept_of all p = plain-get_or-map (λ (l : RoomyBacklog). l.kept) all p no_roomy

-- the backlog that is read at a position
pub kept_read : (all : List RoomyBacklog) (p : ℕ) (l : RoomyBacklog) → p < length all → l ≡ get_or all p l → l.kept ≡ backlog_of (kept_of all) p
kept_read all p l within here = ap (λ (l : RoomyBacklog). l.kept) (get_or_read all p l within here no_roomy) ∙ sym (backlog_of-kept_of all p)

pub kept_at : (all : List RoomyBacklog) (p : ℕ) (d : RoomyBacklog) → p < length all → (get_or all p d).kept ≡ backlog_of (kept_of all) p
kept_at all p d within = ap (λ (l : RoomyBacklog). l.kept) (get_or_default all p d no_roomy within) ∙ sym (backlog_of-kept_of all p)

-- one message more has room for its credits
pub room_step : (f : Message → ℕ) (xs : List Message) (i : ℕ) (m : Message) (start now next more : ℕ) → i < length xs → start ≤ now + sum_by f (drop i xs) → now + more ≤ next
    → more ≡ f (get_or xs i m) → start ≤ next + sum_by f (drop (i + 1) xs)
room_step f xs i m start now next more within so_far made is = omega (arith, so_far, made, is, sum_by-drop_more f xs i m within)

sum_by-map : (f : ℕ → ℕ) (xs : List ℕ) → sum_by (λ x. x) (map f xs) ≡ sum_by f xs
sum_by-map f [] = refl
sum_by-map f (x ∷ xs) = omega (arith, sum_by-cons (λ (n : ℕ). n) (f x) (map f xs), sum_by-cons f x xs, sum_by-map f xs)

-- and one log more
pub waiting_step : (f : ℕ → ℕ) (p now next more : ℕ) → sum_by f (range_with_len 0 p) ≤ now → now + more ≤ next → more ≡ f p → sum_by f (range_with_len 0 (p + 1)) ≤ next
waiting_step f p now next more so_far made is = omega (
  arith,
  so_far,
  made,
  is,
  sum_by-map f (range_with_len 0 (p + 1)),
  sum_by-map f (range_with_len 0 p),
  sum_by-map-range_with_len_more (λ (n : ℕ). n) f 0 p p (omega arith),
)

-- whether or not there was memory for more room
pub kept_either : {A E : Type 0} (r : Result A E) (old more new : RoomyBacklog) → more.kept ≡ old.kept → OnOk r (new ≡ more) → OnErr r (new ≡ old) → new.kept ≡ old.kept
kept_either (Ok x) old more new same ok err = ap (λ (l : RoomyBacklog). l.kept) ok ∙ same
kept_either (Err e) old more new same ok err = ap (λ (l : RoomyBacklog). l.kept) err

-- one credit, with the log that debits its account
one-credit : (b : LogTerms) (p log : ℕ) (x : Credit) (test : Bool) → is_log p (account_on_logs b x.account).log ≡ test
    → credits_of b p x.log x.number ((x.account, x.amount) ∷ []) ≡ cond test (x ∷ []) []
one-credit b p log x test is = ap (λ t. cond t (x ∷ []) []) is

pub kept_credit : (b : LogTerms) (all : List RoomyBacklog) (log : ℕ) (x : Credit) (new : RoomyBacklog) → log < length all → (account_on_logs b x.account).log ≡ Some log
    → new.kept ≡ record (get_or all log no_roomy).kept { credits = (get_or all log no_roomy).kept.credits ++ x ∷ [] }
    → (p : ℕ) → backlog_of (kept_of (set all log new)) p ≡ backlog_credited b p (backlog_of (kept_of all) p) x.log x.number ((x.account, x.amount) ∷ [])
kept_credit b all log x new within owner is p =
    elim (cases_eq p log) as (λ _. backlog_of (kept_of (set all log new)) p ≡ backlog_credited b p (backlog_of (kept_of all) p) x.log x.number ((x.account, x.amount) ∷ [])) [
      | inl same ↦
          subst (λ p. backlog_of (kept_of (set all log new)) p ≡ backlog_credited b p (backlog_of (kept_of all) p) x.log x.number ((x.account, x.amount) ∷ [])) (sym same)
          (backlog_of-kept_of (set all log new) log
          ∙ (ap (λ (l : RoomyBacklog). l.kept) (get_or-set_same all log new no_roomy within)
          ∙ (is
          ∙ (ap (λ (l : BacklogState). record { messages = l.messages; credits = l.credits ++ x ∷ []; settled_at = l.settled_at }) (sym (backlog_of-kept_of all log))
          ∙ ap (λ (l : List Credit). record { messages = (backlog_of (kept_of all) log).messages; credits = (backlog_of (kept_of all) log).credits ++ l; settled_at = (backlog_of (kept_of all) log).settled_at })
          (sym (one-credit b log log x true (is_log-same (account_on_logs b x.account).log log owner)))))))
      | inr apart ↦
          backlog_of-kept_of (set all log new) p
          ∙ (ap (λ (l : RoomyBacklog). l.kept) (get_or-set_other all log p new no_roomy apart)
          ∙ (sym (backlog_of-kept_of all p)
          ∙ ap (λ (l : List Credit). record { messages = (backlog_of (kept_of all) p).messages; credits = l; settled_at = (backlog_of (kept_of all) p).settled_at })
          (sym (ap (λ (l : List Credit). (backlog_of (kept_of all) p).credits ++ l) (one-credit b p log x false (is_other p apart)) ∙ append-nil (backlog_of (kept_of all) p).credits))))
    ] where
      is_other : (p : ℕ) → p ≢ log → is_log p (account_on_logs b x.account).log ≡ false
      is_other p apart = ap (is_log p) owner ∙ elim (eqb_tells log p) as (λ _. eqb log p ≡ false) [
        | inl t ↦ absurd (apart (sym t.1))
        | inr t ↦ t.0
      ]

-- one target more
pub credited-more : (b : LogTerms) (p : ℕ) (l between after : BacklogState) (log number : ℕ) (targets : List TargetPair) (i : ℕ) (t d : TargetPair) → i < length targets → t ≡ get_or targets i d
    → between ≡ backlog_credited b p l log number (take i targets) → after ≡ backlog_credited b p between log number (t ∷ [])
    → after ≡ backlog_credited b p l log number (take (i + 1) targets)
credited-more b p l between after log number targets i t d within is first next =
    next
    ∙ (ap (λ (x : BacklogState). backlog_credited b p x log number (t ∷ [])) first
    ∙ ap (λ (c : List Credit). record { messages = l.messages; credits = c; settled_at = l.settled_at })
    (append_assoc l.credits (credits_of b p log number (take i targets)) (credits_of b p log number (t ∷ []))
    ∙ ap (λ (c : List Credit). l.credits ++ c) (sym (credits_of-append b p log number (take i targets) (t ∷ []))
    ∙ ap (credits_of b p log number) (ap (λ (x : TargetPair). take i targets ++ x ∷ []) is ∙ sym (take_more targets i d within)))))
