-- A pay-out to accounts of which some are too far, and the same with near ones in their places: a caller answers both the same.
use Rattle.std.proofs.Common.{◌≡◌, ℕ, ◌<◌, ◌≤◌, List, [], ◌∷◌, length, refl, sym, ap, subst, ◌∙◌, arith, min, Option, None, Some}
use Rattle.at_c.proofs.Prelude.{All-head, All-tail, AreTargetsOn, IsCallOn, TargetPair, Call, OwnCallerTerms, CallerAnswers, HandleAnswers, pairs_of, near_account, near_pairs_of, Held, Answer, Outcome, Target}

-- near targets that are there are the targets
near_pairs_of-there : (n : ℕ) (ts : List Target) → n ≤ 1024 → AreTargetsOn n (near_pairs_of ts) → near_pairs_of ts ≡ pairs_of ts
near_pairs_of-there n [] few there = refl
near_pairs_of-there n (t ∷ ts) few there =
    let on : TargetPair → Type 0 = λ p. p.0 < n in
    let here = All-head on (near_account t.account, t.amount) (near_pairs_of ts) there in
    let same : near_account t.account ≡ t.account = omega (arith, here, few) in
    let rest = near_pairs_of-there n ts few (All-tail on (near_account t.account, t.amount) (near_pairs_of ts) there) in
    ap (λ (a : ℕ). (a, t.amount) ∷ near_pairs_of ts) same ∙ ap (λ (ps : List TargetPair). (t.account, t.amount) ∷ ps) rest

-- and so they are where the targets are there
near_pairs_of-known : (n : ℕ) (ts : List Target) → n ≤ 1024 → AreTargetsOn n (pairs_of ts) → near_pairs_of ts ≡ pairs_of ts
near_pairs_of-known n [] few there = refl
near_pairs_of-known n (t ∷ ts) few there =
    let on : TargetPair → Type 0 = λ p. p.0 < n in
    let here = All-head on (t.account, t.amount) (pairs_of ts) there in
    let same : near_account t.account ≡ t.account = omega (arith, here, few) in
    let rest = near_pairs_of-known n ts few (All-tail on (t.account, t.amount) (pairs_of ts) there) in
    ap (λ (a : ℕ). (a, t.amount) ∷ near_pairs_of ts) same ∙ ap (λ (ps : List TargetPair). (t.account, t.amount) ∷ ps) rest

-- a caller's answer to a pay-out to near targets is that to the targets
CallerAnswers-near : (from : ℕ) (ts : List Target) (before after : OwnCallerTerms) (was now : Answer) (outcome : Outcome)
    → length before.shared.ledger.book.accounts ≤ 1024
    → CallerAnswers (Call.Pay from (near_pairs_of ts)) before after was now outcome
    → CallerAnswers (Call.Pay from (pairs_of ts)) before after was now outcome
CallerAnswers-near from ts before after was now Outcome.Done few told =
    subst (λ (ps : List TargetPair). CallerAnswers (Call.Pay from ps) before after was now Outcome.Done)
    (near_pairs_of-there (length before.shared.ledger.book.accounts) ts few told.0.1) told
CallerAnswers-near from ts before after was now Outcome.NoAccount few told = (
  λ on. told.0 (subst (λ (ps : List TargetPair). IsCallOn (length before.shared.ledger.book.accounts) (Call.Pay from ps))
      (sym (near_pairs_of-known (length before.shared.ledger.book.accounts) ts few on.1)) on),
  told.1,
  told.2,
)
CallerAnswers-near from ts before after was now Outcome.NoRoom few told =
    subst (λ (ps : List TargetPair). CallerAnswers (Call.Pay from ps) before after was now Outcome.NoRoom)
    (near_pairs_of-there (length before.shared.ledger.book.accounts) ts few told.0.1) told
CallerAnswers-near from ts before after was now Outcome.WrongHandle few told = absurd told
CallerAnswers-near from ts before after was now Outcome.InUse few told = absurd told
CallerAnswers-near from ts before after was now Outcome.NoMemory few told = absurd told
CallerAnswers-near from ts before after was now Outcome.BadBook few told = absurd told
CallerAnswers-near from ts before after was now Outcome.NoCaller few told = absurd told
CallerAnswers-near from ts before after was now Outcome.NoPayOut few told = absurd told
CallerAnswers-near from ts before after was now Outcome.CallersOut few told = absurd told
CallerAnswers-near from ts before after was now Outcome.NoProcess few told = absurd told
CallerAnswers-near from ts before after was now Outcome.NoNote few told = absurd told
CallerAnswers-near from ts before after was now Outcome.Busy few told = absurd told

-- and so is the answer of what a handle holds
pub HandleAnswers-near : (from : ℕ) (ts : List Target) (before after : Option Held) (was now : Answer) (outcome : Outcome)
    → ((c : OwnCallerTerms) → before ≡ Some (Held.Caller c) → length c.shared.ledger.book.accounts ≤ 1024)
    → HandleAnswers (Call.Pay from (near_pairs_of ts)) before after was now outcome
    → HandleAnswers (Call.Pay from (pairs_of ts)) before after was now outcome
HandleAnswers-near from ts None after was now outcome few told = told
HandleAnswers-near from ts (Some Held.Nothing) after was now outcome few told = told
HandleAnswers-near from ts (Some (Held.Ledger l)) after was now outcome few told = told
HandleAnswers-near from ts (Some (Held.Ending e)) after was now outcome few told = told
HandleAnswers-near from ts (Some (Held.Caller c)) after was now outcome few told =
    (told.0, told.1, CallerAnswers-near from ts c told.0 was now outcome (few c refl) told.2)
