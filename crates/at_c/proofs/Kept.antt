-- What the types of callers and of ledgers keep.
use Rattle.std.proofs.Common.{◌≡◌, append_assoc, append-nil, ℕ, ◌+◌, ◌<◌, ◌≤◌, suc, List, [], ◌∷◌, ◌++◌, length, map, sym, ap, subst, ◌∙◌, arith, length-append, replicate, All, inl, inr, ◌-◌}
use Rattle.at_c.proofs.Prelude.{get_or-append, get_or-append_right, get_or-append_seam, cases_lt, get_or-replicate, length-replicate, map-append, All-append, All-nil, All-push, All-replicate, BoardTerms, IsCallOn, Call, calls_of, Receipt, stands-CallMade, CallMade, AreAccountedFor, IsAccountedFor, AreNewPasses, IsNewPass, IsPassOf, PassTerms, Stands, past_call, past_receipts-more, PastCall, OwnCallerTerms, HasSeenBalances, IsCaller, IsOpened, IsStillOpen, OpenedTerms, LearnsNote, SharedTerms, Outcome}
use Rattle.std.specs.Prelude.{slice_index_or}
use Rattle.at_c.specs.Given.{AreReceipts}

-- a caller by its parts
abbrev pub caller_of : SharedTerms → PassTerms → List Receipt → ℕ → OwnCallerTerms
caller_of shared pass receipts room = record { shared = shared; pass = pass; receipts = receipts; room = room }

process-CallMade : (b : _) (before after : PassTerms) (call : Call) (r : Receipt) → CallMade b before after call r → after.knows.first ≡ before.knows.first
process-CallMade b before after (Call.Transfer from to amount) r made = made.process_is
process-CallMade b before after (Call.Read account) r made = made.process_is
process-CallMade b before after (Call.Pay from targets) r made = made.process_is

call-CallMade : (b : _) (before after : PassTerms) (call : Call) (r : Receipt) → CallMade b before after call r → r.call ≡ call
call-CallMade b before after (Call.Transfer from to amount) r made = made.call_is
call-CallMade b before after (Call.Read account) r made = made.call_is
call-CallMade b before after (Call.Pay from targets) r made = made.call_is

-- one more receipt, of a call on these accounts
known-push : (accounts : ℕ) (earlier : List Receipt) (r : Receipt) → All (IsCallOn accounts) (calls_of earlier) → IsCallOn accounts r.call
    → All (IsCallOn accounts) (calls_of (earlier ++ r ∷ []))
known-push accounts earlier r known more =
    subst (λ (calls : List Call). All (IsCallOn accounts) calls) (sym (map-append (λ (x : Receipt). x.call) earlier (r ∷ [])))
    (All-push (IsCallOn accounts) (calls_of earlier) r.call known more)

-- one more call keeps a caller
pub IsCaller-called : (shared held : SharedTerms) (before after : PassTerms) (earlier receipts : List Receipt) (call : Call) (r : Receipt) (room capacity : ℕ)
    → IsCaller (caller_of shared before earlier room) → held ≡ shared → CallMade held.ledger.book before after call r
    → IsPassOf after held.ledger → after.past ≡ before.past ++ past_call before after r ∷ [] → length earlier < room → receipts ≡ earlier ++ r ∷ []
    → capacity ≡ room → IsCallOn (length shared.ledger.book.accounts) call → IsCaller (caller_of shared after receipts capacity)
IsCaller-called shared held before after earlier receipts call r room capacity kept same made of calls free more fits on =
    let count : length receipts ≡ length earlier + 1 = ap length more ∙ length-append earlier (r ∷ []) in
    let accounts = length shared.ledger.book.accounts in
    record {
      account = record {
        of_ledger = subst (λ (s : SharedTerms). IsPassOf after s.ledger) same of;
        stands = subst (λ (list : List Receipt). Stands after list) (sym more)
            (stands-CallMade held.ledger.book before after call r made earlier kept.account.stands);
        past = past_receipts-more before after r earlier calls kept.account.past ∙ sym more;
        are = record {
          few = omega (arith, count, free, kept.few);
          known = subst (λ (list : List Receipt). All (IsCallOn accounts) (calls_of list)) (sym more)
              (known-push accounts earlier r kept.account.are.known
              (subst (λ (x : Call). IsCallOn accounts x) (sym (call-CallMade held.ledger.book before after call r made)) on));
        };
      };
      process = subst (λ n. n < shared.ledger.book.processes) (sym (process-CallMade held.ledger.book before after call r made)) kept.process;
      within = omega (arith, count, free, fits);
      few = omega (arith, fits, kept.few);
    }

-- a ledger by its parts
abbrev pub opened_of : SharedTerms → ℕ → List PassTerms → List PassTerms → List (List Receipt) → ℕ → ℕ → OpenedTerms
opened_of shared given waiting passes receipts passes_room receipts_room = record {
  shared = shared;
  handed = given;
  waiting = waiting;
  passes = passes;
  receipts = receipts;
  passes_room = passes_room;
  receipts_room = receipts_room;
}

-- handing out the first of those that wait keeps a ledger
pub IsOpened-handed : (shared : SharedTerms) (given : ℕ) (waiting rest passes : List PassTerms) (receipts : List (List Receipt)) (m n : ℕ) (pass : PassTerms)
    → IsOpened (opened_of shared given waiting passes receipts m n) → waiting ≡ pass ∷ rest
    → IsOpened (opened_of shared (given + 1) rest passes receipts m n)
IsOpened-handed shared given waiting rest passes receipts m n pass kept first = record {
  count = omega (arith, kept.count, ap length first);
  each = λ i d within.
      let at : slice_index_or waiting (suc i) d ≡ slice_index_or rest i d = ap (λ (xs : List PassTerms). slice_index_or xs (suc i) d) first in
      let number : given + suc i ≡ given + 1 + i = omega arith in
      let more : suc i < length waiting = omega (arith, ap length first, within) in
      subst (λ k. IsNewPass shared.ledger k (slice_index_or rest i d)) number
      (subst (λ q. IsNewPass shared.ledger (given + suc i) q) at (kept.each (suc i) d more));
  within = omega (arith, kept.within);
  even = kept.even;
  back = kept.back;
  are = kept.are;
  passes_fit = kept.passes_fit;
  receipts_fit = kept.receipts_fit;
}

-- a pass that hasn't changed keeps it
unchanged : (shared : SharedTerms) (before after : PassTerms) (receipts : List Receipt) (room : ℕ) → IsCaller (caller_of shared before receipts room)
    → after ≡ before → IsCaller (caller_of shared after receipts room)
unchanged shared before after receipts room kept same = subst (λ (p : PassTerms). IsCaller (caller_of shared p receipts room)) (sym same) kept

-- one more pass that came back stands behind the others
back-push : (shared : SharedTerms) (passes : List PassTerms) (receipts : List (List Receipt)) (pass : PassTerms) (list : List Receipt)
    → length receipts ≡ length passes
    → ((p : ℕ) (d : PassTerms) → p < length passes → IsAccountedFor shared.ledger p (slice_index_or passes p d) (slice_index_or receipts p []))
    → IsAccountedFor shared.ledger (length passes) pass list → (p : ℕ) (d : PassTerms) → p < length passes + 1
    → IsAccountedFor shared.ledger p (slice_index_or (passes ++ pass ∷ []) p d) (slice_index_or (receipts ++ list ∷ []) p [])
back-push shared passes receipts pass list even back next p d inside =
    elim (cases_lt p (length passes)) as (λ _. IsAccountedFor shared.ledger p (slice_index_or (passes ++ pass ∷ []) p d) (slice_index_or (receipts ++ list ∷ []) p [])) [
      | inl below ↦
          rw (get_or-append passes (pass ∷ []) d p below)
          (rw (get_or-append receipts (list ∷ []) [] p (omega (arith, even, below))) (back p d below))
      | inr above ↦
          let last : length passes ≡ p = omega (arith, above, inside) in
          subst (λ n. IsAccountedFor shared.ledger n (slice_index_or (passes ++ pass ∷ []) n d) (slice_index_or (receipts ++ list ∷ []) n [])) last
          (subst (λ (x : PassTerms). IsAccountedFor shared.ledger (length passes) x (slice_index_or (receipts ++ list ∷ []) (length passes) []))
          (sym (get_or-append_seam passes pass [] d))
          (subst (λ (x : List Receipt). IsAccountedFor shared.ledger (length passes) pass x)
          (sym (ap (λ n. slice_index_or (receipts ++ list ∷ []) n []) (sym even) ∙ get_or-append_seam receipts list [] [])) next))
    ]

-- what a caller has taken in keeps it
pub IsCaller-learned : (shared held : SharedTerms) (from : ℕ) (before after : PassTerms) (receipts : List Receipt) (room : ℕ) (outcome : Outcome)
    → IsCaller (caller_of shared before receipts room) → held ≡ shared → LearnsNote held.ledger from before after outcome
    → IsCaller (caller_of shared after receipts room)
IsCaller-learned shared held from before after receipts room Outcome.Done kept same learns =
    let learned = learns.1.learned in
    record {
      account = record {
        of_ledger = subst (λ (s : SharedTerms). IsPassOf after s.ledger) same learned.of_ledger;
        stands = learned.stands receipts kept.account.stands;
        past = ap (λ (calls : List PastCall). map (λ (c : PastCall). c.receipt) calls) learned.past_is ∙ kept.account.past;
        are = kept.account.are;
      };
      process = subst (λ n. n < shared.ledger.book.processes) (sym learned.process_is) kept.process;
      within = kept.within;
      few = kept.few;
    }
IsCaller-learned shared held from before after receipts room Outcome.NoProcess kept same learns = unchanged shared before after receipts room kept learns.1
IsCaller-learned shared held from before after receipts room Outcome.NoNote kept same learns = unchanged shared before after receipts room kept learns.1
IsCaller-learned shared held from before after receipts room Outcome.Busy kept same learns = unchanged shared before after receipts room kept learns.1
IsCaller-learned shared held from before after receipts room Outcome.WrongHandle kept same learns = absurd learns
IsCaller-learned shared held from before after receipts room Outcome.InUse kept same learns = absurd learns
IsCaller-learned shared held from before after receipts room Outcome.NoMemory kept same learns = absurd learns
IsCaller-learned shared held from before after receipts room Outcome.BadBook kept same learns = absurd learns
IsCaller-learned shared held from before after receipts room Outcome.NoCaller kept same learns = absurd learns
IsCaller-learned shared held from before after receipts room Outcome.NoAccount kept same learns = absurd learns
IsCaller-learned shared held from before after receipts room Outcome.NoRoom kept same learns = absurd learns
IsCaller-learned shared held from before after receipts room Outcome.NoPayOut kept same learns = absurd learns
IsCaller-learned shared held from before after receipts room Outcome.CallersOut kept same learns = absurd learns

-- so does what it has looked at
pub IsCaller-looked : (shared held : SharedTerms) (before after : PassTerms) (balances : List ℕ) (receipts : List Receipt) (room : ℕ)
    → IsCaller (caller_of shared before receipts room) → held ≡ shared → HasSeenBalances held.ledger.book before after balances
    → IsPassOf after held.ledger → after.past ≡ before.past → IsCaller (caller_of shared after receipts room)
IsCaller-looked shared held before after balances receipts room kept same seen of past = record {
  account = record {
    of_ledger = subst (λ (s : SharedTerms). IsPassOf after s.ledger) same of;
    stands = seen.stands receipts kept.account.stands;
    past = ap (λ (calls : List PastCall). map (λ (c : PastCall). c.receipt) calls) past ∙ kept.account.past;
    are = kept.account.are;
  };
  process = subst (λ n. n < shared.ledger.book.processes) (sym seen.process_is) kept.process;
  within = kept.within;
  few = kept.few;
}

-- the next pass that comes back keeps a ledger
pub IsOpened-back : (shared : SharedTerms) (given : ℕ) (waiting passes passes_now : List PassTerms) (receipts receipts_now : List (List Receipt))
    (m n m_now n_now : ℕ) (pass : PassTerms) (list : List Receipt)
    → IsOpened (opened_of shared given waiting passes receipts m n) → length passes < given → IsAccountedFor shared.ledger (length passes) pass list
    → AreReceipts (length shared.ledger.book.accounts) list → passes_now ≡ passes ++ pass ∷ [] → receipts_now ≡ receipts ++ list ∷ [] → m_now ≡ m → n_now ≡ n
    → IsOpened (opened_of shared given waiting passes_now receipts_now m_now n_now)
IsOpened-back shared given waiting passes passes_now receipts receipts_now m n m_now n_now pass list kept more back are ps rs ms ns =
    let passes_count : length passes_now ≡ length passes + 1 = ap length ps ∙ length-append passes (pass ∷ []) in
    let receipts_count : length receipts_now ≡ length receipts + 1 = ap length rs ∙ length-append receipts (list ∷ []) in
    record {
      count = kept.count;
      each = kept.each;
      within = omega (arith, passes_count, more);
      even = omega (arith, passes_count, receipts_count, kept.even);
      back = λ p d inside.
          subst (λ (ps : List PassTerms). IsAccountedFor shared.ledger p (slice_index_or ps p d) (slice_index_or receipts_now p [])) (sym ps)
          (subst (λ (rs : List (List Receipt)). IsAccountedFor shared.ledger p (slice_index_or (passes ++ pass ∷ []) p d) (slice_index_or rs p [])) (sym rs)
          (back-push shared passes receipts pass list kept.even kept.back back p d (omega (arith, passes_count, inside))));
      are = subst (All (AreReceipts (length shared.ledger.book.accounts))) (sym rs)
          (All-push (AreReceipts (length shared.ledger.book.accounts)) receipts list kept.are are);
      passes_fit = omega (arith, ms, kept.passes_fit);
      receipts_fit = omega (arith, ns, kept.receipts_fit);
    }

-- a new ledger, of which no caller was handed out
pub IsOpened-new : (shared : SharedTerms) (ledger : BoardTerms) (waiting passes : List PassTerms) (receipts : List (List Receipt)) (m n : ℕ)
    → shared.ledger ≡ ledger → AreNewPasses ledger waiting → passes ≡ [] → receipts ≡ [] → ledger.book.processes ≤ m → ledger.book.processes ≤ n
    → IsOpened (opened_of shared 0 waiting passes receipts m n)
IsOpened-new shared ledger waiting passes receipts m n same new none empty ms ns = record {
  count = omega (arith, new.count, ap (λ (l : BoardTerms). l.book.processes) same);
  each = λ i d below.
      let first : i ≡ 0 + i = omega arith in
      subst (λ k. IsNewPass shared.ledger k (slice_index_or waiting i d)) first
      (subst (λ (l : BoardTerms). IsNewPass l i (slice_index_or waiting i d)) (sym same) (new.each i d (omega (arith, new.count, below))));
  within = omega (arith, ap length none);
  even = ap length empty ∙ sym (ap length none);
  back = λ p d below. absurd (omega (arith, below, ap length none));
  are = subst (All (AreReceipts (length shared.ledger.book.accounts))) (sym empty) (All-nil (AreReceipts (length shared.ledger.book.accounts)));
  passes_fit = omega (arith, ms, ap (λ (l : BoardTerms). l.book.processes) same);
  receipts_fit = omega (arith, ns, ap (λ (l : BoardTerms). l.book.processes) same);
}

-- the passes that came back, and behind them those that were never handed out, are all passes of the ledger
module _ (shared : SharedTerms) (given : ℕ) (waiting passes : List PassTerms) (receipts : List (List Receipt)) (m n : ℕ)
    (kept : IsOpened (opened_of shared given waiting passes receipts m n)) (all : length passes ≡ given) where
  abbrev unused : List (List Receipt)
  unused = replicate (length waiting) []

  unused-none : (p : ℕ) → length receipts ≤ p → p < length receipts + length waiting → slice_index_or (receipts ++ unused) p [] ≡ []
  unused-none p above below =
      get_or-append_right receipts unused p [] above ∙ get_or-replicate (length waiting) (p - length receipts) [] [] (omega (arith, above, below))

  each-gathered : (p : ℕ) (d : PassTerms) → p < shared.ledger.book.processes
      → IsAccountedFor shared.ledger p (slice_index_or (passes ++ waiting) p d) (slice_index_or (receipts ++ unused) p [])
  each-gathered p d below =
      elim (cases_lt p (length passes)) as (λ _. IsAccountedFor shared.ledger p (slice_index_or (passes ++ waiting) p d) (slice_index_or (receipts ++ unused) p [])) [
        | inl inside ↦
            rw (get_or-append passes waiting d p inside)
            (rw (get_or-append receipts unused [] p (omega (arith, kept.even, inside))) (kept.back p d inside))
        | inr above ↦
            let i = p - length passes in
            let at : given + i ≡ p = omega (arith, all, above) in
            let new : IsNewPass shared.ledger p (slice_index_or waiting i d) =
            subst (λ q. IsNewPass shared.ledger q (slice_index_or waiting i d)) at (kept.each i d (omega (arith, kept.count, at, below))) in
            subst (λ (x : PassTerms). IsAccountedFor shared.ledger p x (slice_index_or (receipts ++ unused) p []))
            (sym (get_or-append_right passes waiting p d above))
            (subst (λ (x : List Receipt). IsAccountedFor shared.ledger p (slice_index_or waiting i d) x)
            (sym (unused-none p (omega (arith, kept.even, above)) (omega (arith, kept.even, kept.count, all, below))))
            (record { of_ledger = new.of_ledger; process_is = new.process_is; stands = new.stands; made = ap (λ (calls : List PastCall). map (λ (c : PastCall). c.receipt) calls) new.past_none }))
      ]

  pub AreAccountedFor-gathered : AreAccountedFor shared.ledger (passes ++ waiting) (receipts ++ unused)
  AreAccountedFor-gathered = let none : List Receipt = [] in record {
    passes_count = omega (arith, length-append passes waiting, kept.count, all);
    receipts_count = omega (arith, length-append receipts unused, length-replicate (length waiting) none, kept.even, kept.count, all);
    each = each-gathered;
  }

  pub AreReceipts-gathered : All (AreReceipts (length shared.ledger.book.accounts)) (receipts ++ unused)
  AreReceipts-gathered =
      All-append (AreReceipts (length shared.ledger.book.accounts)) receipts unused kept.are
      (All-replicate (AreReceipts (length shared.ledger.book.accounts)) (length waiting) []
      (record { few = omega arith; known = All-nil (IsCallOn (length shared.ledger.book.accounts)) }))

-- a ledger is still as it was
pub IsStillOpen-none : (o : OpenedTerms) → IsStillOpen o o
IsStillOpen-none o = record {
  passes = [];
  receipts = [];
  same = λ i. record o { passes = sym (append-nil o.passes) i; receipts = sym (append-nil o.receipts) i };
}

-- one more pass came back
pub IsStillOpen-back : (shared : SharedTerms) (handed : ℕ) (waiting passes passes_now : List PassTerms) (receipts receipts_now : List (List Receipt))
    (m n m_now n_now : ℕ) (pass : PassTerms) (list : List Receipt) → passes_now ≡ passes ++ pass ∷ [] → receipts_now ≡ receipts ++ list ∷ []
    → m_now ≡ m → n_now ≡ n
    → IsStillOpen (opened_of shared handed waiting passes receipts m n) (opened_of shared handed waiting passes_now receipts_now m_now n_now)
IsStillOpen-back shared handed waiting passes passes_now receipts receipts_now m n m_now n_now pass list ps rs ms ns = record {
  passes = pass ∷ [];
  receipts = list ∷ [];
  same = λ i. opened_of shared handed waiting (ps i) (rs i) (ms i) (ns i);
}

-- and then others
pub IsStillOpen-more : (a b c : OpenedTerms) → IsStillOpen a b → IsStillOpen b c → IsStillOpen a c
IsStillOpen-more a b c one two = record {
  passes = one.passes ++ two.passes;
  receipts = one.receipts ++ two.receipts;
  same =
      two.same ∙ ap (λ (o : OpenedTerms). record o { passes = o.passes ++ two.passes; receipts = o.receipts ++ two.receipts }) one.same
      ∙ (λ i. record a {
        passes = append_assoc a.passes one.passes two.passes i;
        receipts = append_assoc a.receipts one.receipts two.receipts i;
      });
}
