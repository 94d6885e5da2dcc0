-- One more call with a voice: what its type keeps, and what the two payments leave in what it has seen.
use Rattle.std.proofs.Common.{◌≡◌, ℕ, ◌+◌, ◌*◌, ◌^◌, ◌<◌, true, false, cond, List, [], ◌∷◌, ◌++◌, length, sym, ap, subst, ◌∙◌, arith, inl, inr, length-append}
use Rattle.at_agree.proofs.Prelude.{AccountTerms, is_shared, is_single, slots_of, BookTerms, account_of, Transfer, Short, IsHistory, owns_of, BoardTerms, IsPlaced, asks_in, Receipt, PaysAlone, IsPassOf, PassTerms, Stands, past_call, past_receipts-more, IsDecidedByBalance, payment_steps, shared_steps, single_steps, IsCouncil, IsSize, council_book, shared_account, size_of, spent_account, value_account, HasShareDecided, HasProposed, share_of, IsVoice, IsVoiceOf, VoiceTerms, process_of}
use Rattle.at_agree.proofs.CouncilBook.{account_of-own, is_shared-shared, length-accounts, slots_of-shared}
use Rattle.at_agree.proofs.HistoryShown.{IsCouncilList-IsHistory}
use Rattle.at_agree.proofs.PlacedCalls.{HasShareDecided-IsAtRound, HasProposed-IsAtOwn, share_placed, paid, refused, value_decided, value_placed}
use Rattle.at_agree.proofs.VotedReceipts.{short-is_at_own}

-- the voice's process is one of the council's
pub known_in : (council : BoardTerms) (voice : VoiceTerms) (k p : ℕ) → k ≡ size_of council → p ≡ process_of voice
    → IsVoiceOf voice council → IsVoice voice → p < k
known_in council voice k p size_is process_is of_council kept =
    omega (arith, size_is, process_is, kept.known, ap (λ (b : BookTerms). b.processes) of_council.book)

-- the numbers of a council's accounts
pub in_book : (council : BoardTerms) (k account : ℕ) → IsCouncil council → k ≡ size_of council → account < 2 * k + 2
    → account < length council.book.accounts
in_book council k account is size_is below =
    omega (arith, below, size_is, ap (λ (b : BookTerms). length b.accounts) is.book_is, length-accounts (size_of council))

-- what the type of a voice keeps, when one more call is made
pub IsVoice-made : (council : BoardTerms) (before after : PassTerms) (earlier receipts : List Receipt) (r : Receipt)
    → IsPassOf before council → IsPassOf after council → IsVoice (record { pass = before; receipts = earlier }) → length earlier < 4
    → ((list : List Receipt) → Stands before list → Stands after (list ++ r ∷ [])) → after.past ≡ before.past ++ past_call before after r ∷ []
    → after.knows.first ≡ before.knows.first → receipts ≡ earlier ++ r ∷ []
    → IsVoice (record { pass = after; receipts = receipts })
IsVoice-made council before after earlier receipts r was is kept more told past process made =
    let count : length receipts ≡ length earlier + 1 = omega (arith, ap length made, length-append earlier (r ∷ [])) in
    let processes : ℕ → BookTerms → Type 0 = λ p b. p < b.processes in
    record {
      stands = subst (λ list. Stands after list) (sym made) (told earlier kept.stands);
      past = past_receipts-more before after r earlier past kept.past ∙ sym made;
      known = subst (processes after.knows.first) (was.book ∙ sym is.book) (omega (arith, kept.known, process));
      few = omega (arith, count, more);
    }

-- the two payments of process p of k, in what the voice has seen after them
module _ (council : BoardTerms) (before after : PassTerms) (k p : ℕ) (r : Receipt) where
  -- the payment of the value has left its own record
  pub HasProposed-paid : (value : ℕ) → IsCouncil council → k ≡ size_of council → p < k → value < 2 ^ 32
      → p ≡ before.knows.first → after.knows.first ≡ before.knows.first
      → r.call ≡ Transfer p (value_account k p) value
      → IsPlaced council.book before.knows.first after.knows.seen [] r → Stands after (r ∷ [])
      → (IsDecidedByBalance r → is_single (account_of council.book p) ≡ true
      → PaysAlone council.book before.knows after.knows p ((value_account k p, value) ∷ []) (Transfer p (value_account k p) value) r)
      → HasProposed k after.knows.seen p value
  HasProposed-paid value is size_is known small process_is same_process call_is placed told alone =
      let list = after.knows.seen in
      let size : IsSize k = subst IsSize (sym size_is) is.size in
      let book_is : council.book ≡ council_book k = is.book_is ∙ ap council_book (sym size_is) in
      let placed_so : IsPlaced (council_book k) p list [] r =
      subst (λ (b : BookTerms). IsPlaced b p list [] r) book_is (subst (λ q. IsPlaced council.book q list [] r) (sym process_is) placed) in
      let single : is_single (account_of council.book p) ≡ true =
      ap (λ (b : BookTerms). is_single (account_of b p)) book_is ∙ ap is_single (account_of-own k p known) in
      let history : IsHistory council.book list =
      elim (value_decided k p value list r known call_is placed_so) as (λ _. IsHistory council.book list) [
        | paid reply at ↦ ((alone (inl reply) single).done reply).published.history
        | refused balance reply at less ↦ ((alone (inr reply) single).short reply).loads.history
      ] in
      let shown = IsCouncilList-IsHistory k list size (subst (λ (b : BookTerms). IsHistory b list) book_is history) in
      let unpaid : r.reply ≡ Short → owns_of p list ≡ 0 =
      λ (e : r.reply ≡ Short).
      omega (
        arith,
        ap (λ q. owns_of q list) (process_is ∙ sym same_process),
        told.owns,
        ap (λ t. cond {A = ℕ} t 1 0) (short-is_at_own k p list [] r e placed_so),
      ) in
      HasProposed-IsAtOwn k p value list [] r (value_placed k p value list r known small shown call_is unpaid placed_so)

  -- the request has left a round
  pub HasShareDecided-asked : (earlier : List Receipt) → IsCouncil council → k ≡ size_of council → p < k → p ≡ before.knows.first
      → r.call ≡ Transfer (shared_account k) (spent_account k) (share_of k p) → asks_in (shared_account k) earlier ≡ 0
      → IsPlaced council.book before.knows.first after.knows.seen earlier r → HasShareDecided k after.knows.seen p
  HasShareDecided-asked earlier is size_is known process_is call_is unasked placed =
      let list = after.knows.seen in
      let book_is : council.book ≡ council_book k = is.book_is ∙ ap council_book (sym size_is) in
      let placed_so : IsPlaced (council_book k) p list earlier r =
      subst (λ (b : BookTerms). IsPlaced b p list earlier r) book_is (subst (λ q. IsPlaced council.book q list earlier r) (sym process_is) placed) in
      HasShareDecided-IsAtRound k p list earlier r known
      (share_placed k p list earlier r known (subst IsSize (sym size_is) is.size) call_is unasked placed_so)

-- the bounds of the two payments
pub payment_steps-own : (council : BoardTerms) (k p : ℕ) → IsCouncil council → k ≡ size_of council → p < k
    → payment_steps council.book p ≡ single_steps k
payment_steps-own council k p is size_is known =
    ap (λ (b : BookTerms). payment_steps b p) (is.book_is ∙ ap council_book (sym size_is))
    ∙ ap (λ (t : AccountTerms). cond (is_shared t) (shared_steps k (slots_of t)) (single_steps k)) (account_of-own k p known)

pub payment_steps-shared : (council : BoardTerms) (k : ℕ) → IsCouncil council → k ≡ size_of council
    → payment_steps council.book (shared_account k) ≡ shared_steps k k
payment_steps-shared council k is size_is =
    let size : IsSize k = subst IsSize (sym size_is) is.size in
    let t = account_of (council_book k) (shared_account k) in
    ap (λ (b : BookTerms). payment_steps b (shared_account k)) (is.book_is ∙ ap council_book (sym size_is))
    ∙ (ap (λ s. cond s (shared_steps k (slots_of t)) (single_steps k)) (is_shared-shared k size.some)
    ∙ ap (shared_steps k) (slots_of-shared k size.some))

pub is_shared-own : (council : BoardTerms) (k p : ℕ) → IsCouncil council → k ≡ size_of council → p < k
    → is_shared (account_of council.book p) ≡ false
is_shared-own council k p is size_is known =
    ap (λ (b : BookTerms). is_shared (account_of b p)) (is.book_is ∙ ap council_book (sym size_is))
    ∙ ap is_shared (account_of-own k p known)

pub slots_of-council : (council : BoardTerms) (k : ℕ) → IsCouncil council → k ≡ size_of council
    → slots_of (account_of council.book (shared_account k)) ≡ k
slots_of-council council k is size_is =
    let size : IsSize k = subst IsSize (sym size_is) is.size in
    ap (λ (b : BookTerms). slots_of (account_of b (shared_account k))) (is.book_is ∙ ap council_book (sym size_is))
    ∙ slots_of-shared k size.some
