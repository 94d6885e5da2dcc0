-- Messages as far as they are kept, and none after them.
use Rattle.std.proofs.Common.{◌≡◌, ℕ, zero, suc, ◌+◌, ◌-◌, ◌<◌, ◌≤◌, [], ◌∷◌, ◌++◌, length, get_or, set, replicate, Option, None, IsSome, refl, ap, sym, ◌∙◌, inl, inr, arith, append_assoc, length-append, length-set}
use Rattle.at_broadcast.proofs.Prelude.{get_or-eq_default, cases_lt, get_or-append-add, get_or_append_left, length-replicate, set-append_left, Message, MESSAGES_MAX, MessageList, filled, message_at, no_messages}

-- a list that was filled with the default
pub get_or-replicated : {X : Type 0} (n i : ℕ) (x : X) → get_or (replicate n x) i x ≡ x
get_or-replicated zero i x = refl
get_or-replicated (suc n) zero x = refl
get_or-replicated (suc n) (suc i) x = get_or-replicated n i x

pub length-filled : (list : MessageList) → length list ≤ MESSAGES_MAX → length (filled list) ≡ MESSAGES_MAX
unfolding filled
length-filled list few =
    omega (
      arith,
      few,
      length-append list (replicate (MESSAGES_MAX - length list) None),
      length-replicate {A = Option Message} (MESSAGES_MAX - length list) None,
    )

pub message_at-filled : (list : MessageList) (number : ℕ) → message_at (filled list) number ≡ get_or list number None
unfolding filled
message_at-filled list number =
    elim (cases_lt number (length list)) as (λ _. message_at (list ++ replicate (MESSAGES_MAX - length list) None) number ≡ get_or list number None) [
      | inl inside ↦ get_or_append_left list (replicate (MESSAGES_MAX - length list) None) None number inside
      | inr past ↦
          let i : ℕ = number - length list in
          let split : length list + i ≡ number = omega arith in
          ap (λ k. get_or (list ++ replicate (MESSAGES_MAX - length list) None) k None) (sym split)
          ∙ (get_or-append-add list (replicate (MESSAGES_MAX - length list) None) i None
          ∙ (get_or-replicated (MESSAGES_MAX - length list) i None ∙ sym (get_or-eq_default list None past)))
    ]

-- one place more
pub filled-push : (list : MessageList) → length list < MESSAGES_MAX → filled (list ++ None ∷ []) ≡ filled list
unfolding filled
filled-push list few =
    let less : MESSAGES_MAX - length (list ++ None ∷ []) ≡ MESSAGES_MAX - (length list + 1) = omega (arith, length-append list (None ∷ [])) in
    let next : MESSAGES_MAX - length list ≡ suc (MESSAGES_MAX - (length list + 1)) = omega (arith, few) in
    ap (λ n. (list ++ None ∷ []) ++ replicate n None) less
    ∙ (append_assoc list (None ∷ []) (replicate (MESSAGES_MAX - (length list + 1)) None)
    ∙ ap (λ n. list ++ replicate n None) (sym next))

-- a message at a place that is kept
pub filled-set : (list : MessageList) (number : ℕ) (m : Option Message) → number < length list → filled (set list number m) ≡ set (filled list) number m
unfolding filled
filled-set list number m within =
    ap (λ n. set list number m ++ replicate (MESSAGES_MAX - n) None) (length-set list number m)
    ∙ sym (set-append_left list (replicate (MESSAGES_MAX - length list) None) number m within)

-- none is kept
pub filled-none : filled [] ≡ no_messages
unfolding filled no_messages
filled-none = let all : MESSAGES_MAX - 0 ≡ MESSAGES_MAX = omega arith in ap (λ n. replicate {A = Option Message} n None) all

-- a message that is there is in the list
pub within-there : (list : MessageList) (number : ℕ) → IsSome (message_at list number) → number < length list
within-there list number some =
    elim (cases_lt number (length list)) as (λ _. number < length list) [
      | inl inside ↦ inside
      | inr past ↦ let none : get_or list number None ≡ None = get_or-eq_default list None past in absurd cc
    ]
