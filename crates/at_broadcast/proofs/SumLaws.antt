-- Sums over the first messages of each sender.
use Rattle.std.proofs.Common.{◌≡◌, ◌≢◌, ℕ, ◌+◌, ◌<◌, ◌≤◌, List, [], length, get_or, set, take, Option, None, ap, sym, subst, ◌∙◌, inl, inr, add-one, arith, length-set, get_or-set_same, get_or-set_other}
use Rattle.at_broadcast.proofs.Prelude.{range_with_len, sum_by, cases_eq, take-set-le, Message, MessageList, list_of, message_of, sum_of_first, with_place, one_more_of}
use Rattle.at_broadcast.proofs.RangeLaws.{range-le, range-one, range-same, sum_by-take_le, sum_by-take_more}

-- the sum over the first messages of one sender
abbrev pub part : (Option Message → ℕ) → List MessageList → List ℕ → ℕ → ℕ
part weight messages counts p = sum_by weight (take (get_or counts p 0) (list_of messages p))

-- counts that agree
pub sum_of_first-same : (weight : Option Message → ℕ) (messages : List MessageList) (counts others : List ℕ)
    → ((p : ℕ) → p < length messages → part weight messages counts p ≡ part weight messages others p) → sum_of_first weight messages counts ≡ sum_of_first weight messages others
sum_of_first-same weight messages counts others same =
    range-same (part weight messages counts) (part weight messages others) 0 (length messages) (λ p low high. same p (omega arith))

-- larger counts
pub sum_of_first-le : (weight : Option Message → ℕ) (messages : List MessageList) (counts others : List ℕ) → weight None ≡ 0
    → ((p : ℕ) → p < length messages → get_or counts p 0 ≤ get_or others p 0) → sum_of_first weight messages counts ≤ sum_of_first weight messages others
sum_of_first-le weight messages counts others none less =
    range-le (part weight messages counts) (part weight messages others) 0 (length messages)
    (λ p low high. sum_by-take_le weight (list_of messages p) (get_or counts p 0) (get_or others p 0) none (less p (omega arith)))

-- one more message of one sender
pub sum_of_first-one_more_of : (weight : Option Message → ℕ) (messages : List MessageList) (counts : List ℕ) (p : ℕ) → weight None ≡ 0
    → p < length messages → p < length counts
    → sum_of_first weight messages (one_more_of counts p) ≡ sum_of_first weight messages counts + weight (message_of messages p (get_or counts p 0))
sum_of_first-one_more_of weight messages counts p none known counted =
    let c : ℕ = get_or counts p 0 in
    let same : get_or (one_more_of counts p) p 0 ≡ c + 1 = get_or-set_same counts p (c + 1) 0 counted in
    let here : part weight messages (one_more_of counts p) p ≡ part weight messages counts p + weight (message_of messages p c) =
    ap (λ k. sum_by weight (take k (list_of messages p))) (same ∙ add-one c) ∙ sum_by-take_more weight (list_of messages p) c none in
    range-one (part weight messages counts) (part weight messages (one_more_of counts p)) 0 (length messages) p (weight (message_of messages p c))
    (omega arith) (omega (arith, known)) here
    (λ q apart. ap (λ k. sum_by weight (take k (list_of messages q))) (get_or-set_other counts p q (c + 1) 0 apart))

-- the list of a sender after one more delivery
pub list_of-other : (messages : List MessageList) (p number q : ℕ) (o : Option Message) → q ≢ p → list_of (with_place messages p number o) q ≡ list_of messages q
list_of-other messages p number q o apart = get_or-set_other messages p q (set (list_of messages p) number o) [] apart

pub list_of-same : (messages : List MessageList) (p number : ℕ) (o : Option Message) → p < length messages
    → list_of (with_place messages p number o) p ≡ set (list_of messages p) number o
list_of-same messages p number o known = get_or-set_same messages p (set (list_of messages p) number o) [] known

-- what stands after the counted messages
pub sum_of_first-with_place : (weight : Option Message → ℕ) (messages : List MessageList) (counts : List ℕ) (p number : ℕ) (o : Option Message)
    → p < length messages → get_or counts p 0 ≤ number → sum_of_first weight (with_place messages p number o) counts ≡ sum_of_first weight messages counts
sum_of_first-with_place weight messages counts p number o known after =
    ap (λ n. sum_by (part weight (with_place messages p number o) counts) (range_with_len 0 n)) (length-set messages p (set (list_of messages p) number o))
    ∙ range-same (part weight (with_place messages p number o) counts) (part weight messages counts) 0 (length messages)
    (λ q low high. elim (cases_eq q p) as (λ _. part weight (with_place messages p number o) counts q ≡ part weight messages counts q) [
      | inl same ↦
          subst (λ (q : ℕ). part weight (with_place messages p number o) counts q ≡ part weight messages counts q) (sym same)
          (ap (λ (l : MessageList). sum_by weight (take (get_or counts p 0) l)) (list_of-same messages p number o known)
          ∙ ap (λ (l : MessageList). sum_by weight l) (take-set-le (get_or counts p 0) (list_of messages p) number o after))
      | inr apart ↦ ap (λ (l : MessageList). sum_by weight (take (get_or counts q 0) l)) (list_of-other messages p number q o apart)
    ])
