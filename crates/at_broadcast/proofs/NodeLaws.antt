-- What holds of every node.
use Rattle.std.proofs.Common.{◌≡◌, ℕ, ◌<◌, ◌≤◌, List, length, get_or, IsSome, ap, sym, subst, ◌∙◌, arith}
use Rattle.std.specs.Prelude.{is_some}
use Rattle.at_broadcast.proofs.Prelude.{le_prop, Bool-set, ℕ_set, ∥∥₁_elim, same_number_lists, LogTerms, Message, MessageList, message_of, AgreesWithAll, HasPrefixes, IsNode, IsSolvent, NodeState, ShowsBalances, IsClosed, IsOnlyClosed, IsValid, Reached, came, went}
use Rattle.at_broadcast.proofs.BalanceLaws.{balance_at-covers, balance_at-is}
use Rattle.at_broadcast.proofs.ReachedLaws.{IsCounted, IsCounted-Reached, below-Reached, length-Reached}

pub IsClosed-IsNode : (s : NodeState) → IsNode s → IsClosed s.book s.messages s.validated
IsClosed-IsNode s node = record { reached = node.steady.reached; done = node.done }

pub ShowsBalances-IsNode : (s : NodeState) → IsNode s → ShowsBalances s
ShowsBalances-IsNode s node a known = balance_at-is s.book s.messages s.validated a (get_or s.balances a 0) (node.steady.balance a known)

pub IsSolvent-IsNode : (s : NodeState) → IsNode s → IsSolvent s
IsSolvent-IsNode s node a known = balance_at-covers s.book s.messages s.validated a 0 (omega (arith, node.steady.balance a known))

pub HasPrefixes-IsNode : (s : NodeState) → IsNode s → HasPrefixes s
HasPrefixes-IsNode s node p number below =
    ∥∥₁_elim node.steady.reached (Bool-set _ _) (λ r. there (IsCounted-Reached s.book s.messages s.validated r p number below)) where
      there : IsCounted s.book s.messages p number → IsSome (message_of s.messages p number)
      there c = ap is_some c.delivered

-- counts that are reached are at most those of any node of the same messages
validated-below : (s t : NodeState) → IsNode s → IsNode t → s.book ≡ t.book → s.messages ≡ t.messages → (p : ℕ) → get_or s.validated p 0 ≤ get_or t.validated p 0
validated-below s t one two book messages p =
    ∥∥₁_elim one.steady.reached le_prop (λ r.
    below-Reached t.book t.messages s.validated t.validated
    (subst (λ (b : LogTerms). Reached b t.messages s.validated) book (subst (λ (l : List MessageList). Reached s.book l s.validated) messages r))
    two.steady.counted two.done p)

-- closed counts are at most any counts at which no next message is valid
closed-below : (b : LogTerms) (messages : List MessageList) (counts stuck : List ℕ) → IsClosed b messages counts → length stuck ≡ b.logs
    → ((p : ℕ) (m : Message) → ¬ IsValid b messages stuck p m) → (p : ℕ) → get_or counts p 0 ≤ get_or stuck p 0
closed-below b messages counts stuck closed sized done p =
    ∥∥₁_elim closed.reached le_prop (λ r. below-Reached b messages counts stuck r sized done p)

pub IsOnlyClosed-IsNode : (s : NodeState) → IsNode s → IsOnlyClosed s.book s.messages s.validated
IsOnlyClosed-IsNode s node others closed =
    let sized : length others ≡ s.book.logs = ∥∥₁_elim closed.reached (ℕ_set _ _) (λ r. length-Reached s.book s.messages others r) in
    same_number_lists others s.validated (omega (arith, sized, node.steady.counted)) (λ p within.
    omega (
      arith,
      closed-below s.book s.messages others s.validated closed node.steady.counted node.done p,
      closed-below s.book s.messages s.validated others (IsClosed-IsNode s node) sized closed.done p,
    ))

-- the same parts
pub same_state : (s t : NodeState) → s.book ≡ t.book → s.messages ≡ t.messages → s.validated ≡ t.validated → s.balances ≡ t.balances → s ≡ t
same_state s t book messages validated balances =
    ap (λ (b : LogTerms). record { book = b; messages = s.messages; validated = s.validated; balances = s.balances }) book
    ∙ (ap (λ (l : List MessageList). record { book = t.book; messages = l; validated = s.validated; balances = s.balances }) messages
    ∙ (ap (λ (l : List ℕ). record { book = t.book; messages = t.messages; validated = l; balances = s.balances }) validated
    ∙ ap (λ (l : List ℕ). record { book = t.book; messages = t.messages; validated = t.validated; balances = l }) balances))

pub AgreesWithAll-IsNode : (s : NodeState) → IsNode s → AgreesWithAll s
AgreesWithAll-IsNode s node other another book messages =
    let processes = ap (λ (b : LogTerms). b.logs) book in
    let accounts = ap (λ (b : LogTerms). length b.accounts) book in
    let validated : other.validated ≡ s.validated =
    same_number_lists other.validated s.validated (omega (arith, another.steady.counted, node.steady.counted, processes)) (λ p within.
    omega (arith, validated-below other s another node book messages p, validated-below s other node another (sym book) (sym messages) p)) in
    let balances : other.balances ≡ s.balances =
    same_number_lists other.balances s.balances (omega (arith, another.steady.balanced, node.steady.balanced, accounts)) (λ a within.
    let known : a < length other.book.accounts = omega (arith, within, another.steady.balanced) in
    omega (
      arith,
      another.steady.balance a known,
      node.steady.balance a (omega (arith, known, accounts)),
      ap (λ (b : LogTerms). came b other.messages other.validated a) book,
      ap (λ (l : List MessageList). came s.book l other.validated a) messages,
      ap (λ (l : List ℕ). came s.book s.messages l a) validated,
      ap (λ (l : List MessageList). went l other.validated a) messages,
      ap (λ (l : List ℕ). went s.messages l a) validated,
    )) in
    same_state other s book messages validated balances
