-- What the files of `deliver` hold.
use Rattle.std.proofs.Common.{◌≡◌, ◌∙◌, ℕ, ◌+◌, ◌<◌, ◌≤◌, List, [], length, map, get_or, slice_set, All, refl, sym, ap, arith, inl, inr, get_or-set_same, get_or-set_other}
use Rattle.at_commands.proofs.Prelude.{cases_eq, get_or-map, length-map, Message, NamedBook, most_messages, file_records, deliveries_of-Delivers, counts_of-set, IsSpelled, SendsBytes, messages_given, AreSent, counts_of}
use Rattle.at_commands.proofs.Laws.SpelledLoaded.{Accepts-messages}
use Rattle.at_commands.specs.Delivering.{deliver_terms}
use Rattle.at_commands.specs.Commanding.{AreRead}

-- messages that message files spell can be delivered
pub AreSent-spelled : (b : NamedBook) (all : List (List Message)) → All (IsSpelled (SendsBytes b)) all → All (AreSent b.book) all
AreSent-spelled b all spelled k d below =
    let sends = (spelled k d below).2 in
    record { known = λ i m within. (sends.each i m within).known; few = sends.few }

pub few_each : (b : NamedBook) (all : List (List Message)) → All (IsSpelled (SendsBytes b)) all → All (λ messages. length messages ≤ most_messages) all
few_each b all spelled k d below = (spelled k d below).2.few

pub few_counted : (all : List (List Message)) (counts : List ℕ) → ((k : ℕ) → k < length all → length (get_or all k []) ≤ most_messages) → counts ≡ map length all
    → All (λ count. count ≤ most_messages) counts
few_counted all counts few are k d below =
    let within : k < length all = omega (arith, below, ap (λ (list : List ℕ). length list) are, length-map all (length {A = Message})) in
    let here : get_or counts k d ≡ length (get_or all k []) =
    ap (λ (list : List ℕ). get_or list k d) are ∙ get_or-map (length {A = Message}) all k [] d within in
    omega (arith, here, few k within)

-- what the files spell is read, the deliveries too
pub deliver_terms-read : AreRead messages_given SendsBytes deliver_terms
deliver_terms-read = record {
  accepts = Accepts-messages;
  read = λ files book words l bytes deliveries is spelled.
      let few : length (counts_of l) ≤ 16 =
      omega (arith, length-map l.files (length {A = Message}), is.files.count, is.book.spelled.book.begun.few_processes) in
      let each = few_counted l.files (counts_of l) (λ k within. (is.files.each k within).spelled.few) refl in
      rw (deliveries_of-Delivers (counts_of l) (file_records bytes) deliveries few each spelled) refl;
}

-- one more count is set
pub counted_next : (counts : List ℕ) (all : List (List Message)) (p count : ℕ) → p < length counts → count ≡ length (get_or all p [])
    → ((m : ℕ) → m < p → get_or counts m 0 ≡ length (get_or all m [])) → (m : ℕ) → m < p + 1 → get_or (slice_set counts p count) m 0 ≡ length (get_or all m [])
counted_next counts all p count within is set m below =
    elim (cases_eq m p) as (λ _. get_or (slice_set counts p count) m 0 ≡ length (get_or all m [])) [
      | inl same ↦ rw (same, get_or-set_same counts p count 0 within) is
      | inr other ↦ rw (get_or-set_other counts p m count 0 other) (set m (omega (arith, below, other)))
    ]

-- all counts are set
pub counted_all : (counts : List ℕ) (all : List (List Message)) → length counts ≡ length all → ((m : ℕ) → m < length all → get_or counts m 0 ≡ length (get_or all m []))
    → counts ≡ map length all
counted_all counts all sized set =
    let long = length-map all (length {A = Message}) in
    counts_of-set counts (map length all) (omega (arith, sized, long)) (λ m within.
    let inside : m < length all = omega (arith, within, long) in
    set m inside ∙ sym (get_or-map (length {A = Message}) all m [] 0 inside))
