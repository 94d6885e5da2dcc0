-- What a node has read of a log is told by the bytes that stand there.
use Rattle.std.proofs.Common.{◌≡◌, ℕ, zero, suc, ◌+◌, ◌-◌, ◌^◌, ◌<◌, ◌≤◌, ◌⊎◌, List, [], ◌∷◌, ◌++◌, length, get_or, None, slice_get, refl, add-one, ap, sym, subst, ◌∙◌, inl, inr, arith, append_assoc}
use Rattle.at_logs.proofs.Prelude.{append-nil, cases_lt, length-append, slice_get-get_or, slice_get_past, ComesNext, EntryTerms, Message, MessageList, ReadingState, SpellsEntry, entry_book, Tail, list_of, message_at, message_of, message_of-listed, message_of-unlisted, messages_in_log, no_tail, sha256, tail_after, with_messages}
use Rattle.at_logs.proofs.EntryLaws.{same_entry}
use Rattle.at_logs.proofs.ReadingLaws.{length-messages_in_log}

-- an entry is taken at the next place of a log
pub record Took (o : ReadingState) (p : ℕ) (before : Tail) (bytes : List ℕ) (after : Tail) (new : List Message) : Type 0 where
  pub entry : EntryTerms
  pub spelled : SpellsEntry (entry_book o) p bytes entry
  pub hash : entry.before ≡ before.hash
  pub next : ComesNext before p entry
  pub tail : after ≡ tail_after before bytes entry
  pub messages : new ≡ messages_in_log entry p

-- or bytes are passed over
pub record Passed (o : ReadingState) (p : ℕ) (before : Tail) (bytes : List ℕ) (after : Tail) (new : List Message) : Type 0 where
  pub unfit : (e : EntryTerms) → SpellsEntry (entry_book o) p bytes e → ¬ ComesNext before p e
  pub tail : after ≡ record before { entries = before.entries + 1; hash = sha256 bytes }
  pub messages : new ≡ []

-- one place more, after what was read before it
pub record OneMore (o : ReadingState) (p : ℕ) (bytes : List ℕ) (Before : Tail → List Message → Type 0) (after : Tail) (all : List Message) : Type 0 where
  pub tail : Tail
  pub earlier : List Message
  pub new : List Message
  pub before : Before tail earlier
  pub step : Took o p tail bytes after new ⊎ Passed o p tail bytes after new
  pub all_is : all ≡ earlier ++ new

-- the tail and the messages after so many places of a log
abbrev pub IsReadTo : ReadingState → ℕ → List (List ℕ) → ℕ → Tail → List Message → Type 0
IsReadTo o p log zero t all = (t ≡ no_tail o.node.book.logs) × (all ≡ [])
IsReadTo o p log (suc n) t all = OneMore o p (get_or log n []) (IsReadTo o p log n) t all

-- there are few enough processes and accounts for bytes to tell them
pub record IsSmall (o : ReadingState) : Type 0 where
  pub accounts : length o.book.accounts ≤ 2 ^ 32
  pub processes : o.book.processes ≤ 2 ^ 32

same_step : (o : ReadingState) (p : ℕ) (before : Tail) (bytes : List ℕ) (one other : Tail) (new more : List Message) → IsSmall o
    → Took o p before bytes one new ⊎ Passed o p before bytes one new → Took o p before bytes other more ⊎ Passed o p before bytes other more → (one ≡ other) × (new ≡ more)
same_step o p before bytes one other new more small (inl a) (inl b) =
    let e : a.entry ≡ b.entry =
    same_entry o.node.book.logs (length o.book.accounts) o.book.processes a.entry b.entry small.accounts small.processes a.spelled.on b.spelled.on (sym a.spelled.exact ∙ b.spelled.exact) in
    (a.tail ∙ (ap (tail_after before bytes) e ∙ sym b.tail), a.messages ∙ (ap (λ x. messages_in_log x p) e ∙ sym b.messages))
same_step o p before bytes one other new more small (inl a) (inr b) = absurd (b.unfit a.entry a.spelled a.next)
same_step o p before bytes one other new more small (inr a) (inl b) = absurd (a.unfit b.entry b.spelled b.next)
same_step o p before bytes one other new more small (inr a) (inr b) = (a.tail ∙ sym b.tail, a.messages ∙ sym b.messages)

-- one tail and one list of messages alone are read
pub same_read : (o : ReadingState) (p : ℕ) (log : List (List ℕ)) (n : ℕ) (t u : Tail) (all most : List Message) → IsSmall o → IsReadTo o p log n t all → IsReadTo o p log n u most → (t ≡ u) × (all ≡ most)
same_read o p log zero t u all most small a b = (a.0 ∙ sym b.0, a.1 ∙ sym b.1)
same_read o p log (suc n) t u all most small a b =
    let before = same_read o p log n a.tail b.tail a.earlier b.earlier small a.before b.before in
    let step = same_step o p b.tail (get_or log n []) t u a.new b.new small
    (subst (λ (x : Tail). Took o p x (get_or log n []) t a.new ⊎ Passed o p x (get_or log n []) t a.new) before.0 a.step) b.step in
    (step.0, a.all_is ∙ (ap (λ (l : List Message). l ++ a.new) before.1 ∙ (ap (λ (l : List Message). b.earlier ++ l) step.1 ∙ sym b.all_is)))

-- what was read of fewer places comes first
pub read_first : (o : ReadingState) (p : ℕ) (log : List (List ℕ)) (n m : ℕ) (t u : Tail) (all most : List Message) → IsSmall o → n ≤ m → IsReadTo o p log n t all → IsReadTo o p log m u most
    → (more : List Message) × (most ≡ all ++ more)
read_first o p log n zero t u all most small less a b =
    let none : n ≡ 0 = omega arith in
    let zero_a : IsReadTo o p log 0 t all = subst (λ k. IsReadTo o p log k t all) none a in
    ([], b.1 ∙ (sym zero_a.1 ∙ sym (append-nil all)))
read_first o p log n (suc m) t u all most small less a b =
    elim (cases_lt n (suc m)) [
      | inl below ↦
          let first = read_first o p log n m t b.tail all b.earlier small (omega arith) a b.before in
          (first.0 ++ b.new, b.all_is ∙ (ap (λ (l : List Message). l ++ b.new) first.1 ∙ append_assoc all first.0 b.new))
      | inr above ↦
          let level : n ≡ suc m = omega arith in
          let same = same_read o p log (suc m) t u all most small (subst (λ k. IsReadTo o p log k t all) level a) b in
          ([], sym same.1 ∙ sym (append-nil all))
    ]

-- ---- lists of messages by number

pub slice_get-left : (xs ys : List Message) (k : ℕ) → k < length xs → slice_get (xs ++ ys) k ≡ slice_get xs k
slice_get-left [] ys k within = absurd (omega (arith, within))
slice_get-left (x ∷ xs) ys zero within = refl
slice_get-left (x ∷ xs) ys (suc k) within = slice_get-left xs ys k (omega (arith, within))

pub slice_get-right : (xs ys : List Message) (i : ℕ) → slice_get (xs ++ ys) (length xs + i) ≡ slice_get ys i
slice_get-right [] ys i = let at : 0 + i ≡ i = omega arith in ap (slice_get ys) at
slice_get-right (x ∷ xs) ys i =
    let at : suc (length xs) + i ≡ suc (length xs + i) = omega arith in
    ap (slice_get (x ∷ (xs ++ ys))) at ∙ slice_get-right xs ys i

-- ---- what a node has read of one log

-- the tail and the messages of a log are those of the places that were read
pub record IsLogRead (o : ReadingState) (p : ℕ) (log : List (List ℕ)) (t : Tail) (list : MessageList) : Type 0 where
  pub messages : List Message
  pub read : IsReadTo o p log t.entries t messages
  pub there : (k : ℕ) → message_at list k ≡ slice_get messages k
  pub many : t.messages ≡ length messages

-- the same list by number
pub IsLogRead-same : (o : ReadingState) (p : ℕ) (log : List (List ℕ)) (t u : Tail) (list after : MessageList) → u ≡ t → ((k : ℕ) → message_at after k ≡ message_at list k)
    → IsLogRead o p log t list → IsLogRead o p log u after
IsLogRead-same o p log t u list after tail same is =
    subst (λ (x : Tail). IsLogRead o p log x after) (sym tail) (record { messages = is.messages; read = is.read; there = λ k. same k ∙ is.there k; many = is.many })

-- bytes are passed over at the next place
pub IsLogRead-passed : (o : ReadingState) (p : ℕ) (log : List (List ℕ)) (t : Tail) (bytes : List ℕ) (list : MessageList) → get_or log t.entries [] ≡ bytes
    → ((e : EntryTerms) → SpellsEntry (entry_book o) p bytes e → ¬ ComesNext t p e) → IsLogRead o p log t list
    → IsLogRead o p log (record t { entries = t.entries + 1; hash = sha256 bytes }) list
IsLogRead-passed o p log t bytes list stands unfit is =
    let after : Tail = record t { entries = t.entries + 1; hash = sha256 bytes } in
    let step : Passed o p t (get_or log t.entries []) after [] =
    subst (λ (l : List ℕ). Passed o p t l after []) (sym stands) (record { unfit = unfit; tail = refl; messages = refl }) in
    let more : IsReadTo o p log (suc t.entries) after is.messages =
    record { tail = t; earlier = is.messages; new = []; before = is.read; step = inr step; all_is = sym (append-nil is.messages) } in
    record { messages = is.messages; read = subst (λ n. IsReadTo o p log n after is.messages) (sym (add-one t.entries)) more; there = is.there; many = is.many }

-- what stands by number after more messages
pub record HasMore (before after : MessageList) (number : ℕ) (more : List Message) : Type 0 where
  pub earlier : (k : ℕ) → k < number → message_at after k ≡ message_at before k
  pub new : (i : ℕ) → i < length more → message_at after (number + i) ≡ slice_get more i
  pub later : (k : ℕ) → number + length more ≤ k → message_at after k ≡ None

-- an entry is taken there
pub IsLogRead-took : (o : ReadingState) (p : ℕ) (log : List (List ℕ)) (t : Tail) (bytes : List ℕ) (e : EntryTerms) (list after : MessageList) → get_or log t.entries [] ≡ bytes
    → SpellsEntry (entry_book o) p bytes e → e.before ≡ t.hash → ComesNext t p e → HasMore list after t.messages (messages_in_log e p) → IsLogRead o p log t list
    → IsLogRead o p log (tail_after t bytes e) after
IsLogRead-took o p log t bytes e list after stands spelled hash next has is =
    let new : List Message = messages_in_log e p in
    let u : Tail = tail_after t bytes e in
    let step : Took o p t (get_or log t.entries []) u new =
    subst (λ (l : List ℕ). Took o p t l u new) (sym stands) (record { entry = e; spelled = spelled; hash = hash; next = next; tail = refl; messages = refl }) in
    let more : IsReadTo o p log (suc t.entries) u (is.messages ++ new) =
    record { tail = t; earlier = is.messages; new = new; before = is.read; step = inl step; all_is = refl } in
    record {
      messages = is.messages ++ new;
      read = subst (λ n. IsReadTo o p log n u (is.messages ++ new)) (sym (add-one t.entries)) more;
      there = λ k. elim (cases_lt k (length is.messages)) as (λ _. message_at after k ≡ slice_get (is.messages ++ new) k) [
        | inl earlier ↦ has.earlier k (omega (arith, earlier, is.many)) ∙ (is.there k ∙ sym (slice_get-left is.messages new k earlier))
        | inr past ↦
            let i : ℕ = k - length is.messages in
            let at : length is.messages + i ≡ k = omega (arith, past) in
            elim (cases_lt i (length new)) as (λ _. message_at after k ≡ slice_get (is.messages ++ new) k) [
              | inl within ↦
                  let here : t.messages + i ≡ k = omega (arith, at, is.many) in
                  ap (message_at after) (sym here) ∙ (has.new i within ∙ (sym (slice_get-right is.messages new i) ∙ ap (slice_get (is.messages ++ new)) at))
              | inr beyond ↦
                  has.later k (omega (arith, at, beyond, is.many)) ∙ sym (slice_get_past (is.messages ++ new) k (omega (arith, at, beyond, length-append is.messages new)))
            ]
      ];
      many = omega (arith, is.many, length-append is.messages new, length-messages_in_log e p);
    }

-- the messages of the log after an entry
pub HasMore-with_messages : (messages : List MessageList) (p number : ℕ) (more : List Message) (after : MessageList) → p < length messages → number + length more ≤ length (list_of messages p)
    → ((k : ℕ) → number ≤ k → message_of messages p k ≡ None) → after ≡ list_of (with_messages messages p number more) p → HasMore (list_of messages p) after number more
HasMore-with_messages messages p number more after listed room none is = record {
  earlier = λ k before. ap (λ (l : MessageList). message_at l k) is ∙ message_of-unlisted messages p number more p k listed (λ _ low. absurd (omega (arith, low, before)));
  new = λ i within. ap (λ (l : MessageList). message_at l (number + i)) is ∙ new i within;
  later = λ k past. ap (λ (l : MessageList). message_at l k) is ∙ (message_of-unlisted messages p number more p k listed (λ _ _. past) ∙ none k (omega (arith, past)));
} where
  new : (i : ℕ) → i < length more → message_of (with_messages messages p number more) p (number + i) ≡ slice_get more i
  new i within =
      let d : Message = get_or more i (record { from = 0; targets = []; reference = []; deps = [] }) in
      message_of-listed messages p number more i d listed room within ∙ sym (slice_get-get_or more i d within)
