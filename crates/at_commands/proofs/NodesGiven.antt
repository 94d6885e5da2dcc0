-- Messages given to nodes, one delivery after another.
use Rattle.std.proofs.Common.{◌≡◌, ◌≢◌, ◌↔◌, ℕ, ◌+◌, ◌<◌, Bool, true, false, cond, ◌==◌, ◌&&◌, ◌||◌, eq-eqb, List, [], ◌∷◌, ◌++◌, length, map, replicate, slice_set, take, get_or, All, Vec, IsTrue, Option, Some, None, refl, sym, ap, subst, ◌∙◌, inl, inr, arith, get_or-set_same, get_or-set_other}
use Rattle.at_commands.proofs.Prelude.{Global, list_any, cases_eq, eqb-true, get_or-map, get_or-replicate, length-map, length-replicate, length-set, take_more, list_any-append, LogTerms, single_of, singles_of, IsMessageOn, MessageList, message_of, no_messages, with_message, IsNode, NodeState, starting_state, Message, message_of-new, message_of-other, IsClosed-IsNode, ShowsBalances-IsNode, none-start, contents_of, IsDelivery, most_messages, Delivery, both_tests, get_or-contents_of, length-contents_of, BookTerms, LoadedOf, AreNodesOf, AreSent, IsNodeOf, all_sent, counts_of, gives, message_given}

-- the sender of a delivery has a file, and the file has the message
pub sender_within : (l : LoadedOf Message) (d : Delivery) → IsDelivery (counts_of l) d → d.sender < length l.files
sender_within l d is = omega (arith, is.sender, length-map l.files (length {A = Message}))

pub node_within : (l : LoadedOf Message) (d : Delivery) → IsDelivery (counts_of l) d → d.node < length l.files
node_within l d is = omega (arith, is.node, length-map l.files (length {A = Message}))

pub number_within : (l : LoadedOf Message) (d : Delivery) → IsDelivery (counts_of l) d → d.number < length (get_or l.files d.sender [])
number_within l d is = omega (arith, is.number, get_or-map (length {A = Message}) l.files d.sender [] 0 (sender_within l d is))

-- the message of a sender and number that it has
message_of-sent : (l : LoadedOf Message) (p k : ℕ) (m : Message) → p < length l.files → k < length (get_or l.files p []) → m ≡ get_or (get_or l.files p []) k m
    → message_of (all_sent l) p k ≡ Some m
message_of-sent l p k m process within is =
    ap (λ (list : MessageList). get_or list k None) (get_or-map (map {A = Message} Some) l.files p [] [] process)
    ∙ (get_or-map Some (get_or l.files p []) k m None within ∙ ap Some (sym is))

-- the file of the sender, as the program holds it
pub file_of : (l : LoadedOf Message) (files : List (Vec Message Global)) (d : Delivery) (file : Vec Message Global) → l.files ≡ contents_of files → IsDelivery (counts_of l) d
    → file ≡ get_or files d.sender file → get_or l.files d.sender [] ≡ file.items
file_of l files d file same is at =
    let long = ap (λ (all : List (List Message)). length all) same in
    let within : d.sender < length files = omega (arith, sender_within l d is, long, length-contents_of files) in
    ap (λ (all : List (List Message)). get_or all d.sender []) same ∙ get_or-contents_of files d.sender file within at

-- a number that is delivered is below the most
pub number_small : (l : LoadedOf Message) (d : Delivery) → All (AreSent l.book) l.files → IsDelivery (counts_of l) d → d.number < most_messages
number_small l d sent is =
    let few = (sent d.sender [] (sender_within l d is)).few in
    omega (arith, few, number_within l d is)

-- a message that is delivered is one on the book
pub message_known : (l : LoadedOf Message) (d : Delivery) (m : Message) → All (AreSent l.book) l.files → IsDelivery (counts_of l) d
    → m ≡ get_or (get_or l.files d.sender []) d.number m → IsMessageOn l.book.processes (length l.book.accounts) m
message_known l d m sent is at =
    let known = (sent d.sender [] (sender_within l d is)).known d.number m (number_within l d is) in
    subst (IsMessageOn l.book.processes (length l.book.accounts)) (sym at) known

-- and on the node's book of logs
pub message_on : (b : BookTerms) (s : NodeState) (m : Message) → s.book ≡ singles_of b → IsMessageOn b.processes (length b.accounts) m
    → IsMessageOn s.book.logs (length s.book.accounts) m
message_on b s m book is =
    subst (λ (l : LogTerms). IsMessageOn l.logs (length l.accounts) m) (sym book)
    (subst (λ (n : ℕ). IsMessageOn b.processes n m) (sym (length-map b.accounts single_of)) is)

-- a delivery gives its node its message
gives-itself : (d : Delivery) → gives d.node d.sender d.number d ≡ true
gives-itself d = rw (eq-eqb d.node d.node refl, eq-eqb d.sender d.sender refl, eq-eqb d.number d.number refl) refl

-- and no other
gives-only : (node p k : ℕ) (d : Delivery) → gives node p k d ≡ true → (d.node ≡ node) × ((d.sender ≡ p) × (d.number ≡ k))
gives-only node p k d is =
    let first = both_tests (d.node == node) ((d.sender == p) && (d.number == k)) is in
    let later = both_tests (d.sender == p) (d.number == k) first.1 in
    (eqb-true d.node node first.0, (eqb-true d.sender p later.0, eqb-true d.number k later.1))

list_any-more : (node p k : ℕ) (done : List Delivery) (d : Delivery) (b : Bool) → gives node p k d ≡ b
    → list_any (gives node p k) (done ++ d ∷ []) ≡ (list_any (gives node p k) done || (b || false))
list_any-more node p k done d b is = rw (list_any-append (gives node p k) done (d ∷ []), is) refl

-- what is given after one more delivery
message_given-new : (l : LoadedOf Message) (done : List Delivery) (d : Delivery) (node p k : ℕ) → gives node p k d ≡ true
    → message_given l (done ++ d ∷ []) node p k ≡ message_of (all_sent l) p k
message_given-new l done d node p k is =
    let any : list_any (gives node p k) (done ++ d ∷ []) ≡ true = list_any-more node p k done d true is ∙ yes (list_any (gives node p k) done) in
    rw any refl
  where
    yes : (b : Bool) → (b || (true || false)) ≡ true
    yes true = refl
    yes false = refl

message_given-other : (l : LoadedOf Message) (done : List Delivery) (d : Delivery) (node p k : ℕ) → gives node p k d ≡ false
    → message_given l (done ++ d ∷ []) node p k ≡ message_given l done node p k
message_given-other l done d node p k is =
    let any : list_any (gives node p k) (done ++ d ∷ []) ≡ list_any (gives node p k) done = list_any-more node p k done d false is ∙ same (list_any (gives node p k) done) in
    rw any refl
  where
    same : (b : Bool) → (b || (false || false)) ≡ b
    same true = refl
    same false = refl

-- a message that a node has is the sender's
message_given-has : (l : LoadedOf Message) (done : List Delivery) (node p k : ℕ) (m : Message) → message_of (all_sent l) p k ≡ Some m
    → message_given l done node p k ≢ None → message_given l done node p k ≡ Some m
message_given-has l done node p k m sent some = by (list_any (gives node p k) done) refl some
  where
    by : (b : Bool) → list_any (gives node p k) done ≡ b → cond b (message_of (all_sent l) p k) None ≢ None → cond b (message_of (all_sent l) p k) None ≡ Some m
    by true is some = sent
    by false is some = absurd (some refl)

-- what a delivery doesn't give its node is another message
gives-apart : (d : Delivery) (p k : ℕ) → gives d.node p k d ≡ false → p ≡ d.sender → k ≢ d.number
gives-apart d p k not_given same e =
    let given : gives d.node p k d ≡ true = rw (same, e) (gives-itself d) in
    let wrong : true ≡ false = sym given ∙ not_given in
    cc

-- the messages of a node after a delivery to it
given-deliver : (l : LoadedOf Message) (done : List Delivery) (d : Delivery) (m : Message) (before after : List MessageList) (new : Bool)
    → message_of (all_sent l) d.sender d.number ≡ Some m
    → message_of (with_message before d.sender d.number m) d.sender d.number ≡ Some m
    → ((p k : ℕ) → (p ≡ d.sender → k ≢ d.number) → message_of (with_message before d.sender d.number m) p k ≡ message_of before p k)
    → (IsTrue new ↔ (message_of before d.sender d.number ≡ None))
    → (new ≡ false → after ≡ before) → (new ≡ true → after ≡ with_message before d.sender d.number m)
    → ((p k : ℕ) → message_of before p k ≡ message_given l done d.node p k)
    → (p k : ℕ) (b : Bool) → gives d.node p k d ≡ b → message_of after p k ≡ message_given l (done ++ d ∷ []) d.node p k
given-deliver l done d m before after true sent there others fresh again delivered is p k true h =
    let only = gives-only d.node p k d h in
    rw (delivered refl, message_given-new l done d d.node p k h, ← only.1.0, ← only.1.1) (there ∙ sym sent)
given-deliver l done d m before after false sent there others fresh again delivered is p k true h =
    let only = gives-only d.node p k d h in
    let some : message_given l done d.node d.sender d.number ≢ None = λ none. let wrong = fresh.1 (is d.sender d.number ∙ none) in cc in
    rw (again refl, message_given-new l done d d.node p k h, ← only.1.0, ← only.1.1)
    (is d.sender d.number ∙ (message_given-has l done d.node d.sender d.number m sent some ∙ sym sent))
given-deliver l done d m before after true sent there others fresh again delivered is p k false h =
    rw (delivered refl, message_given-other l done d d.node p k h) (others p k (gives-apart d p k h) ∙ is p k)
given-deliver l done d m before after false sent there others fresh again delivered is p k false h =
    rw (again refl, message_given-other l done d d.node p k h) (is p k)

-- one more delivery to a node
pub IsNodeOf-deliver : (l : LoadedOf Message) (done : List Delivery) (d : Delivery) (m : Message) (s after : NodeState) (new : Bool)
    → length l.files ≡ l.book.processes → All (AreSent l.book) l.files → IsDelivery (counts_of l) d → m ≡ get_or (get_or l.files d.sender []) d.number m
    → IsNode after → after.book ≡ s.book
    → (IsTrue new ↔ (message_of s.messages d.sender d.number ≡ None))
    → (new ≡ false → after ≡ s) → (new ≡ true → after.messages ≡ with_message s.messages d.sender d.number m)
    → IsNodeOf l done d.node s → IsNodeOf l (done ++ d ∷ []) d.node after
IsNodeOf-deliver l done d m s after new count sent is at node book fresh again delivered before =
    let steady = before.node.steady in
    let logs = ap (λ (b : LogTerms). b.logs) before.book in
    let process : d.sender < s.book.logs = omega (arith, sender_within l d is, count, logs) in
    let known : d.sender < length s.messages = omega (arith, process, steady.sized) in
    let within : d.number < length (get_or s.messages d.sender []) = omega (arith, number_small l d sent is, steady.lists d.sender process) in
    record {
      book = book ∙ before.book;
      given = λ p k. given-deliver l done d m s.messages after.messages new
          (message_of-sent l d.sender d.number m (sender_within l d is) (number_within l d is) at)
          (message_of-new s.messages d.sender d.number m known within)
          (λ q n apart. message_of-other s.messages d.sender d.number q n m known apart)
          fresh (λ e. ap (λ (t : NodeState). t.messages) (again e)) delivered before.given p k (gives d.node p k d) refl;
      closed = IsClosed-IsNode after node;
      balances = ShowsBalances-IsNode after node;
      node = node;
    }

-- one more delivery to another node
IsNodeOf-other : (l : LoadedOf Message) (done : List Delivery) (d : Delivery) (i : ℕ) (s : NodeState) → d.node ≢ i → IsNodeOf l done i s → IsNodeOf l (done ++ d ∷ []) i s
IsNodeOf-other l done d i s other before = record {
  book = before.book;
  given = λ p k. before.given p k ∙ sym (message_given-other l done d i p k (apart p k (gives i p k d) refl));
  closed = before.closed;
  balances = before.balances;
  node = before.node;
} where
  apart : (p k : ℕ) (b : Bool) → gives i p k d ≡ b → gives i p k d ≡ false
  apart p k true is = absurd (other (gives-only i p k d is).0)
  apart p k false is = is

-- one more delivery to one of the nodes
AreNodesOf-set : (l : LoadedOf Message) (done : List Delivery) (d : Delivery) (nodes : List NodeState) (after : NodeState) → d.node < length nodes
    → AreNodesOf l done nodes → IsNodeOf l (done ++ d ∷ []) d.node after → AreNodesOf l (done ++ d ∷ []) (slice_set nodes d.node after)
AreNodesOf-set l done d nodes after within each new i s below =
    elim (cases_eq i d.node) as (λ _. IsNodeOf l (done ++ d ∷ []) i (get_or (slice_set nodes d.node after) i s)) [
      | inl same ↦ rw (same, get_or-set_same nodes d.node after s within) new
      | inr other ↦ rw (get_or-set_other nodes d.node i after s other)
          (IsNodeOf-other l done d i (get_or nodes i s) (λ e. other (sym e)) (each i s (omega (arith, below, length-set nodes d.node after))))
    ]

-- the delivery at a position, after those before it
pub AreNodesOf-next : (l : LoadedOf Message) (deliveries : List Delivery) (i : ℕ) (e : Delivery) (nodes : List NodeState) (after : NodeState) → i < length deliveries
    → (get_or deliveries i e).node < length nodes → AreNodesOf l (take i deliveries) nodes
    → IsNodeOf l (take i deliveries ++ get_or deliveries i e ∷ []) (get_or deliveries i e).node after
    → AreNodesOf l (take (i + 1) deliveries) (slice_set nodes (get_or deliveries i e).node after)
AreNodesOf-next l deliveries i e nodes after inside within each new =
    rw (take_more deliveries i e inside) (AreNodesOf-set l (take i deliveries) (get_or deliveries i e) nodes after within each new)

-- nodes to which nothing was delivered
pub AreNodesOf-new : (l : LoadedOf Message) (nodes : List NodeState) → nodes ≡ replicate l.book.processes (starting_state (singles_of l.book)) → All IsNode nodes → AreNodesOf l [] nodes
AreNodesOf-new l nodes are steady i s below =
    let starts : get_or nodes i s ≡ starting_state (singles_of l.book) =
    ap (λ (all : List NodeState). get_or all i s) are ∙ get_or-replicate l.book.processes i (starting_state (singles_of l.book)) s (omega (arith, below, ap (λ (all : List NodeState). length all) are, length-replicate l.book.processes (starting_state (singles_of l.book)))) in
    let node : IsNode (starting_state (singles_of l.book)) = subst IsNode starts (steady i s below) in
    rw starts (record {
      book = refl;
      given = λ p k. none p k (message_of (replicate l.book.processes no_messages) p k) refl;
      closed = IsClosed-IsNode (starting_state (singles_of l.book)) node;
      balances = ShowsBalances-IsNode (starting_state (singles_of l.book)) node;
      node = node;
    })
  where
    none : (p k : ℕ) (o : Option Message) → message_of (replicate l.book.processes no_messages) p k ≡ o → message_of (replicate l.book.processes no_messages) p k ≡ None
    none p k None is = is
    none p k (Some m) is = absurd (none-start (singles_of l.book) l.book.processes p k m is)
