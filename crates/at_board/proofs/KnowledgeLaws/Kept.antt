-- What the type of a seat keeps follows from the rule, whatever step was made.
use Rattle.std.proofs.Common.{◌≡◌, ℕ, ◌+◌, ◌<◌, ◌≤◌, ◌^◌, List, [], true, false, length, take, set, refl, sym, ap, subst, ◌∙◌, arith, inl, inr}
use Rattle.at_board.proofs.Prelude.{get_elem?, some, cases_lt, append-nil, get_or_past, All-weaker, set_here, Decision, no_account, slots_of, BookTerms, IsBegun, IsBook, account_of, named-is_settled, IsHistory-Sound, is_settled-named, rounds-Overtaking, IsPrefix-length, take-IsPrefix, take-IsPrefix-le, log_room_of-le, BoardState, decision_at, places_max, IsHistory, IsLastRequest, Overtaking, count_of, is_settled, named, rounds, AreTargets, IsSoundDecision, Sound, Publication, Request, DecisionInRange, RequestInRange, SeesInRange, HasPart, IsAnnounced, IsDecided, Knows, own_part, with_part, FewOvertake, IsKept, IsSeat, NamesOnlyAnnounced, Ruled, record_word, Knowledge, Part, SeenDecision, SeenRequest}
use Rattle.at_board.proofs.KnowledgeLaws.Agreement.{AgreesWithSeen-Knows, seen_decision}
use Rattle.at_board.proofs.KnowledgeLaws.Asking.{own_part-with_part}
use Rattle.at_board.proofs.KnowledgeLaws.Seats.{within_found}

-- an account that has slots is one of the book's
account-slots_of : (b : BookTerms) (a slot : ℕ) → slot < slots_of (account_of b a) → a < length b.accounts
account-slots_of b a slot within =
    elim (cases_lt a (length b.accounts)) as (λ _. a < length b.accounts) [
      | inl inside ↦ inside
      | inr past ↦
          let none : slots_of (account_of b a) ≡ 0 = ap slots_of (get_or_past b.accounts a no_account past) in
          absurd (omega (arith, within, none))
    ]

-- the board has words for each request that it has
RequestInRange-IsAnnounced : (b : BookTerms) (s : BoardState) (x : SeenRequest) → Sound b s → length s.published ≤ places_max → IsAnnounced s x → RequestInRange b x
RequestInRange-IsAnnounced b s x sound few is =
    let law = sound.requests x.account x.slot x.number is.0 in
    record {
      words = (account-slots_of b x.account x.slot law.slot_in, law.slot_in, omega (arith, is.0, sound.row_room x.account x.slot), omega arith);
      targets = subst (λ (r : Request). AreTargets b r.targets) is.1 law.targets;
      since = omega (arith, few, subst (λ (r : Request). r.since ≤ length s.published) is.1 law.since);
    }

-- and for each decision
DecisionInRange-IsDecided : (b : BookTerms) (s : BoardState) (x : SeenDecision) → Sound b s → IsDecided s x → DecisionInRange b x
DecisionInRange-IsDecided b s x sound is =
    let law : IsSoundDecision b s x.account x.round x.decision = subst (IsSoundDecision b s x.account x.round) is.1 (sound.decisions x.account x.round is.0) in
    record {
      words = (account-slots_of b x.account x.decision.slot law.slot_in, law.slot_in, omega (arith, law.announced, sound.row_room x.account x.decision.slot), omega arith);
      range = law.range;
      room = law.room;
    }

SeesInRange-Knows : (words : List ℕ) (s : BoardState) (v : Knowledge) → Sound v.book s → length s.published ≤ places_max → Knows v.book words s v → SeesInRange v
SeesInRange-Knows words s v sound few knows = record {
  requests = All-weaker (IsAnnounced s) (RequestInRange v.book) (λ x. RequestInRange-IsAnnounced v.book s x sound few) v.requests knows.requests;
  decisions = All-weaker (IsDecided s) (DecisionInRange v.book) (λ x. DecisionInRange-IsDecided v.book s x sound) v.decisions knows.decisions;
}

-- a settled request is announced
announced-is_settled : (b : BookTerms) (s : BoardState) (m a slot number : ℕ) → Sound b s → is_settled a slot number (take m s.published) ≡ true
    → number < length (s.rows a slot)
announced-is_settled b s m a slot number sound settled =
    let found = named-is_settled b s m a slot number sound settled in
    let r = found.0 in
    let d : Decision = decision_at (s.cells a) r in
    let is : d.number < length (s.rows a d.slot) = (sound.decisions a r found.1.within).announced in
    omega (arith, is, found.1.number_is, ap (λ k. length (s.rows a k)) found.1.slot_is)

NamesOnlyAnnounced-Knows : (words : List ℕ) (s : BoardState) (v : Knowledge) (a slot : ℕ) → Sound v.book s → IsHistory v.book v.seen → Knows v.book words s v
    → NamesOnlyAnnounced v a slot (length (s.rows a slot))
NamesOnlyAnnounced-Knows words s v a slot sound history knows =
    let n = length (s.rows a slot) in
    let m = length v.seen in
    let all : take m s.published ≡ v.seen = take-IsPrefix v.seen s.published knows.seen in
    let settled : (number : ℕ) → is_settled a slot number v.seen ≡ true → number < n =
    λ number is. announced-is_settled v.book s m a slot number sound (subst (λ t. is_settled a slot number t ≡ true) (sym all) is) in
    record {
      records = settled;
      decisions = λ round d sees slot_is.
          let is = seen_decision s v.decisions (record { account = a; round = round; decision = d }) knows.decisions sees in
          let law : IsSoundDecision v.book s a round d = subst (IsSoundDecision v.book s a round) is.1 (sound.decisions a round is.0) in
          omega (arith, law.announced, ap (λ k. length (s.rows a k)) slot_is);
      rounds = elim (cases_lt n (named a slot v.seen)) as (λ _. named a slot v.seen ≤ n) [
        | inr few ↦ few
        | inl more ↦
            let whole : take m v.seen ≡ v.seen = take-IsPrefix v.seen v.seen ([], sym (append-nil v.seen)) in
            let next = is_settled-named v.book v.seen m a slot n history (omega arith) (omega (arith, more, ap (named a slot) whole)) in
            absurd (omega (arith, settled n (subst (λ t. is_settled a slot n t ≡ true) whole next)))
      ];
    }

FewOvertake-Knows : (words : List ℕ) (s : BoardState) (v : Knowledge) → Sound v.book s → Overtaking s → Knows v.book words s v
    → HasPart v.book words s v v.first (own_part v) → FewOvertake v
FewOvertake-Knows words s v sound law knows part a slot number m slot_in last within unsettled =
    let has = part.asking a slot slot_in in
    let same : take m s.published ≡ take m v.seen = take-IsPrefix-le m v.seen s.published within knows.seen in
    let few = rounds-Overtaking v.book s m a slot number sound law (subst (λ (row : List Request). IsLastRequest row number) has.announced last)
    (omega (arith, within, IsPrefix-length v.seen s.published knows.seen)) (subst (λ t. is_settled a slot number t ≡ false) (sym same) unsettled) in
    omega (arith, few, has.heard, ap (rounds a) same)

-- what a seat keeps, where the state is sound and has all that it knows
pub IsKept-Knows : (words : List ℕ) (s : BoardState) (v : Knowledge) → Sound v.book s → Overtaking s → length s.published ≤ places_max → IsBook v.book
    → IsHistory v.book v.seen → Knows v.book words s v → length v.parts ≡ 1 → IsKept v
IsKept-Knows words s v sound law few book history knows one =
    let first : v.first + 0 ≡ v.first = omega arith in
    let part : HasPart v.book words s v v.first (own_part v) =
    subst (λ p. HasPart v.book words s v p (own_part v)) first (knows.parts 0 (omega (arith, one))) in
    record {
      one_part = one;
      accounts = part.accounts;
      words = part.sized;
      next_words = λ a slot slot_in. (part.asking a slot slot_in).sized;
      process_is = refl;
      published_is = refl;
      own = part.seen;
      asked = λ a slot i slot_in within. (part.asking a slot slot_in).seen i within;
      known = part.known;
      book = book;
      history = history;
      in_range = SeesInRange-Knows words s v sound few knows;
      agrees = AgreesWithSeen-Knows v.book words s v sound knows;
      names = λ a slot slot_in. subst (λ (row : List Request). NamesOnlyAnnounced v a slot (length row)) (sym (part.asking a slot slot_in).announced)
          (NamesOnlyAnnounced-Knows words s v a slot sound history knows);
      overtaken = FewOvertake-Knows words s v sound law knows part;
    }

-- by its own numbers
pub IsKept-IsSeat : (v : Knowledge) (process published : ℕ) → IsSeat v process published → IsKept v
IsKept-IsSeat v process published seat =
    subst (λ p. IsSeat v p (own_part v).published) (sym seat.process_is) (subst (IsSeat v process) (sym seat.published_is) seat)

-- the same by the book of the board
pub IsKept-state : (b : BookTerms) (words : List ℕ) (s : BoardState) (v : Knowledge) → Sound b s → Overtaking s → length s.published ≤ places_max → IsBook b
    → v.book ≡ b → IsHistory b v.seen → Knows b words s v → length v.parts ≡ 1 → IsKept v
IsKept-state b words s v sound law few book same history knows one =
    let all : Sound v.book s × IsBook v.book × IsHistory v.book v.seen × Knows v.book words s v =
    subst (λ t. Sound t s × IsBook t × IsHistory t v.seen × Knows t words s v) (sym same) (sound, book, history, knows) in
    IsKept-Knows words s v all.0 law few all.1 all.2 all.3 one

-- what is kept of a seat after a step of it, where what it has then seen is a history
IsKept-set : (b : BookTerms) (words : List ℕ) (knowledge : List Knowledge) (id : ℕ) (v w : Knowledge) → get_elem? knowledge id ≡ some v → IsBook b → w.book ≡ b
    → length w.parts ≡ 1 → IsHistory b w.seen → Ruled b words (set knowledge id w) → IsKept w
IsKept-set b words knowledge id v w found book same one history ruled =
    let s : BoardState = ruled.state in
    IsKept-state b words s w ruled.sound ruled.overtaking (IsHistory-Sound b s ruled.shown.records.room ruled.sound book.begun).few book same history
    (ruled.knows id w (set_here knowledge id w (within_found knowledge id v found))) one

pub IsKept-step : (words : List ℕ) (knowledge : List Knowledge) (id : ℕ) (v w : Knowledge) → get_elem? knowledge id ≡ some v → IsKept v
    → w.book ≡ v.book → length w.parts ≡ length v.parts → IsHistory v.book w.seen → Ruled v.book words (set knowledge id w) → IsKept w
IsKept-step words knowledge id v w found kept book parts history ruled =
    IsKept-set v.book words knowledge id v w found kept.book book (parts ∙ kept.one_part) history ruled

-- a seat of a process that has published so many records
pub IsSeat-IsKept : (w : Knowledge) (process published : ℕ) → w.first ≡ process → (own_part w).published ≡ published → IsKept w → IsSeat w process published
IsSeat-IsKept w process published first own kept =
    subst (λ p. IsSeat w p published) first (subst (IsSeat w w.first) own kept)

-- the seat after a step that has left it this part
pub IsSeat-step : (v u w : Knowledge) (q : Part) (process k published : ℕ) → IsSeat v process k → u.first ≡ v.first → u.parts ≡ v.parts
    → w ≡ with_part u q → q.published ≡ published → IsKept w → IsSeat w process published
IsSeat-step v u w q process k published seat first parts same own kept =
    IsSeat-IsKept w process published (ap (λ (t : Knowledge). t.first) same ∙ (first ∙ seat.process_is))
    (ap (λ (t : Knowledge). (own_part t).published) same
    ∙ (ap (λ (t : Part). t.published) (own_part-with_part u q (omega (arith, ap length parts, seat.one_part))) ∙ own)) kept

-- a process has few records
pub count_of-IsHistory : (b : BookTerms) (list : List Publication) (p : ℕ) → IsBegun b → p < b.processes → IsHistory b list → count_of p list < 2 ^ 16
count_of-IsHistory b list p begun within history = omega (arith, history.room p within, log_room_of-le b p begun)

-- the address of the seat's next record, by the seat's fields
pub next_record : (v : Knowledge) (process k j : ℕ) → IsSeat v process k → record_word process k j ≡ record_word v.first (own_part v).published j
next_record v process k j seat = λ t. record_word (sym seat.process_is t) (sym seat.published_is t) j
