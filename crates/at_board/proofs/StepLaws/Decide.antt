-- An exchange on a cell keeps the rule.
use Rattle.std.proofs.Common.{◌≡◌, ℕ, ◌+◌, ◌<◌, ◌==◌, List, [], ◌∷◌, length, get_or, set, Option, Some, None, refl, sym, ap, subst, ◌∙◌, arith, inl, inr, ◌≢◌, ◌≤◌, Bool, cond, zero, ◌++◌, ◌↔◌, true, false, take}
use Rattle.at_board.proofs.Prelude.{get_elem?, none, some, either, cases_eq, cases_lt, eq-eqb, ne_eqb, le-ltb, lt-ltb, get_or-set_other, get_or-set_same, length-set, set-get_or, get_or_push, length_push, All-append, All-cons, All-nil, All-contains, All, Contains, same_decision, word_of, Decision, Allows, Me, keeps, step, BookTerms, IsBegun, amount_of, no_decision, HasRuns-Sound, rounds-unsettled, IsHistory-Sound, named-decided, IsPrefix-refl, IsPrefix-length, take-IsPrefix-le, AreDecided-take, cell, decided, Sound-decided, cells-own, cells-other, KeptCells-push, KeptCells-decided, held-other, held-own, IsNextDecision, Overtaking-decided, IsCovered, BoardState, decision_at, request_at, IsHistory, IsPrefix, count_of, is_settled, named, rounds, IsSoundDecision, Sound, Cell, Request, SeesInRange, RequestInRange, HasPart, Knows, HasAsking, IsDecided, IsAnnounced, with_part, asking_on, no_asking, own_part, SeesDecision, part_at, HasCounts, IsKept, Ruled, MayPropose, Decides, decided_round, with_decide, with_decision, word_after, with_count, IsAddress, cell_of, index_of, record_word, request_word, word_at, Address, announced_of, length_of, cell_word, Shown, Asking, Knowledge, Part, SeenDecision, SeenRequest}
use Rattle.at_board.proofs.StepLaws.Table.{allowed_at}
use Rattle.at_board.proofs.KnowledgeLaws.Agreement.{seen_decision, AgreesWithSeen-Knows, seen_request}
use Rattle.at_board.proofs.KnowledgeLaws.Asking.{HasPart-all}
use Rattle.at_board.proofs.KnowledgeLaws.Candidates.{IsOldestRequest-MayPropose}
use Rattle.at_board.proofs.KnowledgeLaws.Counts.{HasCounts-with_part}
use Rattle.at_board.proofs.KnowledgeLaws.Seats.{AreSeated-set, knows_after}
use Rattle.at_board.proofs.StepLaws.LoadLength.{parts_after}
use Rattle.at_board.proofs.StepLaws.StoreRecordWord.{other_process}
use Rattle.at_board.proofs.KnowledgeLaws.Kept.{IsKept-step}
use Rattle.at_board.proofs.WordLaws.Addresses.{index_of-injective, word_at-set_other, word_at-set_same}
use Rattle.at_board.proofs.WordLaws.Same.{SameRecordWords, SameRequestWords}

-- the cell of a round for which the seat may propose
pub IsAddress-MayPropose : (v : Knowledge) (a round : ℕ) (d : Decision) (r : Request) → IsHistory v.book v.seen
    → SeesInRange v → MayPropose v.book v a round d r → IsAddress v.book (cell_of a round)
IsAddress-MayPropose v a round d r history sees may =
    let asked : SeenRequest = record { account = a; slot = d.slot; number = d.number; request = r } in
    let range = All-contains (RequestInRange v.book) v.requests asked sees.requests may.named in
    let room = rounds-unsettled v.book v.seen d.place a d.slot d.number history may.place range.words.1 range.words.2 may.oldest.unsettled in
    (may.asking.loaded.slot_in.account_in, omega (arith, room, may.next))

-- the words after an exchange from 0
abbrev pub exchanged_words : BookTerms → List ℕ → ℕ → ℕ → ℕ → List ℕ
exchanged_words b words a round w =
    let n = word_at b words (cell_of a round) in set words (index_of b (cell_of a round)) (either (n == 0) w n)

-- what is known then, the rule with it, and what the step tells
pub record Decided (b : BookTerms) (words : List ℕ) (knowledge : List Knowledge) (id : ℕ) (v : Knowledge) (a round : ℕ) (d : Decision) : Type 0 where
  pub after : Knowledge
  pub ruled : Ruled b (exchanged_words b words a round (word_of d)) (set knowledge id after)
  pub told : Decides b v after a round d (word_after (word_at b words (cell_of a round)) (word_of d))

-- the word of a round that is decided, and of one that isn't
pub cell_word-within : (xs : List Decision) (r : ℕ) → r < length xs → cell_word xs r ≡ word_of (decision_at xs r)
cell_word-within xs r within = ap (λ (t : Bool). cond t (word_of (decision_at xs r)) zero) (lt-ltb r (length xs) within)

-- a counted step on a cell is no matter of what is asked
HasAsking-count : (b : BookTerms) (words : List ℕ) (s : BoardState) (v : Knowledge) (a slot n : ℕ) (w : Asking)
    → HasAsking b words s v a slot w → HasAsking b words s v a slot (record w { decides = n })
HasAsking-count b words s v a slot n w has = record {
  announced = has.announced;
  seen = has.seen;
  sized = has.sized;
  stored = has.stored;
  heard = has.heard;
  rows = has.rows;
  loaded = has.loaded;
}

HasPart-count : (b : BookTerms) (words : List ℕ) (s : BoardState) (v : Knowledge) (p : ℕ) (q : Part) (a : ℕ)
    → HasPart b words s v p q → HasPart b words s v p (with_count q a)
HasPart-count b words s v p q a has =
    let w : Asking = record (asking_on q a) { decides = (asking_on q a).decides + 1 } in
    record {
      known = has.known;
      published = has.published;
      seen = has.seen;
      sized = has.sized;
      stored = has.stored;
      held = has.held;
      lengths = has.lengths;
      accounts = length-set q.asking a w ∙ has.accounts;
      asking = λ k slot slot_in. elim (cases_eq k a) as (λ _. HasAsking b words s v k slot (get_or (set q.asking a w) k no_asking)) [
        | inl own ↦
            let inside : a < length q.asking = omega (arith, slot_in.account_in, own, has.accounts) in
            let here : w ≡ get_or (set q.asking a w) k no_asking = sym (ap (λ t. get_or (set q.asking a w) t no_asking) own ∙ get_or-set_same q.asking a w no_asking inside) in
            let old : HasAsking b words s v k slot (asking_on q a) = subst (λ t. HasAsking b words s v k slot (asking_on q t)) own (has.asking k slot slot_in) in
            subst (HasAsking b words s v k slot) here (HasAsking-count b words s v k slot ((asking_on q a).decides + 1) (asking_on q a) old)
        | inr other ↦
            subst (HasAsking b words s v k slot) (sym (get_or-set_other q.asking a k w no_asking other)) (has.asking k slot slot_in)
      ];
    }

HasPart-held : (b : BookTerms) (words : List ℕ) (s : BoardState) (v : Knowledge) (p : ℕ) (q : Part) (held : Option Cell)
    → held ≡ s.held p → HasPart b words s v p q → HasPart b words s v p (record q { held = held })
HasPart-held b words s v p q held same has = record {
  known = has.known;
  published = has.published;
  seen = has.seen;
  sized = has.sized;
  stored = has.stored;
  held = same;
  lengths = has.lengths;
  accounts = has.accounts;
  asking = has.asking;
}

-- one more decision that was seen
All-IsDecided : (s : BoardState) (ds : List SeenDecision) (x : SeenDecision) → All (IsDecided s) ds → IsDecided s x
    → All (IsDecided s) (ds ++ x ∷ [])
All-IsDecided s ds x all is = All-append (IsDecided s) ds (x ∷ []) all (All-cons (IsDecided s) x [] is (All-nil (IsDecided s)))

-- a seat that found a decision
pub Knows-found : (b : BookTerms) (words : List ℕ) (s : BoardState) (v : Knowledge) (a round : ℕ) → 0 < length v.parts
    → round < length (s.cells a) → (own_part v).held ≡ None → Knows b words s v
    → Knows b words s (with_part (with_decision v s.published a round (decision_at (s.cells a) round)) (with_decide (own_part v) a None))
Knows-found b words s v a round part within free knows =
    let e : Decision = decision_at (s.cells a) round in
    let q : Part = own_part v in
    let u : Knowledge = with_part (with_decision v s.published a round e) (with_decide q a None) in
    let moved : (k : ℕ) → k < length v.parts → HasPart b words s u (v.first + k) (part_at v k) =
    λ k inside. HasPart-all b words s v u (v.first + k) (part_at v k) knows.seen refl refl (knows.parts k inside) in
    let own : HasPart b words s u (v.first + 0) q = moved 0 part in
    record {
      seen = IsPrefix-refl s.published;
      requests = knows.requests;
      decisions = All-IsDecided s v.decisions (record { account = a; round = round; decision = e }) knows.decisions (within, refl);
      parts = parts_after (λ k t. HasPart b words s u (v.first + k) t) v.parts (with_decide q a None) part
          (HasPart-count b words s u (v.first + 0) (record q { held = None }) a
          (HasPart-held b words s u (v.first + 0) q None (sym free ∙ own.held) own))
          (λ k apart inside. moved k inside);
    }

-- what the seat has seen of the round is what the board has decided
seen-decision : (s : BoardState) (v : Knowledge) (b : BookTerms) (words : List ℕ) (a round : ℕ) (e : Decision) → Knows b words s v
    → SeesDecision v a round e → (round < length (s.cells a)) × (decision_at (s.cells a) round ≡ e)
seen-decision s v b words a round e knows sees =
    seen_decision s v.decisions (record { account = a; round = round; decision = e }) knows.decisions sees

-- the round is decided: the exchange finds it
Decides-found : (b : BookTerms) (words : List ℕ) (knowledge : List Knowledge) (id : ℕ) (v : Knowledge) (a round : ℕ) (d : Decision) (r : Request)
    → (ruled : Ruled b words knowledge) → IsBegun b → get_elem? knowledge id ≡ some v → 0 < length v.parts → IsAddress b (cell_of a round)
    → MayPropose b v a round d r → round < length (ruled.state.cells a) → Decided b words knowledge id v a round d
Decides-found b words knowledge id v a round d r ruled begun found part here may within =
    let s : BoardState = ruled.state in
    let e : Decision = decision_at (s.cells a) round in
    let knows = ruled.knows id v found in
    let first : v.first + 0 ≡ v.first = omega arith in
    let own : HasPart b words s v v.first (own_part v) = subst (λ t. HasPart b words s v t (own_part v)) first (knows.parts 0 part) in
    let law : IsSoundDecision b s a round e = ruled.sound.decisions a round within in
    let n = word_at b words (cell_of a round) in
    let is : n ≡ word_of e = ruled.shown.cells a round here ∙ cell_word-within (s.cells a) round within in
    let apart : n ≢ 0 = λ z. omega (arith, is, z) in
    let same_words : exchanged_words b words a round (word_of d) ≡ words =
    ap (λ (t : Bool). set words (index_of b (cell_of a round)) (either t (word_of d) n)) (ne_eqb n 0 apart) ∙ set-get_or words (index_of b (cell_of a round)) 0 in
    let w : Knowledge = with_part (with_decision v s.published a round e) (with_decide (own_part v) a None) in
    let mine = Knows-found b words s v a round part within may.free knows in
    record {
      after = w;
      ruled = subst (λ ws. Ruled b ws (set knowledge id w)) (sym same_words) (record {
        state = s;
        seat = ruled.seat;
        shown = ruled.shown;
        sound = ruled.sound;
        overtaking = ruled.overtaking;
        knows = knows_after b words s knowledge id w mine (λ j u off there. ruled.knows j u there);
        seated = AreSeated-set b ruled.seat knowledge id v w ruled.seated found refl (length-set v.parts 0 (with_decide (own_part v) a None));
      });
      told = record {
        decision = e;
        held = None;
        word = ap (λ (t : Bool). cond t (word_of d) n) (ne_eqb n 0 apart) ∙ is;
        range = law.range;
        slot_in = law.slot_in;
        number_in = omega (arith, law.announced, ruled.sound.row_room a e.slot);
        place = law.place;
        next = law.next;
        number = named-decided b s a round ruled.sound within;
        known = λ f sees. sym (seen-decision s v b words a round f knows sees).1;
        met = record {
          state = s;
          sound = ruled.sound;
          published = refl;
          requests = knows.requests;
          decisions = knows.decisions;
          within = omega (arith, within);
          undecided = λ e. absurd (omega (arith, e, within));
          stood = λ _. (refl, refl);
        };
        more = knows.seen;
        own = sym own.published;
        history = IsHistory-Sound b s ruled.shown.records.room ruled.sound begun;
        agrees = AgreesWithSeen-Knows b words s w ruled.sound mine;
        same = refl;
      };
    }

pub cell_word-past : (xs : List Decision) (r : ℕ) → length xs ≤ r → cell_word xs r ≡ 0
cell_word-past xs r past = ap (λ (t : Bool). cond t (word_of (decision_at xs r)) zero) (le-ltb r (length xs) past)

-- the words after an exchange that found 0
abbrev pub cell_words : BookTerms → List ℕ → ℕ → ℕ → ℕ → List ℕ
cell_words b words a round w = set words (index_of b (cell_of a round)) w

pub kept-cell : (b : BookTerms) (words : List ℕ) (a round w : ℕ) → IsAddress b (cell_of a round) → (y : Address) → IsAddress b y → y ≢ cell_of a round
    → word_at b (cell_words b words a round w) y ≡ word_at b words y
kept-cell b words a round w here y is apart = word_at-set_other b words (cell_of a round) y w here is apart

-- one more decision changes the word of its round alone
cell_word-push_same : (xs ys : List Decision) (d : Decision) → ys ≡ xs ++ d ∷ [] → cell_word ys (length xs) ≡ word_of d
cell_word-push_same xs ys d all =
    cell_word-within ys (length xs) (omega (arith, ap length all, length_push xs d))
    ∙ ap word_of (ap (λ t. decision_at t (length xs)) all ∙ get_or_push xs d no_decision (length xs) refl)

cell_word-push_other : (xs ys : List Decision) (d : Decision) (r : ℕ) → ys ≡ xs ++ d ∷ [] → r ≢ length xs → cell_word ys r ≡ cell_word xs r
cell_word-push_other xs ys d r all apart =
    elim (cases_lt r (length xs)) as (λ _. cell_word ys r ≡ cell_word xs r) [
      | inl below ↦
          cell_word-within ys r (omega (arith, below, ap length all, length_push xs d))
          ∙ (ap word_of ((KeptCells-push xs ys d all).kept r below) ∙ sym (cell_word-within xs r below))
      | inr above ↦
          cell_word-past ys r (omega (arith, above, apart, ap length all, length_push xs d)) ∙ sym (cell_word-past xs r above)
    ]

pub Shown-decided : (b : BookTerms) (words : List ℕ) (s : BoardState) (p a round : ℕ) (d : Decision) → Shown b words s
    → IsAddress b (cell_of a round) → length (s.cells a) ≡ round → Shown b (cell_words b words a round (word_of d)) (decided s p a d)
Shown-decided b words s p a round d shown here full =
    let w = word_of d in
    let after = cell_words b words a round w in
    let s' : BoardState = decided s p a d in
    let kept = kept-cell b words a round w here in
    record {
      sized = length-set words (index_of b (cell_of a round)) w ∙ shown.sized;
      records = record {
        lengths = λ q is. kept (length_of q) is (λ e. cc) ∙ shown.records.lengths q is;
        room = shown.records.room;
        records = λ q i j is below. kept (record_word q i j) is (λ e. cc) ∙ shown.records.records q i j is below;
        blank = λ q i j is above. kept (record_word q i j) is (λ e. cc) ∙ shown.records.blank q i j is above;
      };
      requests = record {
        lengths = λ k slot is. kept (announced_of k slot) is (λ e. cc) ∙ shown.requests.lengths k slot is;
        requests = λ k slot i j is below. kept (request_word k slot i j) is (λ e. cc) ∙ shown.requests.requests k slot i j is below;
        blank = λ k slot i j is above. kept (request_word k slot i j) is (λ e. cc) ∙ shown.requests.blank k slot i j is above;
      };
      cells = λ k r is. elim (cases_eq k a) as (λ _. word_at b after (cell_of k r) ≡ cell_word (s'.cells k) r) [
        | inl own ↦ elim (cases_eq r round) as (λ _. word_at b after (cell_of k r) ≡ cell_word (s'.cells k) r) [
          | inl same ↦
              let stored : word_at b after (cell_of k r) ≡ w =
              ap (word_at b after) (λ t. cell_of (own t) (same t)) ∙ word_at-set_same b words (cell_of a round) w shown.sized here in
              let at : r ≡ length (s.cells a) = same ∙ sym full in
              stored ∙ sym (ap (λ t. cell_word (s'.cells t) r) own
              ∙ (ap (cell_word (s'.cells a)) at ∙ cell_word-push_same (s.cells a) (s'.cells a) d (cells-own s p a d)))
          | inr apart ↦
              let off : r ≢ length (s.cells a) = λ e. apart (e ∙ full) in
              kept (cell_of k r) is (λ e. let same : r ≡ round = cc in apart same)
              ∙ (shown.cells k r is ∙ (ap (λ t. cell_word (s.cells t) r) own
              ∙ (sym (cell_word-push_other (s.cells a) (s'.cells a) d r (cells-own s p a d) off) ∙ ap (λ t. cell_word (s'.cells t) r) (sym own))))
        ]
        | inr other ↦
            kept (cell_of k r) is (λ e. let same : k ≡ a = cc in other same)
            ∙ (shown.cells k r is ∙ sym (ap (λ t. cell_word t r) (cells-other s p a k d other)))
      ];
    }

IsDecided-decided : (s : BoardState) (p a : ℕ) (d : Decision) (x : SeenDecision) → IsDecided s x → IsDecided (decided s p a d) x
IsDecided-decided s p a d x is =
    let kept = KeptCells-decided s p a x.account d in (omega (arith, is.0, kept.longer), kept.kept x.round is.0 ∙ is.1)

HasAsking-decided : (b : BookTerms) (words after : List ℕ) (s : BoardState) (p a : ℕ) (d : Decision) (v u : Knowledge) (k slot : ℕ) (w : Asking)
    → IsPrefix v.seen u.seen → u.requests ≡ v.requests → SameRequestWords b words after
    → HasAsking b words s v k slot w → HasAsking b after (decided s p a d) u k slot w
HasAsking-decided b words after s p a d v u k slot w longer requests same has = record {
  announced = has.announced;
  seen = λ i within. subst (λ (rs : List SeenRequest). Contains rs (record { account = k; slot = slot; number = i; request = request_at w.announced i })) (sym requests) (has.seen i within);
  sized = has.sized;
  stored = λ j is. same k slot (length w.announced) j is ∙ has.stored j is;
  heard = has.heard;
  rows = has.rows;
  loaded = has.loaded;
}

HasPart-decided : (b : BookTerms) (words after : List ℕ) (s : BoardState) (p a : ℕ) (d : Decision) (v u : Knowledge) (k : ℕ) (q : Part) (held : Option Cell)
    → IsPrefix v.seen u.seen → u.requests ≡ v.requests → SameRequestWords b words after → SameRecordWords b words after k q.published
    → count_of k u.seen ≡ q.published → held ≡ (decided s p a d).held k
    → HasPart b words s v k q → HasPart b after (decided s p a d) u k (record q { held = held })
HasPart-decided b words after s p a d v u k q held longer requests same record_same seen held_same has = record {
  known = has.known;
  published = has.published;
  seen = seen;
  sized = has.sized;
  stored = λ j is. record_same j is ∙ has.stored j is;
  held = held_same;
  lengths = has.lengths;
  accounts = has.accounts;
  asking = λ l slot slot_in. HasAsking-decided b words after s p a d v u l slot (asking_on q l) longer requests same (has.asking l slot slot_in);
}

-- what another seat knows
pub Knows-decided : (b : BookTerms) (words after : List ℕ) (s : BoardState) (p a : ℕ) (d : Decision) (v : Knowledge) → SameRequestWords b words after
    → ((k i : ℕ) → SameRecordWords b words after k i) → ((k : ℕ) → k < length v.parts → v.first + k ≢ p)
    → Knows b words s v → Knows b after (decided s p a d) v
Knows-decided b words after s p a d v same record_same apart knows = record {
  seen = knows.seen;
  requests = knows.requests;
  decisions = λ k x within. IsDecided-decided s p a d (get_or v.decisions k x) (knows.decisions k x within);
  parts = λ k within.
      let has = knows.parts k within in
      HasPart-decided b words after s p a d v v (v.first + k) (part_at v k) (part_at v k).held (IsPrefix-refl v.seen) refl same
      (record_same (v.first + k) (part_at v k).published) has.seen
      (has.held ∙ sym (held-other s p a (v.first + k) d (apart k within))) has;
}

-- the round is decided as proposed
IsDecided-last : (s : BoardState) (p a round : ℕ) (d : Decision) → length (s.cells a) ≡ round
    → IsDecided (decided s p a d) (record { account = a; round = round; decision = d })
IsDecided-last s p a round d full = (
  omega (arith, full, ap length (cells-own s p a d), length_push (s.cells a) d),
  ap (λ t. decision_at t round) (cells-own s p a d) ∙ get_or_push (s.cells a) d no_decision round full,
)

-- what the seat knows whose proposal is decided
pub Knows-proposed : (b : BookTerms) (words after : List ℕ) (s : BoardState) (a round : ℕ) (d : Decision) (v : Knowledge) → 0 < length v.parts
    → SameRequestWords b words after → ((k i : ℕ) → SameRecordWords b words after k i) → length (s.cells a) ≡ round → Knows b words s v
    → Knows b after (decided s v.first a d)
    (with_part (with_decision v s.published a round d) (with_decide (own_part v) a (Some (cell a round))))
Knows-proposed b words after s a round d v part same record_same full knows =
    let s' : BoardState = decided s v.first a d in
    let q : Part = own_part v in
    let held : Option Cell = Some (cell a round) in
    let u : Knowledge = with_part (with_decision v s.published a round d) (with_decide q a held) in
    let first : v.first + 0 ≡ v.first = omega arith in
    let moved : (k : ℕ) → k < length v.parts → (h : Option Cell) → h ≡ s'.held (v.first + k)
    → HasPart b after s' u (v.first + k) (record (part_at v k) { held = h }) =
    λ k inside h is.
    let has = knows.parts k inside in
    HasPart-decided b words after s v.first a d v u (v.first + k) (part_at v k) h knows.seen refl same
    (record_same (v.first + k) (part_at v k).published) (sym has.published) is has in
    let holds : held ≡ s'.held (v.first + 0) = sym (ap s'.held first ∙ (held-own s v.first a d ∙ ap (λ n. Some (cell a n)) full)) in
    record {
      seen = IsPrefix-refl s.published;
      requests = knows.requests;
      decisions = All-IsDecided s' v.decisions (record { account = a; round = round; decision = d })
          (λ k x within. IsDecided-decided s v.first a d (get_or v.decisions k x) (knows.decisions k x within)) (IsDecided-last s v.first a round d full);
      parts = parts_after (λ k t. HasPart b after s' u (v.first + k) t) v.parts (with_decide q a held) part
          (HasPart-count b after s' u (v.first + 0) (record q { held = held }) a (moved 0 part held holds))
          (λ k apart inside.
          let has = knows.parts k inside in
          moved k inside (part_at v k).held (has.held ∙ sym (held-other s v.first a (v.first + k) d (λ e. apart (omega arith)))));
    }

pub IsNextDecision-MayPropose : (b : BookTerms) (words : List ℕ) (s : BoardState) (v : Knowledge) (a round : ℕ) (d : Decision) (r : Request)
    → Sound b s → Knows b words s v → IsAddress b (cell_of a round) → MayPropose b v a round d r → IsNextDecision b s a round d
IsNextDecision-MayPropose b words s v a round d r sound knows here may =
    let place : d.place ≤ length s.published = omega (arith, may.place, IsPrefix-length v.seen s.published knows.seen) in
    let same : take d.place v.seen ≡ take d.place s.published = sym (take-IsPrefix-le d.place v.seen s.published may.place knows.seen) in
    let next : rounds a (take d.place s.published) ≡ round = subst (λ t. rounds a t ≡ round) same may.next in
    let announced : IsAnnounced s (record { account = a; slot = d.slot; number = d.number; request = r }) =
    seen_request s v.requests (record { account = a; slot = d.slot; number = d.number; request = r }) knows.requests may.named in
    let is : r ≡ request_at (s.rows a d.slot) d.number = sym announced.1 in
    record {
      law = record {
        range = may.range;
        room = here.1;
        slot_in = (sound.requests a d.slot d.number announced.0).slot_in;
        place = place;
        next = next;
        announced = announced.0;
        since = subst (λ (t : Request). t.since ≤ d.place) is may.since;
        ok = subst (λ (t : Request). (d.ok ≡ true) ↔ IsCovered b (take d.place s.published) a (amount_of t.targets)) is
            (subst (λ t. (d.ok ≡ true) ↔ IsCovered b t a (amount_of r.targets)) same may.ok);
      };
      within = omega (arith, next, (AreDecided-take b s d.place (HasRuns-Sound b s sound) place a).rounds_within);
      unsettled = subst (λ t. is_settled a d.slot d.number t ≡ false) same may.oldest.unsettled;
    }

-- the round is undecided: the exchange decides the proposal
Decides-proposed : (b : BookTerms) (words : List ℕ) (knowledge : List Knowledge) (id : ℕ) (v : Knowledge) (a round : ℕ) (d : Decision) (r : Request)
    → (ruled : Ruled b words knowledge) → IsBegun b → get_elem? knowledge id ≡ some v → 0 < length v.parts → IsAddress b (cell_of a round)
    → MayPropose b v a round d r → length (ruled.state.cells a) ≤ round → Decided b words knowledge id v a round d
Decides-proposed b words knowledge id v a round d r ruled begun found part here may past =
    let s : BoardState = ruled.state in
    let knows = ruled.knows id v found in
    let first : v.first + 0 ≡ v.first = omega arith in
    let own : HasPart b words s v v.first (own_part v) = subst (λ t. HasPart b words s v t (own_part v)) first (knows.parts 0 part) in
    let proposed = IsNextDecision-MayPropose b words s v a round d r ruled.sound knows here may in
    let full : length (s.cells a) ≡ round = omega (arith, past, proposed.within) in
    let n = word_at b words (cell_of a round) in
    let is : n ≡ 0 = ruled.shown.cells a round here ∙ cell_word-past (s.cells a) round past in
    let after = cell_words b words a round (word_of d) in
    let same_words : exchanged_words b words a round (word_of d) ≡ after =
    ap (λ (t : Bool). set words (index_of b (cell_of a round)) (either t (word_of d) n)) (eq-eqb n 0 is) in
    let s' : BoardState = decided s v.first a d in
    let shown : Shown b after s' = Shown-decided b words s v.first a round d ruled.shown here full in
    let sound : Sound b s' = Sound-decided b s v.first a round d ruled.sound proposed full own.known (sym own.held ∙ may.free) in
    let same : SameRequestWords b words after = λ k slot i j at. kept-cell b words a round (word_of d) here (request_word k slot i j) at (λ e. cc) in
    let record_same : (k i : ℕ) → SameRecordWords b words after k i = λ k i j at. kept-cell b words a round (word_of d) here (record_word k i j) at (λ e. cc) in
    let held : Option Cell = Some (cell a round) in
    let w : Knowledge = with_part (with_decision v s.published a round d) (with_decide (own_part v) a held) in
    let mine = Knows-proposed b words after s a round d v part same record_same full knows in
    let last = IsDecided-last s v.first a round d full in
    record {
      after = w;
      ruled = subst (λ ws. Ruled b ws (set knowledge id w)) (sym same_words) (record {
        state = s';
        seat = ruled.seat;
        shown = shown;
        sound = sound;
        overtaking = Overtaking-decided b s v.first a round may.own d ruled.sound ruled.overtaking proposed full sound
            (IsOldestRequest-MayPropose b words s v a round d r ruled.sound knows own may);
        knows = knows_after b after s' knowledge id w mine
            (λ j u off there. Knows-decided b words after s v.first a d u same record_same
            (λ k inside. other_process b ruled.seat knowledge id j k v u ruled.seated found part there inside off) (ruled.knows j u there));
        seated = AreSeated-set b ruled.seat knowledge id v w ruled.seated found refl (length-set v.parts 0 (with_decide (own_part v) a held));
      });
      told = record {
        decision = d;
        held = held;
        word = ap (λ (t : Bool). cond t (word_of d) n) (eq-eqb n 0 is);
        range = proposed.law.range;
        slot_in = proposed.law.slot_in;
        number_in = omega (arith, proposed.law.announced, ruled.sound.row_room a d.slot);
        place = proposed.law.place;
        next = proposed.law.next;
        number = subst (λ (e : Decision). named a e.slot (take e.place s.published) ≡ e.number) last.1 (named-decided b s' a round sound last.0);
        known = λ f sees. absurd (omega (arith, past, (seen-decision s v b words a round f knows sees).0));
        met = record {
          state = s;
          sound = ruled.sound;
          published = refl;
          requests = knows.requests;
          decisions = knows.decisions;
          within = proposed.within;
          undecided = λ _. (refl, refl);
          stood = λ e. absurd (omega (arith, e, past));
        };
        more = knows.seen;
        own = sym own.published;
        history = IsHistory-Sound b s' shown.records.room sound begun;
        agrees = AgreesWithSeen-Knows b after s' w sound mine;
        same = refl;
      };
    }

pub Decides-Ruled : (b : BookTerms) (words : List ℕ) (knowledge : List Knowledge) (id : ℕ) (v : Knowledge) (a round : ℕ) (d : Decision) (r : Request)
    → Ruled b words knowledge → IsBegun b → get_elem? knowledge id ≡ some v → 0 < length v.parts → IsAddress b (cell_of a round)
    → MayPropose b v a round d r → Decided b words knowledge id v a round d
Decides-Ruled b words knowledge id v a round d r ruled begun found part here may =
    elim (cases_lt round (length (ruled.state.cells a))) as (λ _. Decided b words knowledge id v a round d) [
      | inl within ↦ Decides-found b words knowledge id v a round d r ruled begun found part here may within
      | inr past ↦ Decides-proposed b words knowledge id v a round d r ruled begun found part here may past
    ]

module _ {S : Type 0} where
  decides : (slots id : ℕ) (me : Me S Knowledge) (a round : ℕ) (d : Decision) (r : Request) → IsKept me.0 → MayPropose me.0.book me.0 a round d r
      → let i = index_of me.0.book (cell_of a round) in let w = word_of d in
      Allows (λ s. Ruled me.0.book s.words s.views) slots id me i (λ n. either (n == 0) w n) (decided_round (step slots i 0 w none) me)
  decides slots id me a round d r kept may s holds homes found fits =
      let v : Knowledge = me.0 in
      let b : BookTerms = v.book in
      let here = IsAddress-MayPropose v a round d r kept.history kept.in_range may in
      let done = Decides-Ruled b s.words s.views id v a round d r holds kept.book.begun found (omega (arith, kept.one_part)) here may in
      let n = get_or s.words (index_of b (cell_of a round)) 0 in (
        done.after,
        keeps,
        tt,
        done.ruled,
        (
          refl,
          IsKept-step (exchanged_words b s.words a round (word_of d)) s.views id me.0 done.after found kept (ap (λ (t : Knowledge). t.book) done.told.same)
              (ap (λ (t : Knowledge). length t.parts) done.told.same ∙ length-set me.0.parts 0 _) done.told.history done.ruled,
          λ k l e q other at word.
              let same = index_of-injective b (cell_of a round) (cell_of k l) here (IsAddress-MayPropose v k l e q kept.history kept.in_range other) at in
              let account : a ≡ k = cc same in
              let number : round ≡ l = cc same in
              let decision : d ≡ e = same_decision d e may.range other.range word in
              subst (λ t. Decides b v done.after t l e (word_after n (word_of d))) account
              (subst (λ t. Decides b v done.after a t e (word_after n (word_of d))) number
              (subst (λ (t : Decision). Decides b v done.after a round t (word_after n (word_of d))) decision done.told)),
        ),
      )

  -- the same at a key, an index and a word that are these
  pub decides_at : (key : BookTerms) (slots id : ℕ) (me : Me S Knowledge) (a round : ℕ) (d : Decision) (r : Request) (i w : ℕ) → key ≡ me.0.book
      → i ≡ index_of me.0.book (cell_of a round) → w ≡ word_of d → IsKept me.0 → MayPropose me.0.book me.0 a round d r
      → Allows (λ s. Ruled key s.words s.views) slots id me i (λ n. either (n == 0) w n) (decided_round (step slots i 0 w none) me)
  decides_at key slots id me a round d r i w is at word kept may =
      let j = index_of me.0.book (cell_of a round) in
      allowed_at key slots id me i j (λ n. either (n == 0) w n) (λ k. decided_round (step slots k 0 w none) me) is at
      (subst (λ k. Allows (λ s. Ruled me.0.book s.words s.views) slots id me j (λ n. either (n == 0) k n) (decided_round (step slots j 0 k none) me)) (sym word)
      (decides slots id me a round d r kept may))

-- as many requests are announced
announced-decide : (q : Part) (a k : ℕ) (held : Option Cell) → k < length q.asking
    → length (asking_on (with_decide q a held) k).announced ≡ length (asking_on q k).announced
announced-decide q a k held within =
    let w : Asking = record (asking_on q a) { decides = (asking_on q a).decides + 1 } in
    elim (cases_eq k a) as (λ _. length (get_or (set q.asking a w) k no_asking).announced ≡ length (get_or q.asking k no_asking).announced) [
      | inl own ↦
          let inside : a < length q.asking = omega (arith, own, within) in
          ap (λ (t : Asking). length t.announced) (ap (λ t. get_or (set q.asking a w) t no_asking) own ∙ get_or-set_same q.asking a w no_asking inside)
          ∙ ap (λ t. length (get_or q.asking t no_asking).announced) (sym own)
      | inr other ↦ ap (λ (t : Asking). length t.announced) (get_or-set_other q.asking a k w no_asking other)
    ]

pub HasCounts-decided : (b : BookTerms) (v w : Knowledge) (a round : ℕ) (d : Decision) (n : ℕ) (counts : List ℕ) → 0 < length v.parts
    → length (own_part v).asking ≡ length v.book.accounts → Decides b v w a round d n → HasCounts v counts → HasCounts w counts
HasCounts-decided b v w a round d n counts part sized told has =
    let q : Part = own_part v in
    let u : Knowledge = with_decision v w.seen a round told.decision in
    let before : HasCounts u counts = record { sized = has.sized; counted = has.counted } in
    subst (λ t. HasCounts t counts) (sym told.same)
    (HasCounts-with_part u (with_decide q a told.held) counts part
    (λ k within. announced-decide q a k told.held (omega (arith, within, sized))) before)

-- one more decision is made
