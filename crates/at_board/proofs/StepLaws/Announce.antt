-- Announcing keeps the rule.
use Rattle.std.proofs.Common.{◌≡◌, ◌≢◌, ℕ, ◌+◌, ◌<◌, ◌≤◌, zero, List, [], ◌∷◌, ◌++◌, length, get_or, set, true, refl, sym, ap, subst, ◌∙◌, arith, inl, inr}
use Rattle.at_board.proofs.Prelude.{get_elem?, some, none, cases_lt, get_or_append_left, get_or_push, length-replicate, length-set, length_push, All-nil, All-push, Contains-append_left, Contains-push, Contains, Allows, Me, keeps, step, BookTerms, IsBegun, HasSlot, IsPrefix-length, IsPrefix-refl, take-IsPrefix-le, IsHistory-Sound, other_slot, get_or-zeros, Asked, Grows-announced, IsNextRequest, SameAsked-announced, Sound-announced, announced, announced_rows, announced_rows-here, announced_rows-other, asked_of, at_slot-here, length-Grows, slot_cases, with_asked, Overtaking-announced, BoardState, request_at, is_settled, rounds, Request, HasAsking, HasPart, IsAnnounced, Knows, part_asking, seen_as, with_asking, asking_on, own_part, part_at, HasCounts, IsKept, Ruled, MayAnnounce, Announces, with_request, announced_request, IsAddress, Address, announced_of, cell_of, length_of, index_of, record_word, request_word, word_at, request_words, Shown, Asking, LoadedWord, Part, SeenRequest, Knowledge}
use Rattle.at_board.proofs.KnowledgeLaws.Agreement.{AgreesWithSeen-Knows}
use Rattle.at_board.proofs.KnowledgeLaws.Asking.{HasPart-asking, HasPart-kept, IsLeft, Knows-kept, SameRequest, SeesMore, all_announced}
use Rattle.at_board.proofs.KnowledgeLaws.Counts.{HasCounts-counted}
use Rattle.at_board.proofs.KnowledgeLaws.Seats.{AreSeated-set, knows_after}
use Rattle.at_board.proofs.StepLaws.LoadLength.{parts_after}
use Rattle.at_board.proofs.StepLaws.StoreRecordWord.{other_process}
use Rattle.at_board.proofs.WordLaws.Same.{SameRecordWords}
use Rattle.at_board.proofs.KnowledgeLaws.Asking.{same_slot}
use Rattle.at_board.proofs.StepLaws.StoreRequestWord.{next_number}
use Rattle.at_board.proofs.KnowledgeLaws.Kept.{IsKept-step}
use Rattle.at_board.proofs.StepLaws.Table.{allowed_at}
use Rattle.at_board.proofs.WordLaws.Addresses.{word_at-set_other, word_at-set_same, index_of-injective}
use Rattle.at_board.proofs.WordLaws.Packed.{ArePacked-AreTargets, request_words-injective}

-- the words after an announcing step
abbrev pub announced_words : BookTerms → List ℕ → ℕ → ℕ → ℕ → List ℕ
announced_words b words a slot n = set words (index_of b (announced_of a slot)) n

-- nothing but the announced word has changed
kept-announced : (b : BookTerms) (words : List ℕ) (a slot n : ℕ) → IsAddress b (announced_of a slot) → (y : Address) → IsAddress b y
    → y ≢ announced_of a slot → word_at b (announced_words b words a slot n) y ≡ word_at b words y
kept-announced b words a slot n here y is apart = word_at-set_other b words (announced_of a slot) y n here is apart

-- the words of a request of a row, or of the new one
announced-request : (b : BookTerms) (words : List ℕ) (row : List Request) (r : Request) (a slot i j : ℕ)
    → (i < length row → word_at b words (request_word a slot i j) ≡ get_or (request_words (request_at row i)) j 0)
    → (i ≡ length row → word_at b words (request_word a slot i j) ≡ get_or (request_words r) j 0)
    → i < length (row ++ r ∷ []) → word_at b words (request_word a slot i j) ≡ get_or (request_words (request_at (row ++ r ∷ []) i)) j 0
announced-request b words row r a slot i j old new within =
    let none : Request = record { targets = []; since = 0 } in
    elim (cases_lt i (length row)) as (λ _. word_at b words (request_word a slot i j) ≡ get_or (request_words (request_at (row ++ r ∷ []) i)) j 0) [
      | inl below ↦ old below ∙ sym (ap (λ (t : Request). get_or (request_words t) j 0) (get_or_append_left row (r ∷ []) none i below))
      | inr above ↦
          let at : i ≡ length row = omega (arith, within, length_push row r) in
          new at ∙ sym (ap (λ (t : Request). get_or (request_words t) j 0) (get_or_push row r none i (sym at)))
    ]

-- the words of the next request are those of the one that is announced
abbrev pub IsStored : BookTerms → List ℕ → ℕ → ℕ → ℕ → Request → Type 0
IsStored b words a slot n r = (j : ℕ) → IsAddress b (request_word a slot n j) → word_at b words (request_word a slot n j) ≡ get_or (request_words r) j 0

Shown-announced : (b : BookTerms) (words : List ℕ) (s : BoardState) (a slot : ℕ) (r : Request) → Shown b words s → IsAddress b (announced_of a slot)
    → IsStored b words a slot (length (s.rows a slot)) r
    → Shown b (announced_words b words a slot (length (s.rows a slot) + 1)) (with_asked s (announced s a slot r))
Shown-announced b words s a slot r shown here stored =
    let n = length (s.rows a slot) + 1 in
    let after = announced_words b words a slot n in
    let rows = announced_rows s.rows a slot r in
    let kept = kept-announced b words a slot n here in
    let grown : length (rows a slot) ≡ n = ap length (announced_rows-here s.rows a slot r) ∙ length_push (s.rows a slot) r in
    record {
      sized = length-set words (index_of b (announced_of a slot)) n ∙ shown.sized;
      records = record {
        lengths = λ p within. kept (length_of p) within (λ e. cc) ∙ shown.records.lengths p within;
        room = shown.records.room;
        records = λ p i k is below. kept (record_word p i k) is (λ e. cc) ∙ shown.records.records p i k is below;
        blank = λ p i k is above. kept (record_word p i k) is (λ e. cc) ∙ shown.records.blank p i k is above;
      };
      requests = record {
        lengths = λ c other is. elim (slot_cases a slot c other) as (λ _. word_at b after (announced_of c other) ≡ length (rows c other)) [
          | inl same ↦
              subst (λ t. word_at b after (announced_of t other) ≡ length (rows t other)) (sym same.0)
              (subst (λ t. word_at b after (announced_of a t) ≡ length (rows a t)) (sym same.1)
              (word_at-set_same b words (announced_of a slot) n shown.sized here ∙ sym grown))
          | inr apart ↦
              kept (announced_of c other) is (λ e. let account : c ≡ a = cc in let slot_is : other ≡ slot = cc in apart (account, slot_is))
              ∙ (shown.requests.lengths c other is ∙ sym (ap length (announced_rows-other s.rows a slot c other r apart)))
        ];
        requests = λ c other i j is below. kept (request_word c other i j) is (λ e. cc)
            ∙ elim (slot_cases a slot c other) as (λ _. word_at b words (request_word c other i j) ≡ get_or (request_words (request_at (rows c other) i)) j 0) [
              | inl same ↦ row_words c other i j is below same
              | inr apart ↦
                  let e = announced_rows-other s.rows a slot c other r apart in
                  subst (λ row. word_at b words (request_word c other i j) ≡ get_or (request_words (request_at row i)) j 0) (sym e)
                  (shown.requests.requests c other i j is (subst (λ row. i < length row) e below))
            ];
        blank = λ c other i j is above. kept (request_word c other i j) is (λ e. cc)
            ∙ shown.requests.blank c other i j is (omega (arith, above, longer c other));
      };
      cells = λ c k is. kept (cell_of c k) is (λ e. cc) ∙ shown.cells c k is;
    }
  where
    longer : (c other : ℕ) → length (s.rows c other) ≤ length (announced_rows s.rows a slot r c other)
    longer c other = length-Grows s.rows (announced_rows s.rows a slot r) c other (Grows-announced s.rows a slot r)

    row_words : (c other i j : ℕ) → IsAddress b (request_word c other i j) → i < length (announced_rows s.rows a slot r c other)
        → (c ≡ a) × (other ≡ slot)
        → word_at b words (request_word c other i j) ≡ get_or (request_words (request_at (announced_rows s.rows a slot r c other) i)) j 0
    row_words c other i j is below same =
        let rows = announced_rows s.rows a slot r in
        let e = announced_rows-here s.rows a slot r in
        let is_here : IsAddress b (request_word a slot i j) = subst (λ t. IsAddress b (request_word a t i j)) same.1 (subst (λ t. IsAddress b (request_word t other i j)) same.0 is) in
        let inside : i < length (rows a slot) = subst (λ t. i < length (rows a t)) same.1 (subst (λ t. i < length (rows t other)) same.0 below) in
        let there = announced-request b words (s.rows a slot) r a slot i j (λ early. shown.requests.requests a slot i j is_here early)
        (λ last. subst (λ k. word_at b words (request_word a slot k j) ≡ get_or (request_words r) j 0) (sym last)
        (stored j (subst (λ k. IsAddress b (request_word a slot k j)) last is_here))) (subst (λ row. i < length row) e inside) in
        subst (λ t. word_at b words (request_word t other i j) ≡ get_or (request_words (request_at (rows t other) i)) j 0) (sym same.0)
        (subst (λ t. word_at b words (request_word a t i j) ≡ get_or (request_words (request_at (rows a t) i)) j 0) (sym same.1)
        (subst (λ row. word_at b words (request_word a slot i j) ≡ get_or (request_words (request_at row i)) j 0) (sym e) there))

-- what the announcing process has on the account
HasAsking-announced : (b : BookTerms) (words after : List ℕ) (s : BoardState) (v u : Knowledge) (a slot : ℕ) (w : Asking) (r : Request)
    → Shown b words s → u.seen ≡ s.published → u.requests ≡ v.requests ++ seen_as a slot (length w.announced) r ∷ []
    → ((i j : ℕ) → IsAddress b (request_word a slot i j) → word_at b after (request_word a slot i j) ≡ word_at b words (request_word a slot i j))
    → HasAsking b words s v a slot w
    → HasAsking b after (with_asked s (announced s a slot r)) u a slot (with_request w r (rounds a s.published) (own_part v).loads)
HasAsking-announced b words after s v u a slot w r shown all requests kept has =
    let row = w.announced in
    let n = length row in
    let t : BoardState = with_asked s (announced s a slot r) in
    let x : SeenRequest = seen_as a slot n r in
    let none : Request = record { targets = []; since = 0 } in
    record {
      announced = ap (λ l. l ++ r ∷ []) has.announced ∙ sym (announced_rows-here s.rows a slot r);
      seen = λ i within. subst (λ (rs : List SeenRequest). Contains rs (seen_as a slot i (request_at (row ++ r ∷ []) i))) (sym requests)
          (elim (cases_lt i n) as (λ _. Contains (v.requests ++ x ∷ []) (seen_as a slot i (request_at (row ++ r ∷ []) i))) [
            | inl below ↦
                subst (λ q. Contains (v.requests ++ x ∷ []) (seen_as a slot i q)) (sym (get_or_append_left row (r ∷ []) none i below))
                (Contains-append_left v.requests (x ∷ []) (seen_as a slot i (request_at row i)) (has.seen i below))
            | inr above ↦
                let at : n ≡ i = omega (arith, within, length_push row r) in
                subst (λ q. Contains (v.requests ++ x ∷ []) (seen_as a slot i q)) (sym (get_or_push row r none i at))
                (subst (λ k. Contains (v.requests ++ x ∷ []) (seen_as a slot k r)) at (Contains-push v.requests x))
          ]);
      sized = length-replicate 6 zero;
      stored = λ j is. kept (length (row ++ r ∷ [])) j is
          ∙ (shown.requests.blank a slot (length (row ++ r ∷ [])) j is (omega (arith, length_push row r, ap length has.announced)) ∙ sym (get_or-zeros 6 j));
      heard = sym (at_slot-here s.heard a slot (rounds a s.published));
      rows = sym (at_slot-here s.seen_rows a slot []);
      loaded = All-nil (λ (l : LoadedWord). IsAnnounced t l.request);
    }

-- what may be announced keeps the laws of requests
IsNextRequest-MayAnnounce : (b : BookTerms) (words : List ℕ) (s : BoardState) (v : Knowledge) (a slot : ℕ) (r : Request) → Knows b words s v
    → (asking_on (own_part v) a).announced ≡ s.rows a slot → MayAnnounce b v a slot r → IsNextRequest b s a slot r
IsNextRequest-MayAnnounce b words s v a slot r knows row may = record {
  slot_in = may.asks.slot_in.within;
  room = omega (arith, may.asks.room, ap length row);
  targets = may.targets;
  since = omega (arith, may.since, IsPrefix-length v.seen s.published knows.seen);
  follows = λ before last. subst (λ xs. is_settled a slot before xs ≡ true) (sym (take-IsPrefix-le r.since v.seen s.published may.since knows.seen))
      (may.follows before (last ∙ sym (ap length row)));
}

pub Announces-Ruled : (b : BookTerms) (words : List ℕ) (knowledge : List Knowledge) (id : ℕ) (v : Knowledge) (a slot : ℕ) (r : Request) → Ruled b words knowledge → IsBegun b
    → get_elem? knowledge id ≡ some v → 0 < length v.parts → MayAnnounce b v a slot r
    → (w : Knowledge) × Ruled b (announced_words b words a slot (length (asking_on (own_part v) a).announced + 1)) (set knowledge id w) × Announces b v w a slot r
Announces-Ruled b words knowledge id v a slot r ruled begun found part may =
    let s : BoardState = ruled.state in
    let q : Part = own_part v in
    let w : Asking = asking_on q a in
    let mine = may.asks.slot_in in
    let here : IsAddress b (announced_of a slot) = (mine.account_in, mine.within) in
    let knows = ruled.knows id v found in
    let first : v.first + 0 ≡ v.first = omega arith in
    let own : HasPart b words s v v.first q = subst (λ t. HasPart b words s v t q) first (knows.parts 0 part) in
    let asking = own.asking a slot mine in
    let row = ap length asking.announced in
    let to : Asked = announced s a slot r in
    let grows = Grows-announced s.rows a slot r in
    let t : BoardState = with_asked s to in
    let after = announced_words b words a slot (length w.announced + 1) in
    let kept = kept-announced b words a slot (length w.announced + 1) here in
    let x : SeenRequest = seen_as a slot (length w.announced) r in
    let new : Asking = with_request w r (rounds a s.published) q.loads in
    let u : Knowledge = with_asking (record v { seen = s.published; requests = v.requests ++ x ∷ [] }) a new in
    let more : SeesMore v u = λ y sees. Contains-append_left v.requests (x ∷ []) y sees in
    let same_requests : (c other i : ℕ) → SameRequest b words after c other i = λ c other i j is. kept (request_word c other i j) is (λ e. cc) in
    let same_records : (p i : ℕ) → SameRecordWords b words after p i = λ p i j is. kept (record_word p i j) is (λ e. cc) in
    let stored : IsStored b words a slot (length (s.rows a slot)) r = λ j is.
    subst (λ n. word_at b words (request_word a slot n j) ≡ get_or (request_words r) j 0) row
    (asking.stored j (subst (λ n. IsAddress b (request_word a slot n j)) (sym row) is) ∙ ap (λ ws. get_or ws j 0) may.stored) in
    let shown : Shown b after t = subst (λ n. Shown b (announced_words b words a slot (n + 1)) t) (sym row) (Shown-announced b words s a slot r ruled.shown here stored) in
    let next = IsNextRequest-MayAnnounce b words s v a slot r knows asking.announced may in
    let sound = Sound-announced b s a slot r ruled.sound next in
    let left : (p : ℕ) (k : Part) → p ≢ v.first → IsLeft b words after (asked_of s) to p k = λ p k apart. record {
      record_words = same_records p k.published;
      asking = λ c other has. (
        SameAsked-announced s a slot c other r (other_slot b v.first p a c slot other mine has apart),
        same_requests c other (length (asking_on k c).announced),
      );
    } in
    let asks : (other : ℕ) → HasSlot b v.first a other → HasAsking b after t u a other new = λ other has.
    subst (λ k. HasAsking b after t u a k new) (same_slot b v.first a slot other mine has)
    (HasAsking-announced b words after s v u a slot w r ruled.shown refl refl (λ i j is. same_requests a slot i j is) asking) in
    let own_after : HasPart b after t u v.first (part_asking q a new) =
    HasPart-asking b words after s to v u v.first q a new grows knows.seen more (sym own.published) (same_records v.first q.published)
    (λ c other apart has. (SameAsked-announced s a slot c other r (λ same. apart same.0), same_requests c other (length (asking_on q c).announced)))
    asks own in
    let new_is : IsAnnounced t x = (
      omega (arith, ap length (announced_rows-here s.rows a slot r), length_push (s.rows a slot) r, row),
      ap (λ l. request_at l (length w.announced)) (announced_rows-here s.rows a slot r)
          ∙ get_or_push (s.rows a slot) r (record { targets = []; since = 0 }) (length w.announced) (sym row),
    ) in
    let knows_own : Knows b after t u = record {
      seen = IsPrefix-refl s.published;
      requests = All-push (IsAnnounced t) v.requests x (all_announced s to v.requests grows knows.requests) new_is;
      decisions = knows.decisions;
      parts = parts_after (λ k p. HasPart b after t u (v.first + k) p) v.parts (part_asking q a new) part
          (subst (λ p. HasPart b after t u p (part_asking q a new)) (sym first) own_after)
          (λ k apart within.
          let has = knows.parts k within in
          HasPart-kept b words after s to v u (v.first + k) (part_at v k) grows knows.seen more (sym has.published)
          (left (v.first + k) (part_at v k) (λ e. apart (omega arith))) has);
    } in (
      u,
      record {
        state = t;
        seat = ruled.seat;
        shown = shown;
        sound = sound;
        overtaking = Overtaking-announced b s a slot r ruled.sound ruled.overtaking next;
        knows = knows_after b after t knowledge id u knows_own (λ k p apart there. Knows-kept b words after s to p grows
            (λ m within. left (p.first + m) (part_at p m) (other_process b ruled.seat knowledge id k m v p ruled.seated found part there within apart))
            (ruled.knows k p there));
        seated = AreSeated-set b ruled.seat knowledge id v u ruled.seated found refl (length-set v.parts 0 (part_asking q a new));
      },
      record {
        more = knows.seen;
        all = record { state = t; sound = sound; published = refl; requests = knows_own.requests; decisions = knows_own.decisions };
        row = announced_rows-here s.rows a slot r ∙ ap (λ l. l ++ r ∷ []) (sym asking.announced);
        own = sym own.published;
        history = IsHistory-Sound b t shown.records.room sound begun;
        agrees = AgreesWithSeen-Knows b after t u sound knows_own;
        same = refl;
      },
    )

-- the stored words are those of one request
same_request : (b : BookTerms) (v : Knowledge) (a slot c other : ℕ) (r q : Request) → IsBegun b → a ≡ c → MayAnnounce b v a slot r → MayAnnounce b v c other q → r ≡ q
same_request b v a slot c other r q begun account one two =
    request_words-injective r q (ArePacked-AreTargets b r.targets begun one.targets) (ArePacked-AreTargets b q.targets begun two.targets)
    (sym one.stored ∙ (ap (λ k. (asking_on (own_part v) k).stored) account ∙ two.stored))

pub place-MayAnnounce : (b : BookTerms) (v : Knowledge) (a slot : ℕ) (r : Request) → MayAnnounce b v a slot r → IsAddress b (announced_of a slot)
place-MayAnnounce b v a slot r may = (may.asks.slot_in.account_in, may.asks.slot_in.within)

-- the seat's process may announce by the slot that it has
pub MayAnnounce-slot : (b : BookTerms) (v : Knowledge) (a slot other : ℕ) (r : Request) → MayAnnounce b v a slot r → HasSlot b v.first a other → MayAnnounce b v a other r
MayAnnounce-slot b v a slot other r may has = subst (λ k. MayAnnounce b v a k r) (same_slot b v.first a slot other may.asks.slot_in has) may

module _ {S : Type 0} where
  announces : (slots id : ℕ) (me : Me S Knowledge) (a slot : ℕ) (r : Request) → IsKept me.0 → MayAnnounce me.0.book me.0 a slot r
      → let i = index_of me.0.book (announced_of a slot) in let n = next_number me.0 a + 1 in
      Allows (λ s. Ruled me.0.book s.words s.views) slots id me i (λ _. n) (λ _. announced_request (step slots i n 0 none) me n)
  announces slots id me a slot r kept may s holds homes found fits =
      let b : BookTerms = me.0.book in
      let done = Announces-Ruled b s.words s.views id me.0 a slot r holds kept.book.begun found (omega (arith, kept.one_part)) may in (
        done.0,
        keeps,
        tt,
        done.1,
        (
          refl,
          IsKept-step (announced_words b s.words a slot (next_number me.0 a + 1)) s.views id me.0 done.0 found kept (ap (λ (t : Knowledge). t.book) done.2.same)
              (ap (λ (t : Knowledge). length t.parts) done.2.same ∙ length-set me.0.parts 0 _) done.2.history done.1,
          λ c other q there at.
              let e = index_of-injective b (announced_of a slot) (announced_of c other) (place-MayAnnounce b me.0 a slot r may) (place-MayAnnounce b me.0 c other q there) at in
              let account : a ≡ c = cc in
              let slot_is : slot ≡ other = cc in
              let request : r ≡ q = same_request b me.0 a slot c other r q kept.book.begun account may there in
              subst (λ t. Announces b me.0 done.0 t other q) account
              (subst (λ t. Announces b me.0 done.0 a t q) slot_is (subst (Announces b me.0 done.0 a slot) request done.2)),
        ),
      )

  pub announces_at : (key : BookTerms) (slots id : ℕ) (me : Me S Knowledge) (a slot : ℕ) (r : Request) (i n : ℕ) → key ≡ me.0.book
      → i ≡ index_of me.0.book (announced_of a slot) → n ≡ next_number me.0 a + 1 → IsKept me.0 → MayAnnounce me.0.book me.0 a slot r
      → Allows (λ s. Ruled key s.words s.views) slots id me i (λ _. n) (λ _. announced_request (step slots i n 0 none) me n)
  announces_at key slots id me a slot r i n is at counted kept may =
      let k = index_of me.0.book (announced_of a slot) in
      allowed_at key slots id me i k (λ _. n) (λ j _. announced_request (step slots j n 0 none) me n) is at
      (subst (λ m. Allows (λ s. Ruled me.0.book s.words s.views) slots id me k (λ _. m) (λ _. announced_request (step slots k m 0 none) me m)) (sym counted)
      (announces slots id me a slot r kept may))

pub HasCounts-announce : (b : BookTerms) (v w : Knowledge) (a slot : ℕ) (r : Request) (n : ℕ) (counts : List ℕ) → 0 < length v.parts
    → length (own_part v).asking ≡ length v.book.accounts → n ≡ next_number v a + 1 → Announces b v w a slot r → HasCounts v counts → HasCounts w (set counts a n)
HasCounts-announce b v w a slot r n counts part sized counted told has =
    let asking = asking_on (own_part v) a in
    subst (λ t. HasCounts t (set counts a n)) (sym told.same)
    (HasCounts-counted v w.seen (v.requests ++ seen_as a slot (next_number v a) r ∷ []) a n (with_request asking r (rounds a w.seen) (own_part v).loads) counts part sized
    (counted ∙ sym (length_push asking.announced r)) has)
