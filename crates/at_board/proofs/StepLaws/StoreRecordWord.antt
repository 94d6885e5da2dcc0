-- A store of a record's word keeps the rule.
use Rattle.std.proofs.Common.{◌≡◌, ◌≢◌, ℕ, ◌+◌, ◌<◌, List, length, get_or, set, refl, sym, ap, subst, ◌∙◌, arith, inl, inr}
use Rattle.at_board.proofs.Prelude.{get_elem?, some, cases_eq, get_or-set_other, get_or-set_same, length-set, Contains, BookTerms, log_room_of, BoardState, request_at, count_of, HasAsking, HasPart, Knows, with_part, asking_on, own_part, part_at, AreSeated, Ruled, with_word, IsAddress, Address, announced_of, cell_of, length_of, index_of, record_width, record_word, request_word, word_at, word_count, Shown, Asking, Part, SeenRequest, Knowledge}
use Rattle.at_board.proofs.KnowledgeLaws.Seats.{AreSeated-set, knows_after}
use Rattle.at_board.proofs.StepLaws.LoadLength.{parts_after}
use Rattle.at_board.proofs.WordLaws.Addresses.{word_at-set_other, word_at-set_same}
use Rattle.at_board.proofs.WordLaws.Same.{SameRequestWords, SameRecordWords}

pub HasAsking-words : (b : BookTerms) (words after : List ℕ) (s : BoardState) (v u : Knowledge) (a slot : ℕ) (w : Asking)
    → u.seen ≡ v.seen → u.requests ≡ v.requests → SameRequestWords b words after
    → HasAsking b words s v a slot w → HasAsking b after s u a slot w
HasAsking-words b words after s v u a slot w seen requests same has = record {
  announced = has.announced;
  seen = λ i within. subst (λ (rs : List SeenRequest). Contains rs (record { account = a; slot = slot; number = i; request = request_at w.announced i })) (sym requests) (has.seen i within);
  sized = has.sized;
  stored = λ j is. same a slot (length w.announced) j is ∙ has.stored j is;
  heard = has.heard;
  rows = has.rows;
  loaded = has.loaded;
}

-- the part of a process whose next record and whose requests have the same words
pub HasPart-words : (b : BookTerms) (words after : List ℕ) (s : BoardState) (v u : Knowledge) (p : ℕ) (q : Part)
    → u.seen ≡ v.seen → u.requests ≡ v.requests → SameRequestWords b words after → SameRecordWords b words after p q.published
    → HasPart b words s v p q → HasPart b after s u p q
HasPart-words b words after s v u p q seen requests same record_same has = record {
  known = has.known;
  published = has.published;
  seen = ap (count_of p) seen ∙ has.seen;
  sized = has.sized;
  stored = λ j is. record_same j is ∙ has.stored j is;
  held = has.held;
  lengths = has.lengths;
  accounts = has.accounts;
  asking = λ a slot slot_in. HasAsking-words b words after s v u a slot (asking_on q a) seen requests same (has.asking a slot slot_in);
}

pub Knows-words : (b : BookTerms) (words after : List ℕ) (s : BoardState) (v : Knowledge) → SameRequestWords b words after
    → ((k : ℕ) → k < length v.parts → SameRecordWords b words after (v.first + k) (part_at v k).published)
    → Knows b words s v → Knows b after s v
Knows-words b words after s v same record_same knows = record {
  seen = knows.seen;
  requests = knows.requests;
  decisions = knows.decisions;
  parts = λ k within. HasPart-words b words after s v v (v.first + k) (part_at v k) refl refl same (record_same k within) (knows.parts k within);
}

-- a store in the next record of a process changes no request
store-requests : (b : BookTerms) (words : List ℕ) (p c j w : ℕ) → IsAddress b (record_word p c j)
    → SameRequestWords b words (set words (index_of b (record_word p c j)) w)
store-requests b words p c j w here = λ a slot i k is.
    word_at-set_other b words (record_word p c j) (request_word a slot i k) w here is (λ e. cc)

-- and no record of another process
store-others : (b : BookTerms) (words : List ℕ) (p c j w other i : ℕ) → IsAddress b (record_word p c j) → other ≢ p
    → SameRecordWords b words (set words (index_of b (record_word p c j)) w) other i
store-others b words p c j w other i here apart = λ k is.
    word_at-set_other b words (record_word p c j) (record_word other i k) w here is (λ e. let same : other ≡ p = cc in apart same)

-- a store in the next record shows the same state
Shown-store : (b : BookTerms) (words : List ℕ) (s : BoardState) (p j w : ℕ) → IsAddress b (record_word p (count_of p s.published) j)
    → Shown b words s → Shown b (set words (index_of b (record_word p (count_of p s.published) j)) w) s
Shown-store b words s p j w here shown =
    let x = record_word p (count_of p s.published) j in
    let kept : (y : Address) → IsAddress b y → y ≢ x → word_at b (set words (index_of b x) w) y ≡ word_at b words y =
    λ y is apart. word_at-set_other b words x y w here is apart in
    record {
      sized = length-set words (index_of b x) w ∙ shown.sized;
      records = record {
        lengths = λ q within. kept (length_of q) within (λ e. cc) ∙ shown.records.lengths q within;
        room = shown.records.room;
        records = λ q i k is below. kept (record_word q i k) is (λ e.
            let same : q ≡ p = cc in
            let at : i ≡ count_of p s.published = cc in
            absurd (omega (arith, below, at, ap (λ t. count_of t s.published) same))) ∙ shown.records.records q i k is below;
        blank = λ q i k is above. kept (record_word q i k) is (λ e.
            let same : q ≡ p = cc in
            let at : i ≡ count_of p s.published = cc in
            absurd (omega (arith, above, at, ap (λ t. count_of t s.published) same))) ∙ shown.records.blank q i k is above;
      };
      requests = record {
        lengths = λ a slot is. kept (announced_of a slot) is (λ e. cc) ∙ shown.requests.lengths a slot is;
        requests = λ a slot i k is below. kept (request_word a slot i k) is (λ e. cc) ∙ shown.requests.requests a slot i k is below;
        blank = λ a slot i k is above. kept (request_word a slot i k) is (λ e. cc) ∙ shown.requests.blank a slot i k is above;
      };
      cells = λ a r is. kept (cell_of a r) is (λ e. cc) ∙ shown.cells a r is;
    }

-- the part of the storing process has the word
HasPart-store : (b : BookTerms) (words : List ℕ) (s : BoardState) (v u : Knowledge) (p : ℕ) (q : Part) (j w : ℕ)
    → length words ≡ word_count b → IsAddress b (record_word p q.published j) → u.seen ≡ v.seen → u.requests ≡ v.requests
    → HasPart b words s v p q → HasPart b (set words (index_of b (record_word p q.published j)) w) s u p (with_word q j w)
HasPart-store b words s v u p q j w sized here seen requests has =
    let x = record_word p q.published j in
    let after = set words (index_of b x) w in
    record {
      known = has.known;
      published = has.published;
      seen = ap (count_of p) seen ∙ has.seen;
      sized = length-set q.stored j w ∙ has.sized;
      stored = λ k is. elim (cases_eq k j) as (λ _. word_at b after (record_word p q.published k) ≡ get_or (set q.stored j w) k 0) [
        | inl same ↦
            let there : word_at b after (record_word p q.published k) ≡ word_at b after x = ap (λ t. word_at b after (record_word p q.published t)) same in
            let stored : get_or (set q.stored j w) k 0 ≡ get_or (set q.stored j w) j 0 = ap (λ t. get_or (set q.stored j w) t 0) same in
            there ∙ (word_at-set_same b words x w sized here
            ∙ sym (stored ∙ get_or-set_same q.stored j w 0 (omega (arith, has.sized, here.2))))
        | inr apart ↦
            word_at-set_other b words x (record_word p q.published k) w here is (λ e. let same : k ≡ j = cc in apart same)
            ∙ (has.stored k is ∙ sym (get_or-set_other q.stored j k w 0 apart))
      ];
      held = has.held;
      lengths = has.lengths;
      accounts = has.accounts;
      asking = λ a slot slot_in. HasAsking-words b words after s v u a slot (asking_on q a) seen requests
          (store-requests b words p q.published j w here) (has.asking a slot slot_in);
    }

-- the processes of other seats are others
pub other_process : (b : BookTerms) (seat : ℕ → ℕ) (knowledge : List Knowledge) (id other k : ℕ) (v u : Knowledge) → AreSeated b seat knowledge
    → get_elem? knowledge id ≡ some v → 0 < length v.parts → get_elem? knowledge other ≡ some u → k < length u.parts → other ≢ id
    → u.first + k ≢ v.first
other_process b seat knowledge id other k v u seated found part there within apart = λ e.
    let mine = seated.only id v.first v found (omega arith, omega arith) in
    let theirs = seated.only other (u.first + k) u there (omega arith, omega arith) in
    apart (sym theirs ∙ (ap seat e ∙ mine))

pub StoresWord-Ruled : (b : BookTerms) (words : List ℕ) (knowledge : List Knowledge) (id : ℕ) (v : Knowledge) (j w : ℕ) → Ruled b words knowledge
    → get_elem? knowledge id ≡ some v → 0 < length v.parts → (own_part v).published < log_room_of b v.first → j < record_width b
    → Ruled b (set words (index_of b (record_word v.first (own_part v).published j)) w) (set knowledge id (with_part v (with_word (own_part v) j w)))
StoresWord-Ruled b words knowledge id v j w ruled found part room inside =
    let s : BoardState = ruled.state in
    let q : Part = own_part v in
    let knows = ruled.knows id v found in
    let first : v.first + 0 ≡ v.first = omega arith in
    let own : HasPart b words s v v.first q = subst (λ t. HasPart b words s v t q) first (knows.parts 0 part) in
    let here : IsAddress b (record_word v.first q.published j) = (own.known, room, inside) in
    let x = record_word v.first q.published j in
    let after = set words (index_of b x) w in
    let u : Knowledge = with_part v (with_word q j w) in
    let requests = store-requests b words v.first q.published j w here in
    let shown : Shown b after s = subst (λ c. Shown b (set words (index_of b (record_word v.first c j)) w) s) (sym own.published)
    (Shown-store b words s v.first j w (subst (λ c. IsAddress b (record_word v.first c j)) own.published here) ruled.shown) in
    let mine : Knows b after s u = record {
      seen = knows.seen;
      requests = knows.requests;
      decisions = knows.decisions;
      parts = parts_after (λ k t. HasPart b after s u (v.first + k) t) v.parts (with_word q j w) part
          (subst (λ t. HasPart b after s u t (with_word q j w)) (sym first)
          (HasPart-store b words s v u v.first q j w ruled.shown.sized here refl refl own))
          (λ k apart within. HasPart-words b words after s v u (v.first + k) (part_at v k) refl refl requests
          (store-others b words v.first q.published j w (v.first + k) (part_at v k).published here (λ e. apart (omega arith)))
          (knows.parts k within));
    } in
    record {
      state = s;
      seat = ruled.seat;
      shown = shown;
      sound = ruled.sound;
      overtaking = ruled.overtaking;
      knows = knows_after b after s knowledge id u mine (λ other t apart there. Knows-words b words after s t requests
          (λ k within. store-others b words v.first q.published j w (t.first + k) (part_at t k).published here
          (other_process b ruled.seat knowledge id other k v t ruled.seated found part there within apart))
          (ruled.knows other t there));
      seated = AreSeated-set b ruled.seat knowledge id v u ruled.seated found refl (length-set v.parts 0 (with_word q j w));
    }
