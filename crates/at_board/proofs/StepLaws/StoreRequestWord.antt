-- A store of a request's word keeps the rule.
use Rattle.std.proofs.Common.{◌≡◌, ◌≢◌, ℕ, ◌+◌, ◌<◌, List, length, get_or, set, refl, sym, ap, subst, ◌∙◌, arith, inl, inr}
use Rattle.at_board.proofs.Prelude.{get_elem?, some, none, cases_eq, get_or-set_other, get_or-set_same, length-set, Contains, Allows, Me, keeps, step, BookTerms, HasSlot, IsPrefix-refl, other_slot, Grows-refl, SameAsked-refl, asked_of, BoardState, request_at, HasAsking, HasPart, Knows, part_asking, seen_as, with_asking, asking_on, own_part, part_at, HasCounts, IsKept, Ruled, stored_request_word, MayStoreRequest, with_request_word, StoresRequestWord, IsAddress, Address, announced_of, cell_of, length_of, index_of, record_word, request_word, word_at, word_count, Shown, Asking, Part, SeenRequest, Knowledge}
use Rattle.at_board.proofs.KnowledgeLaws.Asking.{HasPart-asking, HasPart-kept, IsLeft, Knows-kept, SameRequest, same_slot}
use Rattle.at_board.proofs.KnowledgeLaws.Counts.{HasCounts-asking}
use Rattle.at_board.proofs.KnowledgeLaws.Seats.{AreSeated-set, knows_after}
use Rattle.at_board.proofs.StepLaws.LoadLength.{parts_after}
use Rattle.at_board.proofs.StepLaws.StoreRecordWord.{other_process}
use Rattle.at_board.proofs.KnowledgeLaws.Kept.{IsKept-step}
use Rattle.at_board.proofs.StepLaws.Table.{allowed_at}
use Rattle.at_board.proofs.WordLaws.Addresses.{word_at-set_other, word_at-set_same, index_of-injective}
use Rattle.at_board.proofs.WordLaws.Same.{SameRecordWords}

-- the words after a store in a request
abbrev pub request_stored : BookTerms → List ℕ → ℕ → ℕ → ℕ → ℕ → ℕ → List ℕ
request_stored b words a slot i j w = set words (index_of b (request_word a slot i j)) w

-- a store in a request changes no record
request_stored-records : (b : BookTerms) (words : List ℕ) (a slot i j w p k : ℕ) → IsAddress b (request_word a slot i j)
    → SameRecordWords b words (request_stored b words a slot i j w) p k
request_stored-records b words a slot i j w p k here = λ m is.
    word_at-set_other b words (request_word a slot i j) (record_word p k m) w here is (λ e. cc)

-- and no request of another slot
request_stored-others : (b : BookTerms) (words : List ℕ) (a slot i j w c other k : ℕ) → IsAddress b (request_word a slot i j)
    → ((c ≡ a) × (other ≡ slot) → ⊥) → SameRequest b words (request_stored b words a slot i j w) c other k
request_stored-others b words a slot i j w c other k here apart = λ m is.
    word_at-set_other b words (request_word a slot i j) (request_word c other k m) w here is
    (λ e. let account : c ≡ a = cc in let slot_is : other ≡ slot = cc in apart (account, slot_is))

-- a store in the next request shows the same state
Shown-request_stored : (b : BookTerms) (words : List ℕ) (s : BoardState) (a slot n j w : ℕ) → IsAddress b (request_word a slot n j)
    → n ≡ length (s.rows a slot) → Shown b words s → Shown b (request_stored b words a slot n j w) s
Shown-request_stored b words s a slot n j w here next shown =
    let x = request_word a slot n j in
    let kept : (y : Address) → IsAddress b y → y ≢ x → word_at b (set words (index_of b x) w) y ≡ word_at b words y =
    λ y is apart. word_at-set_other b words x y w here is apart in
    let apart : (c other i k : ℕ) → i ≢ length (s.rows c other) → request_word c other i k ≢ x = λ c other i k off e.
    let account : c ≡ a = cc in
    let slot_is : other ≡ slot = cc in
    let number : i ≡ n = cc in
    off (number ∙ (next ∙ (λ t. length (s.rows (sym account t) (sym slot_is t))))) in
    record {
      sized = length-set words (index_of b x) w ∙ shown.sized;
      records = record {
        lengths = λ p within. kept (length_of p) within (λ e. cc) ∙ shown.records.lengths p within;
        room = shown.records.room;
        records = λ p i k is below. kept (record_word p i k) is (λ e. cc) ∙ shown.records.records p i k is below;
        blank = λ p i k is above. kept (record_word p i k) is (λ e. cc) ∙ shown.records.blank p i k is above;
      };
      requests = record {
        lengths = λ c other is. kept (announced_of c other) is (λ e. cc) ∙ shown.requests.lengths c other is;
        requests = λ c other i k is below. kept (request_word c other i k) is (apart c other i k (λ e. omega arith)) ∙ shown.requests.requests c other i k is below;
        blank = λ c other i k is above. kept (request_word c other i k) is (apart c other i k (λ e. omega arith)) ∙ shown.requests.blank c other i k is above;
      };
      cells = λ c r is. kept (cell_of c r) is (λ e. cc) ∙ shown.cells c r is;
    }

-- what the storing process has on the account has the word
HasAsking-request_stored : (b : BookTerms) (words : List ℕ) (s : BoardState) (v u : Knowledge) (a slot : ℕ) (q : Asking) (j w : ℕ)
    → length words ≡ word_count b → IsAddress b (request_word a slot (length q.announced) j) → u.seen ≡ v.seen → u.requests ≡ v.requests
    → HasAsking b words s v a slot q → HasAsking b (request_stored b words a slot (length q.announced) j w) s u a slot (with_request_word q j w)
HasAsking-request_stored b words s v u a slot q j w sized here seen requests has =
    let n = length q.announced in
    let x = request_word a slot n j in
    let after = request_stored b words a slot n j w in
    record {
      announced = has.announced;
      seen = λ i within. subst (λ (rs : List SeenRequest). Contains rs (seen_as a slot i (request_at q.announced i))) (sym requests) (has.seen i within);
      sized = length-set q.stored j w ∙ has.sized;
      stored = λ k is. elim (cases_eq k j) as (λ _. word_at b after (request_word a slot n k) ≡ get_or (set q.stored j w) k 0) [
        | inl same ↦
            let there : word_at b after (request_word a slot n k) ≡ word_at b after x = ap (λ t. word_at b after (request_word a slot n t)) same in
            let stored : get_or (set q.stored j w) k 0 ≡ get_or (set q.stored j w) j 0 = ap (λ t. get_or (set q.stored j w) t 0) same in
            there ∙ (word_at-set_same b words x w sized here
            ∙ sym (stored ∙ get_or-set_same q.stored j w 0 (omega (arith, has.sized, here.3))))
        | inr apart ↦
            word_at-set_other b words x (request_word a slot n k) w here is (λ e. let same : k ≡ j = cc in apart same)
            ∙ (has.stored k is ∙ sym (get_or-set_other q.stored j k w 0 apart))
      ];
      heard = has.heard;
      rows = has.rows;
      loaded = has.loaded;
    }

pub StoresRequestWord-Ruled : (b : BookTerms) (words : List ℕ) (knowledge : List Knowledge) (id : ℕ) (v : Knowledge) (a slot j w : ℕ) → Ruled b words knowledge
    → get_elem? knowledge id ≡ some v → 0 < length v.parts → MayStoreRequest b v a slot → j < 6
    → Ruled b (request_stored b words a slot (length (asking_on (own_part v) a).announced) j w)
    (set knowledge id (with_asking v a (with_request_word (asking_on (own_part v) a) j w)))
StoresRequestWord-Ruled b words knowledge id v a slot j w ruled found part may inside =
    let s : BoardState = ruled.state in
    let q : Part = own_part v in
    let n = length (asking_on q a).announced in
    let knows = ruled.knows id v found in
    let first : v.first + 0 ≡ v.first = omega arith in
    let own : HasPart b words s v v.first q = subst (λ t. HasPart b words s v t q) first (knows.parts 0 part) in
    let mine = may.slot_in in
    let here : IsAddress b (request_word a slot n j) = (mine.account_in, mine.within, may.room, inside) in
    let after = request_stored b words a slot n j w in
    let new : Asking = with_request_word (asking_on q a) j w in
    let u : Knowledge = with_asking v a new in
    let asking = own.asking a slot mine in
    let shown = Shown-request_stored b words s a slot n j w here (ap length asking.announced) ruled.shown in
    let records : (p k : ℕ) → SameRecordWords b words after p k = λ p k. request_stored-records b words a slot n j w p k here in
    let left : (p : ℕ) (t : Part) → p ≢ v.first → IsLeft b words after (asked_of s) (asked_of s) p t = λ p t apart. record {
      record_words = records p t.published;
      asking = λ c other has. (SameAsked-refl (asked_of s) c other, request_stored-others b words a slot n j w c other (length (asking_on t c).announced) here (other_slot b v.first p a c slot other mine has apart));
    } in
    let own_after : HasPart b after s u v.first (part_asking q a new) =
    HasPart-asking b words after s (asked_of s) v u v.first q a new (Grows-refl s.rows) (IsPrefix-refl v.seen) (λ x sees. sees) own.seen (records v.first q.published)
    (λ c other apart has. (SameAsked-refl (asked_of s) c other, request_stored-others b words a slot n j w c other (length (asking_on q c).announced) here (λ same. apart same.0)))
    (λ other has. subst (λ t. HasAsking b after s u a t new) (same_slot b v.first a slot other mine has)
    (HasAsking-request_stored b words s v u a slot (asking_on q a) j w ruled.shown.sized here refl refl asking)) own in
    let knows_own : Knows b after s u = record {
      seen = knows.seen;
      requests = knows.requests;
      decisions = knows.decisions;
      parts = parts_after (λ k t. HasPart b after s u (v.first + k) t) v.parts (part_asking q a new) part
          (subst (λ t. HasPart b after s u t (part_asking q a new)) (sym first) own_after)
          (λ k apart within. HasPart-kept b words after s (asked_of s) v u (v.first + k) (part_at v k) (Grows-refl s.rows) (IsPrefix-refl v.seen) (λ x sees. sees)
          (knows.parts k within).seen (left (v.first + k) (part_at v k) (λ e. apart (omega arith))) (knows.parts k within));
    } in
    record {
      state = s;
      seat = ruled.seat;
      shown = shown;
      sound = ruled.sound;
      overtaking = ruled.overtaking;
      knows = knows_after b after s knowledge id u knows_own (λ k t apart there. Knows-kept b words after s (asked_of s) t (Grows-refl s.rows)
          (λ m within. left (t.first + m) (part_at t m) (other_process b ruled.seat knowledge id k m v t ruled.seated found part there within apart))
          (ruled.knows k t there));
      seated = AreSeated-set b ruled.seat knowledge id v u ruled.seated found refl (length-set v.parts 0 (part_asking q a new));
    }

-- how many requests the seat's process has announced on an account
abbrev pub next_number : Knowledge → ℕ → ℕ
next_number v a = length (asking_on (own_part v) a).announced

-- the seat's process may ask by the slot that it has
pub MayStoreRequest-slot : (b : BookTerms) (v : Knowledge) (a slot other : ℕ) → MayStoreRequest b v a slot → HasSlot b v.first a other → MayStoreRequest b v a other
MayStoreRequest-slot b v a slot other may has = subst (MayStoreRequest b v a) (same_slot b v.first a slot other may.slot_in has) may

pub place-MayStoreRequest : (b : BookTerms) (v : Knowledge) (a slot j : ℕ) → MayStoreRequest b v a slot → j < 6 → IsAddress b (request_word a slot (next_number v a) j)
place-MayStoreRequest b v a slot j may inside = (may.slot_in.account_in, may.slot_in.within, may.room, inside)

module _ {S : Type 0} where
  stores_request_word : (slots id : ℕ) (me : Me S Knowledge) (a slot j w : ℕ) → IsKept me.0 → MayStoreRequest me.0.book me.0 a slot → j < 6
      → let i = index_of me.0.book (request_word a slot (next_number me.0 a) j) in
      Allows (λ s. Ruled me.0.book s.words s.views) slots id me i (λ _. w) (λ _. stored_request_word (step slots i w 0 none) me w)
  stores_request_word slots id me a slot j w kept may inside s holds homes found fits =
      let v : Knowledge = me.0 in
      let b : BookTerms = v.book in
      let x = request_word a slot (next_number v a) j in
      let after : Knowledge = with_asking v a (with_request_word (asking_on (own_part v) a) j w) in
      let done = StoresRequestWord-Ruled b s.words s.views id v a slot j w holds found (omega (arith, kept.one_part)) may inside in (
        after,
        keeps,
        tt,
        done,
        (
          refl,
          IsKept-step (set s.words (index_of b x) w) s.views id v after found kept refl (length-set v.parts 0 _) kept.history done,
          λ c other k other_may within at.
              let y = request_word c other (next_number v c) k in
              let e = index_of-injective b x y (place-MayStoreRequest b v a slot j may inside) (place-MayStoreRequest b v c other k other_may within) at in
              let account : a ≡ c = cc in
              let word : j ≡ k = cc in
              λ t. with_asking v (account t) (with_request_word (asking_on (own_part v) (account t)) (word t) w),
        ),
      )

  pub stores_request_word_at : (key : BookTerms) (slots id : ℕ) (me : Me S Knowledge) (a slot j w i : ℕ) → key ≡ me.0.book
      → i ≡ index_of me.0.book (request_word a slot (next_number me.0 a) j) → IsKept me.0 → MayStoreRequest me.0.book me.0 a slot → j < 6
      → Allows (λ s. Ruled key s.words s.views) slots id me i (λ _. w) (λ _. stored_request_word (step slots i w 0 none) me w)
  stores_request_word_at key slots id me a slot j w i is at kept may inside =
      allowed_at key slots id me i (index_of me.0.book (request_word a slot (next_number me.0 a) j)) (λ _. w) (λ k _. stored_request_word (step slots k w 0 none) me w)
      is at (stores_request_word slots id me a slot j w kept may inside)

pub HasCounts-request_stored : (v w : Knowledge) (a j n : ℕ) (counts : List ℕ) → 0 < length v.parts
    → length (own_part v).asking ≡ length v.book.accounts → StoresRequestWord v w a j n → HasCounts v counts → HasCounts w counts
HasCounts-request_stored v w a j n counts part sized told has =
    subst (λ t. HasCounts t counts) (sym told)
    (HasCounts-asking v v.seen v.requests a (with_request_word (asking_on (own_part v) a) j n) counts part sized refl has)
