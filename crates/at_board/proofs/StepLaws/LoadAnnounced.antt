-- A load of an announced word keeps the rule.
use Rattle.std.proofs.Common.{◌≡◌, ◌≢◌, ℕ, ◌+◌, ◌<◌, ◌≤◌, List, [], ◌∷◌, ◌++◌, length, get_or, set, Option, Some, None, refl, sym, ap, subst, ◌∙◌, arith}
use Rattle.at_board.proofs.Prelude.{get_elem?, some, none, length-set, set-get_or, All-append, All-contains, All-from_get_or, All-map, Contains-append_left, get_or-range_with_len, length-range_with_len, All, range_with_len, Allows, Me, keeps, step, slot_in, BookTerms, HasSlot, IsBegun, account_of, IsPrefix-refl, IsHistory-Sound, slot_in-injective, Asked, Grows-refl, Sound-row_loaded, asked_of, at_slot, at_slot-here, at_slot-other, with_asked, Overtaking-row_loaded, BoardState, request_at, Overtaking, IsPrefix, count_of, AreTargets, Sound, Publication, Request, SeenRow, HasAsking, HasPart, IsAnnounced, Knows, part_asking, seen_as, with_asking, asking_on, own_part, part_at, HasCounts, IsKept, Ruled, LoadsAnnounced, all_of, with_row, loaded_announced, IsAddress, announced_of, word_at, index_of, Shown, Asking, Part, SeenRequest, Knowledge}
use Rattle.at_board.proofs.KnowledgeLaws.Agreement.{AgreesWithSeen-Knows}
use Rattle.at_board.proofs.KnowledgeLaws.Asking.{HasPart-asking, HasPart-kept, IsAnnounced-Grows, IsLeft, Knows-kept, SeesMore, all_announced, loaded-Grows}
use Rattle.at_board.proofs.KnowledgeLaws.Counts.{HasCounts-asking}
use Rattle.at_board.proofs.KnowledgeLaws.Seats.{AreSeated-set, knows_after}
use Rattle.at_board.proofs.StepLaws.LoadLength.{parts_after}
use Rattle.at_board.proofs.StepLaws.StoreRecordWord.{other_process}
use Rattle.at_board.proofs.KnowledgeLaws.Kept.{IsKept-step}
use Rattle.at_board.proofs.StepLaws.Table.{allowed_at}
use Rattle.at_board.proofs.WordLaws.Addresses.{index_of-injective}

-- what holds of each request of a row by its number
pub All-all_of : (P : SeenRequest → Type 0) (a slot : ℕ) (row : List Request) → ((i : ℕ) → i < length row → P (seen_as a slot i (request_at row i)))
    → All P (all_of a slot row)
All-all_of P a slot row each =
    let n = length row in
    let f : ℕ → SeenRequest = λ i. seen_as a slot i (request_at row i) in
    All-map P f (range_with_len 0 n) (λ k d within.
    let inside : k < n = omega (arith, within, length-range_with_len 0 n) in
    let here : k ≡ get_or (range_with_len 0 n) k d = omega (arith, get_or-range_with_len 0 n k d inside) in
    subst (λ i. P (f i)) here (each k inside))

-- what is known after a load of an announced word, when these are all publications
abbrev pub knowledge_after_row : Knowledge → List Publication → ℕ → ℕ → List Request → ℕ → Knowledge
knowledge_after_row v all a slot row n =
    with_asking (record v { seen = all; requests = v.requests ++ all_of a slot row }) a (with_row (asking_on (own_part v) a) slot n)

-- what was loaded of announced words, by account and the slot of the process that has loaded them
abbrev pub SeenRows : Type 0
SeenRows = ℕ → ℕ → List SeenRow

abbrev pub seen_by : BoardState → SeenRows → Asked
seen_by s f = record (asked_of s) { seen_rows = f }

-- what the state has of loaded words once a seat has loaded the announced word of a slot: one more, if the seat's process owns the
-- account
pub record AreRowsAfter (b : BookTerms) (s : BoardState) (v : Knowledge) (a slot n : ℕ) (f : SeenRows) : Type 0 where
  pub own : (mine : ℕ) → HasSlot b v.first a mine → f a mine ≡ s.seen_rows a mine ++ record { slot = slot; count = n } ∷ []
  pub others : (p c other : ℕ) → HasSlot b p c other → (p ≡ v.first → c ≢ a) → f c other ≡ s.seen_rows c other
  pub sound : Sound b s → Sound b (with_asked s (seen_by s f))
  pub overtaking : Overtaking s → Overtaking (with_asked s (seen_by s f))

-- its process owns the account, or it doesn't
rows_after : (b : BookTerms) (s : BoardState) (v : Knowledge) (a slot n : ℕ) → length (s.rows a slot) ≡ n → (owner : Option ℕ)
    → slot_in (account_of b a) v.first ≡ owner → (f : SeenRows) × AreRowsAfter b s v a slot n f
rows_after b s v a slot n counted (Some mine) owns = (
  at_slot s.seen_rows a mine more,
  record {
    own = λ m has.
        let e : Some m ≡ Some mine = sym has.owner ∙ owns in
        let same : mine ≡ m = cc in
        subst (λ k. at_slot s.seen_rows a mine more a k ≡ s.seen_rows a k ++ record { slot = slot; count = n } ∷ []) same
        (at_slot-here s.seen_rows a mine more);
    others = λ p c other has apart. at_slot-other s.seen_rows a mine c other more (λ same. apart (owner_is p c other has same) same.0);
    sound = Sound-row_loaded b s a mine slot n;
    overtaking = λ law. Overtaking-row_loaded s a mine slot n law counted;
  },
)
  where
    more : List SeenRow
    more = s.seen_rows a mine ++ record { slot = slot; count = n } ∷ []

    owner_is : (p c other : ℕ) → HasSlot b p c other → (c ≡ a) × (other ≡ mine) → p ≡ v.first
    owner_is p c other has same =
        slot_in-injective (account_of b a) p v.first mine
        (subst (λ k. slot_in (account_of b k) p ≡ Some other) same.0 has.owner ∙ ap (λ k. Some k) same.1) owns
rows_after b s v a slot n counted None foreign = (
  s.seen_rows,
  record {
    own = λ mine has. let none : None ≡ Some mine = sym foreign ∙ has.owner in absurd (cc none);
    others = λ p c other has apart. refl;
    sound = λ sound. sound;
    overtaking = λ law. law;
  },
)

-- what a process has on the account that it owns
HasAsking-row : (b : BookTerms) (words : List ℕ) (s : BoardState) (v u : Knowledge) (a mine slot n : ℕ) (f : SeenRows) → AreRowsAfter b s v a slot n f
    → HasSlot b v.first a mine → IsPrefix v.seen u.seen → SeesMore v u → HasAsking b words s v a mine (asking_on (own_part v) a)
    → HasAsking b words (with_asked s (seen_by s f)) u a mine (with_row (asking_on (own_part v) a) slot n)
HasAsking-row b words s v u a mine slot n f after slot_is longer more has =
    let w : Asking = asking_on (own_part v) a in
    let row : SeenRow = record { slot = slot; count = n } in
    record {
      announced = has.announced;
      seen = λ i within. more (seen_as a mine i (request_at w.announced i)) (has.seen i within);
      sized = has.sized;
      stored = has.stored;
      heard = has.heard;
      rows = ap (λ (rs : List SeenRow). rs ++ row ∷ []) has.rows ∙ sym (after.own mine slot_is);
      loaded = loaded-Grows s (seen_by s f) w.loaded (Grows-refl s.rows) has.loaded;
    }

-- what is left to the other processes
left_of : (b : BookTerms) (words : List ℕ) (s : BoardState) (v : Knowledge) (a slot n : ℕ) (f : SeenRows) (p : ℕ) (q : Part) → p ≢ v.first
    → AreRowsAfter b s v a slot n f → IsLeft b words words (asked_of s) (seen_by s f) p q
left_of b words s v a slot n f p q apart after = record {
  record_words = λ j is. refl;
  asking = λ c other has. (
    record { row = refl; heard = refl; seen_rows = after.others p c other has (λ e. absurd (apart e)) },
    λ j is. refl,
  );
}

Knows-announced : (b : BookTerms) (words : List ℕ) (s : BoardState) (v : Knowledge) (a slot n : ℕ) (f : SeenRows) → 0 < length v.parts
    → AreRowsAfter b s v a slot n f → Knows b words s v → Knows b words (with_asked s (seen_by s f)) (knowledge_after_row v s.published a slot (s.rows a slot) n)
Knows-announced b words s v a slot n f part after knows =
    let t : Asked = seen_by s f in
    let row = s.rows a slot in
    let u : Knowledge = knowledge_after_row v s.published a slot row n in
    let q : Part = own_part v in
    let grows = Grows-refl s.rows in
    let more : SeesMore v u = λ x sees. Contains-append_left v.requests (all_of a slot row) x sees in
    let first : v.first + 0 ≡ v.first = omega arith in
    let own : HasPart b words s v v.first q = subst (λ p. HasPart b words s v p q) first (knows.parts 0 part) in
    let new : Asking = with_row (asking_on q a) slot n in
    let own_after : HasPart b words (with_asked s t) u v.first (part_asking q a new) =
    HasPart-asking b words words s t v u v.first q a new grows knows.seen more (sym own.published) (λ j is. refl)
    (λ c other apart has. (record { row = refl; heard = refl; seen_rows = after.others v.first c other has (λ _. apart) }, λ j is. refl))
    (λ mine has. HasAsking-row b words s v u a mine slot n f after has knows.seen more (own.asking a mine has)) own in
    record {
      seen = IsPrefix-refl s.published;
      requests = All-append (IsAnnounced (with_asked s t)) v.requests (all_of a slot row) (all_announced s t v.requests grows knows.requests)
          (All-all_of (IsAnnounced (with_asked s t)) a slot row (λ i inside. IsAnnounced-Grows s t (seen_as a slot i (request_at row i)) grows (inside, refl)));
      decisions = knows.decisions;
      parts = parts_after (λ k x. HasPart b words (with_asked s t) u (v.first + k) x) v.parts (part_asking q a new) part
          (subst (λ p. HasPart b words (with_asked s t) u p (part_asking q a new)) (sym first) own_after)
          (λ k apart inside.
          let has = knows.parts k inside in
          HasPart-kept b words words s t v u (v.first + k) (part_at v k) grows knows.seen more (sym has.published)
          (left_of b words s v a slot n f (v.first + k) (part_at v k) (λ e. apart (omega arith)) after) has);
    }

-- the words stand for the state still
Shown-seen_by : (b : BookTerms) (words : List ℕ) (s : BoardState) (f : SeenRows) → Shown b words s → Shown b words (with_asked s (seen_by s f))
Shown-seen_by b words s f shown =
    let shows = shown.records in
    let requests = shown.requests in
    record {
      sized = shown.sized;
      records = record { lengths = shows.lengths; room = shows.room; records = shows.records; blank = shows.blank };
      requests = record { lengths = requests.lengths; requests = requests.requests; blank = requests.blank };
      cells = shown.cells;
    }

pub LoadsAnnounced-Ruled : (b : BookTerms) (words : List ℕ) (knowledge : List Knowledge) (id : ℕ) (v : Knowledge) (a slot : ℕ) → Ruled b words knowledge → IsBegun b
    → get_elem? knowledge id ≡ some v → 0 < length v.parts → IsAddress b (announced_of a slot)
    → (w : Knowledge) × Ruled b words (set knowledge id w) × LoadsAnnounced b v w a slot (word_at b words (announced_of a slot))
LoadsAnnounced-Ruled b words knowledge id v a slot ruled begun found part within =
    let s : BoardState = ruled.state in
    let row = s.rows a slot in
    let n = word_at b words (announced_of a slot) in
    let counted : length row ≡ n = sym (ruled.shown.requests.lengths a slot within) in
    let loads = rows_after b s v a slot n counted (slot_in (account_of b a) v.first) refl in
    let f : SeenRows = loads.0 in
    let after = loads.1 in
    let t : BoardState = with_asked s (seen_by s f) in
    let w : Knowledge = knowledge_after_row v s.published a slot row n in
    let knows = ruled.knows id v found in
    let own : HasPart b words s v (v.first + 0) (own_part v) = knows.parts 0 part in
    let sound = after.sound ruled.sound in
    let mine = Knows-announced b words s v a slot n f part after knows in
    let first : v.first + 0 ≡ v.first = omega arith in (
      w,
      record {
        state = t;
        seat = ruled.seat;
        shown = Shown-seen_by b words s f ruled.shown;
        sound = sound;
        overtaking = after.overtaking ruled.overtaking;
        knows = knows_after b words t knowledge id w mine (λ k p apart there. Knows-kept b words words s (seen_by s f) p (Grows-refl s.rows)
            (λ m inside. left_of b words s v a slot n f (p.first + m) (part_at p m)
            (other_process b ruled.seat knowledge id k m v p ruled.seated found part there inside apart) after) (ruled.knows k p there));
        seated = AreSeated-set b ruled.seat knowledge id v w ruled.seated found refl (length-set v.parts 0 (part_asking (own_part v) a (with_row (asking_on (own_part v) a) slot n)));
      },
      record {
        row = row;
        counted = counted;
        room = omega (arith, counted, ruled.sound.row_room a slot);
        since = All-from_get_or (λ (r : Request). r.since ≤ length s.published) row (record { targets = []; since = 0 }) (λ i inside. (ruled.sound.requests a slot i inside).since);
        targets = All-from_get_or (λ (r : Request). AreTargets b r.targets) row (record { targets = []; since = 0 }) (λ i inside. (ruled.sound.requests a slot i inside).targets);
        known = λ number r sees.
            let is = All-contains (IsAnnounced s) v.requests (seen_as a slot number r) knows.requests sees in
            (omega (arith, is.0, counted), is.1);
        more = knows.seen;
        own = ap (λ k. count_of k s.published) (sym first) ∙ sym own.published;
        history = IsHistory-Sound b s ruled.shown.records.room ruled.sound begun;
        agrees = AgreesWithSeen-Knows b words t w sound mine;
        same = refl;
      },
    )

module _ {S : Type 0} where
  loads_announced : (slots id : ℕ) (me : Me S Knowledge) (a slot : ℕ) → IsKept me.0 → IsAddress me.0.book (announced_of a slot)
      → let i = index_of me.0.book (announced_of a slot) in
      Allows (λ s. Ruled me.0.book s.words s.views) slots id me i (λ n. n) (loaded_announced (step slots i 0 0 none) me)
  loads_announced slots id me a slot kept within s holds homes found fits =
      let b : BookTerms = me.0.book in
      let i = index_of b (announced_of a slot) in
      let done = LoadsAnnounced-Ruled b s.words s.views id me.0 a slot holds kept.book.begun found (omega (arith, kept.one_part)) within in
      let same : set s.words i (get_or s.words i 0) ≡ s.words = set-get_or s.words i 0 in (
        done.0,
        keeps,
        tt,
        subst (λ ws. Ruled b ws (set s.views id done.0)) (sym same) done.1,
        (
          refl,
          IsKept-step s.words s.views id me.0 done.0 found kept (ap (λ (t : Knowledge). t.book) done.2.same)
              (ap (λ (t : Knowledge). length t.parts) done.2.same ∙ length-set me.0.parts 0 _) done.2.history done.1,
          λ c other known at.
              let e = index_of-injective b (announced_of a slot) (announced_of c other) within known at in
              let account : a ≡ c = cc in
              let slot_is : slot ≡ other = cc in
              subst (λ t. LoadsAnnounced b me.0 done.0 t other (get_or s.words i 0)) account
              (subst (λ t. LoadsAnnounced b me.0 done.0 a t (get_or s.words i 0)) slot_is done.2),
        ),
      )

  pub loads_announced_at : (key : BookTerms) (slots id : ℕ) (me : Me S Knowledge) (a slot i : ℕ) → key ≡ me.0.book
      → i ≡ index_of me.0.book (announced_of a slot) → IsKept me.0 → IsAddress me.0.book (announced_of a slot)
      → Allows (λ s. Ruled key s.words s.views) slots id me i (λ n. n) (loaded_announced (step slots i 0 0 none) me)
  loads_announced_at key slots id me a slot i is at kept within =
      allowed_at key slots id me i (index_of me.0.book (announced_of a slot)) (λ n. n) (λ k. loaded_announced (step slots k 0 0 none) me) is at
      (loads_announced slots id me a slot kept within)

pub HasCounts-announced : (b : BookTerms) (v w : Knowledge) (a slot n : ℕ) (counts : List ℕ) → 0 < length v.parts
    → length (own_part v).asking ≡ length v.book.accounts → LoadsAnnounced b v w a slot n → HasCounts v counts → HasCounts w counts
HasCounts-announced b v w a slot n counts part sized told has =
    subst (λ t. HasCounts t counts) (sym told.same)
    (HasCounts-asking v w.seen (v.requests ++ all_of a slot told.row) a (with_row (asking_on (own_part v) a) slot n) counts part sized refl has)
