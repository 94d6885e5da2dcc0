-- Publishing keeps the rule.
use Rattle.std.proofs.Common.{◌≡◌, ◌≢◌, ℕ, true, ◌+◌, ◌<◌, ◌≤◌, zero, Bool, cond, List, [], ◌∷◌, ◌++◌, length, get_or, set, refl, sym, ap, subst, ◌∙◌, arith, inl, inr}
use Rattle.at_board.proofs.Prelude.{get_elem?, some, none, cases_eq, cases_lt, eq-eqb, ne_eqb, get_or_append_left, get_or_push, length-replicate, length-set, All-contains, Contains, Decision, Allows, Me, keeps, step, BookTerms, IsBegun, log_room_of, TargetPair, count_of-push_other, count_of-push_own, publications_of-push_own, publications_of-push_other, ArePublishedBy-HasRuns, IsCut-IsPrefix, prefix_of-IsPrefix, IsPrefix-append, IsPrefix-refl, IsPrefix-trans, ArePublishedBy-IsPrefix, each_record, owns_of-IsPrefix, HasRuns-Sound, IsHistory-Sound, get_or-zeros, Overtaking-pushed, IsNextPublication, Sound-pushed, pushed, BoardState, publication_at, request_at, prefix_of, held_after, IsPrefix, count_of, no_publication, publications_of, Sound, IsDecidedSo, IsSoundEntry, Entry, Own, Round, Publication, Request, IsKept, HasAsking, HasPart, Knows, with_part, asking_on, own_part, part_at, Ruled, published_record, MayPublish, Publishes, with_record, KnowsRound, MayEnter, IsAddress, Address, announced_of, cell_of, length_of, index_of, record_width, record_word, request_word, word_at, record_words, IsForm, Shown, Asking, Part, SeenRequest, Knowledge, is_own, owns_of}
use Rattle.at_board.proofs.KnowledgeLaws.Agreement.{AgreesWithSeen-Knows, seen_decision, seen_request}
use Rattle.at_board.proofs.KnowledgeLaws.Seats.{AreSeated-set, knows_after}
use Rattle.at_board.proofs.StepLaws.LoadLength.{parts_after}
use Rattle.at_board.proofs.StepLaws.StoreRecordWord.{other_process}
use Rattle.at_board.proofs.WordLaws.Same.{SameRecordWords, SameRequestWords}
use Rattle.at_board.proofs.KnowledgeLaws.Kept.{IsKept-step}
use Rattle.at_board.proofs.StepLaws.Table.{allowed_at, index_of-length_of}
use Rattle.at_board.proofs.WordLaws.Addresses.{word_at-set_other, word_at-set_same}
use Rattle.at_board.proofs.WordLaws.Packed.{IsForm-Sound, record_words-injective}

-- the word of a record of the process, and the last one is the new record
record-pushed : (b : BookTerms) (words : List ℕ) (xs : List Publication) (x : Publication) (p i j : ℕ) → x.process ≡ p
    → (i < count_of p xs → word_at b words (record_word p i j) ≡ get_or (record_words (publication_at (publications_of p xs) i)) j 0)
    → (i ≡ count_of p xs → word_at b words (record_word p i j) ≡ get_or (record_words x) j 0)
    → i < count_of p (xs ++ x ∷ [])
    → word_at b words (record_word p i j) ≡ get_or (record_words (publication_at (publications_of p (xs ++ x ∷ [])) i)) j 0
record-pushed b words xs x p i j own old new within =
    let all = publications_of-push_own p xs x own in
    let more = ap (λ t. count_of t (xs ++ x ∷ [])) (sym own) ∙ count_of-push_own xs x in
    let before = ap (λ t. count_of t xs) own in
    elim (cases_lt i (count_of p xs)) as (λ _. word_at b words (record_word p i j) ≡ get_or (record_words (publication_at (publications_of p (xs ++ x ∷ [])) i)) j 0) [
      | inl below ↦
          let here : publication_at (publications_of p (xs ++ x ∷ [])) i ≡ publication_at (publications_of p xs) i =
          ap (λ ys. get_or ys i no_publication) all ∙ get_or_append_left (publications_of p xs) (x ∷ []) no_publication i below in
          old below ∙ sym (ap (λ (y : Publication). get_or (record_words y) j 0) here)
      | inr above ↦
          let at : i ≡ count_of p xs = omega (arith, more, before) in
          let here : publication_at (publications_of p (xs ++ x ∷ [])) i ≡ x =
          ap (λ ys. get_or ys i no_publication) all ∙ get_or_push (publications_of p xs) x no_publication i (sym at) in
          new at ∙ sym (ap (λ (y : Publication). get_or (record_words y) j 0) here)
    ]

-- the words after a publishing step
abbrev pub published_words : BookTerms → List ℕ → ℕ → ℕ → List ℕ
published_words b words p n = set words (index_of b (length_of p)) n

-- nothing but the length has changed
kept-published : (b : BookTerms) (words : List ℕ) (p n : ℕ) → p < b.processes → (y : Address) → IsAddress b y → y ≢ length_of p
    → word_at b (published_words b words p n) y ≡ word_at b words y
kept-published b words p n within y is apart = word_at-set_other b words (length_of p) y n within is apart

Shown-publish : (b : BookTerms) (words : List ℕ) (s : BoardState) (v : Knowledge) (q : Part) (x : Publication) → Shown b words s
    → HasPart b words s v v.first q → MayPublish b v x → q ≡ own_part v → (own_part v).published < log_room_of b v.first
    → Shown b (published_words b words v.first (q.published + 1)) (pushed s v.first x)
Shown-publish b words s v q x shown own may is free =
    let p = v.first in
    let xs = s.published in
    let after = published_words b words p (q.published + 1) in
    let kept = kept-published b words p (q.published + 1) own.known in
    let stored : q.stored ≡ record_words x = ap (λ (t : Part). t.stored) is ∙ may.stored in
    let room : q.published < log_room_of b p = subst (λ (t : Part). t.published < log_room_of b p) (sym is) free in
    let more : count_of p (xs ++ x ∷ []) ≡ count_of p xs + 1 =
    subst (λ t. count_of t (xs ++ x ∷ []) ≡ count_of t xs + 1) may.process (count_of-push_own xs x) in
    let other : (k : ℕ) → k ≢ p → x.process ≡ k → ⊥ = λ k apart e. apart (sym e ∙ may.process) in
    record {
      sized = length-set words (index_of b (length_of p)) (q.published + 1) ∙ shown.sized;
      records = record {
        lengths = λ k within. elim (cases_eq k p) as (λ _. word_at b after (length_of k) ≡ count_of k (xs ++ x ∷ [])) [
          | inl same ↦
              subst (λ t. word_at b after (length_of t) ≡ count_of t (xs ++ x ∷ [])) (sym same)
              (word_at-set_same b words (length_of p) (q.published + 1) shown.sized own.known ∙ omega (arith, more, own.published))
          | inr apart ↦
              kept (length_of k) within (λ e. let same : k ≡ p = cc in apart same)
              ∙ (shown.records.lengths k within ∙ sym (count_of-push_other k xs x (other k apart)))
        ];
        room = λ k within. elim (cases_eq k p) as (λ _. count_of k (xs ++ x ∷ []) ≤ log_room_of b k) [
          | inl same ↦ subst (λ t. count_of t (xs ++ x ∷ []) ≤ log_room_of b t) (sym same) (omega (arith, more, own.published, room))
          | inr apart ↦ omega (arith, shown.records.room k within, count_of-push_other k xs x (other k apart))
        ];
        records = λ k i j at below. elim (cases_eq k p) as (λ _. word_at b after (record_word k i j) ≡ get_or (record_words (publication_at (publications_of k (xs ++ x ∷ [])) i)) j 0) [
          | inl same ↦
              let mine : x.process ≡ k = may.process ∙ sym same in
              record-pushed b after xs x k i j mine
              (λ early. kept (record_word k i j) at (λ e. cc) ∙ shown.records.records k i j at early)
              (λ last.
              let here : record_word k i j ≡ record_word p q.published j =
              λ t. record_word (same t) ((last ∙ (ap (λ u. count_of u xs) same ∙ sym own.published)) t) j in
              kept (record_word k i j) at (λ e. cc)
              ∙ (ap (word_at b words) here ∙ (own.stored j (subst (IsAddress b) here at) ∙ ap (λ ws. get_or ws j 0) stored)))
              below
          | inr apart ↦
              let early : i < count_of k xs = omega (arith, below, count_of-push_other k xs x (other k apart)) in
              kept (record_word k i j) at (λ e. cc)
              ∙ (shown.records.records k i j at early
              ∙ sym (ap (λ ys. get_or (record_words (publication_at ys i)) j 0) (publications_of-push_other k xs x (other k apart))))
        ];
        blank = λ k i j at above. elim (cases_eq k p) as (λ _. word_at b after (record_word k i j) ≡ 0) [
          | inl same ↦
              let counted = ap (λ t. count_of t (xs ++ x ∷ [])) same in
              let before = ap (λ t. count_of t xs) same in
              kept (record_word k i j) at (λ e. cc) ∙ shown.records.blank k i j at (omega (arith, above, counted, before, more))
          | inr apart ↦
              kept (record_word k i j) at (λ e. cc) ∙ shown.records.blank k i j at (omega (arith, above, count_of-push_other k xs x (other k apart)))
        ];
      };
      requests = record {
        lengths = λ a slot at. kept (announced_of a slot) at (λ e. cc) ∙ shown.requests.lengths a slot at;
        requests = λ a slot i j at below. kept (request_word a slot i j) at (λ e. cc) ∙ shown.requests.requests a slot i j at below;
        blank = λ a slot i j at above. kept (request_word a slot i j) at (λ e. cc) ∙ shown.requests.blank a slot i j at above;
      };
      cells = λ a r at. kept (cell_of a r) at (λ e. cc) ∙ shown.cells a r at;
    }

-- a part's requests after the step
HasAsking-pushed : (b : BookTerms) (words after : List ℕ) (s : BoardState) (k : ℕ) (x : Publication) (v u : Knowledge) (a slot : ℕ) (w : Asking)
    → IsPrefix v.seen u.seen → u.requests ≡ v.requests → SameRequestWords b words after
    → HasAsking b words s v a slot w → HasAsking b after (pushed s k x) u a slot w
HasAsking-pushed b words after s k x v u a slot w longer requests same has = record {
  announced = has.announced;
  seen = λ i within. subst (λ (rs : List SeenRequest). Contains rs (record { account = a; slot = slot; number = i; request = request_at w.announced i })) (sym requests) (has.seen i within);
  sized = has.sized;
  stored = λ j is. same a slot (length w.announced) j is ∙ has.stored j is;
  heard = has.heard;
  rows = has.rows;
  loaded = has.loaded;
}

-- the part of another process
HasPart-pushed_other : (b : BookTerms) (words after : List ℕ) (s : BoardState) (k : ℕ) (x : Publication) (v u : Knowledge) (p : ℕ) (q : Part)
    → IsPrefix v.seen u.seen → u.requests ≡ v.requests → SameRequestWords b words after → SameRecordWords b words after p q.published
    → p ≢ k → x.process ≡ k → count_of p u.seen ≡ q.published
    → HasPart b words s v p q → HasPart b after (pushed s k x) u p q
HasPart-pushed_other b words after s k x v u p q longer requests same record_same apart mine seen has = record {
  known = has.known;
  published = has.published ∙ sym (count_of-push_other p s.published x (λ e. apart (sym e ∙ mine)));
  seen = seen;
  sized = has.sized;
  stored = λ j is. record_same j is ∙ has.stored j is;
  held = has.held ∙ sym (ap (λ (t : Bool). cond t (held_after x (s.held p)) (s.held p)) (ne_eqb p k apart));
  lengths = has.lengths;
  accounts = has.accounts;
  asking = λ a slot slot_in. HasAsking-pushed b words after s k x v u a slot (asking_on q a) longer requests same (has.asking a slot slot_in);
}

-- the part of the publishing process
HasPart-pushed_own : (b : BookTerms) (words after : List ℕ) (s : BoardState) (x : Publication) (v u : Knowledge) (p : ℕ) (q : Part)
    → IsPrefix v.seen u.seen → u.seen ≡ s.published ++ x ∷ [] → u.requests ≡ v.requests → SameRequestWords b words after → SameRecordWords b words after p (q.published + 1)
    → Shown b words s → x.process ≡ p
    → HasPart b words s v p q → HasPart b after (pushed s p x) u p (with_record b q x)
HasPart-pushed_own b words after s x v u p q longer all requests same record_same shown mine has =
    let more : count_of p (s.published ++ x ∷ []) ≡ count_of p s.published + 1 =
    subst (λ t. count_of t (s.published ++ x ∷ []) ≡ count_of t s.published + 1) mine (count_of-push_own s.published x) in
    record {
      known = has.known;
      published = omega (arith, has.published, more);
      seen = ap (count_of p) all ∙ omega (arith, has.published, more);
      sized = length-replicate (record_width b) zero;
      stored = λ j is. record_same j is
          ∙ (shown.records.blank p (q.published + 1) j is (omega (arith, has.published)) ∙ sym (get_or-zeros (record_width b) j));
      held = ap (held_after x) has.held ∙ sym (ap (λ (t : Bool). cond t (held_after x (s.held p)) (s.held p)) (eq-eqb p p refl));
      lengths = has.lengths;
      accounts = has.accounts;
      asking = λ a slot slot_in. HasAsking-pushed b words after s p x v u a slot (asking_on q a) longer requests same (has.asking a slot slot_in);
    }

-- so is each record in its list
record-seen : (b : BookTerms) (s : BoardState) (xs : List Publication) (x : Publication) → Sound b s → IsPrefix xs s.published → Contains xs x
    → IsSoundEntry b s x.process (prefix_of x.view s.published) x.entry
record-seen b s xs x sound before sees =
    let P : Publication → Type 0 = λ y. IsSoundEntry b s y.process (prefix_of y.view s.published) y.entry in
    All-contains P xs x (each_record P xs s.published before sound.entries) sees

-- what the seat knows of a round is what the board has decided
IsDecidedSo-KnowsRound : (b : BookTerms) (words : List ℕ) (s : BoardState) (v : Knowledge) (a r : ℕ) (d : Decision) (targets : List TargetPair) → Sound b s
    → Knows b words s v → KnowsRound v a r d targets → IsDecidedSo s a r d targets
IsDecidedSo-KnowsRound b words s v a r d targets sound knows (inl (sees, named)) =
    let decided = seen_decision s v.decisions (record { account = a; round = r; decision = d }) knows.decisions sees in
    let announced = seen_request s v.requests (record { account = a; slot = d.slot; number = d.number; request = named.0 }) knows.requests named.1 in
    record {
      decided = decided.0;
      decision = decided.1;
      same_targets = ap (λ (r : Request). r.targets) announced.1 ∙ named.2;
    }
IsDecidedSo-KnowsRound b words s v a r d targets sound knows (inr (x, sees, says)) =
    let law : IsSoundEntry b s x.process (prefix_of x.view s.published) (Round a r d targets) =
    subst (IsSoundEntry b s x.process (prefix_of x.view s.published)) says (record-seen b s v.seen x sound knows.seen sees) in
    law.1

-- what the seat may enter keeps the laws of the board
pub IsSoundEntry-MayEnter : (b : BookTerms) (words : List ℕ) (s : BoardState) (v : Knowledge) (prefix : List Publication) (e : Entry) → Sound b s
    → Knows b words s v → MayEnter b v prefix e → IsSoundEntry b s v.first prefix e
IsSoundEntry-MayEnter b words s v prefix (Own from targets) sound knows may = may.0
IsSoundEntry-MayEnter b words s v prefix (Round a r d targets) sound knows may =
    (may.0, IsDecidedSo-KnowsRound b words s v a r d targets sound knows may.1)

-- an own record that may be entered has room
own_room-MayEnter : (b : BookTerms) (v : Knowledge) (prefix : List Publication) (e : Entry) → MayEnter b v prefix e → is_own e ≡ true
    → owns_of v.first v.seen < b.own_room
own_room-MayEnter b v prefix (Own from targets) may own = may.1
own_room-MayEnter b v prefix (Round a r d targets) may own = cc own

-- what the seat may publish comes next on the board
IsNextPublication-MayPublish : (b : BookTerms) (words : List ℕ) (s : BoardState) (v : Knowledge) (x : Publication) → Sound b s → Knows b words s v
    → count_of v.first v.seen ≡ count_of v.first s.published → MayPublish b v x → IsNextPublication b s x
IsNextPublication-MayPublish b words s v x sound knows own may =
    let all = ArePublishedBy-HasRuns b s (HasRuns-Sound b s sound) in
    let known = ArePublishedBy-IsPrefix b.processes v.seen s.published knows.seen all in
    let same = prefix_of-IsPrefix b.processes x.view v.seen s.published may.view.cut known knows.seen in
    let law = IsSoundEntry-MayEnter b words s v (prefix_of x.view v.seen) x.entry sound knows may.entry in
    record {
      view = record {
        process = may.view.process;
        cut = IsCut-IsPrefix b.processes x.view v.seen s.published may.view.cut known knows.seen;
        own = may.view.own ∙ subst (λ p. count_of p v.seen ≡ count_of p s.published) (sym may.process) own;
      };
      entry = subst (λ p. IsSoundEntry b s p (prefix_of x.view s.published) x.entry) (sym may.process)
          (subst (λ t. IsSoundEntry b s v.first t x.entry) (sym same) law);
      room = λ is.
          let here = own_room-MayEnter b v (prefix_of x.view v.seen) x.entry may.entry is in
          omega (arith, here, owns_of-IsPrefix v.first v.seen s.published knows.seen own, ap (λ p. owns_of p s.published) may.process);
    }

pub Publishes-Ruled : (b : BookTerms) (words : List ℕ) (knowledge : List Knowledge) (id : ℕ) (v : Knowledge) (x : Publication) → Ruled b words knowledge → IsBegun b
    → get_elem? knowledge id ≡ some v → 0 < length v.parts → (own_part v).published < log_room_of b v.first → MayPublish b v x
    → (w : Knowledge) × Ruled b (published_words b words v.first ((own_part v).published + 1)) (set knowledge id w) × Publishes b v w x
Publishes-Ruled b words knowledge id v x ruled begun found part room may =
    let s : BoardState = ruled.state in
    let p = v.first in
    let q : Part = own_part v in
    let all = s.published ++ x ∷ [] in
    let knows = ruled.knows id v found in
    let first : v.first + 0 ≡ v.first = omega arith in
    let own : HasPart b words s v p q = subst (λ t. HasPart b words s v t q) first (knows.parts 0 part) in
    let after = published_words b words p (q.published + 1) in
    let s' : BoardState = pushed s p x in
    let w : Knowledge = with_part (record v { seen = all }) (with_record b q x) in
    let sound : Sound b s' = Sound-pushed b s p x ruled.sound
    (IsNextPublication-MayPublish b words s v x ruled.sound knows (own.seen ∙ own.published) may) in
    let shown : Shown b after s' = Shown-publish b words s v q x ruled.shown own may refl room in
    let same_requests : SameRequestWords b words after =
    λ a slot i j is. kept-published b words p (q.published + 1) own.known (request_word a slot i j) is (λ e. cc) in
    let same_records : (k i : ℕ) → SameRecordWords b words after k i =
    λ k i j is. kept-published b words p (q.published + 1) own.known (record_word k i j) is (λ e. cc) in
    let longer = IsPrefix-trans v.seen s.published all knows.seen (IsPrefix-append s.published (x ∷ [])) in
    let mine : Knows b after s' w = record {
      seen = IsPrefix-refl all;
      requests = knows.requests;
      decisions = knows.decisions;
      parts = parts_after (λ k t. HasPart b after s' w (v.first + k) t) v.parts (with_record b q x) part
          (subst (λ t. HasPart b after s' w t (with_record b q x)) (sym first)
          (HasPart-pushed_own b words after s x v w p q longer refl refl same_requests (same_records p (q.published + 1)) ruled.shown may.process own))
          (λ k apart within.
          let has = knows.parts k within in
          let off : v.first + k ≢ p = λ e. apart (omega arith) in
          HasPart-pushed_other b words after s p x v w (v.first + k) (part_at v k) longer refl same_requests (same_records (v.first + k) (part_at v k).published)
          off may.process (count_of-push_other (v.first + k) s.published x (λ e. off (sym e ∙ may.process)) ∙ sym has.published) has);
    } in
    let theirs : (j : ℕ) (u : Knowledge) → j ≢ id → get_elem? knowledge j ≡ some u → Knows b after s' u =
    λ j u apart there.
    let old = ruled.knows j u there in
    record {
      seen = IsPrefix-trans u.seen s.published all old.seen (IsPrefix-append s.published (x ∷ []));
      requests = old.requests;
      decisions = old.decisions;
      parts = λ k within. HasPart-pushed_other b words after s p x u u (u.first + k) (part_at u k) (IsPrefix-refl u.seen) refl same_requests
          (same_records (u.first + k) (part_at u k).published)
          (other_process b ruled.seat knowledge id j k v u ruled.seated found part there within apart) may.process (old.parts k within).seen (old.parts k within);
    } in (
      w,
      record {
        state = s';
        seat = ruled.seat;
        shown = shown;
        sound = sound;
        overtaking = Overtaking-pushed b s p x ruled.sound ruled.overtaking;
        knows = knows_after b after s' knowledge id w mine theirs;
        seated = AreSeated-set b ruled.seat knowledge id v w ruled.seated found refl (length-set v.parts 0 (with_record b q x));
      },
      record {
        between = knows.seen.0;
        seen = ap (λ ys. ys ++ x ∷ []) knows.seen.1;
        all = record { state = s'; sound = sound; published = refl; requests = mine.requests; decisions = mine.decisions };
        own = omega (arith, own.published, subst (λ t. count_of t all ≡ count_of t s.published + 1) may.process (count_of-push_own s.published x));
        history = IsHistory-Sound b s' shown.records.room sound begun;
        agrees = AgreesWithSeen-Knows b after s' w sound mine;
        same = refl;
      },
    )

-- what a seat may publish has the form of a record
IsForm-MayPublish : (b : BookTerms) (words : List ℕ) (knowledge : List Knowledge) (id : ℕ) (v : Knowledge) (x : Publication) → Ruled b words knowledge → IsBegun b
    → get_elem? knowledge id ≡ some v → MayPublish b v x → IsForm x.entry
IsForm-MayPublish b words knowledge id v x ruled begun found may =
    IsForm-Sound b ruled.state v.first (prefix_of x.view v.seen) x.entry begun ruled.sound
    (IsSoundEntry-MayEnter b words ruled.state v (prefix_of x.view v.seen) x.entry ruled.sound (ruled.knows id v found) may.entry)

-- the stored words are those of one record
same_record : (b : BookTerms) (words : List ℕ) (knowledge : List Knowledge) (id : ℕ) (v : Knowledge) (x y : Publication) → Ruled b words knowledge → IsBegun b
    → get_elem? knowledge id ≡ some v → MayPublish b v x → MayPublish b v y → x ≡ y
same_record b words knowledge id v x y ruled begun found one other =
    record_words-injective x y (IsForm-MayPublish b words knowledge id v x ruled begun found one) (IsForm-MayPublish b words knowledge id v y ruled begun found other)
    (one.process ∙ sym other.process) (sym one.stored ∙ other.stored)

module _ {S : Type 0} where
  publishes : (slots id : ℕ) (me : Me S Knowledge) (x : Publication) → IsKept me.0
      → (own_part me.0).published < log_room_of me.0.book me.0.first → MayPublish me.0.book me.0 x
      → let i = index_of me.0.book (length_of me.0.first) in let n = (own_part me.0).published + 1 in
      Allows (λ s. Ruled me.0.book s.words s.views) slots id me i (λ _. n) (λ _. published_record (step slots i n 0 none) me n)
  publishes slots id me x kept room may s holds homes found fits =
      let b : BookTerms = me.0.book in
      let done = Publishes-Ruled b s.words s.views id me.0 x holds kept.book.begun found (omega (arith, kept.one_part)) room may in (
        done.0,
        keeps,
        tt,
        done.1,
        (
          refl,
          IsKept-step (published_words b s.words me.0.first ((own_part me.0).published + 1)) s.views id me.0 done.0 found kept (ap (λ (t : Knowledge). t.book) done.2.same)
              (ap (λ (t : Knowledge). length t.parts) done.2.same ∙ length-set me.0.parts 0 _) done.2.history done.1,
          λ y other. subst (Publishes b me.0 done.0) (same_record b s.words s.views id me.0 x y holds kept.book.begun found may other) done.2,
        ),
      )

  pub publishes_at : (key : BookTerms) (slots id : ℕ) (me : Me S Knowledge) (x : Publication) (i n : ℕ) → key ≡ me.0.book → i ≡ me.0.first
      → n ≡ (own_part me.0).published + 1 → IsKept me.0
      → (own_part me.0).published < log_room_of me.0.book me.0.first → MayPublish me.0.book me.0 x
      → Allows (λ s. Ruled key s.words s.views) slots id me i (λ _. n) (λ _. published_record (step slots i n 0 none) me n)
  publishes_at key slots id me x i n is at counted kept room may =
      let k = index_of me.0.book (length_of me.0.first) in
      allowed_at key slots id me i k (λ _. n) (λ j _. published_record (step slots j n 0 none) me n) is (at ∙ sym (index_of-length_of me.0.book me.0.first))
      (subst (λ m. Allows (λ s. Ruled me.0.book s.words s.views) slots id me k (λ _. m) (λ _. published_record (step slots k m 0 none) me m)) (sym counted)
      (publishes slots id me x kept room may))
