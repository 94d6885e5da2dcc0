-- A load of a request's word keeps the rule.
use Rattle.std.proofs.Common.{◌∙◌, ◌≡◌, ℕ, ◌+◌, ◌<◌, List, [], ◌∷◌, ◌++◌, length, set, refl, sym, ap, subst, arith, inl, inr, get_or}
use Rattle.at_board.proofs.Prelude.{get_elem?, some, none, length-set, set-get_or, All-contains, All-push, Contains-append_left, Decision, Allows, Me, keeps, step, BookTerms, IsBegun, IsPrefix-refl, IsHistory-Sound, Grows-refl, SameAsked-refl, asked_of, IsHistory, BoardState, request_at, Sound, Request, DecisionInRange, RequestInRange, SeesInRange, HasAsking, HasPart, IsAnnounced, IsDecided, Knows, part_asking, seen_as, with_asking, asking_on, own_part, part_at, HasCounts, IsKept, Ruled, KnowsOf, MayLoadRequest, LoadsRequestWord, with_loaded, loaded_request_word, IsAddress, request_word, word_at, index_of, Asking, LoadedWord, Part, SeenDecision, SeenRequest, Knowledge}
use Rattle.at_board.proofs.KnowledgeLaws.Agreement.{AgreesWithSeen-Knows}
use Rattle.at_board.proofs.KnowledgeLaws.Asking.{HasAsking-kept, HasPart-asking, HasPart-kept, IsLeft-refl, SeesMore}
use Rattle.at_board.proofs.KnowledgeLaws.Counts.{HasCounts-asking}
use Rattle.at_board.proofs.KnowledgeLaws.Seats.{AreSeated-set, knows_after}
use Rattle.at_board.proofs.StepLaws.LoadLength.{parts_after}
use Rattle.at_board.proofs.KnowledgeLaws.Kept.{IsKept-step}
use Rattle.at_board.proofs.StepLaws.Table.{allowed_at}
use Rattle.at_board.proofs.WordLaws.Addresses.{index_of-injective}

-- a request that the seat knows of is announced
pub announced-KnowsOf : (b : BookTerms) (words : List ℕ) (s : BoardState) (v : Knowledge) (a slot number : ℕ) → Sound b s → Knows b words s v
    → KnowsOf v a slot number → number < length (s.rows a slot)
announced-KnowsOf b words s v a slot number sound knows (inl (r, sees)) =
    (All-contains (IsAnnounced s) v.requests (seen_as a slot number r) knows.requests sees).0
announced-KnowsOf b words s v a slot number sound knows (inr (round, d, sees, slot_is, number_is)) =
    let x : SeenDecision = record { account = a; round = round; decision = d } in
    let is = All-contains (IsDecided s) v.decisions x knows.decisions sees in
    let named : d.number < length (s.rows a d.slot) =
    subst (λ (e : Decision). e.number < length (s.rows a e.slot)) is.1 (sound.decisions a round is.0).announced in
    omega (arith, named, slot_is, number_is, ap (λ k. length (s.rows a k)) slot_is)

-- the board has words for it
pub place-MayLoadRequest : (v : Knowledge) (a slot number j : ℕ) → SeesInRange v → MayLoadRequest v a slot number j
    → IsAddress v.book (request_word a slot number j)
place-MayLoadRequest v a slot number j sees may =
    let first = place_of v a slot number sees may.known in (first.0, first.1, first.2, may.word)
  where
    place_of : (v : Knowledge) (a slot number : ℕ) → SeesInRange v → KnowsOf v a slot number → IsAddress v.book (request_word a slot number 0)
    place_of v a slot number sees (inl (r, seen)) =
        (All-contains (RequestInRange v.book) v.requests (seen_as a slot number r) sees.requests seen).words
    place_of v a slot number sees (inr (round, d, seen, slot_is, number_is)) =
        let x : SeenDecision = record { account = a; round = round; decision = d } in
        subst (λ k. IsAddress v.book (request_word a slot k 0)) number_is
        (subst (λ k. IsAddress v.book (request_word a k d.number 0)) slot_is
        (All-contains (DecisionInRange v.book) v.decisions x sees.decisions seen).words)

-- what is known after a load of a word of a request
abbrev pub knowledge_after_request : Knowledge → ℕ → SeenRequest → ℕ → Knowledge
knowledge_after_request v a x j = with_asking (record v { requests = v.requests ++ x ∷ [] }) a (with_loaded (asking_on (own_part v) a) x j)

HasAsking-loaded : (b : BookTerms) (words : List ℕ) (s : BoardState) (v : Knowledge) (a slot : ℕ) (w : Asking) (x : SeenRequest) (j : ℕ) → IsAnnounced s x
    → HasAsking b words s v a slot w → HasAsking b words s v a slot (with_loaded w x j)
HasAsking-loaded b words s v a slot w x j is has = record {
  announced = has.announced;
  seen = has.seen;
  sized = has.sized;
  stored = has.stored;
  heard = has.heard;
  rows = has.rows;
  loaded = All-push (λ (l : LoadedWord). IsAnnounced s l.request) w.loaded (record { request = x; word = j }) has.loaded is;
}

Knows-request : (b : BookTerms) (words : List ℕ) (s : BoardState) (v : Knowledge) (a : ℕ) (x : SeenRequest) (j : ℕ) → 0 < length v.parts → IsAnnounced s x
    → Knows b words s v → Knows b words s (knowledge_after_request v a x j)
Knows-request b words s v a x j part is knows =
    let u : Knowledge = knowledge_after_request v a x j in
    let q : Part = own_part v in
    let more : SeesMore v u = λ y sees. Contains-append_left v.requests (x ∷ []) y sees in
    let own = knows.parts 0 part in
    let p = v.first + 0 in
    record {
      seen = knows.seen;
      requests = All-push (IsAnnounced s) v.requests x knows.requests is;
      decisions = knows.decisions;
      parts = parts_after (λ k t. HasPart b words s u (v.first + k) t) v.parts (part_asking q a (with_loaded (asking_on q a) x j)) part
          (HasPart-asking b words words s (asked_of s) v u p q a (with_loaded (asking_on q a) x j) (Grows-refl s.rows) (IsPrefix-refl v.seen) more own.seen
          (λ j at. refl) (λ c other apart has. (SameAsked-refl (asked_of s) c other, λ j at. refl))
          (λ slot has. HasAsking-loaded b words s u a slot (asking_on q a) x j is
          (HasAsking-kept b words words s (asked_of s) v u a slot (asking_on q a) (Grows-refl s.rows) (IsPrefix-refl v.seen) more (SameAsked-refl (asked_of s) a slot, λ j at. refl) (own.asking a slot has))) own)
          (λ k apart inside.
          let has = knows.parts k inside in
          HasPart-kept b words words s (asked_of s) v u (v.first + k) (part_at v k) (Grows-refl s.rows) (IsPrefix-refl v.seen) more has.seen
          (IsLeft-refl b words (asked_of s) (v.first + k) (part_at v k)) has);
    }

pub LoadsRequestWord-Ruled : (b : BookTerms) (words : List ℕ) (knowledge : List Knowledge) (id : ℕ) (v : Knowledge) (a slot number j : ℕ) → Ruled b words knowledge → IsBegun b
    → get_elem? knowledge id ≡ some v → 0 < length v.parts → IsAddress b (request_word a slot number j) → MayLoadRequest v a slot number j
    → (w : Knowledge) × Ruled b words (set knowledge id w) × LoadsRequestWord b v w a slot number j (word_at b words (request_word a slot number j))
LoadsRequestWord-Ruled b words knowledge id v a slot number j ruled begun found part within may =
    let s : BoardState = ruled.state in
    let knows = ruled.knows id v found in
    let below = announced-KnowsOf b words s v a slot number ruled.sound knows may.known in
    let r : Request = request_at (s.rows a slot) number in
    let x : SeenRequest = seen_as a slot number r in
    let w : Knowledge = knowledge_after_request v a x j in
    let mine = Knows-request b words s v a x j part (below, refl) knows in (
      w,
      record {
        state = s;
        seat = ruled.seat;
        shown = ruled.shown;
        sound = ruled.sound;
        overtaking = ruled.overtaking;
        knows = knows_after b words s knowledge id w mine (λ k u apart there. ruled.knows k u there);
        seated = AreSeated-set b ruled.seat knowledge id v w ruled.seated found refl (length-set v.parts 0 (part_asking (own_part v) a (with_loaded (asking_on (own_part v) a) x j)));
      },
      record {
        request = r;
        word = ruled.shown.requests.requests a slot number j within below;
        known = λ other sees. sym (All-contains (IsAnnounced s) v.requests (seen_as a slot number other) knows.requests sees).1;
        targets = (ruled.sound.requests a slot number below).targets;
        since = omega (arith, (ruled.sound.requests a slot number below).since, (IsHistory-Sound b s ruled.shown.records.room ruled.sound begun).few);
        agrees = AgreesWithSeen-Knows b words s w ruled.sound mine;
        same = refl;
      },
    )

module _ {S : Type 0} where
  loads_request_word : (slots id : ℕ) (me : Me S Knowledge) (a slot number j : ℕ) → IsKept me.0
      → IsAddress me.0.book (request_word a slot number j) → MayLoadRequest me.0 a slot number j
      → let i = index_of me.0.book (request_word a slot number j) in
      Allows (λ s. Ruled me.0.book s.words s.views) slots id me i (λ n. n) (loaded_request_word (step slots i 0 0 none) me)
  loads_request_word slots id me a slot number j kept within may s holds homes found fits =
      let b : BookTerms = me.0.book in
      let x = request_word a slot number j in
      let i = index_of b x in
      let done = LoadsRequestWord-Ruled b s.words s.views id me.0 a slot number j holds kept.book.begun found (omega (arith, kept.one_part)) within may in
      let same : set s.words i (get_or s.words i 0) ≡ s.words = set-get_or s.words i 0 in (
        done.0,
        keeps,
        tt,
        subst (λ ws. Ruled b ws (set s.views id done.0)) (sym same) done.1,
        (
          refl,
          IsKept-step s.words s.views id me.0 done.0 found kept (ap (λ (t : Knowledge). t.book) done.2.same)
              (ap (λ (t : Knowledge). length t.parts) done.2.same ∙ length-set me.0.parts 0 _)
              (subst (λ (t : Knowledge). IsHistory b t.seen) (sym done.2.same) kept.history) done.1,
          λ c other m k known other_may at.
              let e = index_of-injective b x (request_word c other m k) within known at in
              let account : a ≡ c = cc in
              let slot_is : slot ≡ other = cc in
              let number_is : number ≡ m = cc in
              let word : j ≡ k = cc in
              let n = get_or s.words i 0 in
              subst (λ t. LoadsRequestWord b me.0 done.0 t other m k n) account
              (subst (λ t. LoadsRequestWord b me.0 done.0 a t m k n) slot_is
              (subst (λ t. LoadsRequestWord b me.0 done.0 a slot t k n) number_is
              (subst (λ t. LoadsRequestWord b me.0 done.0 a slot number t n) word done.2))),
        ),
      )

  pub loads_request_word_at : (key : BookTerms) (slots id : ℕ) (me : Me S Knowledge) (a slot number j i : ℕ) → key ≡ me.0.book
      → i ≡ index_of me.0.book (request_word a slot number j) → IsKept me.0 → IsAddress me.0.book (request_word a slot number j)
      → MayLoadRequest me.0 a slot number j
      → Allows (λ s. Ruled key s.words s.views) slots id me i (λ n. n) (loaded_request_word (step slots i 0 0 none) me)
  loads_request_word_at key slots id me a slot number j i is at kept within may =
      allowed_at key slots id me i (index_of me.0.book (request_word a slot number j)) (λ n. n) (λ k. loaded_request_word (step slots k 0 0 none) me) is at
      (loads_request_word slots id me a slot number j kept within may)

pub HasCounts-request : (b : BookTerms) (v w : Knowledge) (a slot number j n : ℕ) (counts : List ℕ) → 0 < length v.parts
    → length (own_part v).asking ≡ length v.book.accounts → LoadsRequestWord b v w a slot number j n → HasCounts v counts → HasCounts w counts
HasCounts-request b v w a slot number j n counts part sized told has =
    let x : SeenRequest = seen_as a slot number told.request in
    subst (λ t. HasCounts t counts) (sym told.same)
    (HasCounts-asking v v.seen (v.requests ++ x ∷ []) a (with_loaded (asking_on (own_part v) a) x j) counts part sized refl has)
