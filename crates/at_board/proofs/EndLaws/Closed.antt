-- The last state of a closed board.
use Rattle.std.proofs.Common.{ap, ◌≡◌, ℕ, ◌+◌, ◌-◌, ◌<◌, List, [], ◌∷◌, ◌++◌, length, get_or, map, take, None, refl, sym, subst, ◌∙◌, arith, inl, inr}
use Rattle.at_board.proofs.Prelude.{get_or-append_seam, cases_lt, same_number_lists, get_or-append_right, get_or-map, get_or_append_left, get_or_default, length-append, length-map, length_push, same_lists, All-append, All-cons, All-nil, Contains-append_left, Contains-append_right, get_or-map-range_with_len, length-map-range_with_len, All, Contains, range_with_len, Final, Seen, BookTerms, IsBook, get_or-publications_of, position_of, length-IsCut, IsPrefix-refl, IsPrefix-trans, IsHistory-Sound, All-Contains, BoardState, publication_at, IsPrefix, count_of, no_publication, publications_of, Sound, Publication, Gathers, IsEnd, IsFreeSeat, end_of, gathered, records_in, records_of, HasPart, IsAnnounced, IsDecided, Knows, asking_on, no_part, own_part, part_at, BoardTerms, SeatTerms, Ruled, length_of, record_width, record_word, word_at, record_words, Shown, Part, Knowledge}
use Rattle.at_board.proofs.StepLaws.Forms.{IsForm-publications_of}

-- a list has all elements of another
abbrev pub HasAll : {X : Type 0} → List X → List X → Type 0
HasAll xs ys = All (Contains xs) ys

HasAll-refl : {X : Type 0} (xs : List X) → HasAll xs xs
HasAll-refl xs k x within = (k, within, get_or_default xs k (get_or xs k x) x within)

HasAll-left : {X : Type 0} (xs ys zs : List X) → HasAll xs zs → HasAll (xs ++ ys) zs
HasAll-left xs ys zs has k z within = Contains-append_left xs ys (get_or zs k z) (has k z within)

HasAll-right : {X : Type 0} (xs ys zs : List X) → HasAll ys zs → HasAll (xs ++ ys) zs
HasAll-right xs ys zs has k z within = Contains-append_right xs ys (get_or zs k z) (has k z within)

-- a seat knows all that it has seen
HasAll-first : {X : Type 0} (seen_by : Knowledge → List X) (seat : SeatTerms) → All (λ s. HasAll (seen_by seat.knows) (seen_by s.knows)) (seat ∷ [])
HasAll-first seen_by seat =
    let P : SeatTerms → Type 0 = λ s. HasAll (seen_by seat.knows) (seen_by s.knows) in
    All-cons P seat [] (HasAll-refl (seen_by seat.knows)) (All-nil P)

-- all that each seat has seen is known, and so is what one more seat has seen
HasAll-push : {X : Type 0} (seen_by : Knowledge → List X) (seats : List SeatTerms) (x : SeatTerms) (before after : List X)
    → All (λ seat. HasAll before (seen_by seat.knows)) seats → ((zs : List X) → HasAll before zs → HasAll after zs) → HasAll after (seen_by x.knows)
    → All (λ seat. HasAll after (seen_by seat.knows)) (seats ++ x ∷ [])
HasAll-push seen_by seats x before after old more new =
    let P : SeatTerms → Type 0 = λ seat. HasAll after (seen_by seat.knows) in
    All-append P seats (x ∷ []) (λ k d within. more (seen_by (get_or seats k d).knows) (old k d within)) (All-cons P x [] new (All-nil P))

-- the first seat
pub Gathers-first : (board : BoardTerms) (seat : SeatTerms) → IsFreeSeat board 0 seat → length seat.knows.parts ≡ 1 → Gathers (seat ∷ []) seat.knows
Gathers-first board seat is one =
    record {
      first = is.process;
      parts = one;
      own = λ k d within. let at : 0 ≡ k = omega (arith, within) in
          subst (λ n. part_at seat.knows n ≡ own_part (get_or (seat ∷ []) n d).knows) at refl;
      free = λ k within. let at : 0 ≡ k = omega (arith, within, one) in subst (λ n. (part_at seat.knows n).held ≡ None) at is.free;
      seen = All-cons (λ s. IsPrefix s.knows.seen seat.knows.seen) seat [] (IsPrefix-refl seat.knows.seen) (All-nil (λ s. IsPrefix s.knows.seen seat.knows.seen));
      requests = HasAll-first (λ v. v.requests) seat;
      decisions = HasAll-first (λ v. v.decisions) seat;
    }

-- the next seat stands for the process after those that were gathered
pub next_seat : (board : BoardTerms) (seats : List SeatTerms) (v : Knowledge) (x : SeatTerms) → Gathers seats v → IsFreeSeat board (length seats) x
    → x.knows.first ≡ v.first + length v.parts
next_seat board seats v x gathers is = omega (arith, is.process, gathers.first, gathers.parts)

pub Gathers-more : (board : BoardTerms) (seats : List SeatTerms) (v : Knowledge) (x : SeatTerms) → Gathers seats v → IsFreeSeat board (length seats) x
    → length x.knows.parts ≡ 1 → IsPrefix v.seen (gathered v x.knows).seen → IsPrefix x.knows.seen (gathered v x.knows).seen
    → Gathers (seats ++ x ∷ []) (gathered v x.knows)
Gathers-more board seats v x gathers is one mine theirs =
    let w : Knowledge = x.knows in
    let u : Knowledge = gathered v w in
    let P : SeatTerms → Type 0 = λ s. IsPrefix s.knows.seen u.seen in
    record {
      first = gathers.first;
      parts = omega (arith, length-append v.parts w.parts, gathers.parts, one, length_push seats x);
      own = λ k d within. elim (cases_lt k (length seats)) as (λ _. get_or (v.parts ++ w.parts) k no_part ≡ own_part (get_or (seats ++ x ∷ []) k d).knows) [
        | inl below ↦
            get_or_append_left v.parts w.parts no_part k (omega (arith, below, gathers.parts))
            ∙ (gathers.own k d below ∙ sym (ap (λ (t : SeatTerms). own_part t.knows) (get_or_append_left seats (x ∷ []) d k below)))
        | inr above ↦
            let at : k ≡ length seats = omega (arith, above, within, length_push seats x) in
            let mine : get_or (v.parts ++ w.parts) k no_part ≡ part_at w (k - length v.parts) =
            get_or-append_right v.parts w.parts (length v.parts) k no_part refl (omega (arith, gathers.parts, above)) in
            let first : k - length v.parts ≡ 0 = omega (arith, gathers.parts, at) in
            let last : get_or (seats ++ x ∷ []) k d ≡ x = ap (λ n. get_or (seats ++ x ∷ []) n d) at ∙ get_or-append_seam seats x [] d in
            mine ∙ (ap (part_at w) first ∙ sym (ap (λ (t : SeatTerms). own_part t.knows) last))
      ];
      free = λ k within. elim (cases_lt k (length v.parts)) as (λ _. (get_or (v.parts ++ w.parts) k no_part).held ≡ None) [
        | inl below ↦ subst (λ q. q.held ≡ None) (sym (get_or_append_left v.parts w.parts no_part k below)) (gathers.free k below)
        | inr above ↦
            let at : 0 ≡ k - length v.parts = omega (arith, within, above, length-append v.parts w.parts, one) in
            subst (λ q. q.held ≡ None) (sym (get_or-append_right v.parts w.parts (length v.parts) k no_part refl above))
            (subst (λ n. (part_at w n).held ≡ None) at is.free)
      ];
      seen = All-append P seats (x ∷ []) (λ k d within. IsPrefix-trans (get_or seats k d).knows.seen v.seen u.seen (gathers.seen k d within) mine)
          (All-cons P x [] theirs (All-nil P));
      requests = HasAll-push (λ t. t.requests) seats x v.requests u.requests gathers.requests (HasAll-left v.requests w.requests)
          (HasAll-right v.requests w.requests w.requests (HasAll-refl w.requests));
      decisions = HasAll-push (λ t. t.decisions) seats x v.decisions u.decisions gathers.decisions (HasAll-left v.decisions w.decisions)
          (HasAll-right v.decisions w.decisions w.decisions (HasAll-refl w.decisions));
    }

-- a record of a sound list has all its words
length-record_words : (b : BookTerms) (s : BoardState) (p i : ℕ) → Sound b s → i < count_of p s.published
    → length (record_words (publication_at (publications_of p s.published) i)) ≡ record_width b
length-record_words b s p i sound within =
    let at = position_of p i s.published within in
    let m = at.0 in
    let x = publication_at s.published m in
    let here : publication_at (publications_of p s.published) i ≡ x =
    ap (publication_at (publications_of p s.published)) (sym at.1.before)
    ∙ get_or-publications_of p m s.published no_publication at.1.within (at.1.own no_publication) in
    let view : length x.view ≡ b.processes = length-IsCut b.processes x.view (take m s.published) (sound.views m at.1.within).cut in
    ap (λ (y : Publication). length (record_words y)) here ∙ omega (arith, view)

pub records_of-end_of : (b : BookTerms) (words : List ℕ) (p : ℕ) → p < b.processes → records_of (end_of b words) p ≡ records_in b words p
records_of-end_of b words p known = get_or-map-range_with_len (records_in b words) 0 b.processes p p [] known (omega arith)

-- the records that the words have are those that were published
records_in-Shown : (b : BookTerms) (words : List ℕ) (s : BoardState) (p : ℕ) → Shown b words s → Sound b s → p < b.processes
    → records_in b words p ≡ map record_words (publications_of p s.published)
records_in-Shown b words s p shown sound known =
    let n = word_at b words (length_of p) in
    let width = record_width b in
    let list = publications_of p s.published in
    let words_of : ℕ → List ℕ = λ i. map (λ j. word_at b words (record_word p i j)) (range_with_len 0 width) in
    let counted : n ≡ length list = shown.records.lengths p known in
    let room = shown.records.room p known in
    same_lists (records_in b words p) (map record_words list)
    (length-map-range_with_len words_of 0 n ∙ (counted ∙ sym (length-map list record_words)))
    (λ i d below.
    let inside : i < length list = omega (arith, below, length-map-range_with_len words_of 0 n, counted) in
    let x = publication_at list i in
    let sized = length-record_words b s p i sound inside in
    let same : words_of i ≡ record_words x =
    same_number_lists (words_of i) (record_words x) (length-map-range_with_len (λ j. word_at b words (record_word p i j)) 0 width ∙ sym sized)
    (λ j within.
    let short : j < width = omega (arith, within, length-map-range_with_len (λ k. word_at b words (record_word p i k)) 0 width) in
    get_or-map-range_with_len (λ k. word_at b words (record_word p i k)) 0 width j j 0 short (omega arith)
    ∙ shown.records.records p i j (known, omega (arith, inside, room), short) inside) in
    get_or-map-range_with_len words_of 0 n i i d (omega (arith, inside, counted)) (omega arith)
    ∙ (same ∙ sym (get_or-map record_words list i no_publication d inside)))

module _ {S : Type 0} where
  -- the last state
  abbrev pub IsLast : BookTerms → ℕ → Knowledge → List ℕ → List S → Type 0
  IsLast b id v words slots = Final (Seen {S = S} (λ s. Ruled b s.words s.views) id v) words slots

  pub IsEnd-Final : (b : BookTerms) (words : List ℕ) (slots : List S) (id : ℕ) (v : Knowledge) (seats : List SeatTerms) → IsBook b → Gathers seats v
      → length seats ≡ b.processes → IsLast b id v words slots → IsEnd (end_of b words) seats
  IsEnd-Final b words slots id v seats book gathers all last =
      let ruled : Ruled b last.0.words last.0.views = last.1.0 in
      let s : BoardState = ruled.state in
      let history = IsHistory-Sound b s ruled.shown.records.room ruled.sound book.begun in
      let knows : Knows b last.0.words s v = ruled.knows id v last.1.1 in
      let has : (p : ℕ) → p < b.processes → HasPart b last.0.words s v p (part_at v p) =
      λ p within. subst (λ n. HasPart b last.0.words s v n (part_at v p)) (omega (arith, gathers.first))
      (knows.parts p (omega (arith, within, gathers.parts, all))) in
      let own : (p : ℕ) (d : SeatTerms) → p < b.processes → part_at v p ≡ own_part (get_or seats p d).knows =
      λ p d within. gathers.own p d (omega (arith, within, all)) in
      record {
        state = s;
        records = λ p within. records_of-end_of b words p within ∙ records_in-Shown b words s p (subst (λ ws. Shown b ws s) last.2 ruled.shown) ruled.sound within;
        sound = ruled.sound;
        free = λ p within. sym (has p within).held ∙ gathers.free p (omega (arith, within, gathers.parts, all));
        seen = λ k d within. IsPrefix-trans (get_or seats k d).knows.seen v.seen s.published (gathers.seen k d within) knows.seen;
        requests = λ k d within. λ i x inside.
            All-Contains (IsAnnounced s) v.requests (get_or (get_or seats k d).knows.requests i x) knows.requests (gathers.requests k d within i x inside);
        decisions = λ k d within. λ i x inside.
            All-Contains (IsDecided s) v.decisions (get_or (get_or seats k d).knows.decisions i x) knows.decisions (gathers.decisions k d within i x inside);
        counted = λ p d within. sym (has p within).published ∙ ap (λ (q : Part). q.published) (own p d within);
        announced = λ p d a slot within slots.
            sym ((has p within).asking a slot slots).announced ∙ ap (λ q. (asking_on q a).announced) (own p d within);
        history = history;
        forms = λ p i within. IsForm-publications_of b s.published p i book.begun history within;
      }
