-- What a seat that proposes knows of the requests of the board.
use Rattle.std.proofs.Common.{◌≡◌, ◌⊎◌, ℕ, ◌-◌, ◌<◌, ◌≤◌, List, false, length, take, refl, sym, ap, subst, ◌∙◌, arith, inl, inr}
use Rattle.at_board.proofs.Prelude.{cases_lt, All-contains, Contains, Decision, BookTerms, take-IsPrefix-le, IsOldestRequest, BoardState, request_at, HasLoadedBefore, IsLastRequest, is_settled, Sound, Request, SeenRow, ComesFirst, HasLoadedRow, HasAsking, HasPart, IsAnnounced, Knows, HasLoadedRequest, asking_on, own_part, seen_as, MayPropose, Asking, Knowledge, LoadedWord, SeenRequest}
use Rattle.at_board.proofs.KnowledgeLaws.Agreement.{seen_request}

since-ComesFirst : (slot : ℕ) (r : Request) (other : ℕ) (q : Request) → ComesFirst slot r other q → r.since ≤ q.since
since-ComesFirst slot r other q (inl older) = omega (arith, older)
since-ComesFirst slot r other q (inr (as_old, slots)) = omega (arith, as_old)

-- a request whose words were loaded is the board's
IsAnnounced-loaded : (b : BookTerms) (words : List ℕ) (s : BoardState) (v : Knowledge) (a slot : ℕ) (w : Asking) (x : SeenRequest) → HasAsking b words s v a slot w
    → HasLoadedRequest w x → IsAnnounced s x
IsAnnounced-loaded b words s v a slot w x has loaded =
    All-contains (λ (l : LoadedWord). IsAnnounced s l.request) w.loaded (record { request = x; word = 0 }) has.loaded (loaded 0 (omega arith))

-- an owner that has loaded a row has missed its last request, or has loaded it
row_cases : (b : BookTerms) (words : List ℕ) (s : BoardState) (v : Knowledge) (a own : ℕ) (w : Asking) (other number : ℕ) → HasAsking b words s v a own w
    → HasLoadedRow w a other → IsLastRequest (s.rows a other) number
    → HasLoadedBefore (s.seen_rows a own) other number ⊎ HasLoadedRequest w (seen_as a other number (request_at (s.rows a other) number))
row_cases b words s v a own w other number has (n, row, last_loaded) last =
    elim (cases_lt number n) as (λ _. HasLoadedBefore (s.seen_rows a own) other number ⊎ HasLoadedRequest w (seen_as a other number (request_at (s.rows a other) number))) [
      | inr missed ↦ inl (n, subst (λ (rs : List SeenRow). Contains rs (record { slot = other; count = n })) has.rows row, missed)
      | inl counted ↦
          let k = n - 1 in
          let loaded = last_loaded k (omega (arith, counted)) in
          let is = IsAnnounced-loaded b words s v a own w (seen_as a other k loaded.0) has loaded.1 in
          let at : k ≡ number = omega (arith, is.0, last, counted) in
          let request : loaded.0 ≡ request_at (s.rows a other) number = sym is.1 ∙ ap (request_at (s.rows a other)) at in
          inr (subst (λ (q : Request). HasLoadedRequest w (seen_as a other number q)) request
          (subst (λ i. HasLoadedRequest w (seen_as a other i loaded.0)) at loaded.1))
    ]

-- what a seat may propose is the oldest of what the board has, as far as the seat hasn't missed it
pub IsOldestRequest-MayPropose : (b : BookTerms) (words : List ℕ) (s : BoardState) (v : Knowledge) (a round : ℕ) (d : Decision) (r : Request) → Sound b s
    → Knows b words s v → HasPart b words s v v.first (own_part v) → (may : MayPropose b v a round d r) → IsOldestRequest s a may.own d
IsOldestRequest-MayPropose b words s v a round d r sound knows part may =
    let w : Asking = asking_on (own_part v) a in
    let has = part.asking a may.own may.asking.loaded.slot_in in
    let own = may.own in
    let mine = may.asking.number in
    let same : take d.place v.seen ≡ take d.place s.published = sym (take-IsPrefix-le d.place v.seen s.published may.place knows.seen) in
    let named = seen_request s v.requests (seen_as a d.slot d.number r) knows.requests may.named in
    let is : r ≡ request_at (s.rows a d.slot) d.number = sym named.1 in
    let first : (other n : ℕ) (q : Request) → ComesFirst d.slot r other q → (request_at (s.rows a d.slot) d.number).since ≤ q.since =
    λ other n q comes. subst (λ (t : Request). t.since ≤ q.since) is (since-ComesFirst d.slot r other q comes) in
    record {
      mine = mine;
      last = subst (λ (row : List Request). IsLastRequest row mine) has.announced may.asking.last;
      unsettled = subst (λ t. is_settled a own mine t ≡ false) same may.asking.unsettled;
      first = subst (λ (row : List Request). (request_at (s.rows a d.slot) d.number).since ≤ (request_at row mine).since) has.announced
          (first own mine (request_at w.announced mine) (may.oldest.first own mine (request_at w.announced mine) (inl (mine, may.asking.last, refl)) may.asking.unsettled));
      others = λ other number apart last.
          let inside : number < length (s.rows a other) = omega (arith, last) in
          elim (row_cases b words s v a own w other number has (may.asking.loaded.rows other (sound.requests a other number inside).slot_in apart) last)
          as (λ _. HasLoadedBefore (s.seen_rows a own) other number
          ⊎ (is_settled a other number (take d.place s.published) ≡ false
          → (request_at (s.rows a d.slot) d.number).since ≤ (request_at (s.rows a other) number).since)) [
            | inl missed ↦ inl missed
            | inr loaded ↦ inr (λ unsettled.
                let q : Request = request_at (s.rows a other) number in
                first other number q (may.oldest.first other number q (inr loaded) (subst (λ t. is_settled a other number t ≡ false) (sym same) unsettled)))
          ];
    }
