-- Loads of rows and requests, one after another, and what they leave as it was.
use Rattle.std.proofs.Common.{◌≡◌, ◌≢◌, ℕ, ◌+◌, ◌<◌, ◌≤◌, Some, None, inl, inr, List, [], ◌∷◌, ◌++◌, length, replicate, refl, sym, ap, subst, ◌∙◌, arith}
use Rattle.at_requests.proofs.Prelude.{append-nil, append_assoc, Contains-append_left, Contains-append_right, get_or-map-range_with_len, length-map-range_with_len, Contains, BookTerms, request_at, IsPrefix-refl, IsPrefix-trans, Publication, Request, SeenRow, SeesRequest, asking_on, own_part, seen_as, with_asking, LoadsAnnounced, all_of, with_row, KnowsOf, Asking, Knowledge, LoadedWord, SeenRequest, REQUEST_WORDS, LoadsRequest, with_words, loaded_words, request_of, seen_of, LoadsOnly, SeesAsked, LoadsRow, with_loads, OpenRequest}
use Rattle.at_requests.proofs.Laws.Accounts.{HasAccount, asking_on-with_asking, with_asking-again, with_asking-self}

-- the seat with what it has then seen, and this on the account
abbrev pub with_seen : Knowledge → Knowledge → ℕ → Asking → Knowledge
with_seen v w a t = with_asking (record v { seen = w.seen; requests = w.requests }) a t

pub LoadsOnly-refl : (v : Knowledge) (a : ℕ) → LoadsOnly v v a [] []
LoadsOnly-refl v a =
    let w : Asking = asking_on (own_part v) a in
    record {
      more = IsPrefix-refl v.seen;
      gained = λ x there. there;
      same = sym (ap (λ (rows : List SeenRow). with_asking v a (record w { rows = rows; loaded = w.loaded ++ [] })) (append-nil w.rows)
          ∙ (ap (λ (ls : List LoadedWord). with_asking v a (record w { loaded = ls })) (append-nil w.loaded)
          ∙ with_asking-self v a));
    }

-- what is on the account then
pub asking_on-LoadsOnly : (v u : Knowledge) (a : ℕ) (rows : List SeenRow) (words : List LoadedWord) → HasAccount v a → LoadsOnly v u a rows words
    → asking_on (own_part u) a ≡ with_loads (asking_on (own_part v) a) rows words
asking_on-LoadsOnly v u a rows words has told =
    ap (λ t. asking_on (own_part t) a) told.same
    ∙ asking_on-with_asking (record v { seen = u.seen; requests = u.requests }) a (with_loads (asking_on (own_part v) a) rows words)
    (record { part = has.part; inside = has.inside })

pub LoadsOnly-trans : (v u w : Knowledge) (a : ℕ) (rows more_rows : List SeenRow) (words more_words : List LoadedWord) → HasAccount v a
    → LoadsOnly v u a rows words → LoadsOnly u w a more_rows more_words → LoadsOnly v w a (rows ++ more_rows) (words ++ more_words)
LoadsOnly-trans v u w a rows more_rows words more_words has first second =
    let old : Asking = asking_on (own_part v) a in
    let mid : Asking = with_loads old rows words in
    let base : Knowledge = record v { seen = u.seen; requests = u.requests } in
    let there = asking_on-LoadsOnly v u a rows words has first in
    record {
      more = IsPrefix-trans v.seen u.seen w.seen first.more second.more;
      gained = λ x sees. second.gained x (first.gained x sees);
      same = second.same
          ∙ (ap (λ (t : Asking). with_seen u w a (with_loads t more_rows more_words)) there
          ∙ (ap (λ (t : Knowledge). with_seen t w a (with_loads mid more_rows more_words)) first.same
          ∙ (with_asking-again base w.seen w.requests a mid (with_loads mid more_rows more_words) (record { part = has.part; inside = has.inside })
          ∙ (ap (λ (rs : List SeenRow). with_seen v w a (record old { rows = rs; loaded = (old.loaded ++ words) ++ more_words })) (append_assoc old.rows rows more_rows)
          ∙ ap (λ (ls : List LoadedWord). with_seen v w a (record old { rows = old.rows ++ (rows ++ more_rows); loaded = ls })) (append_assoc old.loaded words more_words)))));
    }

-- a load of an announced word
pub LoadsOnly-LoadsAnnounced : (b : BookTerms) (v w : Knowledge) (a slot n : ℕ) → LoadsAnnounced b v w a slot n
    → LoadsOnly v w a (record { slot = slot; count = n } ∷ []) []
LoadsOnly-LoadsAnnounced b v w a slot n told =
    let old : Asking = asking_on (own_part v) a in
    let now : Asking = with_row old slot n in
    let all : List SeenRequest = all_of a slot told.row in
    let requests : w.requests ≡ v.requests ++ all = ap (λ (t : Knowledge). t.requests) told.same in
    record {
      more = told.more;
      gained = λ x there. subst (λ (rs : List SeenRequest). Contains rs x) (sym requests) (Contains-append_left v.requests all x there);
      same = told.same
          ∙ (ap (λ (rs : List SeenRequest). with_asking (record v { seen = w.seen; requests = rs }) a now) (sym requests)
          ∙ ap (λ (ls : List LoadedWord). with_seen v w a (record now { loaded = ls })) (sym (append-nil old.loaded)));
    }

-- a load of a whole request
pub LoadsOnly-LoadsRequest : (b : BookTerms) (v w : Knowledge) (a slot number : ℕ) (x : OpenRequest) → LoadsRequest b v w a slot number x
    → LoadsOnly v w a [] (loaded_words (seen_of a x))
LoadsOnly-LoadsRequest b v w a slot number x told =
    let old : Asking = asking_on (own_part v) a in
    let now : Asking = with_words old (loaded_words (seen_of a x)) in
    let all : List SeenRequest = replicate REQUEST_WORDS (seen_of a x) in
    let requests : w.requests ≡ v.requests ++ all = ap (λ (t : Knowledge). t.requests) told.same in
    let seen : w.seen ≡ v.seen = ap (λ (t : Knowledge). t.seen) told.same in
    record {
      more = ([], seen ∙ sym (append-nil v.seen));
      gained = λ y there. subst (λ (rs : List SeenRequest). Contains rs y) (sym requests) (Contains-append_left v.requests all y there);
      same = told.same
          ∙ (ap (λ (rs : List SeenRequest). with_asking (record v { requests = rs }) a now) (sym requests)
          ∙ (ap (λ (list : List Publication). with_asking (record v { seen = list; requests = w.requests }) a now) (sym seen)
          ∙ ap (λ (rs : List SeenRow). with_seen v w a (record now { rows = rs })) (sym (append-nil old.rows))));
    }

pub first-LoadsOnly : (v u : Knowledge) (a : ℕ) (rows : List SeenRow) (words : List LoadedWord) → LoadsOnly v u a rows words → u.first ≡ v.first
first-LoadsOnly v u a rows words told = ap (λ (t : Knowledge). t.first) told.same

pub announced-LoadsOnly : (v u : Knowledge) (a : ℕ) (rows : List SeenRow) (words : List LoadedWord) → HasAccount v a → LoadsOnly v u a rows words
    → (asking_on (own_part u) a).announced ≡ (asking_on (own_part v) a).announced
announced-LoadsOnly v u a rows words has told = ap (λ (t : Asking). t.announced) (asking_on-LoadsOnly v u a rows words has told)

-- a request of a row
Contains-all_of : (a slot : ℕ) (row : List Request) (number : ℕ) → number < length row → Contains (all_of a slot row) (seen_as a slot number (request_at row number))
Contains-all_of a slot row number inside =
    let f : ℕ → SeenRequest = λ i. seen_as a slot i (request_at row i) in
    (number, omega (arith, inside, length-map-range_with_len f 0 (length row)), get_or-map-range_with_len f 0 (length row) number number (f number) inside (omega arith))

-- after a load of an announced word the seat has seen each request that it counted, and at least as many publications as its
-- `since`
SeesAsked-LoadsAnnounced : (b : BookTerms) (v w : Knowledge) (a slot n number : ℕ) → number < n → (told : LoadsAnnounced b v w a slot n)
    → SeesRequest w a slot number (request_at told.row number) × ((request_at told.row number).since ≤ length w.seen)
SeesAsked-LoadsAnnounced b v w a slot n number within told =
    let row : List Request = told.row in
    let inside : number < length row = omega (arith, within, told.counted) in (
      subst (λ (rs : List SeenRequest). Contains rs (seen_as a slot number (request_at row number))) (sym (ap (λ (t : Knowledge). t.requests) told.same))
          (Contains-append_right v.requests (all_of a slot row) (seen_as a slot number (request_at row number)) (Contains-all_of a slot row number inside)),
      told.since number (record { targets = []; since = 0 }) inside,
    )

pub KnowsOf-LoadsAnnounced : (b : BookTerms) (v w : Knowledge) (a slot n number : ℕ) → number < n → LoadsAnnounced b v w a slot n → KnowsOf w a slot number
KnowsOf-LoadsAnnounced b v w a slot n number within told = inl (request_at told.row number, (SeesAsked-LoadsAnnounced b v w a slot n number within told).0)

-- the seat's own request is one of its row
pub SeesAsked-own : (b : BookTerms) (v w : Knowledge) (a slot n : ℕ) (own : OpenRequest) → slot ≡ own.slot → SeesRequest v a own.slot own.number (request_of own)
    → LoadsAnnounced b v w a slot n → SeesAsked w a own
SeesAsked-own b v w a slot n own at sees told =
    let here : SeesRequest v a slot own.number (request_of own) = subst (λ k. SeesRequest v a k own.number (request_of own)) (sym at) sees in
    let is = told.known own.number (request_of own) here in
    let (seen, since) = SeesAsked-LoadsAnnounced b v w a slot n own.number is.0 told in
    record {
      sees = subst (λ k. SeesRequest w a k own.number (request_of own)) at (subst (SeesRequest w a slot own.number) is.1 seen);
      since = omega (arith, since, ap (λ (r : Request). r.since) is.1);
    }

-- the row of another owner, and its last request
pub LoadsRow-other : (b : BookTerms) (v u w : Knowledge) (a slot n number : ℕ) (own x : OpenRequest) → HasAccount v a → slot ≢ own.slot → number + 1 ≡ n
    → LoadsAnnounced b v u a slot n → LoadsRequest b u w a slot number x → LoadsRow v w a slot own (Some x)
LoadsRow-other b v u w a slot n number own x has apart last first second =
    let (seen, since) = SeesAsked-LoadsAnnounced b v u a slot n number (omega (arith, last)) first in
    let is = second.known (request_at first.row number) seen in
    record {
      count = n;
      words = loaded_words (seen_of a x);
      loads = LoadsOnly-trans v u w a (record { slot = slot; count = n } ∷ []) [] [] (loaded_words (seen_of a x)) has (LoadsOnly-LoadsAnnounced b v u a slot n first)
          (LoadsOnly-LoadsRequest b u w a slot number x second);
      is_found = inr (apart, second.slot_is, omega (arith, second.number_is, last), refl);
      seen = record {
        sees = subst (λ k. SeesRequest w a k x.number (request_of x)) (sym second.slot_is)
            (subst (λ k. SeesRequest w a slot k (request_of x)) (sym second.number_is) second.sees);
        since = omega (arith, since, ap (λ (r : Request). r.since) is, ap (λ (t : Knowledge). length t.seen) second.same);
      };
    }

-- the row of the seat's own process
pub LoadsRow-own : (b : BookTerms) (v w : Knowledge) (a slot n : ℕ) (own : OpenRequest) → slot ≡ own.slot
    → SeesRequest v a own.slot own.number (request_of own) → LoadsAnnounced b v w a slot n → LoadsRow v w a slot own (Some own)
LoadsRow-own b v w a slot n own at sees told = record {
  count = n;
  words = [];
  loads = LoadsOnly-LoadsAnnounced b v w a slot n told;
  is_found = inl (at, refl, refl);
  seen = SeesAsked-own b v w a slot n own at sees told;
}

-- the row of an owner that has asked nothing
pub LoadsRow-none : (b : BookTerms) (v w : Knowledge) (a slot n : ℕ) (own : OpenRequest) → slot ≢ own.slot → n ≡ 0 → LoadsAnnounced b v w a slot n
    → LoadsRow v w a slot own None
LoadsRow-none b v w a slot n own apart zero told = record {
  count = n;
  words = [];
  loads = LoadsOnly-LoadsAnnounced b v w a slot n told;
  is_found = (apart, zero, refl);
  seen = tt;
}
