-- For callers: what was collected tells which request they may propose.
use Rattle.std.proofs.Common.{◌≡◌, ◌⊎◌, ◌↔◌, ℕ, true, false, List, [], refl, sym, subst, ◌∙◌, arith, inl, inr}
use Rattle.at_requests.proofs.Prelude.{Contains, request_at, IsLastRequest, is_settled, Publication, ComesFirst, IsCandidate, IsOldest, asking_on, own_part, seen_as, Asking, Knowledge, LoadedWord, SeenRequest, IsNotDone, IsOldestOf, IsAmong, request_of, seen_of, AreCandidates, OpenRequest}

-- the requests of the list are candidates, and what else is one, or was loaded in part, is settled
pub record MayChoose (w : Asking) (own : ℕ) (settled : List Publication) (a : ℕ) (asked : List OpenRequest) : Type 0 where
  pub each : (y : SeenRequest) → IsAmong a asked y → IsCandidate w a own y
  pub own_in : (number : ℕ) → IsLastRequest w.announced number → IsAmong a asked (seen_as a own number (request_at w.announced number))
  pub words : (l : LoadedWord) → Contains w.loaded l → IsAmong a asked l.request ⊎ (is_settled a l.request.slot l.request.number settled ≡ true)

-- the counts tell of each request of the list whether it is settled
abbrev pub TellsSettled : ℕ → List Publication → List OpenRequest → List ℕ → Type 0
TellsSettled a settled asked done = (y : OpenRequest) → Contains asked y → IsNotDone done y ↔ (is_settled a y.slot y.number settled ≡ false)

-- after the rows were collected by a seat that had loaded nothing since it asked
pub MayChoose-AreCandidates : (v w : Knowledge) (a own : ℕ) (settled : List Publication) (asked : List OpenRequest) → AreCandidates v w a own asked
    → (asking_on (own_part v) a).loaded ≡ [] → MayChoose (asking_on (own_part w) a) own settled a asked
MayChoose-AreCandidates v w a own settled asked are none = record {
  each = are.each;
  own_in = λ number last. are.all none (seen_as a own number (request_at (asking_on (own_part w) a).announced number)) (inl (number, last, refl));
  words = λ l there. elim (are.only l there) as (λ _. IsAmong a asked l.request ⊎ (is_settled a l.request.slot l.request.number settled ≡ true)) [
    | inl before ↦ let empty = subst (λ (ls : List LoadedWord). Contains ls l) none before in absurd (omega (arith, empty.1))
    | inr among ↦ inl among
  ];
}

-- a candidate that isn't settled is one of the list
others-MayChoose : (w : Asking) (own a : ℕ) (settled : List Publication) (asked : List OpenRequest) (y : SeenRequest) → MayChoose w own settled a asked
    → IsCandidate w a own y → is_settled a y.slot y.number settled ≡ false → IsAmong a asked y
others-MayChoose w own a settled asked y may (inl (number, last, is)) unsettled = subst (IsAmong a asked) (sym is) (may.own_in number last)
others-MayChoose w own a settled asked y may (inr loaded) unsettled =
    elim (may.words (record { request = y; word = 0 }) (loaded 0 (omega arith))) as (λ _. IsAmong a asked y) [
      | inl among ↦ among
      | inr is ↦ absurd (cc (sym is ∙ unsettled))
    ]

-- the oldest of the list is the one that the seat may propose
pub IsOldest-IsOldestOf : (w : Asking) (own a : ℕ) (settled : List Publication) (asked : List OpenRequest) (done : List ℕ) (x : OpenRequest) → MayChoose w own settled a asked
    → TellsSettled a settled asked done → IsOldestOf asked done x → IsOldest w own settled a x.slot x.number (request_of x)
IsOldest-IsOldestOf w own a settled asked done x may tells oldest = record {
  candidate = may.each (seen_of a x) (x, oldest.among, refl);
  unsettled = (tells x oldest.among).0 oldest.left;
  first = λ other n q candidate unsettled.
      let (y, there, is) = others-MayChoose w own a settled asked (seen_as a other n q) may candidate unsettled in
      let left : IsNotDone done y = (tells y there).1 (subst (λ (t : SeenRequest). is_settled a t.slot t.number settled ≡ false) is unsettled) in
      subst (λ (t : SeenRequest). ComesFirst x.slot (request_of x) t.slot t.request) (sym is) (oldest.first y there left);
}
