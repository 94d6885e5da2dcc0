-- The words of a request that are stored one after another, and its announcement.
use Rattle.std.proofs.Common.{◌≡◌, ℕ, ◌+◌, ◌<◌, Some, List, [], ◌∷◌, ◌++◌, length, get_or, set, sym, ap, subst, ◌∙◌, arith, below_more}
use Rattle.at_requests.proofs.Prelude.{same_number_lists, get_or-set_other, get_or-set_same, get_or_push, length-set, length_push, BookTerms, HasSlot, TargetPair, request_at, rounds, Request, asking_on, own_part, seen_as, with_asking, BoardTerms, IsOf, SeatTerms, Announces, MayAnnounce, with_request, MayStoreRequest, StoresRequestWord, with_request_word, request_words, Asking, Knowledge, Loads, Part, REQUEST_WORDS, HasAsked, HasLoadedNothing, MayAskFor, asked_for, opened, IsStoringRequest, with_request_stored}
use Rattle.at_requests.proofs.Laws.Accounts.{HasAccount, asking_on-with_asking, own_part-with_asking, with_asking-again, with_asking-self}

pub IsStoringRequest-start : (v : Knowledge) (a : ℕ) (words : List ℕ) → length (asking_on (own_part v) a).stored ≡ REQUEST_WORDS → IsStoringRequest v v a words 0
IsStoringRequest-start v a words sized = record {
  stored = (asking_on (own_part v) a).stored;
  sized = sized;
  same = sym (with_asking-self v a);
  words_so_far = λ k below. absurd (omega (arith, below));
}

-- one more word is stored
pub IsStoringRequest-more : (v u w : Knowledge) (a : ℕ) (words : List ℕ) (j n : ℕ) → HasAccount v a → j < REQUEST_WORDS → IsStoringRequest v u a words j
    → n ≡ get_or words j 0 → StoresRequestWord u w a j n → IsStoringRequest v w a words (j + 1)
IsStoringRequest-more v u w a words j n has inside storing word told =
    let q : Asking = with_request_stored (asking_on (own_part v) a) storing.stored in
    let next : Asking = with_request_word q j n in
    let there : asking_on (own_part u) a ≡ q = ap (λ t. asking_on (own_part t) a) storing.same ∙ asking_on-with_asking v a q has in
    record {
      stored = set storing.stored j n;
      sized = length-set storing.stored j n ∙ storing.sized;
      same = told ∙ (ap (λ t. with_asking u a (with_request_word t j n)) there ∙ (ap (λ t. with_asking t a next) storing.same
          ∙ with_asking-again v v.seen v.requests a q next has));
      words_so_far = below_more (λ k. get_or (set storing.stored j n) k 0 ≡ get_or words k 0) j
          (λ k below. get_or-set_other storing.stored j k n 0 (omega arith) ∙ storing.words_so_far k below)
          (get_or-set_same storing.stored j n 0 (omega (arith, inside, storing.sized)) ∙ word);
    }

-- the seat may go on
pub MayStoreRequest-IsStoringRequest : (b : BookTerms) (v u : Knowledge) (a slot : ℕ) (words : List ℕ) (j : ℕ) → HasAccount v a → IsStoringRequest v u a words j → MayStoreRequest b v a slot
    → MayStoreRequest b u a slot
MayStoreRequest-IsStoringRequest b v u a slot words j has storing may =
    let q : Asking = with_request_stored (asking_on (own_part v) a) storing.stored in
    subst (λ t. MayStoreRequest b t a slot) (sym storing.same)
    (record {
      slot_in = may.slot_in;
      room = subst (λ (t : Asking). length t.announced < b.request_room) (sym (asking_on-with_asking v a q has)) may.room;
    })

-- it asks by the slot that it has
pub MayAskFor-slot : (b : BookTerms) (v : Knowledge) (a slot other : ℕ) (r : Request) → MayAskFor b v a slot r → HasSlot b v.first a other → MayAskFor b v a other r
MayAskFor-slot b v a slot other r may has =
    let some : Some slot ≡ Some other = sym may.asks.slot_in.owner ∙ has.owner in
    let same : slot ≡ other = cc in
    subst (λ k. MayAskFor b v a k r) same may

-- all words are stored
pub MayAnnounce-IsStoringRequest : (b : BookTerms) (v u : Knowledge) (a slot : ℕ) (r : Request) (j : ℕ) → HasAccount v a → MayAskFor b v a slot r
    → IsStoringRequest v u a (request_words r) j → j ≡ REQUEST_WORDS → MayAnnounce b u a slot r
MayAnnounce-IsStoringRequest b v u a slot r j has may storing all =
    let q : Asking = with_request_stored (asking_on (own_part v) a) storing.stored in
    let there = asking_on-with_asking v a q has in
    let words : storing.stored ≡ request_words r = same_number_lists storing.stored (request_words r) storing.sized
    (λ k within. storing.words_so_far k (omega (arith, within, storing.sized, all))) in
    subst (λ t. MayAnnounce b t a slot r) (sym storing.same)
    (record {
      asks = record {
        slot_in = may.asks.slot_in;
        room = subst (λ (t : Asking). length t.announced < b.request_room) (sym there) may.asks.room;
      };
      stored = ap (λ (t : Asking). t.stored) there ∙ words;
      targets = may.targets;
      since = may.since;
      follows = λ before next. may.follows before (next ∙ ap (λ (t : Asking). length t.announced) there);
    })

-- the request is announced, as if in one step
pub Announces-IsStoringRequest : (b : BookTerms) (v u w : Knowledge) (a slot : ℕ) (r : Request) (words : List ℕ) (j : ℕ) → HasAccount v a → IsStoringRequest v u a words j
    → Announces b u w a slot r → Announces b v w a slot r
Announces-IsStoringRequest b v u w a slot r words j has storing told =
    let old : Asking = asking_on (own_part v) a in
    let q : Asking = with_request_stored old storing.stored in
    let mid : Knowledge = with_asking v a q in
    let here : Announces b mid w a slot r = subst (λ t. Announces b t w a slot r) storing.same told in
    let there : asking_on (own_part mid) a ≡ q = asking_on-with_asking v a q has in
    let requests = v.requests ++ seen_as a slot (length old.announced) r ∷ [] in
    record {
      more = here.more;
      all = here.all;
      row = here.row ∙ ap (λ (t : Asking). t.announced ++ r ∷ []) there;
      own = here.own ∙ ap (λ (t : Part). t.published) (own_part-with_asking v a q has);
      history = here.history;
      agrees = here.agrees;
      same = here.same
          ∙ (ap (λ (t : Asking). with_asking (record mid { seen = w.seen; requests = v.requests ++ seen_as a slot (length t.announced) r ∷ [] }) a
          (with_request t r (rounds a w.seen) (own_part mid).loads)) there
          ∙ (ap (λ (l : List Loads). with_asking (record mid { seen = w.seen; requests = requests }) a (with_request q r (rounds a w.seen) l))
          (ap (λ (t : Part). t.loads) (own_part-with_asking v a q has))
          ∙ with_asking-again v w.seen requests a q (with_request old r (rounds a w.seen) (own_part v).loads) has));
    }

-- what the seat has on the account after the announcement
asking_on-Announces : (b : BookTerms) (v w : Knowledge) (a slot : ℕ) (r : Request) → HasAccount v a → Announces b v w a slot r
    → asking_on (own_part w) a ≡ with_request (asking_on (own_part v) a) r (rounds a w.seen) (own_part v).loads
asking_on-Announces b v w a slot r has told =
    let old : Asking = asking_on (own_part v) a in
    let u : Knowledge = record v { seen = w.seen; requests = v.requests ++ seen_as a slot (length old.announced) r ∷ [] } in
    ap (λ t. asking_on (own_part t) a) told.same
    ∙ asking_on-with_asking u a (with_request old r (rounds a w.seen) (own_part v).loads) (record { part = has.part; inside = has.inside })

pub HasLoadedNothing-Announces : (b : BookTerms) (v w : Knowledge) (a slot : ℕ) (r : Request) → HasAccount v a → Announces b v w a slot r → HasLoadedNothing w a
HasLoadedNothing-Announces b v w a slot r has told =
    let there = asking_on-Announces b v w a slot r has told in
    record { rows = ap (λ (t : Asking). t.rows) there; loaded = ap (λ (t : Asking). t.loaded) there }

-- the request is the last one of its process
pub HasAsked-Announces : (b : BookTerms) (v w : Knowledge) (a slot number : ℕ) (targets : List TargetPair) (since : ℕ) → HasAccount v a
    → HasSlot b v.first a slot → number ≡ length (asking_on (own_part v) a).announced → Announces b v w a slot (asked_for targets since)
    → HasAsked b w a (opened slot number targets since)
HasAsked-Announces b v w a slot number targets since has slot_in next told =
    let r : Request = asked_for targets since in
    let row : List Request = (asking_on (own_part v) a).announced in
    let there : (asking_on (own_part w) a).announced ≡ row ++ r ∷ [] = ap (λ (t : Asking). t.announced) (asking_on-Announces b v w a slot r has told) in
    record {
      slot_in = subst (λ p. HasSlot b p a slot) (sym (ap (λ (t : Knowledge). t.first) told.same)) slot_in;
      last = omega (arith, next, length_push row r, ap (λ (l : List Request). length l) there);
      same = ap (λ (l : List Request). request_at l number) there ∙ get_or_push row r (record { targets = []; since = 0 }) number (sym next);
    }

pub IsOf-Announces : (b : BoardTerms) (before after : SeatTerms) (a slot : ℕ) (r : Request) → after.board ≡ before.board → IsOf before b
    → Announces b.book before.knows after.knows a slot r → IsOf after b
IsOf-Announces b before after a slot r same is told = record {
  id = same ∙ is.id;
  book = ap (λ (t : Knowledge). t.book) told.same ∙ is.book;
}
