-- What the calls add to the requests of an account, where nothing is asked elsewhere and no own record is published.
use Rattle.std.proofs.Common.{◌≡◌, ◌≢◌, ℕ, ◌+◌, ◌<◌, ◌≤◌, false, List, [], ◌∷◌, ◌++◌, length, refl, sym, ap, subst, ◌∙◌, arith}
use Rattle.at_payments.proofs.Prelude.{append-nil, append_assoc, get_or-set_other, get_or-set_same, Contains-append_left, Contains, Decision, BookTerms, owns_of-push_round, count_of-push_own, IsPrefix-refl, IsPrefix-trans, owns_of-IsPrefix, is_own, IsPrefix, count_of, owns_of, rounds, Publication, Request, SeenRow, asking_on, loads_of, no_asking, no_part, own_part, part_asking, seen_as, Announces, with_request, Decides, Publishes, Asking, Knowledge, LoadedWord, Part, SeenRequest, HasAccount, LoadsRequest, loaded_words, request_of, seen_of, LoadsOnly, with_loads, OpenRequest, HelpingTerms, HasStarted, HasLoaded, SeesOwnRecords, IsSnapshot}
use Rattle.at_payments.proofs.SharedLaws.After.{IsAfter, IsAfter-Decides, IsAfter-HasLoaded, IsAfter-LoadsRequest, IsAfter-Publishes, own_part-Decides, own_part-HasLoaded, own_part-LoadsRequest, own_part-Publishes}
use Rattle.at_payments.proofs.SharedLaws.Starting.{HasAccount-Keeps, Keeps, Keeps-Announces, Keeps-HasLoaded, Keeps-LoadsOnly}

-- no length was loaded less often
abbrev pub LoadsMore : BookTerms → Knowledge → Knowledge → Type 0
LoadsMore b v w = (p : ℕ) → p < b.processes → (loads_of (own_part v) p).times ≤ (loads_of (own_part w) p).times

-- these requests were announced on the account, none elsewhere, and no own record was published
pub record Adds (b : BookTerms) (v w : Knowledge) (a : ℕ) (row : List Request) : Type 0 where
  pub first : w.first ≡ v.first
  pub more : IsPrefix v.seen w.seen
  pub parts : length w.parts ≡ length v.parts
  pub accounts : length (own_part w).asking ≡ length (own_part v).asking
  pub announced : (asking_on (own_part w) a).announced ≡ (asking_on (own_part v) a).announced ++ row
  pub elsewhere : (c : ℕ) → c ≢ a → asking_on (own_part w) c ≡ asking_on (own_part v) c
  pub gained : (x : SeenRequest) → Contains v.requests x → Contains w.requests x
  pub own : SeesOwnRecords v → SeesOwnRecords w
  pub owns : SeesOwnRecords v → owns_of v.first w.seen ≡ owns_of v.first v.seen
  pub times : LoadsMore b v w

pub Adds-refl : (b : BookTerms) (v : Knowledge) (a : ℕ) → Adds b v v a []
Adds-refl b v a = record {
  first = refl;
  more = IsPrefix-refl v.seen;
  parts = refl;
  accounts = refl;
  announced = sym (append-nil (asking_on (own_part v) a).announced);
  elsewhere = λ c other. refl;
  gained = λ x sees. sees;
  own = λ sees. sees;
  owns = λ sees. refl;
  times = λ p known. omega arith;
}

pub Adds-trans : (b : BookTerms) (v u w : Knowledge) (a : ℕ) (row others : List Request) → Adds b v u a row → Adds b u w a others
    → Adds b v w a (row ++ others)
Adds-trans b v u w a row others one two = record {
  first = two.first ∙ one.first;
  more = IsPrefix-trans v.seen u.seen w.seen one.more two.more;
  parts = two.parts ∙ one.parts;
  accounts = two.accounts ∙ one.accounts;
  announced = two.announced
      ∙ (ap (λ (rs : List Request). rs ++ others) one.announced ∙ append_assoc (asking_on (own_part v) a).announced row others);
  elsewhere = λ c other. two.elsewhere c other ∙ one.elsewhere c other;
  gained = λ x sees. two.gained x (one.gained x sees);
  own = λ sees. two.own (one.own sees);
  owns = λ sees. subst (λ p. owns_of p w.seen ≡ owns_of p u.seen) one.first (two.owns (one.own sees)) ∙ one.owns sees;
  times = λ p known. omega (arith, one.times p known, two.times p known);
}

pub HasAccount-Adds : (b : BookTerms) (v w : Knowledge) (a c : ℕ) (row : List Request) → Adds b v w a row → HasAccount v c → HasAccount w c
HasAccount-Adds b v w a c row adds has = record { part = omega (arith, adds.parts, has.part); inside = omega (arith, adds.accounts, has.inside) }

-- where nothing was published
own_of : (v w : Knowledge) → w.first ≡ v.first → (own_part w).published ≡ (own_part v).published
    → (SeesOwnRecords v → count_of v.first w.seen ≡ (own_part v).published) → SeesOwnRecords v → SeesOwnRecords w
own_of v w first published count sees = ap (λ p. count_of p w.seen) first ∙ (count sees ∙ sym published)

owns_as : (v w : Knowledge) → IsPrefix v.seen w.seen → (SeesOwnRecords v → count_of v.first w.seen ≡ (own_part v).published) → SeesOwnRecords v
    → owns_of v.first w.seen ≡ owns_of v.first v.seen
owns_as v w more count sees = owns_of-IsPrefix v.first v.seen w.seen more (sees ∙ sym (count sees))

Adds-IsAfter : (b : BookTerms) (v w : Knowledge) (a n : ℕ) (words : List LoadedWord) → IsAfter v w a n words
    → (own_part w).published ≡ (own_part v).published → (SeesOwnRecords v → count_of v.first w.seen ≡ (own_part v).published) → LoadsMore b v w
    → Adds b v w a []
Adds-IsAfter b v w a n words after published count times = record {
  first = after.first;
  more = after.more;
  parts = after.parts;
  accounts = after.accounts;
  announced = ap (λ (t : Asking). t.announced) after.asking ∙ sym (append-nil (asking_on (own_part v) a).announced);
  elsewhere = after.elsewhere;
  gained = after.requests;
  own = own_of v w after.first published count;
  owns = owns_as v w after.more count;
  times = times;
}

-- a snapshot
pub Adds-HasLoaded : (b : BookTerms) (v w : Knowledge) (a : ℕ) (cut : List ℕ) → 0 < length v.parts → HasLoaded b v w → IsSnapshot b v w cut
    → Adds b v w a []
Adds-HasLoaded b v w a cut part told snapshot =
    Adds-IsAfter b v w a 0 [] (IsAfter-HasLoaded b v w a part told) (ap (λ (q : Part). q.published) (own_part-HasLoaded b v w part told))
    (λ sees. told.own) (λ p known. omega (arith, snapshot.fresh.loaded p known))

-- an exchange
pub Adds-Decides : (b : BookTerms) (v w : Knowledge) (a round : ℕ) (d : Decision) (word : ℕ) → HasAccount v a → Decides b v w a round d word
    → Adds b v w a []
Adds-Decides b v w a round d word has told =
    let same = own_part-Decides b v w a round d word has.part told in
    Adds-IsAfter b v w a 1 [] (IsAfter-Decides b v w a round d word has told) (ap (λ (q : Part). q.published) same) (λ sees. told.own)
    (λ p known. omega (arith, ap (λ (q : Part). (loads_of q p).times) same))

-- a load of a request
pub Adds-LoadsRequest : (b : BookTerms) (v w : Knowledge) (a slot number : ℕ) (x : OpenRequest) → HasAccount v a → LoadsRequest b v w a slot number x
    → Adds b v w a []
Adds-LoadsRequest b v w a slot number x has told =
    let same = own_part-LoadsRequest b v w a slot number x has.part told in
    Adds-IsAfter b v w a 0 (loaded_words (seen_of a x)) (IsAfter-LoadsRequest b v w a slot number x has told) (ap (λ (q : Part). q.published) same)
    (λ sees. ap (λ (t : Knowledge). count_of v.first t.seen) told.same ∙ sees) (λ p known. omega (arith, ap (λ (q : Part). (loads_of q p).times) same))

-- a record of a round
pub Adds-Publishes : (b : BookTerms) (v w : Knowledge) (a : ℕ) (x : Publication) → 0 < length v.parts → x.process ≡ v.first → is_own x.entry ≡ false
    → Publishes b v w x → Adds b v w a []
Adds-Publishes b v w a x part process round told =
    let after = IsAfter-Publishes b v w a x part told in
    let same = own_part-Publishes b v w x part told in
    let list : List Publication = v.seen ++ told.between in
    let pushed : count_of v.first (list ++ x ∷ []) ≡ count_of v.first list + 1 =
    subst (λ p. count_of p (list ++ x ∷ []) ≡ count_of p list + 1) process (count_of-push_own list x) in
    record {
      first = after.first;
      more = after.more;
      parts = after.parts;
      accounts = after.accounts;
      announced = ap (λ (t : Asking). t.announced) after.asking ∙ sym (append-nil (asking_on (own_part v) a).announced);
      elsewhere = after.elsewhere;
      gained = after.requests;
      own = λ sees. ap (λ p. count_of p w.seen) after.first ∙ (told.own ∙ sym (ap (λ (q : Part). q.published) same));
      owns = λ sees.
          ap (owns_of v.first) told.seen
          ∙ (owns_of-push_round v.first list x round
          ∙ owns_of-IsPrefix v.first v.seen list (told.between, refl) (omega (arith, sees, told.own, ap (count_of v.first) told.seen, pushed)));
      times = λ p known. omega (arith, ap (λ (q : Part). (loads_of q p).times) same);
    }

-- where only what the part has on one account is changed
Adds-asking : (b : BookTerms) (v w : Knowledge) (a : ℕ) (t : Asking) (row : List Request) → HasAccount v a → Keeps v w
    → own_part w ≡ part_asking (own_part v) a t → t.announced ≡ (asking_on (own_part v) a).announced ++ row
    → ((x : SeenRequest) → Contains v.requests x → Contains w.requests x)
    → (SeesOwnRecords v → count_of v.first w.seen ≡ (own_part v).published) → Adds b v w a row
Adds-asking b v w a t row has keeps same announced gained count = record {
  first = keeps.first;
  more = keeps.more;
  parts = keeps.parts;
  accounts = keeps.accounts;
  announced = ap (λ (q : Part). (asking_on q a).announced) same
      ∙ (ap (λ (u : Asking). u.announced) (get_or-set_same (own_part v).asking a t no_asking has.inside) ∙ announced);
  elsewhere = λ c other. ap (λ (q : Part). asking_on q c) same ∙ get_or-set_other (own_part v).asking a c t no_asking other;
  gained = gained;
  own = own_of v w keeps.first keeps.published count;
  owns = owns_as v w keeps.more count;
  times = λ p known. omega (arith, ap (λ (q : Part). (loads_of q p).times) same);
}

-- an announcement
pub Adds-Announces : (b : BookTerms) (v w : Knowledge) (a slot : ℕ) (r : Request) → HasAccount v a → Announces b v w a slot r → Adds b v w a (r ∷ [])
Adds-Announces b v w a slot r has told =
    let old : Asking = asking_on (own_part v) a in
    let t : Asking = with_request old r (rounds a w.seen) (own_part v).loads in
    Adds-asking b v w a t (r ∷ []) has (Keeps-Announces b v w a slot r has told)
    (ap own_part told.same ∙ get_or-set_same v.parts 0 (part_asking (own_part v) a t) no_part has.part) refl
    (λ x sees. subst (λ (rs : List SeenRequest). Contains rs x) (sym (ap (λ (k : Knowledge). k.requests) told.same))
    (Contains-append_left v.requests (seen_as a slot (length old.announced) r ∷ []) x sees))
    (λ sees. told.own)

-- loads of rows and requests
pub Adds-LoadsOnly : (b : BookTerms) (v w : Knowledge) (a : ℕ) (rows : List SeenRow) (words : List LoadedWord) → HasAccount v a
    → SeesOwnRecords w → LoadsOnly v w a rows words → Adds b v w a []
Adds-LoadsOnly b v w a rows words has sees told =
    let t : Asking = with_loads (asking_on (own_part v) a) rows words in
    let keeps = Keeps-LoadsOnly v w a rows words has told in
    Adds-asking b v w a t [] has keeps
    (ap own_part told.same ∙ get_or-set_same v.parts 0 (part_asking (own_part v) a t) no_part has.part)
    (sym (append-nil (asking_on (own_part v) a).announced)) told.gained
    (λ before. ap (λ p. count_of p w.seen) (sym keeps.first) ∙ (sees ∙ keeps.published))

-- what a start adds since it has looked
pub Adds-HasStarted : (b : BookTerms) (v w : Knowledge) (h : HelpingTerms) (started : HasStarted b v w h) → HasAccount v h.account → SeesOwnRecords w
    → Adds b started.looked w h.account (request_of h.own ∷ [])
Adds-HasStarted b v w h started has sees =
    let a = h.account in
    let looked = HasAccount-Keeps v started.looked a (Keeps-HasLoaded b v started.looked has.part started.loads) has in
    let asks = Adds-Announces b started.looked started.asked a h.own.slot (request_of h.own) looked started.announced in
    let asked = HasAccount-Adds b started.looked started.asked a a (request_of h.own ∷ []) asks looked in
    Adds-trans b started.looked started.asked w a (request_of h.own ∷ []) [] asks
    (Adds-LoadsOnly b started.asked w a started.rows started.words asked sees started.row_loads)
