-- Loads of lengths: what they leave as it was, and one after another.
use Rattle.std.proofs.Common.{◌≡◌, ◌≢◌, ℕ, ◌+◌, ◌<◌, List, length, sym, ap, ◌∙◌, arith}
use Rattle.at_snapshot.proofs.Prelude.{get_or-set_other, get_or-set_same, length-set, set-set, BookTerms, IsPrefix-trans, Loads, Part, Knowledge, count_of, no_part, with_part, LoadsLength, with_load, loads_of, own_part, HasLoaded}

-- a part with other loads
abbrev pub with_loads : Part → List Loads → Part
with_loads q loads = record q { loads = loads }

pub own_part-HasLoaded : (b : BookTerms) (v w : Knowledge) → 0 < length v.parts → HasLoaded b v w → own_part w ≡ with_loads (own_part v) (own_part w).loads
own_part-HasLoaded b v w part told =
    ap own_part told.same ∙ get_or-set_same v.parts 0 (with_loads (own_part v) (own_part w).loads) no_part part

pub parts-HasLoaded : (b : BookTerms) (v w : Knowledge) → HasLoaded b v w → length w.parts ≡ length v.parts
parts-HasLoaded b v w told = ap (λ (t : Knowledge). length t.parts) told.same ∙ length-set v.parts 0 (with_loads (own_part v) (own_part w).loads)

pub published-HasLoaded : (b : BookTerms) (v w : Knowledge) → 0 < length v.parts → HasLoaded b v w → (own_part w).published ≡ (own_part v).published
published-HasLoaded b v w part told = ap (λ (q : Part). q.published) (own_part-HasLoaded b v w part told)

pub first-HasLoaded : (b : BookTerms) (v w : Knowledge) → HasLoaded b v w → w.first ≡ v.first
first-HasLoaded b v w told = ap (λ (t : Knowledge). t.first) told.same

-- the own part after a load of a length
pub own_part-LoadsLength : (b : BookTerms) (v w : Knowledge) (p n : ℕ) → 0 < length v.parts → LoadsLength b v w p n → own_part w ≡ with_load (own_part v) p n
own_part-LoadsLength b v w p n part told = ap own_part told.same ∙ get_or-set_same v.parts 0 (with_load (own_part v) p n) no_part part

pub HasLoaded-LoadsLength : (b : BookTerms) (v w : Knowledge) (p n : ℕ) → 0 < length v.parts → LoadsLength b v w p n → HasLoaded b v w
HasLoaded-LoadsLength b v w p n part told =
    let own = own_part-LoadsLength b v w p n part told in
    let loads = ap (λ (q : Part). q.loads) own in
    record {
      more = told.more;
      own = told.own;
      history = told.history;
      lengths = ap (λ (xs : List Loads). length xs) loads ∙ (length-set (own_part v).loads p _ ∙ told.lengths);
      same = told.same ∙ ap (λ (xs : List Loads). with_part (record v { seen = w.seen }) (with_loads (own_part v) xs)) (sym loads);
    }

pub HasLoaded-trans : (b : BookTerms) (v u w : Knowledge) → 0 < length v.parts → HasLoaded b v u → HasLoaded b u w → HasLoaded b v w
HasLoaded-trans b v u w part first second =
    let q : Part = with_loads (own_part v) (own_part u).loads in
    let own : own_part u ≡ q = own_part-HasLoaded b v u part first in
    let last : Part = with_loads (own_part v) (own_part w).loads in
    record {
      more = IsPrefix-trans v.seen u.seen w.seen first.more second.more;
      own = ap (λ k. count_of k w.seen) (sym (first-HasLoaded b v u first)) ∙ (second.own ∙ published-HasLoaded b v u part first);
      history = second.history;
      lengths = second.lengths;
      same = second.same
          ∙ (ap (λ (r : Part). with_part (record u { seen = w.seen }) (with_loads r (own_part w).loads)) own
          ∙ (ap (λ (t : Knowledge). with_part (record t { seen = w.seen }) last) first.same
          ∙ ap (λ (ps : List Part). record v { seen = w.seen; parts = ps }) (set-set v.parts 0 q last)));
    }

-- how often each length was loaded, and its last number, after a load
pub loads_of-same : (b : BookTerms) (v w : Knowledge) (p n : ℕ) → 0 < length v.parts → p < b.processes → LoadsLength b v w p n
    → loads_of (own_part w) p ≡ record { times = (loads_of (own_part v) p).times + 1; last = n }
loads_of-same b v w p n part within told =
    ap (λ q. loads_of q p) (own_part-LoadsLength b v w p n part told)
    ∙ get_or-set_same (own_part v).loads p _ _ (omega (arith, told.lengths, within))

pub loads_of-other : (b : BookTerms) (v w : Knowledge) (p n q : ℕ) → 0 < length v.parts → q ≢ p → LoadsLength b v w p n
    → loads_of (own_part w) q ≡ loads_of (own_part v) q
loads_of-other b v w p n q part apart told =
    ap (λ t. loads_of t q) (own_part-LoadsLength b v w p n part told)
    ∙ get_or-set_other (own_part v).loads p q _ _ apart
