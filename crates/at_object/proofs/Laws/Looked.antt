-- What loads of lengths leave of a pass.
use Rattle.std.proofs.Common.{◌≡◌, ℕ, ◌<◌, false, List, ◌∷◌, [], ◌++◌, length, sym, ap, subst, ◌∙◌, arith}
use Rattle.at_object.proofs.Prelude.{get_or-set_same, BookTerms, HasSlot, IsHistory, named, named-IsBetweenCalls, Told-IsPrefix, owns_of, asking_on, no_part, own_part, IsKept, Knowledge, Part, StandsBehind, AsksNothing, HasMoved, IsBetweenCalls-still, Told-call_still, owns_of-still, IsBetweenCalls, HasCounted, TotalSums, IsPlaced, is_at_own, is_at_round, Told, Receipt, IsPass, HasLoaded}
use Rattle.std.specs.Prelude.{slice_index}

-- the own part has other loads, and nothing else is other
pub own_part-HasLoaded : (b : BookTerms) (v w : Knowledge) → 0 < length v.parts → HasLoaded b v w
    → own_part w ≡ record (own_part v) { loads = (own_part w).loads }
own_part-HasLoaded b v w part told =
    ap own_part told.same ∙ get_or-set_same v.parts 0 (record (own_part v) { loads = (own_part w).loads }) no_part part

-- a pass's process asks for nothing where it has no slot, and is between calls
pub between-IsPass : (b : BookTerms) (v : Knowledge) (totals : TotalSums) (sent : ℕ) → v.book ≡ b → IsPass v totals sent → IsBetweenCalls b v
between-IsPass b v totals sent book pass = subst (λ t. IsBetweenCalls t v) book pass.between

module _ (b : BookTerms) (v w : Knowledge) (kept : IsKept v) (keeps : IsKept w) (book : v.book ≡ b) (same_book : w.book ≡ b)
    (loads : HasLoaded b v w) where
  part : 0 < length v.parts
  part = omega (arith, kept.one_part)

  own : own_part w ≡ record (own_part v) { loads = (own_part w).loads }
  own = own_part-HasLoaded b v w part loads

  pub AsksNothing-HasLoaded : AsksNothing v w
  AsksNothing-HasLoaded = record { same = λ a. ap (λ (q : Part). (asking_on q a).announced) own }

  pub asking-HasLoaded : (a : ℕ) → asking_on (own_part w) a ≡ asking_on (own_part v) a
  asking-HasLoaded a = ap (λ (q : Part). asking_on q a) own

  pub published-HasLoaded : (own_part w).published ≡ (own_part v).published
  published-HasLoaded = ap (λ (q : Part). q.published) own

  module _ (was now : TotalSums) (sent : ℕ) (pass : IsPass v was sent) where
    pub HasMoved-HasLoaded : HasMoved b v w
    HasMoved-HasLoaded = record {
      kept_before = kept;
      kept_after = keeps;
      book_before = book;
      book_after = same_book;
      process = ap (λ (t : Knowledge). t.first) loads.same;
      more = loads.more;
      free = ap (λ (q : Part). q.held) own ∙ pass.between.free;
    }

    between : IsBetweenCalls b v
    between = between-IsPass b v was sent book pass

    pub IsPass-HasLoaded : HasCounted now b w.seen → slice_index now.upto w.first ≡ (own_part w).published → IsPass w now sent
    IsPass-HasLoaded counted own_counted = record {
      between = subst (λ t. IsBetweenCalls t w) (sym same_book)
          (IsBetweenCalls-still b v w HasMoved-HasLoaded between AsksNothing-HasLoaded published-HasLoaded);
      counted = subst (λ t. HasCounted now t w.seen) (sym same_book) counted;
      own_counted = own_counted;
      sent_is = omega (
        arith,
        pass.sent_is,
        owns_of-still b v w HasMoved-HasLoaded between AsksNothing-HasLoaded published-HasLoaded,
        ap (λ p. owns_of p w.seen) HasMoved-HasLoaded.process,
      );
      unasked = λ a none. AsksNothing-HasLoaded.same a
          ∙ pass.unasked a (λ slot has. none slot (subst (λ p. HasSlot w.book p a slot) (sym HasMoved-HasLoaded.process)
          (subst (λ t. HasSlot t v.first a slot) (book ∙ sym same_book) has)));
    }

    pub owns_of-HasLoaded : owns_of v.first w.seen ≡ owns_of v.first v.seen
    owns_of-HasLoaded = owns_of-still b v w HasMoved-HasLoaded between AsksNothing-HasLoaded published-HasLoaded

    -- receipts that stood with it stand with it still
    pub Told-HasLoaded_still : (receipts : List Receipt) → Told v.book v.first v.seen receipts → Told w.book w.first w.seen receipts
    Told-HasLoaded_still receipts told =
        let after : IsBetweenCalls b w = IsBetweenCalls-still b v w HasMoved-HasLoaded between AsksNothing-HasLoaded published-HasLoaded in
        let still : (a slot : ℕ) → HasSlot b v.first a slot → named a slot w.seen ≡ named a slot v.seen = λ a slot has.
        omega (
          arith,
          named-IsBetweenCalls b v a slot kept book between has,
          named-IsBetweenCalls b w a slot keeps same_book after (subst (λ p. HasSlot b p a slot) (sym HasMoved-HasLoaded.process) has),
          ap length (AsksNothing-HasLoaded.same a),
        ) in
        subst (λ t. Told t w.first w.seen receipts) (sym same_book)
        (subst (λ p. Told b p w.seen receipts) (sym HasMoved-HasLoaded.process)
        (Told-IsPrefix b v.first v.seen w.seen receipts (subst (λ t. IsHistory t v.seen) book kept.history) loads.more owns_of-HasLoaded still
        (subst (λ t. Told t v.first v.seen receipts) book told)))

    -- one more receipt stands with it, which stands at a cut that begins with all that was seen
    pub Told-HasLoaded : (receipts : List Receipt) (r : Receipt) → Told v.book v.first v.seen receipts → IsPlaced b v.first w.seen receipts r
        → StandsBehind v.first v.seen w.seen r → is_at_own r.at ≡ false → is_at_round r.at ≡ false → Told w.book w.first w.seen (receipts ++ r ∷ [])
    Told-HasLoaded receipts r told placed behind no_own no_round =
        subst (λ t. Told t w.first w.seen (receipts ++ r ∷ [])) (sym same_book)
        (Told-call_still b v w HasMoved-HasLoaded between receipts r (subst (λ t. Told t v.first v.seen receipts) book told) placed behind
        AsksNothing-HasLoaded published-HasLoaded no_own no_round)
