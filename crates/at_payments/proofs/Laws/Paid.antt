-- A payment that is published after a snapshot: where its record stands, and what stays of the snapshot.
use Rattle.std.proofs.Common.{◌≡◌, ℕ, ◌<◌, ◌≤◌, List, [], ◌∷◌, ◌++◌, length, get_or, map, sym, ap, subst, ◌∙◌, arith, inl, inr, append_assoc, length-set}
use Rattle.at_payments.proofs.Prelude.{get_or-set_same, get_or_append_left, BookTerms, TargetPair, IsCut-IsPrefix, place-IsCut-le, prefix_of-IsPrefix, ArePublishedBy-IsHistory, IsPrefix-length, IsPrefix-trans, publication_at, place, prefix_of, IsPrefix, count_of, no_publication, publications_of, Publication, IsBorrowed, no_part, own_part, Publishes, with_record, Knowledge, Loads, Part, IsLast, own_position, Own, cut_behind, own_record, HasLoaded, IsSnapshot}
use Rattle.at_payments.proofs.Laws.Looks.{first-HasLoaded, published-HasLoaded}
use Rattle.at_payments.proofs.Laws.OwnRecords.{own_position-IsPrefix}

-- after a snapshot, by loads of lengths alone, an own record with its cut as the view was published
pub record IsPaid (b : BookTerms) (v w x : Knowledge) (cut : List ℕ) (from : ℕ) (targets : List TargetPair) : Type 0 where
  pub one_part : length v.parts ≡ 1
  pub own : count_of v.first v.seen ≡ (own_part v).published
  pub loads : HasLoaded b v w
  pub snapshot : IsSnapshot b v w cut
  pub published : Publishes b w x (own_record w.first cut from targets)
  pub last : IsLast w x (own_record w.first cut from targets)

module _ (b : BookTerms) (v w x : Knowledge) (cut : List ℕ) (from : ℕ) (targets : List TargetPair) (paid : IsPaid b v w x cut from targets) where
  pub first-IsPaid : x.first ≡ v.first
  first-IsPaid = ap (λ (t : Knowledge). t.first) paid.published.same ∙ first-HasLoaded b v w paid.loads

  -- the number of the record
  pub number-IsPaid : (own_part w).published ≡ (own_part v).published
  number-IsPaid = published-HasLoaded b v w (omega (arith, paid.one_part)) paid.loads

  pub more-IsPaid : IsPrefix w.seen x.seen
  more-IsPaid =
      let y = own_record w.first cut from targets in
      (paid.published.between ++ y ∷ [], paid.published.seen ∙ append_assoc w.seen paid.published.between (y ∷ []))

  loads-IsPaid : (own_part x).loads ≡ (own_part w).loads
  loads-IsPaid =
      let parts : length w.parts ≡ length v.parts =
      ap (λ (t : Knowledge). length t.parts) paid.loads.same ∙ length-set v.parts 0 (record (own_part v) { loads = (own_part w).loads }) in
      let y = own_record w.first cut from targets in
      ap (λ (t : Knowledge). (own_part t).loads) paid.published.same
      ∙ ap (λ (q : Part). q.loads) (get_or-set_same w.parts 0 (with_record b (own_part w) y) no_part (omega (arith, parts, paid.one_part)))

  -- what was seen before the record stands where it stood
  kept : (m : ℕ) → m < length w.seen → publication_at x.seen m ≡ publication_at w.seen m
  kept m within =
      ap (λ xs. publication_at xs m) more-IsPaid.1 ∙ get_or_append_left w.seen more-IsPaid.0 no_publication m within

  IsBorrowed-IsPaid : (m : ℕ) → IsBorrowed v w cut m → IsBorrowed v x cut m
  IsBorrowed-IsPaid m lent =
      let same = kept m lent.seen in
      let first : w.first ≡ x.first = first-HasLoaded b v w paid.loads ∙ sym first-IsPaid in
      record {
        later = lent.later;
        seen = omega (arith, lent.seen, IsPrefix-length w.seen x.seen more-IsPaid);
        other = λ e. lent.other (sym (ap (λ (y : Publication). y.process) same) ∙ (e ∙ sym first));
        same = ap (λ (y : Publication). y.view) same ∙ lent.same;
      }

  pub prefix_of-IsPaid : prefix_of cut x.seen ≡ prefix_of cut w.seen
  prefix_of-IsPaid =
      prefix_of-IsPrefix b.processes cut w.seen x.seen paid.snapshot.cut (ArePublishedBy-IsHistory b w.seen paid.loads.history) more-IsPaid

  -- the snapshot is one of what the seat has seen then
  pub IsSnapshot-IsPaid : IsSnapshot b v x cut
  IsSnapshot-IsPaid = record {
    cut = IsCut-IsPrefix b.processes cut w.seen x.seen paid.snapshot.cut (ArePublishedBy-IsHistory b w.seen paid.loads.history) more-IsPaid;
    begins = subst (IsPrefix v.seen) (sym prefix_of-IsPaid) paid.snapshot.begins;
    fresh = record {
      loaded = λ p within. omega (arith, paid.snapshot.fresh.loaded p within, ap (λ (ls : List Loads). (get_or ls p (record { times = 0; last = 0 })).times) loads-IsPaid);
      taken = elim paid.snapshot.fresh.taken [
        | inl last ↦ inl (last ∙ ap (λ (ls : List Loads). map (λ (l : Loads). l.last) ls) (sym loads-IsPaid))
        | inr lent ↦ inr (lent.0, IsBorrowed-IsPaid lent.0 lent.1)
      ];
    };
    own = paid.snapshot.own;
  }

  -- the record by its number
  pub record-IsPaid : publication_at (publications_of v.first x.seen) (own_part v).published ≡ own_record v.first cut from targets
  record-IsPaid =
      subst (λ p. publication_at (publications_of p x.seen) (own_part v).published ≡ own_record v.first cut from targets) first-IsPaid
      (ap (publication_at (publications_of x.first x.seen)) (sym number-IsPaid)
      ∙ (paid.last.last ∙ ap (λ p. own_record p cut from targets) (first-HasLoaded b v w paid.loads)))

  pub cut_behind-IsPaid : cut_behind x (Own (own_part v).published) ≡ cut
  cut_behind-IsPaid =
      ap (λ (y : Publication). y.view) (ap (λ p. publication_at (publications_of p x.seen) (own_part v).published) first-IsPaid ∙ record-IsPaid)

  pub within-IsPaid : (own_part v).published < count_of v.first x.seen
  within-IsPaid = omega (arith, paid.last.within, number-IsPaid, ap (λ p. count_of p x.seen) first-IsPaid)

  pub begins-IsPaid : IsPrefix v.seen x.seen
  begins-IsPaid = IsPrefix-trans v.seen w.seen x.seen paid.loads.more more-IsPaid

  -- it stands after the prefix of its cut
  pub place-IsPaid : place cut ≤ own_position x.first (own_part v).published x.seen
  place-IsPaid =
      omega (
        arith,
        place-IsCut-le b.processes cut w.seen paid.snapshot.cut (ArePublishedBy-IsHistory b w.seen paid.loads.history),
        ap (λ p. own_position p (own_part v).published x.seen) first-IsPaid,
        own_position-IsPrefix v.first (own_part v).published w.seen x.seen more-IsPaid paid.loads.own within-IsPaid,
      )
