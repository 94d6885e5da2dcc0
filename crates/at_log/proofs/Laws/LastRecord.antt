-- The last record of a process's log.
use Rattle.std.proofs.Common.{◌≡◌, ◌<◌, List, [], ◌∷◌, ◌++◌, length, sym, ap, subst, ◌∙◌, arith, length-append}
use Rattle.at_log.proofs.Prelude.{get_or-set_same, get_or_at, BookTerms, publications_of-append, publications_of-nil, publications_of-own, publication_at, count_of, no_publication, publications_of, Publication, no_part, own_part, Publishes, with_record, Knowledge, Part, IsLast}

-- what was published is the last of its process
pub IsLast-Publishes : (b : BookTerms) (v w : Knowledge) (x : Publication) → 0 < length v.parts → x.process ≡ v.first → Publishes b v w x → IsLast v w x
IsLast-Publishes b v w x part ours told =
    let first : v.first ≡ w.first = sym (ap (λ (t : Knowledge). t.first) told.same) in
    let own = ap own_part told.same ∙ get_or-set_same v.parts 0 (with_record b (own_part v) x) no_part part in
    let earlier : List Publication = publications_of v.first (v.seen ++ told.between) in
    let one : publications_of v.first (x ∷ []) ≡ x ∷ [] =
    subst (λ p. publications_of p (x ∷ []) ≡ x ∷ []) ours (publications_of-own x [] ∙ ap (λ ys. x ∷ ys) (publications_of-nil x.process)) in
    let split : publications_of v.first w.seen ≡ earlier ++ x ∷ [] =
    ap (publications_of v.first) told.seen ∙ (publications_of-append v.first (v.seen ++ told.between) (x ∷ []) ∙ ap (λ ys. earlier ++ ys) one) in
    let number : length earlier ≡ (own_part v).published = omega (arith, told.own, ap length split, length-append earlier (x ∷ [])) in
    record {
      published = ap (λ (q : Part). q.published) own;
      within = subst (λ p. (own_part v).published < count_of p w.seen) first (omega (arith, told.own));
      last = subst (λ p. publication_at (publications_of p w.seen) (own_part v).published ≡ x) first
          (ap (λ ys. publication_at ys (own_part v).published) split ∙ get_or_at earlier x [] no_publication (own_part v).published number);
    }
