-- The counts of requests that a seat keeps, over each kind of step.
use Rattle.std.proofs.Common.{◌≡◌, ℕ, ◌<◌, List, length, get_or, replicate, set, refl, sym, ap, subst, ◌∙◌, arith, inl, inr}
use Rattle.at_board.proofs.Prelude.{cases_eq, get_or-replicate, get_or-set_other, get_or-set_same, length-replicate, length-set, BookTerms, get_or-zeros, Publication, starting_seat, part_asking, with_asking, with_part, asking_on, no_asking, own_part, starting_asking, HasCounts, LoadsLength, with_load, Publishes, with_record, StoresWord, with_word, Asking, Part, SeenRequest, Knowledge}
use Rattle.at_board.proofs.KnowledgeLaws.Asking.{own_part-with_part}

-- a seat with another part, in which as many requests are announced
pub HasCounts-with_part : (v : Knowledge) (q : Part) (counts : List ℕ) → 0 < length v.parts
    → ((a : ℕ) → a < length v.book.accounts → length (asking_on q a).announced ≡ length (asking_on (own_part v) a).announced)
    → HasCounts v counts → HasCounts (with_part v q) counts
HasCounts-with_part v q counts part same has =
    let own = own_part-with_part v q part in
    record {
      sized = has.sized;
      counted = λ a within. has.counted a within ∙ (sym (same a within) ∙ sym (ap (λ (t : Part). length (asking_on t a).announced) own));
    }

-- the counts of a seat read its book and its parts alone
HasCounts-seen : (v : Knowledge) (list : List Publication) (counts : List ℕ) → HasCounts v counts → HasCounts (record v { seen = list }) counts
HasCounts-seen v list counts has = record { sized = has.sized; counted = has.counted }

pub HasCounts-load : (b : BookTerms) (v w : Knowledge) (p n : ℕ) (counts : List ℕ) → 0 < length v.parts → LoadsLength b v w p n
    → HasCounts v counts → HasCounts w counts
HasCounts-load b v w p n counts part told has =
    subst (λ t. HasCounts t counts) (sym told.same)
    (HasCounts-with_part (record v { seen = w.seen }) (with_load (own_part v) p n) counts part (λ a within. refl) (HasCounts-seen v w.seen counts has))

pub HasCounts-store : (v w : Knowledge) (j n : ℕ) (counts : List ℕ) → 0 < length v.parts → StoresWord v w j n → HasCounts v counts → HasCounts w counts
HasCounts-store v w j n counts part told has =
    subst (λ t. HasCounts t counts) (sym told) (HasCounts-with_part v (with_word (own_part v) j n) counts part (λ a within. refl) has)

pub HasCounts-publish : (b : BookTerms) (v w : Knowledge) (x : Publication) (counts : List ℕ) → 0 < length v.parts → Publishes b v w x
    → HasCounts v counts → HasCounts w counts
HasCounts-publish b v w x counts part told has =
    subst (λ t. HasCounts t counts) (sym told.same)
    (HasCounts-with_part (record v { seen = w.seen }) (with_record b (own_part v) x) counts part (λ a within. refl) (HasCounts-seen v w.seen counts has))

-- a new seat has announced nothing
pub HasCounts-starting : (b : BookTerms) (p : ℕ) (counts : List ℕ) → counts ≡ replicate (length b.accounts) 0 → HasCounts (starting_seat b p) counts
HasCounts-starting b p counts zeros = record {
  sized = ap length zeros ∙ length-replicate (length b.accounts) 0;
  counted = λ a within. ap (λ l. get_or l a 0) zeros ∙ (get_or-zeros (length b.accounts) a
      ∙ sym (ap (λ (w : Asking). length w.announced) (get_or-replicate (length b.accounts) a starting_asking no_asking within)));
}

pub HasCounts-asking : (v : Knowledge) (list : List Publication) (requests : List SeenRequest) (a : ℕ) (w : Asking) (counts : List ℕ) → 0 < length v.parts
    → length (own_part v).asking ≡ length v.book.accounts → length w.announced ≡ length (asking_on (own_part v) a).announced → HasCounts v counts
    → HasCounts (with_asking (record v { seen = list; requests = requests }) a w) counts
HasCounts-asking v list requests a w counts part sized same has =
    let q : Part = own_part v in
    let before : HasCounts (record v { seen = list; requests = requests }) counts = record { sized = has.sized; counted = has.counted } in
    HasCounts-with_part (record v { seen = list; requests = requests }) (part_asking q a w) counts part
    (λ c within. elim (cases_eq c a) as (λ _. length (get_or (set q.asking a w) c no_asking).announced ≡ length (asking_on q c).announced) [
      | inl here ↦
          let inside : a < length q.asking = omega (arith, within, sized, here) in
          ap (λ k. length (get_or (set q.asking a w) k no_asking).announced) here
          ∙ (ap (λ (t : Asking). length t.announced) (get_or-set_same q.asking a w no_asking inside) ∙ (same ∙ ap (λ k. length (asking_on q k).announced) (sym here)))
      | inr apart ↦ ap (λ (t : Asking). length t.announced) (get_or-set_other q.asking a c w no_asking apart)
    ]) before

-- one count is that of what is new on an account
pub HasCounts-counted : (v : Knowledge) (list : List Publication) (requests : List SeenRequest) (a n : ℕ) (w : Asking) (counts : List ℕ) → 0 < length v.parts
    → length (own_part v).asking ≡ length v.book.accounts → n ≡ length w.announced → HasCounts v counts → HasCounts (with_asking (record v { seen = list; requests = requests }) a w) (set counts a n)
HasCounts-counted v list requests a n w counts part sized counted has =
    let q : Part = own_part v in
    let u : Knowledge = record v { seen = list; requests = requests } in
    let own = own_part-with_part u (part_asking q a w) part in
    record {
      sized = length-set counts a n ∙ has.sized;
      counted = λ c within. elim (cases_eq c a) as (λ _. get_or (set counts a n) c 0 ≡ length (asking_on (own_part (with_asking u a w)) c).announced) [
        | inl here ↦
            let inside : (a < length counts) × (a < length q.asking) = (omega (arith, within, has.sized, here), omega (arith, within, sized, here)) in
            let left : get_or (set counts a n) c 0 ≡ n = ap (λ k. get_or (set counts a n) k 0) here ∙ get_or-set_same counts a n 0 inside.0 in
            let right : asking_on (own_part (with_asking u a w)) c ≡ w =
            ap (λ (t : Part). asking_on t c) own ∙ (ap (λ k. get_or (set q.asking a w) k no_asking) here ∙ get_or-set_same q.asking a w no_asking inside.1) in
            left ∙ (counted ∙ sym (ap (λ (t : Asking). length t.announced) right))
        | inr apart ↦
            let right : asking_on (own_part (with_asking u a w)) c ≡ asking_on q c =
            ap (λ (t : Part). asking_on t c) own ∙ get_or-set_other q.asking a c w no_asking apart in
            get_or-set_other counts a c n 0 apart ∙ (has.counted c within ∙ sym (ap (λ (t : Asking). length t.announced) right))
      ];
    }
