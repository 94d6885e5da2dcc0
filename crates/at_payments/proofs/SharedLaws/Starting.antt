-- What asking and collecting leave of what a seat knows.
use Rattle.std.proofs.Common.{◌≡◌, ℕ, ◌<◌, List, length, Option, Some, None, refl, sym, ap, subst, ◌∙◌, arith, inl, inr}
use Rattle.at_payments.proofs.Prelude.{cases_eq, get_or-set_other, get_or-set_same, length-set, BookTerms, IsPrefix-trans, IsPrefix, rounds, Request, SeenRow, asking_on, no_asking, no_part, own_part, part_asking, with_asking, Announces, with_request, Asking, Knowledge, LoadedWord, Part, HasAccount, LoadsOnly, with_loads, decides_on, HasLoaded}
use Rattle.at_payments.proofs.SharedLaws.After.{IsAfter-HasLoaded, own_part-HasLoaded}

-- nothing was published, held or decided
pub record Keeps (v w : Knowledge) : Type 0 where
  pub first : w.first ≡ v.first
  pub more : IsPrefix v.seen w.seen
  pub parts : length w.parts ≡ length v.parts
  pub accounts : length (own_part w).asking ≡ length (own_part v).asking
  pub held : (own_part w).held ≡ (own_part v).held
  pub published : (own_part w).published ≡ (own_part v).published
  pub decides : (c : ℕ) → decides_on w c ≡ decides_on v c

pub Keeps-trans : (v u w : Knowledge) → Keeps v u → Keeps u w → Keeps v w
Keeps-trans v u w one two = record {
  first = two.first ∙ one.first;
  more = IsPrefix-trans v.seen u.seen w.seen one.more two.more;
  parts = two.parts ∙ one.parts;
  accounts = two.accounts ∙ one.accounts;
  held = two.held ∙ one.held;
  published = two.published ∙ one.published;
  decides = λ c. two.decides c ∙ one.decides c;
}

pub Keeps-HasLoaded : (b : BookTerms) (v w : Knowledge) → 0 < length v.parts → HasLoaded b v w → Keeps v w
Keeps-HasLoaded b v w part told =
    let own = own_part-HasLoaded b v w part told in
    let after = IsAfter-HasLoaded b v w 0 part told in
    record {
      first = after.first;
      more = told.more;
      parts = after.parts;
      accounts = after.accounts;
      held = ap (λ (q : Part). q.held) own;
      published = ap (λ (q : Part). q.published) own;
      decides = λ c. ap (λ (q : Part). (asking_on q c).decides) own;
    }

-- where only what the part has on one account is changed
Keeps-asking : (v w base : Knowledge) (a : ℕ) (t : Asking) → HasAccount v a → base.first ≡ v.first → base.parts ≡ v.parts → IsPrefix v.seen w.seen
    → w ≡ with_asking base a t → t.decides ≡ (asking_on (own_part v) a).decides → Keeps v w
Keeps-asking v w base a t has first parts more same count =
    let q : Part = own_part base in
    let old : q ≡ own_part v = ap (λ ps. own_part (record base { parts = ps })) parts in
    let own : own_part w ≡ part_asking q a t =
    ap own_part same ∙ get_or-set_same base.parts 0 (part_asking q a t) no_part (omega (arith, has.part, ap (λ (ps : List Part). length ps) parts)) in
    let inside : a < length q.asking = omega (arith, has.inside, ap (λ (p : Part). length p.asking) old) in
    record {
      first = ap (λ (k : Knowledge). k.first) same ∙ first;
      more = more;
      parts = ap (λ (k : Knowledge). length k.parts) same ∙ (length-set base.parts 0 (part_asking q a t) ∙ ap (λ (ps : List Part). length ps) parts);
      accounts = ap (λ (p : Part). length p.asking) own ∙ (length-set q.asking a t ∙ ap (λ (p : Part). length p.asking) old);
      held = ap (λ (p : Part). p.held) own ∙ ap (λ (p : Part). p.held) old;
      published = ap (λ (p : Part). p.published) own ∙ ap (λ (p : Part). p.published) old;
      decides = λ c. elim (cases_eq c a) as (λ _. decides_on w c ≡ decides_on v c) [
        | inl here ↦
            subst (λ k. decides_on w k ≡ decides_on v k) (sym here)
            (ap (λ (p : Part). (asking_on p a).decides) own ∙ (ap (λ (u : Asking). u.decides) (get_or-set_same q.asking a t no_asking inside) ∙ count))
        | inr other ↦
            ap (λ (p : Part). (asking_on p c).decides) own
            ∙ (ap (λ (u : Asking). u.decides) (get_or-set_other q.asking a c t no_asking other) ∙ ap (λ (p : Part). (asking_on p c).decides) old)
      ];
    }

pub Keeps-Announces : (b : BookTerms) (v w : Knowledge) (a slot : ℕ) (r : Request) → HasAccount v a → Announces b v w a slot r → Keeps v w
Keeps-Announces b v w a slot r has told =
    let old : Asking = asking_on (own_part v) a in
    Keeps-asking v w (record v { seen = w.seen; requests = w.requests }) a (with_request old r (rounds a w.seen) (own_part v).loads) has refl refl told.more
    (told.same ∙ ap (λ rs. with_asking (record v { seen = w.seen; requests = rs }) a (with_request old r (rounds a w.seen) (own_part v).loads)) (sym (ap (λ (t : Knowledge). t.requests) told.same)))
    refl

pub Keeps-LoadsOnly : (v w : Knowledge) (a : ℕ) (rows : List SeenRow) (words : List LoadedWord) → HasAccount v a → LoadsOnly v w a rows words → Keeps v w
Keeps-LoadsOnly v w a rows words has told =
    Keeps-asking v w (record v { seen = w.seen; requests = w.requests }) a (with_loads (asking_on (own_part v) a) rows words) has refl refl told.more
    told.same refl

-- as many rounds were heard as were seen when the request was announced
pub heard-Announces : (b : BookTerms) (v w : Knowledge) (a slot : ℕ) (r : Request) → HasAccount v a → Announces b v w a slot r
    → (asking_on (own_part w) a).heard ≡ rounds a w.seen
heard-Announces b v w a slot r has told =
    let old : Asking = asking_on (own_part v) a in
    let t : Asking = with_request old r (rounds a w.seen) (own_part v).loads in
    ap (λ (k : Knowledge). (asking_on (own_part k) a).heard) told.same
    ∙ (ap (λ (p : Part). (asking_on p a).heard) (get_or-set_same v.parts 0 (part_asking (own_part v) a t) no_part has.part)
    ∙ ap (λ (u : Asking). u.heard) (get_or-set_same (own_part v).asking a t no_asking has.inside))

pub heard-LoadsOnly : (v w : Knowledge) (a : ℕ) (rows : List SeenRow) (words : List LoadedWord) → HasAccount v a → LoadsOnly v w a rows words
    → (asking_on (own_part w) a).heard ≡ (asking_on (own_part v) a).heard
heard-LoadsOnly v w a rows words has told =
    let t : Asking = with_loads (asking_on (own_part v) a) rows words in
    ap (λ (k : Knowledge). (asking_on (own_part k) a).heard) told.same
    ∙ (ap (λ (p : Part). (asking_on p a).heard) (get_or-set_same v.parts 0 (part_asking (own_part v) a t) no_part has.part)
    ∙ ap (λ (u : Asking). u.heard) (get_or-set_same (own_part v).asking a t no_asking has.inside))

pub HasAccount-Keeps : (v w : Knowledge) (a : ℕ) → Keeps v w → HasAccount v a → HasAccount w a
HasAccount-Keeps v w a kept has = record { part = omega (arith, kept.parts, has.part); inside = omega (arith, kept.accounts, has.inside) }

-- what an option has
from_some : Option ℕ → ℕ
from_some (Some n) = n
from_some None = 0

pub same_some : (m n : ℕ) → Some m ≡ Some n → m ≡ n
unfolding from_some
same_some m n same = ap from_some same
