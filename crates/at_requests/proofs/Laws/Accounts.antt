-- What a seat has on an account after steps there.
use Rattle.std.proofs.Common.{◌≡◌, ℕ, ◌<◌, List, length, ap, ◌∙◌, arith}
use Rattle.at_requests.proofs.Prelude.{get_or-set_same, set-get_or, set-set, Publication, asking_on, no_asking, no_part, own_part, part_asking, with_asking, with_part, IsSeat, Asking, Knowledge, Part, SeenRequest}

-- the seat has a part, with something on this account
pub record HasAccount (v : Knowledge) (a : ℕ) : Type 0 where
  pub part : 0 < length v.parts
  pub inside : a < length (own_part v).asking

pub own_part-with_asking : (v : Knowledge) (a : ℕ) (w : Asking) → HasAccount v a → own_part (with_asking v a w) ≡ part_asking (own_part v) a w
own_part-with_asking v a w has = get_or-set_same v.parts 0 (part_asking (own_part v) a w) no_part has.part

pub asking_on-with_asking : (v : Knowledge) (a : ℕ) (w : Asking) → HasAccount v a → asking_on (own_part (with_asking v a w)) a ≡ w
asking_on-with_asking v a w has =
    ap (λ (q : Part). asking_on q a) (own_part-with_asking v a w has) ∙ get_or-set_same (own_part v).asking a w no_asking has.inside

-- what was there, set again
pub with_asking-self : (v : Knowledge) (a : ℕ) → with_asking v a (asking_on (own_part v) a) ≡ v
with_asking-self v a =
    let q : Part = own_part v in
    ap (λ (ws : List Asking). with_part v (record q { asking = ws })) (set-get_or q.asking a no_asking)
    ∙ ap (λ (ps : List Part). record v { parts = ps }) (set-get_or v.parts 0 no_part)

-- what was set last stays
pub with_asking-again : (v : Knowledge) (list : List Publication) (rs : List SeenRequest) (a : ℕ) (w u : Asking) → HasAccount v a
    → with_asking (record (with_asking v a w) { seen = list; requests = rs }) a u ≡ with_asking (record v { seen = list; requests = rs }) a u
with_asking-again v list rs a w u has =
    let q : Part = own_part v in
    let p : Part = part_asking q a w in
    let x : Knowledge = record (with_asking v a w) { seen = list; requests = rs } in
    let y : Knowledge = record v { seen = list; requests = rs } in
    ap (λ (t : Part). with_part x (part_asking t a u)) (own_part-with_asking v a w has)
    ∙ (ap (λ (ps : List Part). record y { parts = ps }) (set-set v.parts 0 p (part_asking p a u))
    ∙ ap (λ (ws : List Asking). with_part y (record q { asking = ws })) (set-set q.asking a w u))

-- a seat has something on each account of its book
pub HasAccount-IsSeat : (v : Knowledge) (process published a : ℕ) → IsSeat v process published → a < length v.book.accounts → HasAccount v a
HasAccount-IsSeat v process published a seat within = record { part = omega (arith, seat.one_part); inside = omega (arith, seat.accounts, within) }
