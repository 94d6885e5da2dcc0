-- The passes and receipts of a ledger of two processes.
use Rattle.std.proofs.Common.{◌≡◌, ◌<◌, List, [], ◌∷◌, ◌++◌, ap, get_or, length, subst, sym, ◌∙◌, arith, zero, suc}
use Rattle.at_example.proofs.Prelude.{get_or_append_left, get_or_at, length-append, BoardTerms, Receipt, AreAccountedFor, IsAccountedFor, AreNewPasses, IsNewPass, PassTerms}

pub are_accounted_for_two : (ledger : BoardTerms) (x y : PassTerms) (xs ys : List Receipt) → ledger.book.processes ≡ 2
    → IsAccountedFor ledger 0 x xs → IsAccountedFor ledger 1 y ys → AreAccountedFor ledger (x ∷ y ∷ []) (xs ∷ ys ∷ [])
are_accounted_for_two ledger x y xs ys two first second = record {
  passes_count = sym two;
  receipts_count = sym two;
  each = λ p d within. elim p as (λ k. k < ledger.book.processes → IsAccountedFor ledger k (get_or (x ∷ y ∷ []) k d) (get_or (xs ∷ ys ∷ []) k [])) [
    | zero ↦ λ below. first
    | suc j ↦ elim j as (λ k. suc k < ledger.book.processes → IsAccountedFor ledger (suc k) (get_or (y ∷ []) k d) (get_or (ys ∷ []) k [])) [
      | zero ↦ λ below. second
      | suc i ↦ λ below. absurd (omega (arith, below, two))
    ]
  ] within;
}

-- the two passes of a new ledger, taken from the end
pub IsNewPass-two : (ledger : BoardTerms) (all rest none : List PassTerms) (x y : PassTerms) → AreNewPasses ledger all → ledger.book.processes ≡ 2
    → all ≡ rest ++ y ∷ [] → rest ≡ none ++ x ∷ [] → IsNewPass ledger 0 x × IsNewPass ledger 1 y
IsNewPass-two ledger all rest none x y new two all_is rest_is =
    let rest_count : length rest ≡ 1 =
    omega (arith, new.count, two, ap (λ (ps : List PassTerms). length ps) all_is, length-append rest (y ∷ [])) in
    let none_count : length none ≡ 0 =
    omega (arith, rest_count, ap (λ (ps : List PassTerms). length ps) rest_is, length-append none (x ∷ [])) in
    let last : get_or all 1 y ≡ y = ap (λ (ps : List PassTerms). get_or ps 1 y) all_is ∙ get_or_at rest y [] y 1 rest_count in
    let first : get_or all 0 x ≡ x =
    ap (λ (ps : List PassTerms). get_or ps 0 x) all_is ∙ get_or_append_left rest (y ∷ []) x 0 (omega (arith, rest_count))
    ∙ ap (λ (ps : List PassTerms). get_or ps 0 x) rest_is ∙ get_or_at none x [] x 0 none_count in
    (subst (IsNewPass ledger 0) first (new.each 0 x (omega (arith, two))), subst (IsNewPass ledger 1) last (new.each 1 y (omega (arith, two))))
