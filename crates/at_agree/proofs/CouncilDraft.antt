-- The draft of a council's book has no fault.
use Rattle.std.proofs.Common.{◌≡◌, ℕ, ◌≤◌, zero, suc, None, List, [], ◌∷◌, ◌++◌, map, refl, arith, ap, ◌∙◌}
use Rattle.std.specs.Prelude.{Option}
use Rattle.at_agree.proofs.Prelude.{option_or, map-append, AccountTerms, BookTerms, accounts_fault, book_fault, book_of, book_without_accounts, limits_fault, owners_fault, terms_of, BookError, Draft, DraftAccount, IsSize, council_book}

-- the first fault of a draft, by the book that it spells
abbrev fault_of : BookTerms → Option BookError
fault_of b =
    option_or (limits_fault b.processes b.own_room b.request_room)
    (accounts_fault (book_without_accounts b.processes b.own_room b.request_room) b.accounts)

-- size by size
fault_of-council : (k : ℕ) → 2 ≤ k → k ≤ 8 → fault_of (council_book k) ≡ None
unfolding accounts_fault owners_fault
fault_of-council zero some few = absurd (omega arith)
fault_of-council (suc zero) some few = absurd (omega arith)
fault_of-council (suc (suc zero)) some few = refl
fault_of-council (suc (suc (suc zero))) some few = refl
fault_of-council (suc (suc (suc (suc zero)))) some few = refl
fault_of-council (suc (suc (suc (suc (suc zero))))) some few = refl
fault_of-council (suc (suc (suc (suc (suc (suc zero)))))) some few = refl
fault_of-council (suc (suc (suc (suc (suc (suc (suc zero))))))) some few = refl
fault_of-council (suc (suc (suc (suc (suc (suc (suc (suc zero)))))))) some few = refl
fault_of-council (suc (suc (suc (suc (suc (suc (suc (suc (suc k))))))))) some few = absurd (omega arith)

pub book_fault-council : (k : ℕ) (draft : Draft) → IsSize k → book_of draft ≡ council_book k → book_fault draft ≡ None
book_fault-council k draft size is = ap fault_of is ∙ fault_of-council k size.some size.few

-- one more account of a draft
pub drafted_more : (accounts more : List DraftAccount) (x : DraftAccount) (terms : List AccountTerms) (t : AccountTerms)
    → more ≡ accounts ++ x ∷ [] → map terms_of accounts ≡ terms → terms_of x ≡ t → map terms_of more ≡ terms ++ t ∷ []
drafted_more accounts more x terms t is drafted last =
    ap (map terms_of) is ∙ (map-append terms_of accounts (x ∷ []) ∙ (λ i. drafted i ++ last i ∷ []))
