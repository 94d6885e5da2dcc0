-- What callers know by the board's book, by the book that the seat knows.
use Rattle.std.proofs.Common.{◌≡◌, sym, subst}
use Rattle.at_board.proofs.Prelude.{BookTerms, Knowledge}

-- from the board's book and what callers see of the seat to the seat's own
pub to_seat : (P : BookTerms → Knowledge → Type 0) (b : BookTerms) (v u : Knowledge) → v.book ≡ b → u ≡ v → P b v → P u.book u
to_seat P b v u book mine has = subst (λ (t : Knowledge). P t.book t) (sym mine) (subst (λ t. P t v) (sym book) has)

-- and back
pub to_caller : (P : BookTerms → Knowledge → Type 0) (b : BookTerms) (v u : Knowledge) → v.book ≡ b → u ≡ v → P u.book u → P b v
to_caller P b v u book mine has = subst (λ t. P t v) book (subst (λ (t : Knowledge). P t.book t) mine has)
