-- Lines, one after another.
use Rattle.std.proofs.Common.{◌≡◌, ℕ, zero, suc, ◌+◌, List, [], ◌∷◌, ◌++◌, append_assoc, append-nil, refl, sym, ap, subst, cond, count_by, ◌∙◌, arith}
use Rattle.std.specs.Prelude.{slice_index_or}
use Rattle.at_tables.proofs.Prelude.{sum_by-cons, BookTerms, Call, Word, Words, line_text, lines_text, spaced, line_text-spaced, lines_text-append, count_first, has_kind, kind_of, is_agreed_kind, is_alone_kind, is_payment_kind, is_refused_kind, Kind}
use Rattle.at_tables.specs.declared.kind.Kind.TheVariants as kinds
use Rattle.at_tables.proofs.CountLaws.{count_first-more}

-- five lines
append-five : (out : List ℕ) (a b c d e : Words)
    → ((((out ++ line_text a) ++ line_text b) ++ line_text c) ++ line_text d) ++ line_text e ≡ out ++ lines_text (a ∷ b ∷ c ∷ d ∷ e ∷ [])
append-five out a b c d e = simp (append_assoc, append-nil)

-- five lines, each after the one before it
pub five_lines : (out one two three four five : List ℕ) (a b c d e : Words)
    → one ≡ out ++ line_text a → two ≡ one ++ line_text b → three ≡ two ++ line_text c → four ≡ three ++ line_text d → five ≡ four ++ line_text e
    → five ≡ out ++ lines_text (a ∷ b ∷ c ∷ d ∷ e ∷ [])
five_lines out one two three four five a b c d e first second third fourth fifth = rw (fifth, fourth, third, second, first) (append-five out a b c d e)

-- three parts of a text
pub three_parts : (one two three : List ℕ) (a b c : List Words) → one ≡ lines_text a → two ≡ one ++ lines_text b → three ≡ two ++ lines_text c → three ≡ lines_text (a ++ b ++ c)
three_parts one two three a b c first second third =
    third
    ∙ ap (λ (text : List ℕ). text ++ lines_text c) (second ∙ ap (λ (text : List ℕ). text ++ lines_text b) first ∙ sym (lines_text-append a b))
    ∙ sym (lines_text-append (a ++ b) c)

-- a line is the parts that are written of it, one after another
pub line_text-account : (out name uses count : Word) (owners : Words)
    → ((((out ++ name) ++ spaced (uses ∷ [])) ++ spaced (count ∷ [])) ++ spaced owners) ++ 10 ∷ [] ≡ out ++ line_text (name ∷ uses ∷ count ∷ owners)
line_text-account out name uses count owners = rw (line_text-spaced name (uses ∷ count ∷ owners)) (simp (append_assoc, append-nil))

-- a payment is of one of three kinds
one_kind : (k : Kind) → cond (is_payment_kind k) 1 0 ≡ cond (is_refused_kind k) 1 0 + cond (is_alone_kind k) 1 0 + cond (is_agreed_kind k) 1 0
one_kind kinds.Read = refl
one_kind kinds.Refused = refl
one_kind kinds.Alone = refl
one_kind kinds.Agreed = refl

payments_of : (b : BookTerms) (p : ℕ) (calls : List Call)
    → count_by (has_kind is_payment_kind b p) calls ≡ count_by (has_kind is_refused_kind b p) calls + count_by (has_kind is_alone_kind b p) calls + count_by (has_kind is_agreed_kind b p) calls
payments_of b p [] = refl
payments_of b p (call ∷ calls) =
    omega (
      arith,
      payments_of b p calls,
      one_kind (kind_of b p call),
      sum_by-cons (λ (x : Call). cond (has_kind is_payment_kind b p x) 1 0) call calls,
      sum_by-cons (λ (x : Call). cond (has_kind is_refused_kind b p x) 1 0) call calls,
      sum_by-cons (λ (x : Call). cond (has_kind is_alone_kind b p x) 1 0) call calls,
      sum_by-cons (λ (x : Call). cond (has_kind is_agreed_kind b p x) 1 0) call calls,
    )

-- the payments are the refused ones, those alone and those agreed on
pub payments_first : (b : BookTerms) (files : List (List Call)) (p : ℕ)
    → count_first (has_kind is_payment_kind b) files p ≡ count_first (has_kind is_refused_kind b) files p + count_first (has_kind is_alone_kind b) files p + count_first (has_kind is_agreed_kind b) files p
payments_first b files zero = refl
payments_first b files (suc p) =
    let Splits : ℕ → Type 0 = λ n.
    count_first (has_kind is_payment_kind b) files n ≡ count_first (has_kind is_refused_kind b) files n + count_first (has_kind is_alone_kind b) files n + count_first (has_kind is_agreed_kind b) files n in
    let next : p + 1 ≡ suc p = omega arith in
    let splits : Splits (p + 1) =
    omega (
      arith,
      payments_first b files p,
      payments_of b p (slice_index_or files p []),
      count_first-more (has_kind is_payment_kind b) files p,
      count_first-more (has_kind is_refused_kind b) files p,
      count_first-more (has_kind is_alone_kind b) files p,
      count_first-more (has_kind is_agreed_kind b) files p,
    ) in
    subst Splits next splits
