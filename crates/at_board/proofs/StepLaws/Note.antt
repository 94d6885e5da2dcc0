-- Making a note keeps the rule.
use Rattle.std.proofs.Common.{◌≡◌, ℕ, ◌<◌, List, [], ◌∷◌, ◌++◌, length, refl, sym, subst, arith, inl, inr}
use Rattle.at_board.proofs.Prelude.{at_longer, at_snoc, set_again, Splits, BookTerms, IsBook, BoardState, Knows, IsSeat, Holds, Ruled, IsNote, noted, length_of, word_count, Knowledge}
use Rattle.at_board.proofs.WordLaws.Addresses.{index_of-below}

Knows-noted : (b : BookTerms) (words : List ℕ) (s : BoardState) (v : Knowledge) → Knows b words s v → Knows b words s (noted v)
Knows-noted b words s v knows = record {
  seen = knows.seen;
  requests = knows.requests;
  decisions = knows.decisions;
  parts = λ k within. absurd (omega arith);
}

-- knowledge with no part stands for no process
pub Holds-nothing : (v : Knowledge) (p : ℕ) → length v.parts ≡ 0 → Holds v p → ⊥
Holds-nothing v p none holds = omega (arith, holds.0, holds.1)

-- one more that knows, with no part
pub Ruled-more : (b : BookTerms) (words : List ℕ) (knowledge : List Knowledge) (w : Knowledge) (ruled : Ruled b words knowledge) → length w.parts ≡ 0
    → Knows b words ruled.state w → Ruled b words (knowledge ++ w ∷ [])
Ruled-more b words knowledge w ruled none knows = record {
  state = ruled.state;
  seat = ruled.seat;
  shown = ruled.shown;
  sound = ruled.sound;
  overtaking = ruled.overtaking;
  knows = λ j u there. elim (at_snoc knowledge w u j there) as (λ _. Knows b words ruled.state u) [
    | inl old ↦ ruled.knows j u old
    | inr new ↦ subst (Knows b words ruled.state) new knows
  ];
  seated = record {
    only = λ j p u there holds. elim (at_snoc knowledge w u j there) as (λ _. ruled.seat p ≡ j) [
      | inl old ↦ ruled.seated.only j p u old holds
      | inr new ↦ absurd (Holds-nothing w p none (subst (λ t. Holds t p) (sym new) holds))
    ];
    some_seat = λ p within.
        let before = ruled.seated.some_seat p within in
        (before.0, at_longer knowledge (w ∷ []) (ruled.seat p) before.0 before.1, before.2);
  };
}

module _ {S : Type 0} where
  -- a seat may be split into itself and a note
  pub notes : (key : BookTerms) (id : ℕ) (v : Knowledge) → Splits {S = S} (λ s. Ruled key s.words s.views) id v v (noted v)
  notes key id v s holds found =
      subst (λ t. Ruled key s.words (t ++ noted v ∷ [])) (sym (set_again s.views id v found))
      (Ruled-more key s.words s.views (noted v) holds refl (Knows-noted key s.words holds.state v (holds.knows id v found)))

-- a board has words
pub word_count-some : (b : BookTerms) → IsBook b → 0 < word_count b
word_count-some b book = omega (arith, index_of-below b (length_of 0) (omega (arith, book.begun.some_process)))

-- a seat's note
pub IsNote-noted : (v : Knowledge) (process published : ℕ) → IsSeat v process published → IsNote (noted v)
IsNote-noted v process published seat = record {
  no_part = refl;
  book = seat.book;
  history = seat.history;
  in_range = record { requests = seat.in_range.requests; decisions = seat.in_range.decisions };
}
