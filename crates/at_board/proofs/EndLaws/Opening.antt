-- The rule holds of a new board.
use Rattle.std.proofs.Common.{◌≡◌, ℕ, ◌+◌, ◌<◌, zero, suc, cond, List, [], ◌∷◌, length, replicate, refl, sym, ap, subst, ◌∙◌, arith}
use Rattle.at_board.proofs.Prelude.{get_elem?, some, some-injective, some-ne-none, le-ltb, get_or-replicate, length-replicate, All-nil, word_of, BookTerms, count_of-nil, IsPrefix-refl, get_or-zeros, Overtaking-starting, starting_state, Sound-starting, decision_at, HasAsking, HasPart, IsAnnounced, IsDecided, Knows, no_asking, no_part, starting_asking, starting_part, starting_knowledge, Ruled, Address, announced_of, cell_of, length_of, index_of, record_width, record_word, request_word, word_at, word_count, Shown, LoadedWord, Knowledge}

-- all words are 0
abbrev pub starting_words : BookTerms → List ℕ
starting_words b = replicate (word_count b) 0

word_at-starting : (b : BookTerms) (x : Address) → word_at b (starting_words b) x ≡ 0
word_at-starting b x = get_or-zeros (word_count b) (index_of b x)

Shown-starting : (b : BookTerms) → Shown b (starting_words b) starting_state
Shown-starting b = record {
  sized = length-replicate (word_count b) zero;
  records = record {
    lengths = λ p within. word_at-starting b (length_of p) ∙ sym (count_of-nil p);
    room = λ p within. omega (arith, count_of-nil p);
    records = λ p i j is below. absurd (omega (arith, count_of-nil p));
    blank = λ p i j is above. word_at-starting b (record_word p i j);
  };
  requests = record {
    lengths = λ a slot is. word_at-starting b (announced_of a slot);
    requests = λ a slot i j is below. absurd (omega arith);
    blank = λ a slot i j is above. word_at-starting b (request_word a slot i j);
  };
  cells = λ a r is. word_at-starting b (cell_of a r) ∙ sym (ap (λ t. cond t (word_of (decision_at [] r)) zero) (le-ltb r zero (omega arith)));
}

HasAsking-starting : (b : BookTerms) (a slot : ℕ) → HasAsking b (starting_words b) starting_state (starting_knowledge b) a slot starting_asking
HasAsking-starting b a slot = record {
  announced = refl;
  seen = λ i within. absurd (omega arith);
  sized = length-replicate 6 zero;
  stored = λ j is. word_at-starting b (request_word a slot 0 j) ∙ sym (get_or-zeros 6 j);
  heard = refl;
  rows = refl;
  loaded = All-nil (λ (l : LoadedWord). IsAnnounced starting_state l.request);
}

HasPart-starting : (b : BookTerms) (p : ℕ) → p < b.processes
    → HasPart b (starting_words b) starting_state (starting_knowledge b) p (starting_part b)
HasPart-starting b p within = record {
  known = within;
  published = sym (count_of-nil p);
  seen = count_of-nil p;
  sized = length-replicate (record_width b) zero;
  stored = λ j is. word_at-starting b (record_word p 0 j) ∙ sym (get_or-zeros (record_width b) j);
  held = refl;
  lengths = length-replicate b.processes (record { times = 0; last = 0 });
  accounts = length-replicate (length b.accounts) starting_asking;
  asking = λ a slot has. subst (HasAsking b (starting_words b) starting_state (starting_knowledge b) a slot)
      (sym (get_or-replicate (length b.accounts) a starting_asking no_asking has.account_in)) (HasAsking-starting b a slot);
}

Knows-starting : (b : BookTerms) → Knows b (starting_words b) starting_state (starting_knowledge b)
Knows-starting b = record {
  seen = IsPrefix-refl [];
  requests = All-nil (IsAnnounced starting_state);
  decisions = All-nil (IsDecided starting_state);
  parts = λ k within.
      let inside : k < b.processes = omega (arith, length-replicate b.processes (starting_part b)) in
      let e : k ≡ 0 + k = omega arith in
      subst (HasPart b (starting_words b) starting_state (starting_knowledge b) (0 + k))
      (sym (get_or-replicate b.processes k (starting_part b) no_part inside))
      (subst (λ t. HasPart b (starting_words b) starting_state (starting_knowledge b) t (starting_part b)) e (HasPart-starting b k inside));
}

-- the only one of a list of one
only_view : (v w : Knowledge) (id : ℕ) → get_elem? (v ∷ []) id ≡ some w → (id ≡ 0) × (v ≡ w)
only_view v w zero found = (refl, some-injective v w found)
only_view v w (suc id) found = absurd (some-ne-none w (sym found))

pub Ruled-starting : (b : BookTerms) → Ruled b (starting_words b) (starting_knowledge b ∷ [])
Ruled-starting b = record {
  state = starting_state;
  seat = λ p. 0;
  shown = Shown-starting b;
  sound = Sound-starting b;
  overtaking = Overtaking-starting;
  knows = λ id v found. subst (Knows b (starting_words b) starting_state) (only_view (starting_knowledge b) v id found).1 (Knows-starting b);
  seated = record {
    only = λ id p v found holds. sym (only_view (starting_knowledge b) v id found).0;
    some_seat = λ p within. (starting_knowledge b, refl, (omega arith, omega (arith, length-replicate b.processes (starting_part b))));
  };
}

-- the same of a key that is the book and of words that are all 0
pub Ruled-new : (key b : BookTerms) (words : List ℕ) (n : ℕ) → key ≡ b → n ≡ word_count b → words ≡ replicate n 0
    → Ruled key words (starting_knowledge key ∷ [])
Ruled-new key b words n is count zeros =
    subst (λ (k : BookTerms). Ruled k words (starting_knowledge k ∷ [])) (sym is)
    (subst (λ (ws : List ℕ). Ruled b ws (starting_knowledge b ∷ [])) (sym (zeros ∙ ap (λ k. replicate k 0) count)) (Ruled-starting b))
