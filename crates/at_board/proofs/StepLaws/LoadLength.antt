-- A load of a length keeps the rule.
use Rattle.std.proofs.Common.{◌≡◌, ◌≢◌, ℕ, ◌+◌, ◌<◌, zero, suc, List, length, get_or, set, refl, sym, ap, subst, ◌∙◌, arith}
use Rattle.at_board.proofs.Prelude.{get_elem?, some, get_or-set_other, get_or-set_same, length-set, BookTerms, IsBegun, IsPrefix-refl, IsHistory-Sound, BoardState, count_of, Publication, HasPart, Knows, with_part, no_part, own_part, part_at, Ruled, LoadsLength, with_load, length_of, word_at, Part, Knowledge}
use Rattle.at_board.proofs.KnowledgeLaws.Agreement.{AgreesWithSeen-Knows}
use Rattle.at_board.proofs.KnowledgeLaws.Asking.{HasPart-all}
use Rattle.at_board.proofs.KnowledgeLaws.Seats.{AreSeated-set, knows_after}

-- what is known after a load of a length, when these are all publications
abbrev pub loaded : Knowledge → List Publication → ℕ → ℕ → Knowledge
loaded v all p n = with_part (record v { seen = all }) (with_load (own_part v) p n)

HasPart-load : (b : BookTerms) (words : List ℕ) (s : BoardState) (u : Knowledge) (process : ℕ) (q : Part) (p n : ℕ)
    → HasPart b words s u process q → HasPart b words s u process (with_load q p n)
HasPart-load b words s u process q p n has = record {
  known = has.known;
  published = has.published;
  seen = has.seen;
  sized = has.sized;
  stored = has.stored;
  held = has.held;
  lengths = length-set q.loads p _ ∙ has.lengths;
  accounts = has.accounts;
  asking = has.asking;
}

-- the parts of a seat whose own part is changed
pub parts_after : (P : ℕ → Part → Type 0) (parts : List Part) (q : Part) → 0 < length parts → P 0 q
    → ((k : ℕ) → k ≢ 0 → k < length parts → P k (get_or parts k no_part))
    → (k : ℕ) → k < length (set parts 0 q) → P k (get_or (set parts 0 q) k no_part)
parts_after P parts q part own others zero within = subst (P zero) (sym (get_or-set_same parts 0 q no_part part)) own
parts_after P parts q part own others (suc k) within =
    let apart : suc k ≢ 0 = λ e. omega arith in
    subst (P (suc k)) (sym (get_or-set_other parts 0 (suc k) q no_part apart)) (others (suc k) apart (omega (arith, length-set parts 0 q)))

Knows-load : (b : BookTerms) (words : List ℕ) (s : BoardState) (v : Knowledge) (p n : ℕ) → 0 < length v.parts → Knows b words s v
    → Knows b words s (loaded v s.published p n)
Knows-load b words s v p n part knows =
    let u : Knowledge = loaded v s.published p n in
    let moved : (k : ℕ) → k < length v.parts → HasPart b words s u (v.first + k) (part_at v k) =
    λ k within. HasPart-all b words s v u (v.first + k) (part_at v k) knows.seen refl refl (knows.parts k within) in
    record {
      seen = IsPrefix-refl s.published;
      requests = knows.requests;
      decisions = knows.decisions;
      parts = parts_after (λ k q. HasPart b words s u (v.first + k) q) v.parts (with_load (own_part v) p n) part
          (HasPart-load b words s u (v.first + 0) (own_part v) p n (moved 0 part)) (λ k apart within. moved k within);
    }

pub LoadsLength-Ruled : (b : BookTerms) (words : List ℕ) (knowledge : List Knowledge) (id : ℕ) (v : Knowledge) (p : ℕ) → Ruled b words knowledge → IsBegun b
    → get_elem? knowledge id ≡ some v → 0 < length v.parts → p < b.processes
    → (w : Knowledge) × Ruled b words (set knowledge id w) × LoadsLength b v w p (word_at b words (length_of p))
LoadsLength-Ruled b words knowledge id v p ruled begun found part within =
    let s : BoardState = ruled.state in
    let n = word_at b words (length_of p) in
    let w : Knowledge = loaded v s.published p n in
    let knows = ruled.knows id v found in
    let own : HasPart b words s v (v.first + 0) (own_part v) = knows.parts 0 part in
    let mine = Knows-load b words s v p n part knows in
    let first : v.first + 0 ≡ v.first = omega arith in (
      w,
      record {
        state = s;
        seat = ruled.seat;
        shown = ruled.shown;
        sound = ruled.sound;
        overtaking = ruled.overtaking;
        knows = knows_after b words s knowledge id w mine (λ j u apart there. ruled.knows j u there);
        seated = AreSeated-set b ruled.seat knowledge id v w ruled.seated found refl (length-set v.parts 0 (with_load (own_part v) p n));
      },
      record {
        lengths = own.lengths;
        more = knows.seen;
        counted = sym (ruled.shown.records.lengths p within);
        own = ap (λ k. count_of k s.published) (sym first) ∙ sym own.published;
        history = IsHistory-Sound b s ruled.shown.records.room ruled.sound begun;
        agrees = AgreesWithSeen-Knows b words s w ruled.sound mine;
        same = refl;
      },
    )
