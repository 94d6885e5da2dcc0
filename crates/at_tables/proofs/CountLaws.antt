-- Counts, call by call and file by file.
use Rattle.std.proofs.Common.{◌≡◌, ℕ, ◌+◌, ◌<◌, ◌≤◌, Bool, List, [], ◌∷◌, ◌++◌, length, take, get_or, count_by, refl, sym, ap, ◌∙◌, subst, arith}
use Rattle.at_tables.proofs.Prelude.{take_more, sum_by-append, count_by-le-length, sum_by-map-range_with_len_more, BookTerms, Call, count_first, count_in_file, has_kind, is_agreed_kind, is_alone_kind, is_by_owner_of, is_refused_kind, AreCounted, AreCounts, HasRoomToCount, Counts}

abbrev Test : Type 0
Test = Call → Bool

count_by-append : (test : Test) (calls more : List Call) → count_by test (calls ++ more) ≡ count_by test calls + count_by test more
count_by-append test calls more = sum_by-append _ calls more

-- no call
pub counted-none : (b : BookTerms) (p : ℕ) (c : Counts) → AreCounted b p [] c c
counted-none b p c = record { refused = omega arith; alone = omega arith; agreed = omega arith; accounts = refl; by_owners = λ a. omega arith }

-- some calls, and then more
pub counted-append : (b : BookTerms) (p : ℕ) (calls more : List Call) (old mid new : Counts) → AreCounted b p calls old mid → AreCounted b p more mid new → AreCounted b p (calls ++ more) old new
counted-append b p calls more old mid new first next = record {
  refused = omega (arith, first.refused, next.refused, count_by-append (has_kind is_refused_kind b p) calls more);
  alone = omega (arith, first.alone, next.alone, count_by-append (has_kind is_alone_kind b p) calls more);
  agreed = omega (arith, first.agreed, next.agreed, count_by-append (has_kind is_agreed_kind b p) calls more);
  accounts = next.accounts ∙ first.accounts;
  by_owners = λ a. omega (arith, first.by_owners a, next.by_owners a, count_by-append (is_by_owner_of a b p) calls more);
}

-- one more call of a file
pub counted-take_more : (b : BookTerms) (p : ℕ) (file : List Call) (i : ℕ) (call : Call) (old mid new : Counts) → i < length file → call ≡ get_or file i call
    → AreCounted b p (take i file) old mid → AreCounted b p (call ∷ []) mid new → AreCounted b p (take (i + 1) file) old new
counted-take_more b p file i call old mid new within is first next =
    let more : take (i + 1) file ≡ take i file ++ call ∷ [] = take_more file i call within ∙ ap (λ (x : Call). take i file ++ x ∷ []) (sym is) in
    subst (λ (calls : List Call). AreCounted b p calls old new) (sym more) (counted-append b p (take i file) (call ∷ []) old mid new first next)

-- what is left of the room after these calls
pub room_after : (b : BookTerms) (p : ℕ) (calls : List Call) (old new : Counts) (room left : ℕ) → length calls + left ≤ room → HasRoomToCount old room → AreCounted b p calls old new → HasRoomToCount new left
room_after b p calls old new room left fits has counted = record {
  refused = omega (arith, fits, has.refused, counted.refused, count_by-le-length (has_kind is_refused_kind b p) calls);
  alone = omega (arith, fits, has.alone, counted.alone, count_by-le-length (has_kind is_alone_kind b p) calls);
  agreed = omega (arith, fits, has.agreed, counted.agreed, count_by-le-length (has_kind is_agreed_kind b p) calls);
  by_owners = λ a. omega (arith, fits, has.by_owners a, counted.by_owners a, count_by-le-length (is_by_owner_of a b p) calls);
}

pub count_first-more : (test : ℕ → Call → Bool) (files : List (List Call)) (p : ℕ) → count_first test files (p + 1) ≡ count_first test files p + count_in_file test files p
count_first-more test files p = sum_by-map-range_with_len_more (λ (n : ℕ). n) (count_in_file test files) 0 p p (omega arith)

-- the file of one more process
pub counts-more : (b : BookTerms) (files : List (List Call)) (p : ℕ) (file : List Call) (old new : Counts) → get_or files p [] ≡ file
    → AreCounts b files p old → AreCounted b p file old new → AreCounts b files (p + 1) new
counts-more b files p file old new is counts counted = record {
  refused = omega (arith, counts.refused, counted.refused, more (has_kind is_refused_kind b));
  alone = omega (arith, counts.alone, counted.alone, more (has_kind is_alone_kind b));
  agreed = omega (arith, counts.agreed, counted.agreed, more (has_kind is_agreed_kind b));
  accounts = counted.accounts ∙ counts.accounts;
  by_owners = λ a. omega (arith, counts.by_owners a, counted.by_owners a, more (is_by_owner_of a b));
}
  where
    more : (test : ℕ → Call → Bool) → count_first test files (p + 1) ≡ count_first test files p + count_by (test p) file
    more test = count_first-more test files p ∙ ap (λ (calls : List Call). count_first test files p + count_by (test p) calls) is

-- room for fewer calls
pub less_room : (c : Counts) (room less : ℕ) → less ≤ room → HasRoomToCount c room → HasRoomToCount c less
less_room c room less fits has = record {
  refused = omega (arith, fits, has.refused);
  alone = omega (arith, fits, has.alone);
  agreed = omega (arith, fits, has.agreed);
  by_owners = λ a. omega (arith, fits, has.by_owners a);
}
