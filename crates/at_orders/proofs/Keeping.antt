-- The balances of all accounts, and those that are kept.
use Rattle.std.proofs.Common.{◌≡◌, ℕ, ◌<◌, ◌⊎◌, inl, inr, None, Some, List, length, get_or, map, set, sym, ap, ◌∙◌, arith}
use Rattle.at_orders.proofs.Prelude.{cases_eq, ext_get_or, get_or-map, get_or-set_other, get_or-set_same, length-map, length-set, AccountTerms, no_account, account_of, GroundTerms, AreKept, ArePlaces}
use Rattle.at_orders.proofs.Placing.{place-known}

-- an account that has a place is one of the balances
pub kept-known : (g : GroundTerms) (kept all : List ℕ) (a place : ℕ) → ArePlaces (length g.book.accounts) g.named g.places → AreKept g kept all
    → get_or g.places a None ≡ Some place → a < length all
kept-known g kept all a place law are is =
    let size = law.size in
    let long = are.size in
    let known = place-known g.places a place is in
    omega arith

-- the balance of an account with a place is another
pub kept-set : (g : GroundTerms) (kept all : List ℕ) (a place v : ℕ) → ArePlaces (length g.book.accounts) g.named g.places → length kept ≡ length g.named
    → get_or g.places a None ≡ Some place → AreKept g kept all → AreKept g (set kept place v) (set all a v)
kept-set g kept all a place v law sized is are = record {
  size = length-set all a v ∙ are.size;
  each = λ b q there. by b q there (cases_eq b a);
}
  where
    same_place : (x y : ℕ) → Some x ≡ Some y → x ≡ y
    same_place x y same = cc same

    by : (b q : ℕ) → get_or g.places b None ≡ Some q → (b ≡ a) ⊎ (b ≡ a → ⊥) → get_or (set all a v) b 0 ≡ get_or (set kept place v) q 0
    by b q there (inl same) =
        let at : q ≡ place = same_place q place (sym there ∙ (ap (λ (n : ℕ). get_or g.places n None) same ∙ is)) in
        let within = law.within a place is in
        ap (λ (n : ℕ). get_or (set all a v) n 0) same ∙ (get_or-set_same all a v 0 (kept-known g kept all a place law are is)
        ∙ (sym (get_or-set_same kept place v 0 (omega arith)) ∙ ap (λ (n : ℕ). get_or (set kept place v) n 0) (sym at)))
    by b q there (inr apart) =
        get_or-set_other all a b v 0 apart ∙ (are.each b q there
        ∙ sym (get_or-set_other kept place q v 0 (λ same. apart (sym (law.there b q there) ∙ (ap (λ (n : ℕ). get_or g.named n 0) same ∙ law.there a place is)))))

-- so is that of an account without one
pub kept-other : (g : GroundTerms) (kept all : List ℕ) (a v : ℕ) → get_or g.places a None ≡ None → AreKept g kept all → AreKept g kept (set all a v)
kept-other g kept all a v none are = record {
  size = length-set all a v ∙ are.size;
  each = λ b q there.
      let apart : b ≡ a → ⊥ = λ same. let no : get_or g.places b None ≡ None = ap (λ (n : ℕ). get_or g.places n None) same ∙ none in absurd (cc (there, no)) in
      get_or-set_other all a b v 0 apart ∙ are.each b q there;
}

-- the openings are kept
pub kept-openings : (g : GroundTerms) → ArePlaces (length g.book.accounts) g.named g.places
    → AreKept g (map (λ a. (account_of g.book a).opening) g.named) (map (λ (t : AccountTerms). t.opening) g.book.accounts)
kept-openings g law = record {
  size = length-map g.book.accounts (λ (t : AccountTerms). t.opening);
  each = λ a q is.
      let size = law.size in
      let known = place-known g.places a q is in
      get_or-map (λ (t : AccountTerms). t.opening) g.book.accounts a no_account 0 (omega arith)
      ∙ sym (get_or-map (λ a. (account_of g.book a).opening) g.named q 0 0 (law.within a q is) ∙ ap (λ a. (account_of g.book a).opening) (law.there a q is));
}

-- the kept balances are told by those of the accounts
pub kept-same : (g : GroundTerms) (x y all : List ℕ) → ArePlaces (length g.book.accounts) g.named g.places → length x ≡ length g.named → length y ≡ length g.named
    → AreKept g x all → AreKept g y all → x ≡ y
kept-same g x y all law sized sized_too one other = ext_get_or 0 x y (sized ∙ sym sized_too) (λ q inside.
    let within : q < length g.named = omega arith in
    let a : ℕ = get_or g.named q 0 in
    sym (one.each a q (law.back q within)) ∙ other.each a q (law.back q within))
