-- Replies that are listed, one more at a time.
use Rattle.std.proofs.Common.{◌≡◌, ℕ, ◌≤◌, ◌⊎◌, ⊎_elim, min, max, true≢false, Option, Some, None, refl, sym, subst, arith}
use Rattle.at_orders.proofs.Prelude.{Reply, Done, Short, NotOwner, Full, Balance, AreJust, IsListed, balances_with, no_replies, replies_with, Range, Replies}

-- the same replies can be
pub just-same : (H K : Reply → Type 0) (r : Replies) → ((y : Reply) → H y → K y) → ((y : Reply) → K y → H y) → AreJust H r → AreJust K r
just-same H K r to from just = record {
  all = λ y k. just.all y (from y k);
  done = λ t. to Done (just.done t);
  short = λ t. to Short (just.short t);
  full = λ t. to Full (just.full t);
  not_owner = λ t. to NotOwner (just.not_owner t);
  least = λ range is. to (Balance range.least) (just.least range is);
  greatest = λ range is. to (Balance range.greatest) (just.greatest range is);
}

-- none can be
pub just-none : (H : Reply → Type 0) → ((y : Reply) → H y → ⊥) → AreJust H no_replies
just-none H never = record {
  all = λ y h. absurd (never y h);
  done = λ t. absurd (true≢false (sym t));
  short = λ t. absurd (true≢false (sym t));
  full = λ t. absurd (true≢false (sym t));
  not_owner = λ t. absurd (true≢false (sym t));
  least = λ range is. absurd (cc);
  greatest = λ range is. absurd (cc);
}

-- the balance is in the range, and so is each that was
record Widens (o : Option Range) (v : ℕ) : Type 0 where
  here : ((balances_with o v).least ≤ v) × (v ≤ (balances_with o v).greatest)
  old : (w : ℕ) (range : Range) → o ≡ Some range → range.least ≤ w → w ≤ range.greatest → ((balances_with o v).least ≤ w) × (w ≤ (balances_with o v).greatest)

widens : (o : Option Range) (v : ℕ) → Widens o v
widens None v = record { here = (omega arith, omega arith); old = λ w range is low high. absurd (cc) }
widens (Some range) v = record {
  here = (grind arith, grind arith);
  old = λ w other is low high.
      let a : range.least ≡ other.least = cc in
      let b : range.greatest ≡ other.greatest = cc in
      (grind arith, grind arith);
}

-- what was listed is
listed-more : (r : Replies) (x y : Reply) → IsListed r y → IsListed (replies_with r x) y
listed-more r Done Done t = refl
listed-more r Done Short t = t
listed-more r Done NotOwner t = t
listed-more r Done Full t = t
listed-more r Done (Balance w) t = t
listed-more r Short Done t = t
listed-more r Short Short t = refl
listed-more r Short NotOwner t = t
listed-more r Short Full t = t
listed-more r Short (Balance w) t = t
listed-more r NotOwner Done t = t
listed-more r NotOwner Short t = t
listed-more r NotOwner NotOwner t = refl
listed-more r NotOwner Full t = t
listed-more r NotOwner (Balance w) t = t
listed-more r Full Done t = t
listed-more r Full Short t = t
listed-more r Full NotOwner t = t
listed-more r Full Full t = refl
listed-more r Full (Balance w) t = t
listed-more r (Balance v) Done t = t
listed-more r (Balance v) Short t = t
listed-more r (Balance v) NotOwner t = t
listed-more r (Balance v) Full t = t
listed-more r (Balance v) (Balance w) t =
    let wide = (widens r.balances v).old w t.0 t.1 t.2 t.3 in
    (balances_with r.balances v, refl, wide.0, wide.1)

listed-here : (r : Replies) (x : Reply) → IsListed (replies_with r x) x
listed-here r Done = refl
listed-here r Short = refl
listed-here r NotOwner = refl
listed-here r Full = refl
listed-here r (Balance v) = let wide = (widens r.balances v).here in (balances_with r.balances v, refl, wide.0, wide.1)

-- the ends of the range are the balance or ends that were
record Ends (H : Reply → Type 0) (range : Range) : Type 0 where
  least : H (Balance range.least)
  greatest : H (Balance range.greatest)

least-with : (H : Reply → Type 0) (a v : ℕ) → H (Balance a) → H (Balance v) → H (Balance (min a v))
least-with H a v old here =
    let cases : (min a v ≡ a) ⊎ (min a v ≡ v) = grind arith in
    ⊎_elim (λ e. subst (λ (n : ℕ). H (Balance n)) (sym e) old) (λ e. subst (λ (n : ℕ). H (Balance n)) (sym e) here) cases

greatest-with : (H : Reply → Type 0) (a v : ℕ) → H (Balance a) → H (Balance v) → H (Balance (max a v))
greatest-with H a v old here =
    let cases : (max a v ≡ a) ⊎ (max a v ≡ v) = grind arith in
    ⊎_elim (λ e. subst (λ (n : ℕ). H (Balance n)) (sym e) old) (λ e. subst (λ (n : ℕ). H (Balance n)) (sym e) here) cases

ends-with : (H : Reply → Type 0) (o : Option Range) (v : ℕ) → ((range : Range) → o ≡ Some range → Ends H range) → H (Balance v) → Ends H (balances_with o v)
ends-with H None v old here = record { least = here; greatest = here }
ends-with H (Some range) v old here =
    let ends = old range refl in
    record { least = least-with H range.least v ends.least here; greatest = greatest-with H range.greatest v ends.greatest here }

-- the replies with one more are those that can be, where one more can be
pub record More (H K : Reply → Type 0) (x : Reply) : Type 0 where
  pub up : (y : Reply) → H y → K y
  pub here : K x
  pub down : (y : Reply) → K y → H y ⊎ (y ≡ x)

all-with : (H K : Reply → Type 0) (r : Replies) (x : Reply) → AreJust H r → More H K x → (y : Reply) → K y → IsListed (replies_with r x) y
all-with H K r x just more y k =
    ⊎_elim (λ h. listed-more r x y (just.all y h)) (λ e. subst (IsListed (replies_with r x)) (sym e) (listed-here r x)) (more.down y k)

pub just-with : (H K : Reply → Type 0) (r : Replies) (x : Reply) → AreJust H r → More H K x → AreJust K (replies_with r x)
just-with H K r Done just more = record {
  all = all-with H K r Done just more;
  done = λ t. more.here;
  short = λ t. more.up Short (just.short t);
  full = λ t. more.up Full (just.full t);
  not_owner = λ t. more.up NotOwner (just.not_owner t);
  least = λ range is. more.up (Balance range.least) (just.least range is);
  greatest = λ range is. more.up (Balance range.greatest) (just.greatest range is);
}
just-with H K r Short just more = record {
  all = all-with H K r Short just more;
  done = λ t. more.up Done (just.done t);
  short = λ t. more.here;
  full = λ t. more.up Full (just.full t);
  not_owner = λ t. more.up NotOwner (just.not_owner t);
  least = λ range is. more.up (Balance range.least) (just.least range is);
  greatest = λ range is. more.up (Balance range.greatest) (just.greatest range is);
}
just-with H K r Full just more = record {
  all = all-with H K r Full just more;
  done = λ t. more.up Done (just.done t);
  short = λ t. more.up Short (just.short t);
  full = λ t. more.here;
  not_owner = λ t. more.up NotOwner (just.not_owner t);
  least = λ range is. more.up (Balance range.least) (just.least range is);
  greatest = λ range is. more.up (Balance range.greatest) (just.greatest range is);
}
just-with H K r NotOwner just more = record {
  all = all-with H K r NotOwner just more;
  done = λ t. more.up Done (just.done t);
  short = λ t. more.up Short (just.short t);
  full = λ t. more.up Full (just.full t);
  not_owner = λ t. more.here;
  least = λ range is. more.up (Balance range.least) (just.least range is);
  greatest = λ range is. more.up (Balance range.greatest) (just.greatest range is);
}
just-with H K r (Balance v) just more =
    let ends = ends-with K r.balances v (λ range is. record {
      least = more.up (Balance range.least) (just.least range is);
      greatest = more.up (Balance range.greatest) (just.greatest range is);
    }) more.here in
    record {
      all = all-with H K r (Balance v) just more;
      done = λ t. more.up Done (just.done t);
      short = λ t. more.up Short (just.short t);
      full = λ t. more.up Full (just.full t);
      not_owner = λ t. more.up NotOwner (just.not_owner t);
      least = λ range is. let same : (balances_with r.balances v).least ≡ range.least = cc in subst (λ (n : ℕ). K (Balance n)) same ends.least;
      greatest = λ range is. let same : (balances_with r.balances v).greatest ≡ range.greatest = cc in subst (λ (n : ℕ). K (Balance n)) same ends.greatest;
    }
