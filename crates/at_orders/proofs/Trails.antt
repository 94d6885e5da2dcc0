-- What a trail tells, and one more stage of it.
use Rattle.std.proofs.Common.{◌≡◌, ℕ, zero, suc, ◌+◌, ◌-◌, ◌<◌, ◌≤◌, ◌⊎◌, ⊎_elim, inl, inr, Option, None, Some, List, [], ◌∷◌, ◌++◌, length, drop, get_or, All, refl, sym, ap, subst, ◌∙◌, arith, Bool, true, false, true≢false, cond}
use Rattle.at_orders.proofs.Prelude.{and_from, and_parts, cases_lt, get_or-drop, length-drop, AreKeptWhole, TurnsOver, Decides-eqb, nat_list_eq_equiv, pointwise, same_text, All-push, All-nil, get_or-append_seam, get_or_append_left, length-append, append-nil, AreWithinFiles, Call, GroundTerms, StageTerms, stage_after, Adds, AreKept, IsGround, AreLed, HasTwin, HaveSameNumbers, IsAt, IsLatest, IsLink, IsNextCall, IsPushed, IsSeen, IsTrail, IsUpTo, IsNextStage, StandsFor, no_link, Link, Stage, Trail}
use Rattle.at_orders.specs.Trail.{hash_of}
use Rattle.std.specs.Prelude.{nat_eq, slice_get}
use Rattle.indexmap.specs.IndexMap.{Updates, get}
use Rattle.at_orders.proofs.Seen.{next-seen, numbers-same, has_same_numbers}
use Rattle.at_orders.proofs.Requests.{numbers-moved}

-- stages with the same numbers
pub same-refl : (x : Stage) → HaveSameNumbers x x
same-refl x = record { made = refl; balances = refl; sent = refl }

pub same-sym : (x y : Stage) → HaveSameNumbers x y → HaveSameNumbers y x
same-sym x y e = record { made = sym e.made; balances = sym e.balances; sent = sym e.sent }

pub same-trans : (x y z : Stage) → HaveSameNumbers x y → HaveSameNumbers y z → HaveSameNumbers x z
same-trans x y z e f = record { made = e.made ∙ f.made; balances = e.balances ∙ f.balances; sent = e.sent ∙ f.sent }

pub same-stands : (g : GroundTerms) (x y : Stage) (t : StageTerms) → HaveSameNumbers x y → StandsFor g x t → StandsFor g y t
same-stands g x y t e stands = record { made = sym e.made ∙ stands.made; ledger = numbers-moved g x y t.ledger (sym e.made) (sym e.balances) (sym e.sent) stands.ledger }

pub same-told : (x y : Stage) → has_same_numbers x y ≡ true → HaveSameNumbers x y
same-told x y is =
    let first = and_parts _ _ is in
    let second = and_parts _ _ first.1 in
    record { made = same_text x.made.items y.made.items (sym first.0); balances = same_text x.balances.items y.balances.items (sym second.0); sent = same_text x.sent.items y.sent.items (sym second.1) }

pub same-hash : (x y : Stage) → HaveSameNumbers x y → hash_of x ≡ hash_of y
unfolding hash_of
same-hash x y e = rw (e.made, e.balances, e.sent) refl

-- what was told is where more stages come
latest-append : (stages more : List Stage) (begun end hash : ℕ) (at : Option ℕ) → end ≤ length stages → IsLatest stages begun end hash at → IsLatest (stages ++ more) begun end hash at
latest-append stages more begun end hash at within latest = record {
  is = λ i d same.
      let told = latest.is i d same in
      (told.0, told.1, ap hash_of (get_or_append_left stages more d i (omega arith)) ∙ told.2);
  all = λ j d from less has. latest.all j d from less (sym (ap hash_of (get_or_append_left stages more d j (omega arith))) ∙ has);
}

link-append : (g : GroundTerms) (begun : ℕ) (stages more : List Stage) (i : ℕ) (l : Link) → i < length stages → IsLink g begun stages i l → IsLink g begun (stages ++ more) i l
link-append g begun stages more i l within link = record {
  from = link.from;
  process = link.process;
  leads = λ d.
      let before = link.from in
      subst (λ (x : Stage). IsNextStage g x l.process (get_or (stages ++ more) i d)) (sym (get_or_append_left stages more d l.from (omega arith)))
      (subst (λ (x : Stage). IsNextStage g (get_or stages l.from d) l.process x) (sym (get_or_append_left stages more d i within)) (link.leads d));
  twin = λ d from.
      subst (λ (x : Stage). IsLatest (stages ++ more) begun i (hash_of x) l.twin) (sym (get_or_append_left stages more d i within))
      (latest-append stages more begun i (hash_of (get_or stages i d)) l.twin (omega arith) (link.twin d from));
}

-- one stage more
latest-more : (stages : List Stage) (s : Stage) (begun hash : ℕ) (was now : Option ℕ) → begun ≤ length stages → IsLatest stages begun (length stages) hash was
    → ((hash ≡ hash_of s) × (now ≡ Some (length stages))) ⊎ ((hash ≡ hash_of s → ⊥) × (now ≡ was)) → IsLatest (stages ++ s ∷ []) begun (length stages + 1) hash now
latest-more stages s begun hash was now within latest (inl new) = record {
  is = λ i d same.
      let at : length stages ≡ i = let h = new.1 in cc in
      (omega arith, omega arith, ap (λ (n : ℕ). hash_of (get_or (stages ++ s ∷ []) n d)) (sym at) ∙ (ap hash_of (get_or-append_seam stages s [] d) ∙ sym new.0));
  all = λ j d from less has. subst (λ (o : Option ℕ). IsUpTo o j) (sym new.1) (let h : j ≤ length stages = omega arith in h);
}
latest-more stages s begun hash was now within latest (inr old) = record {
  is = λ i d same.
      let told = latest.is i d (sym old.1 ∙ same) in
      (told.0, omega (arith, told.1), ap hash_of (get_or_append_left stages (s ∷ []) d i told.1) ∙ told.2);
  all = λ j d from less has. ⊎_elim
      (λ (before : j < length stages).
      subst (λ (o : Option ℕ). IsUpTo o j) (sym old.1) (latest.all j d from before (sym (ap hash_of (get_or_append_left stages (s ∷ []) d j before)) ∙ has)))
      (λ (past : length stages ≤ j).
      let at : length stages ≡ j = omega arith in
      absurd (old.0 (sym has ∙ (ap (λ (n : ℕ). hash_of (get_or (stages ++ s ∷ []) n d)) (sym at) ∙ ap hash_of (get_or-append_seam stages s [] d)))))
      (cases_lt j (length stages));
}

-- the trail with these links and these last ones
abbrev pub with_links : Trail → Trail → Trail
with_links old new = record { held = old.held; links = new.links; looked = old.looked; begun = old.begun; latest = new.latest }

pub pushed : (g : GroundTerms) (old new : Trail) (stages : List Stage) (s : Stage) (l : Link) → IsTrail g old stages → IsSeen g s → l.process < g.book.processes
    → AreLed g stages l.from l.process s → l.twin ≡ get nat_eq old.latest (hash_of s) → new.links.items ≡ old.links.items ++ l ∷ []
    → Updates nat_eq old.latest new.latest (hash_of s) (Some (length stages)) → IsPushed g old (with_links old new) stages s
pushed g old new stages s l trail seen known led twin links latest = record {
  is = record {
    seen = All-push (IsSeen g) stages s trail.seen seen;
    size =
        let size = trail.size in
        let more = length-append stages (s ∷ []) in
        let told = length-append old.links.items (l ∷ []) in
        let same = ap (length {A = Link}) links in
        omega arith;
    held = λ i t d within.
        let size = trail.size in
        subst (λ (x : Stage). HaveSameNumbers (get_or old.held.items i t) x) (sym (get_or_append_left stages (s ∷ []) d i (omega arith))) (trail.held i t d within);
    links = λ k m within. subst (λ (ls : List Link). IsLink g old.begun (stages ++ s ∷ []) (length old.held.items + k) (get_or ls k m)) (sym links) (by k m (cases_lt k (length old.links.items)) within);
    whole = trail.whole;
    looked = trail.looked;
    within = let within = trail.within in let more = length-append stages (s ∷ []) in omega arith;
    latest = λ hash.
        let more = length-append stages (s ∷ []) in
        subst (λ (n : ℕ). IsLatest (stages ++ s ∷ []) old.begun n hash (get nat_eq new.latest hash)) (sym more)
        (latest-more stages s old.begun hash (get nat_eq old.latest hash) (get nat_eq new.latest hash) trail.within (trail.latest hash) (last hash));
  };
  begun = refl;
  looked = refl;
}
  where
    by : (k : ℕ) (m : Link) → (k < length old.links.items) ⊎ (length old.links.items ≤ k) → k < length new.links.items
        → IsLink g old.begun (stages ++ s ∷ []) (length old.held.items + k) (get_or (old.links.items ++ l ∷ []) k m)
    by k m (inl before) within =
        let size = trail.size in
        subst (IsLink g old.begun (stages ++ s ∷ []) (length old.held.items + k)) (sym (get_or_append_left old.links.items (l ∷ []) m k before))
        (link-append g old.begun stages (s ∷ []) (length old.held.items + k) (get_or old.links.items k m) (omega arith) (trail.links k m before))
    by k m (inr past) within =
        let size = trail.size in
        let told = length-append old.links.items (l ∷ []) in
        let same = ap (length {A = Link}) links in
        let at : length old.links.items ≡ k = omega arith in
        let number : length stages ≡ length old.held.items + k = omega arith in
        let read : get_or (old.links.items ++ l ∷ []) k m ≡ l = ap (λ (n : ℕ). get_or (old.links.items ++ l ∷ []) n m) (sym at) ∙ get_or-append_seam old.links.items l [] m in
        subst (IsLink g old.begun (stages ++ s ∷ []) (length old.held.items + k)) (sym read)
        (subst (λ (n : ℕ). IsLink g old.begun (stages ++ s ∷ []) n l) number (record {
          from = led.0;
          process = known;
          leads = λ d.
              subst (λ (x : Stage). IsNextStage g x l.process (get_or (stages ++ s ∷ []) (length stages) d)) (sym (get_or_append_left stages (s ∷ []) d l.from led.0))
              (subst (λ (x : Stage). IsNextStage g (get_or stages l.from d) l.process x) (sym (get_or-append_seam stages s [] d)) (led.1 d));
          twin = λ d from.
              subst (λ (x : Stage). IsLatest (stages ++ s ∷ []) old.begun (length stages) (hash_of x) l.twin) (sym (get_or-append_seam stages s [] d))
              (subst (λ (o : Option ℕ). IsLatest (stages ++ s ∷ []) old.begun (length stages) (hash_of s) o) (sym twin)
              (latest-append stages (s ∷ []) old.begun (length stages) (hash_of s) (get nat_eq old.latest (hash_of s)) (omega arith) (trail.latest (hash_of s))));
        }))

    last : (hash : ℕ) → ((hash ≡ hash_of s) × (get nat_eq new.latest hash ≡ Some (length stages))) ⊎ ((hash ≡ hash_of s → ⊥) × (get nat_eq new.latest hash ≡ get nat_eq old.latest hash))
    last hash = of (nat_eq (hash_of s) hash) refl
      where
        of : (t : Bool) → nat_eq (hash_of s) hash ≡ t
            → ((hash ≡ hash_of s) × (get nat_eq new.latest hash ≡ Some (length stages))) ⊎ ((hash ≡ hash_of s → ⊥) × (get nat_eq new.latest hash ≡ get nat_eq old.latest hash))
        of true e = inl (sym ((Decides-eqb (hash_of s) hash).0 e), latest.0 hash ∙ ap (λ (t : Bool). cond t (Some (length stages)) (get nat_eq old.latest hash)) e)
        of false e = inr (λ same. true≢false (sym ((Decides-eqb (hash_of s) hash).1 (sym same)) ∙ e), latest.2 hash e)

-- a stage with the numbers of one that is seen
pub same-seen : (g : GroundTerms) (x y : Stage) → HaveSameNumbers x y → IsSeen g y → IsSeen g x
same-seen g x y e seen = record {
  standing = record {
    counts = ap (length {A = ℕ}) e.made ∙ seen.standing.counts;
    balances = ap (length {A = ℕ}) e.balances ∙ seen.standing.balances;
    all = seen.standing.all;
    kept = subst (λ (kept : List ℕ). AreKept g kept seen.standing.all) (sym e.balances) seen.standing.kept;
    total = seen.standing.total;
    sent = ap (length {A = ℕ}) e.sent ∙ seen.standing.sent;
    sent_room = subst (All (λ n. n ≤ g.book.own_room)) (sym e.sent) seen.standing.sent_room;
  };
  within = subst (AreWithinFiles g.files) (sym e.made) seen.within;
  stage = seen.stage;
  stands = same-stands g y x seen.stage (same-sym x y e) seen.stands;
  is = seen.is;
}

pub same-next : (g : GroundTerms) (x y : Stage) (p : ℕ) (call : Call) → HaveSameNumbers x y → IsNextCall g y p call → IsNextCall g x p call
same-next g x y p call e next = subst (λ (m : List ℕ). slice_get (get_or g.files p []) (get_or m p 0) ≡ Some call) (sym e.made) next

-- the stage that the next call leads to
pub led-seen : (g : GroundTerms) (x new : Stage) (p : ℕ) → p < length g.files → IsSeen g x → IsNextStage g x p new → IsSeen g new
led-seen g x new p known seen led = next-seen g x new p led.call known seen led.next led.stands led.standing

-- one next call leads to the same numbers
pub led-same : (g : GroundTerms) (x y new other : Stage) (p : ℕ) → IsGround g → p < g.book.processes → HaveSameNumbers x y → IsSeen g y → IsNextStage g x p new → IsNextStage g y p other → HaveSameNumbers new other
led-same g x y new other p ground within e seen led told =
    let count = ground.processes in
    let known : p < length g.files = omega arith in
    let next = same-next g x y p told.call e told.next in
    let first = led.next in
    let calls : led.call ≡ told.call = cc in
    let t : StageTerms = stage_after seen.stage p told.call in
    let from = same-stands g y x seen.stage (same-sym x y e) seen.stands in
    same-told new other (numbers-same g ground.places new other t (led-seen g x new p known (same-seen g x y e seen) led) (led-seen g y other p known seen told)
    (subst (λ (c : Call). StandsFor g new (stage_after seen.stage p c)) calls (led.stands seen.stage from)) (told.stands seen.stage seen.stands))

-- the first stage alone
pub trail-first : (g : GroundTerms) (t : Trail) (s : Stage) → IsSeen g s → t.held.items ≡ s ∷ [] → t.links.items ≡ [] → t.looked ≡ 0 → t.begun ≡ 1
    → ((hash : ℕ) → get nat_eq t.latest hash ≡ None) → IsTrail g t (s ∷ [])
trail-first g t s seen held links looked begun latest = record {
  seen = λ i d within. subst (IsSeen g) (let same : s ≡ get_or (s ∷ []) i d = one i d within in same) seen;
  size = let a = ap (length {A = Stage}) held in let b = ap (length {A = Link}) links in omega arith;
  held = λ i x d within.
      let a = ap (length {A = Stage}) held in
      let at : i < 1 = omega arith in
      subst (λ (hs : List Stage). HaveSameNumbers (get_or hs i x) (get_or (s ∷ []) i d)) (sym held)
      (subst (λ (y : Stage). HaveSameNumbers y (get_or (s ∷ []) i d)) (one i x at) (subst (HaveSameNumbers s) (one i d at) (same-refl s)));
  links = λ k l within. let b = ap (length {A = Link}) links in absurd (omega arith);
  whole = let a = ap (length {A = Stage}) held in omega arith;
  looked = omega arith;
  within = omega arith;
  latest = λ hash. subst (λ (o : Option ℕ). IsLatest (s ∷ []) t.begun 1 hash o) (sym (latest hash))
      (record { is = λ i d same. absurd (cc same); all = λ j d from less has. absurd (omega arith) });
}
  where
    one : (i : ℕ) (d : Stage) → i < 1 → s ≡ get_or (s ∷ []) i d
    one zero d within = refl
    one (suc i) d within = absurd (omega arith)

-- the link of a stage that isn't held
pub link-at : (g : GroundTerms) (t : Trail) (stages : List Stage) (i n : ℕ) (l : Link) → IsTrail g t stages → n ≡ length t.held.items → n ≤ i → i < length t.held.items + length t.links.items
    → l ≡ get_or t.links.items (i - n) l → IsLink g t.begun stages i l
link-at g t stages i n l trail same past within is =
    let at : length t.held.items + (i - n) ≡ i = omega arith in
    subst (λ (k : ℕ). IsLink g t.begun stages k l) at (subst (IsLink g t.begun stages (length t.held.items + (i - n))) (sym is) (trail.links (i - n) l (omega arith)))

-- what the next call after a loaded stage leads to
pub recall-next : (g : GroundTerms) (t : Trail) (stages : List Stage) (i : ℕ) (l : Link) (x new d : Stage) (gone : Bool) → IsGround g → IsTrail g t stages → IsLink g t.begun stages i l → i < length stages
    → HaveSameNumbers x (get_or stages l.from d) → (gone ≡ true → IsNextStage g x l.process new) → (gone ≡ false → (call : Call) → IsNextCall g x l.process call → ⊥) → HaveSameNumbers new (get_or stages i d)
recall-next g t stages i l x new d true ground trail link within same led last =
    let from = link.from in
    led-same g x (get_or stages l.from d) new (get_or stages i d) l.process ground link.process same (trail.seen l.from d (omega arith)) (led refl) (link.leads d)
recall-next g t stages i l x new d false ground trail link within same led last =
    absurd (last refl (link.leads d).call (same-next g x (get_or stages l.from d) l.process (link.leads d).call same (link.leads d).next))

-- one above it
abbrev pub bound_of : Option ℕ → ℕ
bound_of None = 0
bound_of (Some i) = i + 1

-- the stages that may still have the same numbers are up to this one, which is one of the next level with the same hash
pub record IsAmong (stages : List Stage) (begun : ℕ) (s : Stage) (at : Option ℕ) : Type 0 where
  pub is : (i : ℕ) (d : Stage) → at ≡ Some i → (begun ≤ i) × (i < length stages) × (hash_of (get_or stages i d) ≡ hash_of s)
  pub all : (j : ℕ) → begun ≤ j → IsAt stages j s → IsUpTo at j

pub among-latest : (g : GroundTerms) (t : Trail) (stages : List Stage) (s : Stage) (hash : ℕ) → hash ≡ hash_of s → IsTrail g t stages → IsAmong stages t.begun s (get nat_eq t.latest hash)
among-latest g t stages s hash hashed trail = record {
  is = λ i d same. let told = (trail.latest hash).is i d same in (told.0, told.1, told.2 ∙ hashed);
  all = λ j from at. (trail.latest hash).all j s from at.within (same-hash (get_or stages j s) s (at.same s) ∙ sym hashed);
}

-- the one before it with the same hash, where this one hasn't the same numbers
pub among-twin : (g : GroundTerms) (t : Trail) (stages : List Stage) (s : Stage) (i : ℕ) (l : Link) → IsTrail g t stages → IsLink g t.begun stages i l → t.begun ≤ i → i < length stages
    → (IsAt stages i s → ⊥) → IsAmong stages t.begun s (Some i) → IsAmong stages t.begun s l.twin
among-twin g t stages s i l trail link from within other among = record {
  is = λ j d same.
      let told = (link.twin d from).is j d same in
      (told.0, omega (arith, told.1), told.2 ∙ (among.is i d refl).2);
  all = λ j after at.
      let up : j ≤ i = among.all j after at in
      ⊎_elim
      (λ (before : j < i). (link.twin s from).all j s after before (same-hash (get_or stages j s) s (at.same s) ∙ sym (among.is i s refl).2))
      (λ (past : i ≤ j). let same : j ≡ i = omega arith in absurd (other (subst (λ (k : ℕ). IsAt stages k s) same at)))
      (cases_lt j i);
}

pub among-none : (stages : List Stage) (begun : ℕ) (s : Stage) → IsAmong stages begun s None → HasTwin stages begun s → ⊥
among-none stages begun s among twin = among.all twin.one twin.from twin.is

pub among-left : (stages : List Stage) (begun : ℕ) (s : Stage) (at : Option ℕ) → ((i : ℕ) → at ≡ Some i → ⊥) → IsAmong stages begun s at → HasTwin stages begun s → ⊥
among-left stages begun s None never among twin = among-none stages begun s among twin
among-left stages begun s (Some i) never among twin = absurd (never i refl)

pub same-test : (x y : Stage) → HaveSameNumbers x y → has_same_numbers x y ≡ true
same-test x y e = and_from _ _ (told e.made) (and_from _ _ (told e.balances) (told e.sent))
  where
    told : {xs ys : List ℕ} → xs ≡ ys → pointwise nat_eq xs ys ≡ true
    told {xs} {ys} same = sym (ap (pointwise nat_eq xs) same) ∙ nat_list_eq_equiv.refl xs

pub link-here : (g : GroundTerms) (t : Trail) (stages : List Stage) (i : ℕ) → IsTrail g t stages → t.begun ≤ i → i < length stages → IsLink g t.begun stages i (get_or t.links.items (i - length t.held.items) no_link)
link-here g t stages i trail from within =
    let n : ℕ = length t.held.items in
    let size = trail.size in
    let whole = trail.whole in
    let at : n + (i - n) ≡ i = omega arith in
    subst (λ (k : ℕ). IsLink g t.begun stages k (get_or t.links.items (i - n) no_link)) at (trail.links (i - n) no_link (omega arith))

-- the stage is there, or comes
pub adds-none : (g : GroundTerms) (t : Trail) (stages : List Stage) (s : Stage) → IsTrail g t stages → HasTwin stages t.begun s → Adds g t t stages s
adds-none g t stages s trail twin = record {
  more = [];
  is = subst (IsTrail g t) (sym (append-nil stages)) trail;
  only = All-nil (λ (x : Stage). x ≡ s);
  few = omega arith;
  has = subst (λ (xs : List Stage). HasTwin xs t.begun s) (sym (append-nil stages)) twin;
  apart = λ other. refl;
  begun = refl;
  looked = refl;
}

pub adds-one : (g : GroundTerms) (old new : Trail) (stages : List Stage) (s : Stage) → IsTrail g old stages → IsPushed g old new stages s → (HasTwin stages old.begun s → ⊥) → Adds g old new stages s
adds-one g old new stages s trail pushed none = record {
  more = s ∷ [];
  is = pushed.is;
  only = λ i d within. only i d within;
  few = omega arith;
  has = record {
    one = length stages;
    from = trail.within;
    is = record {
      within = let more = length-append stages (s ∷ []) in omega arith;
      same = λ d. subst (λ (x : Stage). HaveSameNumbers x s) (sym (get_or-append_seam stages s [] d)) (same-refl s);
    };
  };
  apart = λ twin. absurd (none twin);
  begun = pushed.begun;
  looked = pushed.looked;
}
  where
    only : (i : ℕ) (d : Stage) → i < length (s ∷ []) → get_or (s ∷ []) i d ≡ s
    only zero d within = refl
    only (suc i) d within = absurd (omega arith)

pub bound-falls : (stages : List Stage) (s : Stage) (begun i hash : ℕ) (at next : Option ℕ) → at ≡ Some i → IsLatest stages begun i hash next → bound_of next < bound_of at
bound-falls stages s begun i hash at next same latest = subst (λ (o : Option ℕ). bound_of next < bound_of o) (sym same) (by next (λ j is. (latest.is j s is).1))
  where
    by : (o : Option ℕ) → ((j : ℕ) → o ≡ Some j → j < i) → bound_of o < i + 1
    by None less = omega arith
    by (Some j) less = let h = less j refl in omega arith

-- one stage more that is held
pub held-more : (stages : List Stage) (begun i : ℕ) (held : List Stage) (x y : Stage) → length held + begun ≡ i → HaveSameNumbers x y → ((d : Stage) → HaveSameNumbers y (get_or stages i d))
    → ((k : ℕ) (s d : Stage) → k < length held → HaveSameNumbers (get_or held k s) (get_or stages (begun + k) d))
    → (k : ℕ) (s d : Stage) → k < length held + 1 → HaveSameNumbers (get_or (held ++ x ∷ []) k s) (get_or stages (begun + k) d)
held-more stages begun i held x y at copied loaded are k s d within =
    ⊎_elim
    (λ (before : k < length held). subst (λ (z : Stage). HaveSameNumbers z (get_or stages (begun + k) d)) (sym (get_or_append_left held (x ∷ []) s k before)) (are k s d before))
    (λ (past : length held ≤ k).
    let here : length held ≡ k = omega arith in
    let there : i ≡ begun + k = omega arith in
    subst (λ (z : Stage). HaveSameNumbers z (get_or stages (begun + k) d)) (sym (ap (λ (n : ℕ). get_or (held ++ x ∷ []) n s) (sym here) ∙ get_or-append_seam held x [] s))
    (same-trans x y (get_or stages (begun + k) d) copied (subst (λ (n : ℕ). HaveSameNumbers y (get_or stages n d)) there (loaded d))))
    (cases_lt k (length held))

-- the next level is looked at
abbrev pub with_level : Trail → ℕ → Trail → Trail
with_level mid count other = record { held = mid.held; links = mid.links; looked = mid.begun; begun = count; latest = other.latest }

-- no stage is of the level after it
none-latest : (stages : List Stage) (begun end hash : ℕ) → end ≤ begun → IsLatest stages begun end hash None
none-latest stages begun end hash none = record { is = λ i d same. absurd (cc same); all = λ j d from less has. absurd (omega arith) }

pub turned : (g : GroundTerms) (old other : Trail) (stages : List Stage) (count : ℕ) → IsTrail g old stages → count ≡ length old.held.items + length old.links.items
    → ((hash : ℕ) → get nat_eq other.latest hash ≡ None) → TurnsOver g old (with_level old count other) stages
turned g old other stages count trail all none = record {
  kept = stages;
  is = record {
    seen = trail.seen;
    size = trail.size;
    held = trail.held;
    links = λ k l within.
        let link = trail.links k l within in
        record { from = link.from; process = link.process; leads = link.leads; twin = λ d from. absurd (omega arith) };
    whole = omega arith;
    looked = let within = trail.within in let size = trail.size in omega arith;
    within = let size = trail.size in omega arith;
    latest = λ hash. subst (IsLatest stages count (length stages) hash) (sym (none hash)) (none-latest stages count (length stages) hash (let size = trail.size in omega arith));
  };
  level = refl;
  all = let size = trail.size in omega arith;
}

pub turned-held : (g : GroundTerms) (old mid other : Trail) (stages : List Stage) (count : ℕ) → IsTrail g old stages → AreKeptWhole old.begun mid stages → count ≡ length mid.held.items + length mid.links.items
    → ((hash : ℕ) → get nat_eq other.latest hash ≡ None) → TurnsOver g old (with_level mid count other) stages
turned-held g old mid other stages count trail are all none = record {
  kept = drop old.begun stages;
  is = record {
    seen = λ i d within. subst (IsSeen g) (sym (get_or-drop old.begun stages i d)) (trail.seen (old.begun + i) d (omega (arith, size)));
    size = omega (arith, size, bare);
    held = λ i s d within. subst (HaveSameNumbers (get_or mid.held.items i s)) (sym (get_or-drop old.begun stages i d)) (are.held i s d within);
    links = λ k l within. absurd (omega (arith, bare));
    whole = omega arith;
    looked = let zero_at = are.begun_at in omega arith;
    within = omega (arith, size, bare);
    latest = λ hash. subst (IsLatest (drop old.begun stages) count (length (drop old.begun stages)) hash) (sym (none hash))
        (none-latest (drop old.begun stages) count (length (drop old.begun stages)) hash (omega (arith, size, bare)));
  };
  level = ap (λ (n : ℕ). drop n (drop old.begun stages)) are.begun_at;
  all = omega (arith, size, bare);
}
  where
    size : length (drop old.begun stages) ≡ length mid.held.items
    size = length-drop old.begun stages ∙ sym are.size

    bare : length mid.links.items ≡ 0
    bare = ap (length {A = Link}) are.links
