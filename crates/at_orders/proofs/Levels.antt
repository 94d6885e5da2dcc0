-- One level after another, over a trail.
use Rattle.std.proofs.Common.{◌≡◌, ℕ, zero, suc, ◌+◌, ◌-◌, ◌<◌, ◌≤◌, ⊎_elim, inl, inr, List, [], ◌∷◌, ◌++◌, length, drop, take, get_or, sum, All, Contains, refl, sym, ap, subst, ◌∙◌, arith}
use Rattle.at_orders.proofs.Prelude.{get_or-drop, length-drop, drop_at, get_or-append-add, get_or_append_left, take_all, take_more, All-append, All-nil, Contains-append_left, Contains-push, Contains-push_cases, length-append, append_assoc, append-nil, Call, GroundTerms, HasMoreStages, Reply, first_stage, AreAllHeard, AreAllStages, AreApart, AreSpans, HasAllNext, HasNext, HaveSameNumbers, IsAt, IsGround, IsHeard, IsKeptAt, IsSeen, IsStanding, IsTrail, IsWalked, IsWalkedOn, IsWalkedTo, IsWalking, Looks, StandsFor, TurnsOver, Range, Replies, Stage, Trail}
use Rattle.at_orders.proofs.Hearing.{just-same}
use Rattle.at_orders.proofs.Seen.{walked-first}
use Rattle.at_orders.proofs.Spanning.{MayHave, span-same}
use Rattle.at_orders.proofs.Trails.{same-next, same-seen, same-stands, same-sym}
use Rattle.at_orders.proofs.Walking.{length-none, looked-more, more-stages, walked-all, walked-next}

-- what is heard at a stage is heard at one with the same numbers
heard-as : (g : GroundTerms) (file : List Call) (past : List Stage) (x y : Stage) (p i : ℕ) (reply : Reply) → HaveSameNumbers x y → IsHeard g file (past ++ x ∷ []) p i reply → IsHeard g file (past ++ y ∷ []) p i reply
heard-as g file past x y p i reply e heard = ⊎_elim
    (λ old. record {
      one = heard.one;
      there = Contains-append_left past (y ∷ []) heard.one old;
      before = heard.before;
      call = heard.call;
      next = heard.next;
      stage = heard.stage;
      stands = heard.stands;
      is = heard.is;
      answered = heard.answered;
    })
    (λ same. record {
      one = y;
      there = Contains-push past y;
      before = ap (λ (m : List ℕ). get_or m p 0) (sym e.made) ∙ (ap (λ (u : Stage). get_or u.made.items p 0) same ∙ heard.before);
      call = heard.call;
      next = heard.next;
      stage = heard.stage;
      stands = same-stands g x y heard.stage e (subst (λ (u : Stage). StandsFor g u heard.stage) (sym same) heard.stands);
      is = heard.is;
      answered = heard.answered;
    })
    (Contains-push_cases past x heard.one heard.there)

all-heard-as : (g : GroundTerms) (past : List Stage) (x y : Stage) (answers : List (List Replies)) (count : ℕ) → HaveSameNumbers x y → AreAllHeard g (past ++ x ∷ []) answers count → AreAllHeard g (past ++ y ∷ []) answers count
all-heard-as g past x y answers count e all = record {
  processes = all.processes;
  each = λ p within. record {
    calls = (all.each p within).calls;
    each = λ i r inside.
        just-same (IsHeard g (get_or g.files p []) (past ++ x ∷ []) p i) (IsHeard g (get_or g.files p []) (past ++ y ∷ []) p i) (get_or (get_or answers p []) i r)
        (λ reply heard. heard-as g (get_or g.files p []) past x y p i reply e heard)
        (λ reply heard. heard-as g (get_or g.files p []) past y x p i reply (same-sym x y e) heard)
        ((all.each p within).each i r inside);
  };
}

kept-as : (past : List Stage) (x y : Stage) (place v : ℕ) → HaveSameNumbers x y → IsKeptAt (past ++ x ∷ []) place v → IsKeptAt (past ++ y ∷ []) place v
kept-as past x y place v e kept = ⊎_elim
    (λ old. record { one = kept.one; there = Contains-append_left past (y ∷ []) kept.one old; has = kept.has })
    (λ same. record {
      one = y;
      there = Contains-push past y;
      has = ap (λ (m : List ℕ). get_or m place 0) (sym e.balances) ∙ (ap (λ (u : Stage). get_or u.balances.items place 0) same ∙ kept.has);
    })
    (Contains-push_cases past x kept.one kept.there)

spans-as : (g : GroundTerms) (past : List Stage) (x y : Stage) (spans : List Range) → HaveSameNumbers x y → AreSpans g (past ++ x ∷ []) spans → AreSpans g (past ++ y ∷ []) spans
spans-as g past x y spans e are = record {
  size = are.size;
  each = λ place d within.
      span-same (MayHave g (past ++ x ∷ []) place) (MayHave g (past ++ y ∷ []) place) (get_or spans place d)
      (λ w may. ⊎_elim (λ opens. inl opens) (λ kept. inr (kept-as past x y place w e kept)) may)
      (λ w may. ⊎_elim (λ opens. inl opens) (λ kept. inr (kept-as past y x place w (same-sym x y e) kept)) may)
      (are.each place d within);
}

pub walking-begun : (g : GroundTerms) (t : Trail) (answers : List (List Replies)) (spans : List Range) (most : ℕ) → IsWalked g t answers spans most → IsWalking g t answers spans most t.looked
walking-begun g t answers spans most walked = record {
  past = walked.past;
  before = walked.stages;
  next = [];
  made = walked.made;
  trail = subst (IsTrail g t) (sym (append-nil walked.stages)) walked.trail;
  all = walked.all;
  from = omega arith;
  walked = walked.walked;
  level = record { are = All-nil (IsSeen g); counts = All-nil (λ (s : Stage). sum s.made.items ≡ walked.made + 1) };
  apart = λ i j d u less within one other. absurd (omega arith);
  looked = subst (λ (n : ℕ). All (HasAllNext g []) (take n (drop t.looked walked.stages))) (sym none) (All-nil (HasAllNext g []));
  heard = subst (λ (n : ℕ). AreAllHeard g (walked.past ++ take n (drop t.looked walked.stages)) answers (length g.files)) (sym none)
      (subst (λ (xs : List Stage). AreAllHeard g xs answers (length g.files)) (sym (append-nil walked.past)) walked.heard);
  held = subst (λ (n : ℕ). AreSpans g (walked.past ++ take n (drop t.looked walked.stages)) spans) (sym none)
      (subst (λ (xs : List Stage). AreSpans g xs spans) (sym (append-nil walked.past)) walked.held);
  count = walked.count;
}
  where
    none : t.looked - t.looked ≡ 0
    none = omega arith

-- its stage with this number, by another one with the same numbers
pub next-as : (g : GroundTerms) (seen : List Stage) (x y : Stage) → HaveSameNumbers x y → HasAllNext g seen x → HasAllNext g seen y
next-as g seen x y e next p known t call stands is =
    next p known t call (same-stands g y x t (same-sym x y e) stands) (same-next g x y p call e is)

-- one stage more of the level
pub walking-more : (g : GroundTerms) (old new : Trail) (answers told : List (List Replies)) (spans wide : List Range) (most at : ℕ) (s : Stage)
    → (walking : IsWalking g old answers spans most at) → at < old.begun → IsAt (walking.before ++ walking.next) at s
    → ((past : List Stage) → AreAllHeard g past answers (length g.files) → AreAllHeard g (past ++ s ∷ []) told (length g.files))
    → ((past : List Stage) → AreSpans g past spans → AreSpans g (past ++ s ∷ []) wide)
    → (looks : Looks g old new (walking.before ++ walking.next) s (λ p. p < g.book.processes)) → IsWalking g new told wide most (at + 1)
walking-more g old new answers told spans wide most at s walking before_end here hears widens looks = record {
  past = walking.past;
  before = before;
  next = next ++ looks.more;
  made = walking.made;
  trail = subst (IsTrail g new) (append_assoc before next looks.more) looks.is;
  all = walking.all ∙ sym looks.begun;
  from = let from = walking.from in let same = looks.looked in omega arith;
  walked = subst (λ (n : ℕ). IsWalkedTo g walking.past (drop n before) walking.made) (sym looks.looked) walking.walked;
  level = record {
    are = All-append (IsSeen g) next looks.more walking.level.are
        (λ i d inside. subst (IsSeen g) (get_more i d) (looks.is.seen (length (before ++ next) + i) d (let size = length-append (before ++ next) looks.more in omega arith)));
    counts = All-append (λ (x : Stage). sum x.made.items ≡ walking.made + 1) next looks.more walking.level.counts
        (λ i d inside. looks.counts i d inside ∙ ap (λ (n : ℕ). n + 1) count_here);
  };
  apart = subst (AreApart g) grown (looks.apart (subst (AreApart g) (sym level_is) walking.apart));
  looked = subst (λ (n : ℕ). All (HasAllNext g (next ++ looks.more)) (take (at + 1 - n) (drop n before))) (sym looks.looked)
      (subst (All (HasAllNext g (next ++ looks.more))) (sym taken)
      (looked-more g next (next ++ looks.more) (take k level) x (record { more = looks.more; is = refl }) walking.looked
      (next-as g (next ++ looks.more) s x (same-sym x s same) (λ p known. subst (λ (xs : List Stage). HasNext g xs s p) grown (looks.next p known)))));
  heard = subst (λ (n : ℕ). AreAllHeard g (walking.past ++ take (at + 1 - n) (drop n before)) told (length g.files)) (sym looks.looked)
      (subst (λ (xs : List Stage). AreAllHeard g xs told (length g.files)) (sym pasts)
      (all-heard-as g (walking.past ++ take k level) s x told (length g.files) (same-sym x s same) (hears (walking.past ++ take k level) walking.heard)));
  held = subst (λ (n : ℕ). AreSpans g (walking.past ++ take (at + 1 - n) (drop n before)) wide) (sym looks.looked)
      (subst (λ (xs : List Stage). AreSpans g xs wide) (sym pasts)
      (spans-as g (walking.past ++ take k level) s x wide (same-sym x s same) (widens (walking.past ++ take k level) walking.held)));
  count = subst (λ (n : ℕ). length walking.past + length (drop n before) + most ≡ 1048576) (sym looks.looked) walking.count;
}
  where
    before : List Stage
    before = walking.before

    next : List Stage
    next = walking.next

    level : List Stage
    level = drop old.looked walking.before

    k : ℕ
    k = at - old.looked

    x : Stage
    x = get_or walking.before at s

    within : at < length walking.before
    within = let all = walking.all in omega arith

    same : HaveSameNumbers x s
    same = subst (λ (z : Stage). HaveSameNumbers z s) (get_or_append_left walking.before walking.next s at within) (here.same s)

    inside_level : k < length level
    inside_level = let size = length-drop old.looked walking.before in let from = walking.from in omega arith

    x_is : get_or level k s ≡ x
    x_is = get_or-drop old.looked walking.before k s ∙ ap (λ (n : ℕ). get_or walking.before n s) (let from = walking.from in let back : old.looked + k ≡ at = omega arith in back)

    taken : take (at + 1 - old.looked) level ≡ take k level ++ x ∷ []
    taken =
        let from = walking.from in
        let more : at + 1 - old.looked ≡ k + 1 = omega arith in
        ap (λ (n : ℕ). take n level) more ∙ (take_more level k s inside_level ∙ ap (λ (z : Stage). take k level ++ z ∷ []) x_is)

    pasts : walking.past ++ take (at + 1 - old.looked) level ≡ (walking.past ++ take k level) ++ x ∷ []
    pasts = ap (λ (xs : List Stage). walking.past ++ xs) taken ∙ sym (append_assoc walking.past (take k level) (x ∷ []))

    count_here : sum s.made.items ≡ walking.made
    count_here = ap sum (sym same.made) ∙ (ap (λ (z : Stage). sum z.made.items) (sym x_is) ∙ walking.walked.stages.counts k s inside_level)

    level_is : drop old.begun (walking.before ++ walking.next) ≡ walking.next
    level_is = drop_at walking.before walking.next old.begun walking.all

    grown : drop old.begun ((walking.before ++ walking.next) ++ looks.more) ≡ walking.next ++ looks.more
    grown = ap (drop old.begun) (append_assoc walking.before walking.next looks.more) ∙ drop_at walking.before (walking.next ++ looks.more) old.begun walking.all

    get_more : (i : ℕ) (d : Stage) → get_or ((walking.before ++ walking.next) ++ looks.more) (length (walking.before ++ walking.next) + i) d ≡ get_or looks.more i d
    get_more i d = get_or-append-add (walking.before ++ walking.next) looks.more i d

-- more stages than may come
pub walking-many : (g : GroundTerms) (t : Trail) (answers : List (List Replies)) (spans : List Range) (most at : ℕ) → (walking : IsWalking g t answers spans most at) → most < length walking.next
    → HasMoreStages g.book g.files 1048576
walking-many g t answers spans most at walking more =
    let count = walking.count in
    more-stages g walking.past (drop t.looked walking.before) walking.made most 1048576 walking.walked
    (record { next = walking.next; stages = walking.level; apart = walking.apart; more = more }) (omega arith)

-- how many stages the next level has
pub walking-grown : (g : GroundTerms) (t : Trail) (answers : List (List Replies)) (spans : List Range) (most at grown : ℕ) → (walking : IsWalking g t answers spans most at)
    → grown + t.begun ≡ length t.held.items + length t.links.items → length walking.next ≡ grown
walking-grown g t answers spans most at grown walking is =
    let size = walking.trail.size in
    let both = length-append walking.before walking.next in
    let all = walking.all in
    omega arith

-- the level is looked at
pub walking-ended : (g : GroundTerms) (t : Trail) (answers : List (List Replies)) (spans : List Range) (most at : ℕ) → (walking : IsWalking g t answers spans most at) → t.begun ≤ at → length walking.next ≤ most
    → IsWalkedOn g t answers spans most
walking-ended g t answers spans most at walking past_end few = record {
  past = walking.past ++ level;
  stages = walking.before ++ walking.next;
  made = walking.made + 1;
  trail = walking.trail;
  walked = subst (λ (xs : List Stage). IsWalkedTo g (walking.past ++ level) xs (walking.made + 1)) (sym (drop_at walking.before walking.next t.begun walking.all))
      (walked-next g walking.past level walking.next walking.made walking.walked (record {
        stages = walking.level;
        apart = walking.apart;
        looked = subst (All (HasAllNext g walking.next)) whole walking.looked;
      }));
  heard = subst (λ (xs : List Stage). AreAllHeard g (walking.past ++ xs) answers (length g.files)) whole walking.heard;
  held = subst (λ (xs : List Stage). AreSpans g (walking.past ++ xs) spans) whole walking.held;
  count = let count = walking.count in let both = length-append walking.past level in omega arith;
  few = let both = length-append walking.before walking.next in let all = walking.all in omega arith;
}
  where
    level : List Stage
    level = drop t.looked walking.before

    whole : take (at - t.looked) level ≡ level
    whole = take_all (at - t.looked) level (let size = length-drop t.looked walking.before in let all = walking.all in omega arith)

-- and then the next one
pub walked-on : (g : GroundTerms) (old new : Trail) (answers : List (List Replies)) (spans : List Range) (most grown : ℕ) → (walked : IsWalkedOn g old answers spans most) → TurnsOver g old new walked.stages
    → grown + old.begun ≡ length old.held.items + length old.links.items → IsWalked g new answers spans (most - grown)
walked-on g old new answers spans most grown walked turns is = record {
  past = walked.past;
  stages = turns.kept;
  made = walked.made;
  trail = turns.is;
  all = turns.all;
  walked = subst (λ (xs : List Stage). IsWalkedTo g walked.past xs walked.made) (sym turns.level) walked.walked;
  heard = walked.heard;
  held = walked.held;
  count =
      let same = ap (length {A = Stage}) turns.level in
      let size = length-drop old.begun walked.stages in
      let all = walked.trail.size in
      let count = walked.count in
      let few = walked.few in
      omega arith;
}

pub walked-few : (g : GroundTerms) (t : Trail) (answers : List (List Replies)) (spans : List Range) (most grown : ℕ) → (walked : IsWalkedOn g t answers spans most)
    → grown + t.begun ≡ length t.held.items + length t.links.items → grown ≤ most
walked-few g t answers spans most grown walked is = let few = walked.few in let size = walked.trail.size in omega arith

-- the first stage alone
pub walked-begun : (g : GroundTerms) (t : Trail) (s : Stage) (answers : List (List Replies)) (spans : List Range) → IsGround g → IsTrail g t (s ∷ []) → StandsFor g s (first_stage g.book) → IsStanding g s
    → t.looked ≡ 0 → t.begun ≡ 1 → AreAllHeard g [] answers (length g.files) → AreSpans g [] spans → IsWalked g t answers spans 1048575
walked-begun g t s answers spans ground trail stands standing looked begun heard held = record {
  past = [];
  stages = s ∷ [];
  made = 0;
  trail = trail;
  all = sym begun;
  walked = subst (λ (n : ℕ). IsWalkedTo g [] (drop n (s ∷ [])) 0) (sym looked)
      (walked-first g (s ∷ []) s ground.processes stands standing (λ x there. inr (only x there)) (omega arith)
      (record { one = s; there = Contains-push [] s; stands = stands }));
  heard = heard;
  held = held;
  count = subst (λ (n : ℕ). length {A = Stage} [] + length (drop n (s ∷ [])) + 1048575 ≡ 1048576) (sym looked) (omega arith);
}
  where
    only : (x : Stage) → Contains (s ∷ []) x → x ≡ s
    only x there = ⊎_elim (λ (old : Contains {X = Stage} [] x). absurd (let w = old.1 in omega arith)) (λ same. sym same) (Contains-push_cases [] s x there)

-- no stage is left
pub walked-out : (g : GroundTerms) (t : Trail) (answers : List (List Replies)) (spans : List Range) (most : ℕ) → IsGround g → (walked : IsWalked g t answers spans most) → t.begun ≤ t.looked → AreAllStages g walked.past
walked-out g t answers spans most ground walked none =
    walked-all g walked.past (drop t.looked walked.stages) walked.made ground.processes
    (length-none (drop t.looked walked.stages) (let size = length-drop t.looked walked.stages in let all = walked.all in omega arith)) walked.walked

-- a loaded stage has the numbers of the one with this number
pub walking-at : (g : GroundTerms) (t : Trail) (answers : List (List Replies)) (spans : List Range) (most at : ℕ) (x : Stage) → (walking : IsWalking g t answers spans most at) → at < t.begun
    → ((d : Stage) → HaveSameNumbers x (get_or (walking.before ++ walking.next) at d)) → IsAt (walking.before ++ walking.next) at x
walking-at g t answers spans most at x walking less loaded = record {
  within = let all = walking.all in let size = length-append walking.before walking.next in omega arith;
  same = λ d. same-sym x (get_or (walking.before ++ walking.next) at d) (loaded d);
}

pub walking-seen : (g : GroundTerms) (t : Trail) (answers : List (List Replies)) (spans : List Range) (most at : ℕ) (x : Stage) → (walking : IsWalking g t answers spans most at) → at < t.begun
    → ((d : Stage) → HaveSameNumbers x (get_or (walking.before ++ walking.next) at d)) → IsSeen g x
walking-seen g t answers spans most at x walking less loaded =
    same-seen g x (get_or (walking.before ++ walking.next) at x) (loaded x) (walking.trail.seen at x (let all = walking.all in let size = length-append walking.before walking.next in omega arith))

pub all-one : (P : Stage → Type 0) (x : Stage) → P x → All P (x ∷ [])
all-one P x is zero d within = is
all-one P x is (suc k) d within = absurd (omega arith)

pub turned-size : (g : GroundTerms) (old new : Trail) (stages : List Stage) (grown : ℕ) → IsTrail g old stages → TurnsOver g old new stages → grown + old.begun ≡ length old.held.items + length old.links.items
    → new.begun - new.looked ≡ grown
turned-size g old new stages grown trail turns is =
    let all = trail.size in
    let size = length-drop old.begun stages in
    let kept = length-drop new.looked turns.kept in
    let same = ap (length {A = Stage}) turns.level in
    let end = turns.all in
    omega arith
