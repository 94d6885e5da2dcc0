-- Stages that are seen, and the replies that are heard at them.
use Rattle.std.proofs.Common.{◌≡◌, ℕ, zero, suc, ◌+◌, ◌<◌, ◌≤◌, ◌==◌, Bool, true, false, ◌-◌, ◌⊎◌, ⊎_elim, inl, inr, List, [], ◌∷◌, ◌++◌, length, get_or, set, replicate, sum, All, Contains, Some, refl, sym, ap, subst, ◌∙◌, arith}
use Rattle.std.specs.Prelude.{Err, Ok, Result, slice_get}
use Rattle.at_orders.proofs.Prelude.{IsErrAnd, cases_lt, Decides-eqb, get_or-append-add, get_or_append_left, get_or-set_other, get_or-set_same, length-append, length-set, append-nil, get_or-append_seam, All-append, All-contains, All-push, All-weaker, Contains-append_left, Contains-append_right, Contains-push, Contains-push_cases, LedgerState, opening_state, step, Call, Line, Reply, IsNextOfProcess, with_made, none_made, AreAnswers, Comes, AreJust, no_replies, replies_with, GroundTerms, HasMoreStages, IsStage, StageTerms, first_stage, stage_after, AreAllHeard, AreAllStages, AreApart, AreHeard, AreHeardInPart, Grows, HasAllNext, HasMoreNext, HasNext, HasNumbers, HasStage, IsHeard, IsNextLevel, IsSeen, IsWalkedTo, StandsFor, Replies, Stage}
use Rattle.at_orders.proofs.Reaching.{Leads, comes-next, leads-cons, leads-nil, order-next, stage-ext, stage-reached}
use Rattle.at_orders.proofs.Hearing.{More, just-none, just-same, just-with}

-- more stages are seen
has-grows : (g : GroundTerms) (xs ys : List Stage) (t : StageTerms) → Grows xs ys → HasStage g xs t → HasStage g ys t
has-grows g xs ys t grows has = record {
  one = has.one;
  there = subst (λ (ws : List Stage). Contains ws has.one) (sym grows.is) (Contains-append_left xs grows.more has.one has.there);
  stands = has.stands;
}

pub next-grows : (g : GroundTerms) (xs ys : List Stage) (s : Stage) (p : ℕ) → Grows xs ys → HasNext g xs s p → HasNext g ys s p
next-grows g xs ys s p grows next t call stands is = has-grows g xs ys (stage_after t p call) grows (next t call stands is)

pub all-next-grows : (g : GroundTerms) (xs ys stages : List Stage) → Grows xs ys → All (HasAllNext g xs) stages → All (HasAllNext g ys) stages
all-next-grows g xs ys stages grows looked =
    All-weaker (HasAllNext g xs) (HasAllNext g ys) (λ s next p known. next-grows g xs ys s p grows (next p known)) stages looked

sum-same : (g : GroundTerms) (x y : Stage) (t : StageTerms) → StandsFor g x t → StandsFor g y t → sum x.made.items ≡ sum y.made.items
sum-same g x y t one other = ap sum (one.made ∙ sym other.made)

-- stages of two parts, told apart by how many calls were made
apart-append : (g : GroundTerms) (xs ys : List Stage) (made : ℕ) → AreApart g xs → AreApart g ys → All (λ (s : Stage). sum s.made.items < made) xs
    → All (λ (s : Stage). sum s.made.items ≡ made) ys → AreApart g (xs ++ ys)
apart-append g xs ys made first second fewer here i j s t less within one other = by (cases_lt i (length xs)) (cases_lt j (length xs))
  where
    size : length (xs ++ ys) ≡ length xs + length ys
    size = length-append xs ys

    right : (k : ℕ) → length xs ≤ k → get_or (xs ++ ys) k s ≡ get_or ys (k - length xs) s
    right k past = let back : length xs + (k - length xs) ≡ k = omega arith in ap (λ (n : ℕ). get_or (xs ++ ys) n s) (sym back) ∙ get_or-append-add xs ys (k - length xs) s

    of : (x y : Stage) → x ≡ y → StandsFor g x t → StandsFor g y t
    of x y same stands = subst (λ (z : Stage). StandsFor g z t) same stands

    by : (i < length xs) ⊎ (length xs ≤ i) → (j < length xs) ⊎ (length xs ≤ j) → ⊥
    by (inl a) (inl c) =
        let x = get_or_append_left xs ys s i a in
        let y = get_or_append_left xs ys s j c in
        first i j s t less c (of _ _ x one) (of _ _ y other)
    by (inl a) (inr c) =
        let x = get_or_append_left xs ys s i a in
        let y = right j c in
        let same = sum-same g (get_or xs i s) (get_or ys (j - length xs) s) t (of _ _ x one) (of _ _ y other) in
        let low = fewer i s a in
        let there = here (j - length xs) s (omega (arith, size)) in
        omega arith
    by (inr a) (inl c) = omega arith
    by (inr a) (inr c) =
        let x = right i a in
        let y = right j c in
        second (i - length xs) (j - length xs) s t (omega arith) (omega (arith, size)) (of _ _ x one) (of _ _ y other)

grows-append : (xs ys : List Stage) → Grows xs (xs ++ ys)
grows-append xs ys = record { more = ys; is = refl }

-- the next level
pub walked-next : (g : GroundTerms) (past level next : List Stage) (made : ℕ) → IsWalkedTo g past level made → IsNextLevel g made level next
    → IsWalkedTo g (past ++ level) next (made + 1)
walked-next g past level next made walked later = record {
  stages = later.stages;
  are = All-append (IsSeen g) past level walked.are walked.stages.are;
  before = before;
  apart = apart-append g (past ++ level) next (made + 1) walked.apart later.apart before later.stages.counts;
  begun = has-grows g (past ++ level) ((past ++ level) ++ next) (first_stage g.book) (grows-append (past ++ level) next) walked.begun;
  looked = All-append (HasAllNext g ((past ++ level) ++ next)) past level
      (all-next-grows g (past ++ level) ((past ++ level) ++ next) past (grows-append (past ++ level) next) walked.looked)
      (All-weaker (HasAllNext g next) (HasAllNext g ((past ++ level) ++ next))
      (λ s all p known t call stands is. has-right g (past ++ level) next (stage_after t p call) (all p known t call stands is)) level later.looked);
}
  where
    before : All (λ (s : Stage). sum s.made.items < made + 1) (past ++ level)
    before = All-append (λ (s : Stage). sum s.made.items < made + 1) past level
        (All-weaker (λ (s : Stage). sum s.made.items < made) (λ (s : Stage). sum s.made.items < made + 1) (λ s less. omega arith) past walked.before)
        (All-weaker (λ (s : Stage). sum s.made.items ≡ made) (λ (s : Stage). sum s.made.items < made + 1) (λ s same. omega arith) level walked.stages.counts)

    has-right : (g : GroundTerms) (xs ys : List Stage) (t : StageTerms) → HasStage g ys t → HasStage g (xs ++ ys) t
    has-right g xs ys t has = record { one = has.one; there = Contains-append_right xs ys has.one has.there; stands = has.stands }

-- one more stage of a level is looked at
pub looked-more : (g : GroundTerms) (xs ys stages : List Stage) (s : Stage) → Grows xs ys → All (HasAllNext g xs) stages
    → HasAllNext g ys s → All (HasAllNext g ys) (stages ++ s ∷ [])
looked-more g xs ys stages s grows looked here = All-push (HasAllNext g ys) stages s (all-next-grows g xs ys stages grows looked) here

-- where every stage that is seen is looked at, lines lead to stages that are seen
closed : (g : GroundTerms) (seen : List Stage) → length g.files ≡ g.book.processes → All (HasAllNext g seen) seen
    → (s : LedgerState) (made : List ℕ) (lines : List Line) (t : StageTerms) → HasStage g seen (record { made = made; ledger = s }) → Leads g.files s made lines t → HasStage g seen t
closed g seen count looked s made [] t has leads =
    let same = leads-nil g.files s made t leads in
    subst (HasStage g seen) (stage-ext (record { made = made; ledger = s }) t same.1 same.0) has
closed g seen count looked s made (l ∷ lines) t has leads =
    let parts = leads-cons g.files s made l lines t leads in
    let known : l.process < g.book.processes = let h = parts.0.process in omega arith in
    let next : slice_get (get_or g.files l.process []) (get_or has.one.made.items l.process 0) ≡ Some l.call =
    subst (λ (m : List ℕ). slice_get (get_or g.files l.process []) (get_or m l.process 0) ≡ Some l.call) (sym has.stands.made) parts.0.call in
    let after = All-contains (HasAllNext g seen) seen has.one looked has.there l.process known (record { made = made; ledger = s }) l.call has.stands next in
    closed g seen count looked (step s l.process l.call).ledger (with_made made l.process) lines t after parts.1

-- where no stage is left to be looked at, all are seen
pub walked-all : (g : GroundTerms) (past level : List Stage) (made : ℕ) → length g.files ≡ g.book.processes → level ≡ [] → IsWalkedTo g past level made
    → AreAllStages g past
walked-all g past level made count none walked = record {
  are = walked.are;
  all = λ t stage.
      let whole : past ++ level ≡ past = ap (λ (xs : List Stage). past ++ xs) none ∙ append-nil past in
      let looked = subst (λ (xs : List Stage). All (HasAllNext g xs) past) whole walked.looked in
      let begun = subst (λ (xs : List Stage). HasStage g xs (first_stage g.book)) whole walked.begun in
      let reached = stage-reached g.book g.files t stage in
      let first : HasStage g past (record { made = none_made g.files; ledger = opening_state g.book }) =
      subst (λ (n : ℕ). HasStage g past (record { made = replicate n 0; ledger = opening_state g.book })) (sym count) begun in
      closed g past count looked (opening_state g.book) (none_made g.files) reached.lines t first reached.leads;
}

-- what is heard at one more stage
heard-old : (g : GroundTerms) (file : List Call) (xs : List Stage) (s : Stage) (p i : ℕ) (y : Reply) → IsHeard g file xs p i y → IsHeard g file (xs ++ s ∷ []) p i y
heard-old g file xs s p i y heard = record {
  one = heard.one;
  there = Contains-append_left xs (s ∷ []) heard.one heard.there;
  before = heard.before;
  call = heard.call;
  next = heard.next;
  stage = heard.stage;
  stands = heard.stands;
  is = heard.is;
  answered = heard.answered;
}

-- of one stage the replies are these
abbrev Replies-are : GroundTerms → Stage → ℕ → Call → Reply → Type 0
Replies-are g s p call x = (l : LedgerState) → HasNumbers g s l → x ≡ (step l p call).reply

heard-here : (g : GroundTerms) (file : List Call) (s : Stage) (p i : ℕ) (y : Reply) → (heard : IsHeard g file (s ∷ []) p i y) → s ≡ heard.one
heard-here g file s p i y heard = ⊎_elim (λ (old : Contains {X = Stage} [] heard.one). absurd (let w = old.1 in omega arith)) (λ e. e) (Contains-push_cases [] s heard.one heard.there)

heard-cases : (g : GroundTerms) (file : List Call) (xs : List Stage) (s : Stage) (p i : ℕ) (y : Reply) → IsHeard g file (xs ++ s ∷ []) p i y
    → IsHeard g file xs p i y ⊎ IsHeard g file (s ∷ []) p i y
heard-cases g file xs s p i y heard =
    ⊎_elim
    (λ old. inl (record {
      one = heard.one;
      there = old;
      before = heard.before;
      call = heard.call;
      next = heard.next;
      stage = heard.stage;
      stands = heard.stands;
      is = heard.is;
      answered = heard.answered;
    }))
    (λ same. inr (record {
      one = s;
      there = Contains-push [] s;
      before = ap (λ (u : Stage). get_or u.made.items p 0) same ∙ heard.before;
      call = heard.call;
      next = heard.next;
      stage = heard.stage;
      stands = subst (λ (u : Stage). StandsFor g u heard.stage) (sym same) heard.stands;
      is = heard.is;
      answered = heard.answered;
    }))
    (Contains-push_cases xs s heard.one heard.there)

heard-before : (g : GroundTerms) (file : List Call) (s : Stage) (p i : ℕ) (y : Reply) → IsHeard g file (s ∷ []) p i y → get_or s.made.items p 0 ≡ i
heard-before g file s p i y heard = ap (λ (u : Stage). get_or u.made.items p 0) (heard-here g file s p i y heard) ∙ heard.before

heard-only : (g : GroundTerms) (file : List Call) (s : Stage) (p i : ℕ) (x y : Reply) (call : Call) → slice_get file i ≡ Some call → Replies-are g s p call x
    → IsHeard g file (s ∷ []) p i y → y ≡ x
heard-only g file s p i x y call is replies heard =
    let stands = subst (λ (u : Stage). StandsFor g u heard.stage) (sym (heard-here g file s p i y heard)) heard.stands in
    let calls : heard.call ≡ call = let next = heard.next in cc in
    sym heard.answered ∙ (ap (λ (c : Call). (step heard.stage.ledger p c).reply) calls ∙ sym (replies heard.stage.ledger stands.ledger))

-- no stage
pub heard-none : (g : GroundTerms) (file : List Call) (p : ℕ) (replies : List Replies) → length replies ≡ length file
    → ((i : ℕ) (r : Replies) → i < length file → get_or replies i r ≡ no_replies) → AreHeard g file [] p replies
heard-none g file p replies size none = record {
  calls = size;
  each = λ i r within. subst (AreJust (IsHeard g file [] p i)) (sym (none i r within)) (just-none (IsHeard g file [] p i) (λ y heard. let w = heard.there.1 in absurd (omega arith)));
}

-- a stage before another call, or after the last one
other-call : (g : GroundTerms) (file : List Call) (xs : List Stage) (s : Stage) (p i : ℕ) (r : Replies) → (get_or s.made.items p 0 ≡ i → ⊥)
    → AreJust (IsHeard g file xs p i) r → AreJust (IsHeard g file (xs ++ s ∷ []) p i) r
other-call g file xs s p i r other just =
    just-same (IsHeard g file xs p i) (IsHeard g file (xs ++ s ∷ []) p i) r (λ y heard. heard-old g file xs s p i y heard)
    (λ y heard. ⊎_elim (λ old. old) (λ only. absurd (other (heard-before g file s p i y only))) (heard-cases g file xs s p i y heard)) just

pub heard-skip : (g : GroundTerms) (file : List Call) (xs : List Stage) (s : Stage) (p : ℕ) (replies : List Replies) → length file ≤ get_or s.made.items p 0
    → AreHeard g file xs p replies → AreHeard g file (xs ++ s ∷ []) p replies
heard-skip g file xs s p replies past heard = record {
  calls = heard.calls;
  each = λ i r within. other-call g file xs s p i (get_or replies i r) (λ same. omega arith) (heard.each i r within);
}

-- a stage before a call
one-more : (g : GroundTerms) (file : List Call) (xs : List Stage) (s : Stage) (p k : ℕ) (call : Call) (x : Reply) → IsSeen g s → get_or s.made.items p 0 ≡ k
    → slice_get file k ≡ Some call → Replies-are g s p call x → More (IsHeard g file xs p k) (IsHeard g file (xs ++ s ∷ []) p k) x
one-more g file xs s p k call x seen before next replies = record {
  up = λ y heard. heard-old g file xs s p k y heard;
  here = record {
    one = s;
    there = Contains-push xs s;
    before = before;
    call = call;
    next = next;
    stage = seen.stage;
    stands = seen.stands;
    is = seen.is;
    answered = sym (replies seen.stage.ledger seen.stands.ledger);
  };
  down = λ y heard. ⊎_elim (λ old. inl old) (λ only. inr (heard-only g file s p k x y call next replies only)) (heard-cases g file xs s p k y heard);
}

pub heard-push : (g : GroundTerms) (file : List Call) (xs : List Stage) (s : Stage) (p k : ℕ) (replies : List Replies) (call : Call) (r : Replies) (x : Reply) → IsSeen g s
    → get_or s.made.items p 0 ≡ k → slice_get file k ≡ Some call → ((l : LedgerState) → HasNumbers g s l → x ≡ (step l p call).reply) → AreHeard g file xs p replies
    → AreHeard g file (xs ++ s ∷ []) p (set replies k (replies_with (get_or replies k r) x))
heard-push g file xs s p k replies call r x seen before next told heard = record {
  calls = length-set replies k (replies_with (get_or replies k r) x) ∙ heard.calls;
  each = λ i d within. by i d within (k == i) refl;
}
  where
    v : Replies
    v = replies_with (get_or replies k r) x

    by : (i : ℕ) (d : Replies) → i < length file → (t : Bool) → (k == i) ≡ t → AreJust (IsHeard g file (xs ++ s ∷ []) p i) (get_or (set replies k v) i d)
    by i d within true is =
        let same : k ≡ i = (Decides-eqb k i).0 is in
        let size = heard.calls in
        let inside : k < length replies = omega arith in
        let read : get_or (set replies k v) i d ≡ v = ap (λ (n : ℕ). get_or (set replies k v) n d) (sym same) ∙ get_or-set_same replies k v d inside in
        let just = just-with (IsHeard g file xs p k) (IsHeard g file (xs ++ s ∷ []) p k) (get_or replies k r) x (heard.each k r (omega arith)) (one-more g file xs s p k call x seen before next told) in
        subst (AreJust (IsHeard g file (xs ++ s ∷ []) p i)) (sym read) (subst (λ (n : ℕ). AreJust (IsHeard g file (xs ++ s ∷ []) p n) v) same just)
    by i d within false is =
        let other : k ≡ i → ⊥ = λ same. let wrong = (Decides-eqb k i).1 same in cc in
        let read : get_or (set replies k v) i d ≡ get_or replies i d = get_or-set_other replies k i v d (λ same. other (sym same)) in
        subst (AreJust (IsHeard g file (xs ++ s ∷ []) p i)) (sym read)
        (other-call g file xs s p i (get_or replies i d) (λ same. other (sym before ∙ same)) (heard.each i d within))

-- what is heard at all stages is what comes
heard-comes : (g : GroundTerms) (seen : List Stage) (p i : ℕ) (y : Reply) → p < length g.files
    → IsHeard g (get_or g.files p []) seen p i y → Comes g.book g.files p i y
heard-comes g seen p i y known heard =
    let t : StageTerms = heard.stage in
    let before : get_or t.made p 0 ≡ i = ap (λ (m : List ℕ). get_or m p 0) (sym heard.stands.made) ∙ heard.before in
    let l : Line = record { process = p; number = get_or t.made p 0 + 1; call = heard.call; reply = (step t.ledger p heard.call).reply } in
    let next : IsNextOfProcess g.files t.ledger t.made l = record {
      process = known;
      number = refl;
      call = subst (λ (n : ℕ). slice_get (get_or g.files p []) n ≡ Some heard.call) (sym before) heard.next;
      reply = refl;
    } in
    let comes = comes-next g.book g.files t l heard.is next in
    subst (λ (z : Reply). Comes g.book g.files p i z) heard.answered (subst (λ (n : ℕ). Comes g.book g.files p n l.reply) before comes)

comes-heard : (g : GroundTerms) (seen : List Stage) (p i : ℕ) (y : Reply) → AreAllStages g seen
    → Comes g.book g.files p i y → IsHeard g (get_or g.files p []) seen p i y
comes-heard g seen p i y all comes =
    let l : Line = comes.line in
    let at = order-next g.book g.files comes.lines l comes.order comes.stands in
    let has = all.all at.stage at.is in
    let by = comes.made_by in
    let number : get_or at.stage.made l.process 0 ≡ i = let a = at.next.number in let n = comes.number in omega arith in
    let before : get_or has.one.made.items p 0 ≡ i = ap (λ (m : List ℕ). get_or m p 0) has.stands.made ∙ (ap (λ (q : ℕ). get_or at.stage.made q 0) (sym by) ∙ number) in
    let next : slice_get (get_or g.files p []) i ≡ Some l.call =
    subst (λ (q : ℕ). slice_get (get_or g.files q []) i ≡ Some l.call) by (subst (λ (n : ℕ). slice_get (get_or g.files l.process []) n ≡ Some l.call) number at.next.call) in
    record {
      one = has.one;
      there = has.there;
      before = before;
      call = l.call;
      next = next;
      stage = at.stage;
      stands = has.stands;
      is = at.is;
      answered = ap (λ (q : ℕ). (step at.stage.ledger q l.call).reply) (sym by) ∙ (sym at.next.reply ∙ comes.answered);
    }

-- the replies of one more file
pub all-heard-more : (g : GroundTerms) (stages : List Stage) (answers : List (List Replies)) (p : ℕ) (replies : List Replies)
    → AreAllHeard g stages answers p → AreHeard g (get_or g.files p []) stages p replies → AreAllHeard g stages (answers ++ replies ∷ []) (p + 1)
all-heard-more g stages answers p replies all heard =
    let count = all.processes in
    record {
      processes = let size = length-append answers (replies ∷ []) in omega arith;
      each = λ q less.
          let cases : (q < p) ⊎ (p ≡ q) = grind arith in
          ⊎_elim
          (λ before. subst (AreHeard g (get_or g.files q []) stages q) (sym (get_or_append_left answers (replies ∷ []) [] q (omega arith))) (all.each q before))
          (λ same.
          let read : get_or (answers ++ replies ∷ []) q [] ≡ replies = ap (λ (n : ℕ). get_or (answers ++ replies ∷ []) n []) (sym (count ∙ same)) ∙ get_or-append_seam answers replies [] [] in
          subst (AreHeard g (get_or g.files q []) stages q) (sym read) (subst (λ (n : ℕ). AreHeard g (get_or g.files n []) stages n replies) same heard))
          cases;
    }

-- the replies of one more file at more stages
pub part-more : (g : GroundTerms) (past stages : List Stage) (answers : List (List Replies)) (p : ℕ) (replies : List Replies) → p < length g.files
    → AreHeardInPart g past stages answers p → AreHeard g (get_or g.files p []) (past ++ stages) p replies → AreHeardInPart g past stages (set answers p replies) (p + 1)
part-more g past stages answers p replies known part heard = record {
  processes = length-set answers p replies ∙ part.processes;
  first = λ q less within. by q within (p == q) refl (λ other. part.first q (omega (arith, other)) within);
  others = λ q more within.
      subst (AreHeard g (get_or g.files q []) past q) (sym (get_or-set_other answers p q replies [] (λ same. omega arith))) (part.others q (omega arith) within);
}
  where
    by : (q : ℕ) → q < length g.files → (t : Bool) → (p == q) ≡ t → ((p ≡ q → ⊥) → AreHeard g (get_or g.files q []) (past ++ stages) q (get_or answers q []))
        → AreHeard g (get_or g.files q []) (past ++ stages) q (get_or (set answers p replies) q [])
    by q within true is old =
        let same : p ≡ q = (Decides-eqb p q).0 is in
        let count = part.processes in
        let read : get_or (set answers p replies) p [] ≡ replies = get_or-set_same answers p replies [] (omega arith) in
        subst (λ (n : ℕ). AreHeard g (get_or g.files n []) (past ++ stages) n (get_or (set answers p replies) n [])) same
        (subst (AreHeard g (get_or g.files p []) (past ++ stages) p) (sym read) heard)
    by q within false is old =
        let other : p ≡ q → ⊥ = λ same. let wrong = (Decides-eqb p q).1 same in cc in
        subst (AreHeard g (get_or g.files q []) (past ++ stages) q) (sym (get_or-set_other answers p q replies [] (λ same. other (sym same)))) (old other)

pub part-none : (g : GroundTerms) (past stages : List Stage) (answers : List (List Replies)) → AreAllHeard g past answers (length g.files)
    → AreHeardInPart g past stages answers 0
part-none g past stages answers all = record {
  processes = all.processes;
  first = λ p less within. absurd (omega arith);
  others = λ p more within. all.each p within;
}

pub part-all : (g : GroundTerms) (past stages : List Stage) (answers : List (List Replies)) (count : ℕ) → count ≡ length g.files
    → AreHeardInPart g past stages answers count → AreAllHeard g (past ++ stages) answers (length g.files)
part-all g past stages answers count is part = record {
  processes = part.processes;
  each = λ p within. part.first p (omega arith) within;
}

-- the answers
pub answers : (g : GroundTerms) (seen : List Stage) (replies : List (List Replies)) → AreAllStages g seen
    → AreAllHeard g seen replies (length g.files) → AreAnswers g.book g.files replies
answers g seen replies all heard = record {
  processes = heard.processes;
  calls = λ p known. (heard.each p known).calls;
  replies = λ p i r known within.
      just-same (IsHeard g (get_or g.files p []) seen p i) (Comes g.book g.files p i) (get_or (get_or replies p []) i r)
      (λ y h. heard-comes g seen p i y known h) (λ y h. comes-heard g seen p i y all h)
      ((heard.each p known).each i r within);
}

-- what seen stages stand for, one stage each
record AreStoodFor (g : GroundTerms) (all : List Stage) : Type 0 where
  stages : List StageTerms
  size : length stages ≡ length all
  are : (i : ℕ) (t : StageTerms) → i < length all → IsStage g.book g.files (get_or stages i t)
  stand : (i : ℕ) (d : Stage) (t : StageTerms) → i < length all → StandsFor g (get_or all i d) (get_or stages i t)

stood-for : (g : GroundTerms) (all : List Stage) → All (IsSeen g) all → AreStoodFor g all
stood-for g [] seen = record { stages = []; size = refl; are = λ i t within. absurd (omega arith); stand = λ i d t within. absurd (omega arith) }
stood-for g (s ∷ all) seen =
    let first = seen 0 s (omega arith) in
    let rest = stood-for g all (λ i d within. seen (suc i) d (omega arith)) in
    record {
      stages = first.stage ∷ rest.stages;
      size = let size = rest.size in omega arith;
      are = are first rest;
      stand = stand first rest;
    }
  where
    are : (first : IsSeen g s) (rest : AreStoodFor g all) (i : ℕ) (t : StageTerms) → i < length (s ∷ all) → IsStage g.book g.files (get_or (first.stage ∷ rest.stages) i t)
    are first rest zero t within = first.is
    are first rest (suc i) t within = rest.are i t (omega arith)

    stand : (first : IsSeen g s) (rest : AreStoodFor g all) (i : ℕ) (d : Stage) (t : StageTerms) → i < length (s ∷ all)
        → StandsFor g (get_or (s ∷ all) i d) (get_or (first.stage ∷ rest.stages) i t)
    stand first rest zero d t within = first.stands
    stand first rest (suc i) d t within = rest.stand i d t (omega arith)

-- more stages than so many
pub more-stages : (g : GroundTerms) (past level : List Stage) (made left most : ℕ) → IsWalkedTo g past level made
    → HasMoreNext g made left → most ≤ length past + length level + left → HasMoreStages g.book g.files most
more-stages g past level made left most walked later enough =
    let all : List Stage = (past ++ level) ++ later.next in
    let size : length all ≡ length past + length level + length later.next = let a = length-append (past ++ level) later.next in let c = length-append past level in omega arith in
    let fewer : All (λ (s : Stage). sum s.made.items < made + 1) (past ++ level) = All-append (λ (s : Stage). sum s.made.items < made + 1) past level
    (All-weaker (λ (s : Stage). sum s.made.items < made) (λ (s : Stage). sum s.made.items < made + 1) (λ s less. omega arith) past walked.before)
    (All-weaker (λ (s : Stage). sum s.made.items ≡ made) (λ (s : Stage). sum s.made.items < made + 1) (λ s same. omega arith) level walked.stages.counts) in
    let are : All (IsSeen g) all = All-append (IsSeen g) (past ++ level) later.next (All-append (IsSeen g) past level walked.are walked.stages.are) later.stages.are in
    let apart = apart-append g (past ++ level) later.next (made + 1) walked.apart later.apart fewer later.stages.counts in
    let more = later.more in
    stages-from g all walked.begun.one most are apart (omega arith)
  where
    stages-from : (g : GroundTerms) (all : List Stage) (d : Stage) (most : ℕ) → All (IsSeen g) all → AreApart g all → most < length all → HasMoreStages g.book g.files most
    stages-from g all d most are apart more =
        let of = stood-for g all are in
        let size = of.size in
        record {
          stages = of.stages;
          are = λ i t within. of.are i t (omega arith);
          apart = λ i j t less within equal.
              let known : j < length all = omega arith in
              apart i j d (get_or of.stages i t) less known (of.stand i d t (omega arith)) (subst (StandsFor g (get_or all j d)) (sym equal) (of.stand j d t known));
          more = omega arith;
        }

pub length-none : (xs : List Stage) → length xs ≡ 0 → xs ≡ []
length-none [] is = refl
length-none (x ∷ xs) is = absurd (omega arith)

-- an error that is handed on
pub errors-same : {A E : Type 0} (r : Result A E) (e f : E) → IsErrAnd r (λ x. x ≡ e) → r ≡ Err f → e ≡ f
errors-same (Ok v) e f told is = absurd told
errors-same (Err x) e f told is = let same : x ≡ e = told in cc
