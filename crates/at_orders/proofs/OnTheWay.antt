-- What holds at each stage of any files, on the way of their calls: what is left of a covered account, and what room is used.
use Rattle.std.proofs.Common.{◌≡◌, ℕ, zero, suc, ◌+◌, ◌<◌, ◌≤◌, true, cond, List, [], ◌∷◌, length, drop, filter, get_or, sum, take, All, Some, refl, sym, ap, subst, ◌∙◌, arith, add-one}
use Rattle.std.specs.Prelude.{slice_get}
use Rattle.at_orders.proofs.Prelude.{length-filter_more, get_or-replicate, get_or_from_slice_get, slice_get-get_or, slice_get_within, sum-map, AccountTerms, BookTerms, is_owner, total_of, IsCallOn, TargetPair, amount_of, payout_of, LedgerState, opening_state, step, Call, Read, Transfer, Pay, Line, IsPlayable, AreWithinFiles, IsNextOfProcess, with_made, AreWithinFiles-none, none_made, AreWithinFiles-next, call_known, get_or-with_made, get_or-with_made_other, OpeningCovers, asked_by_call, asked_in_file, sum_below, IsStage, StageTerms, is_own_payment}
use Rattle.at_orders.proofs.Placing.{same_payout}
use Rattle.at_orders.proofs.Moved.{at_or_off}
use Rattle.at_orders.proofs.Reaching.{Leads, leads-cons, leads-nil, stage-reached}
use Rattle.at_orders.proofs.Stepping.{AreAsked, IsFit, Keeps, asked-at, step-asked, step-keeps, step-sent}
use Rattle.at_orders.proofs.Sums.{sum-one, sum-same, term-up}
use Rattle.at_orders.proofs.Covering.{alone_at, alone-next, alone-none, asked-drop, asked_later, fit-opening, opening-at}

-- the files of the book
pub record AreFiles (b : BookTerms) (files : List (List Call)) : Type 0 where
  pub playable : All (IsPlayable (length b.accounts)) files
  pub count : length files ≡ b.processes

abbrev pub own_payments : BookTerms → ℕ → List Call → ℕ
own_payments b q calls = length (filter (is_own_payment b q) calls)

-- what the calls made so far leave
pub record IsOnTheWay (b : BookTerms) (files : List (List Call)) (s : LedgerState) (made : List ℕ) : Type 0 where
  pub fit : IsFit b s
  pub total : sum s.balances ≡ total_of b
  pub left : (a : ℕ) → a < length b.accounts → OpeningCovers b files a → sum_below (length files) (asked_later b files made a) ≤ get_or s.balances a 0
  pub sent : (q : ℕ) → q < length files → get_or s.sent q 0 ≤ own_payments b q (take (get_or made q 0) (get_or files q []))
  pub asked : (q : ℕ) → q < length files → AreAsked b q s (alone_at b q (get_or files q []) (get_or made q 0))

pub alone-fit : (b : BookTerms) (p : ℕ) (calls : List Call) (i : ℕ) → All (IsCallOn (length b.accounts)) calls → i ≤ length calls → IsFit b (alone_at b p calls i)
alone-fit b p calls zero on within = subst (IsFit b) (sym (alone-none b p calls)) (fit-opening b)
alone-fit b p calls (suc i) on within =
    let before = alone-fit b p calls i on (omega arith) in
    let c : Call = get_or calls i (Read 0) in
    let is : slice_get calls i ≡ Some c = slice_get-get_or calls i (Read 0) (omega arith) in
    let kept = step-keeps b p c (alone_at b p calls i) (on i (Read 0) (omega arith)) before in
    subst (λ (n : ℕ). IsFit b (alone_at b p calls n)) (add-one i) (subst (IsFit b) (sym (alone-next b p calls i c is)) kept.fit)

way-first : (b : BookTerms) (files : List (List Call)) → AreFiles b files → IsOnTheWay b files (opening_state b) (none_made files)
way-first b files are = record {
  fit = fit-opening b;
  total = sum-map (λ (t : AccountTerms). t.opening) b.accounts;
  left = λ a a_in covered.
      let same = sum-same (length files) (asked_later b files (none_made files) a) (λ (q : ℕ). asked_in_file b q a (get_or files q []))
      (λ q q_in. ap (λ (n : ℕ). asked_in_file b q a (drop n (get_or files q []))) (none q q_in)) in
      let has = opening-at b a a_in in
      omega arith;
  sent = λ q q_in. let count = are.count in let zeros : get_or (opening_state b).sent q 0 ≡ 0 = get_or-replicate b.processes q 0 0 (omega arith) in omega arith;
  asked = λ q q_in. subst (AreAsked b q (opening_state b)) (sym (ap (alone_at b q (get_or files q [])) (none q q_in) ∙ alone-none b q (get_or files q []))) (λ a a_in. refl);
}
  where
    none : (q : ℕ) → q < length files → get_or (none_made files) q 0 ≡ 0
    none q q_in = get_or-replicate (length files) q 0 0 q_in

way-next : (b : BookTerms) (files : List (List Call)) (s : LedgerState) (made : List ℕ) (l : Line) → AreFiles b files → AreWithinFiles files made → IsOnTheWay b files s made
    → IsNextOfProcess files s made l → IsOnTheWay b files (step s l.process l.call).ledger (with_made made l.process)
way-next b files s made l are within way next = record {
  fit = kept.fit;
  total = kept.total ∙ way.total;
  left = λ a a_in covered.
      let one = sum-one (length files) p (asked_later b files made a) (asked_later b files (with_made made p) a) next.process
      (λ q q_in differ. ap (λ (n : ℕ). asked_in_file b q a (drop n (get_or files q []))) (sym (count_off q differ))) in
      let here : asked_later b files (with_made made p) a p ≡ asked_in_file b p a (drop (i + 1) calls) = ap (λ (n : ℕ). asked_in_file b p a (drop n calls)) count_at in
      let asks = asked-drop b p a calls i c next.call in
      let left = way.left a a_in covered in
      let fall = kept.fall a in
      omega arith;
  sent = λ q q_in. at_or_off p q
      (λ same. subst (λ (n : ℕ). get_or after.sent n 0 ≤ own_payments b n (take (get_or (with_made made p) n 0) (get_or files n []))) same (
      let more : own_payments b p (take (i + 1) calls) ≡ own_payments b p (take i calls) + cond (is_own_payment b p c) 1 0 =
      length-filter_more (is_own_payment b p) calls i c (slice_get_within calls i c next.call)
      ∙ ap (λ (d : Call). own_payments b p (take i calls) + cond (is_own_payment b p d) 1 0) (get_or_from_slice_get calls i c c next.call) in
      let now : own_payments b p (take (get_or (with_made made p) p 0) calls) ≡ own_payments b p (take (i + 1) calls) = ap (λ (n : ℕ). own_payments b p (take n calls)) count_at in
      let old = way.sent p next.process in
      let used = step-sent b p c s p_in way.fit in
      omega arith))
      (λ differ.
      let old = way.sent q q_in in
      let still = kept.sent q (λ e. differ (sym e)) in
      let now : own_payments b q (take (get_or (with_made made p) q 0) (get_or files q [])) ≡ own_payments b q (take (get_or made q 0) (get_or files q [])) =
      ap (λ (n : ℕ). own_payments b q (take n (get_or files q []))) (count_off q differ) in
      omega arith);
  asked = λ q q_in. at_or_off p q
      (λ same. subst (λ (n : ℕ). AreAsked b n after (alone_at b n (get_or files n []) (get_or (with_made made p) n 0))) same
      (subst (λ (n : ℕ). AreAsked b p after (alone_at b p calls n)) (sym count_at) (subst (AreAsked b p after) (sym (alone-next b p calls i c next.call))
      (step-asked b p c s (alone_at b p calls i) p_in known way.fit (alone-fit b p calls i (are.playable p [] next.process).known (within.within p next.process)) (way.asked p next.process)))))
      (λ differ. subst (λ (n : ℕ). AreAsked b q after (alone_at b q (get_or files q []) n)) (sym (count_off q differ))
      (λ a a_in. kept.asked q a (λ e. differ (sym e)) a_in ∙ way.asked q q_in a a_in));
}
  where
    p : ℕ
    p = l.process

    c : Call
    c = l.call

    i : ℕ
    i = get_or made p 0

    calls : List Call
    calls = get_or files p []

    after : LedgerState
    after = (step s p c).ledger

    p_in : p < b.processes
    p_in = let h = next.process in let n = are.count in omega arith

    known : IsCallOn (length b.accounts) c
    known = call_known (length b.accounts) files s made l are.playable next

    kept : Keeps b p c s (step s p c)
    kept = step-keeps b p c s known way.fit

    count_at : get_or (with_made made p) p 0 ≡ i + 1
    count_at = get_or-with_made made p (let each = within.each in let h = next.process in omega arith)

    count_off : (q : ℕ) → (p ≡ q → ⊥) → get_or (with_made made p) q 0 ≡ get_or made q 0
    count_off q differ = get_or-with_made_other made p q differ

way-leads : (b : BookTerms) (files : List (List Call)) (s : LedgerState) (made : List ℕ) (lines : List Line) (t : StageTerms) → AreFiles b files → AreWithinFiles files made
    → IsOnTheWay b files s made → Leads files s made lines t → IsOnTheWay b files t.ledger t.made
way-leads b files s made [] t are within way leads =
    let end = leads-nil files s made t leads in
    subst (λ (u : LedgerState). IsOnTheWay b files u t.made) end.0 (subst (IsOnTheWay b files s) end.1 way)
way-leads b files s made (l ∷ lines) t are within way leads =
    let parts = leads-cons files s made l lines t leads in
    way-leads b files (step s l.process l.call).ledger (with_made made l.process) lines t are (AreWithinFiles-next files s made l within parts.0)
    (way-next b files s made l are within way parts.0) parts.1

pub way-stage : (b : BookTerms) (files : List (List Call)) (t : StageTerms) → AreFiles b files → IsStage b files t → IsOnTheWay b files t.ledger t.made
way-stage b files t are stage =
    let reached = stage-reached b files t stage in
    way-leads b files (opening_state b) (none_made files) reached.lines t are (AreWithinFiles-none files) (way-first b files are) reached.leads

pub asked-payout : (b : BookTerms) (p a : ℕ) (ts : List TargetPair) (c : Call) → payout_of c ≡ Some (a, ts) → is_owner b p a ≡ true → asked_by_call b p a c ≡ amount_of ts
asked-payout b p a ts (Transfer from to amount) is own =
    subst (λ (x : ℕ × List TargetPair). asked_by_call b p x.0 (Transfer from to amount) ≡ amount_of x.1) (same_payout (from, (to, amount) ∷ []) (a, ts) is)
    (asked-at b p from ((to, amount) ∷ []) (ap (is_owner b p) (ap (λ (x : ℕ × List TargetPair). x.0) (same_payout (from, (to, amount) ∷ []) (a, ts) is)) ∙ own))
asked-payout b p a ts (Read account) is own = absurd (cc is)
asked-payout b p a ts (Pay from targets) is own =
    subst (λ (x : ℕ × List TargetPair). asked_by_call b p x.0 (Pay from targets) ≡ amount_of x.1) (same_payout (from, targets) (a, ts) is)
    (asked-at b p from targets (ap (is_owner b p) (ap (λ (x : ℕ × List TargetPair). x.0) (same_payout (from, targets) (a, ts) is)) ∙ own))

-- a covered source has what the next payment from it asks
pub covered-enough : (b : BookTerms) (files : List (List Call)) (a p : ℕ) (ts : List TargetPair) (c : Call) (t : StageTerms) → IsOnTheWay b files t.ledger t.made → p < length files
    → slice_get (get_or files p []) (get_or t.made p 0) ≡ Some c → payout_of c ≡ Some (a, ts) → a < length b.accounts → OpeningCovers b files a → is_owner b p a ≡ true
    → amount_of ts ≤ get_or t.ledger.balances a 0
covered-enough b files a p ts c t way p_in next pays a_in covered own =
    let left = way.left a a_in covered in
    let one = term-up (length files) p (asked_later b files t.made a) p_in in
    let asks = asked-drop b p a (get_or files p []) (get_or t.made p 0) c next in
    let amount = asked-payout b p a ts c pays own in
    omega arith
