-- Stages of all files, and those of each part: each stage is one of each part, and a stage of each part is one of all.
use Rattle.std.proofs.Common.{◌≡◌, ℕ, zero, suc, ◌+◌, ◌<◌, ◌≤◌, ◌==◌, ⊎_elim, inl, inr, List, [], ◌∷◌, length, get_or, Some, Contains, refl, sym, ap, subst, ◌∙◌, arith, eq-eqb}
use Rattle.std.specs.Prelude.{slice_get, if◌then◌else◌}
use Rattle.at_orders.proofs.Prelude.{ne_eqb, cases_lt, get_or_from_slice_get, slice_get_within, BookTerms, IsCallOn, LedgerState, opening_state, step, Call, Line, with_made, none_made, call_known-at, get_or-with_made, get_or-with_made_other, OpeningCovers, asked_in_files, sum_below, AreParts, Touches, files_of_part, IsStage, StageTerms, stage_after}
use Rattle.at_orders.proofs.Covering.{opening-at, opening_of}
use Rattle.at_orders.proofs.Moved.{at_or_off}
use Rattle.at_orders.proofs.OnTheWay.{AreFiles, IsOnTheWay, covered-enough, way-stage}
use Rattle.at_orders.proofs.Parting.{length-part, next-of_part, none-part, own-file, part-covers, part-playable}
use Rattle.at_orders.proofs.Playing.{names-source, source-in}
use Rattle.at_orders.proofs.Reaching.{Leads, leads-cons, leads-nil, leads-start, reached-stage, stage-ext, stage-next, stage-reached}
use Rattle.at_orders.proofs.Stepping.{AreAlike, AreReplies, AreSame, IsEvenCall, Keeps, replies-even, step-changes, step-even, step-keeps}
use Rattle.at_orders.proofs.Sums.{sum-one, sum-same}

-- a stage of all files, and the stage of each part that its calls make there
pub record Splits (b : BookTerms) (files : List (List Call)) (parts : List ℕ) (t : StageTerms) (u : ℕ → StageTerms) : Type 0 where
  pub is : IsStage b files t
  pub each : (k : ℕ) → k < length files → IsStage b (files_of_part files parts k) (u k)
  pub made : (q : ℕ) → q < length files → get_or (u (get_or parts q 0)).made q 0 ≡ get_or t.made q 0
  pub alike : (q : ℕ) → q < length files → AreAlike b q t.ledger (u (get_or parts q 0)).ledger
  pub meets : (q a : ℕ) → q < length files → a < length b.accounts → (OpeningCovers b files a → ⊥) → Touches b files q a
      → get_or t.ledger.balances a 0 ≡ get_or (u (get_or parts q 0)).ledger.balances a 0
  pub brings : (a : ℕ) → a < length b.accounts
      → get_or t.ledger.balances a 0 + sum_below (length files) (λ k. opening_of b a) ≡ opening_of b a + sum_below (length files) (λ k. get_or (u k).ledger.balances a 0)

-- before the first call
abbrev pub opening_stage : BookTerms → List (List Call) → StageTerms
opening_stage b files = record { made = none_made files; ledger = opening_state b }

pub opening-is : (b : BookTerms) (files : List (List Call)) → IsStage b files (opening_stage b files)
opening-is b files = reached-stage b files (opening_stage b files) (record { lines = []; leads = leads-start files (opening_state b) (none_made files) })

pub opening-part : (b : BookTerms) (files : List (List Call)) (parts : List ℕ) (k : ℕ) → IsStage b (files_of_part files parts k) (opening_stage b files)
opening-part b files parts k =
    subst (λ (m : List ℕ). IsStage b (files_of_part files parts k) (record { made = m; ledger = opening_state b })) (none-part files parts k) (opening-is b (files_of_part files parts k))

splits-first : (b : BookTerms) (files : List (List Call)) (parts : List ℕ) → Splits b files parts (opening_stage b files) (λ k. opening_stage b files)
splits-first b files parts = record {
  is = opening-is b files;
  each = λ k k_in. opening-part b files parts k;
  made = λ q q_in. refl;
  alike = λ q q_in. record { sent = refl; asked = λ a a_in. refl };
  meets = λ q a q_in a_in uncovered touches. refl;
  brings = λ a a_in.
      let has = opening-at b a a_in in
      let same = sum-same (length files) (λ (k : ℕ). get_or (opening_state b).balances a 0) (λ (k : ℕ). opening_of b a) (λ k k_in. has) in
      omega arith;
}

-- the part has made one more call of the process
abbrev advanced : ℕ → ℕ → Call → (ℕ → StageTerms) → ℕ → StageTerms
advanced k p c u j = if j == k then stage_after (u j) p c else u j

advanced-at : (k p : ℕ) (c : Call) (u : ℕ → StageTerms) (j : ℕ) → k ≡ j → advanced k p c u j ≡ stage_after (u j) p c
advanced-at k p c u j same = rw (eq-eqb j k (sym same)) refl

advanced-off : (k p : ℕ) (c : Call) (u : ℕ → StageTerms) (j : ℕ) → (k ≡ j → ⊥) → advanced k p c u j ≡ u j
advanced-off k p c u j off = rw (ne_eqb j k (λ same. off (sym same))) refl

advanced-by : (P : StageTerms → Type 0) (k p : ℕ) (c : Call) (u : ℕ → StageTerms) (j : ℕ) → (k ≡ j → P (stage_after (u j) p c)) → ((k ≡ j → ⊥) → P (u j)) → P (advanced k p c u j)
advanced-by P k p c u j on off = at_or_off k j
    (λ same. subst P (sym (advanced-at k p c u j same)) (on same))
    (λ differ. subst P (sym (advanced-off k p c u j differ)) (off differ))

-- one more call of the process is counted
made-at : (made : List ℕ) (p q : ℕ) → p ≡ q → p < length made → get_or (with_made made p) q 0 ≡ get_or made q 0 + 1
made-at made p q same within = subst (λ (n : ℕ). get_or (with_made made p) n 0 ≡ get_or made n 0 + 1) same (get_or-with_made made p within)

-- the next call of the process does the same in its part
pub record NextBoth (b : BookTerms) (p : ℕ) (c : Call) (t v : StageTerms) : Type 0 where
  pub same : AreSame b p t.ledger v.ledger (step t.ledger p c) (step v.ledger p c)
  pub replies : AreReplies c t.ledger v.ledger (step t.ledger p c).reply (step v.ledger p c).reply

-- it is the next one there
pub part-next : (b : BookTerms) (files : List (List Call)) (parts : List ℕ) (t : StageTerms) (u : ℕ → StageTerms) (p j : ℕ) (c : Call) → Splits b files parts t u → p < length files
    → get_or parts p 0 ≡ j → slice_get (get_or files p []) (get_or t.made p 0) ≡ Some c → slice_get (get_or (files_of_part files parts j) p []) (get_or (u j).made p 0) ≡ Some c
part-next b files parts t u p j c splits p_in part next =
    let count : get_or (u j).made p 0 ≡ get_or t.made p 0 = ap (λ (n : ℕ). get_or (u n).made p 0) (sym part) ∙ splits.made p p_in in
    subst (λ (calls : List Call). slice_get calls (get_or (u j).made p 0) ≡ Some c) (sym (own-file files parts j p p_in part))
    (subst (λ (n : ℕ). slice_get (get_or files p []) n ≡ Some c) (sym count) next)

pub both-next : (b : BookTerms) (files : List (List Call)) (parts : List ℕ) (t : StageTerms) (u : ℕ → StageTerms) (p : ℕ) (c : Call) → AreFiles b files → AreParts b files parts
    → Splits b files parts t u → p < length files → slice_get (get_or files p []) (get_or t.made p 0) ≡ Some c → NextBoth b p c t (u (get_or parts p 0))
both-next b files parts t u p c are parted splits p_in next = record {
  same = step-even b p c t.ledger v.ledger p_known on way.fit own.fit (splits.alike p p_in) even;
  replies = replies-even b p c t.ledger v.ledger p_known on way.fit own.fit (splits.alike p p_in) even;
}
  where
    k : ℕ
    k = get_or parts p 0

    v : StageTerms
    v = u k

    fs : List (List Call)
    fs = files_of_part files parts k

    p_known : p < b.processes
    p_known = let n = are.count in omega arith

    p_there : p < length fs
    p_there = let n = length-part files parts k in omega arith

    on : IsCallOn (length b.accounts) c
    on = call_known-at (length b.accounts) files p (get_or t.made p 0) c are.playable p_in next

    way : IsOnTheWay b files t.ledger t.made
    way = way-stage b files t are splits.is

    own : IsOnTheWay b fs v.ledger v.made
    own = way-stage b fs v (part-playable b files parts k are) (splits.each k (parted.known p p_in))

    there : slice_get (get_or fs p []) (get_or v.made p 0) ≡ Some c
    there = part-next b files parts t u p k c splits p_in refl next

    stands : Contains (get_or files p []) c
    stands =
        let within = slice_get_within (get_or files p []) (get_or t.made p 0) c next in
        (get_or t.made p 0, within, get_or_from_slice_get (get_or files p []) (get_or t.made p 0) c c next)

    even : IsEvenCall b p c t.ledger v.ledger
    even f ts pays owns =
        let f_in : f < length b.accounts = source-in (length b.accounts) c f ts pays on in
        ⊎_elim
        (λ less. inr (splits.meets p f p_in f_in (λ covered. omega arith) (record {
          call = c;
          stands = stands;
          pays = record { source = f; targets = ts; pays = pays; owns = owns; names = names-source c f ts pays };
        })))
        (λ covered. inl (
          covered-enough b files f p ts c t way p_in next pays f_in covered owns,
          covered-enough b fs f p ts c v own p_there there pays f_in (part-covers b files parts k f covered) owns,
        ))
        (cases_lt (opening_of b f) (asked_in_files b f files (length files)))

pub after-next : (b : BookTerms) (files : List (List Call)) (t : StageTerms) (p : ℕ) (c : Call) → IsStage b files t → p < length files → slice_get (get_or files p []) (get_or t.made p 0) ≡ Some c
    → IsStage b files (stage_after t p c)
after-next b files t p c is p_in next =
    let l : Line = record { process = p; number = get_or t.made p 0 + 1; call = c; reply = (step t.ledger p c).reply } in
    stage-next b files t l is (record { process = p_in; number = refl {a = get_or t.made p 0 + 1}; call = next; reply = refl {a = (step t.ledger p c).reply} })

splits-next : (b : BookTerms) (files : List (List Call)) (parts : List ℕ) (t : StageTerms) (u : ℕ → StageTerms) (p : ℕ) (c : Call) → AreFiles b files → AreParts b files parts
    → Splits b files parts t u → p < length files → slice_get (get_or files p []) (get_or t.made p 0) ≡ Some c
    → Splits b files parts (stage_after t p c) (advanced (get_or parts p 0) p c u)
splits-next b files parts t u p c are parted splits p_in next = record {
  is = after-next b files t p c splits.is p_in next;
  each = λ j j_in. advanced-by (IsStage b (files_of_part files parts j)) k p c u j
      (λ same. after-next b (files_of_part files parts j) (u j) p c (splits.each j j_in) (let n = length-part files parts j in omega arith) (part-next b files parts t u p j c splits p_in same next))
      (λ off. splits.each j j_in);
  made = λ q q_in. advanced-by (λ (x : StageTerms). get_or x.made q 0 ≡ get_or (with_made t.made p) q 0) k p c u (get_or parts q 0)
      (λ same. at_or_off p q
      (λ at.
      let x = made-at (u (get_or parts q 0)).made p q at (long (get_or parts q 0) (parted.known q q_in)) in
      let y = made-at t.made p q at (let n = splits.is.counts in omega arith) in
      let old = splits.made q q_in in
      omega arith)
      (λ off. get_or-with_made_other (u (get_or parts q 0)).made p q off ∙ (splits.made q q_in ∙ sym (get_or-with_made_other t.made p q off))))
      (λ differ. splits.made q q_in ∙ sym (get_or-with_made_other t.made p q (λ at. differ (ap (λ (n : ℕ). get_or parts n 0) at))));
  alike = λ q q_in. advanced-by (λ (x : StageTerms). AreAlike b q (step t.ledger p c).ledger x.ledger) k p c u (get_or parts q 0)
      (λ same. at_or_off p q
      (λ at. subst (λ (n : ℕ). AreAlike b n (step t.ledger p c).ledger (step (u (get_or parts n 0)).ledger p c).ledger) at both.same.alike)
      (λ off.
      let old = splits.alike q q_in in
      let there = keeps (get_or parts q 0) (parted.known q q_in) in
      record {
        sent = kept.sent q (λ e. off (sym e)) ∙ (old.sent ∙ sym (there.sent q (λ e. off (sym e))));
        asked = λ a a_in. kept.asked q a (λ e. off (sym e)) a_in ∙ (old.asked a a_in ∙ sym (there.asked q a (λ e. off (sym e)) a_in));
      }))
      (λ differ.
      let off : q ≡ p → ⊥ = λ e. differ (ap (λ (n : ℕ). get_or parts n 0) (sym e)) in
      let old = splits.alike q q_in in
      record { sent = kept.sent q off ∙ old.sent; asked = λ a a_in. kept.asked q a off a_in ∙ old.asked a a_in });
  meets = λ q a q_in a_in uncovered touches. advanced-by (λ (x : StageTerms). get_or (step t.ledger p c).ledger.balances a 0 ≡ get_or x.ledger.balances a 0) k p c u (get_or parts q 0)
      (λ same.
      let cross = crosses (get_or parts q 0) a same in
      let old = splits.meets q a q_in a_in uncovered touches in
      omega arith)
      (λ differ. ⊎_elim
      (λ still. still ∙ splits.meets q a q_in a_in uncovered touches)
      (λ pays. absurd (differ (parted.meeting p q p_in q_in
      (record { account = a; within = a_in; uncovered = uncovered; first = record { call = c; stands = stands; pays = pays }; second = touches }))))
      (step-changes b p c t.ledger a way.fit));
  brings = λ a a_in.
      let one = sum-one (length files) k (λ (j : ℕ). get_or (u j).ledger.balances a 0) (λ (j : ℕ). get_or (advanced k p c u j).ledger.balances a 0) (parted.known p p_in)
      (λ j j_in differ. ap (λ (x : StageTerms). get_or x.ledger.balances a 0) (sym (advanced-off k p c u j differ))) in
      let here : get_or (advanced k p c u k).ledger.balances a 0 ≡ get_or (step (u k).ledger p c).ledger.balances a 0 =
      ap (λ (x : StageTerms). get_or x.ledger.balances a 0) (advanced-at k p c u k refl) in
      let cross = both.same.cross a in
      let old = splits.brings a a_in in
      omega arith;
}
  where
    k : ℕ
    k = get_or parts p 0

    both : NextBoth b p c t (u k)
    both = both-next b files parts t u p c are parted splits p_in next

    on : IsCallOn (length b.accounts) c
    on = call_known-at (length b.accounts) files p (get_or t.made p 0) c are.playable p_in next

    way : IsOnTheWay b files t.ledger t.made
    way = way-stage b files t are splits.is

    kept : Keeps b p c t.ledger (step t.ledger p c)
    kept = step-keeps b p c t.ledger on way.fit

    keeps : (j : ℕ) → j < length files → Keeps b p c (u j).ledger (step (u j).ledger p c)
    keeps j j_in = step-keeps b p c (u j).ledger on (way-stage b (files_of_part files parts j) (u j) (part-playable b files parts j are) (splits.each j j_in)).fit

    long : (j : ℕ) → j < length files → p < length (u j).made
    long j j_in = let n = (splits.each j j_in).counts in let size = length-part files parts j in omega arith

    crosses : (j a : ℕ) → k ≡ j
        → get_or (step t.ledger p c).ledger.balances a 0 + get_or (u j).ledger.balances a 0 ≡ get_or t.ledger.balances a 0 + get_or (step (u j).ledger p c).ledger.balances a 0
    crosses j a same =
        subst (λ (n : ℕ). get_or (step t.ledger p c).ledger.balances a 0 + get_or (u n).ledger.balances a 0 ≡ get_or t.ledger.balances a 0 + get_or (step (u n).ledger p c).ledger.balances a 0)
        same (both.same.cross a)

    stands : Contains (get_or files p []) c
    stands =
        let within = slice_get_within (get_or files p []) (get_or t.made p 0) c next in
        (get_or t.made p 0, within, get_or_from_slice_get (get_or files p []) (get_or t.made p 0) c c next)

-- each stage is one of each part
pub record HasSplit (b : BookTerms) (files : List (List Call)) (parts : List ℕ) (t : StageTerms) : Type 0 where
  pub of : ℕ → StageTerms
  pub splits : Splits b files parts t of

split-leads : (b : BookTerms) (files : List (List Call)) (parts : List ℕ) (s : LedgerState) (made : List ℕ) (lines : List Line) (t : StageTerms) (u : ℕ → StageTerms) → AreFiles b files → AreParts b files parts
    → Splits b files parts (record { made = made; ledger = s }) u → Leads files s made lines t → HasSplit b files parts t
split-leads b files parts s made [] t u are parted splits leads =
    let end = leads-nil files s made t leads in
    record { of = u; splits = subst (λ (x : StageTerms). Splits b files parts x u) (stage-ext (record { made = made; ledger = s }) t end.1 end.0) splits }
split-leads b files parts s made (l ∷ lines) t u are parted splits leads =
    let both = leads-cons files s made l lines t leads in
    split-leads b files parts (step s l.process l.call).ledger (with_made made l.process) lines t (advanced (get_or parts l.process 0) l.process l.call u) are parted
    (splits-next b files parts (record { made = made; ledger = s }) u l.process l.call are parted splits both.0.process both.0.call) both.1

pub split : (b : BookTerms) (files : List (List Call)) (parts : List ℕ) (t : StageTerms) → AreFiles b files → AreParts b files parts → IsStage b files t → HasSplit b files parts t
split b files parts t are parted is =
    let reached = stage-reached b files t is in
    split-leads b files parts (opening_state b) (none_made files) reached.lines t (λ k. opening_stage b files) are parted (splits-first b files parts) reached.leads

-- a stage of all files, whose stage of one part is this, and those of the others are as they were
record Joins (b : BookTerms) (files : List (List Call)) (parts : List ℕ) (k : ℕ) (w : StageTerms) (u : ℕ → StageTerms) : Type 0 where
  stage : StageTerms
  of : ℕ → StageTerms
  splits : Splits b files parts stage of
  here : of k ≡ w
  others : (j : ℕ) → (k ≡ j → ⊥) → of j ≡ u j

join-leads : (b : BookTerms) (files : List (List Call)) (parts : List ℕ) (k : ℕ) (s : LedgerState) (made : List ℕ) (lines : List Line) (w t : StageTerms) (u : ℕ → StageTerms) → AreFiles b files → AreParts b files parts
    → Splits b files parts t u → u k ≡ record { made = made; ledger = s } → Leads (files_of_part files parts k) s made lines w → Joins b files parts k w u
join-leads b files parts k s made [] w t u are parted splits begun leads =
    let end = leads-nil (files_of_part files parts k) s made w leads in
    record { stage = t; of = u; splits = splits; here = begun ∙ stage-ext (record { made = made; ledger = s }) w end.1 end.0; others = λ j off. refl }
join-leads b files parts k s made (l ∷ lines) w t u are parted splits begun leads =
    let p : ℕ = l.process in
    let c : Call = l.call in
    let both = leads-cons (files_of_part files parts k) s made l lines w leads in
    let of = next-of_part files parts k s made l both.0 in
    let count : get_or made p 0 ≡ get_or t.made p 0 =
    ap (λ (x : StageTerms). get_or x.made p 0) (sym begun) ∙ (ap (λ (n : ℕ). get_or (u n).made p 0) (sym of.part) ∙ splits.made p of.process) in
    let next : slice_get (get_or files p []) (get_or t.made p 0) ≡ Some c = subst (λ (n : ℕ). slice_get (get_or files p []) n ≡ Some c) count of.call in
    let more = splits-next b files parts t u p c are parted splits of.process next in
    let after : advanced (get_or parts p 0) p c u k ≡ record { made = with_made made p; ledger = (step s p c).ledger } =
    advanced-at (get_or parts p 0) p c u k of.part ∙ ap (λ (x : StageTerms). stage_after x p c) begun in
    let rest = join-leads b files parts k (step s p c).ledger (with_made made p) lines w (stage_after t p c) (advanced (get_or parts p 0) p c u) are parted more after both.1 in
    record {
      stage = rest.stage;
      of = rest.of;
      splits = rest.splits;
      here = rest.here;
      others = λ j off. rest.others j off ∙ advanced-off (get_or parts p 0) p c u j (λ same. off (sym of.part ∙ same));
    }

-- the same stages of the parts
splits-same : (b : BookTerms) (files : List (List Call)) (parts : List ℕ) (t : StageTerms) (u v : ℕ → StageTerms) → AreParts b files parts → ((j : ℕ) → j < length files → u j ≡ v j)
    → Splits b files parts t u → Splits b files parts t v
splits-same b files parts t u v parted same splits = record {
  is = splits.is;
  each = λ k k_in. subst (IsStage b (files_of_part files parts k)) (same k k_in) (splits.each k k_in);
  made = λ q q_in. subst (λ (x : StageTerms). get_or x.made q 0 ≡ get_or t.made q 0) (same (get_or parts q 0) (parted.known q q_in)) (splits.made q q_in);
  alike = λ q q_in. subst (λ (x : StageTerms). AreAlike b q t.ledger x.ledger) (same (get_or parts q 0) (parted.known q q_in)) (splits.alike q q_in);
  meets = λ q a q_in a_in uncovered touches. subst (λ (x : StageTerms). get_or t.ledger.balances a 0 ≡ get_or x.ledger.balances a 0) (same (get_or parts q 0) (parted.known q q_in))
      (splits.meets q a q_in a_in uncovered touches);
  brings = λ a a_in.
      let sums = sum-same (length files) (λ (k : ℕ). get_or (u k).ledger.balances a 0) (λ (k : ℕ). get_or (v k).ledger.balances a 0)
      (λ k k_in. ap (λ (x : StageTerms). get_or x.ledger.balances a 0) (same k k_in)) in
      let old = splits.brings a a_in in
      omega arith;
}

-- the stages of the first parts, joined
record JoinedTo (b : BookTerms) (files : List (List Call)) (parts : List ℕ) (u : ℕ → StageTerms) (count : ℕ) : Type 0 where
  stage : StageTerms
  of : ℕ → StageTerms
  splits : Splits b files parts stage of
  first : (j : ℕ) → j < count → of j ≡ u j
  others : (j : ℕ) → count ≤ j → of j ≡ opening_stage b files

joined-to : (b : BookTerms) (files : List (List Call)) (parts : List ℕ) (u : ℕ → StageTerms) (count : ℕ) → AreFiles b files → AreParts b files parts → count ≤ length files
    → ((k : ℕ) → k < length files → IsStage b (files_of_part files parts k) (u k)) → JoinedTo b files parts u count
joined-to b files parts u zero are parted within stages = record {
  stage = opening_stage b files;
  of = λ k. opening_stage b files;
  splits = splits-first b files parts;
  first = λ j less. absurd (omega arith);
  others = λ j more. refl;
}
joined-to b files parts u (suc k) are parted within stages =
    let before = joined-to b files parts u k are parted (omega arith) stages in
    let fs : List (List Call) = files_of_part files parts k in
    let reached = stage-reached b fs (u k) (stages k (omega arith)) in
    let leads : Leads fs (opening_state b) (none_made files) reached.lines (u k) = subst (λ (m : List ℕ). Leads fs (opening_state b) m reached.lines (u k)) (none-part files parts k) reached.leads in
    let joins = join-leads b files parts k (opening_state b) (none_made files) reached.lines (u k) before.stage before.of are parted before.splits (before.others k (omega arith)) leads in
    record {
      stage = joins.stage;
      of = joins.of;
      splits = joins.splits;
      first = λ j less. at_or_off k j
          (λ same. subst (λ (n : ℕ). joins.of n ≡ u n) same joins.here)
          (λ off. joins.others j off ∙ before.first j (omega (arith, off)));
      others = λ j more. joins.others j (λ same. omega arith) ∙ before.others j (omega arith);
    }

-- stages of all parts are those of one of all files
pub record IsJoined (b : BookTerms) (files : List (List Call)) (parts : List ℕ) (u : ℕ → StageTerms) : Type 0 where
  pub stage : StageTerms
  pub splits : Splits b files parts stage u

pub joined : (b : BookTerms) (files : List (List Call)) (parts : List ℕ) (u : ℕ → StageTerms) → AreFiles b files → AreParts b files parts
    → ((k : ℕ) → k < length files → IsStage b (files_of_part files parts k) (u k)) → IsJoined b files parts u
joined b files parts u are parted stages =
    let all = joined-to b files parts u (length files) are parted (omega arith) stages in
    record { stage = all.stage; splits = splits-same b files parts all.stage all.of u parted all.first all.splits }
