-- The callers of a run, as they are begun, as one of them turns, and as they are split at the end.
use Rattle.std.proofs.Common.{◌≡◌, ℕ, ◌+◌, ◌^◌, ◌<◌, ◌≤◌, suc, List, [], ◌∷◌, ◌++◌, drop, length, get_or, map, set, slice_index, take, Vec, refl, sym, ap, subst, ◌∙◌, arith, inl, inr, length-set}
use Rattle.at_stepper.proofs.Prelude.{cases_eq, cases_lt, drop_more, get_or-map, get_or-set_other, get_or-set_same, get_or_append_left, get_or_past, get_or_push, length-drop, length-map, length_push, map-append, map-set, set-get_or, take_all, take_more, All-map, All-push, sum_by-set, Global, Call, IsPrefix-refl, IsPrefix, count_of, Publication, BoardTerms, IsOf, SeatTerms, calls_of, contents_of, Receipt, AreAccountedFor, IsAccountedFor, HasMemoryFor, AreNewPasses, IsNewPass, PassTerms, Stands, CallerTerms, IsFile, IsNewCaller, IsTurned, answers_in, caller_turns_left, calls_left_of, AreCallersOn, AreSplit, AreStartsFor, HasAnsweredAll, IsCallerOn, IsAllPublished, passes_in, AreBegunCallers, ChangesOne, IsBegunCaller, PublishesAtMostOne, SeesPublished, TurnsOne, Start, Turned}
use Rattle.std.specs.Prelude.{All}
use Rattle.at_stepper.proofs.TurnCounts.{some_of}

-- what holds of each at its place, with one more
pub each_push : {X : Type 0} (holds : ℕ → X → Type 0) (xs : List X) (x : X) → ((p : ℕ) (d : X) → p < length xs → holds p (get_or xs p d))
    → holds (length xs) x → (p : ℕ) (d : X) → p < length (xs ++ x ∷ []) → holds p (get_or (xs ++ x ∷ []) p d)
each_push holds xs x each last p d within =
    elim (cases_eq p (length xs)) as (λ _. holds p (get_or (xs ++ x ∷ []) p d)) [
      | inl here ↦ subst (λ q. holds q (get_or (xs ++ x ∷ []) q d)) (sym here)
          (subst (holds (length xs)) (sym (get_or_push xs x d (length xs) refl)) last)
      | inr other ↦
          let before : p < length xs = omega (arith, within, length_push xs x, other) in
          subst (holds p) (sym (get_or_append_left xs (x ∷ []) d p before)) (each p d before)
    ]

-- the element that comes next, and what is left then
pub known_next : {X : Type 0} (xs : List X) (n : ℕ) (x : X) (rest : List X) → drop n xs ≡ x ∷ rest → n < length xs
known_next xs n x rest is = omega (arith, length-drop n xs, ap (λ ys. length ys) is)

pub get_or_next : {X : Type 0} (xs : List X) (n : ℕ) (x : X) (rest : List X) (d : X) → drop n xs ≡ x ∷ rest → get_or xs n d ≡ x
get_or_next xs n x rest d is =
    ap (λ ys. get_or ys 0 d) (sym (drop_more xs n d (known_next xs n x rest is)) ∙ is)

pub rest_next : {X : Type 0} (xs : List X) (n : ℕ) (x : X) (rest : List X) → drop n xs ≡ x ∷ rest → rest ≡ drop (n + 1) xs
rest_next xs n x rest is =
    sym (ap (λ ys. drop 1 ys) (sym (drop_more xs n x (known_next xs n x rest is)) ∙ is))

-- the start and the file that come next
module _ (ledger : BoardTerms) (starts : List Start) (files : List (Vec Call Global)) (n : ℕ) (start : Start) (others : List Start)
    (file : Vec Call Global) (left : List (Vec Call Global)) (start_is : drop n starts ≡ start ∷ others) (file_is : drop n files ≡ file ∷ left) where
  pub IsNewPass-next : AreNewPasses ledger (passes_in starts) → IsNewPass ledger n start.pass
  IsNewPass-next new =
      let within : n < length starts = known_next starts n start others start_is in
      subst (IsNewPass ledger n)
      (get_or-map (λ (s : Start). s.pass) starts n start start.pass within
      ∙ ap (λ (s : Start). s.pass) (get_or_next starts n start others start start_is))
      (new.each n start.pass (omega (arith, within, new.count, length-map starts (λ (s : Start). s.pass))))

  pub file_next : (d : List Call) → get_or (contents_of files) n d ≡ file.items
  file_next d =
      get_or-map (λ (f : Vec Call Global). f.items) files n file d (known_next files n file left file_is)
      ∙ ap (λ (f : Vec Call Global). f.items) (get_or_next files n file left file file_is)

  known_file : n < length (contents_of files)
  known_file = omega (arith, known_next files n file left file_is, length-map files (λ (f : Vec Call Global). f.items))

  pub IsFile-next : (accounts : ℕ) → All (IsFile accounts) (contents_of files) → IsFile accounts file.items
  IsFile-next accounts known = subst (IsFile accounts) (file_next []) (known n [] known_file)

  pub HasRoom-next : AreStartsFor (contents_of files) starts → HasMemoryFor start.receipts (length file.items)
  HasRoom-next rooms =
      subst (λ (calls : List Call). HasMemoryFor start.receipts (length calls)) (file_next [])
      (subst (λ (s : Start). HasMemoryFor s.receipts (length (get_or (contents_of files) n []))) (get_or_next starts n start others start start_is)
      (rooms.room n [] start known_file))

  -- and the callers with that of this start and file
  module _ (callers : List CallerTerms) (caller : CallerTerms) (count : length callers ≡ n) (is_new : IsNewCaller start.pass file.items caller) where
    pub made-next : AreNewPasses ledger (passes_in starts)
        → ((p : ℕ) (f : List Call) (d : CallerTerms) → p < length callers → IsBegunCaller ledger p (get_or (contents_of files) p f) (get_or callers p d))
        → (p : ℕ) (f : List Call) (d : CallerTerms) → p < length (callers ++ caller ∷ [])
        → IsBegunCaller ledger p (get_or (contents_of files) p f) (get_or (callers ++ caller ∷ []) p d)
    made-next new made p f d within =
        let last : IsBegunCaller ledger n file.items caller = record {
          pass = subst (IsNewPass ledger n) (sym is_new.pass_is) (IsNewPass-next new);
          is_new = subst (λ (pass : PassTerms). IsNewCaller pass file.items caller) (sym is_new.pass_is) is_new;
        } in
        each_push (λ q c. IsBegunCaller ledger q (get_or (contents_of files) q f) c) callers caller (λ q e inside. made q f e inside)
        (subst (λ q. IsBegunCaller ledger q (get_or (contents_of files) q f) caller) (sym count)
        (subst (λ (calls : List Call). IsBegunCaller ledger n calls caller) (sym (file_next f)) last)) p d within

    pub calls-next : map (λ (c : CallerTerms). c.calls) callers ≡ take (length callers) (contents_of files)
        → map (λ (c : CallerTerms). c.calls) (callers ++ caller ∷ []) ≡ take (length (callers ++ caller ∷ [])) (contents_of files)
    calls-next were =
        map-append (λ (c : CallerTerms). c.calls) callers (caller ∷ [])
        ∙ (ap (λ (cs : List (List Call)). cs ++ caller.calls ∷ []) (were ∙ ap (λ k. take k (contents_of files)) count)
        ∙ (ap (λ (calls : List Call). take n (contents_of files) ++ calls ∷ []) (is_new.calls_are ∙ sym (file_next []))
        ∙ (sym (take_more (contents_of files) n [] known_file)
        ∙ ap (λ k. take k (contents_of files)) (ap (λ k. k + 1) (sym count) ∙ sym (length_push callers caller)))))

-- the callers of all files
pub AreBegunCallers-all : (ledger : BoardTerms) (files : List (List Call)) (callers : List CallerTerms) → length files ≤ length callers
    → map (λ (c : CallerTerms). c.calls) callers ≡ take (length callers) files
    → ((p : ℕ) (f : List Call) (d : CallerTerms) → p < length callers → IsBegunCaller ledger p (get_or files p f) (get_or callers p d))
    → AreBegunCallers ledger files callers
AreBegunCallers-all ledger files callers all calls made =
    let whole : map (λ (c : CallerTerms). c.calls) callers ≡ files = calls ∙ take_all (length callers) files all in
    let count : length callers ≡ length files =
    sym (length-map callers (λ (c : CallerTerms). c.calls)) ∙ ap (λ (fs : List (List Call)). length fs) whole in record {
      count = count;
      calls = whole;
      each = λ p f d within. made p f d (omega (arith, within, count));
    }

-- room for a receipt of each call of a file that was read
pub room_of_file : (files : List (Vec Call Global)) (n m calls : ℕ) (file : Vec Call Global) (capacity : ℕ) → n < length files → m ≡ n
    → file ≡ get_or files m file → calls ≡ file.len → calls ≤ capacity → length (get_or (contents_of files) n []) ≤ capacity
room_of_file files n m calls file capacity within same read count fits =
    let is : get_or (contents_of files) n [] ≡ file.items =
    get_or-map (λ (f : Vec Call Global). f.items) files n file [] within
    ∙ ap (λ (f : Vec Call Global). f.items) (ap (λ k. get_or files k file) (sym same) ∙ sym read) in
    omega (arith, ap (λ (calls : List Call). length calls) is, file.ok.0, count, fits)

-- a process that has calls left has a caller
pub known-calls_left : (callers : List CallerTerms) (p : ℕ) → 0 < slice_index (map calls_left_of callers) p → p < length callers
known-calls_left callers p left =
    elim (cases_lt p (length callers)) as (λ _. p < length callers) [
      | inl within ↦ within
      | inr past ↦ absurd (omega (arith, left, get_or_past (map calls_left_of callers) p 0 (omega (arith, past, length-map callers calls_left_of))))
    ]

-- the calls that a caller has left
pub calls_left-at : (callers : List CallerTerms) (p : ℕ) (d : CallerTerms) → p < length callers
    → slice_index (map calls_left_of callers) p ≡ calls_left_of (get_or callers p d)
calls_left-at callers p d within = get_or-map calls_left_of callers p d 0 within

-- one of the callers has turned
module _ (ledger : BoardTerms) (callers : List CallerTerms) (process : ℕ) (after : CallerTerms) (within : process < length callers) where
  pub AreCallersOn-set : AreCallersOn ledger callers → IsCallerOn ledger process after → AreCallersOn ledger (set callers process after)
  AreCallersOn-set were is = record {
    count = length-set callers process after ∙ were.count;
    each = λ p d inside.
        elim (cases_eq p process) as (λ _. IsCallerOn ledger p (get_or (set callers process after) p d)) [
          | inl here ↦ subst (λ q. IsCallerOn ledger q (get_or (set callers process after) q d)) (sym here)
              (subst (IsCallerOn ledger process) (sym (get_or-set_same callers process after d within)) is)
          | inr other ↦ subst (IsCallerOn ledger p) (sym (get_or-set_other callers process p after d other))
              (were.each p d (omega (arith, inside, length-set callers process after)))
        ];
  }

  pub ChangesOne-set : (changes : CallerTerms → CallerTerms → Type 0) → ((d : CallerTerms) → changes (get_or callers process d) after)
      → ChangesOne changes process callers (set callers process after)
  ChangesOne-set changes changed = record {
    count = length-set callers process after;
    here = λ d. subst (changes (get_or callers process d)) (sym (get_or-set_same callers process after d within)) (changed d);
    others = λ q d apart. get_or-set_other callers process q after d apart;
  }

  calls-set : after.calls ≡ (get_or callers process after).calls
      → map (λ (c : CallerTerms). c.calls) (set callers process after) ≡ map (λ (c : CallerTerms). c.calls) callers
  calls-set same =
      map-set (λ (c : CallerTerms). c.calls) callers process after
      ∙ (ap (λ (file : List Call). set (map (λ (c : CallerTerms). c.calls) callers) process file)
      (same ∙ sym (get_or-map (λ (c : CallerTerms). c.calls) callers process after [] within))
      ∙ set-get_or (map (λ (c : CallerTerms). c.calls) callers) process [])

  pub TurnsOne-set : (turned : Turned) (published more : List Publication)
      → ((d : CallerTerms) → IsTurned ledger.book published turned (get_or callers process d) after)
      → PublishesAtMostOne process published more
      → ((d now : CallerTerms) (one : IsTurned ledger.book published turned (get_or callers process d) now) → now ≡ after
      → SeesPublished process published more now one.stage)
      → TurnsOne process turned (record { ledger = ledger; callers = callers; published = published })
      (record { ledger = ledger; callers = set callers process after; published = more })
  TurnsOne-set turned published more changed publishes sees =
      let one = changed after in
      let inside : process < length (set callers process after) = omega (arith, within, length-set callers process after) in
      let changes = ChangesOne-set (IsTurned ledger.book published turned) changed in record {
        ledger = refl;
        changes = changes;
        publishes = publishes;
        sees = λ d. sees d (get_or (set callers process after) process d) (changes.here d) (get_or-set_same callers process after d within);
        files = calls-set one.calls;
        left =
            calls_left-at callers process after within
            ∙ (one.left
            ∙ ap (λ n. n + answers_in turned)
            (sym (calls_left-at (set callers process after) process after inside ∙ ap calls_left_of (get_or-set_same callers process after after within))));
        others_left = λ q apart.
            ap (λ ns. slice_index ns q) (map-set calls_left_of callers process after)
            ∙ get_or-set_other (map calls_left_of callers) process q (calls_left_of after) 0 apart;
        turns_left = omega (arith, one.turns_left, sum_by-set (caller_turns_left ledger.book) callers process after after within);
      }

-- callers that are begun are those of the ledger
pub AreCallersOn-begun : (ledger : BoardTerms) (files : List (List Call)) (callers : List CallerTerms) → AreBegunCallers ledger files callers
    → length files ≡ ledger.book.processes → AreCallersOn ledger callers
AreCallersOn-begun ledger files callers begun count = record {
  count = begun.count ∙ count;
  each = λ p d within.
      let one = begun.each p [] d (omega (arith, within, begun.count)) in record {
        seat = subst (λ (s : SeatTerms). IsOf s ledger) (sym one.is_new.seat_is) one.pass.of_ledger;
        pass = one.pass.of_ledger;
        process_is = one.pass.process_is;
        seat_process = ap (λ (s : SeatTerms). s.knows.first) one.is_new.seat_is ∙ one.pass.process_is;
        stands = subst (λ (rs : List Receipt). Stands (get_or callers p d).pass rs) (sym one.is_new.unmade) one.pass.stands;
        between = λ none. sym one.is_new.seat_is;
      };
}

-- the first of them is, and has seen nothing
pub IsOf-begun : (ledger : BoardTerms) (files : List (List Call)) (callers : List CallerTerms) (d : CallerTerms) → AreBegunCallers ledger files callers
    → 0 < length files → IsOf (get_or callers 0 d).seat ledger
IsOf-begun ledger files callers d begun some =
    let one = begun.each 0 [] d some in
    subst (λ (s : SeatTerms). IsOf s ledger) (sym one.is_new.seat_is) one.pass.of_ledger

pub seen-begun : (ledger : BoardTerms) (files : List (List Call)) (callers : List CallerTerms) (d : CallerTerms) → AreBegunCallers ledger files callers
    → 0 < length files → (get_or callers 0 d).seat.knows.seen ≡ []
seen-begun ledger files callers d begun some =
    let one = begun.each 0 [] d some in
    ap (λ (s : SeatTerms). s.knows.seen) one.is_new.seat_is ∙ one.pass.seen

-- and nothing is published yet
pub IsAllPublished-begun : (ledger : BoardTerms) (files : List (List Call)) (callers : List CallerTerms) → AreBegunCallers ledger files callers
    → IsAllPublished ledger.book callers []
IsAllPublished-begun ledger files callers begun =
    let none : (p : ℕ) (d : CallerTerms) → p < length callers → (get_or callers p d).seat.knows.seen ≡ [] =
    λ p d within.
    let one = begun.each p [] d (omega (arith, within, begun.count)) in
    ap (λ (s : SeatTerms). s.knows.seen) one.is_new.seat_is ∙ one.pass.seen in
    record {
      seen = λ p d within. subst (λ (xs : List Publication). IsPrefix xs []) (sym (none p d within)) (IsPrefix-refl []);
      own = λ p d within. ap (count_of p) (sym (none p d within));
      known = λ k d within. absurd (omega (arith, within));
    }

-- one more caller is split
pub AreSplit-push : (callers : List CallerTerms) (passes : List PassTerms) (receipts : List (List Receipt)) (caller : CallerTerms)
    → AreSplit callers passes receipts → HasAnsweredAll caller
    → AreSplit (callers ++ caller ∷ []) (passes ++ caller.pass ∷ []) (receipts ++ caller.receipts ∷ [])
AreSplit-push callers passes receipts caller were is = record {
  passes_are =
      ap (λ (ps : List PassTerms). ps ++ caller.pass ∷ []) were.passes_are
      ∙ sym (map-append (λ (c : CallerTerms). c.pass) callers (caller ∷ []));
  receipts_are =
      ap (λ (rs : List (List Receipt)). rs ++ caller.receipts ∷ []) were.receipts_are
      ∙ sym (map-append (λ (c : CallerTerms). c.receipts) callers (caller ∷ []));
  all = All-push HasAnsweredAll callers caller were.all is;
}

-- the receipts of callers that have answered all their calls are of these
pub calls_of-answered : (callers : List CallerTerms) → All HasAnsweredAll callers
    → map calls_of (map (λ (c : CallerTerms). c.receipts) callers) ≡ map (λ (c : CallerTerms). c.calls) callers
calls_of-answered [] all = refl
calls_of-answered (c ∷ cs) all =
    (λ t. (all 0 c (omega arith)).made t ∷ map calls_of (map (λ (x : CallerTerms). x.receipts) cs))
    ∙ ap (λ (files : List (List Call)). c.calls ∷ files) (calls_of-answered cs (λ i d within. all (suc i) d (omega (arith, within))))

pub few-answered : (callers : List CallerTerms) → All HasAnsweredAll callers
    → All (λ (rs : List Receipt). length rs < 2 ^ 32) (map (λ (c : CallerTerms). c.receipts) callers)
few-answered callers all =
    All-map (λ (rs : List Receipt). length rs < 2 ^ 32) (λ (c : CallerTerms). c.receipts) callers (λ i d within. (all i d within).few)

-- the passes and receipts of all callers are those of all processes
pub AreAccountedFor-split : (ledger : BoardTerms) (callers : List CallerTerms) (passes : List PassTerms) (receipts : List (List Receipt))
    → AreCallersOn ledger callers → AreSplit callers passes receipts → AreAccountedFor ledger passes receipts
AreAccountedFor-split ledger callers passes receipts on split = record {
  passes_count = ap (λ (ps : List PassTerms). length ps) split.passes_are ∙ (length-map callers (λ (c : CallerTerms). c.pass) ∙ on.count);
  receipts_count =
      ap (λ (rs : List (List Receipt)). length rs) split.receipts_are ∙ (length-map callers (λ (c : CallerTerms). c.receipts) ∙ on.count);
  each = λ p d below.
      let within : p < length callers = omega (arith, below, on.count) in
      let some = some_of callers p within in
      let caller : CallerTerms = get_or callers p some in
      let one = split.all p some within in
      let is = on.each p some within in
      let pass_is : get_or passes p d ≡ caller.pass =
      ap (λ (ps : List PassTerms). get_or ps p d) split.passes_are ∙ get_or-map (λ (c : CallerTerms). c.pass) callers p some d within in
      let receipts_are : get_or receipts p [] ≡ caller.receipts =
      ap (λ (rs : List (List Receipt)). get_or rs p []) split.receipts_are ∙ get_or-map (λ (c : CallerTerms). c.receipts) callers p some [] within in
      subst (λ (pass : PassTerms). IsAccountedFor ledger p pass (get_or receipts p [])) (sym pass_is)
      (subst (λ (rs : List Receipt). IsAccountedFor ledger p caller.pass rs) (sym receipts_are)
      (record { of_ledger = is.pass; process_is = is.process_is; stands = one.stands; made = one.past }));
}
