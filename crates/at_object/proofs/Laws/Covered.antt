-- What a list moves is covered where it stands, as the run of its prefixes shows.
use Rattle.std.proofs.Common.{◌≡◌, ℕ, ◌+◌, ◌<◌, ◌≤◌, ◌==◌, Bool, true, false, cond, not, List, [], ◌∷◌, ◌++◌, length, get_or, take, replicate, refl, sym, ap, subst, ◌∙◌, arith, inl, inr}
use Rattle.at_object.proofs.Prelude.{and_from, cases_lt, eq-eqb, le-ltb, lt-ltb, get_or-replicate, get_or_at, length-replicate, length_push, append-nil, filter_map-append, filter_map, list_any, Decision, replies-push, BookTerms, is_owner, TargetPair, amount_of, run, LedgerState, Step, after_done, after_short, balance_of, is_full, opening_state, pay, step, Call, Pay, Done, Short, NotOwner, Full, take-publication_at, IsInitial, firsts-new, repeats-own, repeats-round, first-below, get_or-publications_of, IsNextAtMost-IsHistory, IsInitial-IsNextAtMost, balance_after, publication_at, is_round, is_same_round, AgreeOnRound, IsHistory, AreRuns, decided_owner, move_of, moves, count_of, no_publication, publications_of, firsts, repeats, rounds, Own, Round, Publication, is_round-true, own_position-at, round_position-at, own_position, round_position}
use Rattle.std.specs.Prelude.{None, Some, Option}

-- a payment that isn't covered isn't done
short_reply : (owner full : Bool) (refused filled short done : Step) → refused.reply ≡ NotOwner → filled.reply ≡ Full → short.reply ≡ Short
    → (cond (not owner) refused (cond full filled (cond true short done))).reply ≡ Done → ⊥
short_reply true true refused filled short done first second third is = let both : Full ≡ Done = sym second ∙ is in absurd (cc both)
short_reply true false refused filled short done first second third is = let both : Short ≡ Done = sym third ∙ is in absurd (cc both)
short_reply false full refused filled short done first second third is = let both : NotOwner ≡ Done = sym first ∙ is in absurd (cc both)

-- so what is done was covered
pub amount-done : (s : LedgerState) (process source : ℕ) (targets : List TargetPair) → (pay s process source targets).reply ≡ Done
    → amount_of targets ≤ balance_of s source
amount-done s process source targets is =
    let refused : Step = record { ledger = s; reply = NotOwner } in
    let filled : Step = record { ledger = s; reply = Full } in
    let short : Step = record { ledger = after_short s process source; reply = Short } in
    let done : Step = record { ledger = after_done s process source targets; reply = Done } in
    elim (cases_lt (balance_of s source) (amount_of targets)) as (λ _. amount_of targets ≤ balance_of s source) [
      | inl less ↦
          let test = lt-ltb (balance_of s source) (amount_of targets) less in
          let owner = is_owner s.book process source in
          absurd (short_reply owner (is_full s process source) refused filled short done refl refl refl
          (ap (λ (t : Bool). (cond (not owner) refused (cond (is_full s process source) filled (cond t short done))).reply) (sym test) ∙ is))
      | inr enough ↦ enough
    ]

filter_map-some : {X Y : Type 0} (f : X → Option Y) (x : X) (y : Y) → f x ≡ Some y → filter_map f (x ∷ []) ≡ y ∷ []
filter_map-some {X} {Y} f x y is = ap (λ (o : Option Y). filter_map (λ (_ : X). o) (x ∷ [])) is

filter_map-none : {X Y : Type 0} (f : X → Option Y) (x : X) → f x ≡ None → filter_map f (x ∷ []) ≡ []
filter_map-none {X} {Y} f x is = ap (λ (o : Option Y). filter_map (λ (_ : X). o) (x ∷ [])) is

-- the moves of a list with one more publication, which repeats none and moves this
pub moves-push : (b : BookTerms) (xs : List Publication) (x : Publication) (call : ℕ × Call) → repeats x (firsts xs) ≡ false
    → move_of b x.process x.entry ≡ Some call → moves b (xs ++ x ∷ []) ≡ moves b xs ++ call ∷ []
moves-push b xs x call new moved =
    let f : Publication → Option (ℕ × Call) = λ y. move_of b y.process y.entry in
    ap (filter_map f) (firsts-new xs x new)
    ∙ (filter_map-append f (firsts xs) (x ∷ []) ∙ ap (λ ys. moves b xs ++ ys) (filter_map-some f x call moved))

-- or moves nothing
pub moves-still : (b : BookTerms) (xs : List Publication) (x : Publication) → repeats x (firsts xs) ≡ false
    → move_of b x.process x.entry ≡ None → moves b (xs ++ x ∷ []) ≡ moves b xs
moves-still b xs x new none =
    let f : Publication → Option (ℕ × Call) = λ y. move_of b y.process y.entry in
    ap (filter_map f) (firsts-new xs x new)
    ∙ (filter_map-append f (firsts xs) (x ∷ []) ∙ (ap (λ ys. moves b xs ++ ys) (filter_map-none f x none) ∙ append-nil (moves b xs)))

-- a move that repeats none is covered by the prefix before it
pub covered-AreRuns : (b : BookTerms) (list : List Publication) (m p source : ℕ) (targets : List TargetPair) → AreRuns b list → m < length list
    → source < length b.accounts → repeats (publication_at list m) (firsts (take m list)) ≡ false
    → move_of b (publication_at list m).process (publication_at list m).entry ≡ Some (p, Pay source targets)
    → amount_of targets ≤ balance_after b (take m list) source
covered-AreRuns b list m p source targets runs within known new moved =
    let xs : List Publication = take m list in
    let calls = moves b xs in
    let call : ℕ × Call = (p, Pay source targets) in
    let before = runs m (omega (arith, within)) in
    let after = runs (m + 1) (omega (arith, within)) in
    let more : moves b (take (m + 1) list) ≡ calls ++ call ∷ [] =
    ap (moves b) (take-publication_at list m within) ∙ moves-push b xs (publication_at list m) call new moved in
    let last = (step (run b calls).last p (Pay source targets)).reply in
    let replies : (run b calls).replies ++ last ∷ [] ≡ replicate (length (calls ++ call ∷ [])) Done =
    sym (replies-push (opening_state b) calls call) ∙ subst (λ cs. (run b cs).replies ≡ replicate (length cs) Done) more after.done in
    let sized : length (run b calls).replies ≡ length calls = ap length before.done ∙ length-replicate (length calls) Done in
    let done : last ≡ Done =
    sym (get_or_at (run b calls).replies last [] Short (length calls) sized)
    ∙ (ap (λ rs. get_or rs (length calls) Short) replies
    ∙ get_or-replicate (length (calls ++ call ∷ [])) (length calls) Done Short (omega (arith, length_push calls call))) in
    omega (arith, amount-done (run b calls).last p source targets done, before.balances source known)

-- the own record of a number is covered where it stands
pub covered-own : (b : BookTerms) (list : List Publication) (p number source : ℕ) (targets : List TargetPair) → AreRuns b list
    → number < count_of p list → source < length b.accounts
    → (publication_at (publications_of p list) number).entry ≡ Own source targets
    → amount_of targets ≤ balance_after b (take (own_position p number list) list) source
covered-own b list p number source targets runs within known entry =
    let at = own_position-at p number list within in
    let m = own_position p number list in
    let x : Publication = publication_at list m in
    let is : x.entry ≡ Own source targets =
    ap (λ (y : Publication). y.entry)
    (sym (ap (publication_at (publications_of p list)) (sym at.before) ∙ get_or-publications_of p m list no_publication at.within at.own))
    ∙ entry in
    covered-AreRuns b list m x.process source targets runs at.within known
    (ap (λ e. list_any (λ (y : Publication). is_same_round e y.entry) (firsts (take m list))) is
    ∙ repeats-own x.process x.view source targets (firsts (take m list)))
    (ap (move_of b x.process) is)

-- records of one round say the same
agreed-round : (b : BookTerms) (list : List Publication) (k m source round : ℕ) (d : Decision) (targets : List TargetPair) → IsHistory b list
    → k < length list → m < length list → (publication_at list k).entry ≡ Round source round d targets
    → is_round source round (publication_at list m).entry ≡ true → (publication_at list m).entry ≡ Round source round d targets
agreed-round b list k m source round d targets history one other entry here =
    let found = is_round-true source round (publication_at list m).entry here in
    let same = subst (λ e. AgreeOnRound (publication_at list m).entry e) entry (history.agree m k other one) in
    let both = subst (λ e. AgreeOnRound e (Round source round d targets)) found.2 same refl refl in
    found.2 ∙ (λ i. Round source round (both.0 i) (both.1 i))

-- the first record of a round that moves is covered where it stands
pub covered-round : (b : BookTerms) (list : List Publication) (k source round : ℕ) (d : Decision) (targets : List TargetPair) → IsHistory b list
    → k < length list → source < length b.accounts → (publication_at list k).entry ≡ Round source round d targets → d.ok ≡ true
    → amount_of targets ≤ balance_after b (take (round_position source round list) list) source
covered-round b list k source round d targets history within known entry ok =
    let here : is_round source round (publication_at list k).entry ≡ true =
    ap (is_round source round) entry ∙ and_from (source == source) (round == round) (eq-eqb source source refl) (eq-eqb round round refl) in
    let at = round_position-at source round list k within here in
    let m = round_position source round list in
    let x : Publication = publication_at list m in
    let same = agreed-round b list k m source round d targets history within at.within entry at.here in
    let initial : IsInitial source (take m list) =
    IsInitial-IsNextAtMost list m (λ j inside. IsNextAtMost-IsHistory b list j history inside) (omega (arith, at.within)) source in
    let few : rounds source (take m list) ≤ round =
    elim (cases_lt round (rounds source (take m list))) as (λ _. rounds source (take m list) ≤ round) [
      | inl below ↦
          let first = first-below b list m source round history (omega (arith, at.within)) below in
          let both : true ≡ false =
          sym (ap (is_round source round) first.2.entry ∙ and_from (source == source) (round == round) (eq-eqb source source refl) (eq-eqb round round refl))
          ∙ at.first first.0 first.1 in
          absurd (cc both)
      | inr few ↦ few
    ] in
    let new : repeats x (firsts (take m list)) ≡ false =
    ap (λ e. list_any (λ (y : Publication). is_same_round e y.entry) (firsts (take m list))) same
    ∙ (repeats-round x.process x.view source round d targets (take m list) initial ∙ le-ltb round (rounds source (take m list)) few) in
    covered-AreRuns b list m (decided_owner b source d) source targets history.runs at.within known new
    (ap (move_of b x.process) same ∙ ap (λ t. cond t (Some (decided_owner b source d, Pay source targets)) None) ok)
