-- Every prefix of a list with such laws is a run of the ledger.
use Rattle.std.proofs.Common.{◌≡◌, ℕ, ◌+◌, ◌<◌, ◌≤◌, ◌==◌, ◌&&◌, ◌||◌, zero, suc, Bool, true, false, cond, List, [], ◌∷◌, ◌++◌, length, get_or, set, take, replicate, Option, Some, None, refl, sym, ap, subst, ◌∙◌, arith, inl, inr}
use Rattle.at_history.proofs.Prelude.{and_left, and_right, cases_Bool, eq-eqb, false_from_ne_true, ltb-false, ne_eqb, append-nil, length_push, replicate_more, All-get_or, filter_map-append, count_by_more_yes, get_or-le-sum_by, sum_by-take-le, cons_option, filter_map, is_some, Decision, book-run_from, last-push, replies-push, slot_in-owner, is_shared, is_single, no_account, slots_of, BookTerms, IsAccount, IsBegun, account_of, is_owner, HasSlot, AreTargetsOn, TargetPair, amount_of, run, run_from, LedgerState, Step, asked_position, is_full, opening_state, pay, step, Call, Pay, Done, IsCovered, amount_for, credit_of, debit_of, BoardState, publication_at, is_own, names, prefix_of, AreRuns, IsRun, decided_owner, move_of, moves, no_publication, firsts, owns_of, repeats, rounds, IsSoundEntry, Entry, Own, Round, Publication}
use Rattle.at_history.proofs.Laws.Covers.{CoversEntry, CoversEntry-HasRuns, single_or_shared}
use Rattle.at_history.proofs.Laws.RoundsDecided.{AreDecided, AreDecided-take, IsInitial-take, IsNextAtMost-HasRuns, decided_for}
use Rattle.at_history.proofs.Laws.Balances.{Follows, Follows-nil, Follows-own, Follows-round, Follows-same, MovesNow, MovesSame, balances_after, ledger, owns_of-push_round}
use Rattle.at_history.proofs.Laws.Payments.{pay-done}
use Rattle.at_history.proofs.Laws.Prefixes.{take-publication_at}
use Rattle.at_history.proofs.Laws.Rounds.{IsNextAtMost, firsts-new, firsts-repeat, one_if, published, repeats-own, repeats-round, sum_by-firsts-le, sum_by-firsts_new, sum_by-firsts_repeat}
use Rattle.at_history.proofs.Laws.HasRuns.{HasRuns, IsRunDecision}

-- the moves of a list with one more publication
moves-repeat : (b : BookTerms) (xs : List Publication) (x : Publication) → repeats x (firsts xs) ≡ true → moves b (xs ++ x ∷ []) ≡ moves b xs
moves-repeat b xs x again = ap (filter_map (λ y. move_of b y.process y.entry)) (firsts-repeat xs x again)

moves-none : (b : BookTerms) (xs : List Publication) (x : Publication) → repeats x (firsts xs) ≡ false → move_of b x.process x.entry ≡ None
    → moves b (xs ++ x ∷ []) ≡ moves b xs
moves-none b xs x new none =
    let f : Publication → Option (ℕ × Call) = λ y. move_of b y.process y.entry in
    ap (filter_map f) (firsts-new xs x new) ∙ (filter_map-append f (firsts xs) (x ∷ [])
    ∙ (ap (λ o. moves b xs ++ cons_option o []) none ∙ append-nil (moves b xs)))

moves-some : (b : BookTerms) (xs : List Publication) (x : Publication) (call : ℕ × Call) → repeats x (firsts xs) ≡ false
    → move_of b x.process x.entry ≡ Some call → moves b (xs ++ x ∷ []) ≡ moves b xs ++ call ∷ []
moves-some b xs x call new some =
    let f : Publication → Option (ℕ × Call) = λ y. move_of b y.process y.entry in
    ap (filter_map f) (firsts-new xs x new) ∙ (filter_map-append f (firsts xs) (x ∷ [])
    ∙ ap (λ o. moves b xs ++ cons_option o []) some)

-- the run of a list's moves: all are done, and its last state follows the list
record RunsSo (b : BookTerms) (xs : List Publication) : Type 0 where
  done : (run b (moves b xs)).replies ≡ replicate (length (moves b xs)) Done
  follows : let st : LedgerState = (run b (moves b xs)).last in Follows b xs st.balances st.sent st.asked

-- the state of a run is one over the book
last-ledger : (b : BookTerms) (calls : List (ℕ × Call))
    → (run b calls).last ≡ ledger b (run b calls).last.balances (run b calls).last.sent (run b calls).last.asked
last-ledger b calls =
    let st : LedgerState = (run b calls).last in
    let book : st.book ≡ b = book-run_from (opening_state b) calls in
    λ t. record { book = book t; balances = st.balances; sent = st.sent; asked = st.asked }

RunsSo-nil : (b : BookTerms) → RunsSo b []
unfolding firsts run_from
RunsSo-nil b = record { done = refl; follows = Follows-nil b }

-- the same moves of a list that moved the same
RunsSo-same : (b : BookTerms) (xs ys : List Publication) → moves b ys ≡ moves b xs → MovesSame b xs ys → RunsSo b xs → RunsSo b ys
RunsSo-same b xs ys same moved so = record {
  done = subst (λ calls. (run b calls).replies ≡ replicate (length calls) Done) (sym same) so.done;
  follows = subst (λ calls. let st : LedgerState = (run b calls).last in Follows b ys st.balances st.sent st.asked) (sym same)
      (Follows-same b xs ys (run b (moves b xs)).last.balances (run b (moves b xs)).last.sent (run b (moves b xs)).last.asked moved so.follows);
}

-- one more move that is done
RunsSo-push : (b : BookTerms) (xs ys : List Publication) (q source : ℕ) (targets : List TargetPair) (sent asked : List ℕ)
    → RunsSo b xs → moves b ys ≡ moves b xs ++ (q, Pay source targets) ∷ []
    → (let st : LedgerState = (run b (moves b xs)).last in
    pay (ledger b st.balances st.sent st.asked) q source targets
    ≡ record { ledger = ledger b (balances_after st.balances source targets) sent asked; reply = Done })
    → Follows b ys (balances_after (run b (moves b xs)).last.balances source targets) sent asked
    → RunsSo b ys
RunsSo-push b xs ys q source targets sent asked so more paid follows =
    let calls = moves b xs in
    let call : ℕ × Call = (q, Pay source targets) in
    let after : Step = record { ledger = ledger b (balances_after (run b calls).last.balances source targets) sent asked; reply = Done } in
    let here : step (run b calls).last q (Pay source targets) ≡ after = ap (λ st. step st q (Pay source targets)) (last-ledger b calls) ∙ paid in
    let replies : (run b (calls ++ call ∷ [])).replies ≡ replicate (length (calls ++ call ∷ [])) Done =
    replies-push (opening_state b) calls call
    ∙ (ap (λ r. (run b calls).replies ++ r ∷ []) (ap (λ st. st.reply) here)
    ∙ (ap (λ r. r ++ Done ∷ []) so.done
    ∙ (replicate_more (length calls) Done ∙ ap (λ n. replicate n Done) (sym (length_push calls call))))) in
    let last : (run b (calls ++ call ∷ [])).last ≡ after.ledger = last-push (opening_state b) calls call ∙ ap (λ st. st.ledger) here in
    record {
      done = subst (λ cs. (run b cs).replies ≡ replicate (length cs) Done) (sym more) replies;
      follows = subst (λ (st : LedgerState). Follows b ys st.balances st.sent st.asked) (sym (ap (λ cs. (run b cs).last) more ∙ last)) follows;
    }

-- a publication that repeats a round
pub MovesSame-repeat : (b : BookTerms) (xs : List Publication) (x : Publication) → repeats x (firsts xs) ≡ true → is_own x.entry ≡ false
    → MovesSame b xs (xs ++ x ∷ [])
MovesSame-repeat b xs x again round = record {
  credits_same = λ a. sum_by-firsts_repeat (λ y. credit_of a y.entry) xs x again;
  debits_same = λ a. sum_by-firsts_repeat (λ y. debit_of a y.entry) xs x again;
  owns_same = λ p. owns_of-push_round p xs x round;
  named_more = λ a slot. sum_by-firsts-le (λ y. one_if (names a slot y.entry)) xs x;
}

-- a round that was refused
pub MovesSame-refused : (b : BookTerms) (xs : List Publication) (x : Publication) → repeats x (firsts xs) ≡ false → is_own x.entry ≡ false
    → ((a : ℕ) → credit_of a x.entry ≡ 0) → ((a : ℕ) → debit_of a x.entry ≡ 0) → MovesSame b xs (xs ++ x ∷ [])
MovesSame-refused b xs x new round no_credit no_debit = record {
  credits_same = λ a. omega (arith, sum_by-firsts_new (λ y. credit_of a y.entry) xs x new, no_credit a);
  debits_same = λ a. omega (arith, sum_by-firsts_new (λ y. debit_of a y.entry) xs x new, no_debit a);
  owns_same = λ p. owns_of-push_round p xs x round;
  named_more = λ a slot. sum_by-firsts-le (λ y. one_if (names a slot y.entry)) xs x;
}

-- the balance of a state that follows covers what the list covers
balance-covers : (b : BookTerms) (xs : List Publication) (balances sent asked : List ℕ) (a amount : ℕ) → Follows b xs balances sent asked
    → a < length b.accounts → IsCovered b xs a amount → amount ≤ get_or balances a 0
balance-covers b xs balances sent asked a amount f within covered = omega (arith, f.balanced a within, covered)

pub is_shared-single : (b : BookTerms) (a : ℕ) → is_single (account_of b a) ≡ true → is_shared (account_of b a) ≡ false
is_shared-single b a single = false_from_ne_true (is_shared (account_of b a)) (λ shared. single_or_shared (account_of b a) single shared)

pub is_single-shared : (b : BookTerms) (a : ℕ) → is_shared (account_of b a) ≡ true → is_single (account_of b a) ≡ false
is_single-shared b a shared = false_from_ne_true (is_single (account_of b a)) (λ single. single_or_shared (account_of b a) single shared)

or_false : (s t : Bool) → s ≡ false → t ≡ false → (s || t) ≡ false
or_false s t one other = ap (λ u. u || t) one ∙ other

-- a process with room on its single account
not_full-single : (b : BookTerms) (balances sent asked : List ℕ) (p a : ℕ) → is_single (account_of b a) ≡ true
    → get_or sent p 0 < b.own_room → is_full (ledger b balances sent asked) p a ≡ false
not_full-single b balances sent asked p a single room =
    or_false (is_single (account_of b a) && (get_or sent p 0 == b.own_room)) (is_shared (account_of b a) && (get_or asked (asked_position b p a) 0 == b.request_room))
    (and_right (is_single (account_of b a)) (get_or sent p 0 == b.own_room) (ne_eqb (get_or sent p 0) b.own_room (λ e. omega arith)))
    (and_left (is_shared (account_of b a)) (get_or asked (asked_position b p a) 0 == b.request_room) (is_shared-single b a single))

not_full-shared : (b : BookTerms) (balances sent asked : List ℕ) (p a : ℕ) → is_shared (account_of b a) ≡ true
    → get_or asked (asked_position b p a) 0 < b.request_room → is_full (ledger b balances sent asked) p a ≡ false
not_full-shared b balances sent asked p a shared room =
    or_false (is_single (account_of b a) && (get_or sent p 0 == b.own_room)) (is_shared (account_of b a) && (get_or asked (asked_position b p a) 0 == b.request_room))
    (and_left (is_single (account_of b a)) (get_or sent p 0 == b.own_room) (is_single-shared b a shared))
    (and_right (is_shared (account_of b a)) (get_or asked (asked_position b p a) 0 == b.request_room) (ne_eqb (get_or asked (asked_position b p a) 0) b.request_room (λ e. omega arith)))

-- the success of a process on its single account
pub paid-single : (b : BookTerms) (balances sent asked : List ℕ) (p a : ℕ) (targets : List TargetPair) → is_single (account_of b a) ≡ true
    → is_owner b p a ≡ true → get_or sent p 0 < b.own_room → amount_of targets ≤ get_or balances a 0
    → pay (ledger b balances sent asked) p a targets
    ≡ record { ledger = ledger b (balances_after balances a targets) (set sent p (get_or sent p 0 + 1)) asked; reply = Done }
paid-single b balances sent asked p a targets single owner room covered =
    let one : LedgerState = ledger b (balances_after balances a targets) sent (set asked (asked_position b p a) (get_or asked (asked_position b p a) 0 + 1)) in
    let two : LedgerState = ledger b (balances_after balances a targets) (set sent p (get_or sent p 0 + 1)) asked in
    let chosen : Bool → Step = λ t. record { ledger = cond t one two; reply = Done } in
    pay-done (ledger b balances sent asked) p a targets owner (not_full-single b balances sent asked p a single room) covered
    ∙ ap chosen (is_shared-single b a single)

-- the success of a process on an account that it shares
pub paid-shared : (b : BookTerms) (balances sent asked : List ℕ) (p a : ℕ) (targets : List TargetPair) → is_shared (account_of b a) ≡ true
    → is_owner b p a ≡ true → get_or asked (asked_position b p a) 0 < b.request_room → amount_of targets ≤ get_or balances a 0
    → pay (ledger b balances sent asked) p a targets
    ≡ record { ledger = ledger b (balances_after balances a targets) sent (set asked (asked_position b p a) (get_or asked (asked_position b p a) 0 + 1)); reply = Done }
paid-shared b balances sent asked p a targets shared owner room covered =
    let one : LedgerState = ledger b (balances_after balances a targets) sent (set asked (asked_position b p a) (get_or asked (asked_position b p a) 0 + 1)) in
    let two : LedgerState = ledger b (balances_after balances a targets) (set sent p (get_or sent p 0 + 1)) asked in
    let chosen : Bool → Step = λ t. record { ledger = cond t one two; reply = Done } in
    pay-done (ledger b balances sent asked) p a targets owner (not_full-shared b balances sent asked p a shared room) covered
    ∙ ap chosen shared

-- an own record has room before it
own-room : (b : BookTerms) (s : BoardState) (m : ℕ) → HasRuns b s → m < length s.published
    → is_own (publication_at s.published m).entry ≡ true
    → owns_of (publication_at s.published m).process (take m s.published) < b.own_room
own-room b s m sound within own =
    let p = (publication_at s.published m).process in
    let test : Publication → Bool = λ y. (y.process == p) && is_own y.entry in
    let here : test (publication_at s.published m) ≡ true = ap (λ t. t && is_own (publication_at s.published m).entry) (eq-eqb p p refl) ∙ own in
    omega (
      arith,
      count_by_more_yes test s.published m no_publication within here,
      sum_by-take-le (λ y. one_if (test y)) s.published (m + 1),
      sound.own_room p,
    )

-- one more own record
RunsSo-own : (b : BookTerms) (s : BoardState) (m from : ℕ) (targets : List TargetPair) → HasRuns b s → m < length s.published
    → let x : Publication = publication_at s.published m in
    is_own x.entry ≡ true
    → IsSoundEntry b s x.process (prefix_of x.view s.published) (Own from targets) → CoversEntry b (take m s.published) (Own from targets)
    → RunsSo b (take m s.published) → RunsSo b (take m s.published ++ published x.process x.view (Own from targets) ∷ [])
RunsSo-own b s m from targets sound within own law covered so =
    let xs = take m s.published in
    let p = (publication_at s.published m).process in
    let x : Publication = published p (publication_at s.published m).view (Own from targets) in
    let st : LedgerState = (run b (moves b xs)).last in
    let known = (sound.views m within).process in
    let now : MovesNow xs x from targets = record {
      new = repeats-own p (publication_at s.published m).view from targets (firsts xs);
      debit = λ c. refl;
      credit = λ c. refl;
    } in
    let room = own-room b s m sound within own in
    let sent_room : get_or st.sent p 0 < b.own_room = omega (arith, so.follows.sent_so p known, room) in
    let enough = balance-covers b xs st.balances st.sent st.asked from (amount_of targets) so.follows law.source_in covered in
    RunsSo-push b xs (xs ++ x ∷ []) p from targets (set st.sent p (get_or st.sent p 0 + 1)) st.asked so
    (moves-some b xs x (p, Pay from targets) now.new refl)
    (paid-single b st.balances st.sent st.asked p from targets law.single law.owner sent_room enough)
    (Follows-own b xs x st.balances st.sent st.asked from targets so.follows now refl known law.source_in law.targets_in.accounts covered)

-- one more record of a round that stands before
RunsSo-again : (b : BookTerms) (xs : List Publication) (p : ℕ) (v : List ℕ) (a r : ℕ) (d : Decision) (targets : List TargetPair)
    → repeats (published p v (Round a r d targets)) (firsts xs) ≡ true
    → RunsSo b xs → RunsSo b (xs ++ published p v (Round a r d targets) ∷ [])
RunsSo-again b xs p v a r d targets again so =
    let x : Publication = published p v (Round a r d targets) in
    RunsSo-same b xs (xs ++ x ∷ []) (moves-repeat b xs x again) (MovesSame-repeat b xs x again refl) so

-- the first record of a round that was refused
RunsSo-refused : (b : BookTerms) (xs : List Publication) (p : ℕ) (v : List ℕ) (a r : ℕ) (d : Decision) (targets : List TargetPair)
    → repeats (published p v (Round a r d targets)) (firsts xs) ≡ false → d.ok ≡ false
    → RunsSo b xs → RunsSo b (xs ++ published p v (Round a r d targets) ∷ [])
RunsSo-refused b xs p v a r d targets new refused so =
    let x : Publication = published p v (Round a r d targets) in
    let none : move_of b p x.entry ≡ None =
    ap (λ (t : Bool). cond t (Some (decided_owner b a d, Pay a targets)) None) refused in
    RunsSo-same b xs (xs ++ x ∷ []) (moves-none b xs x new none)
    (MovesSame-refused b xs x new refl
    (λ c. ap (λ (t : Bool). cond t (amount_for c targets) zero) refused)
    (λ c. ap (λ (t : Bool). cond (t && (a == c)) (amount_of targets) zero) refused))
    so

-- the owner at a slot
pub owner-slot : (b : BookTerms) (a slot : ℕ) → IsBegun b → a < length b.accounts → is_shared (account_of b a) ≡ true
    → slot < slots_of (account_of b a)
    → (get_or (account_of b a).owners slot 0 < b.processes) × HasSlot b (get_or (account_of b a).owners slot 0) a slot
owner-slot b a slot begun inside shared within =
    let owners = (account_of b a).owners in
    let has : slots_of (account_of b a) ≡ length owners = ap (λ (t : Bool). cond t (length owners) zero) shared in
    let account = All-get_or (IsAccount b.processes) b.accounts a no_account inside begun.accounts in (
      All-get_or (λ owner. owner < b.processes) owners slot 0 (omega (arith, has)) account.known,
      record { account_in = inside; within = within; owner = slot_in-owner b a slot begun inside (omega (arith, has)) },
    )

-- the first record of a round that succeeded
RunsSo-round : (b : BookTerms) (s : BoardState) (xs : List Publication) (p : ℕ) (v : List ℕ) (prefix : List Publication) (a r : ℕ) (d : Decision) (targets : List TargetPair)
    → HasRuns b s → IsBegun b → repeats (published p v (Round a r d targets)) (firsts xs) ≡ false → d.ok ≡ true
    → IsSoundEntry b s p prefix (Round a r d targets) → AreDecided s a xs → rounds a xs ≡ r
    → IsCovered b xs a (amount_of targets)
    → RunsSo b xs → RunsSo b (xs ++ published p v (Round a r d targets) ∷ [])
RunsSo-round b s xs p v prefix a r d targets sound begun new ok law decided at covered so =
    let x : Publication = published p v (Round a r d targets) in
    let st : LedgerState = (run b (moves b xs)).last in
    let q = decided_owner b a d in
    let decision : IsRunDecision b s a r d = subst (IsRunDecision b s a r) law.1.decision (sound.decisions a r law.1.decided) in
    let numbered : decided_for d.slot r (s.cells a) ≡ d.number =
    subst (λ (e : Decision). decided_for e.slot r (s.cells a) ≡ e.number) law.1.decision (sound.numbers a r law.1.decided) in
    let owner = owner-slot b a d.slot begun law.0.account_in law.0.shared decision.slot_in in
    let has = owner.1 in
    let asked_room : get_or st.asked (asked_position b q a) 0 < b.request_room =
    omega (
      arith,
      so.follows.asked_so q a d.slot owner.0 has,
      decided.named_so d.slot,
      ap (λ n. decided_for d.slot n (s.cells a)) at,
      numbered,
      decision.announced,
      sound.row_room a d.slot,
    ) in
    let now : MovesNow xs x a targets = record {
      new = new;
      debit = λ c. ap (λ (t : Bool). cond (t && (a == c)) (amount_of targets) zero) ok;
      credit = λ c. ap (λ (t : Bool). cond t (amount_for c targets) zero) ok;
    } in
    let some : move_of b p x.entry ≡ Some (q, Pay a targets) =
    ap (λ (t : Bool). cond t (Some (q, Pay a targets)) None) ok in
    let enough = balance-covers b xs st.balances st.sent st.asked a (amount_of targets) so.follows law.0.account_in covered in
    let known : AreTargetsOn (length b.accounts) targets =
    subst (AreTargetsOn (length b.accounts)) law.1.same_targets (sound.targets a d.slot d.number decision.announced).accounts in
    let named_here : names a d.slot x.entry ≡ true =
    ap (λ t. t && (d.slot == d.slot)) (eq-eqb a a refl) ∙ eq-eqb d.slot d.slot refl in
    RunsSo-push b xs (xs ++ x ∷ []) q a targets st.sent (set st.asked (asked_position b q a) (get_or st.asked (asked_position b q a) 0 + 1)) so
    (moves-some b xs x (q, Pay a targets) new some)
    (paid-shared b st.balances st.sent st.asked q a targets law.0.shared (ap is_some has.owner) asked_room enough)
    (Follows-round b xs x st.balances st.sent st.asked a targets q d.slot so.follows now refl owner.0 has named_here known covered)

-- one more publication
RunsSo-entry : (b : BookTerms) (s : BoardState) (m : ℕ) (e : Entry) → HasRuns b s → IsBegun b → m < length s.published
    → let x : Publication = publication_at s.published m in
    x.entry ≡ e → IsSoundEntry b s x.process (prefix_of x.view s.published) e → CoversEntry b (take m s.published) e
    → RunsSo b (take m s.published) → RunsSo b (take m s.published ++ published x.process x.view e ∷ [])
RunsSo-entry b s m (Own from targets) sound begun within is law covered so =
    RunsSo-own b s m from targets sound within (ap is_own is) law covered so
RunsSo-entry b s m (Round a r d targets) sound begun within is law covered so =
    let xs = take m s.published in
    let p = (publication_at s.published m).process in
    let v = (publication_at s.published m).view in
    let x : Publication = published p v (Round a r d targets) in
    elim (cases_Bool (repeats x (firsts xs))) as (λ _. RunsSo b (xs ++ x ∷ [])) [
      | inl again ↦ RunsSo-again b xs p v a r d targets again so
      | inr new ↦
          elim (cases_Bool d.ok) as (λ _. RunsSo b (xs ++ x ∷ [])) [
            | inl ok ↦
                let next : r ≤ rounds a xs = subst (λ (t : Entry). IsNextAtMost xs t) is (IsNextAtMost-HasRuns b s m sound within) in
                let initial = IsInitial-take b s m sound (omega arith) a in
                let at : rounds a xs ≡ r = omega (arith, next, ltb-false r (rounds a xs) (sym (repeats-round p v a r d targets xs initial) ∙ new)) in
                RunsSo-round b s xs p v (prefix_of v s.published) a r d targets sound begun new ok law (AreDecided-take b s m sound (omega arith) a) at (covered at ok) so
            | inr refused ↦ RunsSo-refused b xs p v a r d targets new refused so
          ]
    ]

RunsSo-take : (b : BookTerms) (s : BoardState) (m : ℕ) → HasRuns b s → IsBegun b → m ≤ length s.published → RunsSo b (take m s.published)
RunsSo-take b s zero sound begun within = RunsSo-nil b
RunsSo-take b s (suc m) sound begun within =
    let x : Publication = publication_at s.published m in
    let more = RunsSo-entry b s m x.entry sound begun (omega arith) refl (sound.entries m (omega arith))
    (CoversEntry-HasRuns b s m sound (omega arith)) (RunsSo-take b s m sound begun (omega arith)) in
    let e : m + 1 ≡ suc m = omega arith in
    subst (RunsSo b) (sym (take-publication_at s.published m (omega arith)) ∙ ap (λ k. take k s.published) e) more

-- such a list is a run
IsRun-RunsSo : (b : BookTerms) (xs : List Publication) → IsBegun b → RunsSo b xs → IsRun b xs
IsRun-RunsSo b xs begun so =
    let st : LedgerState = (run b (moves b xs)).last in
    record {
      done = so.done;
      balances = λ a within. omega (arith, so.follows.balanced a within);
      covered = λ a within. omega (arith, so.follows.balanced a within);
      fits = λ a within. omega (
        arith,
        so.follows.balanced a within,
        so.follows.total,
        begun.total,
        get_or-le-sum_by (λ n. n) st.balances a 0 (omega (arith, so.follows.accounts)),
      );
    }

-- every prefix of a list with such laws is a run of the ledger that ends with its balances
pub AreRuns-HasRuns : (b : BookTerms) (s : BoardState) → HasRuns b s → IsBegun b → AreRuns b s.published
AreRuns-HasRuns b s sound begun m within = IsRun-RunsSo b (take m s.published) begun (RunsSo-take b s m sound begun within)

-- nothing is a run
pub IsRun-nil : (b : BookTerms) → IsBegun b → IsRun b []
IsRun-nil b begun = IsRun-RunsSo b [] begun (RunsSo-nil b)
