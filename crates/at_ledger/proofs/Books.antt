-- One more account of a book.
use Rattle.std.proofs.Common.{◌≡◌, ℕ, ◌+◌, ◌<◌, ◌≤◌, ◌^◌, ◌==◌, if◌then◌else◌, true, false, cond, leb, ltb, length, List, [], ◌∷◌, get_or, take, drop, map, length-append, Some, None, Option, sym, ap, ◌∙◌, arith}
use Rattle.at_ledger.proofs.Prelude.{leb-false, ltb-false, nat_tests, at_drop_more, at_drop_all, sum_by, option_or, All-push, sum_by_push, sum_by_more_le_part, AccountTerms, is_owner_in, rounds_room, rounds_room_of, BookTerms, IsAccount, IsBegun, IsSummed, rounds_of, total_of, account_fault, accounts_fault, book_fault, book_without_accounts, limits_fault, owners_fault, sums_fault, terms_of, with_account, Draft, DraftAccount, BookError, NoAccount, RoundsOverLimit, TotalOverLimit, most_accounts, most_rounds}
use Rattle.at_ledger.proofs.Faults.{choice-none}
use Rattle.at_ledger.proofs.Owners.{IsAccount-from_none}

-- an account without a fault keeps what holds of a book so far
pub IsSummed-with_account : (b : BookTerms) (t : AccountTerms) (rounds total : ℕ) → IsBegun b
    → length b.accounts < most_accounts → owners_fault b.processes (length b.accounts) 0 0 t.owners ≡ None → sums_fault b t ≡ None
    → rounds ≡ rounds_of b + rounds_room b.request_room t → total ≡ total_of b + t.opening
    → IsSummed (with_account b t) rounds total
IsSummed-with_account b t rounds total begun room known small rounds_is total_is =
    let position = length b.accounts in
    let first = choice-none (ltb most_rounds (rounds_of b + rounds_room b.request_room t)) (RoundsOverLimit position) _ small in
    let second = choice-none (leb (2 ^ 64) (total_of b + t.opening)) (TotalOverLimit position) None first.1 in
    let more_rounds = sum_by_push (rounds_room b.request_room) b.accounts t in
    let more_total = sum_by_push (λ a. a.opening) b.accounts t in
    record {
      begun = record {
        some_process = begun.some_process;
        few_processes = begun.few_processes;
        some_own_room = begun.some_own_room;
        own_room = begun.own_room;
        some_request_room = begun.some_request_room;
        request_room = begun.request_room;
        few_accounts = omega (arith, length-append b.accounts (t ∷ []), room);
        accounts = All-push (IsAccount b.processes) b.accounts t begun.accounts (IsAccount-from_none b.processes position t.opening t.owners known);
        rounds = omega (arith, more_rounds, ltb-false _ _ first.0);
        total = omega (arith, more_total, leb-false _ _ second.0);
      };
      rounds_summed = omega (arith, more_rounds);
      total_summed = omega (arith, more_total);
    }

-- an account without a fault: the walk goes on after it
pub accounts_fault-drop_good : (b : BookTerms) (drafts : List DraftAccount) (i : ℕ) (d : DraftAccount) → i < length drafts
    → account_fault b (terms_of (get_or drafts i d)) ≡ None
    → accounts_fault b (map terms_of (drop i drafts))
    ≡ accounts_fault (with_account b (terms_of (get_or drafts i d))) (map terms_of (drop (i + 1) drafts))
unfolding accounts_fault
accounts_fault-drop_good b drafts i d within good =
    let rest = accounts_fault (with_account b (terms_of (get_or drafts i d))) (map terms_of (drop (i + 1) drafts)) in
    at_drop_more (λ ds. accounts_fault b (map terms_of ds)) drafts i d within ∙ ap (λ f. option_or f rest) good

-- an account with a fault ends the walk
pub accounts_fault-drop_bad : (b : BookTerms) (drafts : List DraftAccount) (i : ℕ) (d : DraftAccount) (fault : BookError)
    → i < length drafts → account_fault b (terms_of (get_or drafts i d)) ≡ Some fault
    → accounts_fault b (map terms_of (drop i drafts)) ≡ Some fault
unfolding accounts_fault
accounts_fault-drop_bad b drafts i d fault within bad =
    let rest = accounts_fault (with_account b (terms_of (get_or drafts i d))) (map terms_of (drop (i + 1) drafts)) in
    at_drop_more (λ ds. accounts_fault b (map terms_of ds)) drafts i d within ∙ ap (λ f. option_or f rest) bad

-- after the last account there has to be one
accounts_fault-drop_all : (b : BookTerms) (drafts : List DraftAccount) (i : ℕ) → length drafts ≤ i
    → accounts_fault b (map terms_of (drop i drafts)) ≡ (if length b.accounts == 0 then Some NoAccount else None)
unfolding accounts_fault
accounts_fault-drop_all b drafts i all = at_drop_all (λ ds. accounts_fault b (map terms_of ds)) drafts i all

pub accounts_fault-drop_all_some : (b : BookTerms) (drafts : List DraftAccount) (i : ℕ) → length drafts ≤ i → 1 ≤ length b.accounts
    → accounts_fault b (map terms_of (drop i drafts)) ≡ None
accounts_fault-drop_all_some b drafts i all some =
    let e = accounts_fault-drop_all b drafts i all in grind (arith, nat_tests)

pub accounts_fault-drop_all_none : (b : BookTerms) (drafts : List DraftAccount) (i : ℕ) → length drafts ≤ i → b.accounts ≡ []
    → accounts_fault b (map terms_of (drop i drafts)) ≡ Some NoAccount
accounts_fault-drop_all_none b drafts i all none =
    accounts_fault-drop_all b drafts i all ∙ ap (λ (ts : List AccountTerms). if length ts == 0 then Some NoAccount else None) none

-- where the limits hold, the fault of a draft is that of its accounts
pub book_fault-from_accounts : (d : Draft) (drafts : List DraftAccount) (fault : Option BookError) → drafts ≡ d.accounts.items
    → limits_fault d.processes d.own_room d.request_room ≡ None
    → accounts_fault (book_without_accounts d.processes d.own_room d.request_room) (map terms_of drafts) ≡ fault
    → book_fault d ≡ fault
book_fault-from_accounts d drafts fault same limits rest =
    let empty = book_without_accounts d.processes d.own_room d.request_room in
    ap (λ f. option_or f (accounts_fault empty (map terms_of d.accounts.items))) limits
    ∙ (ap (λ ds. accounts_fault empty (map terms_of ds)) (sym same) ∙ rest)

-- the rounds of one process are at most those of the account
rounds_room_of-le : (request_room process : ℕ) (t : AccountTerms) → rounds_room_of request_room process t ≤ rounds_room request_room t
rounds_room_of-le request_room process t =
    let n = rounds_room request_room t in
    elim (is_owner_in t process) as (λ b. cond b n 0 ≤ n) [ true ↦ omega arith | false ↦ omega arith ]

-- the room of a log is at most the own room with all rounds
pub log_room-take-le : (b : BookTerms) (process i : ℕ) (t : AccountTerms) → IsBegun b → i < length b.accounts
    → sum_by (rounds_room_of b.request_room process) (take i b.accounts) + rounds_room_of b.request_room process (get_or b.accounts i t) ≤ most_rounds
log_room-take-le b process i t begun within =
    let f = rounds_room_of b.request_room process in
    let part = sum_by_more_le_part f (rounds_room b.request_room) b.accounts i t within (rounds_room_of-le b.request_room process) in
    omega (arith, part, rounds_room_of-le b.request_room process (get_or b.accounts i t), begun.rounds)
