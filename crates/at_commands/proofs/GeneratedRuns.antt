-- Every legal run of the generator's files settles: it has the text of `make` as its summary.
use Rattle.std.proofs.Common.{◌≡◌, ◌∙◌, ℕ, ◌+◌, ◌*◌, ◌<◌, ◌≤◌, true, not, cond, List, [], ◌∷◌, ◌++◌, map, length, get_or, refl, sym, ap, subst, arith, zero-add, ◌⊎◌, inl, inr, length-append}
use Rattle.at_commands.proofs.Prelude.{range_with_len, get_or-map, get_or-replicate, length-map, length-replicate, fill_by_all, get_or-map-range_with_len, get_or-range_with_len, length-map-range_with_len, length-range_with_len, mul-add-lt, get_or-append, eq-or-lt_of_le, mul_comm, get_or-append_seam, book-run_from, slot_in-owner, AccountTerms, no_account, BookTerms, IsBegun, account_of, is_owner, LedgerState, asked_position, balance_of, opening_state, Legal, Whole, asked_in, last_state, Call, Transfer, Read, Pay, Line, NameList, plain_names, lines_text, audit_lines, done_in, is_read, made_lines, read_in, book_made, files_made, joint_terms, own_terms, AllDone, AllSum, balance_settled, call_credit, call_debit, made, reads_in, state_settled, transfers_in}
use Rattle.at_report.specs.Lines.{Words}
use Rattle.at_commands.proofs.LineSums.{sum_by-Whole}
use Rattle.at_commands.proofs.SettledSteps.{IsOwnCall, IsSized}
use Rattle.at_commands.proofs.SettledRuns.{debits_in, IsCovered, IsSettled, IsSettled-IsCovered}
use Rattle.at_commands.proofs.DrawnCalls.{IsDrawn, IsDrawn-Whole, debits_in-all_Whole, debits_in-own_Whole, length-files_made, lines_by-Whole}

-- the accounts of the book

own_list : ℕ → ℕ → List AccountTerms
own_list processes calls = map (own_terms calls) (range_with_len 0 processes)

length-own_list : (processes calls : ℕ) → length (own_list processes calls) ≡ processes
unfolding own_list
length-own_list processes calls = length-map-range_with_len (own_terms calls) 0 processes

pub length-book_made : (processes calls : ℕ) → length (book_made processes calls).accounts ≡ processes + 1
unfolding own_list
length-book_made processes calls = length-append (own_list processes calls) (joint_terms processes calls ∷ []) ∙ omega (arith, length-own_list processes calls)

account_of-own : (processes calls a : ℕ) → a < processes → account_of (book_made processes calls) a ≡ own_terms calls a
unfolding own_list
account_of-own processes calls a below =
    get_or-append (own_list processes calls) (joint_terms processes calls ∷ []) no_account a (omega (arith, length-own_list processes calls))
    ∙ get_or-map-range_with_len (own_terms calls) 0 processes a a no_account below (zero-add a)

account_of-joint : (processes calls : ℕ) → account_of (book_made processes calls) processes ≡ joint_terms processes calls
unfolding own_list
account_of-joint processes calls =
    ap (λ a. account_of (book_made processes calls) a) (sym (length-own_list processes calls)) ∙ get_or-append_seam (own_list processes calls) (joint_terms processes calls) [] no_account

-- a process owns its own account, and that of all
is_owner-own : (processes calls p : ℕ) → IsBegun (book_made processes calls) → p < processes → is_owner (book_made processes calls) p p ≡ true
is_owner-own processes calls p begun below =
    let b = book_made processes calls in
    let account = account_of-own processes calls p below in
    let within : p < length b.accounts = omega (arith, length-book_made processes calls) in
    let one : 0 < length (account_of b p).owners = rw account (omega arith) in
    let slot = rw account at (slot_in-owner b p 0 begun within one) in
    rw (account, slot) refl

is_owner-joint : (processes calls p : ℕ) → IsBegun (book_made processes calls) → p < processes → is_owner (book_made processes calls) p processes ≡ true
is_owner-joint processes calls p begun below =
    let b = book_made processes calls in
    let account = account_of-joint processes calls in
    let within : processes < length b.accounts = omega (arith, length-book_made processes calls) in
    let some : p < length (account_of b processes).owners = rw account (omega (arith, length-range_with_len 0 processes)) in
    let at : get_or (range_with_len 0 processes) p 0 ≡ p = get_or-range_with_len 0 processes p 0 below ∙ zero-add p in
    let slot = rw (account, at) at (slot_in-owner b processes p begun within some) in
    rw (account, slot) refl

-- a drawn call moves what its process owns
IsOwnCall-IsDrawn : (processes calls p : ℕ) (call : Call) → IsBegun (book_made processes calls) → p < processes → IsDrawn processes p call → IsOwnCall (book_made processes calls) p call
IsOwnCall-IsDrawn processes calls p (Transfer from to amount) begun below (inl own, to_in, small) =
    let count = length-book_made processes calls in
    rw own (omega (arith, count), omega (arith, count), is_owner-own processes calls p begun below)
IsOwnCall-IsDrawn processes calls p (Transfer from to amount) begun below (inr all, to_in, small) =
    let count = length-book_made processes calls in
    rw all (omega (arith, count), omega (arith, count), is_owner-joint processes calls p begun below)
IsOwnCall-IsDrawn processes calls p (Read account) begun below drawn = tt
IsOwnCall-IsDrawn processes calls p (Pay from targets) begun below drawn = absurd drawn

-- the opening of each account
balance_of-opening : (b : BookTerms) (a : ℕ) → a < length b.accounts → balance_of (opening_state b) a ≡ (account_of b a).opening
balance_of-opening b a within = get_or-map (λ (t : AccountTerms). t.opening) b.accounts a no_account 0 within

IsSized-opening_state : (b : BookTerms) → IsSized (opening_state b)
IsSized-opening_state b = record {
  balances = length-map b.accounts (λ (t : AccountTerms). t.opening);
  sent = length-replicate b.processes 0;
  asked = length-replicate (b.processes * length b.accounts) 0;
}

-- the openings cover the debits
debits_in-covered : (first processes calls a : ℕ) (lines : List Line) → Whole (files_made first processes calls) lines → (a ≡ processes) ⊎ (a < processes)
    → debits_in a lines ≤ balance_of (opening_state (book_made processes calls)) a
debits_in-covered first processes calls a lines whole (inl all) =
    let most = debits_in-all_Whole first processes calls processes lines whole in
    let within : processes < length (book_made processes calls).accounts = omega (arith, length-book_made processes calls) in
    let opening = rw (account_of-joint processes calls) at (balance_of-opening (book_made processes calls) processes within) in
    let product : 100 * calls * processes ≡ processes * (calls * 100) = omega arith in
    rw all (omega (arith, most, opening, product))
debits_in-covered first processes calls a lines whole (inr own) =
    let most = debits_in-own_Whole first processes calls a lines whole own in
    let within : a < length (book_made processes calls).accounts = omega (arith, length-book_made processes calls) in
    let opening = rw (account_of-own processes calls a own) at (balance_of-opening (book_made processes calls) a within) in
    omega (arith, most, opening)

-- the openings and the room cover every run that is whole for the files
IsCovered-Whole : (first processes calls : ℕ) (lines : List Line) → IsBegun (book_made processes calls) → Whole (files_made first processes calls) lines
    → IsCovered (opening_state (book_made processes calls)) lines
IsCovered-Whole first processes calls lines begun whole =
    let b = book_made processes calls in
    let count = length-book_made processes calls in
    let files = length-files_made first processes calls in
    record {
      sized = IsSized-opening_state b;
      own = λ k d within.
          let below : (get_or lines k d).process < processes = omega (arith, whole.within k d within, files) in
          (below, IsOwnCall-IsDrawn processes calls (get_or lines k d).process (get_or lines k d).call begun below (IsDrawn-Whole first processes calls lines whole k d within));
      debits = λ a within. debits_in-covered first processes calls a lines whole (eq-or-lt_of_le (omega (arith, count)));
      sent = λ p known. omega (arith, get_or-replicate {A = ℕ} processes p 0 0 known, lines_by-Whole first processes calls lines p whole known);
      asked = λ p a known within.
          let position : asked_position b p a < length b.accounts * processes = mul-add-lt p (length b.accounts) a processes known within in
          let below : asked_position b p a < processes * length b.accounts = omega (arith, position, mul_comm (length b.accounts) processes) in
          omega (arith, get_or-replicate {A = ℕ} (processes * length b.accounts) (asked_position b p a) 0 0 below, lines_by-Whole first processes calls lines p whole known);
    }

-- so each legal one settles
IsSettled-Whole : (first processes calls : ℕ) (lines : List Line) → IsBegun (book_made processes calls) → Whole (files_made first processes calls) lines
    → Legal (book_made processes calls) lines → IsSettled (opening_state (book_made processes calls)) lines
IsSettled-Whole first processes calls lines begun whole legal =
    IsSettled-IsCovered (opening_state (book_made processes calls)) lines (IsCovered-Whole first processes calls lines begun whole) legal

AllDone-files_made : (first processes calls : ℕ) → IsBegun (book_made processes calls) → AllDone (book_made processes calls) (files_made first processes calls)
AllDone-files_made first processes calls begun lines whole legal = (IsSettled-Whole first processes calls lines begun whole legal).done

-- the last balances
balances-Whole : (first processes calls : ℕ) (lines : List Line) → IsBegun (book_made processes calls) → Whole (files_made first processes calls) lines
    → Legal (book_made processes calls) lines
    → (last_state (book_made processes calls) lines).balances ≡ (state_settled (book_made processes calls) (files_made first processes calls)).balances
balances-Whole first processes calls lines begun whole legal =
    let b = book_made processes calls in
    let files = files_made first processes calls in
    let settled = IsSettled-Whole first processes calls lines begun whole legal in
    fill_by_all (balance_settled b files) (last_state b lines).balances (length b.accounts) 0 settled.sized
    (λ a within.
    let now = settled.balances a within in
    omega (arith, now, balance_of-opening b a within, sum_by-Whole (call_credit a) files lines whole, sum_by-Whole (call_debit a) files lines whole))

-- an audit tells the accounts and the balances alone
audit_lines-same : (names : NameList) (s t : LedgerState) → s.book ≡ t.book → s.balances ≡ t.balances → audit_lines names s ≡ audit_lines names t
audit_lines-same names s t book balances =
    let audit : BookTerms → List ℕ → List Words = λ b ns. audit_lines names (record { book = b; balances = ns; sent = []; asked = [] }) in
    ap (λ (b : BookTerms). audit b s.balances) book ∙ ap (λ (ns : List ℕ). audit t.book ns) balances

AllSum-files_made : (first processes calls : ℕ) → IsBegun (book_made processes calls)
    → AllSum (book_made processes calls) (files_made first processes calls) first calls (made first processes calls)
unfolding made
AllSum-files_made first processes calls begun lines whole legal =
    let b = book_made processes calls in
    let files = files_made first processes calls in
    let settled = IsSettled-Whole first processes calls lines begun whole legal in
    let done : done_in lines ≡ transfers_in files = settled.counts ∙ sum_by-Whole (λ call. cond (not (is_read call)) 1 0) files lines whole in
    let reads : read_in lines ≡ reads_in files = sum_by-Whole (λ call. cond (is_read call) 1 0) files lines whole in
    let audit : audit_lines (plain_names b) (last_state b lines) ≡ audit_lines (plain_names b) (state_settled b files) =
    audit_lines-same (plain_names b) (last_state b lines) (state_settled b files) (book-run_from (opening_state b) (asked_in lines)) (balances-Whole first processes calls lines begun whole legal) in
    let text : ℕ → ℕ → List Words → List ℕ = λ d r audit. lines_text (made_lines first processes calls d r ++ audit) in
    ap (λ (d : ℕ). text d (read_in lines) (audit_lines (plain_names b) (last_state b lines))) done
    ∙ ap (λ (r : ℕ). text (transfers_in files) r (audit_lines (plain_names b) (last_state b lines))) reads
    ∙ ap (λ (audit : List Words). text (transfers_in files) (reads_in files) audit) audit

-- the same of a book and files that are these
pub AllDone-made : (first processes calls : ℕ) (b : BookTerms) (files : List (List Call)) → b ≡ book_made processes calls → files ≡ files_made first processes calls
    → IsBegun b → AllDone b files
AllDone-made first processes calls b files book are begun =
    let is : IsBegun (book_made processes calls) = subst IsBegun book begun in
    subst (λ (c : BookTerms). AllDone c files) (sym book) (subst (λ (fs : List (List Call)). AllDone (book_made processes calls) fs) (sym are) (AllDone-files_made first processes calls is))

pub AllSum-made : (first processes calls : ℕ) (b : BookTerms) (files : List (List Call)) → b ≡ book_made processes calls → files ≡ files_made first processes calls
    → IsBegun b → AllSum b files first calls (made first processes calls)
AllSum-made first processes calls b files book are begun =
    let is : IsBegun (book_made processes calls) = subst IsBegun book begun in
    subst (λ (c : BookTerms). AllSum c files first calls (made first processes calls)) (sym book)
    (subst (λ (fs : List (List Call)). AllSum (book_made processes calls) fs first calls (made first processes calls)) (sym are) (AllSum-files_made first processes calls is))
