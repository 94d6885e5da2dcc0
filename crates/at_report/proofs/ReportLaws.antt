-- A report spells its lines: no two lists of lines have one.
use Rattle.std.proofs.Common.{◌≡◌, ℕ, ◌<◌, ◌≤◌, ◌^◌, ◌⊎◌, inl, inr, List, [], ◌∷◌, ◌++◌, map, length, get_or, All, Some, codes, decimal, refl, sym, ap, ◌∙◌, arith, append_assoc, zero, suc, sum, true, bytes_eq}
use Rattle.at_report.proofs.Prelude.{IsDistinct, list_all, and_parts, digits_decimal, first_decimal, decimal_digit, number_of, AreDigits, number_of-decimal, own, tells_digits, BookTerms, IsBook, AreTargetsOn, IsCallOn, IsLineOn, TargetPair, Call, Transfer, Read, Pay, Reply, Done, Short, NotOwner, Full, Balance, Line, asked_in, last_state, LedgerState, opening_state, book-run_from, flat_map-append, AreFormed, AreNames, AreNamesOf, NameList, account_name, is_name_byte, position_of, process_name, HasAmounts, decimal-AreNames, name-bytes, name_byte-above, position_of-at, IsFirstWord, IsWord, Words, call_words, journal_words, line_text, lines_text, reply_word, targets_words, HasBalance, IsPrinted, balance_lines, report_text}
use Rattle.at_report.proofs.WordLaws.{AreWords, AreWords-append, IsLineOfWords, IsWord-decimal, IsWord-from, first_word-only, split_line}

decimal-injective : (n m : ℕ) → n < 2 ^ 64 → m < 2 ^ 64 → decimal n ≡ decimal m → n ≡ m
decimal-injective n m hn hm e =
    let both : Some n ≡ Some m = sym (number_of-decimal n hn) ∙ ap number_of e ∙ number_of-decimal m hm in
    cc

-- a number begins with a digit
head_digit : (w : List ℕ) → AreDigits w → 48 < get_or w 0 0 → get_or w 0 0 ≤ 57
head_digit [] digits above = absurd (omega arith)
head_digit (c ∷ cs) digits above = let range = (tells_digits.parts c cs digits).0 in omega (arith, range)

head-decimal : (n : ℕ) → n < 2 ^ 64 → (n < 10) ⊎ (0 < n) → (48 ≤ get_or (decimal n) 0 0) × (get_or (decimal n) 0 0 ≤ 57)
head-decimal n h (inl small) = rw (decimal_digit n small) (omega arith, omega arith)
head-decimal n h (inr some) =
    let above = first_decimal n some h in
    (omega (arith, above), head_digit (decimal n) (digits_decimal own n h) above)

-- how a reply's word begins
abbrev head : List ℕ → ℕ
head w = get_or w 0 0

balance_head : (n : ℕ) → n < 2 ^ 64 → (48 ≤ head (decimal n)) × (head (decimal n) ≤ 57)
balance_head n h = head-decimal n h (let split : (n < 10) ⊎ (0 < n) = grind arith in split)

reply_word-injective : (r s : Reply) → HasBalance r → HasBalance s → reply_word r ≡ reply_word s → r ≡ s
reply_word-injective Done Done hr hs e = refl
reply_word-injective Done Short hr hs e = absurd (omega (arith, ap head e))
reply_word-injective Done NotOwner hr hs e = absurd (omega (arith, ap head e))
reply_word-injective Done Full hr hs e = absurd (omega (arith, ap head e))
reply_word-injective Done (Balance m) hr hs e = absurd (omega (arith, ap head e, balance_head m hs))
reply_word-injective Short Done hr hs e = absurd (omega (arith, ap head e))
reply_word-injective Short Short hr hs e = refl
reply_word-injective Short NotOwner hr hs e = absurd (omega (arith, ap head e))
reply_word-injective Short Full hr hs e = absurd (omega (arith, ap head e))
reply_word-injective Short (Balance m) hr hs e = absurd (omega (arith, ap head e, balance_head m hs))
reply_word-injective NotOwner Done hr hs e = absurd (omega (arith, ap head e))
reply_word-injective NotOwner Short hr hs e = absurd (omega (arith, ap head e))
reply_word-injective NotOwner NotOwner hr hs e = refl
reply_word-injective NotOwner Full hr hs e = absurd (omega (arith, ap head e))
reply_word-injective NotOwner (Balance m) hr hs e = absurd (omega (arith, ap head e, balance_head m hs))
reply_word-injective Full Done hr hs e = absurd (omega (arith, ap head e))
reply_word-injective Full Short hr hs e = absurd (omega (arith, ap head e))
reply_word-injective Full NotOwner hr hs e = absurd (omega (arith, ap head e))
reply_word-injective Full Full hr hs e = refl
reply_word-injective Full (Balance m) hr hs e = absurd (omega (arith, ap head e, balance_head m hs))
reply_word-injective (Balance n) Done hr hs e = absurd (omega (arith, ap head e, balance_head n hr))
reply_word-injective (Balance n) Short hr hs e = absurd (omega (arith, ap head e, balance_head n hr))
reply_word-injective (Balance n) NotOwner hr hs e = absurd (omega (arith, ap head e, balance_head n hr))
reply_word-injective (Balance n) Full hr hs e = absurd (omega (arith, ap head e, balance_head n hr))
reply_word-injective (Balance n) (Balance m) hr hs e = ap Balance (decimal-injective n m hr hs e)

IsWord-reply_word : (r : Reply) → HasBalance r → IsWord (reply_word r)
IsWord-reply_word Done h = IsWord-from (codes "done") refl
IsWord-reply_word Short h = IsWord-from (codes "short") refl
IsWord-reply_word NotOwner h = IsWord-from (codes "not-owner") refl
IsWord-reply_word Full h = IsWord-from (codes "full") refl
IsWord-reply_word (Balance n) h = IsWord-decimal n h

-- a name's bytes are above a space
IsWord-name_bytes : (name : List ℕ) → list_all is_name_byte name ≡ true → IsWord name
IsWord-name_bytes [] h = tt
IsWord-name_bytes (c ∷ name) h =
    let parts = and_parts (is_name_byte c) (list_all is_name_byte name) h in
    (name_byte-above c parts.0, IsWord-name_bytes name parts.1)

IsWord-AreNames : (version : ℕ) (names : List (List ℕ)) (n : ℕ) → AreNames version names → n < length names → length names < 2 ^ 64 → IsWord (get_or names n [])
IsWord-AreNames version names n are within few = by are.formed
  where
    by : AreFormed version names → IsWord (get_or names n [])
    by (inl (first, formed)) = rw (decimal-AreNames version names n are first within) (IsWord-decimal n (omega arith))
    by (inr (second, formed)) = IsWord-name_bytes (get_or names n []) (name-bytes (get_or names n []) (formed n [] within))

-- names that differ are told apart
same_position : (names : List (List ℕ)) (n m : ℕ) → IsDistinct bytes_eq names → n < length names → m < length names → get_or names n [] ≡ get_or names m [] → n ≡ m
same_position names n m distinct hn hm e =
    let both : Some n ≡ Some m = sym (position_of-at names n distinct hn) ∙ ap (position_of names) e ∙ position_of-at names m distinct hm in
    cc

-- the names that lines cite: each is a word, and no two of one kind are the same
record AreToldApart (names : NameList) (processes accounts : ℕ) : Type 0 where
  accounts_fit : accounts < 2 ^ 64
  process : (p : ℕ) → p < processes → IsWord (process_name names p)
  account : (a : ℕ) → a < accounts → IsWord (account_name names a)
  one_process : (p q : ℕ) → p < processes → q < processes → process_name names p ≡ process_name names q → p ≡ q
  one_account : (a c : ℕ) → a < accounts → c < accounts → account_name names a ≡ account_name names c → a ≡ c

AreToldApart-AreNamesOf : (b : BookTerms) (names : NameList) → IsBook b → AreNamesOf b names → AreToldApart names b.processes (length b.accounts)
AreToldApart-AreNamesOf b names is are =
    let processes = are.processes in
    let accounts = are.accounts in
    let few_processes : length names.processes < 2 ^ 64 = omega (arith, is.begun.few_processes) in
    let few_accounts : length names.accounts < 2 ^ 64 = omega (arith, is.begun.few_accounts) in
    record {
      accounts_fit = omega (arith, is.begun.few_accounts);
      process = λ p below. IsWord-AreNames names.version names.processes p are.formed.processes (omega arith) few_processes;
      account = λ a below. IsWord-AreNames names.version names.accounts a are.formed.accounts (omega arith) few_accounts;
      one_process = λ p q hp hq. same_position names.processes p q are.formed.processes.distinct (omega arith) (omega arith);
      one_account = λ a c ha hc. same_position names.accounts a c are.formed.accounts.distinct (omega arith) (omega arith);
    }

-- the name of a process is a word, and no two processes have one first word
pub IsWord-process_name : (b : BookTerms) (names : NameList) (p : ℕ) → IsBook b → AreNamesOf b names → p < b.processes → IsWord (process_name names p)
IsWord-process_name b names p is are within = (AreToldApart-AreNamesOf b names is are).process p within

pub one_process : (b : BookTerms) (names : NameList) (text : List ℕ) (p q : ℕ) → IsBook b → AreNamesOf b names → p < b.processes → q < b.processes
    → IsFirstWord (process_name names p) text → IsFirstWord (process_name names q) text → p ≡ q
one_process b names text p q is are hp hq first other =
    let apart = AreToldApart-AreNamesOf b names is are in
    apart.one_process p q hp hq (first_word-only (process_name names p) (process_name names q) text (apart.process p hp) (apart.process q hq) first other)

-- the targets and the reply that end a line are told apart
record AreSame {X : Type 0} (x y : X) (r s : List ℕ) : Type 0 where
  first : x ≡ y
  reply : r ≡ s

same_pair : (t u : TargetPair) → t.0 ≡ u.0 → t.1 ≡ u.1 → t ≡ u
same_pair t u same equal = λ i. (same i, equal i)

same_targets : (names : NameList) (processes accounts : ℕ) (ts us : List TargetPair) (r s : List ℕ) → AreToldApart names processes accounts
    → AreTargetsOn accounts ts → AreTargetsOn accounts us → All (λ t. t.1 < 2 ^ 64) ts → All (λ t. t.1 < 2 ^ 64) us
    → targets_words names ts ++ r ∷ [] ≡ targets_words names us ++ s ∷ [] → AreSame ts us r s
same_targets names processes accounts [] [] r s are on_t on_u fit_t fit_u e = record { first = refl; reply = cc }
same_targets names processes accounts [] (u ∷ us) r s are on_t on_u fit_t fit_u e = absurd (cc)
same_targets names processes accounts (t ∷ ts) [] r s are on_t on_u fit_t fit_u e = absurd (cc)
same_targets names processes accounts (t ∷ ts) (u ∷ us) r s are on_t on_u fit_t fit_u e =
    let account : account_name names t.0 ≡ account_name names u.0 = cc in
    let amount : decimal t.1 ≡ decimal u.1 = cc in
    let rest : targets_words names ts ++ r ∷ [] ≡ targets_words names us ++ s ∷ [] = cc in
    let same : t.0 ≡ u.0 = are.one_account t.0 u.0 (on_t zero t (omega arith)) (on_u zero u (omega arith)) account in
    let equal : t.1 ≡ u.1 = decimal-injective t.1 u.1 (fit_t zero t (omega arith)) (fit_u zero u (omega arith)) amount in
    let later = same_targets names processes accounts ts us r s are (λ k d below. on_t (suc k) d (omega arith)) (λ k d below. on_u (suc k) d (omega arith))
    (λ k d below. fit_t (suc k) d (omega arith)) (λ k d below. fit_u (suc k) d (omega arith)) rest in
    let firsts = later.first in
    record { first = let pairs : t ≡ u = same_pair t u same equal in cc; reply = later.reply }

-- the call and the reply that end a line are told apart
same_call : (names : NameList) (processes accounts : ℕ) (c d : Call) (r s : List ℕ) → AreToldApart names processes accounts → IsCallOn accounts c → IsCallOn accounts d
    → HasAmounts c → HasAmounts d → call_words names c ++ r ∷ [] ≡ call_words names d ++ s ∷ [] → AreSame c d r s
same_call names processes accounts (Transfer from to amount) (Transfer from' to' amount') r s are on_c on_d fit_c fit_d e =
    let source : account_name names from ≡ account_name names from' = cc in
    let target : account_name names to ≡ account_name names to' = cc in
    let text : decimal amount ≡ decimal amount' = cc in
    let from_is : from ≡ from' = are.one_account from from' on_c.0 on_d.0 source in
    let to_is : to ≡ to' = are.one_account to to' on_c.1 on_d.1 target in
    let amount_is : amount ≡ amount' = decimal-injective amount amount' fit_c fit_d text in
    record { first = cc; reply = cc }
same_call names processes accounts (Transfer from to amount) (Read account) r s are on_c on_d fit_c fit_d e =
    absurd (let word : codes "transfer" ≡ codes "read" = cc in omega (arith, ap head word))
same_call names processes accounts (Transfer from to amount) (Pay from' targets) r s are on_c on_d fit_c fit_d e =
    absurd (let word : codes "transfer" ≡ codes "pay" = cc in omega (arith, ap head word))
same_call names processes accounts (Read account) (Transfer from to amount) r s are on_c on_d fit_c fit_d e =
    absurd (let word : codes "read" ≡ codes "transfer" = cc in omega (arith, ap head word))
same_call names processes accounts (Read account) (Read account') r s are on_c on_d fit_c fit_d e =
    let name : account_name names account ≡ account_name names account' = cc in
    let account_is : account ≡ account' = are.one_account account account' on_c on_d name in
    record { first = cc; reply = cc }
same_call names processes accounts (Read account) (Pay from targets) r s are on_c on_d fit_c fit_d e =
    absurd (let word : codes "read" ≡ codes "pay" = cc in omega (arith, ap head word))
same_call names processes accounts (Pay from targets) (Transfer from' to amount) r s are on_c on_d fit_c fit_d e =
    absurd (let word : codes "pay" ≡ codes "transfer" = cc in omega (arith, ap head word))
same_call names processes accounts (Pay from targets) (Read account) r s are on_c on_d fit_c fit_d e =
    absurd (let word : codes "pay" ≡ codes "read" = cc in omega (arith, ap head word))
same_call names processes accounts (Pay from targets) (Pay from' targets') r s are on_c on_d fit_c fit_d e =
    let name : account_name names from ≡ account_name names from' = cc in
    let rest : targets_words names targets ++ r ∷ [] ≡ targets_words names targets' ++ s ∷ [] = cc in
    let from_is : from ≡ from' = are.one_account from from' on_c.0 on_d.0 name in
    let later = same_targets names processes accounts targets targets' r s are on_c.1 on_d.1 fit_c fit_d rest in
    let targets_are = later.first in
    record { first = cc; reply = later.reply }

-- a journal's line is one of words

AreWords-targets : (names : NameList) (processes accounts : ℕ) (ts : List TargetPair) → AreToldApart names processes accounts → AreTargetsOn accounts ts → All (λ t. t.1 < 2 ^ 64) ts
    → AreWords (targets_words names ts)
AreWords-targets names processes accounts [] are on fit = tt
AreWords-targets names processes accounts (t ∷ ts) are on fit = (
  are.account t.0 (on zero t (omega arith)),
  (
    IsWord-decimal t.1 (fit zero t (omega arith)),
    AreWords-targets names processes accounts ts are (λ k d below. on (suc k) d (omega arith)) (λ k d below. fit (suc k) d (omega arith)),
  ),
)

AreWords-call : (names : NameList) (processes accounts : ℕ) (c : Call) → AreToldApart names processes accounts → IsCallOn accounts c → HasAmounts c → AreWords (call_words names c)
AreWords-call names processes accounts (Transfer from to amount) are on fit = (
  IsWord-from (codes "transfer") refl,
  (are.account from on.0, (are.account to on.1, (IsWord-decimal amount fit, tt))),
)
AreWords-call names processes accounts (Read account) are on fit = (IsWord-from (codes "read") refl, (are.account account on, tt))
AreWords-call names processes accounts (Pay from targets) are on fit = (
  IsWord-from (codes "pay") refl,
  (are.account from on.0, AreWords-targets names processes accounts targets are on.1 fit),
)

-- what is printed of a line
record IsShort (processes accounts : ℕ) (l : Line) : Type 0 where
  known : IsLineOn processes accounts l
  number : l.number < 2 ^ 64
  amounts : HasAmounts l.call
  balance : HasBalance l.reply

IsLineOfWords-journal : (names : NameList) (processes accounts : ℕ) (l : Line) → AreToldApart names processes accounts → IsShort processes accounts l
    → IsLineOfWords (journal_words names l)
IsLineOfWords-journal names processes accounts l are is =
    let process : IsWord (process_name names l.process) = are.process l.process is.known.0 in (
      process,
      (
        IsWord-decimal l.number is.number,
        AreWords-append (call_words names l.call) (reply_word l.reply ∷ []) (AreWords-call names processes accounts l.call are is.known.1 is.amounts) (IsWord-reply_word l.reply is.balance, tt),
      ),
    )

-- a line of these parts
line_of : ℕ → ℕ → Call → Reply → Line
line_of p n c r = record { process = p; number = n; call = c; reply = r }

journal_words-injective : (names : NameList) (processes accounts : ℕ) (l m : Line) → AreToldApart names processes accounts → IsShort processes accounts l → IsShort processes accounts m
    → journal_words names l ≡ journal_words names m → l ≡ m
unfolding line_of
journal_words-injective names processes accounts l m are is_l is_m e =
    let name : process_name names l.process ≡ process_name names m.process = cc in
    let text : decimal l.number ≡ decimal m.number = cc in
    let rest : call_words names l.call ++ reply_word l.reply ∷ [] ≡ call_words names m.call ++ reply_word m.reply ∷ [] = cc in
    let process : l.process ≡ m.process = are.one_process l.process m.process is_l.known.0 is_m.known.0 name in
    let number : l.number ≡ m.number = decimal-injective l.number m.number is_l.number is_m.number text in
    let same = same_call names processes accounts l.call m.call (reply_word l.reply) (reply_word m.reply) are is_l.known.1 is_m.known.1 is_l.amounts is_m.amounts rest in
    let call : l.call ≡ m.call = same.first in
    let reply : l.reply ≡ m.reply = reply_word-injective l.reply m.reply is_l.balance is_m.balance same.reply in
    λ i. line_of (process i) (number i) (call i) (reply i)

-- the heading of the balances
abbrev balances_words : ℕ → Words
balances_words count = codes "balances" ∷ decimal count ∷ []

IsLineOfWords-balances : (count : ℕ) → count < 2 ^ 64 → IsLineOfWords (balances_words count)
IsLineOfWords-balances count few = (IsWord-from (codes "balances") refl, (IsWord-decimal count few, tt))

not_empty : (ws : Words) (w : List ℕ) → ◌≡◌ {A = Words} [] (ws ++ w ∷ []) → ⊥
not_empty [] w e = cc
not_empty (v ∷ ws) w e = cc

-- a journal's line has more words than that heading
not_balances : (names : NameList) (count : ℕ) (l : Line) → balances_words count ≡ journal_words names l → ⊥
not_balances names count l e = not_empty (call_words names l.call) (reply_word l.reply) (let rest : ◌≡◌ {A = Words} [] (call_words names l.call ++ reply_word l.reply ∷ []) = cc in rest)

-- the text from the first line of a journal on
abbrev journal_from : NameList → ℕ → List Line → List ℕ → List ℕ
journal_from names count ls after = lines_text (map (journal_words names) ls) ++ (line_text (balances_words count) ++ after)

journal_from-cons : (names : NameList) (count : ℕ) (l : Line) (ls : List Line) (after : List ℕ)
    → journal_from names count (l ∷ ls) after ≡ line_text (journal_words names l) ++ journal_from names count ls after
journal_from-cons names count l ls after = append_assoc (line_text (journal_words names l)) (lines_text (map (journal_words names) ls)) (line_text (balances_words count) ++ after)

same_lists : (l m : Line) (ls ms : List Line) → l ≡ m → ls ≡ ms → l ∷ ls ≡ m ∷ ms
same_lists l m ls ms first rest = cc

-- the journal ends where the balances begin
journal_from-injective : (names : NameList) (processes accounts count : ℕ) (ls ms : List Line) (after later : List ℕ) → AreToldApart names processes accounts → count < 2 ^ 64
    → All (IsShort processes accounts) ls → All (IsShort processes accounts) ms → journal_from names count ls after ≡ journal_from names count ms later → ls ≡ ms
journal_from-injective names processes accounts count [] [] after later are few is_ls is_ms e = refl
journal_from-injective names processes accounts count [] (m ∷ ms) after later are few is_ls is_ms e =
    let split = split_line (balances_words count) (journal_words names m) after (journal_from names count ms later) (IsLineOfWords-balances count few)
    (IsLineOfWords-journal names processes accounts m are (is_ms zero m (omega arith))) (e ∙ journal_from-cons names count m ms later) in
    absurd (not_balances names count m split.words)
journal_from-injective names processes accounts count (l ∷ ls) [] after later are few is_ls is_ms e =
    let split = split_line (balances_words count) (journal_words names l) later (journal_from names count ls after) (IsLineOfWords-balances count few)
    (IsLineOfWords-journal names processes accounts l are (is_ls zero l (omega arith))) (sym e ∙ journal_from-cons names count l ls after) in
    absurd (not_balances names count l split.words)
journal_from-injective names processes accounts count (l ∷ ls) (m ∷ ms) after later are few is_ls is_ms e =
    let is_l = is_ls zero l (omega arith) in
    let is_m = is_ms zero m (omega arith) in
    let split = split_line (journal_words names l) (journal_words names m) (journal_from names count ls after) (journal_from names count ms later)
    (IsLineOfWords-journal names processes accounts l are is_l) (IsLineOfWords-journal names processes accounts m are is_m)
    (sym (journal_from-cons names count l ls after) ∙ e ∙ journal_from-cons names count m ms later) in
    same_lists l m ls ms (journal_words-injective names processes accounts l m are is_l is_m split.words)
    (journal_from-injective names processes accounts count ls ms after later are few
    (λ k d below. is_ls (suc k) d (omega arith)) (λ k d below. is_ms (suc k) d (omega arith)) split.rest)

lines_text-append : (ls ms : List Words) → lines_text (ls ++ ms) ≡ lines_text ls ++ lines_text ms
lines_text-append ls ms = flat_map-append line_text ls ms

-- the text of a report: the heading, the journal, and then the balances
report_parts : (b : BookTerms) (names : NameList) (ls : List Line)
    → report_text b names ls
    ≡ line_text (codes "journal" ∷ decimal (length ls) ∷ [])
    ++ journal_from names (length b.accounts) ls
    (lines_text (balance_lines names (last_state b ls) ++ (codes "total" ∷ decimal (sum (last_state b ls).balances) ∷ []) ∷ []))
report_parts b names ls =
    let s : LedgerState = last_state b ls in
    let title : Words = codes "journal" ∷ decimal (length ls) ∷ [] in
    let journal : List Words = map (journal_words names) ls in
    let end : List Words = balance_lines names s ++ (codes "total" ∷ decimal (sum s.balances) ∷ []) ∷ [] in
    let book : s.book ≡ b = book-run_from (opening_state b) (asked_in ls) in
    lines_text-append (title ∷ journal) (balances_words (length s.book.accounts) ∷ end)
    ∙ append_assoc (line_text title) (lines_text journal) (lines_text (balances_words (length s.book.accounts) ∷ end))
    ∙ ap (λ (count : ℕ). line_text title ++ (lines_text journal ++ (line_text (balances_words count) ++ lines_text end))) (ap (λ (c : BookTerms). length c.accounts) book)

-- no two lists of lines have one report
pub report_text-injective : (b : BookTerms) (names : NameList) (ls ms : List Line) → IsBook b → AreNamesOf b names → length ls < 2 ^ 64 → length ms < 2 ^ 64
    → All (IsPrinted b) ls → All (IsPrinted b) ms → report_text b names ls ≡ report_text b names ms → ls ≡ ms
report_text-injective b names ls ms is are few_ls few_ms is_ls is_ms e =
    let short = AreToldApart-AreNamesOf b names is are in
    let split = split_line (codes "journal" ∷ decimal (length ls) ∷ []) (codes "journal" ∷ decimal (length ms) ∷ []) _ _
    (IsWord-from (codes "journal") refl, (IsWord-decimal (length ls) few_ls, tt)) (IsWord-from (codes "journal") refl, (IsWord-decimal (length ms) few_ms, tt))
    (sym (report_parts b names ls) ∙ e ∙ report_parts b names ms) in
    journal_from-injective names b.processes (length b.accounts) (length b.accounts) ls ms _ _ short short.accounts_fit
    (λ k d below. is_short b (get_or ls k d) (is_ls k d below)) (λ k d below. is_short b (get_or ms k d) (is_ms k d below)) split.rest
  where
    is_short : (b : BookTerms) (l : Line) → IsPrinted b l → IsShort b.processes (length b.accounts) l
    is_short b l is = record { known = is.known; number = is.number; amounts = is.amounts; balance = is.balance }
