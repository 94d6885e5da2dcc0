-- Runs of a closing's lines over the ledger.
use Rattle.std.proofs.Common.{◌≡◌, ℕ, ◌+◌, ◌<◌, ◌≤◌, zero, suc, List, [], ◌∷◌, ◌++◌, length, map, refl, sym, ap, ◌∙◌, arith}
use Rattle.at_journal.proofs.Prelude.{range_with_len, map-append, BookTerms, Run, asked_in, run_from, LedgerState, Call, Line, Reply, last-append, replies-append, run_from-cons, run_from-nil, ledger, ClosingTerms, receipts_of, Coherent, line_of, is_success, receipt_at, still_at}
use Rattle.at_journal.proofs.KeepLaws.{Keeps, with_count, with_count-other, with_count-own}
use Rattle.at_journal.proofs.StillLaws.{Answered, still-answered}

-- the line of a process's receipt
abbrev pub line : ClosingTerms → ℕ → ℕ → Line
line c p i = line_of p i (receipt_at (receipts_of c p) i)

-- some lines are answered as they say, and what the state behind them keeps
pub record Ran (b : BookTerms) (c : ClosingTerms) (next : ℕ) (balances sent asked : List ℕ) (lines : List Line) (P : (ℕ → ℕ) → Type 0) : Type 0 where
  pub count2 : ℕ → ℕ
  pub balances2 : List ℕ
  pub sent2 : List ℕ
  pub asked2 : List ℕ
  pub replies : (run_from (ledger b balances sent asked) (asked_in lines)).replies ≡ map (λ l. l.reply) lines
  pub last : (run_from (ledger b balances sent asked) (asked_in lines)).last ≡ ledger b balances2 sent2 asked2
  pub keeps : Keeps b c next count2 balances2 sent2 asked2
  pub holds : P count2

pub Ran-nil : (b : BookTerms) (c : ClosingTerms) (m : ℕ) (count : ℕ → ℕ) (balances sent asked : List ℕ) (P : (ℕ → ℕ) → Type 0)
    → Keeps b c m count balances sent asked → P count → Ran b c m balances sent asked [] P
Ran-nil b c m count balances sent asked P keeps holds = record {
  count2 = count;
  balances2 = balances;
  sent2 = sent;
  asked2 = asked;
  replies = ap (λ (r : Run). r.replies) (run_from-nil (ledger b balances sent asked));
  last = ap (λ (r : Run). r.last) (run_from-nil (ledger b balances sent asked));
  keeps = keeps;
  holds = holds;
}

pub Ran-cons : (b : BookTerms) (c : ClosingTerms) (m mid next : ℕ) (count : ℕ → ℕ) (balances sent asked : List ℕ) (p i : ℕ) (lines : List Line) (P : (ℕ → ℕ) → Type 0)
    → (one : Answered b c m mid count balances sent asked p i) → Ran b c next one.balances2 one.sent2 one.asked2 lines P
    → Ran b c next balances sent asked (line c p i ∷ lines) P
Ran-cons b c m mid next count balances sent asked p i lines P one rest =
    let l : LedgerState = ledger b balances sent asked in
    let call : Call = (receipt_at (receipts_of c p) i).call in
    let reply : Reply = (receipt_at (receipts_of c p) i).reply in
    let after : LedgerState = ledger b one.balances2 one.sent2 one.asked2 in
    let split : run_from l ((p, call) ∷ asked_in lines) ≡ record { replies = reply ∷ (run_from after (asked_in lines)).replies; last = (run_from after (asked_in lines)).last } =
    run_from-cons l (p, call) (asked_in lines)
    ∙ (λ t. record { replies = (one.stepped t).reply ∷ (run_from (one.stepped t).ledger (asked_in lines)).replies; last = (run_from (one.stepped t).ledger (asked_in lines)).last }) in
    record {
      count2 = rest.count2;
      balances2 = rest.balances2;
      sent2 = rest.sent2;
      asked2 = rest.asked2;
      replies = ap (λ (r : Run). r.replies) split ∙ ap (λ rs. reply ∷ rs) rest.replies;
      last = ap (λ (r : Run). r.last) split ∙ rest.last;
      keeps = rest.keeps;
      holds = rest.holds;
    }

pub Ran-append : (b : BookTerms) (c : ClosingTerms) (mid next : ℕ) (balances sent asked : List ℕ) (xs ys : List Line) (P Q : (ℕ → ℕ) → Type 0)
    → (one : Ran b c mid balances sent asked xs P) → Ran b c next one.balances2 one.sent2 one.asked2 ys Q
    → Ran b c next balances sent asked (xs ++ ys) Q
Ran-append b c mid next balances sent asked xs ys P Q one two =
    let l : LedgerState = ledger b balances sent asked in
    let both : asked_in (xs ++ ys) ≡ asked_in xs ++ asked_in ys = map-append (λ (x : Line). (x.process, x.call)) xs ys in
    record {
      count2 = two.count2;
      balances2 = two.balances2;
      sent2 = two.sent2;
      asked2 = two.asked2;
      replies =
          ap (λ calls. (run_from l calls).replies) both
          ∙ (replies-append l (asked_in xs) (asked_in ys)
          ∙ ((λ t. one.replies t ++ (run_from (one.last t) (asked_in ys)).replies)
          ∙ (ap (λ rs. map (λ (x : Line). x.reply) xs ++ rs) two.replies
          ∙ sym (map-append (λ (x : Line). x.reply) xs ys))));
      last =
          ap (λ calls. (run_from l calls).last) both
          ∙ (last-append l (asked_in xs) (asked_in ys) ∙ (ap (λ s. (run_from s (asked_in ys)).last) one.last ∙ two.last));
      keeps = two.keeps;
      holds = two.holds;
    }

-- what is asked of the counts may be weaker
pub Ran-weaken : (b : BookTerms) (c : ClosingTerms) (next : ℕ) (balances sent asked : List ℕ) (xs : List Line) (P Q : (ℕ → ℕ) → Type 0)
    → Ran b c next balances sent asked xs P → ((count : ℕ → ℕ) → P count → Q count) → Ran b c next balances sent asked xs Q
Ran-weaken b c next balances sent asked xs P Q ran weaker = record {
  count2 = ran.count2;
  balances2 = ran.balances2;
  sent2 = ran.sent2;
  asked2 = ran.asked2;
  replies = ran.replies;
  last = ran.last;
  keeps = ran.keeps;
  holds = weaker ran.count2 ran.holds;
}

-- the counts are the same but for one process, which has made so many calls
pub record IsCounted (count : ℕ → ℕ) (p to : ℕ) (count2 : ℕ → ℕ) : Type 0 where
  pub own : count2 p ≡ to
  pub others : (q : ℕ) → (q ≡ p → ⊥) → count2 q ≡ count q

-- lines of one process that move nothing, one after another
pub Ran-still : (b : BookTerms) (c : ClosingTerms) (m : ℕ) (count : ℕ → ℕ) (balances sent asked : List ℕ) (p i n : ℕ) → Coherent b c
    → Keeps b c m count balances sent asked → p < b.processes → count p ≡ i → i + n ≤ length (receipts_of c p)
    → ((j : ℕ) → i ≤ j → j < i + n → still_at m (is_success (receipt_at (receipts_of c p) j).reply) (receipt_at (receipts_of c p) j).at)
    → Ran b c m balances sent asked (map (line c p) (range_with_len i n)) (IsCounted count p (i + n))
Ran-still b c m count balances sent asked p i zero coherent keeps known here within still =
    Ran-nil b c m count balances sent asked (IsCounted count p (i + zero)) keeps
    (record { own = omega (arith, here); others = λ q apart. refl })
Ran-still b c m count balances sent asked p i (suc n) coherent keeps known here within still =
    let one = still-answered b c m count balances sent asked p i coherent keeps known here (omega (arith, within)) (still i (omega arith) (omega arith))
    ((coherent.told p known).placed i (omega (arith, within))) in
    let rest = Ran-still b c m (with_count count p (i + 1)) one.balances2 one.sent2 one.asked2 p (i + 1) n coherent one.keeps known
    (with_count-own count p (i + 1) p refl) (omega (arith, within)) (λ j from to. still j (omega (arith, from)) (omega (arith, to))) in
    Ran-cons b c m m m count balances sent asked p i (map (line c p) (range_with_len (i + 1) n)) (IsCounted count p (i + suc n)) one
    (Ran-weaken b c m one.balances2 one.sent2 one.asked2 (map (line c p) (range_with_len (i + 1) n)) (IsCounted (with_count count p (i + 1)) p (i + 1 + n)) (IsCounted count p (i + suc n)) rest
    (λ count2 so. record {
      own = omega (arith, so.own);
      others = λ q apart. so.others q apart ∙ with_count-other count p (i + 1) q apart;
    }))
