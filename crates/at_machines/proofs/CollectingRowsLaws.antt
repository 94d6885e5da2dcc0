-- Collecting rows from one turn to the next.
use Rattle.std.proofs.Common.{◌≡◌, ◌≢◌, ℕ, ◌+◌, ◌-◌, ◌*◌, ◌<◌, ◌≤◌, ◌++◌, List, [], length, Option, refl, sym, ap, subst, ◌∙◌, arith, inl, inr}
use Rattle.at_machines.proofs.Prelude.{cases_lt, option_to_list, slots_of, BookTerms, account_of, HasLoadedRows, SeesRequest, own_part, IsKept, Knowledge, REQUEST_WORDS, HasAccount, HasAccount-IsSeat, AreCandidates-IsCollectingRows, CollectsRows-IsCollectingRows, HasAsked-IsCollectingRows, HasLoadedRows-IsCollectingRows, IsCollectingRows-row, IsCollectingRows-start, SeesRequest-HasAsked, steps-IsCollectingRows, HasAsked, IsCollectingRows, request_of, AreCandidates, CollectsRows, LoadsRow, row_steps, OpenRequest, CollectingRowsTerms, GoesOn, MakesNextLoad, rows_after, IsCollectingRowsSo, LoadingRowTerms, MakesLoadOf, NextRowLoad, row_after, row_turns, starting_row, announced_word, request_word, nothing}

-- the seat has seen its own request
pub SeesRequest-start : (v : Knowledge) (a : ℕ) (own : OpenRequest) → IsKept v → HasAsked v.book v a own → SeesRequest v a own.slot own.number (request_of own)
SeesRequest-start v a own kept asked = SeesRequest-HasAsked v.book v a own refl v.first (own_part v).published kept asked

pub IsCollectingRowsSo-start : (v : Knowledge) (a : ℕ) (own : OpenRequest) → IsKept v → HasAsked v.book v a own → IsCollectingRowsSo v (starting_row v a 0 own) [] 0
IsCollectingRowsSo-start v a own kept asked = record {
  seat = kept;
  asked = asked;
  book = refl;
  amid = λ left. record {
    slot_in = omega (arith, asked.slot_in.within);
    before = 0;
    so_far = IsCollectingRows-start v a own (SeesRequest-start v a own kept asked);
    turns = refl;
    few = omega arith;
    own_row = λ at. refl;
  };
}

-- the row goes on
next-MakesLoadOf : (b : BookTerms) (v w : Knowledge) (a slot own : ℕ) (now next : NextRowLoad) → MakesLoadOf b v w a slot own now next → next ≢ nothing
    → row_turns now ≤ REQUEST_WORDS → (slot ≡ own → row_turns now ≡ 0)
    → (row_turns next ≡ row_turns now + 1) × (row_turns next ≤ REQUEST_WORDS) × (slot ≡ own → row_turns next ≡ 0)
next-MakesLoadOf b v w a slot own announced_word announced_word (count, told, follows) left few mine = absurd follows
next-MakesLoadOf b v w a slot own announced_word (request_word number word) (count, told, (apart, last, first)) left few mine =
    (omega (arith, first), omega (arith, first), λ at. absurd (apart at))
next-MakesLoadOf b v w a slot own announced_word nothing (count, told, follows) left few mine = absurd (left refl)
next-MakesLoadOf b v w a slot own (request_word number word) next (n, told, follows) left few mine =
    elim (cases_lt (word + 1) REQUEST_WORDS) as (λ _. (row_turns next ≡ (1 + word) + 1) × (row_turns next ≤ REQUEST_WORDS) × (slot ≡ own → row_turns next ≡ 0)) [
      | inl more ↦
          let turns : row_turns next ≡ (1 + word) + 1 = ap row_turns (follows.0 more) ∙ omega arith in
          (turns, omega (arith, turns, more), λ at. let none = mine at in absurd (omega (arith, none)))
      | inr last ↦ absurd (left (follows.1 (omega (arith, last, few))))
    ]
next-MakesLoadOf b v w a slot own nothing next told left few mine = elim told [ ]

-- that comes next
GoesOn-MakesLoadOf : (b : BookTerms) (v w : Knowledge) (a slots slot own : ℕ) (now next : NextRowLoad) → MakesLoadOf b v w a slot own now next → next ≢ nothing
    → row_turns now ≤ REQUEST_WORDS → GoesOn slots slot next slot next
GoesOn-MakesLoadOf b v w a slots slot own announced_word announced_word (count, told, follows) left few = absurd follows
GoesOn-MakesLoadOf b v w a slots slot own announced_word (request_word number word) told left few = (refl, refl)
GoesOn-MakesLoadOf b v w a slots slot own announced_word nothing told left few = absurd (left refl)
GoesOn-MakesLoadOf b v w a slots slot own (request_word number word) next (n, told, follows) left few =
    elim (cases_lt (word + 1) REQUEST_WORDS) as (λ _. GoesOn slots slot next slot next) [
      | inl more ↦ subst (λ (t : NextRowLoad). GoesOn slots slot t slot t) (sym (follows.0 more)) (refl, refl)
      | inr last ↦ absurd (left (follows.1 (omega (arith, last, few))))
    ]
GoesOn-MakesLoadOf b v w a slots slot own nothing next told left few = elim told [ ]

pub MakesNextLoad-more : (b : BookTerms) (c : CollectingRowsTerms) (w : Knowledge) (next : NextRowLoad) → MakesLoadOf b c.mark w c.account c.slot c.own.slot c.next next
    → next ≢ nothing → row_turns c.next ≤ REQUEST_WORDS → MakesNextLoad b c (rows_after c w c.slot next)
MakesNextLoad-more b c w next told goes few = record {
  row_next = next;
  load = told;
  goes_on = GoesOn-MakesLoadOf b c.mark w c.account (slots_of (account_of b c.account)) c.slot c.own.slot c.next next told goes few;
}

-- the row of the next slot comes next
pub MakesNextLoad-row : (b : BookTerms) (c : CollectingRowsTerms) (w : Knowledge) (slot : ℕ) → MakesLoadOf b c.mark w c.account c.slot c.own.slot c.next nothing
    → slot ≡ c.slot + 1 → slot ≢ slots_of (account_of b c.account) → MakesNextLoad b c (rows_after c w slot announced_word)
MakesNextLoad-row b c w slot told is other = record {
  row_next = nothing;
  load = told;
  goes_on = (λ less. (is, refl), λ last. absurd (other (is ∙ last)));
}

pub IsCollectingRowsSo-more : (b : BookTerms) (start w : Knowledge) (row : LoadingRowTerms) (list : List OpenRequest) (made : ℕ) (next : NextRowLoad)
    → IsCollectingRowsSo start row list made → row.next ≢ nothing → w.book ≡ row.mark.book → next ≢ nothing
    → MakesLoadOf b row.mark w row.account row.slot row.own.slot row.next next → IsCollectingRowsSo start (row_after row w next) list (made + 1)
IsCollectingRowsSo-more b start w row list made next so left book goes told =
    let amid = so.amid left in
    let (turns, few, mine) = next-MakesLoadOf b row.mark w row.account row.slot row.own.slot row.next next told goes amid.few amid.own_row in
    record {
      seat = so.seat;
      asked = so.asked;
      book = book ∙ so.book;
      amid = λ _. record {
        slot_in = amid.slot_in;
        before = amid.before;
        so_far = amid.so_far;
        turns = omega (arith, amid.turns, turns);
        few = few;
        own_row = mine;
      };
    }

-- so many turns were made at most
pub made-IsCollectingRowsSo : (start : Knowledge) (row : LoadingRowTerms) (list : List OpenRequest) (made : ℕ) → IsCollectingRowsSo start row list made → row.next ≢ nothing
    → made + 1 ≤ slots_of (account_of start.book row.account) + REQUEST_WORDS * (slots_of (account_of start.book row.account) - 1)
made-IsCollectingRowsSo start row list made so left =
    let amid = so.amid left in
    let slots = slots_of (account_of start.book row.account) in
    elim (cases_lt row.own.slot row.slot) as (λ _. made + 1 ≤ slots + REQUEST_WORDS * (slots - 1)) [
      | inl past ↦ omega (arith, amid.so_far.steps_after past, amid.so_far.few, amid.turns, amid.few, amid.slot_in)
      | inr ahead ↦
          elim (cases_lt row.slot row.own.slot) as (λ _. made + 1 ≤ slots + REQUEST_WORDS * (slots - 1)) [
            | inl below ↦ omega (arith, amid.so_far.steps_before (omega (arith, ahead)), amid.so_far.few, amid.turns, amid.few, below, so.asked.slot_in.within)
            | inr at ↦
                omega (
                  arith,
                  amid.so_far.steps_before (omega (arith, ahead)),
                  amid.so_far.few,
                  amid.turns,
                  amid.own_row (omega (arith, ahead, at)),
                  amid.slot_in,
                )
          ]
    ]

-- a row is whole
pub IsCollectingRows-IsCollectingRowsSo : (start w : Knowledge) (row : LoadingRowTerms) (list : List OpenRequest) (made : ℕ) (found : Option OpenRequest)
    → IsCollectingRowsSo start row list made → row.next ≢ nothing → LoadsRow row.start w row.account row.slot row.own found
    → row_turns row.next + 1 ≡ row_steps row.own.slot row.slot found
    → IsCollectingRows start w row.account row.own (list ++ option_to_list found) (row.slot + 1) (made + 1)
IsCollectingRows-IsCollectingRowsSo start w row list made found so left told steps =
    let amid = so.amid left in
    let has : HasAccount start row.account = HasAccount-IsSeat start start.first (own_part start).published row.account so.seat so.asked.slot_in.account_in in
    let turns : amid.before + row_steps row.own.slot row.slot found ≡ made + 1 = omega (arith, amid.turns, steps) in
    subst (λ n. IsCollectingRows start w row.account row.own (list ++ option_to_list found) (row.slot + 1) n) turns
    (IsCollectingRows-row start row.start w row.account row.own list row.slot amid.before found has amid.so_far told)

-- that of the next slot begins
pub IsCollectingRowsSo-row : (start w : Knowledge) (row : LoadingRowTerms) (list : List OpenRequest) (made slot : ℕ) (all : List OpenRequest) → IsCollectingRowsSo start row list made
    → w.book ≡ row.mark.book → slot < slots_of (account_of start.book row.account) → IsCollectingRows start w row.account row.own all slot (made + 1)
    → IsCollectingRowsSo start (starting_row w row.account slot row.own) all (made + 1)
IsCollectingRowsSo-row start w row list made slot all so book slot_in so_far = record {
  seat = so.seat;
  asked = so.asked;
  book = book ∙ so.book;
  amid = λ left. record {
    slot_in = slot_in;
    before = made + 1;
    so_far = so_far;
    turns = omega arith;
    few = omega arith;
    own_row = λ at. refl;
  };
}

-- all rows are whole
pub record HasCollected (b : BookTerms) (v w : Knowledge) (a : ℕ) (own : OpenRequest) (list : List OpenRequest) (made : ℕ) : Type 0 where
  pub collected : HasLoadedRows b w a own.slot
  pub rows : CollectsRows b v w a own list
  pub candidates : AreCandidates v w a own.slot list
  pub own_is : HasAsked b w a own
  pub turns : made ≡ slots_of (account_of b a) + REQUEST_WORDS * (length list - 1)
  pub few : length list ≤ slots_of (account_of b a)

pub HasCollected-IsCollectingRows : (b : BookTerms) (v w : Knowledge) (a : ℕ) (own : OpenRequest) (list : List OpenRequest) (slot made : ℕ) → v.book ≡ b → IsKept v
    → HasAsked v.book v a own → slot ≡ slots_of (account_of b a) → IsCollectingRows v w a own list slot made → HasCollected b v w a own list made
HasCollected-IsCollectingRows b v w a own list slot made book kept asked_there whole all =
    let asked : HasAsked b v a own = subst (λ (t : BookTerms). HasAsked t v a own) book asked_there in
    let has : HasAccount v a = HasAccount-IsSeat v v.first (own_part v).published a kept asked_there.slot_in.account_in in
    let some = (all.own_in (omega (arith, whole, asked.slot_in.within))).1 in
    record {
      collected = HasLoadedRows-IsCollectingRows b v w a own list slot made has asked all whole;
      rows = CollectsRows-IsCollectingRows b v w a own list slot made asked all whole;
      candidates = AreCandidates-IsCollectingRows b v w a own list slot made has asked all whole;
      own_is = HasAsked-IsCollectingRows b v w a own list slot made has asked all;
      turns = omega (arith, steps-IsCollectingRows b v w a own list slot made asked all whole, some);
      few = omega (arith, all.few, whole);
    }
