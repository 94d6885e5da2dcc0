-- Calls of two processes change places: where one has no place, or neither moves, each is answered as before.
use Rattle.std.proofs.Common.{◌≡◌, ◌≢◌, ◌⊎◌, true, false, List, [], ◌∷◌, map, refl, sym, ap, subst, ◌∙◌, inl, inr}
use Rattle.at_journal.proofs.Prelude.{is_owner, Run, asked_in, run_from, LedgerState, Step, step, with_asked, Line, Reply, Short, run_from-cons, run_from-nil, is_success}
use Rattle.at_journal.proofs.StepCases.{SameRoom-refl, SameRoom-step, SameRoom-sym, Unmoved, Unmoved-step, asked, lacks_place, left, step-lacks_place, with_asked-with_asked}

-- the second line may be moved before the first
pub record MayPass (x y : Line) : Type 0 where
  pub apart : x.process ≢ y.process
  pub may : (lacks_place x.reply ≡ true) ⊎ (lacks_place y.reply ≡ true) ⊎ ((is_success x.reply ≡ false) × (is_success y.reply ≡ false))

-- what the ledger does with a line
abbrev pub line_step : LedgerState → Line → Step
line_step s x = step s x.process x.call

-- the second line and then the first are answered as they say, and leave what they left in their order
record Exchanged (s : LedgerState) (x y : Line) : Type 0 where
  first : (line_step s y).reply ≡ y.reply
  second : (line_step (line_step s y).ledger x).reply ≡ x.reply
  last : (line_step (line_step s x).ledger y).ledger ≡ (line_step (line_step s y).ledger x).ledger

ledger_of : (x : Step) (s : LedgerState) (reply : Reply) → x ≡ record { ledger = s; reply = reply } → x.ledger ≡ s
ledger_of x s reply e = ap (λ (z : Step). z.ledger) e

-- such a call leaves the balances
balances-Unmoved : (s t : LedgerState) (x : Line) → Unmoved s t x.process x.call → (line_step s x).ledger.balances ≡ s.balances
balances-Unmoved s t x (left reply here there) = ap (λ (z : Step). z.ledger.balances) here
balances-Unmoved s t x (asked a owner here there) = ap (λ (z : Step). z.ledger.balances) here

-- and is answered the same in the other state
reply-Unmoved : (s t : LedgerState) (x : Line) → Unmoved s t x.process x.call → (line_step s x).reply ≡ (line_step t x).reply
reply-Unmoved s t x (left reply here there) = ap (λ (z : Step). z.reply) here ∙ sym (ap (λ (z : Step). z.reply) there)
reply-Unmoved s t x (asked a owner here there) = ap (λ (z : Step). z.reply) here ∙ sym (ap (λ (z : Step). z.reply) there)

-- the first line has no place
exchange-first : (s : LedgerState) (x y : Line) → x.process ≢ y.process → lacks_place x.reply ≡ true → (line_step s x).reply ≡ x.reply
    → (line_step (line_step s x).ledger y).reply ≡ y.reply → Exchanged s x y
exchange-first s x y apart lacks one two =
    let t : LedgerState = (line_step s y).ledger in
    let told : lacks_place (line_step s x).reply ≡ true = ap lacks_place one ∙ lacks in
    let here = step-lacks_place s s x.process x.call (SameRoom-refl s x.process) told in
    let there = step-lacks_place t s x.process x.call (SameRoom-sym s t x.process (SameRoom-step s x.process y.process y.call apart)) told in
    let stays : (line_step s x).ledger ≡ s = ledger_of (line_step s x) s (line_step s x).reply here in
    record {
      first = ap (λ u. (line_step u y).reply) (sym stays) ∙ two;
      second = ap (λ (z : Step). z.reply) there ∙ one;
      last = ap (λ u. (line_step u y).ledger) stays ∙ sym (ledger_of (line_step t x) t (line_step s x).reply there);
    }

-- the second line has no place
exchange-second : (s : LedgerState) (x y : Line) → x.process ≢ y.process → lacks_place y.reply ≡ true → (line_step s x).reply ≡ x.reply
    → (line_step (line_step s x).ledger y).reply ≡ y.reply → Exchanged s x y
exchange-second s x y apart lacks one two =
    let u : LedgerState = (line_step s x).ledger in
    let told : lacks_place (line_step u y).reply ≡ true = ap lacks_place two ∙ lacks in
    let here = step-lacks_place s u y.process y.call (SameRoom-step s y.process x.process x.call (λ e. apart (sym e))) told in
    let there = step-lacks_place u u y.process y.call (SameRoom-refl u y.process) told in
    let stays : (line_step s y).ledger ≡ s = ledger_of (line_step s y) s (line_step u y).reply here in
    record {
      first = ap (λ (z : Step). z.reply) here ∙ two;
      second = ap (λ t. (line_step t x).reply) stays ∙ one;
      last = ledger_of (line_step u y) u (line_step u y).reply there ∙ ap (λ t. (line_step t x).ledger) (sym stays);
    }

-- neither moves
exchange-last : (s u v : LedgerState) (x y : Line) → x.process ≢ y.process → u ≡ (line_step s x).ledger → v ≡ (line_step s y).ledger
    → Unmoved v s x.process x.call → Unmoved s u y.process y.call → (line_step u y).ledger ≡ (line_step v x).ledger
exchange-last s u v x y apart after_x after_y (left r x_there x_here) (left k y_here y_there) =
    ledger_of (line_step u y) u k y_there ∙ (after_x ∙ (ledger_of (line_step s x) s r x_here
    ∙ (sym (after_y ∙ ledger_of (line_step s y) s k y_here) ∙ sym (ledger_of (line_step v x) v r x_there))))
exchange-last s u v x y apart after_x after_y (left r x_there x_here) (asked e theirs y_here y_there) =
    let same : u ≡ s = after_x ∙ ledger_of (line_step s x) s r x_here in
    ledger_of (line_step u y) (with_asked u y.process e) Short y_there
    ∙ (ap (λ t. with_asked t y.process e) same
    ∙ (sym (after_y ∙ ledger_of (line_step s y) (with_asked s y.process e) Short y_here) ∙ sym (ledger_of (line_step v x) v r x_there)))
exchange-last s u v x y apart after_x after_y (asked a mine x_there x_here) (left k y_here y_there) =
    let same : v ≡ s = after_y ∙ ledger_of (line_step s y) s k y_here in
    ledger_of (line_step u y) u k y_there
    ∙ (after_x ∙ (ledger_of (line_step s x) (with_asked s x.process a) Short x_here
    ∙ (ap (λ t. with_asked t x.process a) (sym same) ∙ sym (ledger_of (line_step v x) (with_asked v x.process a) Short x_there))))
exchange-last s u v x y apart after_x after_y (asked a mine x_there x_here) (asked e theirs y_here y_there) =
    let u_is : u ≡ with_asked s x.process a = after_x ∙ ledger_of (line_step s x) (with_asked s x.process a) Short x_here in
    let v_is : v ≡ with_asked s y.process e = after_y ∙ ledger_of (line_step s y) (with_asked s y.process e) Short y_here in
    let owner : is_owner s.book x.process a ≡ true = sym (ap (λ (t : LedgerState). is_owner t.book x.process a) v_is) ∙ mine in
    ledger_of (line_step u y) (with_asked u y.process e) Short y_there
    ∙ (ap (λ t. with_asked t y.process e) u_is
    ∙ (with_asked-with_asked s x.process y.process a e apart owner theirs
    ∙ (ap (λ t. with_asked t x.process a) (sym v_is) ∙ sym (ledger_of (line_step v x) (with_asked v x.process a) Short x_there))))

exchange-unmoved : (s : LedgerState) (x y : Line) → x.process ≢ y.process → is_success x.reply ≡ false → is_success y.reply ≡ false
    → (line_step s x).reply ≡ x.reply → (line_step (line_step s x).ledger y).reply ≡ y.reply → Exchanged s x y
exchange-unmoved s x y apart still_x still_y one two =
    let u : LedgerState = (line_step s x).ledger in
    let v : LedgerState = (line_step s y).ledger in
    let told : is_success (line_step s x).reply ≡ false = ap is_success one ∙ still_x in
    let money = balances-Unmoved s s x (Unmoved-step s s x.process x.call (SameRoom-refl s x.process) refl told) in
    let of_y = Unmoved-step s u y.process y.call (SameRoom-step s y.process x.process x.call (λ e. apart (sym e))) money (ap is_success two ∙ still_y) in
    let money_too = balances-Unmoved s u y of_y in
    let of_x = Unmoved-step v s x.process x.call (SameRoom-sym s v x.process (SameRoom-step s x.process y.process y.call apart)) (sym money_too) told in
    record {
      first = reply-Unmoved s u y of_y ∙ two;
      second = reply-Unmoved v s x of_x ∙ one;
      last = exchange-last s u v x y apart refl refl of_x of_y;
    }

exchange : (s : LedgerState) (x y : Line) → MayPass x y → (line_step s x).reply ≡ x.reply → (line_step (line_step s x).ledger y).reply ≡ y.reply
    → Exchanged s x y
exchange s x y pass one two =
    elim pass.may as (λ _. Exchanged s x y) [
      | inl lacks ↦ exchange-first s x y pass.apart lacks one two
      | inr rest ↦
          elim rest as (λ _. Exchanged s x y) [
            | inl lacks ↦ exchange-second s x y pass.apart lacks one two
            | inr still ↦ exchange-unmoved s x y pass.apart still.0 still.1 one two
          ]
    ]

-- the lines are answered as they say from a state on
unfoldable pub AnsweredFrom : LedgerState → List Line → Type 0
AnsweredFrom s [] = Unit {0}
AnsweredFrom s (x ∷ xs) = ((line_step s x).reply ≡ x.reply) × AnsweredFrom (line_step s x).ledger xs

-- a line that may pass two in turn passes the first
pub AnsweredFrom-exchange : (s : LedgerState) (x y : Line) (rest : List Line) → MayPass x y → AnsweredFrom s (x ∷ y ∷ rest) → AnsweredFrom s (y ∷ x ∷ rest)
unfolding AnsweredFrom
AnsweredFrom-exchange s x y rest pass answered =
    let so = exchange s x y pass answered.0 answered.1.0 in
    (so.first, (so.second, subst (λ t. AnsweredFrom t rest) so.last answered.1.1))

-- lines are a run where the ledger answers each in turn
heads : (x y : Reply) (xs ys : List Reply) → x ∷ xs ≡ y ∷ ys → (x ≡ y) × (xs ≡ ys)
heads x y xs ys e = (cc e, cc e)

pub AnsweredFrom-replies : (s : LedgerState) (lines : List Line) → map (λ l. l.reply) lines ≡ (run_from s (asked_in lines)).replies → AnsweredFrom s lines
unfolding AnsweredFrom
AnsweredFrom-replies s [] legal = tt
AnsweredFrom-replies s (x ∷ xs) legal =
    let next : LedgerState = (line_step s x).ledger in
    let parts = heads x.reply (line_step s x).reply (map (λ (l : Line). l.reply) xs) (run_from next (asked_in xs)).replies
    (legal ∙ ap (λ (r : Run). r.replies) (run_from-cons s (x.process, x.call) (asked_in xs))) in
    (sym parts.0, AnsweredFrom-replies next xs parts.1)

pub replies-AnsweredFrom : (s : LedgerState) (lines : List Line) → AnsweredFrom s lines → map (λ l. l.reply) lines ≡ (run_from s (asked_in lines)).replies
unfolding AnsweredFrom
replies-AnsweredFrom s [] answered = sym (ap (λ (r : Run). r.replies) (run_from-nil s))
replies-AnsweredFrom s (x ∷ xs) answered =
    let next : LedgerState = (line_step s x).ledger in
    (λ i. sym answered.0 i ∷ replies-AnsweredFrom next xs answered.1 i) ∙ sym (ap (λ (r : Run). r.replies) (run_from-cons s (x.process, x.call) (asked_in xs)))
