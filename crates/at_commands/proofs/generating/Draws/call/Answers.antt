use Rattle.std.proofs.Common.{◌≡◌, ◌∙◌, ◌+◌, ◌%◌, ◌==◌, ℕ, true, false, eq-eqb, refl, sym}
use Rattle.at_commands.proofs.Prelude.{ne_eqb, Read, Transfer, account_drawn, amount_drawn, call_drawn, drawn, kind_drawn, next_state, source_drawn, state_after_call}
use Rattle.at_commands.proofs.generating.Draws.call.Goals as goal
use Rattle.at_commands.proofs.generating.Draws.call.Goals.{then-kind-eq1, else-kind-eq1}

-- the draws of a call, over plain variables: `cc` would look at all that is known of each
first-drawn : (x next number : ℕ) → number ≡ drawn next → next ≡ next_state x → number % 4 ≡ kind_drawn x
first-drawn x next number is first = rw (is, first) refl

second-drawn : (x one two number from processes : ℕ) → number ≡ drawn two → two ≡ next_state one → one ≡ next_state x → from ≡ processes + 1
    → number % from ≡ account_drawn processes x
second-drawn x one two number from processes is second first above = rw (is, second, first, above) refl

third-drawn : (x one two three number : ℕ) → number ≡ drawn three → three ≡ next_state two → two ≡ next_state one → one ≡ next_state x
    → 1 + number % 100 ≡ amount_drawn x
third-drawn x one two three number is third second first = rw (is, third, second, first) refl

read-drawn : (processes process x kind account : ℕ) → kind ≡ kind_drawn x → kind ≡ 0 → account ≡ account_drawn processes x → Read account ≡ call_drawn processes process x
unfolding call_drawn
read-drawn processes process x kind account is zero account_is =
    let test : kind_drawn x == 0 ≡ true = eq-eqb _ _ (sym is ∙ zero) in
    rw (test, account_is) refl

transfer-drawn : (processes process x kind source account amount : ℕ) → kind ≡ kind_drawn x → (kind ≡ 0 → ⊥) → source ≡ source_drawn processes process x
    → account ≡ account_drawn processes x → amount ≡ amount_drawn x → Transfer source account amount ≡ call_drawn processes process x
unfolding call_drawn
transfer-drawn processes process x kind source account amount is other source_is account_is amount_is =
    let test : kind_drawn x == 0 ≡ false = ne_eqb _ _ (λ zero. other (is ∙ zero)) in
    rw (test, source_is, account_is, amount_is) refl

state-read : (x kind one two : ℕ) → kind ≡ kind_drawn x → kind ≡ 0 → two ≡ next_state one → one ≡ next_state x → two ≡ state_after_call x
unfolding state_after_call
state-read x kind one two is zero second first =
    let test : kind_drawn x == 0 ≡ true = eq-eqb _ _ (sym is ∙ zero) in
    rw (test, second, first) refl

state-transfer : (x kind one two three : ℕ) → kind ≡ kind_drawn x → (kind ≡ 0 → ⊥) → three ≡ next_state two → two ≡ next_state one → one ≡ next_state x
    → three ≡ state_after_call x
unfolding state_after_call
state-transfer x kind one two three is other third second first =
    let test : kind_drawn x == 0 ≡ false = ne_eqb _ _ (λ zero. other (is ∙ zero)) in
    rw (test, third, second, first) refl

pub returns-then-kind-eq0-clause-call : goal.returns-then-kind-eq0-clause-call
returns-then-kind-eq0-clause-call c =
    let x = c.args.self.now.state in
    let first = c.draw-kind.ensures in
    let kind : c.draw-kind.result % 4 ≡ kind_drawn x = first-drawn x _ _ first.number first.state in
    let second = c.draw.ensures in
    read-drawn _ _ x _ _ kind c.if-kind-eq0.true
    (second-drawn x _ _ _ _ _ second.number second.state first.state c.from.ensures)

pub returns-then-kind-eq0-clause-state : goal.returns-then-kind-eq0-clause-state
returns-then-kind-eq0-clause-state c =
    let x = c.args.self.now.state in
    let first = c.draw-kind.ensures in
    let kind : c.draw-kind.result % 4 ≡ kind_drawn x = first-drawn x _ _ first.number first.state in
    let second = c.draw.ensures in
    state-read x _ _ _ kind c.if-kind-eq0.true second.state first.state

pub returns-clause-call : goal.returns-clause-call
returns-clause-call c =
    let x = c.args.self.now.state in
    let first = c.draw-kind.ensures in
    let kind : c.draw-kind.result % 4 ≡ kind_drawn x = first-drawn x _ _ first.number first.state in
    let second = c.draw.ensures in
    let third = c.draw-2.ensures in
    let source : c.if-kind-eq1.result ≡ source_drawn c.args.processes c.args.process x =
    elim c.if-kind-eq1.branch [
      | then-kind-eq1 w ↦
          let one : kind_drawn x == 1 ≡ true = eq-eqb _ _ (sym kind ∙ w.if-kind-eq1.true) in
          rw one (cc)
      | else-kind-eq1 w ↦
          let other : kind_drawn x == 1 ≡ false = ne_eqb _ _ (λ one. w.if-kind-eq1.false (kind ∙ one)) in
          rw other (cc)
    ] in
    transfer-drawn _ _ x _ _ _ _ kind c.if-kind-eq0.false source (second-drawn x _ _ _ _ _ second.number second.state first.state c.from.ensures)
    (third-drawn x _ _ _ _ third.number third.state second.state first.state)

pub returns-clause-state : goal.returns-clause-state
returns-clause-state c =
    let x = c.args.self.now.state in
    let first = c.draw-kind.ensures in
    let kind : c.draw-kind.result % 4 ≡ kind_drawn x = first-drawn x _ _ first.number first.state in
    let second = c.draw.ensures in
    let third = c.draw-2.ensures in
    state-transfer x _ _ _ _ kind c.if-kind-eq0.false third.state second.state first.state
