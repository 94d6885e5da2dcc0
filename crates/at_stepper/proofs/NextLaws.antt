-- Which step a caller's next turn makes.
use Rattle.std.specs.Prelude.{◌==◌, ◌&&◌, ◌||◌}
use Rattle.std.proofs.Common.{◌≡◌, ℕ, Option, Some, None, if◌then◌else◌, sym, ap, subst, ◌∙◌}
use Rattle.at_stepper.proofs.Prelude.{is_shared, is_single, BookTerms, account_of, is_owner, Call, Pay, Read, Transfer, Reply, Full, NotOwner, BoardStep, PassTerms, asked_by, sent_by, refusal_of, first_step, next_step, refusal_in, CallStage, BeginsCall, CallerTerms, HasLearned, IsNextOf, IsReadyFrom, next_call}

-- why a payment is refused, by the process, by its payments from single accounts, and by what it has asked for
abbrev refused_with : BookTerms → ℕ → ℕ → ℕ → ℕ → Option Reply
refused_with b source first sent asked =
    if is_owner b first source
    then (if (is_single (account_of b source) && (sent == b.own_room)) || (is_shared (account_of b source) && (asked == b.request_room)) then Some Full else None)
    else Some NotOwner

module _ (b : BookTerms) (before after : CallerTerms) (learned : HasLearned before after) where
  -- that doesn't depend on what a caller learns
  refusal_of-learned : (source : ℕ) → refusal_of b after.pass source ≡ refusal_of b before.pass source
  refusal_of-learned source =
      ap (λ p. refused_with b source p (sent_by after.pass) (asked_by after.pass source)) (ap (λ (p : PassTerms). p.knows.first) learned.pass_same)
      ∙ (ap (λ n. refused_with b source before.pass.knows.first n (asked_by after.pass source)) learned.sent
      ∙ ap (λ n. refused_with b source before.pass.knows.first (sent_by before.pass) n) (ap (λ (p : PassTerms). asked_by p source) learned.pass_same))

  refusal_in-learned : (call : Call) → refusal_in b after.pass call ≡ refusal_in b before.pass call
  refusal_in-learned (Transfer from to amount) = refusal_of-learned from
  refusal_in-learned (Read account) = λ t. None
  refusal_in-learned (Pay from targets) = refusal_of-learned from

-- of a call in the making
same_stage : (stage other : CallStage) → Some stage ≡ Some other → stage ≡ other
same_stage stage other same = cc same

pub IsNextOf-going_on : (b : BookTerms) (caller : CallerTerms) (stage : CallStage) (step : Option BoardStep) → caller.stage ≡ Some stage → step ≡ next_step b stage
    → IsNextOf b caller step
IsNextOf-going_on b caller stage step is step_is published turned after one =
    let same : one.ready ≡ caller = subst (IsReadyFrom b published caller one.ready one.stage) is one.is_ready.from in
    let stages : Some stage ≡ Some one.stage = sym is ∙ (ap (λ (c : CallerTerms). c.stage) (sym same) ∙ one.is_ready.stage_is) in
    step_is ∙ ap (next_step b) (same_stage stage one.stage stages)

-- of the next call, where none is
pub IsNextOf-begins : (b : BookTerms) (caller : CallerTerms) (step : Option BoardStep) → caller.stage ≡ None
    → step ≡ first_step (refusal_in b caller.pass (next_call caller)) → IsNextOf b caller step
IsNextOf-begins b caller step none step_is published turned after one =
    let begins : BeginsCall b published caller one.ready one.stage = subst (IsReadyFrom b published caller one.ready one.stage) none one.is_ready.from in
    step_is
    ∙ (ap first_step (sym (refusal_in-learned b (record caller { stage = one.ready.stage }) one.ready begins.learned (next_call caller)))
    ∙ sym begins.first)
