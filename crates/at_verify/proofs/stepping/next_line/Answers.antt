use Rattle.at_verify.proofs.Prelude.{common_steps, nat_tests, slice_get-get_or, slice_get_within, contents_of, get_or-contents_of, length-contents_of, call_known-at}
use Rattle.std.proofs.Common.{◌≡◌, ℕ, ◌+◌, ◌<◌, Bool, true, false, Option, None, nat_lt, [], length, get_or, Some, sym, ap, ◌∙◌, arith}
use Rattle.std.specs.Prelude.{slice_get}
use Rattle.at_verify.proofs.Walking.{next_line-only}
use Rattle.at_verify.proofs.stepping.next_line.Goals as goal

-- a process that is found is one
same_found : (p q : ℕ) → Some p ≡ Some q → p ≡ q
same_found p q is = cc

none_found : (p : ℕ) → ◌≡◌ {A = Option ℕ} None (Some p) → ⊥
none_found p is = cc

past_within : (b : Bool) → false ≡ b → b ≡ true → ⊥
past_within b past within = cc

pub returns-in_err-process-clause-only : goal.returns-in_err-process-clause-only
returns-in_err-process-clause-only c l next first =
    let count : length (contents_of c.args.files.now) ≡ length c.args.files.now = length-contents_of c.args.files.now in
    let within : l.process < c.args.book.now.processes = let h = next.process in omega arith in
    absurd (none_found l.process ((c.in_err-process.ensures.exact l.process within).1 first))

pub returns-in_err-call-clause-only : goal.returns-in_err-call-clause-only
returns-in_err-call-clause-only c l next first =
    let count : length (contents_of c.args.files.now) ≡ length c.args.files.now = length-contents_of c.args.files.now in
    let within : l.process < c.args.book.now.processes = let h = next.process in omega arith in
    let found = (c.in_ok-process.ensures.exact l.process within).1 first in
    let same : c.in_ok-process.process ≡ l.process = same_found c.in_ok-process.process l.process found in
    let file : c.index-files-process.result.items ≡ get_or (contents_of c.args.files.now) c.in_ok-process.process [] =
    sym (get_or-contents_of c.args.files.now c.in_ok-process.process c.index-files-process.result (omega arith) c.index-files-process.is) in
    let here = slice_get_within (get_or (contents_of c.args.files.now) l.process []) (get_or c.args.made.now l.process 0) l.call next.call in
    let value = c.deref.ensures.value in
    let text : c.deref.result.now ≡ get_or (contents_of c.args.files.now) l.process [] = value ∙ file ∙ ap (λ (p : ℕ). get_or (contents_of c.args.files.now) p []) same in
    let before : c.get-before.result ≡ get_or c.args.made.now l.process 0 = c.get-before.ensures ∙ ap (λ (p : ℕ). get_or c.args.made.now p 0) same in
    let past = c.in_err-call.ensures.lookup.0 in
    let inside : c.get-before.result < length c.deref.result.now = rw (text, before) here in
    absurd (let test : nat_lt c.get-before.result (length c.deref.result.now) ≡ true = grind (arith, nat_tests) in past_within _ past test)

pub step-reply-requires-clause-call_in : goal.step-reply-requires-clause-call_in
step-reply-requires-clause-call_in c =
    let inside : c.in_ok-process.process < c.args.book.now.processes = c.in_ok-process.ensures.within in
    let count : length (contents_of c.args.files.now) ≡ length c.args.files.now = length-contents_of c.args.files.now in
    let file : c.index-files-process.result.items ≡ get_or (contents_of c.args.files.now) c.in_ok-process.process [] =
    sym (get_or-contents_of c.args.files.now c.in_ok-process.process c.index-files-process.result (omega arith) c.index-files-process.is) in
    let value = c.deref.ensures.value in
    let lookup = c.in_ok-call.ensures.lookup.3 in
    let here : slice_get c.deref.result.now c.get-before.result ≡ Some c.in_ok-call.call.now =
    slice_get-get_or c.deref.result.now c.get-before.result c.in_ok-call.call.now lookup.0 ∙ ap Some (sym (lookup.1 c.in_ok-call.call.now)) in
    let known : c.in_ok-process.process < length (contents_of c.args.files.now) = omega arith in
    rw c.requires.book
    (call_known-at (length c.args.book.now.accounts) (contents_of c.args.files.now) c.in_ok-process.process c.get-before.result c.in_ok-call.call.now c.requires.files known
    (rw (← file, ← value) here))

pub returns-clause-next : goal.returns-clause-next
returns-clause-next c =
    let inside : c.in_ok-process.process < c.args.book.now.processes = c.in_ok-process.ensures.within in
    let count : length (contents_of c.args.files.now) ≡ length c.args.files.now = length-contents_of c.args.files.now in
    let file : c.index-files-process.result.items ≡ get_or (contents_of c.args.files.now) c.in_ok-process.process [] =
    sym (get_or-contents_of c.args.files.now c.in_ok-process.process c.index-files-process.result (omega arith) c.index-files-process.is) in
    let value = c.deref.ensures.value in
    let before : c.get-before.result ≡ get_or c.args.made.now c.in_ok-process.process 0 = c.get-before.ensures in
    let lookup = c.in_ok-call.ensures.lookup.3 in
    let here : slice_get c.deref.result.now c.get-before.result ≡ Some c.in_ok-call.call.now =
    slice_get-get_or c.deref.result.now c.get-before.result c.in_ok-call.call.now lookup.0 ∙ ap Some (sym (lookup.1 c.in_ok-call.call.now)) in
    let copied = c.copy.ensures in
    let known : c.in_ok-process.process < length (contents_of c.args.files.now) = omega arith in
    record {
      process = known;
      number = ap (λ (n : ℕ). n + 1) before;
      call = rw (← file, ← value, ← before) (here ∙ ap Some (sym copied));
      reply = rw copied c.step-reply.ensures.reply;
    }

pub returns-clause-only : goal.returns-clause-only
returns-clause-only c l next first =
    let count : length (contents_of c.args.files.now) ≡ length c.args.files.now = length-contents_of c.args.files.now in
    let within : l.process < c.args.book.now.processes = let h = next.process in omega arith in
    let found = (c.in_ok-process.ensures.exact l.process within).1 first in
    let same : c.in_ok-process.process ≡ l.process = same_found c.in_ok-process.process l.process found in
    ap Some (next_line-only (contents_of c.args.files.now) c.args.state.now c.args.made.now _ l (returns-clause-next c) next same)

pub get-before-requires : goal.get-before-requires
get-before-requires c = grind (arith, common_steps)

pub set-requires : goal.set-requires
set-requires c = grind (arith, common_steps)

pub overflow_add-before : goal.overflow_add-before
overflow_add-before c = grind (arith, common_steps)

pub overflow_add-result : goal.overflow_add-result
overflow_add-result c = grind (arith, common_steps)
