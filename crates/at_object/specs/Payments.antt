-- What a payment answers, and the bounds of the calls.
use Rattle.std.specs.Prelude.{◌≡◌, ℕ, ◌+◌, ◌*◌, ◌⊎◌, ◌&&◌, ◌||◌, ◌==◌, Bool, List, take, Option, Some, None, if◌then◌else◌, refl}
use Rattle.at_object.specs.Prelude.{is_shared, is_single, slots_of, BookTerms, account_of, is_owner, TargetPair, first_account, Call, Reply, Done, Short, NotOwner, Full, Balance, place, Publication, RECORD_WORDS, is_success, own_position, round_position, At, Cut, Own, Round, Previous, Receipt, asking_steps, round_steps, payment_reply, snapshot_steps}
use Rattle.at_object.specs.Passes.{PassTerms, asked_by, sent_by}

-- where a receipt stands in a list of publications: at its cut, at its own record, at the first record of its round where it
-- moved, and else at the round's decision
abbrev pub place_at : ℕ → List Publication → Call → Bool → At → ℕ
place_at process list call moved (Cut view) = place view
place_at process list call moved (Own number) = own_position process number list
place_at process list call moved (Round round at) = if moved then round_position (first_account call) round list else at
place_at process list call moved Previous = 0

-- where a receipt stands in what the pass has seen (`place_at`)
abbrev pub place_of : PassTerms → Receipt → ℕ
place_of pass r = place_at pass.knows.first pass.knows.seen r.call (is_success r.reply) r.at

-- the publications before the place of a receipt
abbrev pub prefix_before : PassTerms → Receipt → List Publication
prefix_before pass r = take (place_of pass r) pass.knows.seen

-- the process has used up its room for payments from the account
abbrev pub has_used_up : BookTerms → PassTerms → ℕ → Bool
has_used_up b pass source =
    (is_single (account_of b source) && (sent_by pass == b.own_room))
    || (is_shared (account_of b source) && (asked_by pass source == b.request_room))

-- why the process can't pay from the account, whatever the balance: not-owner comes before full
abbrev pub refusal_of : BookTerms → PassTerms → ℕ → Option Reply
refusal_of b pass source =
    if is_owner b pass.knows.first source then (if has_used_up b pass source then Some Full else None) else Some NotOwner

-- why a call is refused so
abbrev pub refusal_in : BookTerms → PassTerms → Call → Option Reply
refusal_in b pass (Call.Transfer from to amount) = refusal_of b pass from
refusal_in b pass (Call.Read account) = None
refusal_in b pass (Call.Pay from targets) = refusal_of b pass from

-- what a payment answers: not-owner comes first, then full, then short, where the balance at the receipt's place is below the sum
abbrev pub reply_of : BookTerms → PassTerms → PassTerms → ℕ → List TargetPair → Receipt → Reply
reply_of b before after source targets r =
    if is_owner b before.knows.first source
    then (if has_used_up b before source then Full else payment_reply b (prefix_before after r) source targets)
    else NotOwner

-- the call was refused before it looked at any balance. Not-owner or full
abbrev pub IsRefused : Receipt → Type 0
IsRefused r = (r.reply ≡ NotOwner) ⊎ (r.reply ≡ Full)

-- it was decided by a balance. Done or short
abbrev pub IsDecidedByBalance : Receipt → Type 0
IsDecidedByBalance r = (r.reply ≡ Done) ⊎ (r.reply ≡ Short)

-- how many payments from single accounts have succeeded after one more
abbrev pub sent_after : ℕ → Reply → ℕ
sent_after sent Done = sent + 1
sent_after sent Short = sent
sent_after sent NotOwner = sent
sent_after sent Full = sent
sent_after sent (Balance amount) = sent

-- the most steps of a payment from an account of one owner, of n processes
abbrev pub single_steps : ℕ → ℕ
single_steps n = snapshot_steps n + (RECORD_WORDS + n + 1)

-- of three, as a number: whoever changes the bound changes this too
pub single_steps-3 : single_steps 3 ≡ 26
single_steps-3 = refl

-- and from an account of k owners
abbrev pub shared_steps : ℕ → ℕ → ℕ
shared_steps n k = snapshot_steps n + asking_steps k + k * (snapshot_steps n + round_steps n)

pub shared_steps-3 : shared_steps 3 3 ≡ 136
shared_steps-3 = refl

-- the most steps of a payment, beside the loads of records that its totals count
abbrev pub payment_steps : BookTerms → ℕ → ℕ
payment_steps b source =
    if is_shared (account_of b source) then shared_steps b.processes (slots_of (account_of b source)) else single_steps b.processes
