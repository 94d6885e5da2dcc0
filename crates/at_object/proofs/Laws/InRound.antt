-- What a payment from a shared account leaves of its pass.
use Rattle.std.proofs.Common.{◌≡◌, ℕ, zero, suc, ◌==◌, ◌+◌, ◌*◌, ◌<◌, ◌≤◌, ◌&&◌, true, false, cond, List, ◌∷◌, [], ◌++◌, Some, length, take, refl, sym, ap, subst, ◌∙◌, arith, inl, inr}
use Rattle.at_object.proofs.Prelude.{cases_Bool, cases_eq, cases_lt, eq-eqb, Decision, BookTerms, HasSlot, TargetPair, amount_of, payout_of, Call, Pay, Done, Short, one_if, IsCovered, balance_after, IsHistory, IsShownDecision, IsShownRound, Publication, asking_on, loads_of, own_part, fresh_loads, IsKept, Knowledge, StandsBehind, asks_in-push, named-IsBetweenCalls, AsksOne, HasMoved, IsBetweenCalls-asked, Told-call_asked, IsBetweenCalls, HasCounted, TotalSums, first_account-payout, same_payout, IsAtRound, IsPlaced, done, full, not_owner, read, round, short, asks_in, is_at_own, is_at_round, is_success, Told, key_of, round_position, Cut, Previous, Receipt, PaysInRound, IsPass, place_at, StandsInRound, payment_reply-done, payment_reply-short, payment_reply}
use Rattle.std.specs.Prelude.{slice_index}
use Rattle.at_log.specs.declared.receipt.At.TheVariants.{Own, Round}
use Rattle.at_object.proofs.Laws.Alone.{IsPass-HasMoved}
use Rattle.at_object.proofs.Laws.Covered.{covered-round}
use Rattle.at_object.proofs.Laws.Looked.{between-IsPass}

-- so many receipts of one account, each in a round
abbrev asking_receipt : ℕ → Receipt
asking_receipt source = record { call = Pay source []; reply = Short; at = Round 0 0 }

asking_receipts : ℕ → ℕ → List Receipt
asking_receipts source zero = []
asking_receipts source (suc n) = asking_receipts source n ++ asking_receipt source ∷ []

asks_in-asking_receipts : (source n : ℕ) → asks_in source (asking_receipts source n) ≡ n
unfolding asking_receipts
asks_in-asking_receipts source zero = refl
asks_in-asking_receipts source (suc n) =
    let here : one_if (true && (source == source)) ≡ 1 = ap one_if (eq-eqb source source refl) in
    omega (arith, here, asks_in-push source (asking_receipts source n) (asking_receipt source), asks_in-asking_receipts source n)

-- a receipt that stands in a round is placed at a record of that round
IsAtRound-IsPlaced : (b : BookTerms) (p : ℕ) (list : List Publication) (earlier : List Receipt) (r : Receipt) (source : ℕ) (targets : List TargetPair)
    → IsPlaced b p list earlier r → StandsInRound (r.reply, r.at) → payout_of r.call ≡ Some (source, targets) → IsAtRound b p list earlier source targets r
IsAtRound-IsPlaced b p list earlier r source targets (read account balance call reply at) stands payout =
    let both : Cut at.view ≡ Round stands.round stands.place = sym at.at ∙ stands.at in absurd (cc both)
IsAtRound-IsPlaced b p list earlier r source targets (not_owner a ts call owner reply at) stands payout =
    let both : Previous ≡ Round stands.round stands.place = sym at ∙ stands.at in absurd (cc both)
IsAtRound-IsPlaced b p list earlier r source targets (full a ts call owner room reply at) stands payout =
    let both : Previous ≡ Round stands.round stands.place = sym at ∙ stands.at in absurd (cc both)
IsAtRound-IsPlaced b p list earlier r source targets (short a balance ts may single reply at less) stands payout =
    let both : Cut at.view ≡ Round stands.round stands.place = sym at.at ∙ stands.at in absurd (cc both)
IsAtRound-IsPlaced b p list earlier r source targets (done a ts may single reply at) stands payout =
    let both : Own at.number ≡ Round stands.round stands.place = sym at.at ∙ stands.at in absurd (cc both)
IsAtRound-IsPlaced b p list earlier r source targets (round a ts may shared at) stands payout =
    subst (λ (x : ℕ × List TargetPair). IsAtRound b p list earlier x.0 x.1 r) (same_payout (a, ts) (source, targets) (sym may.call ∙ payout)) at

-- the reply in a round says whether the balance at the receipt's place covers the amount
pub reply-IsAtRound : (b : BookTerms) (p : ℕ) (list : List Publication) (earlier : List Receipt) (source : ℕ) (targets : List TargetPair) (r : Receipt)
    → IsHistory b list → source < length b.accounts → payout_of r.call ≡ Some (source, targets) → IsAtRound b p list earlier source targets r
    → r.reply ≡ payment_reply b (take (place_at p list r.call (is_success r.reply) r.at) list) source targets
reply-IsAtRound b p list earlier source targets r history known payout at =
    let d : Decision = at.decision in
    let amount = amount_of targets in
    elim (cases_Bool d.ok) as (λ _. r.reply ≡ payment_reply b (take (place_at p list r.call (is_success r.reply) r.at) list) source targets) [
      | inl ok ↦
          let done : r.reply ≡ Done = at.reply ∙ ap (λ t. cond t Done Short) ok in
          let m = round_position source at.round list in
          let stands : place_at p list r.call (is_success r.reply) r.at ≡ m =
          ap (λ t. place_at p list r.call t r.at) (ap is_success done)
          ∙ (ap (place_at p list r.call true) at.at ∙ ap (λ a. round_position a at.round list) (first_account-payout source targets r.call payout)) in
          done
          ∙ (payment_reply-done b (take m list) source targets
          (covered-round b list at.position source at.round d targets history at.within known at.entry ok)
          ∙ ap (λ k. payment_reply b (take k list) source targets) (sym stands))
      | inr refused ↦
          let short : r.reply ≡ Short = at.reply ∙ ap (λ t. cond t Done Short) refused in
          let stands : place_at p list r.call (is_success r.reply) r.at ≡ d.place =
          ap (λ t. place_at p list r.call t r.at) (ap is_success short) ∙ ap (place_at p list r.call false) at.at in
          let shown : IsShownRound b list source at.round d targets = subst (IsShownDecision b list) at.entry (history.decisions at.position at.within) in
          let solvent : IsCovered b (take d.place list) source 0 = (history.runs d.place shown.place).covered source known in
          let less : balance_after b (take d.place list) source < amount =
          elim (cases_lt (balance_after b (take d.place list) source) amount) as (λ _. balance_after b (take d.place list) source < amount) [
            | inl less ↦ less
            | inr enough ↦
                let both : true ≡ false = sym (shown.ok.1 (omega (arith, enough, solvent))) ∙ refused in absurd (cc both)
          ] in
          short
          ∙ (payment_reply-short b (take d.place list) source targets less ∙ ap (λ k. payment_reply b (take k list) source targets) (sym stands))
    ]

module _ (b : BookTerms) (v w : Knowledge) (kept : IsKept v) (keeps : IsKept w) (book : v.book ≡ b) (same_book : w.book ≡ b)
    (was : TotalSums) (sent : ℕ) (pass : IsPass v was sent) (source slot : ℕ) (has : HasSlot b v.first source slot)
    (call : Call) (r : Receipt) (paid : PaysInRound b v w source call r) where
  between : IsBetweenCalls b v
  between = between-IsPass b v was sent book pass

  pub moved-round : HasMoved b v w
  moved-round = record {
    kept_before = kept;
    kept_after = keeps;
    book_before = book;
    book_after = same_book;
    process = paid.process_is;
    more = paid.begins;
    free = paid.free;
  }

  pub asks-round : AsksOne b v w source
  asks-round = record {
    request = paid.asked.request;
    announced = paid.asked.announced;
    elsewhere = λ c apart. ap (λ t. t.announced) (paid.asked.elsewhere c apart);
    since = paid.asked.since;
    settled = λ other number owns within. paid.asked.settled other number owns within;
    owns = paid.asked.owns;
  }

  pub IsPass-round : (now : TotalSums) → HasCounted now b w.seen → slice_index now.upto w.first ≡ (own_part w).published → IsPass w now sent
  IsPass-round now counted own_counted =
      IsPass-HasMoved b v w was now sent sent moved-round (IsBetweenCalls-asked b v w moved-round between source asks-round) counted own_counted
      (pass.sent_is ∙ sym paid.asked.owns)
      (λ a none. elim (cases_eq a source) as (λ _. (asking_on (own_part w) a).announced ≡ []) [
        | inl same ↦ absurd (none slot (subst (λ k. HasSlot b v.first k slot) (sym same) has))
        | inr apart ↦ asks-round.elsewhere a apart
            ∙ pass.unasked a (λ other mine. none other (subst (λ t. HasSlot t v.first a other) book mine))
      ])

  pub placed-round : (earlier : List Receipt) → Told b v.first v.seen earlier → IsPlaced b v.first w.seen earlier r
  placed-round earlier told =
      subst (λ p. IsPlaced b p w.seen earlier r) paid.process_is
      (paid.placed earlier (sym (told.asks source slot has) ∙ named-IsBetweenCalls b v source slot kept book between has))

  pub told-round : (targets : List TargetPair) → payout_of r.call ≡ Some (source, targets) → (earlier : List Receipt) → Told b v.first v.seen earlier
      → Told b w.first w.seen (earlier ++ r ∷ [])
  told-round targets payout earlier told =
      let behind : StandsBehind v.first v.seen w.seen r =
      inr (λ previous. subst (λ p. 2 * length v.seen ≤ key_of p w.seen previous r) paid.process_is (paid.after_start previous)) in
      Told-call_asked b v w moved-round between earlier r told (placed-round earlier told) behind source targets asks-round payout
      (ap is_at_own paid.in_round.at) (ap is_at_round paid.in_round.at)

  pub loads-round : (p : ℕ) → p < b.processes → (loads_of (own_part v) p).times + fresh_loads ≤ (loads_of (own_part w) p).times
  loads-round p known = omega (arith, paid.after_snapshot.snapshot.fresh.loaded p known, paid.after_snapshot.times p known)

  pub reply-round : (targets : List TargetPair) → payout_of r.call ≡ Some (source, targets)
      → r.reply ≡ payment_reply b (take (place_at w.first w.seen r.call (is_success r.reply) r.at) w.seen) source targets
  reply-round targets payout =
      let n = length (asking_on (own_part v) source).announced in
      let earlier = asking_receipts source n in
      reply-IsAtRound b w.first w.seen earlier source targets r (subst (λ t. IsHistory t w.seen) same_book keeps.history) has.account_in payout
      (IsAtRound-IsPlaced b w.first w.seen earlier r source targets (paid.placed earlier (asks_in-asking_receipts source n)) paid.in_round payout)
