-- The voices of a new council: one for each pass of its ledger.
use Rattle.std.proofs.Common.{◌≡◌, ℕ, ◌<◌, List, [], ◌∷◌, ◌++◌, All, length, map, get_or, sym, ap, subst, ◌∙◌, arith, length-append}
use Rattle.at_agree.proofs.Prelude.{get_or-append_seam, get_or-map, length-map, BoardTerms, BookTerms, Receipt, AreNewPasses, IsNewPass, PassTerms, PastCall, Stands, size_of, AreNewVoices, HasNotProposed, IsVoice, MayProposeValue, VoiceTerms}

-- the pass after so many is that of this process
pub IsNewPass-at : (ledger : BoardTerms) (passes done left : List PassTerms) (pass : PassTerms) → AreNewPasses ledger passes
    → passes ≡ done ++ pass ∷ left → (length done < size_of ledger) × IsNewPass ledger (length done) pass
IsNewPass-at ledger passes done left pass new parts =
    let within : length done < size_of ledger =
    omega (arith, new.count, ap (λ (ps : List PassTerms). length ps) parts, length-append done (pass ∷ left)) in
    let here : get_or passes (length done) pass ≡ pass =
    ap (λ (ps : List PassTerms). get_or ps (length done) pass) parts ∙ get_or-append_seam done pass left pass in
    (within, subst (IsNewPass ledger (length done)) here (new.each (length done) pass within))

-- what the type of a voice keeps, when no call is made yet
pub IsVoice-new : (ledger : BoardTerms) (p : ℕ) (pass : PassTerms) (receipts : List Receipt) → p < size_of ledger → IsNewPass ledger p pass
    → receipts ≡ [] → IsVoice (record { pass = pass; receipts = receipts })
IsVoice-new ledger p pass receipts known new none = record {
  stands = subst (λ (rs : List Receipt). Stands pass rs) (sym none) new.stands;
  past = ap (λ (calls : List PastCall). map (λ (c : PastCall). c.receipt) calls) new.past_none ∙ sym none;
  known = omega (arith, known, new.process_is, ap (λ (b : BookTerms). b.processes) new.of_ledger.book);
  few = omega (arith, ap (λ (rs : List Receipt). length rs) none);
}

pub AreNewVoices-all : (ledger : BoardTerms) (passes : List PassTerms) (voices : List VoiceTerms) → AreNewPasses ledger passes
    → map (λ v. v.pass) voices ≡ passes → All HasNotProposed voices → AreNewVoices ledger voices
AreNewVoices-all ledger passes voices new same unproposed =
    let f : VoiceTerms → PassTerms = λ v. v.pass in
    let count : length voices ≡ size_of ledger =
    sym (length-map voices f) ∙ (ap (λ (ps : List PassTerms). length ps) same ∙ new.count) in
    record {
      count = count;
      each = λ p d known.
          let here : get_or passes p d.pass ≡ (get_or voices p d).pass =
          ap (λ (ps : List PassTerms). get_or ps p d.pass) (sym same) ∙ get_or-map f voices p d d.pass (omega (arith, known, count)) in
          record {
            pass = subst (IsNewPass ledger p) here (new.each p d.pass known);
            unproposed = unproposed p d (omega (arith, known, count));
          };
    }

-- each of them can propose
pub new_may_propose : (council : BoardTerms) (voices : List VoiceTerms) → AreNewVoices council voices → All (MayProposeValue council) voices
new_may_propose council voices new =
    λ p d within.
    let voice = new.each p d (omega (arith, within, new.count)) in
    record { of_council = voice.pass.of_ledger; unproposed = voice.unproposed }
