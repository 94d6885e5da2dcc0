-- The four calls of a voice, one after another.
use Rattle.std.proofs.Common.{◌≡◌, ℕ, ◌^◌, ◌<◌, List, [], ◌∷◌, ◌++◌, length, length-append, sym, ap, subst, ◌∙◌, arith}
use Rattle.at_agree.proofs.Prelude.{get_or_append_left, BookTerms, Transfer, publication_at, IsHistory, IsPrefix, no_publication, Publication, BoardTerms, calls_of, receipt_at, Told, Receipt, Stands, IsCouncil, IsSize, council_book, shared_account, size_of, spent_account, value_account, HasShareDecided, HasProposed, HasVoted, KeepsPlan, chosen, share_of, named_account, HasMadeOneMore, HasNotProposed, HasRead, IsVoiceOf, VoiceTerms, process_of, seen_by}
use Rattle.at_agree.proofs.Answered.{answered-chosen}
use Rattle.at_agree.proofs.HistoryShown.{IsCouncilList-IsHistory, NamesAnew-IsHistory}
use Rattle.at_agree.proofs.VotedReceipts.{stands_as_voted}

-- what stands in a list stands in each that begins with it
same_record : (xs ys : List Publication) (m : ℕ) → IsPrefix xs ys → m < length xs → publication_at ys m ≡ publication_at xs m
same_record xs ys m (more, is) within =
    ap (λ (list : List Publication). publication_at list m) is ∙ get_or_append_left xs more no_publication m within

within_more : (xs ys : List Publication) (m : ℕ) → IsPrefix xs ys → m < length xs → m < length ys
within_more xs ys m (more, is) within = omega (arith, within, ap (λ (list : List Publication). length list) is, length-append xs more)

pub HasProposed-IsPrefix : (k p value : ℕ) (xs ys : List Publication) → IsPrefix xs ys → HasProposed k xs p value → HasProposed k ys p value
HasProposed-IsPrefix k p value xs ys before proposed =
    let same = same_record xs ys proposed.position before proposed.within in
    record {
      position = proposed.position;
      within = within_more xs ys proposed.position before proposed.within;
      process_is = ap (λ (x : Publication). x.process) same ∙ proposed.process_is;
      entry = ap (λ (x : Publication). x.entry) same ∙ proposed.entry;
    }

pub HasShareDecided-IsPrefix : (k p : ℕ) (xs ys : List Publication) → IsPrefix xs ys → HasShareDecided k xs p → HasShareDecided k ys p
HasShareDecided-IsPrefix k p xs ys before asked =
    let same = same_record xs ys asked.position before asked.within in
    record {
      position = asked.position;
      within = within_more xs ys asked.position before asked.within;
      round = asked.round;
      decision = asked.decision;
      entry = ap (λ (x : Publication). x.entry) same ∙ asked.entry;
      winner = asked.winner;
    }

-- the four receipts
module _ (council : BoardTerms) (v0 v1 v2 v3 v4 : VoiceTerms) (k p value left answer : ℕ) where
  pub HasVoted-made : HasNotProposed v0 → HasMadeOneMore council v0 v1 (Transfer p (value_account k p) value)
      → HasMadeOneMore council v1 v2 (Transfer (shared_account k) (spent_account k) (share_of k p))
      → HasRead council v2 v3 (shared_account k) left → HasRead council v3 v4 (named_account k p left) answer
      → HasVoted k p value answer v4.receipts
  HasVoted-made none paid asked found last =
      let r0 = paid.receipt in
      let r1 = asked.receipt in
      let r2 = found.made.receipt in
      let r3 = last.made.receipt in
      let push : Receipt → List Receipt → List Receipt = λ r rs. rs ++ r ∷ [] in
      let one : v1.receipts ≡ r0 ∷ [] = paid.receipts ∙ ap (push r0) none in
      let two : v2.receipts ≡ r0 ∷ r1 ∷ [] = asked.receipts ∙ ap (push r1) one in
      let three : v3.receipts ≡ r0 ∷ r1 ∷ r2 ∷ [] = found.made.receipts ∙ ap (push r2) two in
      let four : v4.receipts ≡ r0 ∷ r1 ∷ r2 ∷ r3 ∷ [] = last.made.receipts ∙ ap (push r3) three in
      record {
        left = left;
        calls = ap calls_of four
            ∙ (λ t. paid.call_is t ∷ asked.call_is t ∷ found.made.call_is t ∷ last.made.call_is t ∷ []);
        found = ap (λ (rs : List Receipt). (receipt_at rs 2).reply) four ∙ found.found;
        answered = ap (λ (rs : List Receipt). (receipt_at rs 3).reply) four ∙ last.found;
      }

-- where all that a voice has seen keeps to the plan, its answer is the value that is chosen there
pub HasProposed-answered : (council : BoardTerms) (voice : VoiceTerms) (k p value answer : ℕ) → IsCouncil council → k ≡ size_of council → p < k
    → value < 2 ^ 32 → IsVoiceOf voice council → process_of voice ≡ p → Stands voice.pass voice.receipts → HasVoted k p value answer voice.receipts
    → IsHistory council.book (seen_by voice) → KeepsPlan k (seen_by voice) → HasProposed k (seen_by voice) (chosen k (seen_by voice)) answer
HasProposed-answered council voice k p value answer is size_is known small of_council process_is stands voted history planned =
    let list = seen_by voice in
    let size : IsSize k = subst IsSize (sym size_is) is.size in
    let book_is : council.book ≡ council_book k = is.book_is ∙ ap council_book (sym size_is) in
    let so : IsHistory (council_book k) list = subst (λ (b : BookTerms). IsHistory b list) book_is history in
    let told : Told (council_book k) p list voice.receipts =
    subst (λ (b : BookTerms). Told b p list voice.receipts) (of_council.book ∙ book_is)
    (subst (λ q. Told voice.pass.knows.book q list voice.receipts) process_is stands) in
    let shown = IsCouncilList-IsHistory k list size so in
    answered-chosen k p value answer list size shown planned (NamesAnew-IsHistory k list size so)
    (stands_as_voted k p value answer list voice.receipts size known small shown told voted)
