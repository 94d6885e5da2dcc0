-- Votes of all voices: before they are made, and after.
use Rattle.std.proofs.Common.{◌≡◌, ℕ, suc, ◌^◌, ◌<◌, List, [], ◌∷◌, ◌++◌, All, length, map, get_or, take, refl, sym, ap, subst, ◌∙◌, arith, length-append}
use Rattle.std.specs.Prelude.{Contains}
use Rattle.at_agree.proofs.Prelude.{append-nil, get_or-map, length-map, length-take, Contains-get_or, BoardTerms, BookTerms, IsBegun, receipts_of, Coherent, Receipt, AreAccountedFor, ClosedTerms, IsAccountedFor, PassTerms, AllMayVote, AreCast, IsAgreement, IsCast, StandsByItself, values_of, IsCouncil, IsSize, council_book, size_of, HasVoted, AreNewVoices, HasNotProposed, IsVoiceOf, VoiceTerms, process_of, Vote}
use Rattle.at_agree.proofs.OneAnswer.{one_answer}

-- the voices of votes
abbrev pub voices_of : List Vote → List VoiceTerms
voices_of votes = map (λ x. x.voice) votes

-- a list that is as long as one that it begins is all of it
pub whole_prefix : {X : Type 0} (xs ys zs : List X) → xs ++ ys ≡ zs → length xs ≡ length zs → xs ≡ zs
whole_prefix xs [] zs is same = sym (append-nil xs) ∙ is
whole_prefix xs (y ∷ ys) zs is same = absurd (omega (arith, same, ap length is, length-append xs (y ∷ ys)))

-- while fewer votes than voices stand, a voice is left
pub voice_left : (votes : List Vote) (rest voices : List VoiceTerms) (values : List ℕ) (n : ℕ) → voices_of votes ++ rest ≡ voices
    → values_of votes ≡ take n values → n < length values → length values ≡ length voices → rest ≡ [] → ⊥
voice_left votes rest voices values n are drawn below same none =
    omega (
      arith,
      below,
      same,
      ap length are,
      length-append (voices_of votes) rest,
      ap length none,
      length-map votes (λ (x : Vote). x.voice),
      length-map votes (λ (x : Vote). x.value),
      ap length drawn,
      length-take n values,
    )

pub AllMayVote-all : (council : BoardTerms) (values : List ℕ) (voices rest : List VoiceTerms) (votes : List Vote) → AreNewVoices council voices
    → length values ≡ length voices → All (λ v. v < 2 ^ 32) values → voices_of votes ++ rest ≡ voices → values_of votes ≡ values
    → AllMayVote council values votes
AllMayVote-all council values voices rest votes new same small are drawn =
    let count_voices : length (voices_of votes) ≡ length votes = length-map votes (λ (x : Vote). x.voice) in
    let count_values : length (values_of votes) ≡ length votes = length-map votes (λ (x : Vote). x.value) in
    let all : voices_of votes ≡ voices = whole_prefix (voices_of votes) rest voices are
    (omega (arith, same, count_voices, count_values, ap length drawn)) in
    let count : length votes ≡ size_of council = omega (arith, count_voices, ap length all, new.count) in
    let here : (p : ℕ) (d : Vote) → p < length votes → get_or voices p d.voice ≡ (get_or votes p d).voice =
    λ p d within. ap (λ (vs : List VoiceTerms). get_or vs p d.voice) (sym all)
    ∙ get_or-map (λ (x : Vote). x.voice) votes p d d.voice within in
    record {
      ready = λ p d within.
          let is = new.each p d.voice (omega (arith, within, count)) in
          let value : get_or values p d.value ≡ (get_or votes p d).value =
          ap (λ (vs : List ℕ). get_or vs p d.value) (sym drawn) ∙ get_or-map (λ (x : Vote). x.value) votes p d d.value within in
          record {
            of_council = subst (λ (v : VoiceTerms). IsVoiceOf v council) (here p d within) is.pass.of_ledger;
            unproposed = subst HasNotProposed (here p d within) is.unproposed;
            small = omega (arith, value, small p d.value (omega (arith, within, count_values, ap length drawn)));
          };
      count = count;
      values_are = drawn;
      processes = λ p d known.
          let within : p < length votes = omega (arith, known, count) in
          ap process_of (sym (here p d within)) ∙ (new.each p d.voice known).pass.process_is;
    }

-- each vote is made
abbrev pub AreAllCast : BoardTerms → List Vote → List Vote → Type 0
AreAllCast council before after = (p : ℕ) (d : Vote) → p < length before → IsCast council (get_or before p d) (get_or after p d)

-- all of them are made, with the same values
values_of-made : (council : BoardTerms) (before after : List Vote) → length after ≡ length before → AreAllCast council before after
    → values_of after ≡ values_of before
values_of-made council [] [] same made = refl
values_of-made council [] (y ∷ ys) same made = absurd (omega arith)
values_of-made council (x ∷ xs) [] same made = absurd (omega arith)
values_of-made council (x ∷ xs) (y ∷ ys) same made = λ t.
    (made 0 x (omega arith)).value_is t ∷ values_of-made council xs ys (omega arith) (λ p d within. made (suc p) d (omega arith)) t

pub AreCast-all : (council : BoardTerms) (values : List ℕ) (before after : List Vote) → AllMayVote council values before
    → length after ≡ length before → AreAllCast council before after → AreCast council after × (values_of after ≡ values)
AreCast-all council values before after ready same made = (
  record {
    count = same ∙ ready.count;
    small = λ p d within.
        let one = made p d (omega (arith, within, same)) in
        omega (arith, one.value_is, (ready.ready p d (omega (arith, within, same))).small);
    each = λ p d known.
        let one = made p d (omega (arith, known, ready.count)) in
        let process = ready.processes p d known in
        let x : Vote = get_or before p d in
        let y : Vote = get_or after p d in
        let voted : HasVoted (size_of council) p x.value y.answer y.voice.receipts =
        subst (λ q. HasVoted (size_of council) q x.value y.answer y.voice.receipts) process one.voted in
        record {
          process_is = one.process_is ∙ process;
          of_council = one.of_council;
          voted = subst (λ v. HasVoted (size_of council) p v y.answer y.voice.receipts) (sym one.value_is) voted;
        };
  },
  values_of-made council before after same made ∙ ready.values_are,
)

-- the passes and receipts of all that are made are those with which the ledger is closed
pub AreAccountedFor-made : (council : BoardTerms) (votes : List Vote) (passes : List PassTerms) (receipts : List (List Receipt))
    → AreCast council votes → All StandsByItself votes → passes ≡ map (λ x. x.voice.pass) votes
    → receipts ≡ map (λ x. x.voice.receipts) votes → AreAccountedFor council passes receipts
AreAccountedFor-made council votes passes receipts made stand passes_are receipts_are =
    let pass_of : Vote → PassTerms = λ x. x.voice.pass in
    let receipts_of_one : Vote → List Receipt = λ x. x.voice.receipts in
    record {
      passes_count = ap length passes_are ∙ (length-map votes pass_of ∙ made.count);
      receipts_count = ap length receipts_are ∙ (length-map votes receipts_of_one ∙ made.count);
      each = λ p d known.
          let e : Vote = record { voice = record { pass = d; receipts = [] }; value = 0; answer = 0 } in
          let within : p < length votes = omega (arith, known, made.count) in
          let x : Vote = get_or votes p e in
          let one = made.each p e known in
          let kept = stand p e within in
          let pass_is : get_or passes p d ≡ x.voice.pass = ap (λ (ps : List PassTerms). get_or ps p d) passes_are ∙ get_or-map pass_of votes p e d within in
          let list_is : get_or receipts p [] ≡ x.voice.receipts =
          ap (λ (rs : List (List Receipt)). get_or rs p []) receipts_are ∙ get_or-map receipts_of_one votes p e [] within in
          let accounted : IsAccountedFor council p x.voice.pass x.voice.receipts = record {
            of_ledger = one.of_council;
            process_is = one.process_is;
            stands = kept.stands;
            made = kept.past;
          } in
          subst (λ (rs : List Receipt). IsAccountedFor council p (get_or passes p d) rs) (sym list_is)
          (subst (λ (q : PassTerms). IsAccountedFor council p q x.voice.receipts) (sym pass_is) accounted);
    }

-- what the closed ledger shows of them
pub IsAgreement-closed : (council : BoardTerms) (votes : List Vote) (closed : ClosedTerms) (d : Vote) → IsCouncil council
    → AreCast council votes → closed.book ≡ council.book → IsBegun closed.book → Coherent closed.book closed.closing
    → closed.closing.receipts ≡ map (λ x. x.voice.receipts) votes
    → IsAgreement (values_of votes) closed (get_or votes 0 d).answer
IsAgreement-closed council votes closed d is made book_is begun coherent receipts_are =
    let values = values_of votes in
    let k = length values in
    let size_is : k ≡ size_of council = length-map votes (λ (x : Vote). x.value) ∙ made.count in
    let size : IsSize k = subst IsSize (sym size_is) is.size in
    let book : closed.book ≡ council_book k = book_is ∙ (is.book_is ∙ ap council_book (sym size_is)) in
    let value : ℕ → ℕ = λ p. get_or values p 0 in
    let answer : ℕ → ℕ = λ p. (get_or votes p d).answer in
    let within : (p : ℕ) → p < k → p < length votes = λ p known. omega (arith, known, size_is, made.count) in
    let value_is : (p : ℕ) → p < k → value p ≡ (get_or votes p d).value =
    λ p known. get_or-map (λ (x : Vote). x.value) votes p d 0 (within p known) in
    let voted : (p : ℕ) → p < k → HasVoted k p (value p) (answer p) (receipts_of closed.closing p) =
    λ p known.
    let x : Vote = get_or votes p d in
    let list_is : receipts_of closed.closing p ≡ x.voice.receipts =
    ap (λ (rs : List (List Receipt)). get_or rs p []) receipts_are ∙ get_or-map (λ (y : Vote). y.voice.receipts) votes p d [] (within p known) in
    let one : HasVoted (size_of council) p x.value x.answer x.voice.receipts = (made.each p d (omega (arith, known, size_is))).voted in
    let sized : HasVoted k p x.value x.answer x.voice.receipts = subst (λ n. HasVoted n p x.value x.answer x.voice.receipts) (sym size_is) one in
    subst (λ (rs : List Receipt). HasVoted k p (value p) x.answer rs) (sym list_is)
    (subst (λ v. HasVoted k p v x.answer x.voice.receipts) (sym (value_is p known)) sized) in
    let small : (p : ℕ) → p < k → value p < 2 ^ 32 = λ p known. omega (arith, value_is p known, made.small p d (within p known)) in
    let begun_so : IsBegun (council_book k) = subst IsBegun book begun in
    let coherent_so : Coherent (council_book k) closed.closing = subst (λ (b : BookTerms). Coherent b closed.closing) book coherent in
    let one = one_answer k closed.closing value answer size begun_so coherent_so small voted in
    let zero_in : 0 < k = omega (arith, size.some) in
    let same : (p : ℕ) → p < k → answer p ≡ answer 0 = λ p known. one.2 p known ∙ sym (one.2 0 zero_in) in
    record {
      book_is = book;
      coherent = coherent;
      votes = λ p known. subst (λ a. HasVoted k p (value p) a (receipts_of closed.closing p)) (same p known) (voted p known);
      proposed = subst (Contains values) (sym (one.2 0 zero_in)) (Contains-get_or values one.0 0 one.1);
    }
