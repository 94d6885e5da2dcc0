-- Which step the turns of the machines make: just the one that each names.
use Rattle.std.proofs.Common.{◌≡◌, ℕ, ◌+◌, ◌<◌, ◌≤◌, List, Option, None, Some, if◌then◌else◌, refl, sym, ap, subst, arith, inl, inr}
use Rattle.at_machines.proofs.Prelude.{cases_lt, eq-eqb, ne_eqb, word_of, BookTerms, HasSlot, Publication, loads_of, own_part, SeatTerms, IsStep, MakesOnly, Publishes, StoresWord, record_width, Knowledge, BoardStep, BoardWord, REQUEST_WORDS, TotalSums, AppendingTerms, StoresNextWord, append_step, publication_of, store_step, AnnouncesAsked, AskingTerms, StoresNextRequestWord, ask_step, ask_step_in, ask_step_of, request_asked, loads_left, number_left, CollectingRowsTerms, MakesNextLoad, DecidingTerms, MakesStep, NextOfRound, step_in_round, MakesLoadOf, NextRowLoad, row_step, MakesLookLoad, step_at, MakesLoad, NextLoad, step_in, LookStage}

-- of a snapshot
MakesOnly-MakesLoad : (b : BookTerms) (seen : List Publication) (next : NextLoad) (before after : SeatTerms) → MakesLoad b seen next before after
    → MakesOnly b before.knows after.knows 1 (step_in next)
MakesOnly-MakesLoad b seen (NextLoad.length_of p) before after (told, more) = (refl, ((loads_of (own_part after.knows) p).last, told))
MakesOnly-MakesLoad b seen (NextLoad.view_word l) before after (same, may) = (refl, (may, ap (λ (s : SeatTerms). s.knows) same))
MakesOnly-MakesLoad b seen NextLoad.nothing before after none = absurd none

-- of a look
pub MakesOnly-MakesLookLoad : (b : BookTerms) (seen : List Publication) (stage : LookStage) (before after : SeatTerms) (now : TotalSums)
    → MakesLookLoad b seen stage before after now → MakesOnly b before.knows after.knows 1 (step_at stage)
MakesOnly-MakesLookLoad b seen (LookStage.Snap s) before after now told = MakesOnly-MakesLoad b seen s.next before after told
MakesOnly-MakesLookLoad b seen (LookStage.CatchUp c) before after now (same, word, (left, may)) =
    let step : BoardStep = BoardStep.Load (BoardWord.Record c.process (number_left c) c.loaded) in
    subst (λ t. MakesOnly b before.knows after.knows 1 (if t then None else Some step))
    (sym (ne_eqb (loads_left c) 0 (λ none. absurd (omega (arith, none, left))))) (refl, (may, ap (λ (s : SeatTerms). s.knows) same))

-- a store of a record's next word, or the one that publishes it
IsStep-store_step : (b : BookTerms) (v w : Knowledge) (stored : ℕ) → stored ≤ record_width b
    → (stored < record_width b → (n : ℕ) × StoresWord v w stored n) → (stored ≡ record_width b → (x : Publication) × Publishes b v w x)
    → IsStep b v w (store_step b v stored)
IsStep-store_step b v w stored few stores publishes =
    let length : BoardStep = BoardStep.Store (BoardWord.Length v.first) in
    let word : BoardStep = BoardStep.Store (BoardWord.Record v.first (own_part v).published stored) in
    elim (cases_lt stored (record_width b)) as (λ _. IsStep b v w (store_step b v stored)) [
      | inl inside ↦
          subst (λ t. IsStep b v w (if t then length else word)) (sym (ne_eqb stored (record_width b) (λ all. absurd (omega (arith, all, inside)))))
          ((refl, refl, inside), stores inside)
      | inr over ↦
          let all : stored ≡ record_width b = omega (arith, few, over) in
          subst (λ t. IsStep b v w (if t then length else word)) (sym (eq-eqb stored (record_width b) all)) (refl, publishes all)
    ]

-- of an append
pub MakesOnly-append : (b : BookTerms) (a : AppendingTerms) (w : Knowledge) → a.stored ≤ record_width b
    → (a.stored < record_width b → StoresNextWord a w) → (a.stored ≡ record_width b → Publishes b a.mark w (publication_of a))
    → MakesOnly b a.mark w 1 (append_step b a)
MakesOnly-append b a w few stores publishes =
    subst (λ t. MakesOnly b a.mark w 1 (if t then None else Some (store_step b a.mark a.stored)))
    (sym (ne_eqb a.stored (record_width b + 1) (λ more. absurd (omega (arith, more, few)))))
    (refl, IsStep-store_step b a.mark w a.stored few (λ inside. (_, stores inside)) (λ all. (publication_of a, publishes all)))

-- of asking, in the slot of the seat's process
IsStep-ask_step_in : (b : BookTerms) (a : AskingTerms) (w : Knowledge) (slot : ℕ) → HasSlot b a.mark.first a.account slot → a.stored < REQUEST_WORDS
    → StoresNextRequestWord b a w → IsStep b a.mark w (ask_step_in a slot)
IsStep-ask_step_in b a w slot mine inside (_, _, told) =
    let announced : BoardStep = BoardStep.Store (BoardWord.Announced a.account slot) in
    let word : BoardStep = BoardStep.Store (BoardWord.Request a.account slot _ a.stored) in
    subst (λ t. IsStep b a.mark w (if t then announced else word)) (sym (ne_eqb a.stored REQUEST_WORDS (λ all. absurd (omega (arith, all, inside)))))
    ((mine, refl, inside), (_, told))

-- the slot is found
asks_in : (b : BookTerms) (a : AskingTerms) (w : Knowledge) (slot : ℕ) → HasSlot b a.mark.first a.account slot → a.stored ≤ REQUEST_WORDS
    → IsStep b a.mark w (ask_step_in a slot) → MakesOnly b a.mark w 1 (ask_step b a)
asks_in b a w slot mine few made =
    subst (λ (s : Option ℕ). MakesOnly b a.mark w 1 (ask_step_of a s)) (sym mine.owner)
    (subst (λ t. MakesOnly b a.mark w 1 (if t then None else Some (ask_step_in a slot)))
    (sym (ne_eqb a.stored (REQUEST_WORDS + 1) (λ more. absurd (omega (arith, more, few))))) (refl, made))

pub MakesOnly-ask : (b : BookTerms) (a : AskingTerms) (w : Knowledge) → a.stored ≤ REQUEST_WORDS
    → (a.stored < REQUEST_WORDS → StoresNextRequestWord b a w) → (a.stored ≡ REQUEST_WORDS → AnnouncesAsked b a w) → MakesOnly b a.mark w 1 (ask_step b a)
MakesOnly-ask b a w few stores announces =
    elim (cases_lt a.stored REQUEST_WORDS) as (λ _. MakesOnly b a.mark w 1 (ask_step b a)) [
      | inl inside ↦
          let (slot, mine, told) = stores inside in
          asks_in b a w slot mine few (IsStep-ask_step_in b a w slot mine inside (slot, mine, told))
      | inr over ↦
          let all : a.stored ≡ REQUEST_WORDS = omega (arith, few, over) in
          let (slot, mine, told) = announces all in
          let announced : BoardStep = BoardStep.Store (BoardWord.Announced a.account slot) in
          let word : BoardStep = BoardStep.Store (BoardWord.Request a.account slot _ a.stored) in
          asks_in b a w slot mine few
          (subst (λ t. IsStep b a.mark w (if t then announced else word)) (sym (eq-eqb a.stored REQUEST_WORDS all)) (mine, (request_asked a, told)))
    ]

-- of the rows of an account
MakesOnly-MakesLoadOf : (b : BookTerms) (v w : Knowledge) (a slot own : ℕ) (load next : NextRowLoad) → MakesLoadOf b v w a slot own load next
    → MakesOnly b v w 1 (row_step a slot load)
MakesOnly-MakesLoadOf b v w a slot own NextRowLoad.announced_word next (count, told, follows) = (refl, (count, told))
MakesOnly-MakesLoadOf b v w a slot own (NextRowLoad.request_word number word) next (n, told, follows) = (refl, (n, told))
MakesOnly-MakesLoadOf b v w a slot own NextRowLoad.nothing next none = absurd none

pub MakesOnly-MakesNextLoad : (b : BookTerms) (c after : CollectingRowsTerms) → MakesNextLoad b c after
    → MakesOnly b c.mark after.mark 1 (row_step c.account c.slot c.next)
MakesOnly-MakesNextLoad b c after made = MakesOnly-MakesLoadOf b c.mark after.mark c.account c.slot c.own.slot c.next made.row_next made.load

-- of a round
pub MakesOnly-MakesStep : (b : BookTerms) (c : DecidingTerms) (w : Knowledge) (step next : NextOfRound) → MakesStep b c w step next
    → MakesOnly b c.mark w 1 (step_in_round b c step)
MakesOnly-MakesStep b c w NextOfRound.exchange next (d, proposal, told, goes) = (refl, (proposal, word_of d, told.decides))
MakesOnly-MakesStep b c w (NextOfRound.request_word d word) next ((n, told), more, last) = (refl, (n, told))
MakesOnly-MakesStep b c w (NextOfRound.record_word d word) next (few, stores, publishes) =
    (refl, IsStep-store_step b c.mark w word few (λ inside. (stores inside).0) (λ all. (publishes all).0))
MakesOnly-MakesStep b c w NextOfRound.nothing next none = absurd none
