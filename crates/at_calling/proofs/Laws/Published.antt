-- How many records each step of a call publishes: what its process has published rises by so many.
use Rattle.std.proofs.Common.{◌≡◌, ℕ, ◌+◌, ◌<◌, ◌≤◌, List, length, if◌then◌else◌, refl, sym, ap, subst, arith, inl, inr}
use Rattle.at_calling.proofs.Prelude.{cases_lt, eq-eqb, ne_eqb, word_of, BookTerms, Publication, loads_of, own_part, SeatTerms, with_load, Publishes, StoresWord, with_word, record_width, Knowledge, Part, REQUEST_WORDS, TotalSums, own_part-Decides, own_part-Publishes, published_after, AskingTerms, AnnouncesAsked, StoresNextRequestWord, request_asked, rows_after, DecidingTerms, MakesStep, NextOfRound, publishes_in, round_in, MakesLookLoad, MakesLoad, NextLoad, LookStage, MakesCallStep, publishes_of, MakesPayStep, pay_publishes_at, MakesShareStep, share_publishes_at, MakesStartStep, MakesTurnStep, publishes_at, CallStage, PayStage, ShareStage, StartStage, TurnStage}
use Rattle.at_calling.proofs.PayingAloneLaws.{published-with_part}
use Rattle.at_calling.proofs.StartingLaws.{HasSameCounts-Announces, HasSameCounts-LoadsRequestWord, HasSameCounts-MakesNextLoad, HasSameCounts-StoresRequestWord}

-- a step that publishes so many records
abbrev PublishesSo : Knowledge → Knowledge → ℕ → Type 0
PublishesSo v w n = (own_part w).published ≡ (own_part v).published + n

-- the next word of a record is stored, or after the last one the record is published
published-append : (b : BookTerms) (v w : Knowledge) (stored : ℕ) → stored ≤ record_width b
    → (stored < record_width b → (n : ℕ) × StoresWord v w stored n)
    → (stored ≡ record_width b → (own_part w).published ≡ (own_part v).published + 1)
    → PublishesSo v w (published_after (record_width b) stored)
published-append b v w stored few stores publishes =
    elim (cases_lt stored (record_width b)) as (λ _. PublishesSo v w (published_after (record_width b) stored)) [
      | inl inside ↦
          let (n, told) = stores inside in
          let none : published_after (record_width b) stored ≡ 0 =
          ap (λ t. if t then 1 else 0) (ne_eqb stored (record_width b) (λ all. absurd (omega (arith, all, inside)))) in
          omega (arith, none, ap (λ (k : Knowledge). (own_part k).published) told, published-with_part v (with_word (own_part v) stored n) refl)
      | inr over ↦
          let all : stored ≡ record_width b = omega (arith, few, over) in
          let one : published_after (record_width b) stored ≡ 1 = ap (λ t. if t then 1 else 0) (eq-eqb stored (record_width b) all) in
          omega (arith, one, publishes all)
    ]

published-Publishes : (b : BookTerms) (v w : Knowledge) (x : Publication) → 0 < length v.parts → Publishes b v w x → PublishesSo v w 1
published-Publishes b v w x part told = ap (λ (q : Part). q.published) (own_part-Publishes b v w x part told)

-- loads publish nothing
published-MakesLoad : (b : BookTerms) (seen : List Publication) (next : NextLoad) (before after : SeatTerms) → MakesLoad b seen next before after → PublishesSo before.knows after.knows 0
published-MakesLoad b seen (NextLoad.length_of p) before after (told, more) =
    let v : Knowledge = record before.knows { seen = after.knows.seen } in
    let last : ℕ = (loads_of (own_part after.knows) p).last in
    omega (arith, ap (λ (k : Knowledge). (own_part k).published) told.same, published-with_part v (with_load (own_part before.knows) p last) refl)
published-MakesLoad b seen (NextLoad.view_word l) before after (same, may) = omega (arith, ap (λ (s : SeatTerms). (own_part s.knows).published) same)
published-MakesLoad b seen NextLoad.nothing before after none = absurd none

published-MakesLookLoad : (b : BookTerms) (seen : List Publication) (stage : LookStage) (before after : SeatTerms) (now : TotalSums) → MakesLookLoad b seen stage before after now
    → PublishesSo before.knows after.knows 0
published-MakesLookLoad b seen (LookStage.Snap s) before after now told = published-MakesLoad b seen s.next before after told
published-MakesLookLoad b seen (LookStage.CatchUp c) before after now (same, word, record_seen) = omega (arith, ap (λ (s : SeatTerms). (own_part s.knows).published) same)

-- of a round the last step publishes one
published-MakesStep : (b : BookTerms) (c : DecidingTerms) (v : Knowledge) (step next : NextOfRound) → 0 < length c.mark.parts → MakesStep b c v step next
    → PublishesSo c.mark v (publishes_in b step)
published-MakesStep b c v NextOfRound.exchange next part (d, proposal, told, goes) =
    omega (arith, ap (λ (q : Part). q.published) (own_part-Decides b c.mark v c.helping.account (round_in c) proposal (word_of d) part told.decides))
published-MakesStep b c v (NextOfRound.request_word d word) next part ((n, told), more, last) =
    omega (arith, (HasSameCounts-LoadsRequestWord b c.mark v c.helping.account d.slot d.number word n told).published)
published-MakesStep b c v (NextOfRound.record_word d word) next part (few, stores, publishes) =
    published-append b c.mark v word few (λ inside. (stores inside).0) (λ all. let ((x, told), goes) = publishes all in published-Publishes b c.mark v x part told)
published-MakesStep b c v NextOfRound.nothing next part none = absurd none

-- a store of a word of a request publishes nothing, and neither does its announcement
published-ask : (b : BookTerms) (a : AskingTerms) (w : Knowledge) → a.stored ≤ REQUEST_WORDS
    → (a.stored < REQUEST_WORDS → StoresNextRequestWord b a w) → (a.stored ≡ REQUEST_WORDS → AnnouncesAsked b a w) → PublishesSo a.mark w 0
published-ask b a w few stores announces =
    elim (cases_lt a.stored REQUEST_WORDS) as (λ _. PublishesSo a.mark w 0) [
      | inl inside ↦ omega (arith, (HasSameCounts-StoresRequestWord a.mark w a.account a.stored _ (stores inside).2).published)
      | inr over ↦
          let (slot, mine, told) = announces (omega (arith, few, over)) in
          omega (arith, (HasSameCounts-Announces b a.mark w a.account slot (request_asked a) told).published)
    ]

published-MakesPayStep : (b : BookTerms) (seen : List Publication) (stage : PayStage) (before after : SeatTerms) (now : TotalSums) → 0 < length before.knows.parts
    → MakesPayStep b seen stage before after now → PublishesSo before.knows after.knows (pay_publishes_at b stage)
published-MakesPayStep b seen (PayStage.Look l) before after now part told = published-MakesLookLoad b seen l.stage before after now told
published-MakesPayStep b seen (PayStage.Append a) before after now part (mark, few, stores, publishes) =
    let at : 0 < length a.mark.parts = subst (λ (v : Knowledge). 0 < length v.parts) (sym mark) part in
    subst (λ (v : Knowledge). PublishesSo v after.knows (pay_publishes_at b (PayStage.Append a))) mark
    (published-append b a.mark after.knows a.stored few (λ inside. (_, stores inside)) (λ all. published-Publishes b a.mark after.knows _ at (publishes all)))
published-MakesPayStep b seen PayStage.Short before after now part none = absurd none

published-MakesStartStep : (b : BookTerms) (seen : List Publication) (stage : StartStage) (before after : SeatTerms) (now : TotalSums) → MakesStartStep b seen stage before after now
    → PublishesSo before.knows after.knows 0
published-MakesStartStep b seen (StartStage.Look l) before after now told = published-MakesLookLoad b seen l.stage before after now told
published-MakesStartStep b seen (StartStage.Ask a) before after now (mark, few, stores, announces) =
    subst (λ (v : Knowledge). PublishesSo v after.knows 0) mark (published-ask b a after.knows few stores announces)
published-MakesStartStep b seen (StartStage.Collect c) before after now (mark, (slot, next, told)) =
    subst (λ (v : Knowledge). PublishesSo v after.knows 0) mark
    (omega (arith, (HasSameCounts-MakesNextLoad b c (rows_after c after.knows slot next) told).published))

published-MakesTurnStep : (b : BookTerms) (seen : List Publication) (stage next : TurnStage) (before after : SeatTerms) (now : TotalSums) → 0 < length before.knows.parts
    → MakesTurnStep b seen stage next before after now → PublishesSo before.knows after.knows (publishes_at b stage)
published-MakesTurnStep b seen (TurnStage.Look l) next before after now part told = published-MakesLookLoad b seen l.stage before after now told
published-MakesTurnStep b seen (TurnStage.Decide d) (TurnStage.Decide e) before after now part (mark, told) =
    subst (λ (v : Knowledge). PublishesSo v after.knows (publishes_in b d.next)) mark
    (published-MakesStep b d after.knows d.next e.next (subst (λ (v : Knowledge). 0 < length v.parts) (sym mark) part) told)
published-MakesTurnStep b seen (TurnStage.Decide d) (TurnStage.Look l) before after now part none = absurd none
published-MakesTurnStep b seen (TurnStage.Decide d) TurnStage.Found before after now part none = absurd none
published-MakesTurnStep b seen TurnStage.Found next before after now part none = absurd none

published-MakesShareStep : (b : BookTerms) (seen : List Publication) (stage : ShareStage) (before after : SeatTerms) (now : TotalSums) → 0 < length before.knows.parts
    → MakesShareStep b seen stage before after now → PublishesSo before.knows after.knows (share_publishes_at b stage)
published-MakesShareStep b seen (ShareStage.Start s) before after now part told = published-MakesStartStep b seen s.stage before after now told
published-MakesShareStep b seen (ShareStage.Help h u) before after now part (next, told) = published-MakesTurnStep b seen u.stage next before after now part told
published-MakesShareStep b seen ShareStage.Ended before after now part none = absurd none

-- what a process has published rises by what the step of its call publishes
pub published-MakesCallStep : (b : BookTerms) (seen : List Publication) (stage : CallStage) (before after : SeatTerms) (now : TotalSums) → 0 < length before.knows.parts
    → MakesCallStep b seen stage before after now → (own_part after.knows).published ≡ (own_part before.knows).published + publishes_of b stage
published-MakesCallStep b seen (CallStage.Refuse reply) before after now part same = omega (arith, ap (λ (s : SeatTerms). (own_part s.knows).published) same)
published-MakesCallStep b seen CallStage.Refused before after now part none = absurd none
published-MakesCallStep b seen (CallStage.Read r) before after now part told = published-MakesLookLoad b seen r.looking.stage before after now told
published-MakesCallStep b seen (CallStage.PayAlone p) before after now part told = published-MakesPayStep b seen p.stage before after now part told
published-MakesCallStep b seen (CallStage.PayShared p) before after now part told = published-MakesShareStep b seen p.stage before after now part told
