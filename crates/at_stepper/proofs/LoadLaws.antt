-- What each step of a call leaves of its seat's loads of a length: they are as they were, unless the step has loaded it. Then the last of them
-- gave what the seat has seen.
use Rattle.std.proofs.Common.{◌≡◌, ◌≢◌, ◌⊎◌, ℕ, ◌+◌, ◌<◌, ◌≤◌, List, [], ◌∷◌, ◌++◌, Option, Some, get_or, length, set, refl, sym, ap, subst, ◌∙◌, arith, inl, inr}
use Rattle.at_stepper.proofs.Prelude.{cases_eq, cases_lt, get_or-set_other, BookTerms, count_of, rounds, Publication, Request, asking_on, loads_of, no_part, own_part, part_asking, seen_as, with_asking, with_part, SeatTerms, Announces, with_request, with_decide, with_decision, LoadsAnnounced, all_of, with_row, LoadsLength, with_load, LoadsRequestWord, with_loaded, Publishes, with_record, StoresWord, with_word, StoresRequestWord, with_request_word, record_width, Asking, Knowledge, Loads, Part, REQUEST_WORDS, TotalSums, AnnouncesAsked, AskingTerms, StoresNextRequestWord, request_asked, DecidingTerms, MakesStep, NextOfRound, round_in, MakesLoadOf, NextRowLoad, MakesLookLoad, length_at, MakesLoad, NextLoad, length_in, LookStage, MakesCallStep, length_loaded, MakesPayStep, pay_length_at, MakesShareStep, share_length_at, MakesStartStep, start_length_at, MakesTurnStep, help_length_at, CallStage, PayStage, ShareStage, StartStage, TurnStage}

-- the seat's loads of a length are the same
abbrev pub HasSameLoads : ℕ → Knowledge → Knowledge → Type 0
HasSameLoads q before after = loads_of (own_part after) q ≡ loads_of (own_part before) q

-- or the step loads that length, which is then how many records the seat has seen of the process
abbrev pub LoadsOrLeaves : ℕ → Option ℕ → Knowledge → Knowledge → Type 0
LoadsOrLeaves q loaded before after =
    ((loaded ≡ Some q) × ((loads_of (own_part after) q).last ≡ count_of q after.seen)) ⊎ ((loaded ≢ Some q) × HasSameLoads q before after)

-- a part with the same loads of a length in place of the first one, if there is one
loads-set : (parts : List Part) (x : Part) (q : ℕ) → loads_of x q ≡ loads_of (get_or parts 0 no_part) q
    → loads_of (get_or (set parts 0 x) 0 no_part) q ≡ loads_of (get_or parts 0 no_part) q
loads-set [] x q same = refl
loads-set (y ∷ ys) x q same = same

module _ (q : ℕ) where
  loads-with_part : (v w : Knowledge) (x : Part) → loads_of x q ≡ loads_of (own_part v) q → w ≡ with_part v x → HasSameLoads q v w
  loads-with_part v w x same is = ap (λ (k : Knowledge). loads_of (own_part k) q) is ∙ loads-set v.parts x q same

  loads-with_asking : (v w : Knowledge) (a : ℕ) (t : Asking) → w ≡ with_asking v a t → HasSameLoads q v w
  loads-with_asking v w a t is = loads-with_part v w (part_asking (own_part v) a t) refl is

  -- stores
  loads-StoresWord : (v w : Knowledge) (j n : ℕ) → StoresWord v w j n → HasSameLoads q v w
  loads-StoresWord v w j n told = loads-with_part v w (with_word (own_part v) j n) refl told

  loads-Publishes : (b : BookTerms) (v w : Knowledge) (x : Publication) → Publishes b v w x → HasSameLoads q v w
  loads-Publishes b v w x told =
      loads-with_part (record v { seen = w.seen }) w (with_record b (own_part v) x) refl told.same

  loads-StoresRequestWord : (v w : Knowledge) (a j n : ℕ) → StoresRequestWord v w a j n → HasSameLoads q v w
  loads-StoresRequestWord v w a j n told = loads-with_asking v w a (with_request_word (asking_on (own_part v) a) j n) told

  loads-Announces : (b : BookTerms) (v w : Knowledge) (a slot : ℕ) (r : Request) → Announces b v w a slot r → HasSameLoads q v w
  loads-Announces b v w a slot r told =
      let old : Asking = asking_on (own_part v) a in
      loads-with_asking (record v { seen = w.seen; requests = v.requests ++ seen_as a slot (length old.announced) r ∷ [] }) w a
      (with_request old r (rounds a w.seen) (own_part v).loads) told.same

  -- loads of rows
  loads-LoadsRequestWord : (b : BookTerms) (v w : Knowledge) (a slot number word n : ℕ) → LoadsRequestWord b v w a slot number word n
      → HasSameLoads q v w
  loads-LoadsRequestWord b v w a slot number word n told =
      let x = seen_as a slot number told.request in
      loads-with_asking (record v { requests = v.requests ++ x ∷ [] }) w a (with_loaded (asking_on (own_part v) a) x word) told.same

  loads-LoadsAnnounced : (b : BookTerms) (v w : Knowledge) (a slot n : ℕ) → LoadsAnnounced b v w a slot n → HasSameLoads q v w
  loads-LoadsAnnounced b v w a slot n told =
      loads-with_asking (record v { seen = w.seen; requests = v.requests ++ all_of a slot told.row }) w a
      (with_row (asking_on (own_part v) a) slot n) told.same

  loads-MakesLoadOf : (b : BookTerms) (v w : Knowledge) (a slot own : ℕ) (this next : NextRowLoad) → MakesLoadOf b v w a slot own this next
      → HasSameLoads q v w
  loads-MakesLoadOf b v w a slot own NextRowLoad.announced_word next (count, told, follows) = loads-LoadsAnnounced b v w a slot count told
  loads-MakesLoadOf b v w a slot own (NextRowLoad.request_word number word) next (n, told, follows) =
      loads-LoadsRequestWord b v w a slot number word n told
  loads-MakesLoadOf b v w a slot own NextRowLoad.nothing next none = absurd none

  -- steps of a round
  loads-MakesStep : (b : BookTerms) (c : DecidingTerms) (v : Knowledge) (this next : NextOfRound) → MakesStep b c v this next → HasSameLoads q c.mark v
  loads-MakesStep b c v NextOfRound.exchange next (d, proposal, told, follows) =
      let a = c.helping.account in
      let does = told.decides in
      loads-with_part (with_decision c.mark v.seen a (round_in c) does.decision) v (with_decide (own_part c.mark) a does.held) refl does.same
  loads-MakesStep b c v (NextOfRound.request_word d word) next ((n, told), more, last) =
      loads-LoadsRequestWord b c.mark v c.helping.account d.slot d.number word n told
  loads-MakesStep b c v (NextOfRound.record_word d word) next (few, stores, publishes) =
      elim (cases_lt word (record_width b)) as (λ _. HasSameLoads q c.mark v) [
        | inl inside ↦ let ((n, told), follows) = stores inside in loads-StoresWord c.mark v word n told
        | inr over ↦ let ((x, told), follows) = publishes (omega (arith, few, over)) in loads-Publishes b c.mark v x told
      ]
  loads-MakesStep b c v NextOfRound.nothing next none = absurd none

  -- steps of asking
  loads-ask : (b : BookTerms) (a : AskingTerms) (w : Knowledge) → a.stored ≤ REQUEST_WORDS → (a.stored < REQUEST_WORDS → StoresNextRequestWord b a w)
      → (a.stored ≡ REQUEST_WORDS → AnnouncesAsked b a w) → HasSameLoads q a.mark w
  loads-ask b a w few stores announces =
      elim (cases_lt a.stored REQUEST_WORDS) as (λ _. HasSameLoads q a.mark w) [
        | inl inside ↦ loads-StoresRequestWord a.mark w a.account a.stored _ (stores inside).2
        | inr over ↦
            let (slot, mine, told) = announces (omega (arith, few, over)) in
            loads-Announces b a.mark w a.account slot (request_asked a) told
      ]

  -- a load of a length
  loads-LoadsLength : (b : BookTerms) (v w : Knowledge) (p : ℕ) → LoadsLength b v w p (loads_of (own_part w) p).last → LoadsOrLeaves q (Some p) v w
  loads-LoadsLength b v w p told =
      elim (cases_eq q p) as (λ _. LoadsOrLeaves q (Some p) v w) [
        | inl same ↦
            inl (ap (λ k. Some k) (sym same), subst (λ k. (loads_of (own_part w) k).last ≡ count_of k w.seen) (sym same) (sym told.counted))
        | inr other ↦
            let none : Loads = record { times = 0; last = 0 } in
            let n : ℕ = (loads_of (own_part w) p).last in
            let one : Loads = record { times = (loads_of (own_part v) p).times + 1; last = n } in
            inr (
              (λ some. other (cc some)),
              loads-with_part (record v { seen = w.seen }) w (with_load (own_part v) p n)
                  (get_or-set_other (own_part v).loads p q one none other) told.same,
            )
      ]

  module _ (b : BookTerms) (seen : List Publication) (before after : SeatTerms) (now : TotalSums) where
    loads-MakesLoad : (next : NextLoad) → MakesLoad b seen next before after → LoadsOrLeaves q (length_in next) before.knows after.knows
    loads-MakesLoad (NextLoad.length_of p) (told, more) = loads-LoadsLength b before.knows after.knows p told
    loads-MakesLoad (NextLoad.view_word l) (same, may) = inr ((λ some. cc some), ap (λ (s : SeatTerms). loads_of (own_part s.knows) q) same)
    loads-MakesLoad NextLoad.nothing none = absurd none

    loads-MakesLookLoad : (stage : LookStage) → MakesLookLoad b seen stage before after now
        → LoadsOrLeaves q (length_at stage) before.knows after.knows
    loads-MakesLookLoad (LookStage.Snap s) told = loads-MakesLoad s.next told
    loads-MakesLookLoad (LookStage.CatchUp c) (same, word, seen_before) = inr ((λ some. cc some), ap (λ (s : SeatTerms). loads_of (own_part s.knows) q) same)

    loads-MakesPayStep : (stage : PayStage) → MakesPayStep b seen stage before after now
        → LoadsOrLeaves q (pay_length_at stage) before.knows after.knows
    loads-MakesPayStep (PayStage.Look l) told = loads-MakesLookLoad l.stage told
    loads-MakesPayStep (PayStage.Append a) (mark, few, stores, publishes) =
        inr (
          (λ some. cc some),
          subst (λ (v : Knowledge). HasSameLoads q v after.knows) mark
              (elim (cases_lt a.stored (record_width b)) as (λ _. HasSameLoads q a.mark after.knows) [
                | inl inside ↦ loads-StoresWord a.mark after.knows a.stored _ (stores inside)
                | inr over ↦ loads-Publishes b a.mark after.knows _ (publishes (omega (arith, few, over)))
              ]),
        )
    loads-MakesPayStep PayStage.Short none = absurd none

    loads-MakesStartStep : (stage : StartStage) → MakesStartStep b seen stage before after now
        → LoadsOrLeaves q (start_length_at stage) before.knows after.knows
    loads-MakesStartStep (StartStage.Look l) told = loads-MakesLookLoad l.stage told
    loads-MakesStartStep (StartStage.Ask a) (mark, few, stores, announces) =
        inr ((λ some. cc some), subst (λ (v : Knowledge). HasSameLoads q v after.knows) mark (loads-ask b a after.knows few stores announces))
    loads-MakesStartStep (StartStage.Collect c) (mark, (slot, next, told)) =
        inr (
          (λ some. cc some),
          subst (λ (v : Knowledge). HasSameLoads q v after.knows) mark
              (loads-MakesLoadOf b c.mark after.knows c.account c.slot c.own.slot c.next told.row_next told.load),
        )

    loads-MakesTurnStep : (stage next : TurnStage) → MakesTurnStep b seen stage next before after now
        → LoadsOrLeaves q (help_length_at stage) before.knows after.knows
    loads-MakesTurnStep (TurnStage.Look l) next told = loads-MakesLookLoad l.stage told
    loads-MakesTurnStep (TurnStage.Decide d) (TurnStage.Decide e) (mark, told) =
        inr ((λ some. cc some), subst (λ (v : Knowledge). HasSameLoads q v after.knows) mark (loads-MakesStep b d after.knows d.next e.next told))
    loads-MakesTurnStep (TurnStage.Decide d) (TurnStage.Look l) none = absurd none
    loads-MakesTurnStep (TurnStage.Decide d) TurnStage.Found none = absurd none
    loads-MakesTurnStep TurnStage.Found next none = absurd none

    loads-MakesShareStep : (stage : ShareStage) → MakesShareStep b seen stage before after now
        → LoadsOrLeaves q (share_length_at stage) before.knows after.knows
    loads-MakesShareStep (ShareStage.Start s) told = loads-MakesStartStep s.stage told
    loads-MakesShareStep (ShareStage.Help h u) (next, told) = loads-MakesTurnStep u.stage next told
    loads-MakesShareStep ShareStage.Ended none = absurd none

    pub loads-MakesCallStep : (stage : CallStage) → MakesCallStep b seen stage before after now
        → LoadsOrLeaves q (length_loaded stage) before.knows after.knows
    loads-MakesCallStep (CallStage.Refuse reply) same = inr ((λ some. cc some), ap (λ (s : SeatTerms). loads_of (own_part s.knows) q) same)
    loads-MakesCallStep CallStage.Refused none = absurd none
    loads-MakesCallStep (CallStage.Read r) told = loads-MakesLookLoad r.looking.stage told
    loads-MakesCallStep (CallStage.PayAlone pay) told = loads-MakesPayStep pay.stage told
    loads-MakesCallStep (CallStage.PayShared pay) told = loads-MakesShareStep pay.stage told
