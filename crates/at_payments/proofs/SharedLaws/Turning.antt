-- What one round leaves of what a seat knows, and what a turn knows of the request that it waits for.
use Rattle.std.proofs.Common.{◌≡◌, ℕ, ◌+◌, ◌<◌, ◌≤◌, ◌==◌, ◌&&◌, ◌||◌, Bool, true, false, cond, List, [], ◌∷◌, ◌++◌, length, take, Some, None, refl, sym, ap, subst, ◌∙◌, arith, inl, inr}
use Rattle.at_payments.proofs.Prelude.{and_from, cases_lt, eq-eqb, or_right, append-nil, get_or_push, length_push, list_any-append, Contains, list_any, word_of, Decision, slots_of, BookTerms, HasSlot, account_of, IsPrefix-length, IsPrefix-take, IsPrefix-trans, take-IsPrefix-le, rounds-take-le, IsUnsettledAt, round-below, unsettled-after, publication_at, settles, place, prefix_of, held_after, IsPrefix, no_publication, is_settled, rounds, Cell, Round, Publication, own_part, IsKept, Asking, Knowledge, LoadedWord, Part, SeenRequest, HasAccount, request-loaded_words, loaded_words, seen_of, DecidesNext, HelpAnswers, HelpsDecide, NamesOwn, SettlesOwn, round_record, HelpingTerms, IsHelping, IsHelpingAt, heard_on, HelpTurn, Settled, More}
use Rattle.at_payments.proofs.SharedLaws.Added.{Adds, Adds-Decides, Adds-LoadsRequest, Adds-Publishes, Adds-HasLoaded, HasAccount-Adds, Adds-trans}
use Rattle.at_payments.proofs.SharedLaws.After.{HasAccount-IsAfter, IsAfter, IsAfter-Decides, IsAfter-LoadsRequest, IsAfter-Publishes, IsAfter-trans, own_part-Decides, own_part-LoadsRequest, own_part-Publishes}
use Rattle.at_payments.proofs.SharedLaws.Kept.{AreKnownWords, IsHelpingAt-IsAfter, is_settled-IsPrefix}
use Rattle.at_payments.proofs.SharedLaws.Placing.{IsSettledBy, settles-round}

module _ (b : BookTerms) (w z : Knowledge) (h : HelpingTerms) (cut : List ℕ) (d : Decision) (next : DecidesNext b w z h cut d) (has : HasAccount w h.account) where
  abbrev round_of : ℕ
  round_of = rounds h.account (prefix_of cut w.seen)

  abbrev record_of : Publication
  record_of = round_record next.publishes.loaded.first cut h.account round_of d next.publishes.request.targets

  abbrev words_loaded : List LoadedWord
  words_loaded = loaded_words (seen_of h.account next.publishes.request)

  after_decides : IsAfter w next.decided h.account 1 []
  after_decides = IsAfter-Decides b w next.decided h.account round_of next.proposal (word_of d) has next.decides.decides

  has_decided : HasAccount next.decided h.account
  has_decided = HasAccount-IsAfter w next.decided h.account 1 [] after_decides has

  after_loads : IsAfter next.decided next.publishes.loaded h.account 0 words_loaded
  after_loads = IsAfter-LoadsRequest b next.decided next.publishes.loaded h.account d.slot d.number next.publishes.request has_decided next.publishes.loads

  has_loaded : HasAccount next.publishes.loaded h.account
  has_loaded = HasAccount-IsAfter next.decided next.publishes.loaded h.account 0 words_loaded after_loads has_decided

  -- one exchange more, and the words of the request that was decided
  pub IsAfter-DecidesNext : IsAfter w z h.account 1 (words_loaded ++ [])
  IsAfter-DecidesNext =
      IsAfter-trans w next.decided z h.account 1 0 [] (words_loaded ++ []) after_decides
      (IsAfter-trans next.decided next.publishes.loaded z h.account 0 0 words_loaded [] after_loads
      (IsAfter-Publishes b next.publishes.loaded z h.account record_of has_loaded.part next.publishes.published))

  -- no request more
  pub Adds-DecidesNext : Adds b w z h.account []
  Adds-DecidesNext =
      Adds-trans b w next.decided z h.account [] [] (Adds-Decides b w next.decided h.account round_of next.proposal (word_of d) has next.decides.decides)
      (Adds-trans b next.decided next.publishes.loaded z h.account [] []
      (Adds-LoadsRequest b next.decided next.publishes.loaded h.account d.slot d.number next.publishes.request has_decided next.publishes.loads)
      (Adds-Publishes b next.publishes.loaded z h.account record_of has_loaded.part refl refl next.publishes.published))

  -- one record more
  pub published-DecidesNext : (own_part z).published ≡ (own_part w).published + 1
  published-DecidesNext =
      ap (λ (q : Part). q.published) (own_part-Publishes b next.publishes.loaded z record_of has_loaded.part next.publishes.published)
      ∙ ap (λ k. k + 1)
      (ap (λ (q : Part). q.published) (own_part-LoadsRequest b next.decided next.publishes.loaded h.account d.slot d.number next.publishes.request has_decided.part next.publishes.loads)
      ∙ ap (λ (q : Part). q.published) (own_part-Decides b w next.decided h.account round_of next.proposal (word_of d) has.part next.decides.decides))

  -- the cell that was won is given up by the record, whose view is the cut of the proposal
  given_up : held_after record_of next.decides.decides.held ≡ None
  given_up =
      let told = next.decides.decides in
      let met = told.met in
      elim (cases_lt round_of (length (met.state.cells h.account))) as (λ _. held_after record_of told.held ≡ None) [
        | inl stood ↦ ap (held_after record_of) (met.stood stood).1
        | inr undecided ↦
            let won = met.undecided (omega (arith, undecided, met.within)) in
            let place_is : place cut ≡ d.place =
            sym next.at_cut ∙ (sym (ap (λ (e : Decision). e.place) won.0) ∙ ap (λ (e : Decision). e.place) next.decides.answered) in
            let gives : ((h.account == h.account) && ((round_of == round_of) && (place cut == d.place))) ≡ true =
            and_from (h.account == h.account) ((round_of == round_of) && (place cut == d.place)) (eq-eqb h.account h.account refl)
            (and_from (round_of == round_of) (place cut == d.place) (eq-eqb round_of round_of refl) (eq-eqb (place cut) d.place place_is)) in
            let cell : Cell = record { account = h.account; round = round_of } in
            ap (held_after record_of) won.1 ∙ ap (λ (t : Bool). cond t None (Some cell)) gives
      ]

  pub free-DecidesNext : (own_part z).held ≡ None
  free-DecidesNext =
      let x_held = ap (λ (q : Part). q.held) (own_part-Decides b w next.decided h.account round_of next.proposal (word_of d) has.part next.decides.decides) in
      let y_held = ap (λ (q : Part). q.held) (own_part-LoadsRequest b next.decided next.publishes.loaded h.account d.slot d.number next.publishes.request has_decided.part next.publishes.loads) in
      ap (λ (q : Part). q.held) (own_part-Publishes b next.publishes.loaded z record_of has_loaded.part next.publishes.published)
      ∙ (ap (held_after record_of) (y_held ∙ x_held) ∙ given_up)

  -- the record is the last that was seen
  abbrev position_of : ℕ
  position_of = length (next.publishes.loaded.seen ++ next.publishes.published.between)

  pub within-DecidesNext : position_of < length z.seen
  within-DecidesNext =
      omega (
        arith,
        ap (λ (list : List Publication). length list) next.publishes.published.seen,
        length_push (next.publishes.loaded.seen ++ next.publishes.published.between) record_of,
      )

  pub record-DecidesNext : publication_at z.seen position_of ≡ record_of
  record-DecidesNext =
      ap (λ (list : List Publication). publication_at list position_of) next.publishes.published.seen
      ∙ get_or_push (next.publishes.loaded.seen ++ next.publishes.published.between) record_of no_publication position_of refl

  entry_is : (publication_at z.seen position_of).entry ≡ Round h.account round_of d next.publishes.request.targets
  entry_is = ap (λ (x : Publication). x.entry) record-DecidesNext

  pub IsSettledBy-DecidesNext : NamesOwn h d → IsSettledBy z h round_of d
  IsSettledBy-DecidesNext own = record {
    position = position_of;
    within = within-DecidesNext;
    targets = next.publishes.request.targets;
    entry = entry_is;
    slot_is = own.0;
    number_is = own.1;
  }

  -- one round more
  pub rounds-DecidesNext : rounds h.account (prefix_of cut w.seen) + 1 ≤ rounds h.account z.seen
  rounds-DecidesNext =
      omega (
        arith,
        round-below b z.seen position_of (length z.seen) h.account round_of d next.publishes.request.targets next.publishes.published.history within-DecidesNext
            within-DecidesNext entry_is,
        rounds-take-le h.account (length z.seen) z.seen,
      )

  -- the decided request is settled
  settled_there : is_settled h.account next.publishes.request.slot next.publishes.request.number z.seen ≡ true
  settled_there =
      let y = next.publishes.request in
      let test : Publication → Bool = λ x. settles h.account y.slot y.number x.entry in
      let list : List Publication = next.publishes.loaded.seen ++ next.publishes.published.between in
      let here : test record_of ≡ true = settles-round h.account y.slot y.number round_of d y.targets (sym next.publishes.loads.slot_is) (sym next.publishes.loads.number_is) in
      ap (list_any test) next.publishes.published.seen
      ∙ (list_any-append test list (record_of ∷ []) ∙ or_right (list_any test list) (test record_of || false) (ap (λ t. t || false) here))

  -- so is the own one, where that is named
  pub settled-DecidesNext : NamesOwn h d → is_settled h.account h.own.slot h.own.number z.seen ≡ true
  settled-DecidesNext own =
      subst (λ s. is_settled h.account s h.own.number z.seen ≡ true) (next.publishes.loads.slot_is ∙ own.0)
      (subst (λ n. is_settled h.account next.publishes.request.slot n z.seen ≡ true) (next.publishes.loads.number_is ∙ own.1) settled_there)

  known_words : AreKnownWords h z.seen (words_loaded ++ [])
  known_words l there =
      let among : Contains words_loaded l = subst (λ (ls : List LoadedWord). Contains ls l) (append-nil words_loaded) there in
      inr (subst (λ (y : SeenRequest). is_settled h.account y.slot y.number z.seen ≡ true) (sym (request-loaded_words (seen_of h.account next.publishes.request) l among)) settled_there)

  cut_before : IsPrefix (prefix_of cut w.seen) z.seen
  cut_before = IsPrefix-trans (prefix_of cut w.seen) w.seen z.seen (IsPrefix-take (place cut) w.seen) IsAfter-DecidesNext.more

  -- the helping waits still
  pub IsHelping-DecidesNext : IsHelpingAt b w (prefix_of cut w.seen) h → IsHelping b z h
  IsHelping-DecidesNext is =
      IsHelpingAt-IsAfter b w z (prefix_of cut w.seen) z.seen h 1 (words_loaded ++ []) IsAfter-DecidesNext free-DecidesNext cut_before known_words is

  pub heard-DecidesNext : heard_on z h.account ≡ heard_on w h.account
  heard-DecidesNext = ap (λ (t : Asking). t.heard) IsAfter-DecidesNext.asking

  -- of the rounds that may be decided before it one is left at least
  pub overtaken-DecidesNext : place cut ≤ length w.seen → IsKept z → z.book ≡ b → IsHelpingAt b w (prefix_of cut w.seen) h → ¬ NamesOwn h d
      → round_of + 2 ≤ heard_on z h.account + slots_of (account_of b h.account)
  overtaken-DecidesNext inside kept book is other =
      let a = h.account in
      let waits = IsHelping-DecidesNext is in
      let same : take (place cut) z.seen ≡ prefix_of cut w.seen = take-IsPrefix-le (place cut) w.seen z.seen inside IsAfter-DecidesNext.more in
      let at : IsUnsettledAt z.seen a h.own.slot h.own.number round_of (place cut) = record {
        within = omega (arith, inside, IsPrefix-length w.seen z.seen IsAfter-DecidesNext.more);
        rounds_are = ap (rounds a) same;
        unsettled = ap (is_settled a h.own.slot h.own.number) same ∙ next.unsettled;
      } in
      let (j, then) = unsettled-after b z.seen a h.own.slot h.own.number round_of (place cut) position_of d next.publishes.request.targets
      next.publishes.published.history at within-DecidesNext entry_is (λ slot_is number_is. other (slot_is, number_is)) in
      let has_slot : HasSlot z.book z.first a h.own.slot = subst (λ t. HasSlot t z.first a h.own.slot) (sym book) waits.asked.slot_in in
      omega (
        arith,
        kept.overtaken a h.own.slot h.own.number j has_slot waits.asked.last then.within then.unsettled,
        then.rounds_are,
        ap (λ (t : BookTerms). slots_of (account_of t a)) book,
      )

-- a turn announces no request
Adds-HelpsDecide : (b : BookTerms) (v z : Knowledge) (h : HelpingTerms) (d : Decision) → HasAccount v h.account → HelpsDecide b v z h d
    → Adds b v z h.account []
Adds-HelpsDecide b v z h d has helps =
    let w : Knowledge = helps.looked in
    let looks = Adds-HasLoaded b v w h.account helps.cut has.part helps.loads helps.snapshot in
    Adds-trans b v w z h.account [] [] looks
    (Adds-DecidesNext b w z h helps.cut d helps.next (HasAccount-Adds b v w h.account h.account [] looks has))

pub Adds-HelpAnswers : (b : BookTerms) (v z : Knowledge) (h : HelpingTerms) (answer : HelpTurn) → HasAccount v h.account → HelpAnswers b v z h answer
    → Adds b v z h.account []
Adds-HelpAnswers b v z h (Settled answer) has (inl finds) = Adds-HasLoaded b v z h.account finds.cut has.part finds.loads finds.snapshot
Adds-HelpAnswers b v z h (Settled answer) has (inr (d, helps, own)) = Adds-HelpsDecide b v z h d has helps
Adds-HelpAnswers b v z h More has (d, helps, other) = Adds-HelpsDecide b v z h d has helps

-- where it answers that the own request is settled, that is so
pub settled-SettlesOwn : (b : BookTerms) (v z : Knowledge) (h : HelpingTerms) → HasAccount v h.account
    → SettlesOwn b v z h → is_settled h.account h.own.slot h.own.number z.seen ≡ true
settled-SettlesOwn b v z h has (inl finds) =
    is_settled-IsPrefix h.account h.own.slot h.own.number (prefix_of finds.cut z.seen) z.seen (IsPrefix-take (place finds.cut) z.seen) finds.settled
settled-SettlesOwn b v z h has (inr (d, helps, own)) =
    let w : Knowledge = helps.looked in
    let looks = Adds-HasLoaded b v w h.account helps.cut has.part helps.loads helps.snapshot in
    settled-DecidesNext b w z h helps.cut d helps.next (HasAccount-Adds b v w h.account h.account [] looks has) own
