-- What is left of a pass whose seat takes in what a note or an overview has.
use Rattle.std.proofs.Common.{◌≡◌, ◌≤◌, ℕ, List, length, refl, sym, ap, subst, ◌∙◌, arith, get_or}
use Rattle.at_object.proofs.Prelude.{HasSlot, IsPrefix, named, owns_of, Publication, asking_on, loads_of, own_part, IsKept, SeatTerms, Knowledge, SeenDecision, SeenRequest, named-IsBetweenCalls, AsksNothing, HasMoved, IsBetweenCalls-still, owns_of-still, Told-IsPrefix, IsBetweenCalls, StaysCounted-HasCounted, Told, Receipt, IsOfOnePass, pass_of, Stands, sent_by, Rest}
use Rattle.at_object.proofs.Laws.Alone.{IsPass-HasMoved}
use Rattle.at_object.proofs.Laws.OnePass.{IsOfOnePass-same}

-- of what the seat knows, its list, its requests and its decisions alone are others
module _ (before after : SeatTerms) (rest : Rest) (list : List Publication) (requests : List SeenRequest) (decisions : List SeenDecision)
    (pass : IsOfOnePass before rest) (kept : IsKept before.knows)
    (same : after.knows ≡ record before.knows { seen = list; requests = requests; decisions = decisions })
    (more : IsPrefix before.knows.seen after.knows.seen) (keeps : IsKept after.knows) where
  abbrev v : Knowledge
  v = before.knows

  abbrev w : Knowledge
  w = after.knows

  -- nothing but what was seen has changed
  moved : HasMoved v.book v w
  moved = record {
    kept_before = kept;
    kept_after = keeps;
    book_before = refl;
    book_after = ap (λ (t : Knowledge). t.book) same;
    process = ap (λ (t : Knowledge). t.first) same;
    more = more;
    free = ap (λ (t : Knowledge). (own_part t).held) same ∙ pass.pass.between.free;
  }

  nothing : AsksNothing v w
  nothing = record { same = λ a. ap (λ (t : Knowledge). (asking_on (own_part t) a).announced) same }

  published : (own_part w).published ≡ (own_part v).published
  published = ap (λ (t : Knowledge). (own_part t).published) same

  between : IsBetweenCalls v.book w
  between = IsBetweenCalls-still v.book v w moved pass.pass.between nothing published

  owns : owns_of v.first w.seen ≡ owns_of v.first v.seen
  owns = owns_of-still v.book v w moved pass.pass.between nothing published

  -- its type keeps the same of it
  pub IsOfOnePass-learned : after.board ≡ before.board → before.steps ≤ after.steps → before.exchanges ≤ after.exchanges → IsOfOnePass after rest
  IsOfOnePass-learned board steps exchanges =
      let was = rest.totals in
      let sent = rest.sent in
      IsOfOnePass-same before after rest rest pass board moved.process
      (λ p. omega (arith, ap (λ (t : Knowledge). (loads_of (own_part t) p).times) same)) steps exchanges refl refl
      (IsPass-HasMoved v.book v w was was sent sent moved between
      (StaysCounted-HasCounted was v.book v.seen pass.pass.counted w.seen more)
      (ap (λ p. get_or was.upto p 0) moved.process ∙ (pass.pass.own_counted ∙ sym published)) (pass.pass.sent_is ∙ sym owns)
      (λ a none. nothing.same a ∙ pass.pass.unasked a none))

  -- receipts that stood with it stand with it still
  pub Stands-learned : (receipts : List Receipt) → Stands (pass_of before rest) receipts → Stands (pass_of after rest) receipts
  Stands-learned receipts told =
      let still : (a slot : ℕ) → HasSlot v.book v.first a slot → named a slot w.seen ≡ named a slot v.seen = λ a slot has.
      omega (
        arith,
        named-IsBetweenCalls v.book v a slot kept refl pass.pass.between has,
        named-IsBetweenCalls v.book w a slot keeps moved.book_after between (subst (λ p. HasSlot v.book p a slot) (sym moved.process) has),
        ap length (nothing.same a),
      ) in
      subst (λ t. Told t w.first w.seen receipts) (sym moved.book_after)
      (subst (λ p. Told v.book p w.seen receipts) (sym moved.process)
      (Told-IsPrefix v.book v.first v.seen w.seen receipts kept.history more owns still told))

  -- it has sent no more
  pub sent_by-learned : sent_by (pass_of after rest) ≡ sent_by (pass_of before rest)
  sent_by-learned = ap (λ p. owns_of p w.seen) moved.process ∙ owns
