-- The replies that a process's turns answered are those of its receipts, and of its lines.
use Rattle.std.proofs.Common.{◌≡◌, ◌≢◌, ℕ, ◌<◌, ◌==◌, Bool, cond, List, [], ◌∷◌, ◌++◌, None, length, get_or, map, refl, sym, ap, subst, ◌∙◌, append-nil, arith, inl, inr}
use Rattle.at_stepper.proofs.Prelude.{cons_option, cases_eq, eq-eqb, ne_eqb, get_or-map, length-map, map-append, filter_map-append, Publication, map-lines_of, BookTerms, lines_of, Call, Line, Reply, Done, Receipt, CallStage, CallerTerms, IsReadyToTurn, IsTurned, LeavesCaller, reply_in, IsJournalOf, RunsTo, replies_by, goes_on, starts, StepperTerms, TurnMade, Turned, Answer, Step}
use Rattle.at_stepper.proofs.JournalLaws.{files-RunsTo}
use Rattle.at_stepper.proofs.TimedCallers.{begins_or_on}
use Rattle.at_stepper.proofs.TurnCounts.{some_of}

-- the replies of receipts
abbrev replies_of : List Receipt → List Reply
replies_of receipts = map (λ (r : Receipt). r.reply) receipts

-- one more turn
replies_by-push : (p : ℕ) (turns : List TurnMade) (t : TurnMade)
    → replies_by p (turns ++ t ∷ []) ≡ replies_by p turns ++ cons_option (cond (t.process == p) t.reply None) []
replies_by-push p turns t = filter_map-append (λ (x : TurnMade). cond (x.process == p) x.reply None) turns (t ∷ [])

replies_by-own : (turns : List TurnMade) (t : TurnMade)
    → replies_by t.process (turns ++ t ∷ []) ≡ replies_by t.process turns ++ cons_option t.reply []
replies_by-own turns t =
    replies_by-push t.process turns t
    ∙ ap (λ (own : Bool). replies_by t.process turns ++ cons_option (cond own t.reply None) []) (eq-eqb t.process t.process refl)

replies_by-other : (p : ℕ) (turns : List TurnMade) (t : TurnMade) → p ≢ t.process → replies_by p (turns ++ t ∷ []) ≡ replies_by p turns
replies_by-other p turns t other =
    replies_by-push p turns t
    ∙ (ap (λ (own : Bool). replies_by p turns ++ cons_option (cond own t.reply None) []) (ne_eqb t.process p (λ same. other (sym same)))
    ∙ append-nil (replies_by p turns))

-- what a turn leaves of its caller, from what it goes on from
module _ (b : BookTerms) (published : List Publication) (before ready after : CallerTerms) (stage : CallStage) where
  receipts-ready : IsReadyToTurn b published before ready stage → ready.receipts ≡ before.receipts
  receipts-ready is_ready =
      elim (begins_or_on b published before ready after stage is_ready) as (λ _. ready.receipts ≡ before.receipts) [
        | inl begins ↦ ap (λ (c : CallerTerms). c.receipts) begins.learned.same
        | inr going_on ↦ ap (λ (c : CallerTerms). c.receipts) going_on.1
      ]

  replies-left : (turned : Turned) → LeavesCaller b ready after stage turned
      → replies_of after.receipts ≡ replies_of ready.receipts ++ cons_option (reply_in turned) []
  replies-left Step still = ap replies_of still.receipts ∙ sym (append-nil (replies_of ready.receipts))
  replies-left (Answer r) answered = ap replies_of answered.receipts ∙ map-append (λ (x : Receipt). x.reply) ready.receipts (r ∷ [])

replies-IsTurned : (b : BookTerms) (published : List Publication) (turned : Turned) (before after : CallerTerms)
    → IsTurned b published turned before after → replies_of after.receipts ≡ replies_of before.receipts ++ cons_option (reply_in turned) []
replies-IsTurned b published turned before after one =
    replies-left b published before one.ready after one.stage turned one.leaves
    ∙ ap (λ rs. replies_of rs ++ cons_option (reply_in turned) []) (receipts-ready b published before one.ready after one.stage one.is_ready)

-- the turns that lead to a run have answered the replies of its receipts
replies_by-RunsTo : (b : BookTerms) (files : List (List Call)) (turns : List TurnMade) (s : StepperTerms) → RunsTo b files turns s
    → (p : ℕ) (d : CallerTerms) → p < length s.callers → replies_by p turns ≡ replies_of (get_or s.callers p d).receipts
replies_by-RunsTo b files _ _ (starts s new) p d within =
    sym (ap replies_of (new.callers.each p [] d (omega (arith, within, new.callers.count))).is_new.unmade)
replies_by-RunsTo b files _ _ (goes_on turns before after t turned runs one made) p d within =
    let earlier = replies_by-RunsTo b files turns before runs p d (omega (arith, within, one.changes.count)) in
    elim (cases_eq p t.process) as (λ _. replies_by p (turns ++ t ∷ []) ≡ replies_of (get_or after.callers p d).receipts) [
      | inl here ↦
          subst (λ q. replies_by q (turns ++ t ∷ []) ≡ replies_of (get_or after.callers q d).receipts) (sym here)
          (replies_by-own turns t
          ∙ (ap (λ o. replies_by t.process turns ++ cons_option o []) made.reply
          ∙ (ap (λ rs. rs ++ cons_option (reply_in turned) []) (subst (λ q. replies_by q turns ≡ replies_of (get_or before.callers q d).receipts) here earlier)
          ∙ sym (replies-IsTurned before.ledger.book before.published turned (get_or before.callers t.process d) (get_or after.callers t.process d)
          (one.changes.here d)))))
      | inr other ↦
          replies_by-other p turns t other
          ∙ (earlier ∙ sym (ap (λ (c : CallerTerms). replies_of c.receipts) (one.changes.others p d other)))
    ]

-- and the lines of their journal have them
pub replies-IsJournalOf : (b : BookTerms) (files : List (List Call)) (turns : List TurnMade) (s : StepperTerms) (lines : List Line)
    → RunsTo b files turns s → IsJournalOf s lines → (p : ℕ) → p < length files
    → map (λ (l : Line). l.reply) (lines_of p lines) ≡ replies_by p turns
replies-IsJournalOf b files turns s lines runs journal p within =
    let count : length s.callers ≡ length files =
    sym (length-map s.callers (λ (c : CallerTerms). c.calls)) ∙ ap (λ (fs : List (List Call)). length fs) (files-RunsTo b files turns s runs) in
    let d = some_of s.callers p (omega (arith, within, count)) in
    let closing = journal.closing in
    let known : p < s.ledger.book.processes =
    omega (
      arith,
      within,
      count,
      journal.coherent.receipts,
      ap (λ (rs : List (List Receipt)). length rs) journal.receipts,
      length-map s.callers (λ (c : CallerTerms). c.receipts),
    ) in
    ap (λ (ls : List Line). map (λ (l : Line). l.reply) (lines_of p ls)) journal.lines_are
    ∙ (map-lines_of (λ (l : Line). l.reply) (λ (r : Receipt). r.reply) Done s.ledger.book closing p (λ i r. refl) journal.coherent known
    ∙ (ap (λ (rs : List (List Receipt)). replies_of (get_or rs p [])) journal.receipts
    ∙ (ap replies_of (get_or-map (λ (c : CallerTerms). c.receipts) s.callers p d [] (omega (arith, within, count)))
    ∙ sym (replies_by-RunsTo b files turns s runs p d (omega (arith, within, count))))))
