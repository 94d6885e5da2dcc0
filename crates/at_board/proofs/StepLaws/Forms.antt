-- The numbers of entries that a seat may publish, or has seen, fit their words.
use Rattle.std.proofs.Common.{◌≡◌, ℕ, ◌<◌, ◌≤◌, List, length, refl, sym, ap, subst, ◌∙◌, arith, inl, inr}
use Rattle.at_board.proofs.Prelude.{length-take, All-from_get_or, get_or-le-sum_by, no_account, rounds_room, BookTerms, IsBegun, get_or-publications_of, position_of, rounds-le-length, All-Contains, publication_at, place, places_max, prefix_of, IsShownDecision, IsHistory, IsShownEntry, count_of, no_publication, publications_of, AreTargets, Entry, Own, Round, Publication, DecisionInRange, RequestInRange, SeesInRange, SeesForms, IsSeat, MayEnter, FitsNext, IsForm, Knowledge, SeenDecision, SeenRequest}
use Rattle.at_board.proofs.StepLaws.LogRoom.{published-MayEnter}
use Rattle.at_board.proofs.WordLaws.Packed.{ArePacked-AreTargets}

-- an entry of a history
IsForm-IsShownEntry : (b : BookTerms) (p : ℕ) (prefix list : List Publication) (e : Entry) → IsBegun b → IsShownEntry b p prefix e
    → IsShownDecision b list e → IsForm e
IsForm-IsShownEntry b p prefix list (Own from targets) begun law decided =
    (omega (arith, law.source_in, begun.few_accounts), ArePacked-AreTargets b targets begun law.targets_in)
IsForm-IsShownEntry b p prefix list (Round a r d targets) begun law decided = (
  omega (arith, law.0.account_in, begun.few_accounts),
  omega (arith, decided.room, begun.rounds, get_or-le-sum_by (rounds_room b.request_room) b.accounts a no_account law.0.account_in),
  law.2,
  ArePacked-AreTargets b targets begun law.1,
)

IsForm-IsHistory : (b : BookTerms) (list : List Publication) (m : ℕ) → IsBegun b → IsHistory b list → m < length list
    → IsForm (publication_at list m).entry
IsForm-IsHistory b list m begun history within =
    let x : Publication = publication_at list m in
    IsForm-IsShownEntry b x.process (prefix_of x.view list) list x.entry begun (history.entries m within) (history.decisions m within)

-- an entry that may come next
IsForm-MayEnter : (v : Knowledge) (prefix : List Publication) (e : Entry) → IsBegun v.book → IsHistory v.book v.seen
    → length prefix ≤ places_max → SeesInRange v → MayEnter v.book v prefix e → IsForm e
IsForm-MayEnter v prefix (Own from targets) begun history few sees law =
    (omega (arith, law.0.source_in, begun.few_accounts), ArePacked-AreTargets v.book targets begun law.0.targets_in)
IsForm-MayEnter v prefix (Round a r d targets) begun history few sees (sound, inl (decided, named)) =
    let decision : SeenDecision = record { account = a; round = r; decision = d } in
    let request : SeenRequest = record { account = a; slot = d.slot; number = d.number; request = named.0 } in
    let asked = (All-Contains (RequestInRange v.book) v.requests request sees.requests named.1).targets in (
      omega (arith, sound.account_in, begun.few_accounts),
      omega (arith, sound.next, rounds-le-length a prefix, few),
      (All-Contains (DecisionInRange v.book) v.decisions decision sees.decisions decided).range,
      ArePacked-AreTargets v.book targets begun (subst (AreTargets v.book) named.2 asked),
    )
IsForm-MayEnter v prefix (Round a r d targets) begun history few sees (sound, inr (x, seen, says)) =
    let P : Publication → Type 0 = λ y. IsForm y.entry in
    subst IsForm says (All-Contains P v.seen x (All-from_get_or P v.seen no_publication (λ m within. IsForm-IsHistory v.book v.seen m begun history within)) seen)

-- each record of a process in a history
pub IsForm-publications_of : (b : BookTerms) (list : List Publication) (p i : ℕ) → IsBegun b → IsHistory b list → i < count_of p list
    → IsForm (publication_at (publications_of p list) i).entry
IsForm-publications_of b list p i begun history within =
    let at = position_of p i list within in
    let same : publication_at (publications_of p list) i ≡ publication_at list at.0 =
    ap (publication_at (publications_of p list)) (sym at.1.before)
    ∙ get_or-publications_of p at.0 list no_publication at.1.within (at.1.own no_publication) in
    subst (λ (x : Publication). IsForm x.entry) (sym same) (IsForm-IsHistory b list at.0 begun history at.1.within)

-- each record that a seat has seen
pub SeesForms-IsSeat : (v : Knowledge) (process published : ℕ) → IsSeat v process published → SeesForms v
SeesForms-IsSeat v process published seat p i sees = IsForm-publications_of v.book v.seen p i seat.book.begun seat.history sees

-- and each that it may publish next
pub FitsNext-IsSeat : (v : Knowledge) (process published : ℕ) → IsSeat v process published → FitsNext v
FitsNext-IsSeat v process published seat view e has law =
    let few : length (prefix_of view v.seen) ≤ places_max = omega (arith, length-take (place view) v.seen, seat.history.few) in (
      published-MayEnter v (record { process = v.first; view = view; entry = e }) process published seat refl has law,
      IsForm-MayEnter v (prefix_of view v.seen) e seat.book.begun seat.history few seat.in_range law,
    )
