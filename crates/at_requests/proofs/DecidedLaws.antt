-- What an exchange on a cell tells of the answer.
use Rattle.std.proofs.Common.{◌≡◌, ℕ, List, sym, ap, subst, ◌∙◌}
use Rattle.at_requests.proofs.Prelude.{Contains-push, Contains, word_of, Decision, BookTerms, SeesDecision, BoardTerms, IsOf, SeatTerms, Decides, Knowledge, SeenDecision, DecidesAs}

pub DecidesAs-Decides : (b : BookTerms) (v u : Knowledge) (a round : ℕ) (d answer : Decision) (w : ℕ) (told : Decides b v u a round d w) → told.decision ≡ answer
    → DecidesAs b v u a round d answer
DecidesAs-Decides b v u a round d answer w told is = record {
  decides = record {
    decision = told.decision;
    held = told.held;
    word = sym (ap word_of is);
    range = told.range;
    slot_in = told.slot_in;
    number_in = told.number_in;
    place = told.place;
    next = told.next;
    number = told.number;
    known = told.known;
    met = told.met;
    more = told.more;
    own = told.own;
    history = told.history;
    agrees = told.agrees;
    same = told.same;
  };
  answered = is;
}

-- the answer is seen
pub SeesDecision-DecidesAs : (b : BookTerms) (v u : Knowledge) (a round : ℕ) (d answer : Decision) → DecidesAs b v u a round d answer → SeesDecision u a round answer
SeesDecision-DecidesAs b v u a round d answer told =
    let x : SeenDecision = record { account = a; round = round; decision = told.decides.decision } in
    subst (SeesDecision u a round) told.answered
    (subst (λ (xs : List SeenDecision). Contains xs x) (sym (ap (λ (t : Knowledge). t.decisions) told.decides.same)) (Contains-push v.decisions x))

-- the seat is of the same board
pub IsOf-Decides : (board : BoardTerms) (before after : SeatTerms) (a round : ℕ) (d : Decision) (w : ℕ) → after.board ≡ before.board → IsOf before board
    → Decides board.book before.knows after.knows a round d w → IsOf after board
IsOf-Decides board before after a round d w same is told = record {
  id = same ∙ is.id;
  book = ap (λ (t : Knowledge). t.book) told.same ∙ is.book;
}
