-- What the runs of a list of publications rest on: a sound state has it, and so has a list that no board ever held.
use Rattle.std.proofs.Common.{◌≡◌, ℕ, ◌<◌, ◌≤◌, ◌↔◌, ◌==◌, true, length, take}
use Rattle.at_history.proofs.Prelude.{count_by, Decision, slots_of, BookTerms, account_of, amount_of, IsCovered, BoardState, decision_at, publication_at, request_at, prefix_of, owns_of, rounds, AreTargets, HasView, IsSoundDecision, IsSoundEntry, Sound, Publication}

-- a decision of a round: exactly the rounds before it stand at its place, it names a request of its account, and it says
-- whether the balance there covers that request
pub record IsRunDecision (b : BookTerms) (s : BoardState) (account round : ℕ) (d : Decision) : Type 0 where
  pub slot_in : d.slot < slots_of (account_of b account)
  pub next : rounds account (take d.place s.published) ≡ round
  pub announced : d.number < length (s.rows account d.slot)
  pub ok : (d.ok ≡ true) ↔ IsCovered b (take d.place s.published) account (amount_of (request_at (s.rows account d.slot) d.number).targets)

-- the laws of a state that its runs rest on
pub record HasRuns (b : BookTerms) (s : BoardState) : Type 0 where
  pub views : (m : ℕ) → m < length s.published → HasView b (take m s.published) (publication_at s.published m)
  pub entries : (m : ℕ) → m < length s.published → let x : Publication = publication_at s.published m in
      IsSoundEntry b s x.process (prefix_of x.view s.published) x.entry
  pub own_room : (p : ℕ) → owns_of p s.published ≤ b.own_room
  pub decisions : (a r : ℕ) → r < length (s.cells a) → IsRunDecision b s a r (decision_at (s.cells a) r)
  pub numbers : (a r : ℕ) → r < length (s.cells a) → let d : Decision = decision_at (s.cells a) r in
      count_by (λ e. e.slot == d.slot) (take r (s.cells a)) ≡ d.number
  pub row_room : (a slot : ℕ) → length (s.rows a slot) ≤ b.request_room
  pub targets : (a slot i : ℕ) → i < length (s.rows a slot) → AreTargets b (request_at (s.rows a slot) i).targets

pub HasRuns-Sound : (b : BookTerms) (s : BoardState) → Sound b s → HasRuns b s
HasRuns-Sound b s sound = record {
  views = sound.views;
  entries = sound.entries;
  own_room = sound.own_room;
  decisions = λ a r within.
      let d : IsSoundDecision b s a r (decision_at (s.cells a) r) = sound.decisions a r within in
      record { slot_in = d.slot_in; next = d.next; announced = d.announced; ok = d.ok };
  numbers = sound.numbers;
  row_room = sound.row_room;
  targets = λ a slot i within. (sound.requests a slot i within).targets;
}
