-- The entries of what a ledger leaves keep the laws of a closing.
use Rattle.std.proofs.Common.{◌≡◌, ℕ, ◌<◌, ◌≤◌, ◌↔◌, ◌==◌, ◌&&◌, true, List, [], length, map, take, refl, sym, ap, subst, ◌∙◌, arith, inl, inr}
use Rattle.at_log.proofs.Prelude.{and_parts, cases_lt, get_or_default, get_or_past, Contains, Decision, slots_of, BookTerms, account_of, TargetPair, amount_of, one_if, IsCovered, BoardState, publication_at, is_own, prefix_of, IsShownEntry, no_publication, publications_of, owns_of, IsSoundOwn, Entry, Own, Round, Publication, ClosingTerms, log_of, log_published, published_by, IsAgreed, IsCoherentEntry, IsNumbered, IsProposed, is_earlier_for, journal_order, IsLeft}
use Rattle.at_log.proofs.Laws.Picks.{count_by-filter_both}
use Rattle.at_log.proofs.LeftCuts.{record_at}
use Rattle.at_log.proofs.LeftRounds.{agreed_round, earlier-named, shown_round, winner_of}
use Rattle.at_log.proofs.OrderOfLeft.{AreTwins-left, IsCovered-left, IsHeldCut-view, rounds-left}
use Rattle.at_log.proofs.SameRecords.{StandsIn, StandsIn-same, sum_by-twins}

-- a record that stands in a list is one of its elements
pub Contains-StandsIn : (list : List Publication) (x : Publication) → StandsIn list x → Contains list x
Contains-StandsIn list x stands = (stands.0, stands.1, get_or_default list stands.0 x no_publication stands.1 ∙ stands.2)

pub StandsIn-Contains : (list : List Publication) (x : Publication) → Contains list x → StandsIn list x
StandsIn-Contains list x there = (there.0, there.1, get_or_default list there.0 no_publication x there.1 ∙ there.2)

-- the own records of a process are those of its publications
pub owns_of-publications_of : (p : ℕ) (xs : List Publication) → owns_of p (publications_of p xs) ≡ owns_of p xs
unfolding publications_of
owns_of-publications_of p xs =
    count_by-filter_both (λ (x : Publication). x.process == p) (λ x. (x.process == p) && is_own x.entry) xs
    (λ x both. (and_parts (x.process == p) (is_own x.entry) both).0)

module _ (b : BookTerms) (s : BoardState) (c : ClosingTerms) (left : IsLeft b s c) where
  -- each list's records stand in the other
  pub StandsIn-order : (m : ℕ) → m < length s.published → StandsIn (journal_order c) (publication_at s.published m)
  StandsIn-order m within = StandsIn-same s.published (journal_order c) (AreTwins-left b s c left).same m within

  pub StandsIn-state : (x : Publication) → Contains (journal_order c) x → StandsIn s.published x
  StandsIn-state x there =
      let at = StandsIn-Contains (journal_order c) x there in
      let found = StandsIn-same (journal_order c) s.published (λ p. sym ((AreTwins-left b s c left).same p)) at.0 at.1 in
      (found.0, found.1, found.2 ∙ at.2)

  module _ (m a r : ℕ) (d : Decision) (targets : List TargetPair) (within : m < length s.published)
      (is : (publication_at s.published m).entry ≡ Round a r d targets) where
    IsAgreed-left : IsAgreed c a r d targets
    IsAgreed-left x f aims there entry =
        let at = StandsIn-state x there in
        agreed_round b s c left m a r d targets within is at.0 f aims at.1 (ap (λ (y : Publication). y.entry) at.2 ∙ entry)

    IsProposed-left : IsProposed b c a r d targets
    IsProposed-left =
        let found = winner_of b s c left m a r d targets within is in
        let k = found.0 in
        let x : Publication = publication_at s.published k in
        let shown : (d.ok ≡ true) ↔ IsCovered b (prefix_of x.view s.published) a (amount_of targets) =
        subst (λ n. (d.ok ≡ true) ↔ IsCovered b (take n s.published) a (amount_of targets)) (sym found.1.place)
        (shown_round b s c left m a r d targets within is).ok in
        let moved = IsCovered-left b s c left a (amount_of targets) x.view (IsHeldCut-view b s c left k found.1.within) in
        record {
          winner = x;
          published = Contains-StandsIn (journal_order c) x (StandsIn-order k found.1.within);
          entry = found.1.entry;
          place = found.1.place;
          ok = (λ done. moved.0 (shown.0 done), λ covered. shown.1 (moved.1 covered));
        }

    IsNumbered-left : d.slot < slots_of (account_of b a) → IsNumbered b c a r d
    IsNumbered-left slot_in =
        let shown = shown_round b s c left m a r d targets within is in
        record {
          slot_in = slot_in;
          next =
              sym (sum_by-twins b.processes s.published (journal_order c) (AreTwins-left b s c left) (λ e. one_if (is_earlier_for a r d.slot e)) left.history.agree)
              ∙ (earlier-named b s.published left.history a r d.slot d.place shown.place shown.next ∙ shown.number);
          room = shown.number_in;
        }

  IsSoundOwn-left : (m from : ℕ) (targets : List TargetPair) → m < length s.published → let x : Publication = publication_at s.published m in
      IsSoundOwn b x.process (prefix_of x.view s.published) from targets → IsSoundOwn b x.process (prefix_of x.view (journal_order c)) from targets
  IsSoundOwn-left m from targets within law =
      let x : Publication = publication_at s.published m in
      record {
        source_in = law.source_in;
        single = law.single;
        owner = law.owner;
        targets_in = law.targets_in;
        covered = (IsCovered-left b s c left from (amount_of targets) x.view (IsHeldCut-view b s c left m within)).0 law.covered;
      }

  entry_left : (m : ℕ) (e : Entry) → m < length s.published → (publication_at s.published m).entry ≡ e
      → IsCoherentEntry b c (publication_at s.published m).process (prefix_of (publication_at s.published m).view (journal_order c)) e
  entry_left m (Own from targets) within is =
      let x : Publication = publication_at s.published m in
      IsSoundOwn-left m from targets within (subst (IsShownEntry b x.process (prefix_of x.view s.published)) is (left.history.entries m within))
  entry_left m (Round a r d targets) within is =
      let x : Publication = publication_at s.published m in
      let law = subst (IsShownEntry b x.process (prefix_of x.view s.published)) is (left.history.entries m within) in (
        record {
          account_in = law.0.account_in;
          shared = law.0.shared;
          owner = law.0.owner;
          next = sym (rounds-left b s c left a x.view (IsHeldCut-view b s c left m within)) ∙ law.0.next;
        },
        law.1,
        IsAgreed-left m a r d targets within is,
        IsProposed-left m a r d targets within is,
        IsNumbered-left m a r d targets within is law.3,
      )

  -- the records of each log
  pub entries-left : (p i : ℕ) → i < length (log_of c p) → let x : Publication = publication_at (log_published c p) i in
      IsCoherentEntry b c p (prefix_of x.view (journal_order c)) x.entry
  entries-left p i within =
      let found = record_at b s c left p i within in
      let x : Publication = publication_at s.published found.0 in
      subst (λ (y : Publication). IsCoherentEntry b c p (prefix_of y.view (journal_order c)) y.entry) found.1.is
      (subst (λ q. IsCoherentEntry b c q (prefix_of x.view (journal_order c)) x.entry) found.1.process_is (entry_left found.0 x.entry found.1.within refl))

  pub own_room-left : (p : ℕ) → owns_of p (log_published c p) ≤ b.own_room
  own_room-left p =
      elim (cases_lt p b.processes) as (λ _. owns_of p (log_published c p) ≤ b.own_room) [
        | inl known ↦ omega (arith, ap (owns_of p) (left.log p known), owns_of-publications_of p s.published, left.history.own_room p)
        | inr beyond ↦ omega (arith, ap (λ log. owns_of p (map (published_by p) log)) (get_or_past c.logs p [] (omega (arith, beyond, left.logs))))
      ]
