-- What the laws of the journal's order ask of a closing: less than that it is coherent, so that coherence can be proved by them.
use Rattle.std.specs.Prelude.{◌≡◌, ℕ, ◌<◌, length, slice_index}
use Rattle.at_log.proofs.Prelude.{BookTerms, IsNextAtMost, publication_at, prefix_of, Entry, Own, Round, Publication, ClosingTerms, log_of, log_published, AreChained, Coherent, IsCoherentEntry, journal_order}
use Rattle.std.proofs.Common.{List, arith}

-- the held cuts are a chain, and each record's view has its own number
pub record HasViews (b : BookTerms) (c : ClosingTerms) : Type 0 where
  pub logs : length c.logs ≡ b.processes
  pub cuts : AreChained b c
  pub views : (p i : ℕ) → i < length (log_of c p) → slice_index (publication_at (log_published c p) i).view p ≡ i

-- and each record of a round is of at most the next round after its view
pub record HasRounds (b : BookTerms) (c : ClosingTerms) : Type 0 where
  pub views : HasViews b c
  pub next : (p i : ℕ) → i < length (log_of c p) → let x : Publication = publication_at (log_published c p) i in
      IsNextAtMost (prefix_of x.view (journal_order c)) x.entry

pub HasViews-Coherent : (b : BookTerms) (c : ClosingTerms) → Coherent b c → HasViews b c
HasViews-Coherent b c coherent = record { logs = coherent.logs; cuts = coherent.cuts; views = coherent.views }

next_entry : (b : BookTerms) (c : ClosingTerms) (p : ℕ) (prefix : List Publication) (e : Entry) → IsCoherentEntry b c p prefix e → IsNextAtMost prefix e
next_entry b c p prefix (Own from targets) law = tt
next_entry b c p prefix (Round a r d targets) law = omega (arith, law.0.next)

pub HasRounds-Coherent : (b : BookTerms) (c : ClosingTerms) → Coherent b c → HasRounds b c
HasRounds-Coherent b c coherent = record {
  views = HasViews-Coherent b c coherent;
  next = λ p i within.
      let x : Publication = publication_at (log_published c p) i in
      next_entry b c p (prefix_of x.view (journal_order c)) x.entry (coherent.entries p i within);
}
