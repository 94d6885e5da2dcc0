-- The node that a snapshot says is the one that writes it.
use Rattle.std.proofs.Common.{◌≡◌, ◌↔◌, ℕ, ◌<◌, cond, leb, List, length, get_or, None, Some, refl, ap, sym, subst, ◌∙◌, arith}
use Rattle.at_logs.specs.Saved.{HasTails, restored_terms}
use Rattle.at_logs.specs.Snapshot.{HasSnapshotBytes, WritesSnapshot}
use Rattle.at_logs.proofs.Prelude.{cond_some, get_or_default, same_Some, BookTerms, CompactState, IsBacklog, IsCompact, IsRecord, IsSaved, LogTerms, NamesSaved, NodeTerms, SavedTerms, Tail, logs_of, most_logs, no_backlog, no_tail, saved_bytes}

-- what a node's snapshot says
abbrev pub saved_of : NodeTerms → SavedTerms
saved_of n = record { hash = n.hash; tails = n.tails; core = n.core }

names_kept : (c : CompactState) (p : ℕ) → IsCompact c → p < c.book.logs → NamesSaved c.book.logs (length c.book.accounts) (get_or c.backlogs p no_backlog)
names_kept c p is known =
    let l : IsBacklog c p (get_or c.backlogs p no_backlog) = is.backlogs p known in
    record { messages = l.known; targets = λ k d w. (l.credits k d w).account; sources = λ k d w. (l.credits k d w).log; sized = l.sized }

IsSaved-kept : (n : NodeTerms) → IsRecord n → IsCompact n.core → HasSnapshotBytes n → IsSaved n.core.book (saved_of n)
IsSaved-kept n is core fits = record {
  hash = fits.hash;
  sized = is.sized;
  counted = λ k d w.
      ap (λ (t : Tail). length t.deps) (get_or_default n.tails k d (no_tail 0) w) ∙ is.counted k (omega (arith, w, is.sized));
  tails = fits.tails;
  core = record {
    book = refl;
    counted = core.counted;
    told_counted = core.told_counted;
    settled_sized = core.settled_sized;
    balanced = core.balanced;
    sized = core.sized;
    names = λ k d w.
        subst (NamesSaved n.core.book.logs (length n.core.book.accounts)) (get_or_default n.core.backlogs k no_backlog d w) (names_kept n.core k core (omega (arith, w, core.sized)));
    fits = fits.core;
  };
}

-- who writes a snapshot is read from it
pub IsSaved-writes : (b : BookTerms) (h bytes : List ℕ) (n : NodeTerms) → WritesSnapshot b h bytes n → IsSaved (logs_of b) (saved_of n) × (bytes ≡ saved_bytes (saved_of n))
IsSaved-writes b h bytes n is = (
  subst (λ (l : LogTerms). IsSaved l (saved_of n)) (is.kept.book ∙ ap logs_of is.book) (IsSaved-kept n is.kept is.core is.fits),
  is.written,
)

-- and what is read and holds is who writes it
pub writes_saved : (b : BookTerms) (h bytes : List ℕ) (s : SavedTerms) → IsSaved (logs_of b) s → bytes ≡ saved_bytes s → s.hash ≡ h → HasTails s → IsCompact s.core
    → WritesSnapshot b h bytes (restored_terms b s)
writes_saved b h bytes s is text same read core =
    let book : s.core.book ≡ logs_of b = is.core.book in
    let logs : s.core.book.logs ≡ (logs_of b).logs = ap (λ (l : LogTerms). l.logs) book in
    record {
      book = refl;
      hash = same;
      kept = record {
        book = book;
        sized = is.sized ∙ sym logs;
        counted = λ p known. is.counted p (no_tail 0) (omega (arith, known, logs, is.sized)) ∙ sym logs;
        read = read;
      };
      core = core;
      fits = record { hash = is.hash; tails = is.tails; core = is.core.fits };
      written = text;
    }

-- what was found of the book
pub logs_found : (b : BookTerms) (l : LogTerms) → Some l ≡ cond (leb (logs_of b).logs most_logs) (Some (logs_of b)) None → l ≡ logs_of b
logs_found b l found = sym (cond_some (leb (logs_of b).logs most_logs) (logs_of b) l (sym found)).1

-- nothing is read of the bytes: no node
pub none_writes-read : (b : BookTerms) (h bytes : List ℕ) (l : LogTerms) → l ≡ logs_of b → ((s : SavedTerms) → (None ≡ Some s) ↔ (IsSaved l s × (bytes ≡ saved_bytes s)))
    → (n : NodeTerms) → ¬ WritesSnapshot b h bytes n
none_writes-read b h bytes l is read n writes = none-some (saved_of n) ((read (saved_of n)).1 (subst (λ (l : LogTerms). IsSaved l (saved_of n) × (bytes ≡ saved_bytes (saved_of n))) (sym is) (IsSaved-writes b h bytes n writes)))
  where
    none-some : (s : SavedTerms) → None ≡ Some s → ⊥
    none-some s e = cc

-- what is read is what the writer's snapshot says
pub read_writes : (b : BookTerms) (h bytes : List ℕ) (l : LogTerms) (s : SavedTerms) → l ≡ logs_of b → ((t : SavedTerms) → (Some s ≡ Some t) ↔ (IsSaved l t × (bytes ≡ saved_bytes t)))
    → (n : NodeTerms) → WritesSnapshot b h bytes n → s ≡ saved_of n
read_writes b h bytes l s is read n writes =
    same_Some s (saved_of n) ((read (saved_of n)).1 (subst (λ (l : LogTerms). IsSaved l (saved_of n) × (bytes ≡ saved_bytes (saved_of n))) (sym is) (IsSaved-writes b h bytes n writes)))

-- it fails a test: no node
pub none_writes-test : (b : BookTerms) (h bytes : List ℕ) (l : LogTerms) (s : SavedTerms) → l ≡ logs_of b → ((t : SavedTerms) → (Some s ≡ Some t) ↔ (IsSaved l t × (bytes ≡ saved_bytes t)))
    → ¬ ((s.hash ≡ h) × (HasTails s × IsCompact s.core)) → (n : NodeTerms) → ¬ WritesSnapshot b h bytes n
none_writes-test b h bytes l s is read fails n writes =
    fails (subst (λ (t : SavedTerms). (t.hash ≡ h) × (HasTails t × IsCompact t.core)) (sym (read_writes b h bytes l s is read n writes)) (writes.hash, (writes.kept.read, writes.core)))

-- it holds: the one node
pub one_writes : (b : BookTerms) (h bytes : List ℕ) (l : LogTerms) (s : SavedTerms) (made : NodeTerms) → l ≡ logs_of b → ((t : SavedTerms) → (Some s ≡ Some t) ↔ (IsSaved l t × (bytes ≡ saved_bytes t)))
    → (s.hash ≡ h) × (HasTails s × IsCompact s.core) → made ≡ restored_terms b s → (n : NodeTerms) → (Some made ≡ Some n) ↔ WritesSnapshot b h bytes n
one_writes b h bytes l s made is read holds made_is n = (
  λ e.
      let known = (read s).0 refl in
      subst (WritesSnapshot b h bytes) (sym made_is ∙ same_Some made n e)
      (writes_saved b h bytes s (subst (λ (l : LogTerms). IsSaved l s) is known.0) known.1 holds.0 holds.1.0 holds.1.1),
  λ writes.
      let same = read_writes b h bytes l s is read n writes in
      ap (λ (n : NodeTerms). Some n) (made_is ∙ (ap (restored_terms b) same ∙ ap (λ (k : BookTerms). record n { book = k }) (sym writes.book))),
)

-- a node by its parts
pub same_terms : (n : NodeTerms) (b : BookTerms) (s : SavedTerms) → n.book ≡ b → n.hash ≡ s.hash → n.core ≡ s.core → n.tails ≡ s.tails → n ≡ restored_terms b s
same_terms n b s book hash core tails =
    ap (λ (k : BookTerms). record n { book = k }) book
    ∙ (ap (λ (h : List ℕ). record { book = b; hash = h; core = n.core; tails = n.tails }) hash
    ∙ (ap (λ (k : CompactState). record { book = b; hash = s.hash; core = k; tails = n.tails }) core
    ∙ ap (λ (l : List Tail). record { book = b; hash = s.hash; core = s.core; tails = l }) tails))

-- none is made where none writes
pub refused : (b : BookTerms) (h bytes : List ℕ) → ((n : NodeTerms) → ¬ WritesSnapshot b h bytes n) → (n : NodeTerms) → (None ≡ Some n) ↔ WritesSnapshot b h bytes n
refused b h bytes none n = (λ e. cc, λ writes. absurd (none n writes))
