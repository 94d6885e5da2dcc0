-- The processes that a record names.
use Rattle.std.proofs.Common.{◌≡◌, ℕ, ◌+◌, ◌<◌, ◌≤◌, List, length, drop, Result, Ok, Err, refl, ◌∙◌}
use Rattle.at_files.proofs.Prelude.{drop_all, Fields, field_of, at_line, with_process, with_processes, BookWhy, BadBook, and_then}
use Rattle.at_files.proofs.FieldLaws.{drop-field_of}

with_processes-drop : (names : List (List ℕ)) (fields : Fields) (i : ℕ) → i < length fields
    → with_processes names (drop i fields) ≡ and_then (with_process names (field_of fields i)) (λ more. with_processes more (drop (i + 1) fields))
unfolding with_processes
with_processes-drop names fields i within = rw (drop-field_of fields i within) refl

pub with_processes-more : (whole : Result (List (List ℕ)) BookWhy) (names more : List (List ℕ)) (fields : Fields) (i : ℕ) → i < length fields
    → with_process names (field_of fields i) ≡ Ok more → whole ≡ with_processes names (drop i fields) → whole ≡ with_processes more (drop (i + 1) fields)
with_processes-more whole names more fields i within is here = here ∙ with_processes-drop names fields i within ∙ rw is refl

pub with_processes-bad : (whole : Result (List (List ℕ)) BookWhy) (names : List (List ℕ)) (fields : Fields) (i line : ℕ) (bad : BadBook) → i < length fields
    → at_line line (with_process names (field_of fields i)) ≡ Err bad → whole ≡ with_processes names (drop i fields) → at_line line whole ≡ Err bad
with_processes-bad whole names fields i line bad within is here = rw (here, with_processes-drop names fields i within) (by (with_process names (field_of fields i)) is)
  where
    by : (r : Result (List (List ℕ)) BookWhy) → at_line line r ≡ Err bad → at_line line (and_then r (λ more. with_processes more (drop (i + 1) fields))) ≡ Err bad
    by (Ok names) h = absurd (cc)
    by (Err w) h = h

pub with_processes-end : (whole : Result (List (List ℕ)) BookWhy) (names : List (List ℕ)) (fields : Fields) (i : ℕ) → length fields ≤ i
    → whole ≡ with_processes names (drop i fields) → whole ≡ Ok names
unfolding with_processes
with_processes-end whole names fields i all here = here ∙ rw (drop_all i fields all) refl
