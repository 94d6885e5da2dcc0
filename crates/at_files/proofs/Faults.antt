-- The faults that answers carry.
use Rattle.std.proofs.Common.{◌≡◌, ℕ, Option, Some, None, Result, Ok, Err, ap}
use Rattle.at_files.proofs.Prelude.{BookError, at_line, within_limits, and_then, BadBook, BookWhy, Book, ReadBookFault}
use Rattle.at_files.specs.declared.book_fault.ReadBookFault.TheVariants.{Bad}

-- a fault is no value. It is stated over plain variables, since `cc` looks at all that is known where it is called
pub Err≢Ok : {A E : Type 0} (e : E) (x : A) → ◌≡◌ {A = Result A E} (Err e) (Ok x) → ⊥
Err≢Ok e x h = cc

pub Bad-same : {T : Type 0} (x b : BadBook) → ◌≡◌ {A = Result T ReadBookFault} (Err (Bad x)) (Err (Bad b)) → x ≡ b
Bad-same x b h = cc

-- the same answer, of two calls that give other values
pub Err-same : {T U : Type 0} (fault other : ReadBookFault) → ◌≡◌ {A = Result T ReadBookFault} (Err fault) (Err other) → ◌≡◌ {A = Result U ReadBookFault} (Err fault) (Err other)
Err-same fault other h = let same : fault ≡ other = cc in ap Err same

-- what comes after a fault changes nothing
pub at_line-stops : {A B : Type 0} (line : ℕ) (first : Result A BookWhy) (then : A → Result B BookWhy) (bad : BadBook) → at_line line first ≡ Err bad → at_line line (and_then first then) ≡ Err bad
at_line-stops line (Ok x) then bad h = absurd (cc)
at_line-stops line (Err w) then bad h = let same : record { line = line; why = w } ≡ bad = cc in ap Err same

-- a limit that is broken is told, whatever the value would have been
pub within_limits-bad : {A B : Type 0} (line : ℕ) (broken : Option BookError) (x : A) (y : B) (bad : BadBook) → at_line line (within_limits broken x) ≡ Err bad
    → at_line line (within_limits broken y) ≡ Err bad
within_limits-bad line None x y bad h = absurd (cc)
within_limits-bad line (Some e) x y bad h = let same : record { line = line; why = Book e } ≡ bad = cc in ap Err same
