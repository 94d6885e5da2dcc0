-- A call of the files.
use Rattle.std.proofs.Common.{◌≡◌, ℕ, ◌<◌, ◌≤◌, All, List, [], None, Some, get_or, length, slice_get, subst, sym, refl}
use Rattle.at_pages.proofs.Prelude.{slice_get_past, slice_get_read, IsCallOn, IsPlayable, Call}

-- it names accounts that are there
pub call-known : (accounts : ℕ) (files : List (List Call)) (p i : ℕ) (file : List Call) (x : Call) → All (IsPlayable accounts) files → p < length files
    → file ≡ get_or files p [] → i < length file → x ≡ get_or file i x → IsCallOn accounts x
call-known accounts files p i file x known within is below at =
    let all : All (IsCallOn accounts) file = subst (λ (calls : List Call). All (IsCallOn accounts) calls) (sym is) (known p [] within).known in
    subst (IsCallOn accounts) (sym at) (all i x below)

-- it is found by its number, and none is found past its file's end
pub call-some : (files : List (List Call)) (p i : ℕ) (file : List Call) (x : Call) → file ≡ get_or files p [] → i < length file → x ≡ get_or file i x
    → slice_get (get_or files p []) i ≡ Some x
call-some files p i file x is below at =
    subst (λ (calls : List Call). slice_get calls i ≡ Some x) is (slice_get_read file (length file) i x refl below at)

pub call-none : (files : List (List Call)) (p i : ℕ) (file : List Call) → file ≡ get_or files p [] → length file ≤ i → slice_get (get_or files p []) i ≡ None
call-none files p i file is past = subst (λ (calls : List Call). slice_get calls i ≡ None) is (slice_get_past file i past)
