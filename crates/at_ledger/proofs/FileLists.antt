-- The files of all processes, one after another.
use Rattle.std.proofs.Common.{◌≡◌, ℕ, ◌+◌, ◌<◌, ◌≤◌, List, [], ◌∷◌, ◌++◌, length, take, get_or, sum_by, All, Vec, refl, sym, ap, ◌∙◌, arith}
use Rattle.at_ledger.proofs.Prelude.{Global, get_or-map, length-map, map-append, sum_by_more, Call, contents_of}

pub length-contents_of : {T : Type 0} (files : List (Vec T Global)) → length (contents_of files) ≡ length files
length-contents_of {T} files = length-map files (λ (f : Vec T Global). f.items)

-- a file as the program holds it
pub get_or-contents_of : {T : Type 0} (files : List (Vec T Global)) (i : ℕ) (file : Vec T Global) → i < length files → file ≡ get_or files i file
    → get_or (contents_of files) i [] ≡ file.items
get_or-contents_of {T} files i file within is =
    get_or-map (λ (f : Vec T Global). f.items) files i file [] within ∙ ap (λ (f : Vec T Global). f.items) (sym is)

-- none, and one more
pub contents_of-nil : {T : Type 0} (files : List (Vec T Global)) → files ≡ [] → contents_of files ≡ []
contents_of-nil files none = rw none refl

pub contents_of-push : {T : Type 0} (files : List (Vec T Global)) (file : Vec T Global) → contents_of (files ++ file ∷ []) ≡ contents_of files ++ file.items ∷ []
contents_of-push {T} files file = map-append (λ (f : Vec T Global). f.items) files (file ∷ [])

-- after one more of them
pub contents_of-pushed : {T : Type 0} (files before : List (Vec T Global)) (file : Vec T Global) → files ≡ before ++ file ∷ [] → contents_of files ≡ contents_of before ++ file.items ∷ []
contents_of-pushed files before file is = rw is (contents_of-push before file)

-- a file has not too many calls
pub file_few : (files : List (Vec Call Global)) (i : ℕ) (file : Vec Call Global) → i < length files → file ≡ get_or files i file
    → All (λ (calls : List Call). length calls ≤ 16384) (contents_of files) → length file.items ≤ 16384
file_few files i file within is few =
    rw (sym (get_or-contents_of files i file within is)) (few i [] (omega (arith, within, length-contents_of files)))

-- the calls of one more file
pub sum_by-contents_of_more : (files : List (Vec Call Global)) (i : ℕ) (file : Vec Call Global) → i < length files → file ≡ get_or files i file
    → sum_by (length {A = Call}) (take i (contents_of files)) + length file.items ≡ sum_by (length {A = Call}) (take (i + 1) (contents_of files))
sum_by-contents_of_more files i file within is =
    ap (λ (calls : List Call). sum_by (length {A = Call}) (take i (contents_of files)) + length calls) (sym (get_or-contents_of files i file within is))
    ∙ sym (sum_by_more (length {A = Call}) (contents_of files) i [] (omega (arith, within, length-contents_of files)))
