-- The first lines of texts that have their first bytes in common.
use Rattle.std.proofs.Common.{◌≡◌, ℕ, zero, suc, ◌+◌, ◌<◌, ◌≤◌, ◌==◌, Bool, true, false, cond, List, [], ◌∷◌, ◌++◌, length, get_or, take, drop, refl, sym, ap, ◌∙◌, arith, append_assoc}
use Rattle.at_verify.proofs.Prelude.{drop-cons, drop-append-le, length-append, eqb-true, ne_eqb, sum_by-append, sum_by-cons, take-append-drop, take_more, IsFirstWord, IsWord, first_lines, newlines}

-- no line, and no text
pub first_lines-zero : (text : List ℕ) → first_lines zero text ≡ []
unfolding first_lines
first_lines-zero text = refl

first_lines-nil : (m : ℕ) → first_lines m [] ≡ []
unfolding first_lines
first_lines-nil zero = refl
first_lines-nil (suc m) = first_lines-nil m

-- a byte and then the rest: a newline ends a line
first_lines-newline : (m byte : ℕ) (text : List ℕ) → (byte == 10) ≡ true → first_lines (suc m) (byte ∷ text) ≡ byte ∷ first_lines m text
unfolding first_lines
first_lines-newline m byte text is = rw is refl

first_lines-other : (m byte : ℕ) (text : List ℕ) → (byte == 10) ≡ false → first_lines (suc m) (byte ∷ text) ≡ byte ∷ first_lines (suc m) text
unfolding first_lines
first_lines-other m byte text is = rw is refl

newlines-cons : (byte : ℕ) (text : List ℕ) → newlines (byte ∷ text) ≡ cond (byte == 10) 1 0 + newlines text
newlines-cons byte text = sum_by-cons (λ b. cond (b == 10) 1 0) byte text

newlines-newline : (byte : ℕ) (text : List ℕ) → (byte == 10) ≡ true → newlines (byte ∷ text) ≡ 1 + newlines text
newlines-newline byte text is = newlines-cons byte text ∙ rw is refl

newlines-other : (byte : ℕ) (text : List ℕ) → (byte == 10) ≡ false → newlines (byte ∷ text) ≡ newlines text
newlines-other byte text is = newlines-cons byte text ∙ rw is (omega arith)

-- a byte ends a line or doesn't
on_byte : {A : Type 0} (byte : ℕ) → ((byte == 10) ≡ true → A) → ((byte == 10) ≡ false → A) → A
on_byte {A = A} byte ends on = by (byte == 10) refl
  where
    by : (t : Bool) → (byte == 10) ≡ t → A
    by true is = ends is
    by false is = on is

-- the lines after some bytes
after_bytes : (c x : List ℕ) (m n : ℕ) → n ≡ newlines c + suc m → first_lines n (c ++ x) ≡ c ++ first_lines (suc m) x
after_bytes [] x m n is = let same : n ≡ suc m = omega arith in ap (λ (k : ℕ). first_lines k x) same
after_bytes (byte ∷ c) x m zero is = absurd (omega arith)
after_bytes (byte ∷ c) x m (suc n) is =
    on_byte byte
    (λ ends.
    let count = newlines-newline byte c ends in
    first_lines-newline n byte (c ++ x) ends ∙ ap (λ (t : List ℕ). byte ∷ t) (after_bytes c x m n (omega arith)))
    (λ on.
    let count = newlines-other byte c on in
    first_lines-other n byte (c ++ x) on ∙ ap (λ (t : List ℕ). byte ∷ t) (after_bytes c x m (suc n) (omega arith)))

pub first_lines-after : (c x : List ℕ) → first_lines (newlines c + 1) (c ++ x) ≡ c ++ first_lines 1 x
first_lines-after c x = after_bytes c x 0 (newlines c + 1) (omega arith)

-- the lines that some bytes end are the same, whatever comes after
pub first_lines-within : (c x : List ℕ) (m : ℕ) → m ≤ newlines c → first_lines m (c ++ x) ≡ first_lines m c
first_lines-within c x zero few = first_lines-zero (c ++ x) ∙ sym (first_lines-zero c)
first_lines-within [] x (suc m) few = absurd (omega arith)
first_lines-within (byte ∷ c) x (suc m) few =
    on_byte byte
    (λ ends.
    let count = newlines-newline byte c ends in
    first_lines-newline m byte (c ++ x) ends ∙ ap (λ (t : List ℕ). byte ∷ t) (first_lines-within c x m (omega arith)) ∙ sym (first_lines-newline m byte c ends))
    (λ on.
    let count = newlines-other byte c on in
    first_lines-other m byte (c ++ x) on ∙ ap (λ (t : List ℕ). byte ∷ t) (first_lines-within c x (suc m) (omega arith)) ∙ sym (first_lines-other m byte c on))

-- fewer lines are those of more lines
first_lines-first_lines : (text : List ℕ) (m k : ℕ) → m ≤ k → first_lines m (first_lines k text) ≡ first_lines m text
first_lines-first_lines text zero k few = first_lines-zero (first_lines k text) ∙ sym (first_lines-zero text)
first_lines-first_lines text (suc m) zero few = absurd (omega arith)
first_lines-first_lines [] (suc m) (suc k) few = ap (first_lines (suc m)) (first_lines-nil (suc k))
first_lines-first_lines (byte ∷ text) (suc m) (suc k) few =
    on_byte byte
    (λ ends.
    ap (first_lines (suc m)) (first_lines-newline k byte text ends) ∙ first_lines-newline m byte (first_lines k text) ends
    ∙ ap (λ (t : List ℕ). byte ∷ t) (first_lines-first_lines text m k (omega arith)) ∙ sym (first_lines-newline m byte text ends))
    (λ on.
    ap (first_lines (suc m)) (first_lines-other k byte text on) ∙ first_lines-other m byte (first_lines (suc k) text) on
    ∙ ap (λ (t : List ℕ). byte ∷ t) (first_lines-first_lines text (suc m) (suc k) few) ∙ sym (first_lines-other m byte text on))

pub first_lines-fewer : (m k : ℕ) (x y : List ℕ) → m ≤ k → first_lines k x ≡ first_lines k y → first_lines m x ≡ first_lines m y
first_lines-fewer m k x y few same =
    sym (first_lines-first_lines x m k few) ∙ ap (first_lines m) same ∙ first_lines-first_lines y m k few

-- a line begins with its first byte
record BeginsWith (byte : ℕ) (text : List ℕ) : Type 0 where
  rest : List ℕ
  is : text ≡ byte ∷ rest

first_lines-begins : (byte : ℕ) (text : List ℕ) → BeginsWith byte (first_lines 1 (byte ∷ text))
first_lines-begins byte text =
    on_byte byte
    (λ ends. record { rest = first_lines 0 text; is = first_lines-newline 0 byte text ends })
    (λ on. record { rest = first_lines 1 text; is = first_lines-other 0 byte text on })

-- texts with the same first line begin with the same byte
pub first_byte : (x y : List ℕ) → first_lines 1 x ≡ first_lines 1 y → take 1 x ≡ take 1 y
first_byte [] [] same = refl
first_byte [] (b ∷ y) same = let is = (first_lines-begins b y).is in let none = first_lines-nil 1 in absurd (cc)
first_byte (a ∷ x) [] same = let is = (first_lines-begins a x).is in let none = first_lines-nil 1 in absurd (cc)
first_byte (a ∷ x) (b ∷ y) same =
    let is = (first_lines-begins a x).is in
    let is_other = (first_lines-begins b y).is in
    let bytes : a ≡ b = cc in
    ap (λ (byte : ℕ). byte ∷ []) bytes

-- a line that is one with this first word has it too
pub first_word : (word x rest : List ℕ) → IsWord word → first_lines 1 x ≡ first_lines 1 (word ++ 32 ∷ rest) → IsFirstWord word x
first_word [] [] rest is same = let first = (first_lines-begins 32 rest).is in let none = first_lines-nil 1 in absurd (cc)
first_word [] (a ∷ x) rest is same =
    let first = (first_lines-begins a x).is in
    let first_other = (first_lines-begins 32 rest).is in
    let bytes : a ≡ 32 = cc in
    (x, ap (λ (byte : ℕ). byte ∷ x) bytes)
first_word (b ∷ word) [] rest is same = let first = (first_lines-begins b (word ++ 32 ∷ rest)).is in let none = first_lines-nil 1 in absurd (cc)
first_word (b ∷ word) (a ∷ x) rest is same =
    let first = (first_lines-begins a x).is in
    let first_other = (first_lines-begins b (word ++ 32 ∷ rest)).is in
    let bytes : a ≡ b = cc in
    let on : (b == 10) ≡ false = ne_eqb b 10 (λ e. absurd (omega (arith, is.0, e))) in
    let on_a : (a == 10) ≡ false = rw bytes on in
    let lines : a ∷ first_lines 1 x ≡ b ∷ first_lines 1 (word ++ 32 ∷ rest) = sym (first_lines-other 0 a x on_a) ∙ same ∙ first_lines-other 0 b (word ++ 32 ∷ rest) on in
    let later : first_lines 1 x ≡ first_lines 1 (word ++ 32 ∷ rest) = cc in
    let found = first_word word x rest is.1 later in
    (found.0, let tail : x ≡ word ++ 32 ∷ found.0 = found.1 in cc)

-- where no byte is a newline, none is counted
pub newlines-none : (text : List ℕ) → ((k : ℕ) → k < length text → (get_or text k 0 == 10) ≡ true → ⊥) → newlines text ≡ 0
newlines-none [] none = refl
newlines-none (byte ∷ text) none =
    on_byte byte
    (λ ends. absurd (none 0 (omega arith) ends))
    (λ on. newlines-other byte text on ∙ newlines-none text (λ k below ends. none (suc k) (omega arith) ends))

-- the lines up to one that ends, and up to one that hasn't ended
first_lines-ended : (c after : List ℕ) → first_lines (newlines c + 1) (c ++ 10 ∷ after) ≡ c ++ 10 ∷ []
first_lines-ended c after =
    first_lines-after c (10 ∷ after) ∙ ap (λ (t : List ℕ). c ++ t) (first_lines-newline 0 10 after refl ∙ ap (λ (t : List ℕ). 10 ∷ t) (first_lines-zero after))

pub first_lines-unended : (c after : List ℕ) → newlines after ≡ 0 → first_lines (newlines (c ++ 10 ∷ after)) (c ++ 10 ∷ after) ≡ c ++ 10 ∷ []
first_lines-unended c after on =
    let counts = sum_by-append (λ (byte : ℕ). cond (byte == 10) 1 0) c (10 ∷ after) in
    let one = newlines-newline 10 after refl in
    let count : newlines (c ++ 10 ∷ after) ≡ newlines c + 1 = omega arith in
    ap (λ (n : ℕ). first_lines n (c ++ 10 ∷ after)) count ∙ first_lines-ended c after

-- a text up to a newline, and after it
at_newline : (text : List ℕ) (k : ℕ) → k < length text → (get_or text k 0 == 10) ≡ true → text ≡ take k text ++ 10 ∷ drop (suc k) text
at_newline text k below ends =
    sym (take-append-drop k text) ∙ ap (λ (t : List ℕ). take k text ++ t) (drop-cons text k 0 below ∙ ap (λ (byte : ℕ). byte ∷ drop (suc k) text) (eqb-true (get_or text k 0) 10 ends))

-- the lines that end in a text, up to its last newline
pub lines_up_to : (text : List ℕ) (k : ℕ) → k < length text → (get_or text k 0 == 10) ≡ true → newlines (drop (k + 1) text) ≡ 0
    → first_lines (newlines text) text ≡ take (k + 1) text
lines_up_to text k below ends on =
    let one : k + 1 ≡ suc k = omega arith in
    ap (λ (t : List ℕ). first_lines (newlines t) t) (at_newline text k below ends)
    ∙ first_lines-unended (take k text) (drop (suc k) text) (ap (λ (n : ℕ). newlines (drop n text)) (sym one) ∙ on)
    ∙ sym (take_more text k 0 below ∙ ap (λ (byte : ℕ). take k text ++ byte ∷ []) (eqb-true (get_or text k 0) 10 ends))

-- the line that begins in a text and ends in the rest
pub line_across : (text rest behind : List ℕ) (start end : ℕ) → first_lines (newlines text) text ≡ take start text
    → end < length rest → (get_or rest end 0 == 10) ≡ true → newlines (take end rest) ≡ 0
    → first_lines (newlines text + 1) (text ++ (rest ++ behind)) ≡ first_lines (newlines text) text ++ (drop start text ++ take end rest) ++ 10 ∷ []
line_across text rest behind start end lines below ends on =
    let split : rest ++ behind ≡ take end rest ++ 10 ∷ (drop (suc end) rest ++ behind) =
    ap (λ (t : List ℕ). t ++ behind) (at_newline rest end below ends) ∙ append_assoc (take end rest) (10 ∷ drop (suc end) rest) behind in
    let one : 1 ≡ newlines (take end rest) + 1 = omega arith in
    let first : first_lines 1 (rest ++ behind) ≡ take end rest ++ 10 ∷ [] =
    ap (first_lines 1) split ∙ ap (λ (n : ℕ). first_lines n (take end rest ++ 10 ∷ (drop (suc end) rest ++ behind))) one
    ∙ first_lines-ended (take end rest) (drop (suc end) rest ++ behind) in
    first_lines-after text (rest ++ behind) ∙ ap (λ (t : List ℕ). text ++ t) first
    ∙ ap (λ (t : List ℕ). t ++ (take end rest ++ 10 ∷ [])) (sym (take-append-drop start text) ∙ ap (λ (t : List ℕ). t ++ drop start text) (sym lines))
    ∙ append_assoc (first_lines (newlines text) text) (drop start text) (take end rest ++ 10 ∷ [])
    ∙ ap (λ (t : List ℕ). first_lines (newlines text) text ++ t) (sym (append_assoc (drop start text) (take end rest) (10 ∷ [])))
    ∙ sym (append_assoc (first_lines (newlines text) text) (drop start text ++ take end rest) (10 ∷ []))

-- the newlines of two parts
pub newlines-append : (c x : List ℕ) → newlines (c ++ x) ≡ newlines c + newlines x
newlines-append c x = sum_by-append (λ (byte : ℕ). cond (byte == 10) 1 0) c x

-- bytes that are whole lines
abbrev pub IsEnded : List ℕ → Type 0
IsEnded c = first_lines (newlines c) c ≡ c

pub ended : (c : List ℕ) → IsEnded (c ++ 10 ∷ [])
ended c = first_lines-unended c [] refl

-- what is left of a line that isn't all there has its newline
pub rest-ends : (line c : List ℕ) (n : ℕ) → line ≡ c ++ 10 ∷ [] → n < length line → newlines (drop n line) ≡ 0 → ⊥
rest-ends line c n is short none =
    let long = ap length is in
    let len = length-append c (10 ∷ []) in
    let cut = ap (λ (t : List ℕ). newlines (drop n t)) is in
    let last = ap newlines (drop-append-le n c (10 ∷ []) (omega arith)) in
    let parts = newlines-append (drop n c) (10 ∷ []) in
    absurd (omega arith)

-- a text that begins so has the same lines
pub first_lines-begin : (text report rest : List ℕ) (at : ℕ) → report ≡ take at text ++ rest
    → first_lines (newlines (take at text)) text ≡ first_lines (newlines (take at text)) report
first_lines-begin text report rest at is =
    ap (first_lines (newlines (take at text))) (sym (take-append-drop at text)) ∙ first_lines-within (take at text) (drop at text) (newlines (take at text)) (omega arith)
    ∙ sym (first_lines-within (take at text) rest (newlines (take at text)) (omega arith)) ∙ ap (first_lines (newlines (take at text))) (sym is)
