-- The words of a text, and the lines of a text, can be told apart.
use Rattle.std.proofs.Common.{◌≡◌, ℕ, ◌<◌, ◌≤◌, List, [], ◌∷◌, ◌++◌, true, nat_lt, refl, sym, ap, ◌∙◌, arith, append_assoc, decimal, ◌^◌}
use Rattle.at_report.proofs.Prelude.{list_all, ltb-true, and_parts, digits_decimal, AreDigits, own, tells_digits, IsFirstWord, IsWord, Words, spaced, line_text}
use Rattle.at_report.proofs.LineLaws.{line_text-spaced}

abbrev pub AreWords : Words → Type 0
AreWords [] = Unit {0}
AreWords (w ∷ ws) = IsWord w × AreWords ws

-- a line has a first word
abbrev pub IsLineOfWords : Words → Type 0
IsLineOfWords [] = ⊥
IsLineOfWords (w ∷ ws) = IsWord w × AreWords ws

pub IsWord-from : (w : List ℕ) → list_all (nat_lt 32) w ≡ true → IsWord w
IsWord-from [] h = tt
IsWord-from (c ∷ cs) h =
    let parts = and_parts (nat_lt 32 c) (list_all (nat_lt 32) cs) h in
    (ltb-true _ _ parts.0, IsWord-from cs parts.1)

IsWord-digits : (w : List ℕ) → AreDigits w → IsWord w
IsWord-digits [] h = tt
IsWord-digits (c ∷ cs) h =
    let parts = tells_digits.parts c cs h in
    let range = parts.0 in
    (omega (arith, range), IsWord-digits cs parts.1)

pub IsWord-decimal : (n : ℕ) → n < 2 ^ 64 → IsWord (decimal n)
IsWord-decimal n h = IsWord-digits (decimal n) (digits_decimal own n h)

pub AreWords-append : (ws vs : Words) → AreWords ws → AreWords vs → AreWords (ws ++ vs)
AreWords-append [] vs a b = b
AreWords-append (w ∷ ws) vs a b = (a.0, AreWords-append ws vs a.1 b)

-- two words that begin one text are the same, where what follows each is a space or a newline
record AreParted (a b : List ℕ) (x y : ℕ) (r s : List ℕ) : Type 0 where
  word : a ≡ b
  first : x ≡ y
  rest : r ≡ s

parted : (a b : List ℕ) (x y : ℕ) (r s : List ℕ) → IsWord a → IsWord b → x ≤ 32 → y ≤ 32 → a ++ x ∷ r ≡ b ++ y ∷ s → AreParted a b x y r s
parted [] [] x y r s wa wb hx hy e = record { word = refl; first = cc; rest = cc }
parted [] (d ∷ b) x y r s wa wb hx hy e = let same : x ≡ d = cc in absurd (omega (arith, same, wb.0))
parted (c ∷ a) [] x y r s wa wb hx hy e = let same : c ≡ y = cc in absurd (omega (arith, same, wa.0))
parted (c ∷ a) (d ∷ b) x y r s wa wb hx hy e =
    let same : c ≡ d = cc in
    let tails : a ++ x ∷ r ≡ b ++ y ∷ s = cc in
    let later = parted a b x y r s wa.1 wb.1 hx hy tails in
    record { word = let words = later.word in cc; first = later.first; rest = later.rest }

-- a text has one first word
pub first_word-only : (a b text : List ℕ) → IsWord a → IsWord b → IsFirstWord a text → IsFirstWord b text → a ≡ b
first_word-only a b text is_a is_b (r, begins) (s, starts) = (parted a b 32 32 r s is_a is_b (omega arith) (omega arith) (sym begins ∙ starts)).word

-- what follows a word on its line begins with a space or a newline
record Follows (ws : Words) (after : List ℕ) : Type 0 where
  first : ℕ
  rest : List ℕ
  is : spaced ws ++ 10 ∷ after ≡ first ∷ rest
  below : first ≤ 32

follows : (ws : Words) (after : List ℕ) → Follows ws after
follows [] after = record { first = 10; rest = after; is = refl; below = omega arith }
follows (w ∷ ws) after = record { first = 32; rest = (w ++ spaced ws) ++ 10 ∷ after; is = refl; below = omega arith }

-- the words up to the newline are the same, and so is what follows it
pub record AreSplit (ws vs : Words) (after later : List ℕ) : Type 0 where
  pub words : ws ≡ vs
  pub rest : after ≡ later

-- a word and the words after it
AreSplit-cons : (w v : List ℕ) (ws vs : Words) (after later : List ℕ) → w ≡ v → AreSplit ws vs after later → AreSplit (w ∷ ws) (v ∷ vs) after later
AreSplit-cons w v ws vs after later same split = record { words = let rest = split.words in cc; rest = split.rest }

-- a word, and what follows it
split_words : (w v : List ℕ) (ws vs : Words) (after later : List ℕ) → IsWord w → IsWord v → w ++ (spaced ws ++ 10 ∷ after) ≡ v ++ (spaced vs ++ 10 ∷ later)
    → (w ≡ v) × (spaced ws ++ 10 ∷ after ≡ spaced vs ++ 10 ∷ later)
split_words w v ws vs after later is_w is_v e =
    let f = follows ws after in
    let g = follows vs later in
    let begins : w ++ f.first ∷ f.rest ≡ v ++ g.first ∷ g.rest = ap (λ (t : List ℕ). w ++ t) (sym f.is) ∙ e ∙ ap (λ (t : List ℕ). v ++ t) g.is in
    let parts = parted w v f.first g.first f.rest g.rest is_w is_v f.below g.below begins in
    let first = parts.first in
    let rest = parts.rest in
    let heads : f.first ∷ f.rest ≡ g.first ∷ g.rest = cc in
    (parts.word, f.is ∙ heads ∙ sym g.is)

split_spaced : (ws vs : Words) (after later : List ℕ) → AreWords ws → AreWords vs → spaced ws ++ 10 ∷ after ≡ spaced vs ++ 10 ∷ later → AreSplit ws vs after later
split_spaced [] [] after later is_ws is_vs e = record { words = refl; rest = cc }
split_spaced [] (v ∷ vs) after later is_ws is_vs e = let wrong : ◌≡◌ {A = ℕ} 10 32 = cc in absurd (omega (arith, wrong))
split_spaced (w ∷ ws) [] after later is_ws is_vs e = let wrong : ◌≡◌ {A = ℕ} 32 10 = cc in absurd (omega (arith, wrong))
split_spaced (w ∷ ws) (v ∷ vs) after later is_ws is_vs e =
    let tails : (w ++ spaced ws) ++ 10 ∷ after ≡ (v ++ spaced vs) ++ 10 ∷ later = cc in
    let words : w ++ (spaced ws ++ 10 ∷ after) ≡ v ++ (spaced vs ++ 10 ∷ later) = sym (append_assoc w (spaced ws) (10 ∷ after)) ∙ tails ∙ append_assoc v (spaced vs) (10 ∷ later) in
    let parts = split_words w v ws vs after later is_ws.0 is_vs.0 words in
    AreSplit-cons w v ws vs after later parts.0 (split_spaced ws vs after later is_ws.1 is_vs.1 parts.1)

-- two lines that begin one text are the same
pub split_line : (l m : Words) (after later : List ℕ) → IsLineOfWords l → IsLineOfWords m → line_text l ++ after ≡ line_text m ++ later → AreSplit l m after later
split_line [] m after later is_l is_m e = absurd is_l
split_line (w ∷ ws) [] after later is_l is_m e = absurd is_m
split_line (w ∷ ws) (v ∷ vs) after later is_l is_m e =
    let words : w ++ (spaced ws ++ 10 ∷ after) ≡ v ++ (spaced vs ++ 10 ∷ later) = sym (line_and w ws after) ∙ e ∙ line_and v vs later in
    let parts = split_words w v ws vs after later is_l.0 is_m.0 words in
    AreSplit-cons w v ws vs after later parts.0 (split_spaced ws vs after later is_l.1 is_m.1 parts.1)
  where
    line_and : (w : List ℕ) (ws : Words) (after : List ℕ) → line_text (w ∷ ws) ++ after ≡ w ++ (spaced ws ++ 10 ∷ after)
    line_and w ws after = rw line_text-spaced (simp append_assoc)
