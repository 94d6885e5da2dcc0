-- The lines of a log's file.
use Rattle.std.proofs.Common.{◌≡◌, ℕ, ◌+◌, ◌<◌, ◌≤◌, Bool, true, false, List, [], ◌∷◌, ◌++◌, length, map, get_or, take, drop, Result, Ok, Err, refl, ap, sym, subst, ◌∙◌, inl, inr, arith, append_assoc, eqb}
use Rattle.std.specs.Prelude.{IsErr}
use Rattle.at_follow.proofs.Prelude.{FromHexError, append-nil, drop_all, drop_more, cases_lt, decode_of, filter, filter-append, get_or-map, length-append, length-map, map-append, slice_split, take_all, take_more}
unfoldable use Rattle.at_follow.specs.LogFile.{lines_read}
unfoldable use Rattle.hex.specs.Hex.{decode_pairs}
use Rattle.at_follow.specs.declared.log_file.ReadLogFault.{ReadLogFault}
use Rattle.at_follow.specs.LogFile.{IsBadLine, IsFirstBadLine, SpellsEntries, is_written, line_read, log_read, text_lines, without_return}

not_err : (r : Result (List ℕ) FromHexError) (x : List ℕ) → r ≡ Ok x → ¬ IsErr r
not_err (Ok y) x is bad = absurd (cc)
not_err (Err e) x is bad = absurd (cc)

-- a blank line has no digit
decode_nil : decode_of [] ≡ Ok []
unfolding decode_pairs
decode_nil = refl

abbrev parts : List ℕ → List (List ℕ)
parts bytes = slice_split (λ byte. eqb byte 10) bytes

-- ---- as a function

lines_read-nil : (number : ℕ) → lines_read number [] ≡ Ok []
unfolding lines_read
lines_read-nil number = refl

lines_read-cons : (number : ℕ) (line : List ℕ) (lines : List (List ℕ)) → lines_read number (line ∷ lines) ≡ line_read number (is_written line) (decode_of line) (lines_read (number + 1) lines)
unfolding lines_read
lines_read-cons number line lines = refl

-- what comes of lines after which these are read
abbrev pub with_later : List (List ℕ) → Result (List (List ℕ)) ℕ → Result (List (List ℕ)) ℕ
with_later entries (Ok later) = Ok (entries ++ later)
with_later entries (Err number) = Err number

with_later-none : (r : Result (List (List ℕ)) ℕ) → r ≡ with_later [] r
with_later-none (Ok later) = refl
with_later-none (Err number) = refl

line_read-blank : (number : ℕ) (entry : List ℕ) (r : Result (List (List ℕ)) ℕ) → line_read number false (Ok entry) r ≡ r
line_read-blank number entry (Ok later) = refl
line_read-blank number entry (Err n) = refl

line_read-entry : (number : ℕ) (entries : List (List ℕ)) (entry : List ℕ) (r : Result (List (List ℕ)) ℕ)
    → with_later entries (line_read number true (Ok entry) r) ≡ with_later (entries ++ entry ∷ []) r
line_read-entry number entries entry (Ok later) = ap Ok (sym (append_assoc entries (entry ∷ []) later))
line_read-entry number entries entry (Err n) = refl

line_read-bad : (number : ℕ) (written : Bool) (d : Result (List ℕ) FromHexError) (r : Result (List (List ℕ)) ℕ) → IsErr d → line_read number written d r ≡ Err number
line_read-bad number written (Err e) r bad = refl
line_read-bad number written (Ok x) r bad = absurd (not_err (Ok x) x refl bad)

-- so many lines were read, and this came of them
pub record IsReadTo (bytes : List ℕ) (n line : ℕ) (entries : List (List ℕ)) : Type 0 where
  pub counted : line ≡ n
  pub spelled : map decode_of (filter is_written (take n (text_lines bytes))) ≡ map Ok entries
  pub good : (i : ℕ) → i < n → ¬ IsBadLine bytes i
  pub few : length entries ≤ n
  pub rest : log_read bytes ≡ with_later entries (lines_read (n + 1) (drop n (text_lines bytes)))

pub IsReadTo-none : (bytes : List ℕ) → IsReadTo bytes 0 0 []
IsReadTo-none bytes = record { counted = refl; spelled = refl; good = λ i within. absurd (omega (arith, within)); few = omega arith; rest = with_later-none (log_read bytes) }

-- the next line
record IsNextLine (bytes : List ℕ) (n : ℕ) (text : List ℕ) : Type 0 where
  pub within : n < length (text_lines bytes)
  pub line : get_or (text_lines bytes) n [] ≡ without_return text

IsNextLine-turn : (bytes : List ℕ) (n : ℕ) (text : List ℕ) → n < length (parts bytes) → text ≡ get_or (parts bytes) n text → IsNextLine bytes n text
IsNextLine-turn bytes n text within is = record {
  within = omega (arith, within, length-map (parts bytes) without_return);
  line = get_or-map without_return (parts bytes) n text [] within ∙ ap without_return (sym is);
}

good-more : (bytes : List ℕ) (n : ℕ) (text : List ℕ) → ((i : ℕ) → i < n → ¬ IsBadLine bytes i) → IsNextLine bytes n text → ¬ IsErr (decode_of (without_return text))
    → (i : ℕ) → i < n + 1 → ¬ IsBadLine bytes i
good-more bytes n text good next fine i within bad =
    elim (cases_lt i n) [
      | inl before ↦ good i before bad
      | inr last ↦
          let here : i ≡ n = omega (arith, within, last) in
          fine (subst (λ (l : List ℕ). IsErr (decode_of l)) next.line (subst (IsBadLine bytes) here bad))
    ]

-- the lines from the next one on
rest-more : (bytes : List ℕ) (n : ℕ) (text : List ℕ) → IsNextLine bytes n text
    → lines_read (n + 1) (drop n (text_lines bytes))
    ≡ line_read (n + 1) (is_written (without_return text)) (decode_of (without_return text)) (lines_read (n + 1 + 1) (drop (n + 1) (text_lines bytes)))
rest-more bytes n text next =
    ap (lines_read (n + 1)) (drop_more (text_lines bytes) n [] next.within ∙ ap (λ l. l ∷ drop (n + 1) (text_lines bytes)) next.line)
    ∙ lines_read-cons (n + 1) (without_return text) (drop (n + 1) (text_lines bytes))

lines-more : (bytes : List ℕ) (n : ℕ) (text : List ℕ) → IsNextLine bytes n text → take (n + 1) (text_lines bytes) ≡ take n (text_lines bytes) ++ without_return text ∷ []
lines-more bytes n text next = take_more (text_lines bytes) n [] next.within ∙ ap (λ l. take n (text_lines bytes) ++ l ∷ []) next.line

-- a blank line
pub IsReadTo-blank : (bytes : List ℕ) (n line : ℕ) (entries : List (List ℕ)) (text : List ℕ) → n < length (parts bytes) → text ≡ get_or (parts bytes) n text → IsReadTo bytes n line entries
    → without_return text ≡ [] → IsReadTo bytes (n + 1) (line + 1) entries
IsReadTo-blank bytes n line entries text within is so blank =
    let next = IsNextLine-turn bytes n text within is in
    let kept : filter is_written (take (n + 1) (text_lines bytes)) ≡ filter is_written (take n (text_lines bytes)) =
    ap (filter is_written) (lines-more bytes n text next ∙ ap (λ (l : List ℕ). take n (text_lines bytes) ++ l ∷ []) blank)
    ∙ (filter-append is_written (take n (text_lines bytes)) ([] ∷ []) ∙ append-nil (filter is_written (take n (text_lines bytes)))) in
    record {
      counted = ap (λ k. k + 1) so.counted;
      spelled = ap (map decode_of) kept ∙ so.spelled;
      good = good-more bytes n text so.good next (subst (λ (l : List ℕ). ¬ IsErr (decode_of l)) (sym blank) (not_err (decode_of []) [] decode_nil));
      few = omega (arith, so.few);
      rest = so.rest
          ∙ ap (with_later entries)
          (rest-more bytes n text next
          ∙ (ap (λ (l : List ℕ). line_read (n + 1) (is_written l) (decode_of l) (lines_read (n + 1 + 1) (drop (n + 1) (text_lines bytes)))) blank
          ∙ (ap (λ d. line_read (n + 1) false d (lines_read (n + 1 + 1) (drop (n + 1) (text_lines bytes)))) decode_nil ∙ line_read-blank (n + 1) [] (lines_read (n + 1 + 1) (drop (n + 1) (text_lines bytes))))));
    }

-- a line of an entry
pub IsReadTo-entry : (bytes : List ℕ) (n line : ℕ) (entries : List (List ℕ)) (text entry : List ℕ) → n < length (parts bytes) → text ≡ get_or (parts bytes) n text → IsReadTo bytes n line entries
    → is_written (without_return text) ≡ true → decode_of (without_return text) ≡ Ok entry → IsReadTo bytes (n + 1) (line + 1) (entries ++ entry ∷ [])
IsReadTo-entry bytes n line entries text entry within is so written spelled =
    let next = IsNextLine-turn bytes n text within is in
    let earlier : List (List ℕ) = filter is_written (take n (text_lines bytes)) in
    let one : filter is_written (without_return text ∷ []) ≡ without_return text ∷ [] = rw written refl in
    let kept : filter is_written (take (n + 1) (text_lines bytes)) ≡ earlier ++ without_return text ∷ [] =
    ap (filter is_written) (lines-more bytes n text next)
    ∙ (filter-append is_written (take n (text_lines bytes)) (without_return text ∷ []) ∙ ap (λ (l : List (List ℕ)). earlier ++ l) one) in
    record {
      counted = ap (λ k. k + 1) so.counted;
      spelled = ap (map decode_of) kept ∙ (map-append decode_of earlier (without_return text ∷ []) ∙ rw (so.spelled, spelled) (sym (map-append Ok entries (entry ∷ []))));
      good = good-more bytes n text so.good next (not_err (decode_of (without_return text)) entry spelled);
      few = omega (arith, so.few, length-append entries (entry ∷ []));
      rest = so.rest
          ∙ (ap (with_later entries)
          (rest-more bytes n text next
          ∙ (ap (λ t. line_read (n + 1) t (decode_of (without_return text)) (lines_read (n + 1 + 1) (drop (n + 1) (text_lines bytes)))) written
          ∙ ap (λ d. line_read (n + 1) true d (lines_read (n + 1 + 1) (drop (n + 1) (text_lines bytes)))) spelled))
          ∙ line_read-entry (n + 1) entries entry (lines_read (n + 1 + 1) (drop (n + 1) (text_lines bytes))));
    }

-- a line that is no hex
pub IsFirstBadLine-turn : (bytes : List ℕ) (n line : ℕ) (entries : List (List ℕ)) (text : List ℕ) → n < length (parts bytes) → text ≡ get_or (parts bytes) n text → IsReadTo bytes n line entries
    → IsErr (decode_of (without_return text)) → IsFirstBadLine bytes (line + 1)
IsFirstBadLine-turn bytes n line entries text within is so bad =
    let next = IsNextLine-turn bytes n text within is in
    record {
      position = n;
      number = ap (λ k. k + 1) so.counted;
      within = next.within;
      bad = subst (λ (l : List ℕ). IsErr (decode_of l)) (sym next.line) bad;
      before = so.good;
    }

pub log_read-bad : (bytes : List ℕ) (n line : ℕ) (entries : List (List ℕ)) (text : List ℕ) → n < length (parts bytes) → text ≡ get_or (parts bytes) n text → IsReadTo bytes n line entries
    → IsErr (decode_of (without_return text)) → log_read bytes ≡ Err (line + 1)
log_read-bad bytes n line entries text within is so bad =
    so.rest
    ∙ (ap (with_later entries)
    (rest-more bytes n text (IsNextLine-turn bytes n text within is)
    ∙ line_read-bad (n + 1) (is_written (without_return text)) (decode_of (without_return text)) (lines_read (n + 1 + 1) (drop (n + 1) (text_lines bytes))) bad)
    ∙ ap (λ k. Err (k + 1)) (sym so.counted))

-- all lines
pub log_read-end : (bytes : List ℕ) (n line : ℕ) (entries : List (List ℕ)) → n ≡ length (parts bytes) → IsReadTo bytes n line entries → log_read bytes ≡ Ok entries
log_read-end bytes n line entries all so =
    so.rest
    ∙ (ap (λ (l : List (List ℕ)). with_later entries (lines_read (n + 1) l)) (drop_all n (text_lines bytes) (omega (arith, all, length-map (parts bytes) without_return)))
    ∙ (ap (with_later entries) (lines_read-nil (n + 1)) ∙ ap Ok (append-nil entries)))

pub SpellsEntries-end : (bytes : List ℕ) (n line : ℕ) (entries : List (List ℕ)) → n ≡ length (parts bytes) → IsReadTo bytes n line entries → SpellsEntries bytes entries
SpellsEntries-end bytes n line entries all so =
    ap (λ (l : List (List ℕ)). map decode_of (filter is_written l)) (sym (take_all n (text_lines bytes) (omega (arith, all, length-map (parts bytes) without_return)))) ∙ so.spelled

-- the same fault, of two calls that give other values
pub Err-same : {T U : Type 0} (fault other : ReadLogFault) → ◌≡◌ {A = Result T ReadLogFault} (Err fault) (Err other) → ◌≡◌ {A = Result U ReadLogFault} (Err fault) (Err other)
Err-same fault other h = let same : fault ≡ other = cc in ap Err same
