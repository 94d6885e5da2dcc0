-- What the machine of `csv` reads of lines in which nothing is quoted: their fields, and then the records of the rest.
use Rattle.std.proofs.Common.{◌≡◌, ◌≢◌, ◌==◌, true, not, zero, suc, ◌+◌, ◌<◌, ◌≤◌, ℕ, List, [], ◌∷◌, ◌++◌, length, drop, take, get_or, Option, Some, refl, ap, sym, ◌∙◌, arith}
use Rattle.at_files.proofs.Prelude.{Bor, between, eqb-true, drop-append-le, drop_all, drop_more, get_or-map, length-drop, length-take-le, map-append, take_more, between_none, All-drop, All-get_or, between_is, between_to_end, Read, next_record, step, default_config, records_from, records_next, strip_bom, field_at, Fields, field_of, IsPlain, IsPlainByte, line_records, records_read_from, texts_of}
use Rattle.csv.specs.declared.parser.Action.TheVariants as act
use Rattle.csv.specs.declared.parser.State.TheVariants as st
use Rattle.at_files.proofs.FieldLaws.{get_or-field_of}
use Rattle.at_files.proofs.RecordLaws.{records_read_from-next}

-- the next record of bytes, from its start, and in the midst of a field
abbrev first_record : List ℕ → Option Read
first_record text = next_record default_config st.StartRecord [] [] text

abbrev reads_on : Fields → List ℕ → List ℕ → Option Read
reads_on fields field text = next_record default_config st.InField fields field text

step-in_field : (c : ℕ) → c ≢ 44 → c ≢ 13 → c ≢ 10 → step default_config st.InField c ≡ (st.InField, act.Copy)
step-in_field c no_comma no_return no_newline = grind arith

step-start_field : (c : ℕ) → c ≢ 34 → step default_config st.StartField c ≡ step default_config st.InField c
step-start_field c no_quote = grind arith

step-start_record : (c : ℕ) → c ≢ 34 → c ≢ 13 → c ≢ 10 → step default_config st.StartRecord c ≡ step default_config st.InField c
step-start_record c no_quote no_return no_newline = grind arith

reads_on-copies : (fields : Fields) (field : List ℕ) (c : ℕ) (text : List ℕ) → c ≢ 44 → c ≢ 13 → c ≢ 10
    → reads_on fields field (c ∷ text) ≡ reads_on fields (field ++ c ∷ []) text
unfolding next_record
reads_on-copies fields field c text no_comma no_return no_newline = rw (step-in_field c no_comma no_return no_newline) refl

first_byte : (c : ℕ) (text : List ℕ) → IsPlain (c ∷ text) → IsPlainByte c
first_byte c text plain = All-get_or IsPlainByte (c ∷ text) 0 0 (omega arith) plain

-- without a quote a field that begins is read on as any other
reads_on-begins : (fields : Fields) (text : List ℕ) → IsPlain text → next_record default_config st.StartField fields [] text ≡ reads_on fields [] text
unfolding next_record
reads_on-begins fields [] plain = refl
reads_on-begins fields (c ∷ text) plain = rw (step-start_field c (first_byte c text plain).0) refl

reads_on-comma : (fields : Fields) (field text : List ℕ) → IsPlain text → reads_on fields field (44 ∷ text) ≡ reads_on (fields ++ field ∷ []) [] text
unfolding next_record
reads_on-comma fields field text plain = reads_on-begins (fields ++ field ∷ []) text plain

reads_on-newline : (fields : Fields) (field text : List ℕ) → reads_on fields field (10 ∷ text) ≡ Some (fields ++ field ∷ [], st.StartRecord, text)
unfolding next_record
reads_on-newline fields field text = refl

reads_on-end : (fields : Fields) (field : List ℕ) → reads_on fields field [] ≡ Some (fields ++ field ∷ [], st.StartRecord, [])
unfolding next_record
reads_on-end fields field = refl

first_record-begins : (c : ℕ) (text : List ℕ) → c ≢ 34 → c ≢ 13 → c ≢ 10 → first_record (c ∷ text) ≡ reads_on [] [] (c ∷ text)
unfolding next_record
first_record-begins c text no_quote no_return no_newline = rw (step-start_record c no_quote no_return no_newline) refl

first_record-blank : (text : List ℕ) → first_record (10 ∷ text) ≡ first_record text
unfolding next_record
first_record-blank text = refl

-- a line without bytes is no record
line_records-blank : (text : List ℕ) → line_records (10 ∷ text) ≡ line_records text
line_records-blank text =
    records_read_from-next st.StartRecord (10 ∷ text) refl ∙ ap (records_next records_read_from) (first_record-blank text)
    ∙ sym (records_read_from-next st.StartRecord text refl)

line_records-first : (text : List ℕ) (fields : Fields) (rest : List ℕ) → first_record text ≡ Some (fields, st.StartRecord, rest)
    → line_records text ≡ fields ∷ line_records rest
line_records-first text fields rest is = records_read_from-next st.StartRecord text refl ∙ ap (records_next records_read_from) is

-- the same, where the line ends the blank ones before it
pub line_records-drop : (text : List ℕ) (i : ℕ) → i < length text → get_or text i 0 ≡ 10 → line_records (drop i text) ≡ line_records (drop (i + 1) text)
line_records-drop text i inside newline =
    let split : drop i text ≡ 10 ∷ drop (i + 1) text = drop_more text i 0 inside ∙ ap (λ byte. byte ∷ drop (i + 1) text) newline in
    ap line_records split ∙ line_records-blank (drop (i + 1) text)

pub line_records-none : line_records [] ≡ []
unfolding records_from next_record
line_records-none = refl

-- where only blank lines are left there is no record
pub line_records-blank_only : (text : List ℕ) (i : ℕ) → (length (between i (length text) text) == 0) ≡ true → line_records (drop i text) ≡ line_records text
    → line_records text ≡ []
line_records-blank_only text i ended same =
    let none : length (drop i text) ≡ 0 = rw (between_to_end text i (length text) (omega arith)) at (eqb-true _ _ ended) in
    sym same ∙ ap line_records (drop_all i text (omega (arith, none, length-drop i text))) ∙ line_records-none

between-more : (text : List ℕ) (start i : ℕ) → start ≤ i → i < length text → between start (i + 1) text ≡ between start i text ++ get_or text i 0 ∷ []
between-more text start i begun inside =
    between_is text start (i + 1) ∙ ap (drop start) (take_more text i 0 inside)
    ∙ drop-append-le start (take i text) (get_or text i 0 ∷ []) (omega (arith, length-take-le i text (omega arith))) ∙ rw (← between_is text start i) refl

-- so much of the first line is split: these fields, and the bytes from `start` to `i` of the next one
pub record IsSplit (text : List ℕ) (fields : Fields) (start i : ℕ) : Type 0 where
  pub begun : start ≤ i
  pub reads : first_record text ≡ reads_on fields (between start i text) (drop i text)

pub IsSplit-begins : (text : List ℕ) → IsPlain text → 0 < length text → get_or text 0 0 ≢ 10 → IsSplit text [] 0 0
IsSplit-begins [] plain some first = absurd (omega arith)
IsSplit-begins (c ∷ text) plain some first = record {
  begun = omega arith;
  reads = rw (between_none (c ∷ text) 0) (first_record-begins c text (first_byte c text plain).0 (first_byte c text plain).1 first);
}

pub IsSplit-copies : (text : List ℕ) (fields : Fields) (start i : ℕ) → IsPlain text → i < length text → get_or text i 0 ≢ 44 → get_or text i 0 ≢ 10
    → IsSplit text fields start i → IsSplit text fields start (i + 1)
IsSplit-copies text fields start i plain inside no_comma no_newline split =
    let byte = All-get_or IsPlainByte text i 0 inside plain in
    record {
      begun = let begun = split.begun in omega arith;
      reads =
          split.reads ∙ ap (reads_on fields (between start i text)) (drop_more text i 0 inside)
          ∙ reads_on-copies fields (between start i text) (get_or text i 0) (drop (i + 1) text) no_comma byte.1 no_newline
          ∙ rw (between-more text start i split.begun inside) refl;
    }

pub IsSplit-comma : (text : List ℕ) (fields : Fields) (start i : ℕ) → IsPlain text → i < length text → get_or text i 0 ≡ 44
    → IsSplit text fields start i → IsSplit text (fields ++ between start i text ∷ []) (i + 1) (i + 1)
IsSplit-comma text fields start i plain inside comma split = record {
  begun = omega arith;
  reads =
      split.reads ∙ ap (reads_on fields (between start i text)) (drop_more text i 0 inside ∙ rw comma refl)
      ∙ reads_on-comma fields (between start i text) (drop (i + 1) text) (All-drop IsPlainByte (i + 1) text plain)
      ∙ rw (between_none text (i + 1)) refl;
}

-- the first line ends: the records are its fields and the records of the rest
pub line_records-newline : (text : List ℕ) (fields : Fields) (start i : ℕ) → i < length text → get_or text i 0 ≡ 10
    → IsSplit text fields start i → line_records text ≡ (fields ++ between start i text ∷ []) ∷ line_records (drop (i + 1) text)
line_records-newline text fields start i inside newline split =
    line_records-first text (fields ++ between start i text ∷ []) (drop (i + 1) text)
    (split.reads ∙ ap (reads_on fields (between start i text)) (drop_more text i 0 inside ∙ rw newline refl)
    ∙ reads_on-newline fields (between start i text) (drop (i + 1) text))

pub line_records-end : (text : List ℕ) (fields : Fields) (start : ℕ) → IsSplit text fields start (length text)
    → line_records text ≡ (fields ++ between start (length text) text ∷ []) ∷ line_records (drop (length text) text)
line_records-end text fields start split =
    let none = drop_all (length text) text (omega arith) in
    rw none
    (line_records-first text (fields ++ between start (length text) text ∷ []) []
    (split.reads ∙ ap (reads_on fields (between start (length text) text)) none ∙ reads_on-end fields (between start (length text) text)))

-- a field more
pub texts_of-more : (slices : List (Bor (List ℕ))) (slice : Bor (List ℕ)) → texts_of (slices ++ slice ∷ []) ≡ texts_of slices ++ slice.now ∷ []
texts_of-more slices slice = map-append (λ s. s.now) slices (slice ∷ [])

pub field_of-texts : (slices : List (Bor (List ℕ))) (i : ℕ) (d : Bor (List ℕ)) → i < length slices → (get_or slices i d).now ≡ field_of (texts_of slices) i
field_of-texts slices i d inside = sym (get_or-map (λ s. s.now) slices i d [] inside) ∙ get_or-field_of (texts_of slices) i

pub field_of-past : (slices : List (Bor (List ℕ))) (i : ℕ) → length slices ≤ i → field_of (texts_of slices) i ≡ []
unfolding field_at
field_of-past [] i past = refl
field_of-past (slice ∷ slices) zero past = absurd (omega arith)
field_of-past (slice ∷ slices) (suc i) past = field_of-past slices i (omega arith)

-- bytes that don't begin as a mark of order does have none
pub strip_bom-unmarked : (bytes : List ℕ) → not (get_or bytes 0 0 == 239) ≡ true → strip_bom bytes ≡ bytes
unfolding strip_bom
strip_bom-unmarked [] unmarked = refl
strip_bom-unmarked (a ∷ []) unmarked = refl
strip_bom-unmarked (a ∷ b ∷ []) unmarked = refl
strip_bom-unmarked (a ∷ b ∷ c ∷ bytes) unmarked = grind arith

pub strip_bom-empty : (bytes : List ℕ) → (length bytes == 0) ≡ true → strip_bom bytes ≡ bytes
unfolding strip_bom
strip_bom-empty [] empty = refl
strip_bom-empty (a ∷ bytes) empty = absurd (omega (arith, eqb-true _ _ empty))
