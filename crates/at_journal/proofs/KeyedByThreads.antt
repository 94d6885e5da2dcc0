-- The calls of each process with their keys, made one by one and joined, are those of all.
use Rattle.std.proofs.Common.{◌≡◌, ℕ, ◌<◌, List, [], ◌∷◌, length, get_or, map, sym, ap, subst, ◌∙◌, arith, Result, Ok, Vec}
use Rattle.at_journal.proofs.Prelude.{ext_get_or, get_or-map, length-map, flat_map-map, get_or-map-range_with_len, length-map-range_with_len, Global, flat_map, range_with_len, IfOk, AllocError, ClosingTerms, receipts_of, journal_order, keys_of, all_keyed, all_keys, keyed_of, Keyed}
use Rattle.at_journal.proofs.LineOrder.{get_or-all_keys, length-all_keys}

-- what holds of a list that was made holds of it among all of them
pub done-at : {T : Type 0} (made : List (Result (Vec T Global) AllocError)) (lists : List (Vec T Global)) (holds : List T → Type 0) (p : ℕ) → made ≡ map Ok lists
    → p < length made → ((d : Result (Vec T Global) AllocError) → IfOk (get_or made p d) (λ v. holds v.items)) → holds (get_or (map (λ v. v.items) lists) p [])
done-at {T} made [] holds p all within met = absurd (omega (arith, within, ap (length {A = Result (Vec T Global) AllocError}) all))
done-at {T} made (v ∷ lists) holds p all within met =
    let count : length (v ∷ lists) ≡ length made =
    sym (length-map {A = Vec T Global} {B = Result (Vec T Global) AllocError} (v ∷ lists) Ok) ∙ sym (ap (length {A = Result (Vec T Global) AllocError}) all) in
    let here : get_or made p (Ok v) ≡ Ok (get_or (v ∷ lists) p v) =
    ap (λ (l : List (Result (Vec T Global) AllocError)). get_or l p (Ok v)) all ∙ get_or-map Ok (v ∷ lists) p v (Ok v) (omega (arith, within, count)) in
    subst holds (sym (get_or-map (λ (w : Vec T Global). w.items) (v ∷ lists) p v [] (omega (arith, within, count))))
    (subst (λ (r : Result (Vec T Global) AllocError). IfOk r (λ w. holds w.items)) here (met (Ok v)))

-- those of a process
abbrev keyed_at : ClosingTerms → ℕ → List Keyed
keyed_at c p = keyed_of p (get_or (all_keys c) p [])

-- each list has those of its process
abbrev AreKeyed : ClosingTerms → List (Result (Vec Keyed Global) AllocError) → Type 0
AreKeyed c made = (p : ℕ) (d : Result (Vec Keyed Global) AllocError) → p < length c.receipts
    → IfOk (get_or made p d) (λ v. v.items ≡ keyed_of p (keys_of p (journal_order c) (receipts_of c p)))

-- list by list
same_keyed : (c : ClosingTerms) (made : List (Result (Vec Keyed Global) AllocError)) (lists : List (Vec Keyed Global)) (e : Vec Keyed Global)
    → made ≡ map Ok lists → length made ≡ length c.receipts → AreKeyed c made
    → map (λ v. v.items) lists ≡ map (keyed_at c) (range_with_len 0 (length (all_keys c)))
same_keyed c made lists e all long keyed =
    let count : length lists ≡ length c.receipts =
    sym (length-map {A = Vec Keyed Global} {B = Result (Vec Keyed Global) AllocError} lists Ok)
    ∙ (sym (ap (length {A = Result (Vec Keyed Global) AllocError}) all) ∙ long) in
    ext_get_or [] (map (λ v. v.items) lists) (map (keyed_at c) (range_with_len 0 (length (all_keys c))))
    (length-map lists (λ v. v.items) ∙ (count ∙ (sym (length-all_keys c) ∙ sym (length-map-range_with_len (keyed_at c) 0 (length (all_keys c))))))
    (λ p within.
    let known : p < length c.receipts = omega (arith, within, length-map lists (λ (v : Vec Keyed Global). v.items), count) in
    let here : get_or made p (Ok e) ≡ Ok (get_or lists p e) =
    ap (λ (l : List (Result (Vec Keyed Global) AllocError)). get_or l p (Ok e)) all ∙ get_or-map Ok lists p e (Ok e) (omega (arith, known, count)) in
    let met : (get_or lists p e).items ≡ keyed_of p (keys_of p (journal_order c) (receipts_of c p)) =
    subst (λ (r : Result (Vec Keyed Global) AllocError). IfOk r (λ v. v.items ≡ keyed_of p (keys_of p (journal_order c) (receipts_of c p)))) here
    (keyed p (Ok e) known) in
    get_or-map (λ (v : Vec Keyed Global). v.items) lists p e [] (omega (arith, known, count))
    ∙ (met ∙ (ap (keyed_of p) (sym (get_or-all_keys c p known))
    ∙ sym (get_or-map-range_with_len (keyed_at c) 0 (length (all_keys c)) p p [] (omega (arith, known, length-all_keys c)) (omega arith)))))

-- and all of them
pub joined-all_keyed : (c : ClosingTerms) (made : List (Result (Vec Keyed Global) AllocError)) (lists : List (Vec Keyed Global))
    → made ≡ map Ok lists → length made ≡ length c.receipts
    → ((p : ℕ) (d : Result (Vec Keyed Global) AllocError) → p < length c.receipts
    → IfOk (get_or made p d) (λ v. v.items ≡ keyed_of p (keys_of p (journal_order c) (receipts_of c p))))
    → flat_map (λ v. v.items) lists ≡ all_keyed (all_keys c)
joined-all_keyed c made [] all long keyed =
    let none : 0 ≡ length (all_keys c) =
    omega (arith, length-all_keys c, long, ap (length {A = Result (Vec Keyed Global) AllocError}) all) in
    ap (λ n. flat_map (keyed_at c) (range_with_len 0 n)) none
joined-all_keyed c made (v ∷ lists) all long keyed =
    sym (flat_map-map (λ (ks : List Keyed). ks) (λ (w : Vec Keyed Global). w.items) (v ∷ lists))
    ∙ (ap (flat_map (λ (ks : List Keyed). ks)) (same_keyed c made (v ∷ lists) v all long keyed)
    ∙ flat_map-map (λ (ks : List Keyed). ks) (keyed_at c) (range_with_len 0 (length (all_keys c))))
