-- The record of a delivery is the delivery, written out.
use Rattle.std.proofs.Common.{◌≡◌, ℕ, ◌≤◌, Bool, true, false, ◌&&◌, ◌==◌, nat_lt, List, length, All, Vec, slice_index, Option, Some, None, Result, Ok, Err, IfErr, IfOk, if◌then◌else◌, refl, ◌∙◌, subst, arith}
use Rattle.at_files.proofs.Prelude.{Global, eqb-true, ltb-true, nat_tests, field_at, number_of-decimal, most_deliveries, most_messages, Fields, number_at, Delivers, IsDelivery, deliveries_of, delivery_of, delivery_read, fields_of_delivery, Delivery, OrderWhy, Shape, TooManyDeliveries, BadRecord, ReadFault, Bad, NoMemory}
use Rattle.at_files.proofs.FieldLaws.{both_tests, field_of-number_at, three_fields}
use Rattle.at_files.proofs.SpelledLaws.{AreWritten, IsForm, items_of-map, read-accepts, read-written}

-- a value that two tests let through
pub ok_where_both : {T W : Type 0} (a b : Bool) (x y : T) (first second : W) → (if a then (if b then Ok x else Err second) else Err first) ≡ Ok y
    → (a ≡ true) × (b ≡ true) × (x ≡ y)
ok_where_both true true x y first second h = (refl, refl, cc)
ok_where_both true false x y first second h = absurd (cc)
ok_where_both false b x y first second h = absurd (cc)

delivery_read-IsDelivery : (counts : List ℕ) (fields : Fields) (d : Delivery) (node sender number : Option ℕ) → length fields ≡ 3
    → number_at fields 0 ≡ node → number_at fields 1 ≡ sender → number_at fields 2 ≡ number → delivery_read counts node sender number ≡ Ok d
    → (fields ≡ fields_of_delivery d) × IsDelivery counts d
delivery_read-IsDelivery counts fields d None sender number long e1 e2 e3 h = absurd (cc)
delivery_read-IsDelivery counts fields d (Some node) None number long e1 e2 e3 h = absurd (cc)
delivery_read-IsDelivery counts fields d (Some node) (Some sender) None long e1 e2 e3 h = absurd (cc)
delivery_read-IsDelivery counts fields d (Some node) (Some sender) (Some number) long e1 e2 e3 h =
    let tests = ok_where_both (nat_lt node (length counts) && nat_lt sender (length counts)) (nat_lt number (slice_index counts sender)) _ d _ _ h in
    let both = both_tests (nat_lt node (length counts)) (nat_lt sender (length counts)) tests.0 in
    let P : Delivery → Type 0 = λ x. (fields ≡ fields_of_delivery x) × IsDelivery counts x in
    subst P tests.2 (
      three_fields fields long ∙ rw (field_of-number_at fields 0 node e1, field_of-number_at fields 1 sender e2, field_of-number_at fields 2 number e3) refl,
      record {
        node = ltb-true node (length counts) both.0;
        sender = ltb-true sender (length counts) both.1;
        number = ltb-true number (slice_index counts sender) tests.1;
      },
    )

delivery_of-reads : (counts : List ℕ) (fields : Fields) (d : Delivery) → delivery_of counts fields ≡ Ok d → (fields ≡ fields_of_delivery d) × IsDelivery counts d
delivery_of-reads counts fields d h = by (length fields == 3) refl h
  where
    by : (b : Bool) → (length fields == 3) ≡ b
        → (if b then delivery_read counts (number_at fields 0) (number_at fields 1) (number_at fields 2) else Err Shape) ≡ Ok d
        → (fields ≡ fields_of_delivery d) × IsDelivery counts d
    by true e is = delivery_read-IsDelivery counts fields d (number_at fields 0) (number_at fields 1) (number_at fields 2) (eqb-true (length fields) 3 e) refl refl refl is
    by false e is = absurd (cc)

delivery_of-writes : (counts : List ℕ) (d : Delivery) → length counts ≤ 16 → All (λ c. c ≤ most_messages) counts → IsDelivery counts d
    → delivery_of counts (fields_of_delivery d) ≡ Ok d
unfolding field_at
delivery_of-writes counts d few each is =
    let number = is.number in
    let small : slice_index counts d.sender ≤ most_messages = each d.sender 0 is.sender in
    let node_in : nat_lt d.node (length counts) ≡ true = let node = is.node in grind (arith, nat_tests) in
    let sender_in : nat_lt d.sender (length counts) ≡ true = let sender = is.sender in grind (arith, nat_tests) in
    let number_in : nat_lt d.number (slice_index counts d.sender) ≡ true = grind (arith, nat_tests) in
    rw (
      number_of-decimal d.node (let node = is.node in omega arith),
      number_of-decimal d.sender (let sender = is.sender in omega arith),
      number_of-decimal d.number (omega arith),
      node_in,
      sender_in,
      number_in,
    ) refl

pub IsForm-delivery : (counts : List ℕ) → length counts ≤ 16 → All (λ c. c ≤ most_messages) counts → IsForm (delivery_of counts) fields_of_delivery (IsDelivery counts)
IsForm-delivery counts few each = record {
  reads = delivery_of-reads counts;
  writes = λ d is. delivery_of-writes counts d few each is;
}

-- what a file of deliveries holds
pub Delivers-written : (counts : List ℕ) (records : List Fields) (r : Result (Vec Delivery Global) (ReadFault OrderWhy)) → length counts ≤ 16
    → All (λ c. c ≤ most_messages) counts → IfOk r (λ deliveries. deliveries_of counts records ≡ Ok deliveries.items)
    → IfOk r (λ deliveries. Delivers counts records deliveries.items)
Delivers-written counts records r few each h =
    by r (read-written (delivery_of counts) fields_of_delivery (IsDelivery counts) most_deliveries TooManyDeliveries records r (IsForm-delivery counts few each) h)
  where
    by : (r : Result (Vec Delivery Global) (ReadFault OrderWhy)) → IfOk r (λ deliveries. AreWritten fields_of_delivery (IsDelivery counts) most_deliveries 1 records deliveries.items)
        → IfOk r (λ deliveries. Delivers counts records deliveries.items)
    by (Ok deliveries) are = record { spelled = are.spelled; each = are.each; few = let few = are.few in omega arith }
    by (Err fault) are = tt

-- a file that is deliveries gives them
pub deliveries_of-Delivers : (counts : List ℕ) (records : List Fields) (deliveries : List Delivery) → length counts ≤ 16 → All (λ c. c ≤ most_messages) counts
    → Delivers counts records deliveries → deliveries_of counts records ≡ Ok deliveries
deliveries_of-Delivers counts records deliveries few each delivers =
    items_of-map (delivery_of counts) fields_of_delivery (IsDelivery counts) most_deliveries TooManyDeliveries records deliveries (IsForm-delivery counts few each)
    delivers.spelled delivers.each delivers.few

-- a file that is deliveries isn't refused
pub Delivers-accepted : (counts : List ℕ) (records : List Fields) (r : Result (Vec Delivery Global) (ReadFault OrderWhy)) (deliveries : List Delivery) → length counts ≤ 16
    → All (λ c. c ≤ most_messages) counts → ((bad : BadRecord OrderWhy) → r ≡ Err (Bad bad) → deliveries_of counts records ≡ Err bad) → Delivers counts records deliveries
    → IfErr r (λ fault. fault ≡ NoMemory)
Delivers-accepted counts records r deliveries few each bad delivers =
    read-accepts (delivery_of counts) fields_of_delivery (IsDelivery counts) most_deliveries TooManyDeliveries records r deliveries (IsForm-delivery counts few each) bad
    delivers.spelled delivers.each delivers.few
