-- The deliveries: what the records of their file spell, or the first fault.
use Rattle.std.specs.Prelude.{◌≡◌, ℕ, ◌<◌, ◌≤◌, ◌&&◌, ◌==◌, List, [], ◌∷◌, length, map, All, decimal, nat_lt, slice_index, Option, Some, Result, Ok, Err, if◌then◌else◌}
use Rattle.at_files.specs.Limits.{most_deliveries}
use Rattle.at_files.specs.Records.{Fields, number_at}
use Rattle.at_files.specs.Spelled.{items_of}
use Rattle.at_files.specs.declared.deliveries.Delivery.{Delivery}
use Rattle.at_files.specs.declared.deliveries.OrderWhy.{OrderWhy}
use Rattle.at_files.specs.declared.deliveries.OrderWhy.TheVariants.{TooManyDeliveries, Shape, Number, UnknownProcess, UnknownMessage}
use Rattle.at_files.specs.declared.spelled.BadRecord.{BadRecord}

-- a delivery to one of these processes of a message that its sender has: entry p of `counts` is how many messages process p has
abbrev pub delivery_to : List ℕ → ℕ → ℕ → ℕ → Result Delivery OrderWhy
delivery_to counts node sender number =
    if nat_lt node (length counts) && nat_lt sender (length counts)
    then (if nat_lt number (slice_index counts sender) then Ok (record { node = node; sender = sender; number = number }) else Err UnknownMessage)
    else Err UnknownProcess

-- the same, where each field is a number
abbrev pub delivery_read : List ℕ → Option ℕ → Option ℕ → Option ℕ → Result Delivery OrderWhy
delivery_read counts (Some node) (Some sender) (Some number) = delivery_to counts node sender number
delivery_read counts _ _ _ = Err Number

-- the delivery that a record spells
abbrev pub delivery_of : List ℕ → Fields → Result Delivery OrderWhy
delivery_of counts fields =
    if length fields == 3 then delivery_read counts (number_at fields 0) (number_at fields 1) (number_at fields 2) else Err Shape

-- the deliveries of a file's records, or the first fault
abbrev pub deliveries_of : List ℕ → List Fields → Result (List Delivery) (BadRecord OrderWhy)
deliveries_of counts records = items_of (delivery_of counts) most_deliveries TooManyDeliveries records

-- the record of a delivery
abbrev pub fields_of_delivery : Delivery → Fields
fields_of_delivery d = decimal d.node ∷ decimal d.sender ∷ decimal d.number ∷ []

-- the node is a process, and its sender has the message
pub record IsDelivery (counts : List ℕ) (d : Delivery) : Type 0 where
  pub node : d.node < length counts
  pub sender : d.sender < length counts
  pub number : d.number < slice_index counts d.sender

-- the records are these deliveries, written out one after another
pub record Delivers (counts : List ℕ) (records : List Fields) (deliveries : List Delivery) : Type 0 where
  pub spelled : records ≡ map fields_of_delivery deliveries
  pub each : All (IsDelivery counts) deliveries
  pub few : length deliveries ≤ most_deliveries
