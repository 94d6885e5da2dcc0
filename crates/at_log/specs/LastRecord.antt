-- Where an appended record stands.
use Rattle.std.specs.Prelude.{◌≡◌, ◌+◌, ◌<◌}
use Rattle.at_log.specs.Prelude.{Publication, Knowledge, publication_at, count_of, publications_of, own_part}

-- the record is the last of its process's log, where it stands by the number of those before it
pub record IsLast (before after : Knowledge) (x : Publication) : Type 0 where
  pub published : (own_part after).published ≡ (own_part before).published + 1
  pub within : (own_part before).published < count_of after.first after.seen
  pub last : publication_at (publications_of after.first after.seen) (own_part before).published ≡ x
