-- What a seat or a note knows, and the part of a process in it.
use Rattle.std.specs.Prelude.{ℕ, slice_set, ◌<◌, [], length, slice_index_or, Contains, replicate, None}
use Rattle.at_board.specs.Prelude.{Decision, BookTerms, Request}
use Rattle.at_board.specs.Words.Addresses.{record_width}
use Rattle.at_board.specs.declared.knowledge.Asking.{Asking}
use Rattle.at_board.specs.declared.knowledge.Loads.{Loads}
use Rattle.at_board.specs.declared.knowledge.Part.{Part}
use Rattle.at_board.specs.declared.knowledge.SeenRequest.{SeenRequest}
use Rattle.at_board.specs.declared.knowledge.Knowledge.{Knowledge}
use Rattle.at_board.specs.declared.words.TheConstants.{REQUEST_WORDS}

-- the part that has this on an account
abbrev pub part_asking : Part → ℕ → Asking → Part
part_asking q a w = record q { asking = slice_set q.asking a w }

abbrev pub no_part : Part
no_part = record { published = 0; stored = []; held = None; loads = []; asking = [] }

-- the part of the k-th process. A seat's own is the first
abbrev pub part_at : Knowledge → ℕ → Part
part_at v k = slice_index_or v.parts k no_part

-- the part of the seat's own process
abbrev pub own_part : Knowledge → Part
own_part v = part_at v 0

-- the knowledge with this part as the seat's own
abbrev pub with_part : Knowledge → Part → Knowledge
with_part v q = record v { parts = slice_set v.parts 0 q }

-- the knowledge whose own part has this on an account
abbrev pub with_asking : Knowledge → ℕ → Asking → Knowledge
with_asking v a w = with_part v (part_asking (own_part v) a w)

-- a request of a slot by its number
abbrev pub seen_as : ℕ → ℕ → ℕ → Request → SeenRequest
seen_as a slot number r = record { account = a; slot = slot; number = number; request = r }

-- nothing stored, announced or loaded
abbrev pub no_asking : Asking
no_asking = record { announced = []; stored = []; decides = 0; heard = 0; loads = []; rows = []; loaded = [] }

-- what the part has on an account, and of a process's length
abbrev pub asking_on : Part → ℕ → Asking
asking_on q a = slice_index_or q.asking a no_asking

abbrev pub loads_of : Part → ℕ → Loads
loads_of q p = slice_index_or q.loads p (record { times = 0; last = 0 })

-- the seat has seen this request, or this decision
abbrev pub SeesRequest : Knowledge → ℕ → ℕ → ℕ → Request → Type 0
SeesRequest v a slot number r = Contains v.requests (record { account = a; slot = slot; number = number; request = r })

abbrev pub SeesDecision : Knowledge → ℕ → ℕ → Decision → Type 0
SeesDecision v a round d = Contains v.decisions (record { account = a; round = round; decision = d })

-- each word of the request was loaded since the process's own last announcement on the account
abbrev pub HasLoadedRequest : Asking → SeenRequest → Type 0
HasLoadedRequest w x = (j : ℕ) → j < REQUEST_WORDS → Contains w.loaded (record { request = x; word = j })

-- what a seat starts with: nothing stored, announced or loaded
abbrev pub starting_asking : Asking
starting_asking = record no_asking { stored = replicate REQUEST_WORDS 0 }

abbrev pub starting_part : BookTerms → Part
starting_part b = record no_part {
  stored = replicate (record_width b) 0;
  loads = replicate b.processes (record { times = 0; last = 0 });
  asking = replicate (length b.accounts) starting_asking;
}

-- the table's first seat stands for all processes, and has seen nothing
abbrev pub starting_knowledge : BookTerms → Knowledge
starting_knowledge b =
    record { book = b; seen = []; requests = []; decisions = []; first = 0; parts = replicate b.processes (starting_part b) }
