-- Nodes, each of which is given the messages that a list of deliveries names for it.
use Rattle.std.specs.Prelude.{◌≡◌, ℕ, ◌<◌, ◌≤◌, Bool, ◌&&◌, ◌==◌, List, length, map, All, slice_index_or, Option, Some, None, if◌then◌else◌}
use Rattle.at_commands.specs.Prelude.{list_any, singles_of, IsMessageOn, MessageList, message_of, IsNode, NodeState, ShowsBalances, IsClosed, Message, most_messages, Delivery, BookTerms, nodes_text}
use Rattle.at_commands.specs.Loading.{LoadedOf}
use Rattle.at_commands.specs.Forms.{FurtherOf}

-- a book, the messages of each process, and the deliveries
abbrev pub Broadcast : Type 0
Broadcast = FurtherOf Message Delivery

-- how many messages each process has
abbrev pub counts_of : LoadedOf Message → List ℕ
counts_of l = map length l.files

-- each process's messages by their numbers
abbrev pub all_sent : LoadedOf Message → List MessageList
all_sent l = map (λ messages. map Some messages) l.files

-- whether the delivery gives the node the message of this sender and number
abbrev pub gives : ℕ → ℕ → ℕ → Delivery → Bool
gives node sender number d = (d.node == node) && ((d.sender == sender) && (d.number == number))

-- the message of this sender and number, if one of the deliveries or more give it to the node
abbrev pub message_given : LoadedOf Message → List Delivery → ℕ → ℕ → ℕ → Option Message
message_given l deliveries node sender number =
    if list_any (gives node sender number) deliveries then message_of (all_sent l) sender number else None

-- the node was given just the messages that the deliveries name for it, in whatever order and however often; what it has
-- validated is where raising ends for these, and its balances are those there
pub record IsNodeOf (l : LoadedOf Message) (deliveries : List Delivery) (number : ℕ) (s : NodeState) : Type 0 where
  pub book : s.book ≡ singles_of l.book
  pub given : (p k : ℕ) → message_of s.messages p k ≡ message_given l deliveries number p k
  pub closed : IsClosed s.book s.messages s.validated
  pub balances : ShowsBalances s
  pub node : IsNode s

-- the nodes, which are numbered from 0
abbrev pub AreNodesOf : LoadedOf Message → List Delivery → List NodeState → Type 0
AreNodesOf l deliveries nodes = (i : ℕ) (s : NodeState) → i < length nodes → IsNodeOf l deliveries i (slice_index_or nodes i s)

-- the text is the output of a node for each process
pub record PrintsNodes (c : Broadcast) (text : List ℕ) : Type 0 where
  pub nodes : List NodeState
  pub count : length nodes ≡ c.what.book.processes
  pub are : AreNodesOf c.what c.further nodes
  pub printed : text ≡ nodes_text nodes

-- messages of one process that can be delivered beside the book
pub record AreSent (b : BookTerms) (messages : List Message) : Type 0 where
  pub known : All (IsMessageOn b.processes (length b.accounts)) messages
  pub few : length messages ≤ most_messages
