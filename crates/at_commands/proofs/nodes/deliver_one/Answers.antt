use Rattle.std.proofs.Common.{◌≡◌, ◌∙◌, Ok, get_or, [], ap, refl, arith}
use Rattle.at_commands.proofs.Prelude.{length-contents_of, loaded_shown}
use Rattle.at_commands.proofs.Laws.FilesLoaded.{same_length}
use Rattle.at_commands.proofs.NodesGiven.{IsNodeOf-deliver, file_of, message_known, message_on, number_small, number_within}
use Rattle.at_commands.proofs.nodes.deliver_one.Goals as goal

pub index-message-requires : goal.index-message-requires
index-message-requires c =
    let l = loaded_shown c.args.sent.now in
    let d = c.args.delivery.now in
    let file = file_of l c.args.sent.now.files.items d c.index.result.now refl c.requires.delivery c.index.ensures in
    omega (arith, number_within l d c.requires.delivery, same_length _ _ file, c.index.result.now.ok)

pub deliver-requires-clause-number_in : goal.deliver-requires-clause-number_in
deliver-requires-clause-number_in c = omega (arith, number_small (loaded_shown c.args.sent.now) c.args.delivery.now c.requires.sent c.requires.delivery)

pub deliver-requires-clause-message_in : goal.deliver-requires-clause-message_in
deliver-requires-clause-message_in c =
    let l = loaded_shown c.args.sent.now in
    let d = c.args.delivery.now in
    let m = c.index-message.result.now in
    let file = file_of l c.args.sent.now.files.items d c.index.result.now refl c.requires.delivery c.index.ensures in
    let at : m ≡ get_or (get_or l.files d.sender []) d.number m = rw file c.index-message.ensures in
    message_on l.book c.args.node.now m c.requires.book (message_known l d m c.requires.sent c.requires.delivery at)

pub returns : goal.returns
returns c done before =
    let l = loaded_shown c.args.sent.now in
    let d = c.args.delivery.now in
    let m = c.index-message.result.now in
    let file = file_of l c.args.sent.now.files.items d c.index.result.now refl c.requires.delivery c.index.ensures in
    let at : m ≡ get_or (get_or l.files d.sender []) d.number m = rw file c.index-message.ensures in
    let does = c.in-Ok.ensures in
    IsNodeOf-deliver l done d m c.args.node.now c.deliver.new.self c.in-Ok.field-0
    (length-contents_of c.args.sent.now.files.items ∙ c.requires.count) c.requires.sent c.requires.delivery at c.known.ensures.node
    does.book does.fresh (λ no. does.again (ap Ok no)) (λ yes. does.delivered (ap Ok yes)) before
