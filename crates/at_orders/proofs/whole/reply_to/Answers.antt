use Rattle.std.proofs.Common.{◌<◌, get_or, length, sym, ap, subst, arith}
use Rattle.at_orders.proofs.Prelude.{common_steps, contents_of, Comes, AreJust}
use Rattle.at_orders.proofs.Merging.{IsRead, none-answer, read-answer, read-fits, replied, reply-in, row-in}
use Rattle.at_orders.proofs.whole.reply_to.Goals as goal

pub index-requires : goal.index-requires
index-requires c =
    let read : IsRead c.args.book.now c.args.files.now c.args.parts.now c.args.done.now c.args.process c.args.i (get_or c.args.done.now (get_or c.args.parts.now c.args.process 0) c.index-done-part.result) =
    record { count = c.requires.processes; playable = c.requires.files; parted = c.requires.parts; ordered = c.requires.done; p_in = c.requires.process_in; i_in = c.requires.call_in; is = ap (get_or c.args.done.now (get_or c.args.parts.now c.args.process 0)) c.index-done-part.is } in
    let known : c.args.process < length (get_or c.args.done.now (get_or c.args.parts.now c.args.process 0) c.index-done-part.result).replies.items = row-in c.args.book.now c.args.files.now c.args.parts.now c.args.done.now c.args.process c.args.i (get_or c.args.done.now (get_or c.args.parts.now c.args.process 0) c.index-done-part.result) read in
    grind (arith, common_steps)

pub index-replies-requires : goal.index-replies-requires
index-replies-requires c =
    let read : IsRead c.args.book.now c.args.files.now c.args.parts.now c.args.done.now c.args.process c.args.i (get_or c.args.done.now (get_or c.args.parts.now c.args.process 0) c.index-done-part.result) =
    record { count = c.requires.processes; playable = c.requires.files; parted = c.requires.parts; ordered = c.requires.done; p_in = c.requires.process_in; i_in = c.requires.call_in; is = ap (get_or c.args.done.now (get_or c.args.parts.now c.args.process 0)) c.index-done-part.is } in
    let known : c.args.i < length c.index.result.now.items = reply-in c.args.book.now c.args.files.now c.args.parts.now c.args.done.now c.args.process c.args.i (get_or c.args.done.now (get_or c.args.parts.now c.args.process 0) c.index-done-part.result) c.index.result.now read c.index.ensures in
    grind (arith, common_steps)

pub range_of-requires-clause-falls : goal.range_of-requires-clause-falls
range_of-requires-clause-falls c =
    let read : IsRead c.args.book.now c.args.files.now c.args.parts.now c.args.done.now c.args.process c.args.i (get_or c.args.done.now (get_or c.args.parts.now c.args.process 0) c.index-done-part.result) =
    record { count = c.requires.processes; playable = c.requires.files; parted = c.requires.parts; ordered = c.requires.done; p_in = c.requires.process_in; i_in = c.requires.call_in; is = ap (get_or c.args.done.now (get_or c.args.parts.now c.args.process 0)) c.index-done-part.is } in
    let told = replied c.args.book.now c.args.files.now c.args.parts.now c.args.done.now c.args.process c.args.i (get_or c.args.done.now (get_or c.args.parts.now c.args.process 0) c.index-done-part.result) c.index.result.now c.index-replies.result.now c.index-files-process.result c.index-in-Some.result.now read c.index.ensures c.index-replies.ensures
    c.index-files-process.is c.index-in-Some.ensures in
    let fits = read-fits c.args.book.now (contents_of c.args.files.now) c.args.parts.now c.args.done.now c.args.process c.args.i c.index-in-Some.result.now c.index-replies.result.now c.in-Some.range told c.in-Some.is in
    rw c.first_account-account.ensures fits.falls

pub range_of-requires-clause-rises : goal.range_of-requires-clause-rises
range_of-requires-clause-rises c =
    let read : IsRead c.args.book.now c.args.files.now c.args.parts.now c.args.done.now c.args.process c.args.i (get_or c.args.done.now (get_or c.args.parts.now c.args.process 0) c.index-done-part.result) =
    record { count = c.requires.processes; playable = c.requires.files; parted = c.requires.parts; ordered = c.requires.done; p_in = c.requires.process_in; i_in = c.requires.call_in; is = ap (get_or c.args.done.now (get_or c.args.parts.now c.args.process 0)) c.index-done-part.is } in
    let told = replied c.args.book.now c.args.files.now c.args.parts.now c.args.done.now c.args.process c.args.i (get_or c.args.done.now (get_or c.args.parts.now c.args.process 0) c.index-done-part.result) c.index.result.now c.index-replies.result.now c.index-files-process.result c.index-in-Some.result.now read c.index.ensures c.index-replies.ensures
    c.index-files-process.is c.index-in-Some.ensures in
    let fits = read-fits c.args.book.now (contents_of c.args.files.now) c.args.parts.now c.args.done.now c.args.process c.args.i c.index-in-Some.result.now c.index-replies.result.now c.in-Some.range told c.in-Some.is in
    let rises = fits.rises in
    let total = c.known.ensures.checked.begun.total in
    rw c.first_account-account.ensures (omega arith)

pub returns-in-Some : goal.returns-in-Some
returns-in-Some c =
    let read : IsRead c.args.book.now c.args.files.now c.args.parts.now c.args.done.now c.args.process c.args.i (get_or c.args.done.now (get_or c.args.parts.now c.args.process 0) c.index-done-part.result) =
    record { count = c.requires.processes; playable = c.requires.files; parted = c.requires.parts; ordered = c.requires.done; p_in = c.requires.process_in; i_in = c.requires.call_in; is = ap (get_or c.args.done.now (get_or c.args.parts.now c.args.process 0)) c.index-done-part.is } in
    let told = replied c.args.book.now c.args.files.now c.args.parts.now c.args.done.now c.args.process c.args.i (get_or c.args.done.now (get_or c.args.parts.now c.args.process 0) c.index-done-part.result) c.index.result.now c.index-replies.result.now c.index-files-process.result c.index-in-Some.result.now read c.index.ensures c.index-replies.ensures
    c.index-files-process.is c.index-in-Some.ensures in
    let account = c.first_account-account.ensures in
    let least = rw account at c.range_of.ensures.least in
    let greatest = rw account at c.range_of.ensures.greatest in
    subst (AreJust (Comes c.args.book.now (contents_of c.args.files.now) c.args.process c.args.i)) (sym c.of_read.ensures)
    (read-answer c.args.book.now (contents_of c.args.files.now) c.args.parts.now c.args.done.now c.args.process c.args.i c.index-in-Some.result.now c.index-replies.result.now c.in-Some.range c.range_of.result told c.in-Some.is least greatest)

pub returns-in-None : goal.returns-in-None
returns-in-None c =
    let read : IsRead c.args.book.now c.args.files.now c.args.parts.now c.args.done.now c.args.process c.args.i (get_or c.args.done.now (get_or c.args.parts.now c.args.process 0) c.index-done-part.result) =
    record { count = c.requires.processes; playable = c.requires.files; parted = c.requires.parts; ordered = c.requires.done; p_in = c.requires.process_in; i_in = c.requires.call_in; is = ap (get_or c.args.done.now (get_or c.args.parts.now c.args.process 0)) c.index-done-part.is } in
    none-answer c.args.book.now c.args.files.now c.args.parts.now c.args.done.now c.args.process c.args.i (get_or c.args.done.now (get_or c.args.parts.now c.args.process 0) c.index-done-part.result) c.index.result.now c.index-replies.result.now read c.index.ensures c.index-replies.ensures c.in-None.is
