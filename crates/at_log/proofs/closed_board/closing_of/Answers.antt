use Rattle.std.proofs.Common.{◌+◌, ◌<◌, [], Vec, Global, List, length, get_or, map, sym, ap, subst, ◌∙◌, arith}
use Rattle.at_log.proofs.Prelude.{get_or-set_other, length-map, length-set, map-set, published_by, Record, AllStand}
use Rattle.at_log.proofs.EndedLeft.{Coherent-IsEnd, KeepsTime-IsEnd}
use Rattle.at_log.proofs.FilledLogs.{AreLogs, AreLogs-more}
use Rattle.at_log.proofs.closed_board.closing_of.Goals as goal

pub loop-p-preserved : goal.loop-p-preserved
loop-p-preserved c =
    let e = c.args.end.now in
    let p = c.loop-p.p in
    let rooms = c.loop-p.rooms.items in
    let room : Vec Record Global = c.ended_log.new.log in
    let logs : List (List Record) = map (λ v. v.items) rooms in
    let inside : p < length rooms = omega arith in
    record {
      count = length-set rooms p room ∙ c.loop-p.invariant.count;
      logs = subst (λ ls. AreLogs e ls (p + 1)) (sym (map-set (λ v. v.items) rooms p room))
          (AreLogs-more e logs p room.items (omega (arith, inside, length-map rooms (λ v. v.items))) c.loop-p.invariant.logs c.ended_log.ensures);
      rest = λ k d after. get_or-set_other rooms p k room d (omega arith) ∙ c.loop-p.invariant.rest k d (omega arith);
    }

pub returns-clause-logs : goal.returns-clause-logs
returns-clause-logs c seats ended p known =
    ap (λ logs. map (published_by p) (get_or logs p [])) c.new.ensures.logs ∙ c.loop-p.invariant.logs p (omega arith) seats ended

pub returns-clause-count : goal.returns-clause-count
returns-clause-count c =
    ap (λ (ls : List (List Record)). length ls) c.new.ensures.logs
    ∙ (length-map c.loop-p.rooms.items (λ v. v.items) ∙ (c.loop-p.invariant.count ∙ c.requires.rooms))

pub returns-clause-coherent : goal.returns-clause-coherent
returns-clause-coherent c =
    let seats = c.requires.ended.0 in
    let ended = c.requires.ended.1 in
    Coherent-IsEnd c.args.end.now seats (map (λ v. v.items) c.args.receipts.items) ended c.requires.ended.2 c.new.result
    (returns-clause-count c) (length-map c.args.receipts.items (λ v. v.items) ∙ c.requires.receipts) c.new.ensures.receipts
    (returns-clause-logs c seats ended)

pub returns-clause-in_time : goal.returns-clause-in_time
returns-clause-in_time c seats ended stand =
    KeepsTime-IsEnd c.args.end.now seats (map (λ v. v.items) c.args.receipts.items) ended
    (subst (AllStand c.args.end.now.book seats) c.new.ensures.receipts stand) c.new.result
    (returns-clause-count c) (length-map c.args.receipts.items (λ v. v.items) ∙ c.requires.receipts) c.new.ensures.receipts
    (returns-clause-logs c seats ended)
