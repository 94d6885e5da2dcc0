use Rattle.std.proofs.Common.{◌≡◌, ◌++◌, ◌<◌, ◌∙◌, [], ℕ, List, Vec, ap, sym, arith, length}
use Rattle.at_tables.proofs.Prelude.{Global, get_or-map, length-map, contents_of, Words, records_text, process_costs, records_text-flat_map_more, CostTerms}
use Rattle.std.specs.Prelude.{slice_index_or}
use Rattle.at_tables.proofs.costs_table.push_processes.Goals as goal

pub loop-p-preserved : goal.loop-p-preserved
loop-p-preserved c =
    let p : ℕ = c.loop-p.p in
    let records : ℕ → List Words = λ p. process_costs c.args.book.now c.args.names.now p (slice_index_or c.args.closing.now.receipts p []) (slice_index_or (contents_of c.args.costs.now) p []) in
    let within : p < length c.args.costs.now = omega (arith, c.loop-p-test.true, c.loop-p.auto.p-end, c.processes-p-end.ensures, c.requires.costs.costs_count, length-map c.args.costs.now (λ (v : Vec CostTerms Global). v.items)) in
    let costs : c.as_slice-list.result.now ≡ slice_index_or (contents_of c.args.costs.now) p [] =
    c.as_slice-list.ensures.value
    ∙ (ap (λ (v : Vec CostTerms Global). v.items) c.index-costs-p.is
    ∙ sym (get_or-map (λ (v : Vec CostTerms Global). v.items) c.args.costs.now p c.index-costs-p.result [] within)) in
    let lines : c.push_process.new.out.items ≡ c.loop-p.out.items ++ records_text (records p) =
    rw (← c.receipts.ensures, ← costs) c.in_ok-push_process.ensures in
    lines ∙ rw c.loop-p.invariant (records_text-flat_map_more records c.args.out.now.items p)
