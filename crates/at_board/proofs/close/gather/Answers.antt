use Rattle.std.proofs.Common.{◌≡◌, ◌+◌, ◌<◌, List, [], ◌∷◌, ◌++◌, length, get_or, sym, ap, subst, ◌∙◌, append_assoc, arith}
use Rattle.at_board.proofs.Prelude.{common_steps, get_or-append_seam, length-append, Knowledge, AreAllFree, Gathers, IsFreeSeat, gathered, AreSeen, Ruled, BoardTerms, SeatTerms}
use Rattle.at_board.proofs.EndLaws.Closed.{Gathers-first, Gathers-more, next_seat}
use Rattle.at_board.proofs.EndLaws.Closing.{gathers}
use Rattle.at_board.proofs.StepLaws.Learn.{IsLonger-seen}
use Rattle.at_board.proofs.close.gather.Goals as goal

-- the seat after so many others
free_at : (board : BoardTerms) (seats done more : List SeatTerms) (x : SeatTerms) → AreAllFree board seats → seats ≡ done ++ x ∷ more
    → IsFreeSeat board (length done) x
free_at board seats done more x all parts =
    let within : length done < board.book.processes = omega (arith, all.count, ap length parts, length-append done (x ∷ more)) in
    subst (IsFreeSeat board (length done)) (ap (λ t. get_or t (length done) x) parts ∙ get_or-append_seam done x more x) (all.each (length done) x within)

pub loop-other-init : goal.loop-other-init
loop-other-init c =
    let board : BoardTerms = record { id = c.args.shared.now.table_id; book = c.args.book.now } in
    let first : SeatTerms = c.in-Some.first in
    let left = c.into_iter-other-iterator.result.rest.items in
    let parts : c.args.seats.items ≡ first ∷ left =
    sym c.into_iter-rest.ensures.rest ∙ (c.in-Some.ensures.items ∙ ap (λ t. first ∷ t.rest.items) (sym c.into_iter-other-iterator.ensures.into_iter_gives)) in
    let free = free_at board c.args.seats.items [] left first c.requires.seats parts in (
      tt,
      tt,
      c.into_seat-all.ensures.table ∙ free.of_board.id,
      (
        first ∷ [],
        parts,
        subst (Gathers (first ∷ [])) (sym c.into_seat-all.ensures.knows) (Gathers-first board first free c.into_seat-all.ensures.one_part),
      ),
    )

pub meet-requires : goal.meet-requires
meet-requires c =
    let board : BoardTerms = record { id = c.args.shared.now.table_id; book = c.args.book.now } in
    let other : SeatTerms = c.in-Some-other.other in
    let done : List SeatTerms = c.loop-other.invariant.3.0 in
    let parts : c.args.seats.items ≡ done ++ other ∷ c.next-in-loop-other.new.self.rest.items =
    c.loop-other.invariant.3.1 ∙ ap (λ t. done ++ t) c.in-Some-other.ensures.steps.0 in
    let free = free_at board c.args.seats.items done c.next-in-loop-other.new.self.rest.items other c.requires.seats parts in record {
      one = c.loop-other.invariant.2;
      other = c.into_seat-next.ensures.table ∙ free.of_board.id;
    }

pub join_seat-requires : goal.join_seat-requires
join_seat-requires c =
    let board : BoardTerms = record { id = c.args.shared.now.table_id; book = c.args.book.now } in
    let other : SeatTerms = c.in-Some-other.other in
    let done : List SeatTerms = c.loop-other.invariant.3.0 in
    let parts : c.args.seats.items ≡ done ++ other ∷ c.next-in-loop-other.new.self.rest.items =
    c.loop-other.invariant.3.1 ∙ ap (λ t. done ++ t) c.in-Some-other.ensures.steps.0 in
    let free = free_at board c.args.seats.items done c.next-in-loop-other.new.self.rest.items other c.requires.seats parts in
    let v : Knowledge = c.meet.new.one.me.0 in
    let all = subst (Gathers done) (sym (ap (λ s. s.me.0) c.meet.ensures.one)) c.loop-other.invariant.3.2 in
    let is : c.meet.new.other.me.0 ≡ other.knows = ap (λ s. s.me.0) c.meet.ensures.other ∙ c.into_seat-next.ensures.knows in
    let next = subst (λ (t : Knowledge). t.first ≡ v.first + length v.parts) (sym is) (next_seat board done v other all free) in (
      ap (λ s. s.table_id) c.meet.ensures.one ∙ c.loop-other.invariant.2,
      ap (λ s. s.table_id) c.meet.ensures.other ∙ (c.into_seat-next.ensures.table ∙ free.of_board.id),
      ap (λ s. s.me.1) c.meet.ensures.other ∙ c.into_seat-next.ensures.empty,
      c.requires.words,
      gathers c.args.shared.now.key.value c.meet.new.one.id c.meet.new.other.id v c.meet.new.other.me.0 next,
    )

pub loop-other-preserved : goal.loop-other-preserved
loop-other-preserved c =
    let board : BoardTerms = record { id = c.args.shared.now.table_id; book = c.args.book.now } in
    let other : SeatTerms = c.in-Some-other.other in
    let done : List SeatTerms = c.loop-other.invariant.3.0 in
    let left = c.next-in-loop-other.new.self.rest.items in
    let parts : c.args.seats.items ≡ done ++ other ∷ left = c.loop-other.invariant.3.1 ∙ ap (λ t. done ++ t) c.in-Some-other.ensures.steps.0 in
    let free = free_at board c.args.seats.items done left other c.requires.seats parts in
    let v : Knowledge = c.loop-other.all.me.0 in
    let theirs : c.into_seat-next.result.me.0 ≡ other.knows = c.into_seat-next.ensures.knows in
    let met = subst (λ (w : Knowledge). AreSeen (λ s. Ruled c.args.shared.now.key.value s.words s.views) c.loop-other.all.id v c.into_seat-next.result.id w) theirs c.meet.ensures.seen in
    let long = IsLonger-seen c.args.shared.now.key.value c.loop-other.all.id c.into_seat-next.result.id v other.knows met in
    let after : gathered v other.knows ≡ c.join_seat.new.seat.me.0 =
    sym (ap (λ m. m.0) c.join_seat.ensures.2
    ∙ (λ t. gathered (c.meet.ensures.one t).me.0 ((ap (λ s. s.me.0) c.meet.ensures.other ∙ theirs) t))) in (
      tt,
      tt,
      c.join_seat.ensures.0 ∙ (ap (λ s. s.table_id) c.meet.ensures.one ∙ c.loop-other.invariant.2),
      (
        done ++ other ∷ [],
        parts ∙ sym (append_assoc done (other ∷ []) left),
        subst (Gathers (done ++ other ∷ [])) after
            (Gathers-more board done v other c.loop-other.invariant.3.2 free c.into_seat-next.ensures.one_part long.first long.second),
      ),
    )

pub returns-clause-seats : goal.returns-clause-seats
returns-clause-seats c = grind (arith, common_steps)
