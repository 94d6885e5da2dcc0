use Rattle.std.proofs.Common.{◌≡◌, ◌+◌, ◌<◌, ◌++◌, length, get_or, ap, subst, ◌∙◌, arith}
use Rattle.at_logs.proofs.Prelude.{get_or-append-add, length-append}
use Rattle.at_logs.proofs.spelling.put_raw.Goals as goal

pub returns-clause-fits : goal.returns-clause-fits
returns-clause-fits g c =
    let front = c.args.out.now.items in
    let raw = c.args.raw.now in
    let items : c.extend_from_slice.new.self.items ≡ front ++ raw = c.in_ok-extend_from_slice.ensures.items in
    record {
      long = c.told-raw;
      each = λ k d within.
          let place : get_or c.extend_from_slice.new.self.items (length front + k) d ≡ get_or raw k d =
          ap (λ l. get_or l (length front + k) d) items ∙ get_or-append-add front raw k d in
          subst (λ b. b < 256) place (c.type_inv.out (length front + k) d (omega (arith, within, ap length items, length-append front raw)));
    }
