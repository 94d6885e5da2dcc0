-- Own room that nobody can use: what is coherent on the book with the own room that can be used is so on the book.
use Rattle.std.proofs.Common.{◌≡◌, ℕ, ◌≤◌, ◌==◌, ◌&&◌, ◌||◌, zero, suc, cond, Bool, false, List, [], ◌∷◌, get_or, take, refl, sym, ap, subst, ◌∙◌, arith, inl, inr}
use Rattle.at_object.proofs.Prelude.{cases_Bool, or_parts, list_any, AccountTerms, is_shared, is_single, no_account, BookTerms, account_of, has_single, with_usable_room, TargetPair, Entry, Own, Round, Publication, ClosingTerms, Coherent, IsCoherentEntry, IsAtCut, IsAtRound, IsPlaced, MayPay, has_no_room, asks_in, owns_in, receipt_at, Told, Receipt}
use Rattle.at_log.specs.Placed.{read, not_owner, full, short, done, round}

-- where no account of the list has one owner, that of no number has
is_single-none : (ts : List AccountTerms) (a : ℕ) → list_any is_single ts ≡ false → is_single (get_or ts a no_account) ≡ false
is_single-none [] a none = refl
is_single-none (t ∷ ts) zero none = (or_parts (is_single t) (list_any is_single ts) none).0
is_single-none (t ∷ ts) (suc a) none = is_single-none ts a (or_parts (is_single t) (list_any is_single ts) none).1

-- where no account has one owner
module _ (b : BookTerms) (none : has_single b ≡ false) where
  abbrev least : BookTerms
  least = record b { own_room = 1 }

  not_single : (source : ℕ) → is_single (account_of b source) ≡ false
  not_single source = is_single-none b.accounts source none

  -- whether a process has room at a source doesn't rest on the own room
  has_no_room-least : (source : ℕ) (earlier : List Receipt) → has_no_room b source earlier ≡ has_no_room least source earlier
  has_no_room-least source earlier =
      let asks : Bool = is_shared (account_of b source) && (asks_in source earlier == b.request_room) in
      ap (λ t. (t && (owns_in earlier == b.own_room)) || asks) (not_single source)
      ∙ sym (ap (λ t. (t && (owns_in earlier == 1)) || asks) (not_single source))

  MayPay-least : (p : ℕ) (earlier : List Receipt) (source : ℕ) (targets : List TargetPair) (r : Receipt) → MayPay least p earlier source targets r
      → MayPay b p earlier source targets r
  MayPay-least p earlier source targets r may =
      record { call = may.call; owner = may.owner; room = has_no_room-least source earlier ∙ may.room }

  IsAtCut-least : (list : List Publication) (account amount : ℕ) (r : Receipt) → IsAtCut least list account amount r
      → IsAtCut b list account amount r
  IsAtCut-least list account amount r at = record { view = at.view; cut = at.cut; at = at.at; balance = at.balance }

  IsAtRound-least : (p : ℕ) (list : List Publication) (earlier : List Receipt) (source : ℕ) (targets : List TargetPair) (r : Receipt)
      → IsAtRound least p list earlier source targets r → IsAtRound b p list earlier source targets r
  IsAtRound-least p list earlier source targets r at = record {
    round = at.round;
    decision = at.decision;
    position = at.position;
    within = at.within;
    at = at.at;
    entry = at.entry;
    slot = at.slot;
    next = at.next;
    reply = at.reply;
  }

  -- each receipt is right
  IsPlaced-least : (p : ℕ) (list : List Publication) (earlier : List Receipt) (r : Receipt) → IsPlaced least p list earlier r
      → IsPlaced b p list earlier r
  IsPlaced-least p list earlier r (read account amount call reply cut) =
      read account amount call reply (IsAtCut-least list account amount r cut)
  IsPlaced-least p list earlier r (not_owner source targets call owner reply at) = not_owner source targets call owner reply at
  IsPlaced-least p list earlier r (full source targets call owner room reply at) =
      full source targets call owner (has_no_room-least source earlier ∙ room) reply at
  IsPlaced-least p list earlier r (short source amount targets may single reply cut less) = cc (sym (not_single source) ∙ single)
  IsPlaced-least p list earlier r (done source targets may single reply own) = cc (sym (not_single source) ∙ single)
  IsPlaced-least p list earlier r (round source targets may shared at) =
      round source targets (MayPay-least p earlier source targets r may) shared (IsAtRound-least p list earlier source targets r at)

  Told-least : (p : ℕ) (list : List Publication) (receipts : List Receipt) → Told least p list receipts → Told b p list receipts
  Told-least p list receipts told = record {
    placed = λ i within. IsPlaced-least p list (take i receipts) (receipt_at receipts i) (told.placed i within);
    keys = told.keys;
    owns = told.owns;
    asks = λ account slot has. told.asks account slot
        (record { account_in = has.account_in; within = has.within; owner = has.owner });
  }

  -- and so is each record
  IsCoherentEntry-least : (c : ClosingTerms) (p : ℕ) (prefix : List Publication) (e : Entry) → IsCoherentEntry least c p prefix e
      → IsCoherentEntry b c p prefix e
  IsCoherentEntry-least c p prefix (Own from targets) law = cc (sym (not_single from) ∙ law.single)
  IsCoherentEntry-least c p prefix (Round account r decision targets) law =
      let sound = law.0 in
      let targets_in = law.1 in
      let proposed = law.3 in
      let numbered = law.4 in (
        record { account_in = sound.account_in; shared = sound.shared; owner = sound.owner; next = sound.next },
        record { some = targets_in.some; few = targets_in.few; accounts = targets_in.accounts },
        law.2,
        record { winner = proposed.winner; published = proposed.published; entry = proposed.entry; place = proposed.place; ok = proposed.ok },
        record { slot_in = numbered.slot_in; next = numbered.next; room = numbered.room },
      )

  Coherent-least : (c : ClosingTerms) → 1 ≤ b.own_room → Coherent least c → Coherent b c
  Coherent-least c some coherent = record {
    logs = coherent.logs;
    receipts = coherent.receipts;
    cuts = record { sized = coherent.cuts.sized; chain = coherent.cuts.chain; ends = coherent.cuts.ends };
    views = coherent.views;
    entries = λ p i within. IsCoherentEntry-least c p _ _ (coherent.entries p i within);
    own_room = λ p. omega (arith, coherent.own_room p, some);
    told = λ p known. Told-least p _ _ (coherent.told p known);
  }

-- the own room is all that a book has where some account has one owner, and else the least
pub Coherent-with_usable_room : (b : BookTerms) (c : ClosingTerms) → 1 ≤ b.own_room → Coherent (with_usable_room b) c → Coherent b c
Coherent-with_usable_room b c some coherent =
    let with_room : Bool → BookTerms = λ single. record b { own_room = cond single b.own_room 1 } in
    elim (cases_Bool (has_single b)) as (λ _. Coherent b c) [
      | inl single ↦ subst (λ t. Coherent (with_room t) c) single coherent
      | inr none ↦ Coherent-least b none c some (subst (λ t. Coherent (with_room t) c) none coherent)
    ]
