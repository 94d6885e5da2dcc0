-- A closed board with its receipts is what its last state leaves.
use Rattle.std.proofs.Common.{◌≡◌, ℕ, ◌<◌, List, [], length, get_or, sym, ap, subst, ◌∙◌, arith}
use Rattle.at_log.proofs.Prelude.{BookTerms, HasSlot, IsHistory, IsPrefix, count_of, publications_of, EndTerms, IsEnd, starting_seat, asking_on, own_part, SeatTerms, Knowledge, ClosingTerms, log_published, Coherent, KeepsTime, Told, Receipt, StandsWith, AreInOrder, IsLeft, AllStand}
use Rattle.at_log.proofs.Coherence.{Coherent-IsLeft}
use Rattle.at_log.proofs.InTime.{KeepsTime-IsLeft}
use Rattle.at_log.proofs.LeftLaws.Ended.{AreInOrder-ended, Told-ended}

-- the seat of a process
seat_at : BookTerms → List SeatTerms → ℕ → SeatTerms
seat_at b seats p =
    get_or seats p (record {
      board = record { words = 0; slots = 0; views_name = 0; atom = 0; block = 0; offset = 0; slot_names = [] };
      knows = starting_seat b p;
      steps = 0;
      exchanges = 0;
    })

module _ (e : EndTerms) (seats : List SeatTerms) (receipts : List (List Receipt)) (ended : IsEnd e seats) (all : AllStand e.book seats receipts) where
  knows_at : ℕ → Knowledge
  knows_at p = (seat_at e.book seats p).knows

  first-knows_at : (p : ℕ) → p < e.book.processes → (knows_at p).first ≡ p
  unfolding seat_at knows_at
  first-knows_at p known = all.process p _ known

  stands-knows_at : (p : ℕ) → p < e.book.processes → StandsWith e.book (knows_at p) (get_or receipts p [])
  unfolding seat_at knows_at
  stands-knows_at p known = all.each p _ known

  history-knows_at : (p : ℕ) → p < e.book.processes → IsHistory e.book (knows_at p).seen
  unfolding seat_at knows_at
  history-knows_at p known = all.history p _ known

  seen-knows_at : (p : ℕ) → p < e.book.processes → IsPrefix (knows_at p).seen ended.state.published
  unfolding seat_at knows_at
  seen-knows_at p known = ended.seen p _ (omega (arith, known, all.count))

  counted-knows_at : (p : ℕ) → p < e.book.processes → count_of (knows_at p).first ended.state.published ≡ count_of (knows_at p).first (knows_at p).seen
  unfolding seat_at knows_at
  counted-knows_at p known =
      ap (λ q. count_of q ended.state.published) (all.process p _ known) ∙ (ended.counted p _ known ∙ sym (all.each p _ known).between.own)

  rows-knows_at : (p : ℕ) → p < e.book.processes → (a slot : ℕ) → HasSlot e.book (knows_at p).first a slot
      → ended.state.rows a slot ≡ (asking_on (own_part (knows_at p)) a).announced
  unfolding seat_at knows_at
  rows-knows_at p known a slot has = ended.announced p _ a slot known (subst (λ q. HasSlot e.book q a slot) (all.process p _ known) has)

  -- the receipts of each process account for all that it has, and its own records and requests are in order
  told-IsEnd : (p : ℕ) → p < e.book.processes → Told e.book p ended.state.published (get_or receipts p [])
  told-IsEnd p known =
      subst (λ q. Told e.book q ended.state.published (get_or receipts p [])) (first-knows_at p known)
      (Told-ended e.book ended.state (knows_at p) (get_or receipts p []) ended.sound ended.history (history-knows_at p known)
      (seen-knows_at p known) (counted-knows_at p known) (rows-knows_at p known) (stands-knows_at p known))

  order-IsEnd : (p : ℕ) → p < e.book.processes → AreInOrder e.book p ended.state.published ended.state.rows
  order-IsEnd p known =
      subst (λ q. AreInOrder e.book q ended.state.published ended.state.rows) (first-knows_at p known)
      (AreInOrder-ended e.book ended.state (knows_at p) (seen-knows_at p known) (counted-knows_at p known) (rows-knows_at p known)
      (stands-knows_at p known).between)

  module _ (c : ClosingTerms) (logs : length c.logs ≡ e.book.processes) (counted : length receipts ≡ e.book.processes) (same : c.receipts ≡ receipts)
      (log : (p : ℕ) → p < e.book.processes → log_published c p ≡ publications_of p ended.state.published) where
    -- so a closing of its records and these receipts is what the state leaves
    IsLeft-IsEnd : IsLeft e.book ended.state c
    IsLeft-IsEnd = record {
      sound = ended.sound;
      history = ended.history;
      free = ended.free;
      logs = logs;
      log = log;
      receipts = ap (λ (rs : List (List Receipt)). length rs) same ∙ counted;
      told = λ p known. subst (λ rs. Told e.book p ended.state.published (get_or rs p [])) (sym same) (told-IsEnd p known);
      order = order-IsEnd;
    }

    -- it is coherent, and its journal keeps time
    pub Coherent-IsEnd : Coherent e.book c
    Coherent-IsEnd = Coherent-IsLeft e.book ended.state c IsLeft-IsEnd

    pub KeepsTime-IsEnd : KeepsTime ended.state.published c
    KeepsTime-IsEnd = KeepsTime-IsLeft e.book ended.state c IsLeft-IsEnd
