-- What a closing asks of the crates below, and what it leaves.
use Rattle.std.proofs.Common.{◌≡◌, ℕ, ◌<◌, ◌≤◌, List, [], Vec, Global, length, get_or, map, sym, ap, subst, ◌∙◌, arith}
use Rattle.at_object.proofs.Prelude.{get_or-map, length-map, All, vec_capacity, IsHistory, IsPrefix, count_of, publications_of, BookTerms, AreAllFree, EndTerms, IsEnd, records_of, starting_seat, own_part, BoardTerms, SeatTerms, IsBetweenCalls, AllStand, IsEndWith, length-records_of, log_published, KeepsTime, Told, Record, Receipt, Sound, AreAccountedFor, ClosedTerms, HasAllLogs, IsAtRest, PassTerms, seat_of}

-- each list has the memory of as many records as its pass's process has published
abbrev pub HasRooms : List PassTerms → List (Vec Record Global) → Type 0
HasRooms passes rooms = (p : ℕ) (d : Vec Record Global) (e : PassTerms) → p < length passes →
    (own_part (get_or passes p e).knows).published ≤ vec_capacity (get_or rooms p d)

-- the pass of a seat that no list has
pass_with : SeatTerms → PassTerms
pass_with d = record { board = d.board; knows = d.knows; steps = d.steps; exchanges = d.exchanges; counted = []; calls = 0; past = [] }

-- the seat of a pass
seat_at : (passes : List PassTerms) (p : ℕ) (d : SeatTerms) → p < length passes
    → get_or (map seat_of passes) p d ≡ seat_of (get_or passes p (pass_with d))
seat_at passes p d within = get_or-map seat_of passes p (pass_with d) d within

module _ (ledger : BoardTerms) (passes : List PassTerms) (receipts : List (List Receipt)) (seats : List SeatTerms)
    (accounted : AreAccountedFor ledger passes receipts) (seats_are : seats ≡ map seat_of passes) (at_rest : All IsAtRest seats) where
  pub length-seats : length seats ≡ ledger.book.processes
  length-seats = ap (λ (ss : List SeatTerms). length ss) seats_are ∙ (length-map passes seat_of ∙ accounted.passes_count)

  seat_is : (p : ℕ) (d : SeatTerms) → p < ledger.book.processes → get_or seats p d ≡ seat_of (get_or passes p (pass_with d))
  seat_is p d known =
      ap (λ (ss : List SeatTerms). get_or ss p d) seats_are ∙ seat_at passes p d (omega (arith, known, accounted.passes_count))

  first_is : (p : ℕ) (d : SeatTerms) → p < ledger.book.processes → (get_or seats p d).knows.first ≡ p
  first_is p d known = ap (λ (s : SeatTerms). s.knows.first) (seat_is p d known) ∙ (accounted.each p (pass_with d) known).process_is

  book_is : (p : ℕ) (d : SeatTerms) → p < ledger.book.processes → (get_or seats p d).knows.book ≡ ledger.book
  book_is p d known = ap (λ (s : SeatTerms). s.knows.book) (seat_is p d known) ∙ (accounted.each p (pass_with d) known).of_ledger.book

  board_is : (p : ℕ) (d : SeatTerms) → p < ledger.book.processes → (get_or seats p d).board ≡ ledger.id
  board_is p d known = ap (λ (s : SeatTerms). s.board) (seat_is p d known) ∙ (accounted.each p (pass_with d) known).of_ledger.id

  at_rest-seat : (p : ℕ) (d : SeatTerms) → p < ledger.book.processes → IsAtRest (get_or seats p d)
  at_rest-seat p d known = at_rest p d (omega (arith, known, length-seats))

  -- the board may be closed with the seats
  pub AreAllFree-seats : AreAllFree ledger seats
  AreAllFree-seats = record {
    count = length-seats;
    each = λ p d known. record {
      of_board = record { id = board_is p d known; book = book_is p d known };
      process = first_is p d known;
      free = (at_rest-seat p d known).between.free;
    };
  }

  told_is : (p : ℕ) (d : SeatTerms) → p < ledger.book.processes
      → Told ledger.book (get_or seats p d).knows.first (get_or seats p d).knows.seen (get_or receipts p [])
  told_is p d known =
      subst (λ b. Told b (get_or seats p d).knows.first (get_or seats p d).knows.seen (get_or receipts p [])) (book_is p d known)
      (subst (λ (s : SeatTerms). Told s.knows.book s.knows.first s.knows.seen (get_or receipts p [])) (sym (seat_is p d known))
      (accounted.each p (pass_with d) known).stands)

  -- the receipts stand with them
  pub AllStand-seats : AllStand ledger.book seats receipts
  AllStand-seats = record {
    count = length-seats;
    process = first_is;
    history = λ p d known. subst (λ b. IsHistory b (get_or seats p d).knows.seen) (book_is p d known) (at_rest-seat p d known).kept.history;
    each = λ p d known. record {
      between = subst (λ b. IsBetweenCalls b (get_or seats p d).knows) (book_is p d known) (at_rest-seat p d known).between;
      told = told_is p d known;
    };
  }

  -- and so they do by the book of the closed board
  AllStand-board : (e : EndTerms) → e.book ≡ ledger.book → AllStand e.book seats receipts
  AllStand-board e same = subst (λ b. AllStand b seats receipts) (sym same) AllStand-seats

  pub IsEndWith-seats : (e : EndTerms) → e.book ≡ ledger.book → IsEnd e seats → IsEndWith e receipts
  IsEndWith-seats e same ended = (seats, ended, AllStand-board e same)

  -- a closed board has as many records of a process as its pass says
  pub length-records_of-pass : (e : EndTerms) → e.book ≡ ledger.book → IsEnd e seats → (p : ℕ) (d : PassTerms) → p < e.book.processes
      → length (records_of e p) ≡ (own_part (get_or passes p d).knows).published
  length-records_of-pass e same ended p d known =
      let within : p < length passes = omega (arith, known, accounted.passes_count, ap (λ (b : BookTerms). b.processes) same) in
      length-records_of e seats p ended known
      ∙ (ended.counted p (seat_of d) known
      ∙ ap (λ (s : SeatTerms). (own_part s.knows).published)
      (ap (λ (ss : List SeatTerms). get_or ss p (seat_of d)) seats_are ∙ get_or-map seat_of passes p d (seat_of d) within))

  -- so a list that has the memory of as many has the memory of all of them
  pub room-seats : (e : EndTerms) (rooms : List (Vec Record Global)) → e.book ≡ ledger.book → IsEnd e seats → HasRooms passes rooms
      → (p : ℕ) (d : Vec Record Global) → p < e.book.processes → length (records_of e p) ≤ vec_capacity (get_or rooms p d)
  room-seats e rooms same ended room p d known =
      let none : PassTerms = pass_with (record { board = ledger.id; knows = starting_seat ledger.book p; steps = 0; exchanges = 0 }) in
      let within : p < length passes = omega (arith, known, accounted.passes_count, ap (λ (b : BookTerms). b.processes) same) in
      omega (arith, length-records_of-pass e same ended p none known, room p d none within)

  -- each pass has seen all records of its process
  counted-seats : (e : EndTerms) → e.book ≡ ledger.book → (ended : IsEnd e seats) → (p : ℕ) (d : PassTerms) → p < e.book.processes
      → count_of p ended.state.published ≡ count_of p (get_or passes p d).knows.seen
  counted-seats e same ended p d known =
      let inside : p < ledger.book.processes = omega (arith, known, ap (λ (b : BookTerms). b.processes) same) in
      let within : p < length passes = omega (arith, inside, accounted.passes_count) in
      let seat = get_or seats p (seat_of d) in
      let is : seat ≡ seat_of (get_or passes p d) =
      ap (λ (ss : List SeatTerms). get_or ss p (seat_of d)) seats_are ∙ get_or-map seat_of passes p d (seat_of d) within in
      ended.counted p (seat_of d) known
      ∙ (sym (at_rest-seat p (seat_of d) inside).between.own
      ∙ (ap (λ q. count_of q seat.knows.seen) (first_is p (seat_of d) inside) ∙ ap (λ (s : SeatTerms). count_of p s.knows.seen) is))

  -- the logs are all that was published, and each pass had seen a prefix of it. The journal keeps the time of it, since the receipts
  -- stand with the seats
  pub HasAllLogs-seats : (e : EndTerms) (closed : ClosedTerms) → e.book ≡ ledger.book → closed.book ≡ ledger.book
      → (ended : IsEnd e seats)
      → ((p : ℕ) → p < e.book.processes → log_published closed.closing p ≡ publications_of p ended.state.published)
      → closed.closing.receipts ≡ receipts → (AllStand e.book seats closed.closing.receipts → KeepsTime ended.state.published closed.closing)
      → HasAllLogs passes closed
  HasAllLogs-seats e closed same book ended logs receipts_are in_time = record {
    state = ended.state;
    sound = subst (λ b. Sound b ended.state) (same ∙ sym book) ended.sound;
    history = subst (λ b. IsHistory b ended.state.published) (same ∙ sym book) ended.history;
    free = λ p known. ended.free p (omega (arith, known, ap (λ (b : BookTerms). b.processes) same, ap (λ (b : BookTerms). b.processes) book));
    logs = λ p known. logs p (omega (arith, known, ap (λ (b : BookTerms). b.processes) same, ap (λ (b : BookTerms). b.processes) book));
    seen = λ p d within.
        subst (λ (s : SeatTerms). IsPrefix s.knows.seen ended.state.published)
        (ap (λ (ss : List SeatTerms). get_or ss p (seat_of d)) seats_are ∙ get_or-map seat_of passes p d (seat_of d) within)
        (ended.seen p (seat_of d) (omega (arith, within, length-seats, accounted.passes_count)));
    counted = λ p d known. counted-seats e same ended p d
        (omega (arith, known, ap (λ (b : BookTerms). b.processes) same, ap (λ (b : BookTerms). b.processes) book));
    in_time = in_time (subst (AllStand e.book seats) (sym receipts_are) (AllStand-board e same));
  }
