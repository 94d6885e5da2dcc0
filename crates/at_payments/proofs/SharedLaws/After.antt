-- What steps leave of what a seat knows: its process and book, all that it had seen and asked, and what it has on each account.
use Rattle.std.proofs.Common.{◌≡◌, ◌≢◌, ℕ, ◌+◌, ◌<◌, List, [], ◌∷◌, ◌++◌, length, replicate, sym, ap, subst, ◌∙◌, arith}
use Rattle.at_payments.proofs.Prelude.{append-nil, append_assoc, get_or-set_other, get_or-set_same, length-set, Contains-append_left, Contains, BookTerms, IsPrefix-refl, IsPrefix-trans, IsPrefix, Publication, Decision, asking_on, no_asking, no_part, own_part, part_asking, Decides, with_decide, Publishes, with_record, Asking, Knowledge, LoadedWord, Part, SeenRequest, REQUEST_WORDS, HasAccount, LoadsRequest, with_words, loaded_words, seen_of, OpenRequest, HasLoaded}

-- so many exchanges more on an account, and these words of its requests loaded besides
abbrev pub with_more : Asking → ℕ → List LoadedWord → Asking
with_more t n words = record t { decides = t.decides + n; loaded = t.loaded ++ words }

pub with_more-none : (t : Asking) → with_more t 0 [] ≡ t
with_more-none t =
    let count : t.decides + 0 ≡ t.decides = omega arith in
    ap (λ k. record t { decides = k; loaded = t.loaded ++ [] }) count ∙ ap (λ (ls : List LoadedWord). record t { loaded = ls }) (append-nil t.loaded)

-- the seat after steps that made so many exchanges on one account and loaded these words of its requests
pub record IsAfter (v w : Knowledge) (a n : ℕ) (words : List LoadedWord) : Type 0 where
  pub first : w.first ≡ v.first
  pub book : w.book ≡ v.book
  pub more : IsPrefix v.seen w.seen
  pub parts : length w.parts ≡ length v.parts
  pub accounts : length (own_part w).asking ≡ length (own_part v).asking
  pub requests : (x : SeenRequest) → Contains v.requests x → Contains w.requests x
  pub asking : asking_on (own_part w) a ≡ with_more (asking_on (own_part v) a) n words
  pub elsewhere : (c : ℕ) → c ≢ a → asking_on (own_part w) c ≡ asking_on (own_part v) c

pub IsAfter-trans : (v u w : Knowledge) (a n m : ℕ) (words more : List LoadedWord) → IsAfter v u a n words → IsAfter u w a m more
    → IsAfter v w a (n + m) (words ++ more)
IsAfter-trans v u w a n m words more one two =
    let old : Asking = asking_on (own_part v) a in
    let count : old.decides + n + m ≡ old.decides + (n + m) = omega arith in
    record {
      first = two.first ∙ one.first;
      book = two.book ∙ one.book;
      more = IsPrefix-trans v.seen u.seen w.seen one.more two.more;
      parts = two.parts ∙ one.parts;
      accounts = two.accounts ∙ one.accounts;
      requests = λ x sees. two.requests x (one.requests x sees);
      asking = two.asking
          ∙ (ap (λ (t : Asking). with_more t m more) one.asking
          ∙ (ap (λ k. record old { decides = k; loaded = (old.loaded ++ words) ++ more }) count
          ∙ ap (λ (ls : List LoadedWord). record old { decides = old.decides + (n + m); loaded = ls }) (append_assoc old.loaded words more)));
      elsewhere = λ c other. two.elsewhere c other ∙ one.elsewhere c other;
    }

-- loads of lengths
pub own_part-HasLoaded : (b : BookTerms) (v w : Knowledge) → 0 < length v.parts → HasLoaded b v w
    → own_part w ≡ record (own_part v) { loads = (own_part w).loads }
own_part-HasLoaded b v w part told =
    ap own_part told.same ∙ get_or-set_same v.parts 0 (record (own_part v) { loads = (own_part w).loads }) no_part part

pub IsAfter-HasLoaded : (b : BookTerms) (v w : Knowledge) (a : ℕ) → 0 < length v.parts → HasLoaded b v w → IsAfter v w a 0 []
IsAfter-HasLoaded b v w a part told =
    let own = own_part-HasLoaded b v w part told in
    let q : Part = record (own_part v) { loads = (own_part w).loads } in
    record {
      first = ap (λ (t : Knowledge). t.first) told.same;
      book = ap (λ (t : Knowledge). t.book) told.same;
      more = told.more;
      parts = ap (λ (t : Knowledge). length t.parts) told.same ∙ length-set v.parts 0 q;
      accounts = ap (λ (t : Part). length t.asking) own;
      requests = λ x sees. subst (λ (rs : List SeenRequest). Contains rs x) (sym (ap (λ (t : Knowledge). t.requests) told.same)) sees;
      asking = ap (λ (t : Part). asking_on t a) own ∙ sym (with_more-none (asking_on (own_part v) a));
      elsewhere = λ c other. ap (λ (t : Part). asking_on t c) own;
    }

-- an exchange
pub own_part-Decides : (b : BookTerms) (v w : Knowledge) (a round : ℕ) (d : Decision) (word : ℕ) → 0 < length v.parts
    → (told : Decides b v w a round d word) → own_part w ≡ with_decide (own_part v) a told.held
own_part-Decides b v w a round d word part told =
    ap own_part told.same ∙ get_or-set_same v.parts 0 (with_decide (own_part v) a told.held) no_part part

pub IsAfter-Decides : (b : BookTerms) (v w : Knowledge) (a round : ℕ) (d : Decision) (word : ℕ) → HasAccount v a → Decides b v w a round d word
    → IsAfter v w a 1 []
IsAfter-Decides b v w a round d word has told =
    let own = own_part-Decides b v w a round d word has.part told in
    let old : Asking = asking_on (own_part v) a in
    let now : Asking = record old { decides = old.decides + 1 } in
    record {
      first = ap (λ (t : Knowledge). t.first) told.same;
      book = ap (λ (t : Knowledge). t.book) told.same;
      more = told.more;
      parts = ap (λ (t : Knowledge). length t.parts) told.same ∙ length-set v.parts 0 (with_decide (own_part v) a told.held);
      accounts = ap (λ (t : Part). length t.asking) own ∙ length-set (own_part v).asking a now;
      requests = λ x sees. subst (λ (rs : List SeenRequest). Contains rs x) (sym (ap (λ (t : Knowledge). t.requests) told.same)) sees;
      asking = ap (λ (t : Part). asking_on t a) own
          ∙ (get_or-set_same (own_part v).asking a now no_asking has.inside
          ∙ ap (λ (ls : List LoadedWord). record old { decides = old.decides + 1; loaded = ls }) (sym (append-nil old.loaded)));
      elsewhere = λ c other. ap (λ (t : Part). asking_on t c) own
          ∙ get_or-set_other (own_part v).asking a c now no_asking other;
    }

-- a load of a request
pub own_part-LoadsRequest : (b : BookTerms) (v w : Knowledge) (a slot number : ℕ) (x : OpenRequest) → 0 < length v.parts
    → LoadsRequest b v w a slot number x
    → own_part w ≡ part_asking (own_part v) a (with_words (asking_on (own_part v) a) (loaded_words (seen_of a x)))
own_part-LoadsRequest b v w a slot number x part told =
    ap own_part told.same
    ∙ get_or-set_same v.parts 0 (part_asking (own_part v) a (with_words (asking_on (own_part v) a) (loaded_words (seen_of a x)))) no_part part

pub IsAfter-LoadsRequest : (b : BookTerms) (v w : Knowledge) (a slot number : ℕ) (x : OpenRequest) → HasAccount v a → LoadsRequest b v w a slot number x
    → IsAfter v w a 0 (loaded_words (seen_of a x))
IsAfter-LoadsRequest b v w a slot number x has told =
    let own = own_part-LoadsRequest b v w a slot number x has.part told in
    let old : Asking = asking_on (own_part v) a in
    let now : Asking = with_words old (loaded_words (seen_of a x)) in
    let all : List SeenRequest = replicate REQUEST_WORDS (seen_of a x) in
    let count : old.decides ≡ old.decides + 0 = omega arith in
    record {
      first = ap (λ (t : Knowledge). t.first) told.same;
      book = ap (λ (t : Knowledge). t.book) told.same;
      more = subst (λ (list : List Publication). IsPrefix v.seen list) (sym (ap (λ (t : Knowledge). t.seen) told.same)) (IsPrefix-refl v.seen);
      parts = ap (λ (t : Knowledge). length t.parts) told.same ∙ length-set v.parts 0 (part_asking (own_part v) a now);
      accounts = ap (λ (t : Part). length t.asking) own ∙ length-set (own_part v).asking a now;
      requests = λ y sees. subst (λ (rs : List SeenRequest). Contains rs y) (sym (ap (λ (t : Knowledge). t.requests) told.same))
          (Contains-append_left v.requests all y sees);
      asking = ap (λ (t : Part). asking_on t a) own
          ∙ (get_or-set_same (own_part v).asking a now no_asking has.inside ∙ ap (λ k. record now { decides = k }) count);
      elsewhere = λ c other. ap (λ (t : Part). asking_on t c) own ∙ get_or-set_other (own_part v).asking a c now no_asking other;
    }

-- a publishing step
pub own_part-Publishes : (b : BookTerms) (v w : Knowledge) (x : Publication) → 0 < length v.parts → Publishes b v w x
    → own_part w ≡ with_record b (own_part v) x
own_part-Publishes b v w x part told = ap own_part told.same ∙ get_or-set_same v.parts 0 (with_record b (own_part v) x) no_part part

pub IsAfter-Publishes : (b : BookTerms) (v w : Knowledge) (a : ℕ) (x : Publication) → 0 < length v.parts → Publishes b v w x → IsAfter v w a 0 []
IsAfter-Publishes b v w a x part told =
    let own = own_part-Publishes b v w x part told in
    record {
      first = ap (λ (t : Knowledge). t.first) told.same;
      book = ap (λ (t : Knowledge). t.book) told.same;
      more = (told.between ++ x ∷ [], told.seen ∙ append_assoc v.seen told.between (x ∷ []));
      parts = ap (λ (t : Knowledge). length t.parts) told.same ∙ length-set v.parts 0 (with_record b (own_part v) x);
      accounts = ap (λ (t : Part). length t.asking) own;
      requests = λ y sees. subst (λ (rs : List SeenRequest). Contains rs y) (sym (ap (λ (t : Knowledge). t.requests) told.same)) sees;
      asking = ap (λ (t : Part). asking_on t a) own ∙ sym (with_more-none (asking_on (own_part v) a));
      elsewhere = λ c other. ap (λ (t : Part). asking_on t c) own;
    }

-- the seat has something on the account still
pub HasAccount-IsAfter : (v w : Knowledge) (a n : ℕ) (words : List LoadedWord) → IsAfter v w a n words → HasAccount v a → HasAccount w a
HasAccount-IsAfter v w a n words after has = record { part = omega (arith, after.parts, has.part); inside = omega (arith, after.accounts, has.inside) }
