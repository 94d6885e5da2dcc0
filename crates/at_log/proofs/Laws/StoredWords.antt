-- The words of a record that are stored one after another, and its publication.
use Rattle.std.proofs.Common.{◌≡◌, ℕ, ◌+◌, ◌<◌, List, [], ◌∷◌, length, get_or, set, refl, sym, ap, subst, ◌∙◌, arith, below_more}
use Rattle.at_log.proofs.Prelude.{same_number_lists, get_or-set_other, get_or-set_same, length-set, BookTerms, log_room_of, length-IsCut, Publication, no_part, with_part, own_part, IsSeat, FitsNext, MayPublish, Publishes, with_record, MayStoreWord, StoresWord, with_word, record_width, IsForm, record_words, Knowledge, Part, IsStoring, MayAppend, with_stored, published_by, Record}

set_first-again : {X : Type 0} (xs : List X) (x y : X) → set (set xs 0 x) 0 y ≡ set xs 0 y
set_first-again [] x y = refl
set_first-again (z ∷ zs) x y = refl

-- a part that was set twice
pub with_part-again : (v : Knowledge) (q r : Part) → with_part (with_part v q) r ≡ with_part v r
with_part-again v q r = ap (λ parts. record v { parts = parts }) (set_first-again v.parts q r)

-- one more word is stored
pub IsStoring-more : (v u w : Knowledge) (words : List ℕ) (j n : ℕ) → 0 < length v.parts → j < length (own_part v).stored → IsStoring v u words j
    → n ≡ get_or words j 0 → StoresWord u w j n → IsStoring v w words (j + 1)
IsStoring-more v u w words j n some inside storing word told =
    let q : Part = own_part v in
    let own : own_part u ≡ with_stored q storing.stored = ap own_part storing.same ∙ get_or-set_same v.parts 0 (with_stored q storing.stored) no_part some in
    record {
      stored = set storing.stored j n;
      sized = length-set storing.stored j n ∙ storing.sized;
      same = told ∙ (ap (λ t. with_part u (with_word t j n)) own ∙ (ap (λ t. with_part t (with_stored q (set storing.stored j n))) storing.same
          ∙ with_part-again v (with_stored q storing.stored) (with_stored q (set storing.stored j n))));
      words_so_far = below_more (λ k. get_or (set storing.stored j n) k 0 ≡ get_or words k 0) j
          (λ k below. get_or-set_other storing.stored j k n 0 (omega arith) ∙ storing.words_so_far k below)
          (get_or-set_same storing.stored j n 0 (omega (arith, inside, storing.sized)) ∙ word);
    }

-- the log has room for the record, and its numbers fit its words
pub FitsNext-MayAppend : (b : BookTerms) (v : Knowledge) (x : Record) → v.book ≡ b → FitsNext v → MayAppend b v x
    → ((own_part v).published < log_room_of b v.first) × IsForm x.entry
FitsNext-MayAppend b v x book fits may =
    let law : MayAppend v.book v x = subst (λ (t : BookTerms). MayAppend t v x) (sym book) may in
    subst (λ (t : BookTerms). ((own_part v).published < log_room_of t v.first) × IsForm x.entry) book (fits x.view x.entry law.view law.entry)

-- all that a store asks
pub MayStoreWord-IsStoring : (b : BookTerms) (v u : Knowledge) (words : List ℕ) (j k : ℕ) → 0 < length v.parts
    → (own_part v).published < log_room_of b v.first → IsStoring v u words k → j < record_width b → MayStoreWord b u j
MayStoreWord-IsStoring b v u words j k some room storing inside =
    subst (λ t. MayStoreWord b t j) (sym storing.same)
    (record {
      room = subst (λ (q : Part). q.published < log_room_of b v.first) (sym (get_or-set_same v.parts 0 (with_stored (own_part v) storing.stored) no_part some)) room;
      word = inside;
    })

length-record_words : (b : BookTerms) (v : Knowledge) (x : Record) → MayAppend b v x → length (record_words (published_by v.first x)) ≡ record_width b
length-record_words b v x may = omega (arith, length-IsCut b.processes x.view v.seen may.view.cut)

-- all words are stored
pub MayPublish-IsStoring : (b : BookTerms) (v u : Knowledge) (x : Record) (j : ℕ) → v.book ≡ b → (process published : ℕ) → IsSeat v process published → MayAppend b v x
    → IsStoring v u (record_words (published_by v.first x)) j → j ≡ record_width b → MayPublish b u (published_by v.first x)
MayPublish-IsStoring b v u x j book process published seat may storing all =
    let some : 0 < length v.parts = omega (arith, seat.one_part) in
    let y : Publication = published_by v.first x in
    let own = get_or-set_same v.parts 0 (with_stored (own_part v) storing.stored) no_part some in
    let size : length storing.stored ≡ record_width b = storing.sized ∙ (seat.words ∙ ap record_width book) in
    let words : storing.stored ≡ record_words y = same_number_lists storing.stored (record_words y)
    (size ∙ sym (length-record_words b v x may)) (λ k within. storing.words_so_far k (omega (arith, within, size, all))) in
    subst (λ t. MayPublish b t y) (sym storing.same)
    (record {
      process = refl;
      stored = ap (λ (q : Part). q.stored) own ∙ words;
      view = may.view;
      entry = may.entry;
    })

-- the record is published, as if in one step
pub Publishes-IsStoring : (b : BookTerms) (v u w : Knowledge) (x : Publication) (words : List ℕ) (j : ℕ) → 0 < length v.parts → IsStoring v u words j
    → Publishes b u w x → Publishes b v w x
Publishes-IsStoring b v u w x words j some storing told =
    let q : Part = own_part v in
    let own = get_or-set_same v.parts 0 (with_stored q storing.stored) no_part some in
    let here : Publishes b (with_part v (with_stored q storing.stored)) w x = subst (λ t. Publishes b t w x) storing.same told in
    record {
      between = here.between;
      seen = here.seen;
      all = here.all;
      own = here.own ∙ ap (λ (t : Part). t.published + 1) own;
      history = here.history;
      agrees = here.agrees;
      same = here.same ∙ (ap (λ t. with_part (with_part (record v { seen = w.seen }) (with_stored q storing.stored)) (with_record b t x)) own
          ∙ with_part-again (record v { seen = w.seen }) (with_stored q storing.stored) (with_record b q x));
    }
