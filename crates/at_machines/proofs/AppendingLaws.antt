-- An append from one turn to the next.
use Rattle.std.proofs.Common.{◌≡◌, ℕ, ◌<◌, ◌≤◌, List, length, get_or, refl, sym, ap, subst, ◌∙◌, arith}
use Rattle.at_machines.proofs.Prelude.{set-get_or, BookTerms, length-IsCut, Publication, no_part, own_part, IsKept, FitsNext, MayPublish, Publishes, MayStoreWord, StoresWord, record_width, IsForm, record_words, Part, Knowledge, IsLast-Publishes, FitsNext-MayAppend, IsStoring-more, MayPublish-IsStoring, MayStoreWord-IsStoring, Publishes-IsStoring, IsStoring, MayAppend, IsLast, Record, IsAppendingSo, AppendingTerms, appending_after, publication_of, starting_appending}

-- no word is stored
IsStoring-start : (v : Knowledge) (words : List ℕ) → IsStoring v v words 0
IsStoring-start v words = record {
  stored = (own_part v).stored;
  sized = refl;
  same = sym (ap (λ (ps : List Part). record v { parts = ps }) (set-get_or v.parts 0 no_part));
  words_so_far = λ k below. absurd (omega arith);
}

pub IsAppendingSo-start : (v : Knowledge) (x : Record) → IsKept v → FitsNext v → MayAppend v.book v x → IsAppendingSo (starting_appending v x)
IsAppendingSo-start v x kept fits may = record {
  seat = kept;
  book = refl;
  fits = fits;
  may = may;
  so_far = λ few. IsStoring-start v (record_words (publication_of (starting_appending v x)));
}

-- the record's numbers fit their words, and it has a word for each process
pub IsForm-IsAppendingSo : (a : AppendingTerms) → IsAppendingSo a → IsForm a.rec.entry
IsForm-IsAppendingSo a so = (FitsNext-MayAppend a.start.book a.start a.rec refl so.fits so.may).1

pub length-view-IsAppendingSo : (b : BookTerms) (a : AppendingTerms) → a.mark.book ≡ b → IsAppendingSo a → length a.rec.view ≡ b.processes
length-view-IsAppendingSo b a book so =
    length-IsCut a.start.book.processes a.rec.view a.start.seen so.may.view.cut
    ∙ ap (λ (t : BookTerms). t.processes) (sym so.book ∙ book)

-- what stands before the board's book is put in place of the one at the start
storing : (b : BookTerms) (a : AppendingTerms) → a.mark.book ≡ b → a.stored ≤ record_width b → IsAppendingSo a
    → IsStoring a.start a.mark (record_words (publication_of a)) a.stored
storing b a book few so = so.so_far (omega (arith, few, ap record_width (sym book ∙ so.book)))

pub MayStoreWord-IsAppendingSo : (b : BookTerms) (a : AppendingTerms) → a.mark.book ≡ b → a.stored < record_width b → IsAppendingSo a
    → MayStoreWord b a.mark a.stored
MayStoreWord-IsAppendingSo b a book left so =
    let same : a.start.book ≡ b = sym so.book ∙ book in
    let may : MayAppend b a.start a.rec = subst (λ (t : BookTerms). MayAppend t a.start a.rec) same so.may in
    MayStoreWord-IsStoring b a.start a.mark (record_words (publication_of a)) a.stored a.stored (omega (arith, so.seat.one_part))
    (FitsNext-MayAppend b a.start a.rec same so.fits may).0 (storing b a book (omega arith) so) left

pub IsAppendingSo-word : (b : BookTerms) (a : AppendingTerms) (w : Knowledge) (n : ℕ) → a.mark.book ≡ b → a.stored < record_width b → IsAppendingSo a
    → n ≡ get_or (record_words (publication_of a)) a.stored 0 → StoresWord a.mark w a.stored n → IsAppendingSo (appending_after a w)
IsAppendingSo-word b a w n book left so word told =
    let inside : a.stored < length (own_part a.start).stored = omega (arith, left, so.seat.words, ap record_width (sym so.book ∙ book)) in
    record {
      seat = so.seat;
      book = ap (λ (t : Knowledge). t.book) told ∙ so.book;
      fits = so.fits;
      may = so.may;
      so_far = λ few. IsStoring-more a.start a.mark w (record_words (publication_of a)) a.stored n (omega (arith, so.seat.one_part)) inside
          (storing b a book (omega arith) so) word told;
    }

-- all words are stored
pub MayPublish-IsAppendingSo : (b : BookTerms) (a : AppendingTerms) → a.mark.book ≡ b → a.stored ≡ record_width b → IsAppendingSo a
    → MayPublish b a.mark (publication_of a)
MayPublish-IsAppendingSo b a book all so =
    let same : a.start.book ≡ b = sym so.book ∙ book in
    MayPublish-IsStoring b a.start a.mark a.rec a.stored same a.start.first (own_part a.start).published so.seat
    (subst (λ (t : BookTerms). MayAppend t a.start a.rec) same so.may) (storing b a book (omega (arith, all)) so) all

pub Publishes-IsAppendingSo : (b : BookTerms) (a : AppendingTerms) (w : Knowledge) → a.mark.book ≡ b → a.stored ≡ record_width b → IsAppendingSo a
    → Publishes b a.mark w (publication_of a) → Publishes b a.start w (publication_of a)
Publishes-IsAppendingSo b a w book all so told =
    Publishes-IsStoring b a.start a.mark w (publication_of a) (record_words (publication_of a)) a.stored (omega (arith, so.seat.one_part))
    (storing b a book (omega (arith, all)) so) told

pub IsLast-IsAppendingSo : (b : BookTerms) (a : AppendingTerms) (w : Knowledge) → IsAppendingSo a → Publishes b a.start w (publication_of a)
    → IsLast a.start w (publication_of a)
IsLast-IsAppendingSo b a w so told = IsLast-Publishes b a.start w (publication_of a) (omega (arith, so.seat.one_part)) refl told

pub IsAppendingSo-published : (b : BookTerms) (a : AppendingTerms) (w : Knowledge) (x : Publication) → a.mark.book ≡ b → a.stored ≡ record_width b
    → IsAppendingSo a → Publishes b a.mark w x → IsAppendingSo (appending_after a w)
IsAppendingSo-published b a w x book all so told = record {
  seat = so.seat;
  book = ap (λ (t : Knowledge). t.book) told.same ∙ so.book;
  fits = so.fits;
  may = so.may;
  so_far = λ few. absurd (omega (arith, few, all, ap record_width (sym so.book ∙ book)));
}
