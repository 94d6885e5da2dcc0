-- The answers to all files, from those of each part.
use Rattle.std.proofs.Common.{◌≡◌, ℕ, ◌+◌, ◌<◌, ◌≤◌, List, [], ◌∷◌, ◌++◌, length, get_or, All, None, Some, refl, sym, ap, subst, ◌∙◌, arith}
use Rattle.std.specs.Prelude.{Vec, slice_get}
use Rattle.at_orders.proofs.Prelude.{Global, get_or-map, get_or_append_left, length-append, slice_get-get_or, slice_get_within, get_or_from_slice_get, get_or-append_seam, BookTerms, total_of, first_account, Call, Read, Balance, IsPlayable, contents_of, get_or-contents_of, length-contents_of, call_known-at, AreParts, files_of_part, AreFilesAnswers, AreFirstAnswers, AreOrdered, AreSpansOn, HoldsAt, IsNamedFirst, IsOrdered, IsSpan, falls_of, range_in, rises_of, part_ranges, All-contains, GroundTerms, HasFirstPlace, HasPlace, IsGround, range_at, AreAnswers, Comes, AreJust, IsListed, read_replies, Part, Range, Replies}
use Rattle.at_orders.proofs.Moved.{at_or_off}
use Rattle.at_orders.proofs.OnTheWay.{AreFiles}
use Rattle.at_orders.proofs.Parting.{length-part, own-file, part-playable}
use Rattle.at_orders.proofs.Ranging.{AreRanges, ReadsFrom, balance-read, before-comes, falls-within, payment-just, read-just, rises-within}

-- some item of a list that isn't empty
some_item : {X : Type 0} (xs : List X) (i : ℕ) → i < length xs → X
some_item [] i within = absurd (let wrong : ⊥ = omega arith in wrong)
some_item (x ∷ xs) i within = x

pub spans-on : (b : BookTerms) (files : List (List Call)) (parts : List ℕ) (done : List Part) (count : ℕ) → AreOrdered b files parts done count → AreSpansOn b done
spans-on b files parts done count are = record { each = λ k d within. let size = are.count_of in (are.each k d (omega arith)).accounts }

-- the ranges that an account has which a call names first
ranges-are : (b : BookTerms) (files : List (List Call)) (parts : List ℕ) (done : List Part) (a : ℕ) → a < length b.accounts → IsNamedFirst files a → AreOrdered b files parts done (length files)
    → AreRanges b files parts a (part_ranges done a)
ranges-are b files parts done a a_in named are k k_in =
    let size = are.count_of in
    let within : k < length done = omega arith in
    let d : Part = some_item done k within in
    let one = are.each k d k_in in
    let same : part_ranges done a k ≡ range_in (get_or done k d).spans.items a = ap (λ (rs : List Range). range_in rs a) (get_or-map (λ (x : Part). x.spans.items) done k d [] within) in
    subst (IsSpan (HoldsAt b (files_of_part files parts k) a)) (sym same) (one.spans a a_in named)

-- a call and its replies in its part
pub record IsReplied (b : BookTerms) (files : List (List Call)) (parts : List ℕ) (done : List Part) (p i : ℕ) (c : Call) (r : Replies) : Type 0 where
  pub are : AreFiles b files
  pub parted : AreParts b files parts
  pub ordered : AreOrdered b files parts done (length files)
  pub p_in : p < length files
  pub at : slice_get (get_or files p []) i ≡ Some c
  pub just : AreJust (Comes b (files_of_part files parts (get_or parts p 0)) p i) r

-- with balances it is a read
reads : (b : BookTerms) (files : List (List Call)) (parts : List ℕ) (done : List Part) (p i : ℕ) (c : Call) (r : Replies) (own : Range) → IsReplied b files parts done p i c r → r.balances ≡ Some own
    → ReadsFrom b files parts p i (first_account c) own (part_ranges done (first_account c))
reads b files parts done p i c r own replied is =
    let k : ℕ = get_or parts p 0 in
    let fs : List (List Call) = files_of_part files parts k in
    let size = length-part files parts k in
    let p_in = replied.p_in in
    let least = replied.just.least own is in
    let at = before-comes b fs p i (Balance own.least) least in
    let there : slice_get (get_or files p []) i ≡ Some at.call = subst (λ (calls : List Call). slice_get calls i ≡ Some at.call) (own-file files parts k p p_in refl) at.next in
    let here = replied.at in
    let same : at.call ≡ c = cc in
    let read = balance-read b fs p i own.least (Balance own.least) (part-playable b files parts k replied.are) (omega arith) refl at in
    let is_read : c ≡ Read (first_account c) = sym same ∙ (read.read ∙ ap (λ (d : Call). Read (first_account d)) same) in
    let a : ℕ = first_account c in
    let at_read : slice_get (get_or files p []) i ≡ Some (Read a) = here ∙ ap Some is_read in
    let a_in : a < length b.accounts = call_known-at (length b.accounts) files p i (Read a) replied.are.playable p_in at_read in
    let within = slice_get_within (get_or files p []) i c here in
    let named : IsNamedFirst files a = record {
      process = p;
      within = p_in;
      call = c;
      stands = (i, within, get_or_from_slice_get (get_or files p []) i c c here);
      names = refl;
    } in
    record {
      are = replied.are;
      parted = replied.parted;
      p_in = p_in;
      a_in = a_in;
      reads = at_read;
      least = least;
      greatest = replied.just.greatest own is;
      all = λ v comes.
          let listed : IsListed r (Balance v) = replied.just.all (Balance v) comes in
          let range : Some listed.0 ≡ Some own = sym listed.1 ∙ is in
          let one : listed.0 ≡ own = cc in
          subst (λ (x : Range). (x.least ≤ v) × (v ≤ x.greatest)) one (listed.2, listed.3);
      ranges = ranges-are b files parts done a a_in named replied.ordered;
    }

-- the sums of the other parts fit
pub record SumsFit (b : BookTerms) (k a count : ℕ) (own : Range) (done : List Part) : Type 0 where
  pub account : a < length b.accounts
  pub falls : falls_of b a (part_ranges done a) k count ≤ own.least
  pub rises : own.greatest + rises_of b a (part_ranges done a) k count ≤ total_of b

pub read-fits : (b : BookTerms) (files : List (List Call)) (parts : List ℕ) (done : List Part) (p i : ℕ) (c : Call) (r : Replies) (own : Range) → IsReplied b files parts done p i c r → r.balances ≡ Some own
    → SumsFit b (get_or parts p 0) (first_account c) (length done) own done
read-fits b files parts done p i c r own replied is =
    let a : ℕ = first_account c in
    let k : ℕ = get_or parts p 0 in
    let from = reads b files parts done p i c r own replied is in
    let low = falls-within b files parts p i a own (part_ranges done a) from in
    let high = rises-within b files parts p i a own (part_ranges done a) from in
    let n = replied.ordered.count_of in
    record {
      account = from.a_in;
      falls = subst (λ (m : ℕ). falls_of b a (part_ranges done a) k m ≤ own.least) (sym n) low;
      rises = subst (λ (m : ℕ). own.greatest + rises_of b a (part_ranges done a) k m ≤ total_of b) (sym n) high;
    }

-- the answer to a read
pub read-answer : (b : BookTerms) (files : List (List Call)) (parts : List ℕ) (done : List Part) (p i : ℕ) (c : Call) (r : Replies) (own range : Range) → IsReplied b files parts done p i c r → r.balances ≡ Some own
    → range.least + falls_of b (first_account c) (part_ranges done (first_account c)) (get_or parts p 0) (length done) ≡ own.least
    → range.greatest ≡ own.greatest + rises_of b (first_account c) (part_ranges done (first_account c)) (get_or parts p 0) (length done) → AreJust (Comes b files p i) (read_replies range)
read-answer b files parts done p i c r own range replied is least greatest =
    let a : ℕ = first_account c in
    let k : ℕ = get_or parts p 0 in
    let n = replied.ordered.count_of in
    read-just b files parts p i a own range (part_ranges done a) (reads b files parts done p i c r own replied is)
    (ap (λ (m : ℕ). range.least + falls_of b a (part_ranges done a) k m) (sym n) ∙ least)
    (greatest ∙ ap (λ (m : ℕ). own.greatest + rises_of b a (part_ranges done a) k m) n)

-- call i of a file
pub call-known : (files : List (Vec Call Global)) (p i : ℕ) (file : Vec Call Global) (call : Call) → p < length files → file ≡ get_or files p file
    → i < length (get_or (contents_of files) p []) → call ≡ get_or file.items i call → slice_get (get_or (contents_of files) p []) i ≡ Some call
call-known files p i file call p_in is inside there =
    let same : get_or (contents_of files) p [] ≡ file.items = get_or-contents_of files p file p_in is in
    let here : call ≡ get_or (get_or (contents_of files) p []) i call =
    there ∙ ap (λ (xs : List Call). get_or xs i call) (sym same) in
    slice_get-get_or (get_or (contents_of files) p []) i call inside ∙ ap Some (sym here)

-- what the program reads of a part: its replies to a call
pub record IsRead (b : BookTerms) (files : List (Vec Call Global)) (parts : List ℕ) (done : List Part) (p i : ℕ) (d : Part) : Type 0 where
  pub count : length files ≡ b.processes
  pub playable : All (IsPlayable (length b.accounts)) (contents_of files)
  pub parted : AreParts b (contents_of files) parts
  pub ordered : AreOrdered b (contents_of files) parts done (length files)
  pub p_in : p < b.processes
  pub i_in : i < length (get_or (contents_of files) p [])
  pub is : d ≡ get_or done (get_or parts p 0) d

-- the part that was read
record PartRead (b : BookTerms) (files : List (List Call)) (parts : List ℕ) (p i : ℕ) (d : Part) : Type 0 where
  p_in : p < length files
  p_there : p < length (files_of_part files parts (get_or parts p 0))
  i_there : i < length (get_or (files_of_part files parts (get_or parts p 0)) p [])
  ordered : IsOrdered b files parts (get_or parts p 0) d

part-read : (b : BookTerms) (files : List (Vec Call Global)) (parts : List ℕ) (done : List Part) (p i : ℕ) (d : Part) → IsRead b files parts done p i d → PartRead b (contents_of files) parts p i d
part-read b files parts done p i d read =
    let all : List (List Call) = contents_of files in
    let k : ℕ = get_or parts p 0 in
    let size = length-contents_of files in
    let count = read.count in
    let h = read.p_in in
    let p_in : p < length all = omega arith in
    let same : get_or (files_of_part all parts k) p [] ≡ get_or all p [] = own-file all parts k p p_in refl in
    record {
      p_in = p_in;
      p_there = let n = length-part all parts k in omega arith;
      i_there = subst (λ (calls : List Call). i < length calls) (sym same) read.i_in;
      ordered = subst (IsOrdered b all parts k) (sym read.is) (read.ordered.each k d (let n = read.parted.known p p_in in omega arith));
    }

pub row-in : (b : BookTerms) (files : List (Vec Call Global)) (parts : List ℕ) (done : List Part) (p i : ℕ) (d : Part) → IsRead b files parts done p i d → p < length d.replies.items
row-in b files parts done p i d read =
    let part = part-read b files parts done p i d read in
    let rows = part.ordered.answers.processes in
    let n = length-contents_of d.replies.items in
    let h = part.p_there in
    omega arith

row-is : (b : BookTerms) (files : List (Vec Call Global)) (parts : List ℕ) (done : List Part) (p i : ℕ) (d : Part) (row : Vec Replies Global) → IsRead b files parts done p i d → row ≡ get_or d.replies.items p row
    → get_or (contents_of d.replies.items) p [] ≡ row.items
row-is b files parts done p i d row read is = get_or-contents_of d.replies.items p row (row-in b files parts done p i d read) is

pub reply-in : (b : BookTerms) (files : List (Vec Call Global)) (parts : List ℕ) (done : List Part) (p i : ℕ) (d : Part) (row : Vec Replies Global) → IsRead b files parts done p i d → row ≡ get_or d.replies.items p row
    → i < length row.items
reply-in b files parts done p i d row read is =
    let part = part-read b files parts done p i d read in
    let calls = part.ordered.answers.calls p part.p_there in
    let same = ap (λ (rs : List Replies). length rs) (row-is b files parts done p i d row read is) in
    let h = part.i_there in
    omega arith

part-just : (b : BookTerms) (files : List (Vec Call Global)) (parts : List ℕ) (done : List Part) (p i : ℕ) (d : Part) (row : Vec Replies Global) (r : Replies) → IsRead b files parts done p i d
    → row ≡ get_or d.replies.items p row → r ≡ get_or row.items i r → AreJust (Comes b (files_of_part (contents_of files) parts (get_or parts p 0)) p i) r
part-just b files parts done p i d row r read is_row is_reply =
    let part = part-read b files parts done p i d read in
    subst (AreJust (Comes b (files_of_part (contents_of files) parts (get_or parts p 0)) p i))
    (ap (λ (rs : List Replies). get_or rs i r) (row-is b files parts done p i d row read is_row) ∙ sym is_reply) (part.ordered.answers.replies p i r part.p_there part.i_there)

pub replied : (b : BookTerms) (files : List (Vec Call Global)) (parts : List ℕ) (done : List Part) (p i : ℕ) (d : Part) (row : Vec Replies Global) (r : Replies) (file : Vec Call Global) (c : Call)
    → IsRead b files parts done p i d → row ≡ get_or d.replies.items p row → r ≡ get_or row.items i r → file ≡ get_or files p file → c ≡ get_or file.items i c
    → IsReplied b (contents_of files) parts done p i c r
replied b files parts done p i d row r file c read is_row is_reply is_file is_call =
    let part = part-read b files parts done p i d read in
    let size = length-contents_of files in
    let count = read.count in
    let h = read.p_in in
    record {
      are = record { playable = read.playable; count = size ∙ read.count };
      parted = read.parted;
      ordered = subst (AreOrdered b (contents_of files) parts done) (sym size) read.ordered;
      p_in = part.p_in;
      at = call-known files p i file c (omega arith) is_file read.i_in is_call;
      just = part-just b files parts done p i d row r read is_row is_reply;
    }

-- without balances they are the replies in all files
pub none-answer : (b : BookTerms) (files : List (Vec Call Global)) (parts : List ℕ) (done : List Part) (p i : ℕ) (d : Part) (row : Vec Replies Global) (r : Replies) → IsRead b files parts done p i d
    → row ≡ get_or d.replies.items p row → r ≡ get_or row.items i r → r.balances ≡ None → AreJust (Comes b (contents_of files) p i) r
none-answer b files parts done p i d row r read is_row is_reply none =
    payment-just b (contents_of files) parts p i r (record { playable = read.playable; count = length-contents_of files ∙ read.count }) read.parted (part-read b files parts done p i d read).p_in
    (part-just b files parts done p i d row r read is_row is_reply) none

-- one more part
pub ordered-more : (b : BookTerms) (files : List (List Call)) (parts : List ℕ) (done : List Part) (k : ℕ) (d : Part) → AreOrdered b files parts done k → IsOrdered b files parts k d
    → AreOrdered b files parts (done ++ d ∷ []) (k + 1)
ordered-more b files parts done k d are is =
    let count = are.count_of in
    record {
      count_of = let size = length-append done (d ∷ []) in omega arith;
      each = λ j x less. at_or_off k j
          (λ same.
          let read : get_or (done ++ d ∷ []) j x ≡ d = ap (λ (n : ℕ). get_or (done ++ d ∷ []) n x) (sym (count ∙ same)) ∙ get_or-append_seam done d [] x in
          subst (IsOrdered b files parts j) (sym read) (subst (λ (n : ℕ). IsOrdered b files parts n d) same is))
          (λ other. subst (IsOrdered b files parts j) (sym (get_or_append_left done (d ∷ []) x j (omega (arith, other)))) (are.each j x (omega (arith, other))));
    }

-- one more answer
pub first-answers-more : (b : BookTerms) (files : List (List Call)) (p : ℕ) (answers : List Replies) (i : ℕ) (r : Replies) → AreFirstAnswers b files p answers i → AreJust (Comes b files p i) r
    → AreFirstAnswers b files p (answers ++ r ∷ []) (i + 1)
first-answers-more b files p answers i r are just =
    let count = are.calls in
    record {
      calls = let size = length-append answers (r ∷ []) in omega arith;
      each = λ j d less. at_or_off i j
          (λ same.
          let read : get_or (answers ++ r ∷ []) j d ≡ r = ap (λ (n : ℕ). get_or (answers ++ r ∷ []) n d) (sym (count ∙ same)) ∙ get_or-append_seam answers r [] d in
          subst (AreJust (Comes b files p j)) (sym read) (subst (λ (n : ℕ). AreJust (Comes b files p n) r) same just))
          (λ other. subst (AreJust (Comes b files p j)) (sym (get_or_append_left answers (r ∷ []) d j (omega (arith, other)))) (are.each j d (omega (arith, other))));
    }

pub files-answers-more : (b : BookTerms) (files : List (List Call)) (answers : List (List Replies)) (p : ℕ) (replies : List Replies) → AreFilesAnswers b files answers p
    → AreFirstAnswers b files p replies (length (get_or files p [])) → AreFilesAnswers b files (answers ++ replies ∷ []) (p + 1)
files-answers-more b files answers p replies are first =
    let count = are.processes in
    record {
      processes = let size = length-append answers (replies ∷ []) in omega arith;
      each = λ q less. at_or_off p q
          (λ same.
          let read : get_or (answers ++ replies ∷ []) q [] ≡ replies = ap (λ (n : ℕ). get_or (answers ++ replies ∷ []) n []) (sym (count ∙ same)) ∙ get_or-append_seam answers replies [] [] in
          subst (λ (rs : List Replies). AreFirstAnswers b files q rs (length (get_or files q []))) (sym read)
          (subst (λ (n : ℕ). AreFirstAnswers b files n replies (length (get_or files n []))) same first))
          (λ other. subst (λ (rs : List Replies). AreFirstAnswers b files q rs (length (get_or files q []))) (sym (get_or_append_left answers (replies ∷ []) [] q (omega (arith, other)))) (are.each q (omega (arith, other))));
    }

pub answers-all : (b : BookTerms) (files : List (List Call)) (answers : List (List Replies)) (count : ℕ) → count ≡ length files → AreFilesAnswers b files answers count → AreAnswers b files answers
answers-all b files answers count all are = record {
  processes = are.processes ∙ all;
  calls = λ p known. (are.each p (omega arith)).calls;
  replies = λ p i r known within. (are.each p (omega arith)).each i r within;
}

-- what is walked of a part
pub walk-ordered : (b : BookTerms) (files : List (List Call)) (parts : List ℕ) (k : ℕ) (g : GroundTerms) (done : Part) (spans : List Range) → IsGround g → g.book ≡ b → g.files ≡ files_of_part files parts k
    → All (All (HasFirstPlace g.places)) files → AreAnswers g.book g.files (contents_of done.replies.items)
    → ((place : ℕ) (d : Range) → place < length g.named → IsSpan (HoldsAt g.book g.files (get_or g.named place 0)) (get_or spans place d)) → length done.spans.items ≡ length g.book.accounts
    → ((account place : ℕ) (d : Range) → get_or g.places account None ≡ Some place → range_in done.spans.items account ≡ get_or spans place d) → IsOrdered b files parts k done
walk-ordered b files parts k g done spans ground book own placed answers held size listed = record {
  answers = subst (λ (fs : List (List Call)). AreAnswers b fs (contents_of done.replies.items)) own (subst (λ (x : BookTerms). AreAnswers x g.files (contents_of done.replies.items)) book answers);
  accounts = size ∙ ap (λ (x : BookTerms). length x.accounts) book;
  spans = λ a a_in named.
      let at : HasPlace g.places a =
      subst (HasPlace g.places) named.names (All-contains (HasFirstPlace g.places) (get_or files named.process []) named.call (placed named.process [] named.within) named.stands) in
      let place : ℕ = at.0 in
      let within = ground.places.within a place at.1 in
      let here : get_or g.named place 0 ≡ a = ground.places.there a place at.1 in
      let span : IsSpan (HoldsAt g.book g.files a) (get_or spans place (range_at 0)) =
      subst (λ (x : ℕ). IsSpan (HoldsAt g.book g.files x) (get_or spans place (range_at 0))) here (held place (range_at 0) within) in
      subst (IsSpan (HoldsAt b (files_of_part files parts k) a)) (sym (listed a place (range_at 0) at.1))
      (subst (λ (fs : List (List Call)). IsSpan (HoldsAt b fs a) (get_or spans place (range_at 0))) own (subst (λ (x : BookTerms). IsSpan (HoldsAt x g.files a) (get_or spans place (range_at 0))) book span));
}
