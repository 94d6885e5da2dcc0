-- What a command leaves, by what it promises.
use Rattle.std.proofs.Common.{◌≡◌, ◌≢◌, ◌∙◌, ◌⊎◌, ℕ, Bool, true, List, None, Option, Result, Ok, Err, inl, inr, refl, sym, subst}
use Rattle.at_commands.proofs.Prelude.{IfErr, IfOk, ClosedTerms, Status, NoMemory, ReadFault, Rose, Usage, WriteFault, UsageFault, Words, IsFaultless, IsWritten, Found, Outcome, Printed, Ends, Wrote}
use Rattle.at_report.specs.declared.status.Status.TheVariants.{Done}
use Rattle.at_commands.specs.Commands.{Answered, AnswersBy, KeepsNone, MayRefuseBy, PrintsLoaded, Promise, Refuses, RefusesMade, WasLoaded, unread_promise}
use Rattle.at_commands.specs.Commanding.{CameToRefusal, Does, FailedToLoad, IsLawful, MakesText}
use Rattle.at_commands.specs.Loading.{Files}
use Rattle.at_commands.proofs.Laws.Exact.{refusal-brought}
use Rattle.at_commands.proofs.Laws.MayRefuse.{Rose-IsFaultless}

ok-err : {A : Type 0} (expected : Result A Status) (a : A) (refusal : Status) → expected ≡ Ok a → expected ≡ Err refusal → ⊥
ok-err expected a refusal one two = cc

ok-ok : {A : Type 0} (expected : Result A Status) (a b : A) → expected ≡ Ok a → expected ≡ Ok b → a ≡ b
ok-ok expected a b one two = cc

written-usage : (answer : Status) → IsWritten answer → answer ≡ Usage Words → ⊥
written-usage answer (inl done) is = cc
written-usage answer (inr fault) is = cc

written-read_fault : (answer : Status) (file : ℕ) → IsWritten answer → answer ≡ ReadFault file → ⊥
written-read_fault answer file (inl done) is = cc
written-read_fault answer file (inr fault) is = cc

written-numbered : (N : Status → Type 0) (answer : Status) → N Done → N WriteFault → IsWritten answer → N answer
written-numbered N answer done fault (inl is) = subst N (sym is) done
written-numbered N answer done fault (inr is) = subst N (sym is) fault

written-done : (answer : Status) (Q : Type 0) → IsWritten answer → (answer ≡ WriteFault → Q) → (answer ≡ Done) ⊎ Q
written-done answer Q (inl done) leads = inl done
written-done answer Q (inr fault) leads = inr (leads fault)

left-absurd : (A : Type 0) (B : Type 0) → A ⊎ ⊥ → A ⊎ B
left-absurd A B (inl a) = inl a
left-absurd A B (inr none) = absurd none

written-neither : (answer : Status) → IsWritten answer → answer ≢ Done → answer ≢ WriteFault → ⊥
written-neither answer (inl done) undone unwritten = undone done
written-neither answer (inr fault) undone unwritten = unwritten fault

-- a command whose text was written, whole or not
Answered-written : {W : Type 0} (P : Promise W) → IsLawful P → (s : Found) (o : Outcome) (text : List ℕ) → PrintsLoaded P s o.kept text
    → Wrote o.tells text o.before o.after o.faults o.faults_now o.answer → Answered P s o
Answered-written P lawful s o text prints wrote = record {
  written = λ is. record { text = text; printed = prints; wrote = wrote };
  complete = λ w told spells shelf out. left-absurd _ _ (written-done o.answer ⊥ wrote.answers (λ fault. Rose-IsFaultless _ _ out (wrote.fault fault)));
  refusal = λ undone unwritten. absurd (written-neither o.answer wrote.answers undone unwritten);
  exact = λ told faultless. inr (rw (prints.read told) (inr wrote.answers));
  reached = λ file is. absurd (written-read_fault o.answer file wrote.answers is);
  numbered = written-numbered P.numbers o.answer lawful.done lawful.written wrote.answers;
  formed = λ is. written-usage o.answer wrote.answers is;
}

-- what faults were counted where a text was written
pub Answered-done_kept : {W : Type 0} (P : Promise W) (s : Found) (o : Outcome) → Answered P s o → o.answer ≡ Done
    → (s.faults_now ≡ s.faults) × (o.faults_now ≡ o.faults)
Answered-done_kept P s o left is = let w = left.written (inl is) in (w.printed.loads.faultless, w.wrote.kept is)

pub Answered-write_fault : {W : Type 0} (P : Promise W) (s : Found) (o : Outcome) → Answered P s o → o.answer ≡ WriteFault
    → Rose o.faults o.faults_now × (s.faults_now ≡ s.faults)
Answered-write_fault P s o left is = let w = left.written (inr is) in (w.wrote.fault is, w.printed.loads.faultless)

-- what no refusal is
may-done : {W : Type 0} (P : Promise W) (s : Found) → MayRefuseBy P s Done → ⊥
may-done P s (inl none) = none
may-done P s (inr own) = own.so.0

may-written : {W : Type 0} (P : Promise W) (s : Found) → MayRefuseBy P s WriteFault → ⊥
may-written P s (inl none) = none
may-written P s (inr own) = own.so.0

may-formless : {W : Type 0} (P : Promise W) (s : Found) → MayRefuseBy P s (Usage Words) → ⊥
may-formless P s (inl none) = none
may-formless P s (inr own) = own.so.0

-- where the files spell something, and no fault is counted, it is refused so or memory wants
brought-made : {W : Type 0} (P : Promise W) (s : Found) (refusal : Status) (w : W) → P.loaded s.files ≡ Ok w
    → (refusal ≡ NoMemory) ⊎ (P.loaded s.files ≡ Err refusal) → RefusesMade P w refusal
brought-made P s refusal w is (inl none) = inl none
brought-made P s refusal w is (inr brought) = absurd (ok-err _ w refusal is brought)

may-made : {W : Type 0} (P : Promise W) → IsLawful P → (s : Found) (refusal : Status) (w : W) → s.tells ≡ true → P.spells s.files w
    → IsFaultless s.faults s.faults_now → MayRefuseBy P s refusal → RefusesMade P w refusal
may-made P lawful s refusal w told spells faultless (inl may) =
    brought-made P s refusal w (lawful.spelled s.files w spells) (refusal-brought P.kind s.tells (P.loaded s.files) s.faults s.faults_now refusal told faultless may)
may-made P lawful s refusal w told spells faultless (inr own) =
    let same = ok-ok (P.loaded s.files) own.what w (own.read told) (lawful.spelled s.files w spells) in
    inr (subst (λ w. Refuses P w refusal) same own.so)

brought-exact : {W : Type 0} (P : Promise W) (s : Found) (refusal : Status) → (refusal ≡ NoMemory) ⊎ (P.loaded s.files ≡ Err refusal)
    → (refusal ≡ NoMemory) ⊎ AnswersBy P (P.loaded s.files) refusal
brought-exact P s refusal (inl none) = inl none
brought-exact P s refusal (inr is) = inr (rw is refl)

may-exact : {W : Type 0} (P : Promise W) (s : Found) (refusal : Status) → s.tells ≡ true → IsFaultless s.faults s.faults_now → MayRefuseBy P s refusal
    → (refusal ≡ NoMemory) ⊎ AnswersBy P (P.loaded s.files) refusal
may-exact P s refusal told faultless (inl may) =
    brought-exact P s refusal (refusal-brought P.kind s.tells (P.loaded s.files) s.faults s.faults_now refusal told faultless may)
may-exact P s refusal told faultless (inr own) = inr (rw (own.read told) (inl own.so))

-- a command that came to a refusal
Answered-refused : {W : Type 0} (P : Promise W) → IsLawful P → (s : Found) (o : Outcome) → CameToRefusal P s o.answer → Answered P s o
Answered-refused P lawful s o refused =
    let undone : o.answer ≡ Done → ⊥ = λ is. may-done P s (subst (MayRefuseBy P s) is refused.may) in
    let unwritten : o.answer ≡ WriteFault → ⊥ = λ is. may-written P s (subst (MayRefuseBy P s) is refused.may) in
    record {
      written = λ is. absurd (written-neither o.answer is undone unwritten);
      complete = λ w told spells shelf out. inr (may-made P lawful s o.answer w told spells shelf refused.may);
      refusal = λ one two. refused.may;
      exact = λ told faultless. may-exact P s o.answer told faultless refused.may;
      reached = refused.reached;
      numbered = refused.numbered;
      formed = λ is. may-formless P s (subst (MayRefuseBy P s) is refused.may);
    }

-- a command that has made this, and ends so
pub Answered-Ends : {A W : Type 0} (P : Promise W) → IsLawful P → (s : Found) (text : A → List ℕ) (closed : A → Option ClosedTerms) (made : Result A Status)
    (o : Outcome) → Ends text made o → IfOk made (λ a. o.kept ≡ closed a) → IfOk made (λ a. PrintsLoaded P s (closed a) (text a)) → IfErr made (CameToRefusal P s)
    → Answered P s o
Answered-Ends P lawful s text closed (Ok a) o ends kept prints refused =
    Answered-written P lawful s o (text a) (subst (λ k. PrintsLoaded P s k (text a)) (sym kept) prints) ends
Answered-Ends P lawful s text closed (Err refusal) o ends kept prints refused = Answered-refused P lawful s o (subst (CameToRefusal P s) (sym ends) refused)

-- what is so where a refusal came is so where it is answered
pub Ends-refusal : {A : Type 0} (text : A → List ℕ) (R : Status → Type 0) (made : Result A Status) (o : Outcome) → Ends text made o → IfErr made R
    → o.answer ≢ Done → o.answer ≢ WriteFault → R o.answer
Ends-refusal text R (Ok a) o ends refuses undone unwritten = absurd (written-neither o.answer ends.answers undone unwritten)
Ends-refusal text R (Err refusal) o ends refuses undone unwritten = subst R (sym ends) refuses

-- a refusal of loading, and of what was loaded
pub CameToRefusal-loading : {W : Type 0} (P : Promise W) (s : Found) (refusal : Status) → FailedToLoad P s refusal → CameToRefusal P s refusal
CameToRefusal-loading P s refusal un = record { may = inl un.may; reached = un.reached; numbered = un.numbered }

memory-read_fault : (refusal : Status) (file : ℕ) → refusal ≡ NoMemory → refusal ≡ ReadFault file → ⊥
memory-read_fault refusal file one two = cc

CameToRefusal-made : {W : Type 0} (P : Promise W) → IsLawful P → (s : Found) (w : W) (refusal : Status) → WasLoaded P s w → RefusesMade P w refusal → CameToRefusal P s refusal
CameToRefusal-made P lawful s w refusal loads (inl none) = record {
  may = inl (rw none tt);
  reached = λ file is. absurd (memory-read_fault refusal file none is);
  numbered = subst P.numbers (sym none) lawful.memory;
}
CameToRefusal-made P lawful s w refusal loads (inr own) = record {
  may = inr (record { what = w; read = λ told. lawful.spelled s.files w (loads.spelled told); loads = loads; so = own });
  reached = λ file is. absurd (rw is at own.0);
  numbered = lawful.own w refusal own;
}

-- what was made of something that was loaded
pub IfOk-MakesText : {W : Type 0} (P : Promise W) → IsLawful P → (s : Found) (w : W) (made : Result Printed Status) → WasLoaded P s w → MakesText P w made
    → IfOk made (λ p. PrintsLoaded P s p.closed p.text)
IfOk-MakesText P lawful s w (Ok p) loads makes = record { what = w; read = λ told. lawful.spelled s.files w (loads.spelled told); loads = loads; so = makes.0 }
IfOk-MakesText P lawful s w (Err refusal) loads makes = tt

pub IfErr-MakesText : {W : Type 0} (P : Promise W) → IsLawful P → (s : Found) (w : W) (made : Result Printed Status) → WasLoaded P s w → MakesText P w made
    → IfErr made (CameToRefusal P s)
IfErr-MakesText P lawful s w (Ok p) loads makes = tt
IfErr-MakesText P lawful s w (Err refusal) loads makes = CameToRefusal-made P lawful s w refusal loads makes.1

-- want of memory, while files are loaded
pub FailedToLoad-memory : {W : Type 0} (P : Promise W) → IsLawful P → (s : Found) (refusal : Status) → refusal ≡ NoMemory → FailedToLoad P s refusal
FailedToLoad-memory P lawful s refusal none = record {
  may = rw none tt;
  reached = λ file is. absurd (memory-read_fault refusal file none is);
  numbered = subst P.numbers (sym none) lawful.memory;
}

-- a promise of no file is lawful
pub unread_promise-lawful : (prints : Option ClosedTerms → List ℕ → Type 0) → IsLawful (unread_promise prints)
unread_promise-lawful prints = record {
  spelled = λ files w spells. refl;
  own = λ w refusal own. absurd own.1;
  done = inl refl;
  written = inr (inl refl);
  memory = inr (inr refl);
}

-- what was made of this text and this closed ledger prints what they print
pub IfOk-printed : (prints : Option ClosedTerms → List ℕ → Type 0) (made : Result Printed Status) (text : List ℕ) (closed : Option ClosedTerms)
    → IfOk made (λ p. p.text ≡ text) → IfOk made (λ p. p.closed ≡ closed) → prints closed text → IfOk made (λ p. prints p.closed p.text)
IfOk-printed prints (Ok p) text closed texts closes printed = rw (texts, closes) printed
IfOk-printed prints (Err refusal) text closed texts closes printed = tt

-- want of memory is a refusal of all that is made
pub IfErr-memory : {A : Type 0} (refuses : Status → Type 0) (made : Result A Status) → IfErr made (λ refusal. refusal ≡ NoMemory)
    → IfErr made (λ refusal. (refusal ≡ NoMemory) ⊎ refuses refusal)
IfErr-memory refuses (Ok a) none = tt
IfErr-memory refuses (Err refusal) none = inl none

-- no ledger is left by a command that keeps none
Does-kept : {W S O : Type 0} (P : Promise W) (tells : S → Bool) (file : S → Files) (faults : S → ℕ) (out_tells : O → Bool) (taken : O → List ℕ)
    (out_faults : O → ℕ) (shelf shelf_now : S) (out out_now : O) (kept kept_now : Option ClosedTerms) (answer : Status)
    → Does P tells file faults out_tells taken out_faults shelf shelf_now out out_now kept kept_now answer → KeepsNone P → kept ≡ None
    → IsWritten answer ⊎ (kept_now ≡ kept) → kept_now ≡ None
Does-kept P tells file faults out_tells taken out_faults shelf shelf_now out out_now kept kept_now answer does none before (inl written) =
    let w = does.answered.written written in
    none w.printed.what kept_now w.text w.printed.so
Does-kept P tells file faults out_tells taken out_faults shelf shelf_now out out_now kept kept_now answer does none before (inr same) = same ∙ before

written-or-kept : (answer : Status) (K : Type 0) → (answer ≢ Done → answer ≢ WriteFault → K) → IsWritten answer ⊎ K
written-or-kept Done K leads = inl (inl refl)
written-or-kept WriteFault K leads = inl (inr refl)
written-or-kept answer K leads = inr (leads (λ e. cc) (λ e. cc))

pub Does-KeepsNone : {W S O : Type 0} {P : Promise W} {tells : S → Bool} {file : S → Files} {faults : S → ℕ} {out_tells : O → Bool} {taken : O → List ℕ}
    {out_faults : O → ℕ} {shelf shelf_now : S} {out out_now : O} {kept kept_now : Option ClosedTerms} {answer : Status}
    → Does P tells file faults out_tells taken out_faults shelf shelf_now out out_now kept kept_now answer → KeepsNone P → kept ≡ None → kept_now ≡ None
Does-KeepsNone {W} {S} {O} {P} {tells} {file} {faults} {out_tells} {taken} {out_faults} {shelf} {shelf_now} {out} {out_now} {kept} {kept_now} {answer} does none before =
    Does-kept P tells file faults out_tells taken out_faults shelf shelf_now out out_now kept kept_now answer does none before
    (written-or-kept answer (kept_now ≡ kept) (λ undone unwritten. (does.untouched undone unwritten).1))

-- a refusal of the words is neither
pub usage-done : (fault : UsageFault) → Usage fault ≡ Done → ⊥
usage-done fault is = cc

pub usage-write_fault : (fault : UsageFault) → Usage fault ≡ WriteFault → ⊥
usage-write_fault fault is = cc

pub done-write_fault : Done ≡ WriteFault → ⊥
done-write_fault is = cc
