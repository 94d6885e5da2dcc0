use Rattle.std.proofs.Common.{◌≡◌, ◌<◌, ◌∙◌, ◌++◌, [], ℕ, All, List, ap, arith, length, subst, sym}
use Rattle.at_pages.proofs.Prelude.{sentence_text, contents_of, Call, Line, TurnMade, picture_text, all_spans, items_text, rows_text, CALLS, END, HEAD, JOURNAL, KEY, PICTURE, Span}
use Rattle.at_pages.proofs.page.page_text.Goals as goal

-- ten texts, one after another
joined : (t0 t1 t2 t3 t4 t5 t6 t7 t8 t9 t10 a b c d e f g h i j : List ℕ)
    → t0 ≡ [] → t1 ≡ t0 ++ a → t2 ≡ t1 ++ b → t3 ≡ t2 ++ c → t4 ≡ t3 ++ d → t5 ≡ t4 ++ e → t6 ≡ t5 ++ f → t7 ≡ t6 ++ g → t8 ≡ t7 ++ h → t9 ≡ t8 ++ i
    → t10 ≡ t9 ++ j → t10 ≡ a ++ b ++ c ++ d ++ e ++ f ++ g ++ h ++ i ++ j
joined t0 t1 t2 t3 t4 t5 t6 t7 t8 t9 t10 a b c d e f g h i j e0 e1 e2 e3 e4 e5 e6 e7 e8 e9 e10 =
    e10
    ∙ ap (λ (t : List ℕ). t ++ j) (e9
    ∙ ap (λ (t : List ℕ). t ++ i) (e8
    ∙ ap (λ (t : List ℕ). t ++ h) (e7
    ∙ ap (λ (t : List ℕ). t ++ g) (e6
    ∙ ap (λ (t : List ℕ). t ++ f) (e5
    ∙ ap (λ (t : List ℕ). t ++ e) (e4
    ∙ ap (λ (t : List ℕ). t ++ d) (e3
    ∙ ap (λ (t : List ℕ). t ++ c) (e2
    ∙ ap (λ (t : List ℕ). t ++ b) (e1
    ∙ ap (λ (t : List ℕ). t ++ a) e0)))))))))

pub push_picture-requires-clause-spans : goal.push_picture-requires-clause-spans
push_picture-requires-clause-spans c =
    c.as_slice-2.ensures.value ∙ (c.in_ok-spans.ensures.spans ∙ ap (λ (n : ℕ). all_spans c.as_slice-turns.result.now n) c.processes.ensures)

pub push_picture-requires-clause-process : goal.push_picture-requires-clause-process
push_picture-requires-clause-process c =
    subst (λ (spans : List Span). All (λ (s : Span). s.process < length c.args.files.now) spans) (sym c.as_slice-2.ensures.value)
    (λ k d below. omega (arith, c.in_ok-spans.ensures.processes k d below, c.processes.ensures, c.requires.count))

pub push_rows-requires-clause-process : goal.push_rows-requires-clause-process
push_rows-requires-clause-process c =
    subst (λ (spans : List Span). All (λ (s : Span). s.process < length c.args.files.now) spans) (sym c.as_slice-3.ensures.value)
    (λ k d below. omega (arith, c.in_ok-spans.ensures.processes k d below, c.processes.ensures, c.requires.count))

pub returns : goal.returns
returns c =
    let b = c.args.book.now in
    let names = c.args.names.now in
    let files : List (List Call) = contents_of c.args.files.now in
    let turns : List TurnMade = c.args.replayed.now.turns.items in
    let spans =
    c.as_slice-3.ensures.value
    ∙ (c.in_ok-spans.ensures.spans
    ∙ (ap (λ (n : ℕ). all_spans c.as_slice-turns.result.now n) c.processes.ensures
    ∙ ap (λ (ts : List TurnMade). all_spans ts b.processes) c.as_slice-turns.ensures.value)) in
    joined c.new-text.result.items c.extend_from_slice.new.self.items c.extend_from_slice-2.new.self.items c.extend_from_slice-3.new.self.items c.push_picture.new.out.items
    c.extend_from_slice-4.new.self.items c.extend_from_slice-5.new.self.items c.push_rows.new.out.items c.extend_from_slice-6.new.self.items c.push_items.new.out.items
    c.extend_from_slice-7.new.self.items HEAD.now (sentence_text b names files) PICTURE.now (picture_text b names files turns) KEY.now CALLS.now
    (rows_text b names files (all_spans turns b.processes)) JOURNAL.now (items_text names c.args.replayed.now.lines.items) END.now
    c.new-text.ensures.items
    c.in_ok-extend_from_slice.ensures.items
    (c.in_ok-extend_from_slice-2.ensures.items ∙ ap (λ (text : List ℕ). c.extend_from_slice.new.self.items ++ text) (c.as_slice.ensures.value ∙ c.in_ok-sentence.ensures))
    c.in_ok-extend_from_slice-3.ensures.items
    (c.in_ok-push_picture.ensures ∙ ap (λ (ts : List TurnMade). c.extend_from_slice-3.new.self.items ++ picture_text b names files ts) c.as_slice-turns.ensures.value)
    c.in_ok-extend_from_slice-4.ensures.items
    c.in_ok-extend_from_slice-5.ensures.items
    (c.in_ok-push_rows.ensures ∙ ap (λ (ss : List Span). c.extend_from_slice-5.new.self.items ++ rows_text b names files ss) spans)
    c.in_ok-extend_from_slice-6.ensures.items
    (c.in_ok-push_items.ensures ∙ ap (λ (lines : List Line). c.extend_from_slice-6.new.self.items ++ items_text names lines) c.as_slice-4.ensures.value)
    c.in_ok-extend_from_slice-7.ensures.items
