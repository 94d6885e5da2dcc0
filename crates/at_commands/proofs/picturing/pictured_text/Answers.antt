use Rattle.std.proofs.Common.{◌≡◌, ◌∙◌, All, List, Vec, ap, length, subst, sym}
use Rattle.at_commands.proofs.Prelude.{Global, IsPlayable, contents_of, Whole, Call, length-contents_of, page_text, IsFile, IsReplayBy}
use Rattle.at_commands.proofs.Laws.Replays.{IsFile-loaded, IsLineOn-loaded, IsPlayable-loaded}
use Rattle.at_commands.proofs.picturing.pictured_text.Goals as goal

-- the run is made of the same calls
pub replay-requires-clause-count : goal.replay-requires-clause-count
replay-requires-clause-count c =
    let same : contents_of c.in_ok-made.made.items ≡ contents_of c.args.loaded.files.items =
    c.in_ok-made.ensures ∙ ap (λ (files : List (Vec Call Global)). contents_of files) c.as_slice.ensures.value in
    sym (length-contents_of c.in_ok-made.made.items)
    ∙ (ap (λ (files : List (List Call)). length files) same ∙ (length-contents_of c.args.loaded.files.items ∙ c.requires.loaded.count))

pub replay-requires-clause-known : goal.replay-requires-clause-known
replay-requires-clause-known c =
    let same : contents_of c.in_ok-made.made.items ≡ contents_of c.args.loaded.files.items =
    c.in_ok-made.ensures ∙ ap (λ (files : List (Vec Call Global)). contents_of files) c.as_slice.ensures.value in
    subst (λ (files : List (List Call)). All (IsFile (length c.args.loaded.book.accounts)) files) (sym same)
    (IsFile-loaded c.args.loaded c.requires.loaded)

pub page_text-requires-clause-count : goal.page_text-requires-clause-count
page_text-requires-clause-count c = ap (λ (files : List (Vec Call Global)). length files) c.as_slice-2.ensures.value ∙ c.requires.loaded.count

pub page_text-requires-clause-files : goal.page_text-requires-clause-files
page_text-requires-clause-files c =
    subst (λ (files : List (Vec Call Global)). All (IsPlayable (length c.args.loaded.book.accounts)) (contents_of files)) (sym c.as_slice-2.ensures.value)
    (IsPlayable-loaded c.args.loaded c.requires.loaded)

pub page_text-requires-clause-lines : goal.page_text-requires-clause-lines
page_text-requires-clause-lines c =
    let same : contents_of c.in_ok-made.made.items ≡ contents_of c.args.loaded.files.items =
    c.in_ok-made.ensures ∙ ap (λ (files : List (Vec Call Global)). contents_of files) c.as_slice.ensures.value in
    IsLineOn-loaded c.args.loaded c.in_ok-replayed.replayed.lines.items c.requires.loaded
    (subst (λ (files : List (List Call)). Whole files c.in_ok-replayed.replayed.lines.items) same c.in_ok-replayed.ensures.whole)

pub returns : goal.returns
returns c =
    let same : contents_of c.in_ok-made.made.items ≡ contents_of c.args.loaded.files.items =
    c.in_ok-made.ensures ∙ ap (λ (files : List (Vec Call Global)). contents_of files) c.as_slice.ensures.value in
    record {
      made = c.in_ok-replayed.replayed;
      replay = subst (λ (files : List (List Call)). IsReplayBy c.args.loaded.book files c.args.schedule.now c.in_ok-replayed.replayed) same c.in_ok-replayed.ensures.replay;
      printed =
          c.in_ok-text.ensures
          ∙ ap (λ (files : List (Vec Call Global)). page_text c.args.loaded.book c.args.loaded.names (contents_of files) c.in_ok-replayed.replayed) c.as_slice-2.ensures.value;
    }
