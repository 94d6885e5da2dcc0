use Rattle.std.proofs.Common.{◌∙◌, sym}
use Rattle.at_pages.proofs.Prelude.{get_or-contents_of}
use Rattle.at_pages.proofs.files.file_of.Goals as goal

pub returns : goal.returns
returns c =
    c.as_slice.ensures.value
    ∙ sym (get_or-contents_of c.args.files.now c.args.process c.index-files-process.result c.requires c.index-files-process.is)
