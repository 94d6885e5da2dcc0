use Rattle.at_files.proofs.Prelude.{IsPlain, texts_of}
use Rattle.at_files.proofs.LineLaws.{IsSplit}
use Rattle.at_files.proofs.lines.split_line.Given as goal

abbrev pub invariant-loop-i : goal.invariant-loop-i
invariant-loop-i l = IsPlain l.text × IsSplit l.text (texts_of l.slices.items) l.start l.i
