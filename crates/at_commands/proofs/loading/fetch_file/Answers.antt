use Rattle.std.proofs.Common.{inl, inr, refl, arith}
use Rattle.at_commands.proofs.Prelude.{common_steps}
use Rattle.at_commands.proofs.Laws.MayRefuse.{long-read_fault, made-refused, memory-read_fault, read_fault-file}
use Rattle.at_commands.proofs.loading.fetch_file.Goals as goal

pub returns-in-Ok-fetch : goal.returns-in-Ok-fetch
returns-in-Ok-fetch g c =
    let fetches = c.in-Ok-fetch.ensures in
    record {
      files = fetches.files;
      later = fetches.later;
      kept = fetches.kept;
      ok = grind (arith, common_steps);
      held = λ told. record { there = fetches.contents told; size = fetches.size };
      err = λ kind. tt;
      size = fetches.size;
      why = tt;
      file = λ file is. absurd (made-refused _ _ is);
      numbered = λ files below. tt;
    }

pub returns-in-Err-Failed : goal.returns-in-Err-Failed
returns-in-Err-Failed g c =
    let fetches = c.fetch.ensures in
    record {
      files = fetches.files;
      later = fetches.later;
      kept = tt;
      ok = λ told. tt;
      held = λ told. tt;
      err = λ kind. grind (arith, common_steps);
      size = tt;
      why = inl refl;
      file = λ file is. read_fault-file _ file _ refl is;
      numbered = λ files below. below;
    }

pub returns-in-Err-TooLong : goal.returns-in-Err-TooLong
returns-in-Err-TooLong g c =
    let fetches = c.fetch.ensures in
    record {
      files = fetches.files;
      later = fetches.later;
      kept = tt;
      ok = λ told. tt;
      held = λ told. tt;
      err = λ kind. grind (arith, common_steps);
      size = tt;
      why = inr (inl refl);
      file = λ file is. absurd (long-read_fault _ file _ refl is);
      numbered = λ files below. below;
    }

pub returns : goal.returns
returns g c =
    let fetches = c.fetch.ensures in
    record {
      files = fetches.files;
      later = fetches.later;
      kept = tt;
      ok = λ told. tt;
      held = λ told. tt;
      err = λ kind. tt;
      size = tt;
      why = inr (inr refl);
      file = λ file is. absurd (memory-read_fault file _ refl is);
      numbered = λ files below. tt;
    }
