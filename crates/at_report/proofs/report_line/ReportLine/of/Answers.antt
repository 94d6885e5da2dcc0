use Rattle.std.proofs.Common.{◌≡◌, ℕ, ◌+◌, ◌-◌, inl, inr, List, ◌++◌, length, take, sym, ap, ◌∙◌, arith}
use Rattle.at_report.proofs.Prelude.{append-nil, cases_lt, take-append-add, take-append-le, take_all}
use Rattle.at_report.proofs.report_line.ReportLine.of.Goals as goal

-- the first bytes of two parts
take_both : (n : ℕ) (xs ys : List ℕ) → take n (xs ++ ys) ≡ take n xs ++ take (n - length xs) ys
take_both n xs ys =
    elim (cases_lt (length xs) n) as (λ _. take n (xs ++ ys) ≡ take n xs ++ take (n - length xs) ys) [
      | inl past ↦
          let count : n ≡ length xs + (n - length xs) = omega arith in
          ap (λ (k : ℕ). take k (xs ++ ys)) count ∙ take-append-add xs ys (n - length xs)
          ∙ ap (λ (t : List ℕ). t ++ take (n - length xs) ys) (sym (take_all n xs (omega arith)))
      | inr within ↦
          let none : n - length xs ≡ 0 = omega arith in
          take-append-le n xs ys within ∙ sym (append-nil (take n xs)) ∙ ap (λ (k : ℕ). take n xs ++ take k ys) (sym none)
    ]

pub returns : goal.returns
returns c =
    let end = c.put-at.ensures.end in
    let room : 256 - c.put-at.result ≡ 256 - length c.args.first.now = omega arith in
    c.put-length.ensures.bytes ∙ ap (λ (t : List ℕ). t ++ take (256 - c.put-at.result) c.args.second.now) c.put-at.ensures.bytes
    ∙ ap (λ (k : ℕ). take 256 c.args.first.now ++ take k c.args.second.now) room
    ∙ sym (take_both 256 c.args.first.now c.args.second.now)
