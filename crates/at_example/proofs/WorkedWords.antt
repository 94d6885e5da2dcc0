-- Worked words, as one reckons them by hand: of decisions, of heads, and of the targets of a payment.
use Rattle.std.proofs.Common.{◌≡◌, ◌⊎◌, ℕ, true, false, refl, inl, inr, [], ◌∷◌, arith}
use Rattle.at_example.proofs.Prelude.{IsNoDecision, word_of, head_word, account_in, targets_word}

-- decisions: the first request of slot 0 succeeds, or doesn't; the first of slot 1 doesn't, at place 1; and the greatest that succeeds
done_first : word_of (record { ok = true; slot = 0; number = 0; place = 0 }) ≡ 2
done_first = refl

short_first : word_of (record { ok = false; slot = 0; number = 0; place = 0 }) ≡ 1
short_first = refl

short_second : word_of (record { ok = false; slot = 1; number = 0; place = 1 }) ≡ 262147
short_second = refl

done_second : word_of (record { ok = true; slot = 1; number = 0; place = 1 }) ≡ 262148
done_second = refl

done_after_credit : word_of (record { ok = true; slot = 1; number = 0; place = 2 }) ≡ 524292
done_after_credit = refl

done_last : word_of (record { ok = true; slot = 7; number = 1023; place = 262143 }) ≡ 68719230976
done_last = refl

-- no decisions: an undecided cell, one with the number 1,024, and one past all bits
undecided : IsNoDecision 0
undecided = inl refl

number_too_large : IsNoDecision 16385
number_too_large = inr (inl (omega arith))

bits_too_many : IsNoDecision 68719476736
bits_too_many = inr (inl (omega arith))

-- heads: of a payment of one owner from account 0, and of round 1 of account 0
head_of_payment : head_word (record { kind = 0; from = 0; to = 0; round = 0 }) ≡ 0
head_of_payment = refl

head_of_round : head_word (record { kind = 1; from = 0; to = 0; round = 1 }) ≡ 8589934593
head_of_round = refl

-- targets: account 1 alone, accounts 1 and 2, and account 1 twice, which its word has in both places
one_target : targets_word (1 ∷ []) ≡ 1099511627777
one_target = refl

two_targets : targets_word (1 ∷ 2 ∷ []) ≡ 2199023257601
two_targets = refl

same_target_twice : targets_word (1 ∷ 1 ∷ []) ≡ 2199023256577
same_target_twice = refl

first_of_both : account_in 2199023256577 0 ≡ 1
first_of_both = refl

second_of_both : account_in 2199023256577 10 ≡ 1
second_of_both = refl
