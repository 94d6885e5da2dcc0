-- The values that words are, one more word at a time.
use Rattle.std.proofs.Common.{◌≡◌, ℕ, ◌+◌, ◌<◌, List, [], ◌∷◌, ◌++◌, length, get_or, take, Option, Some, None, refl}
use Rattle.at_commands.proofs.Prelude.{take_more, number_of, Word, before_values, small, values_named}

-- one more value after others
before_values-push : (x : Option ℕ) (xs more : Option (List ℕ)) (values : List ℕ) (value : ℕ) → before_values x xs ≡ Some values
    → ((others : List ℕ) → xs ≡ Some others → more ≡ Some (others ++ value ∷ [])) → before_values x more ≡ Some (values ++ value ∷ [])
before_values-push (Some x) (Some xs) more values value is rest = rw (rest xs refl) cc
before_values-push (Some x) None more values value is rest = absurd (cc)
before_values-push None xs more values value is rest = absurd (cc)

values_named-push : (words : List Word) (word : Word) (values : List ℕ) (value : ℕ) → values_named words ≡ Some values → small (number_of word) ≡ Some value
    → values_named (words ++ word ∷ []) ≡ Some (values ++ value ∷ [])
values_named-push [] word values value is next = cc
values_named-push (first ∷ words) word values value is next =
    before_values-push (small (number_of first)) (values_named words) (values_named (words ++ word ∷ [])) values value is
    (λ others rest. values_named-push words word others value rest next)

-- one more word that is a value
pub values_named-take_more : (words : List Word) (i : ℕ) (values : List ℕ) (value : ℕ) → i < length words → values_named (take i words) ≡ Some values
    → small (number_of (get_or words i [])) ≡ Some value → values_named (take (i + 1) words) ≡ Some (values ++ value ∷ [])
values_named-take_more words i values value within is next =
    rw (take_more words i [] within) (values_named-push (take i words) (get_or words i []) values value is next)
