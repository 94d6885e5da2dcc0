-- The keys and looks of receipts that stay while more receipts come and more is seen.
use Rattle.std.proofs.Common.{◌≡◌, ℕ, zero, suc, ◌*◌, ◌<◌, ◌≤◌, List, [], ◌∷◌, ◌++◌, length, slice_index, take, refl, sym, ap, subst, ◌∙◌, arith}
use Rattle.at_object.proofs.Prelude.{get_or_append_left, length-take, BookTerms, TargetPair, keys_of-IsPrefix, keys_of-le, get_or-publications_of, place-IsCut-le, ArePublishedBy-IsHistory, ArePublishedBy-take, publications_of-IsPrefix, publication_at, place, IsHistory, IsShownDecision, IsPrefix, no_publication, publications_of, Publication, length-keys_from, own_position-at, look_at, IsAtCut, IsAtOwn, IsAtRound, IsPlaced, read, not_owner, full, short, done, round, receipt_at, Told, key_of, keys_from, keys_of, own_position, Receipt}

-- more receipts change no key of the earlier ones
keys_from-append : (p : ℕ) (list : List Publication) (previous : ℕ) (receipts more : List Receipt) (i : ℕ) → i < length receipts
    → slice_index (keys_from p list previous (receipts ++ more)) i ≡ slice_index (keys_from p list previous receipts) i
unfolding keys_from
keys_from-append p list previous [] more i within = absurd (omega (arith, within))
keys_from-append p list previous (r ∷ rs) more zero within = refl
keys_from-append p list previous (r ∷ rs) more (suc i) within =
    keys_from-append p list (key_of p list previous r) rs more i (omega (arith, within))

-- the place of a look stays in a longer list
pub look_at-IsPrefix : (b : BookTerms) (p : ℕ) (list more : List Publication) (earlier : List Receipt) (r : Receipt) → IsPrefix list more
    → IsPlaced b p list earlier r → look_at p more r.at ≡ look_at p list r.at
look_at-IsPrefix b p list more earlier r before (read account amount call reply cut) =
    ap (look_at p more) cut.at ∙ sym (ap (look_at p list) cut.at)
look_at-IsPrefix b p list more earlier r before (not_owner source targets call owner reply at) = ap (look_at p more) at ∙ sym (ap (look_at p list) at)
look_at-IsPrefix b p list more earlier r before (full source targets call owner room reply at) = ap (look_at p more) at ∙ sym (ap (look_at p list) at)
look_at-IsPrefix b p list more earlier r before (short source amount targets may single reply cut less) =
    ap (look_at p more) cut.at ∙ sym (ap (look_at p list) cut.at)
look_at-IsPrefix b p list more earlier r before (done source targets may single reply own) =
    ap (look_at p more) own.at
    ∙ (ap (λ (x : Publication). place x.view) (publications_of-IsPrefix p own.number list more before own.within)
    ∙ sym (ap (look_at p list) own.at))
look_at-IsPrefix b p list more earlier r before (round source targets may shared so) = ap (look_at p more) so.at ∙ sym (ap (look_at p list) so.at)

-- and is within a history
module _ (b : BookTerms) (p : ℕ) (list : List Publication) (earlier : List Receipt) (r : Receipt) (history : IsHistory b list) where
  look-cut : (account amount : ℕ) → IsAtCut b list account amount r → look_at p list r.at ≤ length list
  look-cut account amount so =
      omega (
        arith,
        ap (look_at p list) so.at,
        place-IsCut-le b.processes so.view list so.cut (ArePublishedBy-IsHistory b list history),
      )

  look-own : (source : ℕ) (targets : List TargetPair) → IsAtOwn p list earlier source targets r → look_at p list r.at ≤ length list
  look-own source targets so =
      let m = own_position p so.number list in
      let at = own_position-at p so.number list so.within in
      let is : publication_at list m ≡ publication_at (publications_of p list) so.number =
      sym (get_or-publications_of p m list no_publication at.within at.own) ∙ ap (publication_at (publications_of p list)) at.before in
      let view = (publication_at list m).view in
      omega (
        arith,
        ap (look_at p list) so.at,
        ap (λ (x : Publication). place x.view) is,
        place-IsCut-le b.processes view (take m list) (history.views m at.within).cut
            (ArePublishedBy-take b.processes m list (ArePublishedBy-IsHistory b list history)),
        length-take m list,
        at.within,
      )

  look-round : (source : ℕ) (targets : List TargetPair) → IsAtRound b p list earlier source targets r → look_at p list r.at ≤ length list
  look-round source targets so =
      let shown = subst (IsShownDecision b list) so.entry (history.decisions so.position so.within) in
      omega (arith, ap (look_at p list) so.at, shown.place)

  pub look_at-le : IsPlaced b p list earlier r → look_at p list r.at ≤ length list
  look_at-le (read account amount call reply cut) = look-cut account amount cut
  look_at-le (not_owner source targets call owner reply at) = omega (arith, ap (look_at p list) at)
  look_at-le (full source targets call owner room reply at) = omega (arith, ap (look_at p list) at)
  look_at-le (short source amount targets may single reply cut less) = look-cut source amount cut
  look_at-le (done source targets may single reply own) = look-own source targets own
  look_at-le (round source targets may shared so) = look-round source targets so

-- receipts that account for a process in a list
module _ (b : BookTerms) (p : ℕ) (list : List Publication) (receipts : List Receipt) (told : Told b p list receipts) where
  -- no key is above twice the length
  pub key-le : (i : ℕ) → IsHistory b list → i < length receipts → slice_index (keys_of p list receipts) i ≤ 2 * length list
  key-le i history within =
      keys_of-le b p list receipts history told.placed i 0 (omega (arith, within, length-keys_from p list 0 receipts))

  -- and no look is above it
  pub look-le : (i : ℕ) → IsHistory b list → i < length receipts → look_at p list (receipt_at receipts i).at ≤ length list
  look-le i history within = look_at-le b p list (take i receipts) (receipt_at receipts i) history (told.placed i within)

  -- and in a longer list, with more receipts
  module _ (longer : List Publication) (before : IsPrefix list longer) where
    pub key-in : (i : ℕ) → i < length receipts → IsHistory b list
        → slice_index (keys_of p longer receipts) i ≡ slice_index (keys_of p list receipts) i
    key-in i within history = ap (λ ks. slice_index ks i) (keys_of-IsPrefix b p list longer receipts history before told.placed)

    pub look-in : (i : ℕ) → i < length receipts → look_at p longer (receipt_at receipts i).at ≡ look_at p list (receipt_at receipts i).at
    look-in i within = look_at-IsPrefix b p list longer (take i receipts) (receipt_at receipts i) before (told.placed i within)

    module _ (more : List Receipt) (i : ℕ) (within : i < length receipts) where
      pub key-same : IsHistory b list → slice_index (keys_of p longer (receipts ++ more)) i ≡ slice_index (keys_of p list receipts) i
      key-same history = keys_from-append p longer 0 receipts more i within ∙ key-in i within history

      pub look-same : look_at p longer (receipt_at (receipts ++ more) i).at ≡ look_at p list (receipt_at receipts i).at
      look-same = ap (λ (r : Receipt). look_at p longer r.at) (get_or_append_left receipts more _ i within) ∙ look-in i within
