use Rattle.std.proofs.Common.{◌≡◌, ◌<◌, ◌++◌, ◌∷◌, [], ℕ, All, List, length, sym, ap, subst, ◌∙◌, ◌+◌, arith}
use Rattle.std.specs.Prelude.{Vec}
use Rattle.at_orders.proofs.Prelude.{on_ok_weaker, length-append, with_items, with_items_is, Global, contents_of, AreAllHeard, AreSpans, IsAt, IsSeen, IsTrail, IsWalking, Looks, Range, Replies, Stage}
use Rattle.at_orders.proofs.Levels.{all-one, walking-at, walking-more, walking-seen}
use Rattle.at_orders.proofs.walk.visit.Goals as goal

pub recall-requires-clause-trail : goal.recall-requires-clause-trail
recall-requires-clause-trail c = let walking = c.requires.walking.1 in (walking.before ++ walking.next, walking.trail)

pub recall-requires-clause-within : goal.recall-requires-clause-within
recall-requires-clause-within c =
    let walking = c.requires.walking.1 in
    let size = walking.trail.size in
    let all = walking.all in
    let both = length-append walking.before walking.next in
    let within = c.requires.within in
    omega arith

pub hear_all-requires-clause-stages : goal.hear_all-requires-clause-stages
hear_all-requires-clause-stages c =
    let walking = c.requires.walking.1 in
    let seen = walking-seen c.args.ground.now c.args.trail.now _ _ c.requires.walking.0 c.args.at c.recall.new.stage walking c.requires.within (λ d. c.in_ok-recall.ensures (walking.before ++ walking.next) d walking.trail) in
    subst (All (IsSeen c.args.ground.now)) (sym c.from_ref.ensures.value) (all-one (IsSeen c.args.ground.now) c.recall.new.stage seen)

pub hear_all-requires-clause-answers : goal.hear_all-requires-clause-answers
hear_all-requires-clause-answers c = let walking = c.requires.walking.1 in (_, walking.heard)

pub widen_all-requires-clause-stages : goal.widen_all-requires-clause-stages
widen_all-requires-clause-stages c =
    let walking = c.requires.walking.1 in
    let seen = walking-seen c.args.ground.now c.args.trail.now _ _ c.requires.walking.0 c.args.at c.recall.new.stage walking c.requires.within (λ d. c.in_ok-recall.ensures (walking.before ++ walking.next) d walking.trail) in
    subst (All (IsSeen c.args.ground.now)) (sym c.from_ref-2.ensures.value) (all-one (IsSeen c.args.ground.now) c.recall.new.stage seen)

pub widen_all-requires-clause-spans : goal.widen_all-requires-clause-spans
widen_all-requires-clause-spans c = ap (length {A = Range}) c.as_mut_slice.ensures.value ∙ c.requires.walking.1.held.size

pub look-requires-clause-seen : goal.look-requires-clause-seen
look-requires-clause-seen c =
    let walking = c.requires.walking.1 in
    walking-seen c.args.ground.now c.args.trail.now _ _ c.requires.walking.0 c.args.at c.recall.new.stage walking c.requires.within (λ d. c.in_ok-recall.ensures (walking.before ++ walking.next) d walking.trail)

pub look-requires-clause-trail : goal.look-requires-clause-trail
look-requires-clause-trail c =
    let walking = c.requires.walking.1 in (
      walking.before ++ walking.next,
      walking.trail,
      walking-at c.args.ground.now c.args.trail.now _ _ c.requires.walking.0 c.args.at c.recall.new.stage walking c.requires.within (λ d. c.in_ok-recall.ensures (walking.before ++ walking.next) d walking.trail),
    )

-- the ranges that are left
abbrev wide : goal.After-look → Vec Range Global
wide c = with_items c.args.done.now.spans c.widen_all.new.spans

more : (c : goal.After-look) → ((stages : List Stage) → IsTrail c.args.ground.now c.args.trail.now stages → IsAt stages c.args.at c.recall.new.stage
    → Looks c.args.ground.now c.args.trail.now c.look.new.trail stages c.recall.new.stage (λ p. p < c.args.ground.now.book.processes))
    → (most : ℕ) → IsWalking c.args.ground.now c.args.trail.now (contents_of c.args.done.now.replies.items) c.args.done.now.spans.items most c.args.at
    → IsWalking c.args.ground.now c.look.new.trail (contents_of c.hear_all.new.answers.items) (wide c).items most (c.args.at + 1)
more c looks most walking =
    let g = c.args.ground.now in
    let s : Stage = c.recall.new.stage in
    let replies : List (List Replies) = contents_of c.hear_all.new.answers.items in
    let here = walking-at g c.args.trail.now _ _ most c.args.at s walking c.requires.within (λ d. c.in_ok-recall.ensures (walking.before ++ walking.next) d walking.trail) in
    let items : (wide c).items ≡ c.widen_all.new.spans = with_items_is c.args.done.now.spans c.widen_all.new.spans (c.widen_all.ensures.len ∙ c.as_mut_slice.ensures.len) in
    let widens : (past : List Stage) → AreSpans g past c.args.done.now.spans.items → AreSpans g (past ++ s ∷ []) c.widen_all.new.spans =
    λ past held.
    subst (λ (xs : List Stage). AreSpans g (past ++ xs) c.widen_all.new.spans) c.from_ref-2.ensures.value
    (c.widen_all.ensures.widened past (subst (AreSpans g past) (sym c.as_mut_slice.ensures.value) held)) in
    let hears : (past : List Stage) → AreAllHeard g past (contents_of c.args.done.now.replies.items) (length g.files) → AreAllHeard g (past ++ s ∷ []) replies (length g.files) =
    λ past heard. subst (λ (xs : List Stage). AreAllHeard g (past ++ xs) replies (length g.files)) c.from_ref.ensures.value (c.hear_all.ensures.heard past heard) in
    subst (λ (xs : List Range). IsWalking g c.look.new.trail replies xs most (c.args.at + 1)) (sym items)
    (walking-more g c.args.trail.now c.look.new.trail _ replies _ c.widen_all.new.spans most c.args.at s walking c.requires.within here hears widens
    (looks (walking.before ++ walking.next) walking.trail here))

pub returns-clause-walking : goal.returns-clause-walking
returns-clause-walking c = on_ok_weaker c.look.result (more c) c.look.ensures

pub returns-clause-begun : goal.returns-clause-begun
returns-clause-begun c =
    let walking = c.requires.walking.1 in
    let here = walking-at c.args.ground.now c.args.trail.now _ _ c.requires.walking.0 c.args.at c.recall.new.stage walking c.requires.within (λ d. c.in_ok-recall.ensures (walking.before ++ walking.next) d walking.trail) in
    on_ok_weaker c.look.result (begun c (walking.before ++ walking.next) walking.trail here) c.look.ensures
  where
    begun : (c : goal.After-look) → (stages : List Stage) → IsTrail c.args.ground.now c.args.trail.now stages → IsAt stages c.args.at c.recall.new.stage → ((all : List Stage) → IsTrail c.args.ground.now c.args.trail.now all → IsAt all c.args.at c.recall.new.stage
        → Looks c.args.ground.now c.args.trail.now c.look.new.trail all c.recall.new.stage (λ p. p < c.args.ground.now.book.processes)) → c.look.new.trail.begun ≡ c.args.trail.now.begun
    begun c stages trail here looks = (looks stages trail here).begun
