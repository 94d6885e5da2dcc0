-- One answer alone comes.
use Rattle.std.proofs.Common.{◌≡◌, ℕ, ◌<◌, List, refl, subst, arith}
use Rattle.at_logs.proofs.Prelude.{Answer, Taken, NotAnEntry, Forked, Gap, Again, IsAnswerAt, IsOneAnswer, IsReading, LeavesAfter, ReadsOn, ReadingState, taken}

-- the place alone rules two answers out
one_answer : (s : ReadingState) (log place : ℕ) (bytes : List ℕ) (a b : Answer) → IsAnswerAt s log place bytes a → IsAnswerAt s log place bytes b → a ≡ b
one_answer s log place bytes Taken Taken is other = refl
one_answer s log place bytes Taken NotAnEntry is other = absurd (other.unfit is.0 is.1.spelled is.1.next)
one_answer s log place bytes Taken Forked is other = absurd (other.before is.0 is.1.spelled is.1.before)
one_answer s log place bytes Taken Gap is other = absurd (omega (arith, is.1.here, other))
one_answer s log place bytes Taken Again is other = absurd (omega (arith, is.1.here, other))
one_answer s log place bytes NotAnEntry Taken is other = absurd (is.unfit other.0 other.1.spelled other.1.next)
one_answer s log place bytes NotAnEntry NotAnEntry is other = refl
one_answer s log place bytes NotAnEntry Forked is other = absurd (other.before other.spelled.0 other.spelled.1 (is.before other.spelled.0 other.spelled.1))
one_answer s log place bytes NotAnEntry Gap is other = absurd (omega (arith, is.here, other))
one_answer s log place bytes NotAnEntry Again is other = absurd (omega (arith, is.here, other))
one_answer s log place bytes Forked Taken is other = absurd (is.before other.0 other.1.spelled other.1.before)
one_answer s log place bytes Forked NotAnEntry is other = absurd (is.before is.spelled.0 is.spelled.1 (other.before is.spelled.0 is.spelled.1))
one_answer s log place bytes Forked Forked is other = refl
one_answer s log place bytes Forked Gap is other = absurd (omega (arith, is.here, other))
one_answer s log place bytes Forked Again is other = absurd (omega (arith, is.here, other))
one_answer s log place bytes Gap Taken is other = absurd (omega (arith, is, other.1.here))
one_answer s log place bytes Gap NotAnEntry is other = absurd (omega (arith, is, other.here))
one_answer s log place bytes Gap Forked is other = absurd (omega (arith, is, other.here))
one_answer s log place bytes Gap Gap is other = refl
one_answer s log place bytes Gap Again is other = absurd (omega (arith, is, other))
one_answer s log place bytes Again Taken is other = absurd (omega (arith, is, other.1.here))
one_answer s log place bytes Again NotAnEntry is other = absurd (omega (arith, is, other.here))
one_answer s log place bytes Again Forked is other = absurd (omega (arith, is, other.here))
one_answer s log place bytes Again Gap is other = absurd (omega (arith, is, other))
one_answer s log place bytes Again Again is other = refl

pub IsOneAnswer-IsAnswerAt : (s : ReadingState) (log place : ℕ) (bytes : List ℕ) (a : Answer) → IsAnswerAt s log place bytes a → IsOneAnswer s log place bytes a
IsOneAnswer-IsAnswerAt s log place bytes a is b = (λ same. subst (IsAnswerAt s log place bytes) same is, one_answer s log place bytes a b is)

-- a call of `take` goes on with the logs that were read before
pub ReadsOn-answered : (s t : ReadingState) (log place : ℕ) (bytes : List ℕ) (a : Answer) → log < s.node.book.logs → IsOneAnswer s log place bytes a → LeavesAfter s log bytes t a
    → IsReading t → ReadsOn s log place bytes t
ReadsOn-answered s t log place bytes a known answered left reading b hash logs before stands =
    taken s t before (record {
      log = log;
      place = place;
      bytes = bytes;
      answer = a;
      known = known;
      stands = stands;
      answered = (answered a).0 refl;
      left = left;
      reading = reading;
    })
