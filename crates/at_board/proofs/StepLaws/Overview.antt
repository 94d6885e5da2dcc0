-- An overview: what is split off a seat for it, what it takes in, and what a seat learns of it.
use Rattle.std.proofs.Common.{◌≡◌, ℕ, ◌<◌, List, [], ◌∷◌, ◌++◌, length, refl, sym, subst, ◌∙◌, arith}
use Rattle.at_board.proofs.Prelude.{append-nil, All-nil, All, set_again, Splits, BookTerms, IsBook, longer-either, BoardState, IsHistory, longer, DecisionInRange, RequestInRange, IsAnnounced, IsDecided, Knows, IsOverview, LearnsOverview, TakesIn, seen_alone, Ruled, Learns, learned, AreSeen, Knowledge}
use Rattle.at_board.proofs.StepLaws.Learn.{IsLonger-seen, count_of-between}
use Rattle.at_board.proofs.StepLaws.Note.{Ruled-more}

Knows-seen_alone : (b : BookTerms) (words : List ℕ) (s : BoardState) (v : Knowledge) → Knows b words s v → Knows b words s (seen_alone v)
Knows-seen_alone b words s v knows = record {
  seen = knows.seen;
  requests = All-nil (IsAnnounced s);
  decisions = All-nil (IsDecided s);
  parts = λ k within. absurd (omega arith);
}

module _ {S : Type 0} where
  -- what a seat or an overview has seen may be split off it
  pub sees_alone : (key : BookTerms) (id : ℕ) (v : Knowledge) → Splits {S = S} (λ s. Ruled key s.words s.views) id v v (seen_alone v)
  sees_alone key id v s holds found =
      subst (λ t. Ruled key s.words (t ++ seen_alone v ∷ [])) (sym (set_again s.views id v found))
      (Ruled-more key s.words s.views (seen_alone v) holds refl (Knows-seen_alone key s.words holds.state v (holds.knows id v found)))

-- what was split off is an overview
pub IsOverview-seen_alone : (v : Knowledge) → IsBook v.book → IsHistory v.book v.seen → IsOverview (seen_alone v)
IsOverview-seen_alone v book history = record {
  note = record {
    no_part = refl;
    book = book;
    history = history;
    in_range = record { requests = All-nil (RequestInRange v.book); decisions = All-nil (DecisionInRange v.book) };
  };
  requests = refl;
  decisions = refl;
}

module _ {S : Type 0} where
  -- an overview that has taken in a seat with which it met
  pub TakesIn-met : (b : BookTerms) (id other : ℕ) (o v : Knowledge) → 0 < length v.parts → IsHistory b o.seen → IsHistory b v.seen
      → AreSeen {S = S} (λ s. Ruled b s.words s.views) id o other v → TakesIn b o.seen v (learned o (seen_alone v)).seen
  TakesIn-met b id other o v part mine theirs met =
      let long = IsLonger-seen b id other o v met in
      record {
        is = refl;
        more = long.first;
        told = long.second;
        own = count_of-between b met.0.words met.1.state v (longer o.seen v.seen) part (met.1.knows other v met.4) long.second long.before;
        history = longer-either (IsHistory b) o.seen v.seen mine theirs;
      }

-- and it is an overview still
pub IsOverview-learned : (o v : Knowledge) → IsOverview o → IsHistory o.book v.seen → IsOverview (learned o (seen_alone v))
IsOverview-learned o v is theirs =
    let requests : o.requests ++ [] ≡ o.requests = append-nil o.requests in
    let decisions : o.decisions ++ [] ≡ o.decisions = append-nil o.decisions in
    record {
      note = record {
        no_part = is.note.no_part;
        book = is.note.book;
        history = longer-either (IsHistory o.book) o.seen v.seen is.note.history theirs;
        in_range = record {
          requests = subst (All (RequestInRange o.book)) (sym requests) is.note.in_range.requests;
          decisions = subst (All (DecisionInRange o.book)) (sym decisions) is.note.in_range.decisions;
        };
      };
      requests = requests ∙ is.requests;
      decisions = decisions ∙ is.decisions;
    }

-- to learn the note of what an overview has is to learn the overview
pub LearnsOverview-Learns : (b : BookTerms) (before o after : Knowledge) → Learns b before (seen_alone o) after → LearnsOverview b before o.seen after
LearnsOverview-Learns b before o after learns = record {
  same = learns.same ∙ (λ t. record before {
    seen = longer before.seen o.seen;
    requests = append-nil before.requests t;
    decisions = append-nil before.decisions t;
  });
  more = learns.more;
  told = learns.told;
  own = learns.own;
  history = learns.history;
  agrees = learns.agrees;
}
