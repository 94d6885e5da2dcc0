use Rattle.std.proofs.Common.{◌≡◌, ◌*◌, ◌<◌, ap, arith, refl, rules, subst, sym, ◌∙◌}
use Rattle.at_agree.proofs.Prelude.{BoardTerms, IsPrefix-trans, IsHistory, IsPrefix, Transfer, shared_account, size_of, spent_account, HasShareDecided, HasProposed, HasVoted, share_of, named_account, HasMadeOneMore, HasRead, IsVoiceOf, VoiceTerms, process_of, seen_by}
use Rattle.at_agree.proofs.FourCalls.{HasShareDecided-IsPrefix, HasProposed-IsPrefix, HasProposed-answered, HasVoted-made}
use Rattle.at_agree.proofs.VoiceCalls.{in_book}
use Rattle.at_agree.proofs.council.Council.propose.Goals as goal

pub find-left-requires-clause-account : goal.find-left-requires-clause-account
find-left-requires-clause-account c =
    let size_is : c.size-size.result ≡ size_of c.self.inside.ledger = c.size-size.ensures.size ∙ ap size_of (sym c.self.view_is) in
    in_book c.self.inside.ledger c.size-size.result (2 * c.size-size.result) c.self.invariant size_is (omega arith)

pub find-requires-clause-account : goal.find-requires-clause-account
find-requires-clause-account c =
    let size_is : c.size-size.result ≡ size_of c.self.inside.ledger = c.size-size.ensures.size ∙ ap size_of (sym c.self.view_is) in
    in_book c.self.inside.ledger c.size-size.result c.named_account-account.result c.self.invariant size_is
    (omega (arith, c.named_account-account.ensures.within))

pub returns-clause-proposed : goal.returns-clause-proposed
returns-clause-proposed c =
    let v1 : VoiceTerms = c.pay_value.new.self in
    let v2 : VoiceTerms = c.ask_for_share.new.self in
    let v3 : VoiceTerms = c.find-left.new.self in
    let v4 : VoiceTerms = c.find.new.self in
    let p = process_of c.args.voice.now in
    let later : IsPrefix (seen_by v2) (seen_by v4) =
    IsPrefix-trans (seen_by v2) (seen_by v3) (seen_by v4) c.find-left.ensures.read.made.begins c.find.ensures.read.made.begins in
    let begins : IsPrefix (seen_by v1) (seen_by v4) = IsPrefix-trans (seen_by v1) (seen_by v2) (seen_by v4) c.ask_for_share.ensures.made.begins later in
    subst (λ k. HasProposed k (seen_by v4) p c.args.value) c.size-size.ensures.size
    (HasProposed-IsPrefix c.size-size.result p c.args.value (seen_by v1) (seen_by v4) begins c.pay_value.ensures.proposed)

pub returns-clause-asked : goal.returns-clause-asked
returns-clause-asked c =
    let v2 : VoiceTerms = c.ask_for_share.new.self in
    let v3 : VoiceTerms = c.find-left.new.self in
    let v4 : VoiceTerms = c.find.new.self in
    let later : IsPrefix (seen_by v2) (seen_by v4) =
    IsPrefix-trans (seen_by v2) (seen_by v3) (seen_by v4) c.find-left.ensures.read.made.begins c.find.ensures.read.made.begins in
    let asked : HasShareDecided c.size-size.result (seen_by v2) (process_of c.args.voice.now) =
    subst (λ q. HasShareDecided c.size-size.result (seen_by v2) q) c.pay_value.ensures.made.process_is c.ask_for_share.ensures.asked in
    subst (λ k. HasShareDecided k (seen_by v4) (process_of c.args.voice.now)) c.size-size.ensures.size
    (HasShareDecided-IsPrefix c.size-size.result (process_of c.args.voice.now) (seen_by v2) (seen_by v4) later asked)

pub returns-clause-voted : goal.returns-clause-voted
returns-clause-voted c =
    let council : BoardTerms = c.self.inside.ledger in
    let v0 : VoiceTerms = c.args.voice.now in
    let v1 : VoiceTerms = c.pay_value.new.self in
    let v2 : VoiceTerms = c.ask_for_share.new.self in
    let v3 : VoiceTerms = c.find-left.new.self in
    let v4 : VoiceTerms = c.find.new.self in
    let k = c.size-size.result in
    let p = process_of v0 in
    let left = c.find-left.result in
    let asked : HasMadeOneMore council v1 v2 (Transfer (shared_account k) (spent_account k) (share_of k p)) =
    subst (λ q. HasMadeOneMore council v1 v2 (Transfer (shared_account k) (spent_account k) (share_of k q))) c.pay_value.ensures.made.process_is c.ask_for_share.ensures.made in
    let account : c.named_account-account.result ≡ named_account k p left =
    c.named_account-account.ensures.account ∙ ap (λ q. named_account k q left) c.process-process.ensures.process in
    let last : HasRead council v3 v4 (named_account k p left) c.find.result =
    subst (λ a. HasRead council v3 v4 a c.find.result) account c.find.ensures.read in
    subst (λ n. HasVoted n p c.args.value c.find.result v4.receipts) c.size-size.ensures.size
    (HasVoted-made council v0 v1 v2 v3 v4 k p c.args.value left c.find.result c.requires.unproposed c.pay_value.ensures.made asked
    c.find-left.ensures.read last)

pub returns-clause-agreed : goal.returns-clause-agreed
returns-clause-agreed c =
    let council : BoardTerms = c.args.self.now in
    let v4 : VoiceTerms = c.find.new.self in
    let p = process_of c.args.voice.now in
    let of_council : IsVoiceOf v4 council = search rules in
    let process_is : process_of v4 ≡ p = search rules in
    let known : p < size_of council = search rules in
    let history : IsHistory council.book (seen_by v4) = subst (λ (t : BoardTerms). IsHistory t.book (seen_by v4)) c.self.view_is c.find.ensures.history in
    λ planned.
    HasProposed-answered council v4 (size_of council) p c.args.value c.find.result c.size-size.ensures.council refl known c.requires.value
    of_council process_is c.find.ensures.stands (returns-clause-voted c) history planned
