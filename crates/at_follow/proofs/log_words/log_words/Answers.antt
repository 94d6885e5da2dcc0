use Rattle.std.proofs.Common.{◌≡◌, ◌+◌, ◌<◌, ◌≤◌, ◌∷◌, [], ◌++◌, List, cond, ap, length, map, sym, ◌∙◌, arith}
use Rattle.at_follow.proofs.Prelude.{AccountTerms, BookTerms, NameList, Words, account_of, contents_of, is_shared, length-contents_of, shared_among, shared_below, shared_word, take_all}
use Rattle.at_follow.proofs.TextLaws.{length-words-more, shared-words-more}
use Rattle.at_follow.proofs.log_words.log_words.Goals as goal

pub loop-account-preserved : goal.loop-account-preserved
loop-account-preserved c =
    let b : BookTerms = c.args.book.now in
    let names : NameList = c.args.names.now in
    let a = c.loop-account.account in
    let within : a < length b.accounts = omega (arith, c.loop-account-test.true, c.accounts-account-end.ensures.count) in
    record {
      words = c.in_ok-push_shared.ensures
          ∙ (ap (λ (l : Words). l ++ cond (is_shared (account_of b a)) (shared_word names a ∷ []) []) c.loop-account.invariant.words ∙ shared-words-more b names a);
      counted = length-words-more b (contents_of c.loop-account.words.items) (contents_of c.push_shared.new.words.items) (shared_word names a) a within c.in_ok-push_shared.ensures c.loop-account.invariant.counted;
    }

pub returns-clause-words : goal.returns-clause-words
returns-clause-words c =
    let b : BookTerms = c.args.book.now in
    let names : NameList = c.args.names.now in
    let all : c.loop-account.account ≡ length b.accounts = omega (arith, c.loop-account-test.false, c.loop-account.auto.account-end, c.accounts-account-end.ensures.count) in
    c.loop-account.invariant.words ∙ ap (λ n. names.processes ++ map (shared_word names) (shared_below b n)) all

pub returns-clause-each : goal.returns-clause-each
returns-clause-each c =
    let b : BookTerms = c.args.book.now in
    let all : length b.accounts ≤ c.loop-account.account = omega (arith, c.loop-account-test.false, c.accounts-account-end.ensures.count) in
    sym (length-contents_of c.loop-account.words.items)
    ∙ (c.loop-account.invariant.counted ∙ ap (λ (l : List AccountTerms). b.processes + shared_among l) (take_all c.loop-account.account b.accounts all))
