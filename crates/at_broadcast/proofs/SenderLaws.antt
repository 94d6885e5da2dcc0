-- What is kept of one sender, after one more delivery and after one more validation.
use Rattle.std.proofs.Common.{◌≡◌, ◌≢◌, ℕ, zero, suc, ◌+◌, ◌-◌, ◌*◌, ◌^◌, ◌<◌, ◌≤◌, List, [], ◌∷◌, ◌++◌, length, set, drop, Option, None, Some, leb, cond, eqb, refl, ap, sym, subst, ◌∙◌, inl, inr, add-one, arith, eq-eqb, le-leb, length-append, length-set, length-drop, get_or-set_same, get_or-set_other}
use Rattle.at_broadcast.proofs.Prelude.{All, sum_by, cases_eq, at_drop_all, at_drop_more, drop-set-add, take-set-le, All-append, All-head, All-tail, sum_by-append, sum_by-cons, sum_by-drop_more, sum_by-set, AreTargetsOn, TargetPair, target_at, most_targets, Credit, Message, CreditList, amount_since, credit_after, MessageList, amount_to, message_at, message_credit, targets_in, times_named, times_to, AreCreditsTo, HasRoomFor, IsSender, IsStored, MakesRoom, SenderState, brought, credits_to, message_counted, no_credits, target_counted, with_one_credit}
use Rattle.at_broadcast.proofs.CreditLaws.{amount_since-none}
use Rattle.at_broadcast.proofs.MoveLaws.{amount_if, amount_if-other}
use Rattle.at_broadcast.proofs.RangeLaws.{sum_by-take_more}

-- how often a message names an account is how many of its targets it is
times_to-targets_in : (account : ℕ) (o : Option Message) → times_to account (targets_in o) ≡ times_named account o
times_to-targets_in account None = refl
times_to-targets_in account (Some m) = refl

-- the same credits with room for so many more, after a message that names the account as often stands at a place
AreCreditsTo-stored : (messages : MessageList) (validated account : ℕ) (c after : CreditList) (number : ℕ) (o : Option Message)
    → AreCreditsTo messages validated account c → validated ≤ number → number < length messages
    → after.list ≡ c.list → c.room + times_to account (targets_in o) ≤ after.room
    → AreCreditsTo (set messages number o) validated account after
AreCreditsTo-stored messages validated account c after number o are later within same more =
    let i : ℕ = number - validated in
    let split : validated + i ≡ number = omega arith in
    let rest : MessageList = drop validated messages in
    let inside : i < length rest = omega (arith, length-drop validated messages) in
    let dropped : drop validated (set messages number o) ≡ set rest i o =
    ap (λ k. drop validated (set messages k o)) (sym split) ∙ drop-set-add validated messages i o in
    let summed = sum_by-set (times_named account) rest i o None inside in
    record {
      earlier = subst (λ (l : List Credit). All (λ (c : Credit). c.number < validated) l) (sym same) are.earlier;
      few = omega (arith, are.few, ap (λ (l : List Credit). length l) same);
      since = λ count below.
          let first = take-set-le count messages number o (omega arith) in
          let whole = take-set-le validated messages number o later in
          omega (
            arith,
            are.since count below,
            ap (λ (l : List Credit). amount_since count l) same,
            ap (λ l. sum_by (message_credit account) l) first,
            ap (λ l. sum_by (message_credit account) l) whole,
          );
      room = omega (arith, more, are.room, summed, times_to-targets_in account o, ap (λ l. sum_by (times_named account) l) dropped);
    }

pub IsSender-stored : (accounts validated : ℕ) (s : SenderState) (number : ℕ) (o : Option Message) (after : SenderState) → IsSender accounts validated s → validated ≤ number
    → number < length s.messages → IsStored s number o after → IsSender accounts validated after
IsSender-stored accounts validated s number o after is later within stored = record {
  messages = ap (λ (l : MessageList). length l) stored.messages ∙ (length-set s.messages number o ∙ is.messages);
  within = is.within;
  sized = stored.credits.sized ∙ is.sized;
  credits = λ a a_in. subst (λ (l : MessageList). AreCreditsTo l validated a (credits_to after a)) (sym stored.messages)
      (AreCreditsTo-stored s.messages validated a (credits_to s a) (credits_to after a) number o (is.credits a a_in) later within
      (stored.credits.kept a) (stored.credits.room a (omega (arith, a_in, is.sized))));
}

-- the same of a sender that has more room alone
pub IsSender-roomier : (accounts validated : ℕ) (s after : SenderState) → IsSender accounts validated s → after.messages ≡ s.messages → MakesRoom [] s after
    → IsSender accounts validated after
IsSender-roomier accounts validated s after is messages makes = record {
  messages = ap (λ (l : MessageList). length l) messages ∙ is.messages;
  within = is.within;
  sized = makes.sized ∙ is.sized;
  credits = λ a a_in. subst (λ (l : MessageList). AreCreditsTo l validated a (credits_to after a)) (sym messages) (record {
    earlier = subst (λ (l : List Credit). All (λ (c : Credit). c.number < validated) l) (sym (makes.kept a)) (is.credits a a_in).earlier;
    few = omega (arith, (is.credits a a_in).few, ap (λ (l : List Credit). length l) (makes.kept a));
    since = λ count below. omega (arith, (is.credits a a_in).since count below, ap (λ (l : List Credit). amount_since count l) (makes.kept a));
    room = omega (arith, (is.credits a a_in).room, makes.room a (omega (arith, a_in, is.sized)));
  });
}

-- one more credit to an account, where others stay
get_or-counted_same : (s : SenderState) (number account : ℕ) (t : TargetPair) → t.0 < length s.credits → account ≡ t.0
    → credits_to (target_counted s number t) account ≡ with_one_credit (credits_to s account) number t.1
get_or-counted_same s number account t known same =
    subst (λ (a : ℕ). credits_to (target_counted s number t) a ≡ with_one_credit (credits_to s a) number t.1) (sym same)
    (get_or-set_same s.credits t.0 (with_one_credit (credits_to s t.0) number t.1) no_credits known)

get_or-counted_other : (s : SenderState) (number account : ℕ) (t : TargetPair) → account ≢ t.0 → credits_to (target_counted s number t) account ≡ credits_to s account
get_or-counted_other s number account t apart = get_or-set_other s.credits t.0 account (with_one_credit (credits_to s t.0) number t.1) no_credits apart

-- how often the first target and the rest are the account
times_to-same : (account : ℕ) (t : TargetPair) (rest : List TargetPair) → account ≡ t.0 → times_to account (t ∷ rest) ≡ times_to account rest + 1
times_to-same account t rest same =
    let one : amount_if t.0 account 1 ≡ 1 = ap (λ b. cond b 1 0) (eq-eqb t.0 account (sym same)) in
    omega (arith, one, sum_by-cons (λ (t : TargetPair). cond (eqb t.0 account) 1 0) t rest)

times_to-other : (account : ℕ) (t : TargetPair) (rest : List TargetPair) → account ≢ t.0 → times_to account (t ∷ rest) ≡ times_to account rest
times_to-other account t rest apart =
    omega (arith, amount_if-other t.0 account 1 apart, sum_by-cons (λ (t : TargetPair). cond (eqb t.0 account) 1 0) t rest)

-- one credit below a bound
All-one : (n : ℕ) (c : Credit) → c.number ≤ n → All (λ (c : Credit). c.number ≤ n) (c ∷ [])
All-one n c below zero d within = below
All-one n c below (suc i) d within = absurd (omega arith)

-- one more credit of this number or above
amount_since-push : (count : ℕ) (list : List Credit) (c : Credit) → count ≤ c.number → amount_since count (list ++ c ∷ []) ≡ amount_since count list + c.amount
amount_since-push count list c low =
    let e : cond (leb count c.number) c.amount 0 ≡ c.amount = ap (λ t. cond t c.amount 0) (le-leb count c.number low) in
    omega (
      arith,
      e,
      sum_by-append (λ (c : Credit). cond (leb count c.number) c.amount 0) list (c ∷ []),
      sum_by-cons (λ (c : Credit). cond (leb count c.number) c.amount 0) c [],
    )

-- the credits to an account while the targets of the next message are counted: so much of it has come, and these targets are left
record AreCreditsAmid (messages : MessageList) (validated account got : ℕ) (rest : List TargetPair) (c : CreditList) : Type 0 where
  pub earlier : All (λ (c : Credit). c.number ≤ validated) c.list
  pub few : length c.list + length rest ≤ (validated + 1) * most_targets
  pub since : (count : ℕ) → count ≤ validated → amount_since count c.list + brought messages account count ≡ brought messages account validated + got
  pub room : sum_by (times_named account) (drop (validated + 1) messages) + times_to account rest ≤ c.room

-- before the first
AreCreditsAmid-start : (messages : MessageList) (validated account : ℕ) (c : CreditList) (m : Message) → AreCreditsTo messages validated account c
    → validated < length messages → message_at messages validated ≡ Some m → length m.targets ≤ most_targets
    → AreCreditsAmid messages validated account 0 m.targets c
AreCreditsAmid-start messages validated account c m are within here few = record {
  earlier = λ k d h. omega (arith, are.earlier k d h);
  few = omega (arith, are.few, few);
  since = λ count below. omega (arith, are.since count below);
  room = omega (arith, are.room, ap (times_named account) here, sum_by-drop_more (times_named account) messages validated None within);
}

-- after the last
AreCreditsTo-amid : (messages : MessageList) (validated account got : ℕ) (c : CreditList) → AreCreditsAmid messages validated account got [] c
    → message_credit account (message_at messages validated) ≡ got → AreCreditsTo messages (validated + 1) account c
AreCreditsTo-amid messages validated account got c amid all =
    let more : brought messages account (validated + 1) ≡ brought messages account validated + got =
    ap (λ k. brought messages account k) (add-one validated) ∙ omega (arith, sum_by-take_more (message_credit account) messages validated refl, all) in
    record {
      earlier = λ k d h. omega (arith, amid.earlier k d h);
      few = omega (arith, amid.few);
      since = λ count below. elim (cases_eq count (validated + 1)) as (λ _. amount_since count c.list + brought messages account count ≡ brought messages account (validated + 1)) [
        | inl last ↦
            let gone = amount_since-none count c.list (λ k d h. omega (arith, last, amid.earlier k d h)) in
            omega (arith, gone, ap (brought messages account) last)
        | inr apart ↦ omega (arith, amid.since count (omega (arith, apart, below)), more)
      ];
      room = omega (arith, amid.room);
    }

-- one target more is counted
AreCreditsAmid-counted : (messages : MessageList) (validated account got : ℕ) (t : TargetPair) (rest : List TargetPair) (s : SenderState) → t.0 < length s.credits
    → AreCreditsAmid messages validated account got (t ∷ rest) (credits_to s account)
    → AreCreditsAmid messages validated account (got + amount_if t.0 account t.1) rest (credits_to (target_counted s validated t) account)
AreCreditsAmid-counted messages validated account got t rest s known amid =
    elim (cases_eq account t.0) as (λ _. AreCreditsAmid messages validated account (got + amount_if t.0 account t.1) rest (credits_to (target_counted s validated t) account)) [
      | inl same ↦
          let c : CreditList = credits_to s account in
          let last : Credit = credit_after c.list validated t.1 in
          let amount : amount_if t.0 account t.1 ≡ t.1 = ap (λ b. cond b t.1 0) (eq-eqb t.0 account (sym same)) in
          subst (AreCreditsAmid messages validated account (got + amount_if t.0 account t.1) rest) (sym (get_or-counted_same s validated account t known same)) (record {
            earlier = All-append (λ (c : Credit). c.number ≤ validated) c.list (last ∷ []) amid.earlier (All-one validated last (omega arith));
            few = omega (arith, amid.few, length-append c.list (last ∷ []));
            since = λ count below. omega (arith, amount, amid.since count below, amount_since-push count c.list last below);
            room = omega (arith, amid.room, times_to-same account t rest same);
          })
      | inr apart ↦
          subst (AreCreditsAmid messages validated account (got + amount_if t.0 account t.1) rest) (sym (get_or-counted_other s validated account t apart)) (record {
            earlier = amid.earlier;
            few = omega (arith, amid.few);
            since = λ count below. omega (arith, amid.since count below, amount_if-other t.0 account t.1 apart);
            room = omega (arith, amid.room, times_to-other account t rest apart);
          })
    ]

-- targets after the first, once that is counted
rest-counted : (s : SenderState) (number : ℕ) (t : TargetPair) (rest : List TargetPair) → AreTargetsOn (length s.credits) (t ∷ rest)
    → AreTargetsOn (length (target_counted s number t).credits) rest
rest-counted s number t rest known =
    subst (λ (n : ℕ). AreTargetsOn n rest) (sym (length-set s.credits t.0 (with_one_credit (credits_to s t.0) number t.1)))
    (All-tail (λ (t : TargetPair). t.0 < length s.credits) t rest known)

AreCreditsAmid-all : (messages : MessageList) (validated account got : ℕ) (targets : List TargetPair) (s : SenderState) → AreTargetsOn (length s.credits) targets
    → AreCreditsAmid messages validated account got targets (credits_to s account)
    → AreCreditsAmid messages validated account (got + amount_to account targets) [] (credits_to (message_counted s validated targets) account)
unfolding message_counted
AreCreditsAmid-all messages validated account got [] s known amid =
    subst (λ (n : ℕ). AreCreditsAmid messages validated account n [] (credits_to s account)) (omega arith) amid
AreCreditsAmid-all messages validated account got (t ∷ rest) s known amid =
    subst (λ (n : ℕ). AreCreditsAmid messages validated account n [] (credits_to (message_counted (target_counted s validated t) validated rest) account))
    (omega (arith, sum_by-cons (λ (t : TargetPair). cond (eqb t.0 account) t.1 0) t rest))
    (AreCreditsAmid-all messages validated account (got + amount_if t.0 account t.1) rest (target_counted s validated t) (rest-counted s validated t rest known)
    (AreCreditsAmid-counted messages validated account got t rest s (All-head (λ (t : TargetPair). t.0 < length s.credits) t rest known) amid))

-- counting changes neither the messages nor how many accounts there are
pub messages-message_counted : (s : SenderState) (number : ℕ) (targets : List TargetPair) → (message_counted s number targets).messages ≡ s.messages
unfolding message_counted
messages-message_counted s number [] = refl
messages-message_counted s number (t ∷ rest) = messages-message_counted (target_counted s number t) number rest

length-message_counted : (s : SenderState) (number : ℕ) (targets : List TargetPair) → length (message_counted s number targets).credits ≡ length s.credits
unfolding message_counted
length-message_counted s number [] = refl
length-message_counted s number (t ∷ rest) =
    length-message_counted (target_counted s number t) number rest ∙ length-set s.credits t.0 (with_one_credit (credits_to s t.0) number t.1)

pub IsSender-message_counted : (accounts validated : ℕ) (s : SenderState) (m : Message) → IsSender accounts validated s
    → validated < length s.messages → message_at s.messages validated ≡ Some m → AreTargetsOn accounts m.targets → length m.targets ≤ most_targets
    → IsSender accounts (validated + 1) (message_counted s validated m.targets)
IsSender-message_counted accounts validated s m is within here known few = record {
  messages = ap (λ (l : MessageList). length l) (messages-message_counted s validated m.targets) ∙ is.messages;
  within = omega (arith, is.messages, within);
  sized = length-message_counted s validated m.targets ∙ is.sized;
  credits = λ a a_in.
      subst (λ (l : MessageList). AreCreditsTo l (validated + 1) a (credits_to (message_counted s validated m.targets) a)) (sym (messages-message_counted s validated m.targets))
      (AreCreditsTo-amid s.messages validated a (0 + amount_to a m.targets) (credits_to (message_counted s validated m.targets) a)
      (AreCreditsAmid-all s.messages validated a 0 m.targets s (subst (λ (n : ℕ). AreTargetsOn n m.targets) (sym is.sized) known)
      (AreCreditsAmid-start s.messages validated a (credits_to s a) m (is.credits a a_in) within here few))
      (ap (message_credit a) here ∙ omega arith));
}

-- there is room for the next message
pub HasRoomFor-next : (accounts validated : ℕ) (s : SenderState) (m : Message) → IsSender accounts validated s
    → validated < length s.messages → message_at s.messages validated ≡ Some m → length m.targets ≤ most_targets → HasRoomFor m.targets validated s
HasRoomFor-next accounts validated s m is within here few = record {
  room = λ a a_in. omega (arith, (amid a a_in).room);
  later = λ a a_in. (amid a a_in).earlier;
  few = λ a a_in. omega (arith, (amid a a_in).few, is.within);
} where
  amid : (a : ℕ) → a < length s.credits → AreCreditsAmid s.messages validated a 0 m.targets (credits_to s a)
  amid a a_in = AreCreditsAmid-start s.messages validated a (credits_to s a) m (is.credits a (omega (arith, a_in, is.sized))) within here few

-- and for the rest of its targets once one is counted
HasRoomFor-counted : (t : TargetPair) (rest : List TargetPair) (number : ℕ) (s : SenderState) → t.0 < length s.credits → HasRoomFor (t ∷ rest) number s
    → HasRoomFor rest number (target_counted s number t)
HasRoomFor-counted t rest number s known has = record {
  room = λ a a_in. elim (cases_eq a t.0) as (λ _. times_to a rest ≤ (credits_to (target_counted s number t) a).room) [
    | inl same ↦ omega (arith, has.room a (inside a a_in), times_to-same a t rest same, ap (λ (c : CreditList). c.room) (get_or-counted_same s number a t known same))
    | inr apart ↦ omega (arith, has.room a (inside a a_in), times_to-other a t rest apart, ap (λ (c : CreditList). c.room) (get_or-counted_other s number a t apart))
  ];
  later = λ a a_in. elim (cases_eq a t.0) as (λ _. All (λ (c : Credit). c.number ≤ number) (credits_to (target_counted s number t) a).list) [
    | inl same ↦
        let last : Credit = credit_after (credits_to s a).list number t.1 in
        subst (λ (c : CreditList). All (λ (c : Credit). c.number ≤ number) c.list) (sym (get_or-counted_same s number a t known same))
        (All-append (λ (c : Credit). c.number ≤ number) (credits_to s a).list (last ∷ []) (has.later a (inside a a_in)) (All-one number last (omega arith)))
    | inr apart ↦
        subst (λ (c : CreditList). All (λ (c : Credit). c.number ≤ number) c.list) (sym (get_or-counted_other s number a t apart)) (has.later a (inside a a_in))
  ];
  few = λ a a_in. elim (cases_eq a t.0) as (λ _. length (credits_to (target_counted s number t) a).list + length rest ≤ 2 ^ 40) [
    | inl same ↦
        let last : Credit = credit_after (credits_to s a).list number t.1 in
        omega (
          arith,
          has.few a (inside a a_in),
          length-append (credits_to s a).list (last ∷ []),
          ap (λ (c : CreditList). length c.list) (get_or-counted_same s number a t known same),
        )
    | inr apart ↦ omega (arith, has.few a (inside a a_in), ap (λ (c : CreditList). length c.list) (get_or-counted_other s number a t apart))
  ];
} where
  inside : (a : ℕ) → a < length (target_counted s number t).credits → a < length s.credits
  inside a h = omega (arith, h, length-set s.credits t.0 (with_one_credit (credits_to s t.0) number t.1))

-- the targets from a place on
pub HasRoomFor-drop_more : (targets : List TargetPair) (i number : ℕ) (s : SenderState) → i < length targets → (target_at targets i).0 < length s.credits
    → HasRoomFor (drop i targets) number s → HasRoomFor (drop (i + 1) targets) number (target_counted s number (target_at targets i))
HasRoomFor-drop_more targets i number s within known has =
    HasRoomFor-counted (target_at targets i) (drop (i + 1) targets) number s known
    (subst (λ (l : List TargetPair). HasRoomFor l number s) (at_drop_more (λ (l : List TargetPair). l) targets i (0, 0) within) has)

pub message_counted-drop_more : (s : SenderState) (number : ℕ) (targets : List TargetPair) (i : ℕ) → i < length targets
    → message_counted s number (drop i targets) ≡ message_counted (target_counted s number (target_at targets i)) number (drop (i + 1) targets)
unfolding message_counted
message_counted-drop_more s number targets i within = at_drop_more (message_counted s number) targets i (0, 0) within

pub message_counted-drop_all : (s : SenderState) (number : ℕ) (targets : List TargetPair) (i : ℕ) → length targets ≤ i → message_counted s number (drop i targets) ≡ s
unfolding message_counted
message_counted-drop_all s number targets i all = at_drop_all (message_counted s number) targets i all

-- what the next target needs
pub record IsNextRoom (number : ℕ) (c : CreditList) : Type 0 where
  pub room : 0 < c.room
  pub later : All (λ (c : Credit). c.number ≤ number) c.list
  pub few : length c.list < 2 ^ 40

pub HasRoomFor-here : (targets : List TargetPair) (i number : ℕ) (s : SenderState) → i < length targets → (target_at targets i).0 < length s.credits
    → HasRoomFor (drop i targets) number s → IsNextRoom number (credits_to s (target_at targets i).0)
HasRoomFor-here targets i number s within known has =
    let t : TargetPair = target_at targets i in
    let rest : List TargetPair = drop (i + 1) targets in
    let all : HasRoomFor (t ∷ rest) number s = subst (λ (l : List TargetPair). HasRoomFor l number s) (at_drop_more (λ (l : List TargetPair). l) targets i (0, 0) within) has in
    record {
      room = omega (arith, all.room t.0 known, times_to-same t.0 t rest refl);
      later = all.later t.0 known;
      few = omega (arith, all.few t.0 known);
    }

-- the sender that is written
pub counted-same : (s : SenderState) (number to amount : ℕ) (t : TargetPair) (was new : CreditList) → to ≡ t.0 → amount ≡ t.1 → was ≡ credits_to s to
    → new ≡ with_one_credit was number amount → record s { credits = set s.credits to new } ≡ target_counted s number t
counted-same s number to amount t was new to_is amount_is was_is new_is =
    ap (λ (c : CreditList). record s { credits = set s.credits to c }) (new_is ∙ ap (λ (c : CreditList). with_one_credit c number amount) was_is)
    ∙ (ap (λ k. record s { credits = set s.credits k (with_one_credit (credits_to s k) number amount) }) to_is
    ∙ ap (λ n. target_counted s number (t.0, n)) amount_is)
