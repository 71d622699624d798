-- What the reader of a thing again and again keeps.
use Rattle.std.proofs.Common.{◌≡◌, ℕ, zero, suc, ◌≤◌, ◌<◌, Bool, true, false, List, [], ◌∷◌, ◌++◌, length, inl, inr, refl, sym, ap, ◌∙◌, subst, append_assoc, append-nil, length-append, arith, Option, Some, None}
use Rattle.std.proofs.lemmas.Slice.Eq.{bytes_eq-Decides}
use Rattle.sudoers_text.specs.declared.token.TokenKind.TheVariants as kind
use Rattle.sudoers_grammar.specs.Piece.{TokenWithBytes, is_mark_of_byte}
use Rattle.sudoers_grammar.specs.Grammar.{Many, MarkThenRule, Separated}
use Rattle.sudoers_line_reader.specs.Reader.{ReadOutcome, Read, Halt, TokenReader, ReaderConsumesTokens, is_next_token, outcome_continued_with, ◌>>=◌, pure, passing_token_reader, reader_chosen_by_next_token, bounded_repetition_reader, repetition_reader, snoc, reader_after_mark, separated_list_reader, one_token_reader, token_if_it_passes}
use Rattle.sudoers_line_reader.proofs.Keeps.{GrammarRule, NextTokenFailsTest, CanBeCompletedByRule, OutcomeFollowsRule, ReaderFollowsRule, IsEmptyReadingOf, is_token_of_empty_test, next_token_fails_empty_test, pure_reader_follows_rule, IsOnePassingToken, IsSequenceOfRules, EndsBeforeNextRule, sequence_outcome_follows_rule, sequence_reader_follows_rule, IsEitherOfRules, BeginsWithPassingToken, passing_token_chooses_first_reader, failing_token_chooses_second_reader, choice_outcome_follows_either_rule, outcome_follows_equivalent_rule, token_with_meaning_is_read, token_without_meaning_is_halted_at, passing_token_reader_follows_rule, reader_follows_equivalent_rule}

abbrev pub left_fold_of_list : {A X : Type 0} → (A → X → A) → A → List X → A
left_fold_of_list add acc [] = acc
left_fold_of_list add acc (x ∷ xs) = left_fold_of_list add (add acc x) xs

abbrev pub IsFoldOfRepeatedRule : {A X : Type 0} → (A → X → A) → GrammarRule X → A → GrammarRule A
IsFoldOfRepeatedRule {A} {X} add IsP acc ts y rest = (xs : List X) × Many IsP ts xs rest × (y ≡ left_fold_of_list add acc xs)

module _ {A X : Type 0} (add : A → X → A) (begins : TokenWithBytes → Bool) (p : TokenReader X) where
  -- one more round with at most n behind it
  abbrev round : ℕ → A → TokenReader A
  round n acc = reader_chosen_by_next_token begins (p >>= (λ x. bounded_repetition_reader add begins p n (add acc x))) (pure acc)

  abbrev further : (ℕ → A → TokenReader A)
  further n acc = bounded_repetition_reader add begins p n acc

  once : (n : ℕ) (acc : A) (ts : List TokenWithBytes) → bounded_repetition_reader add begins p (suc n) acc ts ≡ round n acc ts
  unfolding bounded_repetition_reader
  once n acc ts = refl

  done : (n : ℕ) (acc : A) (ts : List TokenWithBytes) → is_next_token begins ts ≡ false → bounded_repetition_reader add begins p n acc ts ≡ Read acc ts
  unfolding bounded_repetition_reader
  done zero acc ts e = refl
  done (suc n) acc ts e = rw e refl

  onward_next : (n : ℕ) (acc : A) (o : ReadOutcome X) → ((x : X) (rest : List TokenWithBytes) → o ≡ Read x rest → bounded_repetition_reader add begins p n (add acc x) rest ≡ repetition_reader add begins p (add acc x) rest)
      → outcome_continued_with o (λ x. bounded_repetition_reader add begins p n (add acc x)) ≡ outcome_continued_with o (λ x. repetition_reader add begins p (add acc x))
  onward_next n acc (Read x rest) same = same x rest refl
  onward_next n acc (Halt rest) same = refl

  onward_same : (n m : ℕ) (acc : A) (o : ReadOutcome X) → ((x : X) (rest : List TokenWithBytes) → o ≡ Read x rest → bounded_repetition_reader add begins p n (add acc x) rest ≡ bounded_repetition_reader add begins p m (add acc x) rest)
      → outcome_continued_with o (λ x. bounded_repetition_reader add begins p n (add acc x)) ≡ outcome_continued_with o (λ x. bounded_repetition_reader add begins p m (add acc x))
  onward_same n m acc (Read x rest) same = same x rest refl
  onward_same n m acc (Halt rest) same = refl

  round_same : (n m : ℕ) (acc : A) (ts : List TokenWithBytes) (b : Bool) → is_next_token begins ts ≡ b → ((x : X) (rest : List TokenWithBytes) → p ts ≡ Read x rest → bounded_repetition_reader add begins p n (add acc x) rest ≡ bounded_repetition_reader add begins p m (add acc x) rest) → round n acc ts ≡ round m acc ts
  round_same n m acc ts true e same = passing_token_chooses_first_reader begins (p >>= (λ x. bounded_repetition_reader add begins p n (add acc x))) (pure acc) ts e ∙ onward_same n m acc (p ts) same ∙ sym (passing_token_chooses_first_reader begins (p >>= (λ x. bounded_repetition_reader add begins p m (add acc x))) (pure acc) ts e)
  round_same n m acc ts false e same = failing_token_chooses_second_reader begins (p >>= (λ x. bounded_repetition_reader add begins p n (add acc x))) (pure acc) ts e ∙ sym (failing_token_chooses_second_reader begins (p >>= (λ x. bounded_repetition_reader add begins p m (add acc x))) (pure acc) ts e)

  -- Enough is enough.
  enough : ReaderConsumesTokens p → (n m : ℕ) (acc : A) (ts : List TokenWithBytes) → length ts ≤ n → length ts ≤ m → bounded_repetition_reader add begins p n acc ts ≡ bounded_repetition_reader add begins p m acc ts
  enough sh n m acc [] le lf = done n acc [] refl ∙ sym (done m acc [] refl)
  enough sh zero m acc (t ∷ ts) le lf = absurd (omega arith)
  enough sh (suc n) zero acc (t ∷ ts) le lf = absurd (omega arith)
  enough sh (suc n) (suc m) acc (t ∷ ts) le lf =
      once n acc (t ∷ ts)
      ∙ round_same n m acc (t ∷ ts) (begins t) refl (λ x rest e. let lt : length rest < length (t ∷ ts) = sh.less (t ∷ ts) x rest e in enough sh n m (add acc x) rest (omega arith) (omega arith))
      ∙ sym (once m acc (t ∷ ts))

  many_is : (acc : A) (ts : List TokenWithBytes) → repetition_reader add begins p acc ts ≡ bounded_repetition_reader add begins p (length ts) acc ts
  unfolding repetition_reader
  many_is acc ts = refl

  -- the next round
  abbrev pub next : A → TokenReader A
  next acc = reader_chosen_by_next_token begins (p >>= (λ x. repetition_reader add begins p (add acc x))) (pure acc)

  next_same : (n : ℕ) (acc : A) (ts : List TokenWithBytes) (b : Bool) → is_next_token begins ts ≡ b → ((x : X) (rest : List TokenWithBytes) → p ts ≡ Read x rest → bounded_repetition_reader add begins p n (add acc x) rest ≡ repetition_reader add begins p (add acc x) rest) → round n acc ts ≡ next acc ts
  next_same n acc ts true e same = passing_token_chooses_first_reader begins (p >>= (λ x. bounded_repetition_reader add begins p n (add acc x))) (pure acc) ts e ∙ onward_next n acc (p ts) same ∙ sym (passing_token_chooses_first_reader begins (p >>= (λ x. repetition_reader add begins p (add acc x))) (pure acc) ts e)
  next_same n acc ts false e same = failing_token_chooses_second_reader begins (p >>= (λ x. bounded_repetition_reader add begins p n (add acc x))) (pure acc) ts e ∙ sym (failing_token_chooses_second_reader begins (p >>= (λ x. repetition_reader add begins p (add acc x))) (pure acc) ts e)

  -- It is one round, and then itself.
  pub fix : ReaderConsumesTokens p → (acc : A) (ts : List TokenWithBytes) → repetition_reader add begins p acc ts ≡ next acc ts
  fix sh acc [] = many_is acc [] ∙ done (length {A = TokenWithBytes} []) acc [] refl
  fix sh acc (t ∷ ts) =
      many_is acc (t ∷ ts)
      ∙ enough sh (length (t ∷ ts)) (suc (length ts)) acc (t ∷ ts) (omega arith) (omega arith)
      ∙ once (length ts) acc (t ∷ ts)
      ∙ next_same (length ts) acc (t ∷ ts) (begins t) refl (λ x rest e. let lt : length rest < length (t ∷ ts) = sh.less (t ∷ ts) x rest e in enough sh (length ts) (length rest) (add acc x) rest (omega arith) (omega arith) ∙ sym (many_is (add acc x) rest))

  pub next_read : ReaderConsumesTokens p → (acc : A) (x : X) (ts rest : List TokenWithBytes) → is_next_token begins ts ≡ true → p ts ≡ Read x rest → repetition_reader add begins p acc ts ≡ repetition_reader add begins p (add acc x) rest
  next_read sh acc x ts rest b e = fix sh acc ts ∙ passing_token_chooses_first_reader begins (p >>= (λ y. repetition_reader add begins p (add acc y))) (pure acc) ts b ∙ ap (λ o. outcome_continued_with o (λ y. repetition_reader add begins p (add acc y))) e

  pub next_halt : ReaderConsumesTokens p → (acc : A) (ts rest : List TokenWithBytes) → is_next_token begins ts ≡ true → p ts ≡ Halt rest → repetition_reader add begins p acc ts ≡ Halt rest
  next_halt sh acc ts rest b e = fix sh acc ts ∙ passing_token_chooses_first_reader begins (p >>= (λ y. repetition_reader add begins p (add acc y))) (pure acc) ts b ∙ ap (λ o. outcome_continued_with o (λ y. repetition_reader add begins p (add acc y))) e

  pub next_none : ReaderConsumesTokens p → (acc : A) (ts : List TokenWithBytes) → is_next_token begins ts ≡ false → repetition_reader add begins p acc ts ≡ Read acc ts
  next_none sh acc ts b = fix sh acc ts ∙ failing_token_chooses_second_reader begins (p >>= (λ y. repetition_reader add begins p (add acc y))) (pure acc) ts b

  module _ (IsP : GrammarRule X) (onp on : TokenWithBytes → Bool) where
    apart_by : ((zs : List TokenWithBytes) → NextTokenFailsTest on zs → NextTokenFailsTest onp zs) → ((zs : List TokenWithBytes) → is_next_token begins zs ≡ true → NextTokenFailsTest onp zs) → BeginsWithPassingToken begins IsP
        → (xs : List X) (mid rest : List TokenWithBytes) → Many IsP mid xs rest → NextTokenFailsTest on rest → NextTokenFailsTest onp mid
    apart_by wide off first [] mid rest h st = subst (NextTokenFailsTest onp) (sym h) (wide rest st)
    apart_by wide off first (x ∷ xs) mid rest (reader_after_mark, is, h) st = off mid (first mid x reader_after_mark is)

    apart_many : ((zs : List TokenWithBytes) → NextTokenFailsTest on zs → NextTokenFailsTest onp zs) → ((zs : List TokenWithBytes) → is_next_token begins zs ≡ true → NextTokenFailsTest onp zs) → BeginsWithPassingToken begins IsP
        → (acc : A) → EndsBeforeNextRule onp (λ x. IsFoldOfRepeatedRule add IsP (add acc x)) on
    apart_many wide off first acc x mid y rest (xs, h, e) st = apart_by wide off first xs mid rest h st

    some_many : (acc : A) → CanBeCompletedByRule (IsFoldOfRepeatedRule add IsP acc) on []
    some_many acc = record { more = []; what = acc; is = λ zs st. ([], refl, refl) }

    to_many : (acc : A) (ts : List TokenWithBytes) (y : A) (rest : List TokenWithBytes) → IsEitherOfRules (IsSequenceOfRules IsP (λ x. IsFoldOfRepeatedRule add IsP (add acc x))) (IsEmptyReadingOf acc) ts y rest → IsFoldOfRepeatedRule add IsP acc ts y rest
    to_many acc ts y rest (inl (x, mid, is, (xs, h, e))) = (x ∷ xs, (mid, is, h), e)
    to_many acc ts y rest (inr (e, f)) = ([], e, f)

    fix_path : ReaderConsumesTokens p → (acc : A) → next acc ≡ repetition_reader add begins p acc
    fix_path sh acc = λ i ts. sym (fix sh acc ts) i

    many_round : ReaderConsumesTokens p → ((zs : List TokenWithBytes) → NextTokenFailsTest on zs → NextTokenFailsTest onp zs) → ((zs : List TokenWithBytes) → is_next_token begins zs ≡ true → NextTokenFailsTest onp zs) → BeginsWithPassingToken begins IsP → ReaderFollowsRule p IsP onp
        → (acc : A) (ts : List TokenWithBytes) → ((x : X) (rest : List TokenWithBytes) → p ts ≡ Read x rest → OutcomeFollowsRule (repetition_reader add begins p (add acc x)) (IsFoldOfRepeatedRule add IsP (add acc x)) on rest (repetition_reader add begins p (add acc x) rest))
        → OutcomeFollowsRule (repetition_reader add begins p acc) (IsFoldOfRepeatedRule add IsP acc) on ts (repetition_reader add begins p acc ts)
    many_round sh wide off first h acc ts later = subst (λ (r : TokenReader A). OutcomeFollowsRule r (IsFoldOfRepeatedRule add IsP acc) on ts (r ts)) (fix_path sh acc)
        (outcome_follows_equivalent_rule (next acc) (IsEitherOfRules (IsSequenceOfRules IsP (λ x. IsFoldOfRepeatedRule add IsP (add acc x))) (IsEmptyReadingOf acc)) (IsFoldOfRepeatedRule add IsP acc) on on ts (next acc ts) (to_many acc) (λ zs st. st)
        (choice_outcome_follows_either_rule begins (p >>= (λ x. repetition_reader add begins p (add acc x))) (pure acc) (IsSequenceOfRules IsP (λ x. IsFoldOfRepeatedRule add IsP (add acc x))) (IsEmptyReadingOf acc) on ts (is_next_token begins ts) refl
        (λ e. sequence_outcome_follows_rule p (λ x. repetition_reader add begins p (add acc x)) IsP (λ x. IsFoldOfRepeatedRule add IsP (add acc x)) onp on (apart_many wide off first acc) (λ x. some_many (add acc x)) ts (p ts) (h.tells ts) later)
        (λ e. outcome_follows_equivalent_rule (pure acc) (IsEmptyReadingOf acc) (IsEmptyReadingOf acc) is_token_of_empty_test on ts (Read acc ts) (λ l y r g. g) (λ zs st. next_token_fails_empty_test zs) ((pure_reader_follows_rule acc).tells ts))))

    many_tells : ReaderConsumesTokens p → ((zs : List TokenWithBytes) → NextTokenFailsTest on zs → NextTokenFailsTest onp zs) → ((zs : List TokenWithBytes) → is_next_token begins zs ≡ true → NextTokenFailsTest onp zs) → BeginsWithPassingToken begins IsP → ReaderFollowsRule p IsP onp
        → (n : ℕ) (acc : A) (ts : List TokenWithBytes) → length ts ≤ n → OutcomeFollowsRule (repetition_reader add begins p acc) (IsFoldOfRepeatedRule add IsP acc) on ts (repetition_reader add begins p acc ts)
    many_tells sh wide off first h zero acc ts le = many_round sh wide off first h acc ts (λ x rest e. let lt : length rest < length ts = sh.less ts x rest e in absurd (omega arith))
    many_tells sh wide off first h (suc n) acc ts le = many_round sh wide off first h acc ts (λ x rest e. let lt : length rest < length ts = sh.less ts x rest e in many_tells sh wide off first h n (add acc x) rest (omega arith))

    many_complete : ReaderConsumesTokens p → ((zs : List TokenWithBytes) → NextTokenFailsTest on zs → NextTokenFailsTest begins zs) → ((zs : List TokenWithBytes) → NextTokenFailsTest on zs → NextTokenFailsTest onp zs) → ((zs : List TokenWithBytes) → is_next_token begins zs ≡ true → NextTokenFailsTest onp zs) → BeginsWithPassingToken begins IsP → ReaderFollowsRule p IsP onp
        → (xs : List X) (acc : A) (ts rest : List TokenWithBytes) → Many IsP ts xs rest → NextTokenFailsTest on rest → repetition_reader add begins p acc ts ≡ Read (left_fold_of_list add acc xs) rest
    many_complete sh ends wide off first h [] acc ts rest is st = next_none sh acc ts (subst (NextTokenFailsTest begins) (sym is) (ends rest st)) ∙ ap (Read acc) is
    many_complete sh ends wide off first h (x ∷ xs) acc ts rest (mid, is, later) st =
        next_read sh acc x ts mid (first ts x mid is) (h.complete ts x mid is (apart_by wide off first xs mid rest later st))
        ∙ many_complete sh ends wide off first h xs (add acc x) mid rest later st

    pub many_lawful : ReaderConsumesTokens p → ((zs : List TokenWithBytes) → NextTokenFailsTest on zs → NextTokenFailsTest begins zs) → ((zs : List TokenWithBytes) → NextTokenFailsTest on zs → NextTokenFailsTest onp zs) → ((zs : List TokenWithBytes) → is_next_token begins zs ≡ true → NextTokenFailsTest onp zs) → BeginsWithPassingToken begins IsP → ReaderFollowsRule p IsP onp
        → (acc : A) → ReaderFollowsRule (repetition_reader add begins p acc) (IsFoldOfRepeatedRule add IsP acc) on
    many_lawful sh ends wide off first h acc = record {
      some = some_many acc;
      tells = λ ts. many_tells sh wide off first h (length ts) acc ts (omega arith);
      complete = λ ts y rest is st. many_complete sh ends wide off first h is.0 acc ts rest is.1 st ∙ ap (λ z. Read z rest) (sym is.2);
    }

-- ---- what is shorter

rest_after_one_token_is_tail : {X : Type 0} (says : TokenWithBytes → Option X) (t : TokenWithBytes) (ts : List TokenWithBytes) (x : X) (rest : List TokenWithBytes) (o : Option X) → says t ≡ o → one_token_reader says (t ∷ ts) ≡ Read x rest → rest ≡ ts
rest_after_one_token_is_tail says t ts x rest (Some y) e h = let g : Read y ts ≡ Read x rest = sym (token_with_meaning_is_read says t ts y e) ∙ h in cc
rest_after_one_token_is_tail says t ts x rest None e h = let g : Halt (t ∷ ts) ≡ Read x rest = sym (token_without_meaning_is_halted_at says t ts e) ∙ h in cc

rest_after_one_token_is_shorter : {X : Type 0} (says : TokenWithBytes → Option X) (ts : List TokenWithBytes) (x : X) (rest : List TokenWithBytes) → one_token_reader says ts ≡ Read x rest → length rest < length ts
rest_after_one_token_is_shorter says [] x rest h = absurd (cc)
rest_after_one_token_is_shorter says (t ∷ ts) x rest h = let e : length rest ≡ length ts = ap length (rest_after_one_token_is_tail says t ts x rest (says t) refl h) in omega arith

pub one_token_reader_consumes_tokens : {X : Type 0} (says : TokenWithBytes → Option X) → ReaderConsumesTokens (one_token_reader says)
one_token_reader_consumes_tokens says = record { less = rest_after_one_token_is_shorter says }

pub passing_token_reader_consumes_tokens : (test : TokenWithBytes → Bool) → ReaderConsumesTokens (passing_token_reader test)
passing_token_reader_consumes_tokens test = one_token_reader_consumes_tokens (token_if_it_passes test)

rest_of_read_outcome_is_no_longer : {X : Type 0} (p : TokenReader X) (IsP : GrammarRule X) (onp : TokenWithBytes → Bool) (ts : List TokenWithBytes) (o : ReadOutcome X) (x : X) (rest : List TokenWithBytes) → OutcomeFollowsRule p IsP onp ts o → o ≡ Read x rest → length rest ≤ length ts
rest_of_read_outcome_is_no_longer p IsP onp ts (Read y end) x rest h e =
    let same : end ≡ rest = cc in
    let all : length ts ≡ length (h.taken ++ end) = ap length h.split in
    let same_length : length end ≡ length rest = ap length same in
    omega (arith, length-append h.taken end)
rest_of_read_outcome_is_no_longer p IsP onp ts (Halt end) x rest h e = absurd (cc)

-- What is left is no longer.
pub rest_after_reader_is_no_longer : {X : Type 0} (p : TokenReader X) (IsP : GrammarRule X) (onp : TokenWithBytes → Bool) → ReaderFollowsRule p IsP onp → (ts : List TokenWithBytes) (x : X) (rest : List TokenWithBytes) → p ts ≡ Read x rest → length rest ≤ length ts
rest_after_reader_is_no_longer p IsP onp h ts x rest e = rest_of_read_outcome_is_no_longer p IsP onp ts (p ts) x rest (h.tells ts) e

rest_after_sequence_is_shorter : {X Y : Type 0} (p : TokenReader X) (f : X → TokenReader Y) → ReaderConsumesTokens p → ((x : X) (ts : List TokenWithBytes) (y : Y) (rest : List TokenWithBytes) → f x ts ≡ Read y rest → length rest ≤ length ts)
    → (ts : List TokenWithBytes) (o : ReadOutcome X) → p ts ≡ o → (y : Y) (rest : List TokenWithBytes) → outcome_continued_with o f ≡ Read y rest → length rest < length ts
rest_after_sequence_is_shorter p f sh le ts (Read x mid) e y rest h =
    let lt : length mid < length ts = sh.less ts x mid e in
    let lf : length rest ≤ length mid = le x mid y rest h in
    omega arith
rest_after_sequence_is_shorter p f sh le ts (Halt mid) e y rest h = absurd (cc)

pub sequence_reader_consumes_tokens : {X Y : Type 0} (p : TokenReader X) (f : X → TokenReader Y) → ReaderConsumesTokens p → ((x : X) (ts : List TokenWithBytes) (y : Y) (rest : List TokenWithBytes) → f x ts ≡ Read y rest → length rest ≤ length ts) → ReaderConsumesTokens (p >>= f)
sequence_reader_consumes_tokens p f sh le = record { less = λ ts y rest h. rest_after_sequence_is_shorter p f sh le ts (p ts) refl y rest h }

-- ---- behind a mark, and lists

abbrev pub token_of_mark_byte : ℕ → TokenWithBytes
token_of_mark_byte b = record { kind = kind.Punct; text = b ∷ []; start = 0; stop = 0; last = false }

token_of_mark_byte_is_mark : (b : ℕ) → is_mark_of_byte b (token_of_mark_byte b) ≡ true
unfolding is_mark_of_byte
token_of_mark_byte_is_mark b = (bytes_eq-Decides (b ∷ []) (b ∷ [])).1 refl

pub mark_reader_follows_rule : (b : ℕ) → ReaderFollowsRule (passing_token_reader (is_mark_of_byte b)) (IsOnePassingToken (is_mark_of_byte b)) is_token_of_empty_test
mark_reader_follows_rule b = passing_token_reader_follows_rule (is_mark_of_byte b) (token_of_mark_byte b) (token_of_mark_byte_is_mark b)

pub empty_test_ends_before_any_rule : {X Y : Type 0} (IsF : X → GrammarRule Y) (on : TokenWithBytes → Bool) → EndsBeforeNextRule is_token_of_empty_test IsF on
empty_test_ends_before_any_rule IsF on x mid y rest h st = next_token_fails_empty_test mid

pub reader_after_mark_follows_rule : {X : Type 0} (b : ℕ) (p : TokenReader X) (IsP : GrammarRule X) (on : TokenWithBytes → Bool) → ReaderFollowsRule p IsP on → ReaderFollowsRule (reader_after_mark b p) (MarkThenRule b IsP) on
reader_after_mark_follows_rule b p IsP on h = reader_follows_equivalent_rule (reader_after_mark b p) (IsSequenceOfRules (IsOnePassingToken (is_mark_of_byte b)) (λ _. IsP)) (MarkThenRule b IsP) on on
    (λ ts x rest g. record { mark = g.0; behind = g.1; split = g.2.0; is_mark = g.2.1; is = g.3 })
    (λ ts x rest g. (g.mark, g.behind, (g.split, g.is_mark), g.is))
    (λ zs st. st)
    (sequence_reader_follows_rule (passing_token_reader (is_mark_of_byte b)) (λ _. p) (IsOnePassingToken (is_mark_of_byte b)) (λ _. IsP) is_token_of_empty_test on (empty_test_ends_before_any_rule (λ _. IsP) on) (mark_reader_follows_rule b) (λ _. h))

pub mark_then_rule_begins_with_mark : {X : Type 0} (b : ℕ) (IsP : GrammarRule X) → BeginsWithPassingToken (is_mark_of_byte b) (MarkThenRule b IsP)
mark_then_rule_begins_with_mark b IsP ts x rest h = ap (is_next_token (is_mark_of_byte b)) h.split ∙ h.is_mark

pub reader_after_mark_consumes_tokens : {X : Type 0} (b : ℕ) (p : TokenReader X) (IsP : GrammarRule X) (on : TokenWithBytes → Bool) → ReaderFollowsRule p IsP on → ReaderConsumesTokens (reader_after_mark b p)
reader_after_mark_consumes_tokens b p IsP on h = sequence_reader_consumes_tokens (passing_token_reader (is_mark_of_byte b)) (λ _. p) (passing_token_reader_consumes_tokens (is_mark_of_byte b)) (λ _. rest_after_reader_is_no_longer p IsP on h)

pub fold_by_snoc_is_append : {X : Type 0} (xs ys : List X) → left_fold_of_list snoc xs ys ≡ xs ++ ys
fold_by_snoc_is_append xs [] = sym (append-nil xs)
fold_by_snoc_is_append xs (y ∷ ys) = fold_by_snoc_is_append (xs ++ y ∷ []) ys ∙ append_assoc xs (y ∷ []) ys

module _ {X : Type 0} (b : ℕ) (p : TokenReader X) (IsP : GrammarRule X) (onp on : TokenWithBytes → Bool) where
  to_separated : (ts : List TokenWithBytes) (xs : List X) (rest : List TokenWithBytes) → IsSequenceOfRules IsP (λ x. IsFoldOfRepeatedRule snoc (MarkThenRule b IsP) (x ∷ [])) ts xs rest → Separated b IsP ts xs rest
  to_separated ts xs rest (x, mid, is, (more, later, e)) = subst (λ (l : List X). Separated b IsP ts l rest) (sym (e ∙ fold_by_snoc_is_append (x ∷ []) more)) (mid, is, later)

  from_separated : (ts : List TokenWithBytes) (xs : List X) (rest : List TokenWithBytes) → Separated b IsP ts xs rest → IsSequenceOfRules IsP (λ x. IsFoldOfRepeatedRule snoc (MarkThenRule b IsP) (x ∷ [])) ts xs rest
  from_separated ts [] rest h = absurd h
  from_separated ts (x ∷ xs) rest (mid, is, later) = (x, mid, is, (xs, later, sym (fold_by_snoc_is_append (x ∷ []) xs)))

  -- A thing is not gone on with by the mark; the list goes on with it, and as its things do.
  pub separated_lawful : ((zs : List TokenWithBytes) → NextTokenFailsTest on zs → NextTokenFailsTest (is_mark_of_byte b) zs) → ((zs : List TokenWithBytes) → NextTokenFailsTest on zs → NextTokenFailsTest onp zs) → ((zs : List TokenWithBytes) → is_next_token (is_mark_of_byte b) zs ≡ true → NextTokenFailsTest onp zs)
      → ReaderFollowsRule p IsP onp → ReaderFollowsRule (separated_list_reader b p) (Separated b IsP) on
  separated_lawful ends wide off h =
      reader_follows_equivalent_rule (separated_list_reader b p) (IsSequenceOfRules IsP (λ x. IsFoldOfRepeatedRule snoc (MarkThenRule b IsP) (x ∷ []))) (Separated b IsP) on on to_separated from_separated (λ zs st. st)
      (sequence_reader_follows_rule p (λ x. repetition_reader snoc (is_mark_of_byte b) (reader_after_mark b p) (x ∷ [])) IsP (λ x. IsFoldOfRepeatedRule snoc (MarkThenRule b IsP) (x ∷ [])) onp on
      (λ x mid ys rest g st. apart_by snoc (is_mark_of_byte b) (reader_after_mark b p) (MarkThenRule b IsP) onp on wide off (mark_then_rule_begins_with_mark b IsP) g.0 mid rest g.1 st)
      h
      (λ x. many_lawful snoc (is_mark_of_byte b) (reader_after_mark b p) (MarkThenRule b IsP) onp on (reader_after_mark_consumes_tokens b p IsP onp h) ends wide off (mark_then_rule_begins_with_mark b IsP) (reader_after_mark_follows_rule b p IsP onp h) (x ∷ [])))

-- ---- a list without marks

module _ {X : Type 0} (begins : TokenWithBytes → Bool) (p : TokenReader X) (IsP : GrammarRule X) where
  to_all : (ts : List TokenWithBytes) (xs : List X) (rest : List TokenWithBytes) → IsFoldOfRepeatedRule snoc IsP [] ts xs rest → Many IsP ts xs rest
  to_all ts xs rest (ys, h, e) = subst (λ (l : List X). Many IsP ts l rest) (sym (e ∙ fold_by_snoc_is_append [] ys)) h

  from_all : (ts : List TokenWithBytes) (xs : List X) (rest : List TokenWithBytes) → Many IsP ts xs rest → IsFoldOfRepeatedRule snoc IsP [] ts xs rest
  from_all ts xs rest h = (xs, h, sym (fold_by_snoc_is_append [] xs))

  pub all_lawful : ReaderConsumesTokens p → BeginsWithPassingToken begins IsP → ReaderFollowsRule p IsP is_token_of_empty_test → ReaderFollowsRule (repetition_reader snoc begins p []) (Many IsP) begins
  all_lawful sh first h = reader_follows_equivalent_rule (repetition_reader snoc begins p []) (IsFoldOfRepeatedRule snoc IsP []) (Many IsP) begins begins to_all from_all (λ zs st. st)
      (many_lawful snoc begins p IsP is_token_of_empty_test begins sh (λ zs st. st) (λ zs st. next_token_fails_empty_test zs) (λ zs e. next_token_fails_empty_test zs) first h [])

-- what begins none of them, and not what follows
pub repetition_fails_test_its_items_fail : {X : Type 0} (IsP : GrammarRule X) (test : TokenWithBytes → Bool) → ((ts : List TokenWithBytes) (x : X) (rest : List TokenWithBytes) → IsP ts x rest → NextTokenFailsTest test ts)
    → (xs : List X) (ts rest : List TokenWithBytes) → Many IsP ts xs rest → NextTokenFailsTest test rest → NextTokenFailsTest test ts
repetition_fails_test_its_items_fail IsP test none [] ts rest e st = subst (NextTokenFailsTest test) (sym e) st
repetition_fails_test_its_items_fail IsP test none (x ∷ xs) ts rest (mid, is, more) st = none ts x mid is
