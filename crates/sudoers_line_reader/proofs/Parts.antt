-- What may be left out, and one of two where the second hands on that the first's test failed.
use Rattle.std.proofs.Common.{◌≡◌, Bool, true, false, ◌||◌, List, [], ◌∷◌, ◌++◌, Option, Some, None, option_map, inl, inr, refl, sym, ap, ◌∙◌, subst}
use Rattle.std.proofs.lemmas.Option.{same_Some}
use Rattle.sudoers_grammar.specs.Piece.{TokenWithBytes, is_some}
use Rattle.sudoers_grammar.specs.Grammar.{Perhaps}
use Rattle.sudoers_line_reader.specs.Reader.{ReadOutcome, Read, Halt, TokenReader, is_next_token, ◌>>=◌, pure, reader_chosen_by_next_token, optional_reader}
use Rattle.sudoers_line_reader.proofs.Keeps.{GrammarRule, NextTokenFailsTest, HaveSameNextToken, CanBeCompletedByRule, OutcomeFollowsRule, ReaderFollowsRule, NeverTakesNoTokens, IsEmptyReadingOf, is_token_of_empty_test, next_token_fails_empty_test, pure_reader_follows_rule, IsSequenceOfRules, EndsBeforeNextRule, sequence_reader_follows_rule, IsEitherOfRules, BeginsWithPassingToken, passing_token_chooses_first_reader, failing_token_chooses_second_reader, same_next_token_passes_same_tests, reader_follows_equivalent_rule, choice_reader_follows_either_rule}

-- ---- less to write

pub sequence_of_readers_follows_rules : {X Y : Type 0} {p : TokenReader X} {f : X → TokenReader Y} {IsP : GrammarRule X} {IsF : X → GrammarRule Y} {onp on : TokenWithBytes → Bool} → EndsBeforeNextRule onp IsF on
    → ReaderFollowsRule p IsP onp → ((x : X) → ReaderFollowsRule (f x) (IsF x) on) → ReaderFollowsRule (p >>= f) (IsSequenceOfRules IsP IsF) on
sequence_of_readers_follows_rules {X} {Y} {p} {f} {IsP} {IsF} {onp} {on} apart h g = sequence_reader_follows_rule p f IsP IsF onp on apart h g

-- where the first never goes on
pub sequence_after_ended_reader_follows_rule : {X Y : Type 0} {p : TokenReader X} {f : X → TokenReader Y} {IsP : GrammarRule X} {IsF : X → GrammarRule Y} {on : TokenWithBytes → Bool}
    → ReaderFollowsRule p IsP is_token_of_empty_test → ((x : X) → ReaderFollowsRule (f x) (IsF x) on) → ReaderFollowsRule (p >>= f) (IsSequenceOfRules IsP IsF) on
sequence_after_ended_reader_follows_rule {X} {Y} {p} {f} {IsP} {IsF} {on} h g = sequence_reader_follows_rule p f IsP IsF is_token_of_empty_test on (λ x mid y rest is st. next_token_fails_empty_test mid) h g

-- by another rule that says the same
pub reader_follows_rule_saying_the_same : {X : Type 0} {read : TokenReader X} {Is : GrammarRule X} {So : GrammarRule X} {on : TokenWithBytes → Bool}
    → ((ts : List TokenWithBytes) (x : X) (rest : List TokenWithBytes) → Is ts x rest → So ts x rest) → ((ts : List TokenWithBytes) (x : X) (rest : List TokenWithBytes) → So ts x rest → Is ts x rest)
    → ReaderFollowsRule read Is on → ReaderFollowsRule read So on
reader_follows_rule_saying_the_same {X} {read} {Is} {So} {on} to back h = reader_follows_equivalent_rule read Is So on on to back (λ zs st. st) h

-- where more may go on
pub reader_follows_rule_with_wider_test : {X : Type 0} {read : TokenReader X} {Is : GrammarRule X} {on : TokenWithBytes → Bool} (wide : TokenWithBytes → Bool) → ((zs : List TokenWithBytes) → NextTokenFailsTest wide zs → NextTokenFailsTest on zs) → ReaderFollowsRule read Is on → ReaderFollowsRule read Is wide
reader_follows_rule_with_wider_test {X} {read} {Is} {on} wide less h = reader_follows_equivalent_rule read Is Is on wide (λ ts x rest g. g) (λ ts x rest g. g) less h

-- what is made at the end, where more may go on
pub pure_reader_follows_rule_with_any_test : {X : Type 0} (on : TokenWithBytes → Bool) (x : X) → ReaderFollowsRule (pure x) (IsEmptyReadingOf x) on
pure_reader_follows_rule_with_any_test on x = reader_follows_rule_with_wider_test on (λ zs st. next_token_fails_empty_test zs) (pure_reader_follows_rule x)

-- ---- tests

false_or_implies_both_false : (a b : Bool) → (a || b) ≡ false → (a ≡ false) × (b ≡ false)
false_or_implies_both_false true b e = absurd cc
false_or_implies_both_false false b e = (refl, e)

pub tokens_failing_either_test_fail_both : (f g : TokenWithBytes → Bool) (zs : List TokenWithBytes) → NextTokenFailsTest (λ t. f t || g t) zs → NextTokenFailsTest f zs × NextTokenFailsTest g zs
tokens_failing_either_test_fail_both f g [] st = (refl, refl)
tokens_failing_either_test_fail_both f g (z ∷ zs) st = false_or_implies_both_false (f z) (g z) st

pub both_false_implies_false_or : (a b : Bool) → a ≡ false → b ≡ false → (a || b) ≡ false
both_false_implies_false_or a b e f = rw e f

pub is_some_of_none_is_false : {X : Type 0} (o : Option X) → o ≡ None → is_some o ≡ false
is_some_of_none_is_false o e = ap is_some e

-- what a function was mapped over
pub mapped_some_is_value_of_some : {X Y : Type 0} (f : X → Y) (o : Option X) (y : Y) → option_map f o ≡ Some y → (x : X) × (o ≡ Some x) × (y ≡ f x)
mapped_some_is_value_of_some f None y e = absurd cc
mapped_some_is_value_of_some f (Some x) y e = (x, refl, sym (same_Some (f x) y e))

-- ---- one of two, each where the test says so

abbrev pub IsRuleWhereNextTokenIs : {X : Type 0} → (TokenWithBytes → Bool) → Bool → GrammarRule X → GrammarRule X
IsRuleWhereNextTokenIs test c Is ts x rest = (is_next_token test ts ≡ c) × Is ts x rest

-- What takes no token stands only where the test says so.
abbrev pub EmptyReadingSuitsTest : {X : Type 0} → (TokenWithBytes → Bool) → Bool → GrammarRule X → (TokenWithBytes → Bool) → Type 0
EmptyReadingSuitsTest {X} test c Is on = (x : X) → ((zs : List TokenWithBytes) → NextTokenFailsTest on zs → Is zs x zs) → (zs : List TokenWithBytes) → NextTokenFailsTest on zs → is_next_token test zs ≡ c

abbrev pub IsRuleChosenByNextToken : {X : Type 0} → (TokenWithBytes → Bool) → GrammarRule X → GrammarRule X → GrammarRule X
IsRuleChosenByNextToken test IsA IsB = IsEitherOfRules (IsRuleWhereNextTokenIs test true IsA) (IsRuleWhereNextTokenIs test false IsB)

next_token_test_is_kept_by_alike_rest : (test : TokenWithBytes → Bool) (c : Bool) (ts front rest zs : List TokenWithBytes) → is_next_token test ts ≡ c → ts ≡ front ++ rest → HaveSameNextToken rest zs → is_next_token test (front ++ zs) ≡ c
next_token_test_is_kept_by_alike_rest test c ts [] rest zs e split al = sym (same_next_token_passes_same_tests test rest zs al) ∙ ap (is_next_token test) (sym split) ∙ e
next_token_test_is_kept_by_alike_rest test c ts (t ∷ front) rest zs e split al = ap (is_next_token test) (sym split) ∙ e

rule_where_next_token_holds_before_any_rest : {X : Type 0} (test : TokenWithBytes → Bool) (c : Bool) (Is : GrammarRule X) (on : TokenWithBytes → Bool) → EmptyReadingSuitsTest test c Is on → (ts front rest : List TokenWithBytes) (x : X) → is_next_token test ts ≡ c → ts ≡ front ++ rest
    → ((zs : List TokenWithBytes) → NextTokenFailsTest on zs → Is (front ++ zs) x zs) → (zs : List TokenWithBytes) → NextTokenFailsTest on zs → IsRuleWhereNextTokenIs test c Is (front ++ zs) x zs
rule_where_next_token_holds_before_any_rest test c Is on suits ts [] rest x e split is zs st = (suits x is zs st, is zs st)
rule_where_next_token_holds_before_any_rest test c Is on suits ts (t ∷ front) rest x e split is zs st = (ap (is_next_token test) (sym split) ∙ e, is zs st)

completion_where_next_token_completes_rule : {X : Type 0} (test : TokenWithBytes → Bool) (c : Bool) (Is So : GrammarRule X) (on : TokenWithBytes → Bool) → CanBeCompletedByRule So on [] → ((ts : List TokenWithBytes) (x : X) (rest : List TokenWithBytes) → IsRuleWhereNextTokenIs test c Is ts x rest → So ts x rest)
    → (ts front rest : List TokenWithBytes) → is_next_token test ts ≡ c → ts ≡ front ++ rest → CanBeCompletedByRule Is on front → CanBeCompletedByRule So on front
completion_where_next_token_completes_rule test c Is So on some to ts [] rest e split h = some
completion_where_next_token_completes_rule test c Is So on some to ts (t ∷ front) rest e split h = record { more = h.more; what = h.what; is = λ zs st. to _ _ _ (ap (is_next_token test) (sym split) ∙ e, h.is zs st) }

outcome_follows_rule_where_next_token_is : {X : Type 0} (test : TokenWithBytes → Bool) (c : Bool) (r a : TokenReader X) (Is So : GrammarRule X) (on : TokenWithBytes → Bool) → CanBeCompletedByRule So on [] → EmptyReadingSuitsTest test c Is on → ((ts : List TokenWithBytes) → is_next_token test ts ≡ c → r ts ≡ a ts)
    → ((ts : List TokenWithBytes) (x : X) (rest : List TokenWithBytes) → IsRuleWhereNextTokenIs test c Is ts x rest → So ts x rest) → (ts : List TokenWithBytes) → is_next_token test ts ≡ c → (o : ReadOutcome X) → OutcomeFollowsRule a Is on ts o → OutcomeFollowsRule r So on ts o
outcome_follows_rule_where_next_token_is test c r a Is So on some suits same to ts e (Read x rest) h = record {
  taken = h.taken;
  split = h.split;
  now = to ts x rest (e, h.now);
  is = λ zs st. to _ _ _ (rule_where_next_token_holds_before_any_rest test c Is on suits ts h.taken rest x e h.split h.is zs st);
  local = λ zs al. same (h.taken ++ zs) (next_token_test_is_kept_by_alike_rest test c ts h.taken rest zs e h.split al) ∙ h.local zs al;
}
outcome_follows_rule_where_next_token_is test c r a Is So on some suits same to ts e (Halt rest) h = record {
  front = h.front;
  split = h.split;
  legal = completion_where_next_token_completes_rule test c Is So on some to ts h.front rest e h.split h.legal;
  local = λ zs al. same (h.front ++ zs) (next_token_test_is_kept_by_alike_rest test c ts h.front rest zs e h.split al) ∙ h.local zs al;
}

choice_outcome_follows_chosen_rule : {X : Type 0} (test : TokenWithBytes → Bool) (a b : TokenReader X) (IsA IsB : GrammarRule X) (on : TokenWithBytes → Bool) → CanBeCompletedByRule (IsRuleChosenByNextToken test IsA IsB) on [] → EmptyReadingSuitsTest test true IsA on → EmptyReadingSuitsTest test false IsB on
    → ReaderFollowsRule a IsA on → ReaderFollowsRule b IsB on → (ts : List TokenWithBytes) (c : Bool) → is_next_token test ts ≡ c → OutcomeFollowsRule (reader_chosen_by_next_token test a b) (IsRuleChosenByNextToken test IsA IsB) on ts (reader_chosen_by_next_token test a b ts)
choice_outcome_follows_chosen_rule test a b IsA IsB on some suits_a suits_b h g ts true e =
    subst (OutcomeFollowsRule (reader_chosen_by_next_token test a b) (IsRuleChosenByNextToken test IsA IsB) on ts) (sym (passing_token_chooses_first_reader test a b ts e))
    (outcome_follows_rule_where_next_token_is test true (reader_chosen_by_next_token test a b) a IsA (IsRuleChosenByNextToken test IsA IsB) on some suits_a (passing_token_chooses_first_reader test a b) (λ l x r h. inl h) ts e (a ts) (h.tells ts))
choice_outcome_follows_chosen_rule test a b IsA IsB on some suits_a suits_b h g ts false e =
    subst (OutcomeFollowsRule (reader_chosen_by_next_token test a b) (IsRuleChosenByNextToken test IsA IsB) on ts) (sym (failing_token_chooses_second_reader test a b ts e))
    (outcome_follows_rule_where_next_token_is test false (reader_chosen_by_next_token test a b) b IsB (IsRuleChosenByNextToken test IsA IsB) on some suits_b (failing_token_chooses_second_reader test a b) (λ l x r h. inr h) ts e (b ts) (g.tells ts))

chosen_rule_is_read_by_choice : {X : Type 0} (test : TokenWithBytes → Bool) (a b : TokenReader X) (IsA IsB : GrammarRule X) (on : TokenWithBytes → Bool) → ReaderFollowsRule a IsA on → ReaderFollowsRule b IsB on
    → (ts : List TokenWithBytes) (x : X) (rest : List TokenWithBytes) → IsRuleChosenByNextToken test IsA IsB ts x rest → NextTokenFailsTest on rest → reader_chosen_by_next_token test a b ts ≡ Read x rest
chosen_rule_is_read_by_choice test a b IsA IsB on h g ts x rest (inl is) st = passing_token_chooses_first_reader test a b ts is.0 ∙ h.complete ts x rest is.1 st
chosen_rule_is_read_by_choice test a b IsA IsB on h g ts x rest (inr is) st = failing_token_chooses_second_reader test a b ts is.0 ∙ g.complete ts x rest is.1 st

pub choice_reader_follows_chosen_rule : {X : Type 0} {test : TokenWithBytes → Bool} {a b : TokenReader X} {IsA IsB : GrammarRule X} {on : TokenWithBytes → Bool} → CanBeCompletedByRule (IsRuleChosenByNextToken test IsA IsB) on [] → EmptyReadingSuitsTest test true IsA on → EmptyReadingSuitsTest test false IsB on
    → ReaderFollowsRule a IsA on → ReaderFollowsRule b IsB on → ReaderFollowsRule (reader_chosen_by_next_token test a b) (IsRuleChosenByNextToken test IsA IsB) on
choice_reader_follows_chosen_rule {X} {test} {a} {b} {IsA} {IsB} {on} some suits_a suits_b h g = record {
  some = some;
  tells = λ ts. choice_outcome_follows_chosen_rule test a b IsA IsB on some suits_a suits_b h g ts (is_next_token test ts) refl;
  complete = chosen_rule_is_read_by_choice test a b IsA IsB on h g;
}

-- what completes the first, where it begins as the test says
pub completed_first_rule_completes_choice : {X : Type 0} {test : TokenWithBytes → Bool} {IsA IsB : GrammarRule X} {on : TokenWithBytes → Bool} → BeginsWithPassingToken test IsA → CanBeCompletedByRule IsA on [] → CanBeCompletedByRule (IsRuleChosenByNextToken test IsA IsB) on []
completed_first_rule_completes_choice begins some = record { more = some.more; what = some.what; is = λ zs st. inl (begins _ _ _ (some.is zs st), some.is zs st) }

-- what takes a token or more
pub rule_taking_tokens_suits_any_test : {X : Type 0} (Is : GrammarRule X) (test : TokenWithBytes → Bool) (c : Bool) (on : TokenWithBytes → Bool) → NeverTakesNoTokens Is → EmptyReadingSuitsTest test c Is on
rule_taking_tokens_suits_any_test Is test c on full x is zs st = absurd (full x (is [] refl))

-- ---- a list or nothing, a thing or none

list_or_nothing_is_perhaps_list : {X : Type 0} (IsP : GrammarRule (List X)) → ((ts rest : List TokenWithBytes) → IsP ts [] rest → ⊥) → (ts : List TokenWithBytes) (xs : List X) (rest : List TokenWithBytes) → IsEitherOfRules IsP (IsEmptyReadingOf []) ts xs rest → Perhaps IsP ts xs rest
list_or_nothing_is_perhaps_list IsP full ts [] rest (inl h) = absurd (full ts rest h)
list_or_nothing_is_perhaps_list IsP full ts (x ∷ xs) rest (inl h) = h
list_or_nothing_is_perhaps_list IsP full ts xs rest (inr h) = subst (λ l. Perhaps IsP ts l rest) (sym h.1) h.0

perhaps_list_is_list_or_nothing : {X : Type 0} (IsP : GrammarRule (List X)) (ts : List TokenWithBytes) (xs : List X) (rest : List TokenWithBytes) → Perhaps IsP ts xs rest → IsEitherOfRules IsP (IsEmptyReadingOf []) ts xs rest
perhaps_list_is_list_or_nothing IsP ts [] rest h = inr (h, refl)
perhaps_list_is_list_or_nothing IsP ts (x ∷ xs) rest h = inl h

-- a list, or nothing: a list is never empty
pub list_or_nothing_reader_follows_rule : {X : Type 0} {test : TokenWithBytes → Bool} {p : TokenReader (List X)} {IsP : GrammarRule (List X)} {onp : TokenWithBytes → Bool} (on : TokenWithBytes → Bool)
    → ((zs : List TokenWithBytes) → NextTokenFailsTest on zs → NextTokenFailsTest test zs) → ((zs : List TokenWithBytes) → NextTokenFailsTest on zs → NextTokenFailsTest onp zs) → BeginsWithPassingToken test IsP → ((ts rest : List TokenWithBytes) → IsP ts [] rest → ⊥)
    → ReaderFollowsRule p IsP onp → ReaderFollowsRule (reader_chosen_by_next_token test p (pure [])) (Perhaps IsP) on
list_or_nothing_reader_follows_rule {X} {test} {p} {IsP} {onp} on ends wide first full h = reader_follows_equivalent_rule (reader_chosen_by_next_token test p (pure [])) (IsEitherOfRules IsP (IsEmptyReadingOf [])) (Perhaps IsP) on on (list_or_nothing_is_perhaps_list IsP full) (perhaps_list_is_list_or_nothing IsP) (λ zs st. st)
    (choice_reader_follows_either_rule test p (pure []) IsP (IsEmptyReadingOf []) on first (λ ts x rest is st. ap (is_next_token test) is.0 ∙ ends rest st) (reader_follows_rule_with_wider_test on wide h) (pure_reader_follows_rule_with_any_test on []))

abbrev pub IsOptionalByRule : {X : Type 0} → GrammarRule X → GrammarRule (Option X)
IsOptionalByRule IsP ts None rest = ts ≡ rest
IsOptionalByRule IsP ts (Some x) rest = IsP ts x rest

thing_or_nothing_is_optional : {X : Type 0} (IsP : GrammarRule X) (ts : List TokenWithBytes) (o : Option X) (rest : List TokenWithBytes) → IsEitherOfRules (IsSequenceOfRules IsP (λ x. IsEmptyReadingOf (Some x))) (IsEmptyReadingOf None) ts o rest → IsOptionalByRule IsP ts o rest
thing_or_nothing_is_optional {X} IsP ts o rest (inl (x, mid, is, (e, f))) = subst (λ (y : Option X). IsOptionalByRule IsP ts y rest) (sym f) (subst (IsP ts x) e is)
thing_or_nothing_is_optional {X} IsP ts o rest (inr (e, f)) = subst (λ (y : Option X). IsOptionalByRule IsP ts y rest) (sym f) e

optional_is_thing_or_nothing : {X : Type 0} (IsP : GrammarRule X) (ts : List TokenWithBytes) (o : Option X) (rest : List TokenWithBytes) → IsOptionalByRule IsP ts o rest → IsEitherOfRules (IsSequenceOfRules IsP (λ x. IsEmptyReadingOf (Some x))) (IsEmptyReadingOf None) ts o rest
optional_is_thing_or_nothing IsP ts None rest h = inr (h, refl)
optional_is_thing_or_nothing IsP ts (Some x) rest h = inl (x, rest, h, (refl, refl))

-- what is made of a thing at the end
pub mapped_reader_follows_rule : {X Y : Type 0} {p : TokenReader X} {IsP : GrammarRule X} {on : TokenWithBytes → Bool} (f : X → Y) → ReaderFollowsRule p IsP on → ReaderFollowsRule (p >>= (λ x. pure (f x))) (IsSequenceOfRules IsP (λ x. IsEmptyReadingOf (f x))) on
mapped_reader_follows_rule {X} {Y} {p} {IsP} {on} f h = sequence_reader_follows_rule p (λ x. pure (f x)) IsP (λ x. IsEmptyReadingOf (f x)) on on (λ x mid y rest g st. subst (NextTokenFailsTest on) (sym g.0) st) h (λ x. pure_reader_follows_rule_with_any_test on (f x))

-- a thing, or none
pub optional_reader_follows_rule : {X : Type 0} {test : TokenWithBytes → Bool} {p : TokenReader X} {IsP : GrammarRule X} {onp : TokenWithBytes → Bool} (on : TokenWithBytes → Bool)
    → ((zs : List TokenWithBytes) → NextTokenFailsTest on zs → NextTokenFailsTest test zs) → ((zs : List TokenWithBytes) → NextTokenFailsTest on zs → NextTokenFailsTest onp zs) → BeginsWithPassingToken test IsP
    → ReaderFollowsRule p IsP onp → ReaderFollowsRule (optional_reader test p) (IsOptionalByRule IsP) on
optional_reader_follows_rule {X} {test} {p} {IsP} {onp} on ends wide first h =
    reader_follows_equivalent_rule (optional_reader test p) (IsEitherOfRules (IsSequenceOfRules IsP (λ x. IsEmptyReadingOf (Some x))) (IsEmptyReadingOf None)) (IsOptionalByRule IsP) on on (thing_or_nothing_is_optional IsP) (optional_is_thing_or_nothing IsP) (λ zs st. st)
    (choice_reader_follows_either_rule test (p >>= (λ x. pure (Some x))) (pure None) (IsSequenceOfRules IsP (λ x. IsEmptyReadingOf (Some x))) (IsEmptyReadingOf None) on (λ ts x rest is. first ts is.0 is.1 is.2) (λ ts x rest is st. ap (is_next_token test) is.0 ∙ ends rest st)
    (mapped_reader_follows_rule Some (reader_follows_rule_with_wider_test on wide h)) (pure_reader_follows_rule_with_any_test on None))
