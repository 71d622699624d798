-- What each reader keeps, once for each thing that readers are made of.
use Rattle.std.proofs.Common.{◌≡◌, ℕ, Bool, true, false, if◌then◌else◌, Option, Some, None, List, [], ◌∷◌, ◌++◌, ◌⊎◌, inl, inr, refl, sym, ap, ◌∙◌, subst, append_assoc}
use Rattle.sudoers_grammar.specs.Piece.{TokenWithBytes}
use Rattle.sudoers_grammar.specs.Grammar.{start_of_first_token}
use Rattle.std.proofs.lemmas.Option.{same_Some}
use Rattle.sudoers_line_reader.specs.Reader.{ReadOutcome, Read, Halt, TokenReader, is_next_token, outcome_continued_with, ◌>>=◌, pure, outcome_of_token_meaning, one_token_reader, token_if_it_passes, passing_token_reader, reader_chosen_by_next_token, reader_with_start, end_of_line_reader}

abbrev pub GrammarRule : Type 0 → Type 1
GrammarRule X = List TokenWithBytes → X → List TokenWithBytes → Type 0

-- Such a piece does not come.
abbrev pub NextTokenFailsTest : (TokenWithBytes → Bool) → List TokenWithBytes → Type 0
NextTokenFailsTest on ts = is_next_token on ts ≡ false

-- The same piece comes, or none.
abbrev pub HaveSameNextToken : List TokenWithBytes → List TokenWithBytes → Type 0
HaveSameNextToken [] [] = Unit {0}
HaveSameNextToken [] (u ∷ us) = ⊥
HaveSameNextToken (t ∷ ts) [] = ⊥
HaveSameNextToken (t ∷ ts) (u ∷ us) = t ≡ u

-- Some pieces complete these.
pub record CanBeCompletedByRule {X : Type 0} (Is : GrammarRule X) (on : TokenWithBytes → Bool) (front : List TokenWithBytes) : Type 0 where
  pub more : List TokenWithBytes
  pub what : X
  pub is : (zs : List TokenWithBytes) → NextTokenFailsTest on zs → Is (front ++ (more ++ zs)) what zs

-- What was read is in the grammar, whatever follows with which it does not go on; it is read again where the same piece follows.
pub record IsReadByRule {X : Type 0} (read : TokenReader X) (Is : GrammarRule X) (on : TokenWithBytes → Bool) (ts : List TokenWithBytes) (x : X) (rest : List TokenWithBytes) : Type 0 where
  pub taken : List TokenWithBytes
  pub split : ts ≡ taken ++ rest
  pub now : Is ts x rest
  pub is : (zs : List TokenWithBytes) → NextTokenFailsTest on zs → Is (taken ++ zs) x zs
  pub local : (zs : List TokenWithBytes) → HaveSameNextToken rest zs → read (taken ++ zs) ≡ Read x zs

-- The pieces before a halt can be completed, and whatever follows the piece there, it halts.
pub record IsHaltByRule {X : Type 0} (read : TokenReader X) (Is : GrammarRule X) (on : TokenWithBytes → Bool) (ts rest : List TokenWithBytes) : Type 0 where
  pub front : List TokenWithBytes
  pub split : ts ≡ front ++ rest
  pub legal : CanBeCompletedByRule Is on front
  pub local : (zs : List TokenWithBytes) → HaveSameNextToken rest zs → read (front ++ zs) ≡ Halt zs

abbrev pub OutcomeFollowsRule : {X : Type 0} → TokenReader X → GrammarRule X → (TokenWithBytes → Bool) → List TokenWithBytes → ReadOutcome X → Type 0
OutcomeFollowsRule read Is on ts (Read x rest) = IsReadByRule read Is on ts x rest
OutcomeFollowsRule read Is on ts (Halt rest) = IsHaltByRule read Is on ts rest

pub record ReaderFollowsRule {X : Type 0} (read : TokenReader X) (Is : GrammarRule X) (on : TokenWithBytes → Bool) : Type 0 where
  pub some : CanBeCompletedByRule Is on []
  pub tells : (ts : List TokenWithBytes) → OutcomeFollowsRule read Is on ts (read ts)
  pub complete : (ts : List TokenWithBytes) (x : X) (rest : List TokenWithBytes) → Is ts x rest → NextTokenFailsTest on rest → read ts ≡ Read x rest

-- ---- pieces that are alike

pub common_front_keeps_same_next_token : (front rest zs : List TokenWithBytes) → HaveSameNextToken rest zs → HaveSameNextToken (front ++ rest) (front ++ zs)
common_front_keeps_same_next_token [] rest zs h = h
common_front_keeps_same_next_token (t ∷ front) rest zs h = refl

pub same_next_token_passes_same_tests : (test : TokenWithBytes → Bool) (ts us : List TokenWithBytes) → HaveSameNextToken ts us → is_next_token test ts ≡ is_next_token test us
same_next_token_passes_same_tests test [] [] h = refl
same_next_token_passes_same_tests test [] (u ∷ us) h = absurd h
same_next_token_passes_same_tests test (t ∷ ts) [] h = absurd h
same_next_token_passes_same_tests test (t ∷ ts) (u ∷ us) h = ap test h

-- ---- another rule for the same

pub outcome_follows_equivalent_rule : {X : Type 0} (read : TokenReader X) (Is So : GrammarRule X) (on wide : TokenWithBytes → Bool) (ts : List TokenWithBytes) (o : ReadOutcome X)
    → ((ts : List TokenWithBytes) (x : X) (rest : List TokenWithBytes) → Is ts x rest → So ts x rest) → ((zs : List TokenWithBytes) → NextTokenFailsTest wide zs → NextTokenFailsTest on zs)
    → OutcomeFollowsRule read Is on ts o → OutcomeFollowsRule read So wide ts o
outcome_follows_equivalent_rule read Is So on wide ts (Read x rest) to less h = record { taken = h.taken; split = h.split; now = to _ _ _ h.now; is = λ zs st. to _ _ _ (h.is zs (less zs st)); local = h.local }
outcome_follows_equivalent_rule read Is So on wide ts (Halt rest) to less h = record { front = h.front; split = h.split; legal = record { more = h.legal.more; what = h.legal.what; is = λ zs st. to _ _ _ (h.legal.is zs (less zs st)) }; local = h.local }

-- The same reader by another rule that says the same, and where more may go on with it.
pub reader_follows_equivalent_rule : {X : Type 0} (read : TokenReader X) (Is So : GrammarRule X) (on wide : TokenWithBytes → Bool)
    → ((ts : List TokenWithBytes) (x : X) (rest : List TokenWithBytes) → Is ts x rest → So ts x rest) → ((ts : List TokenWithBytes) (x : X) (rest : List TokenWithBytes) → So ts x rest → Is ts x rest)
    → ((zs : List TokenWithBytes) → NextTokenFailsTest wide zs → NextTokenFailsTest on zs) → ReaderFollowsRule read Is on → ReaderFollowsRule read So wide
reader_follows_equivalent_rule read Is So on wide to back less h = record {
  some = record { more = h.some.more; what = h.some.what; is = λ zs st. to _ _ _ (h.some.is zs (less zs st)) };
  tells = λ ts. outcome_follows_equivalent_rule read Is So on wide ts (read ts) to less (h.tells ts);
  complete = λ ts x rest is st. h.complete ts x rest (back ts x rest is) (less rest st);
}

-- ---- nothing

abbrev pub IsEmptyReadingOf : {X : Type 0} → X → GrammarRule X
IsEmptyReadingOf x ts y rest = (ts ≡ rest) × (y ≡ x)

abbrev pub is_token_of_empty_test : TokenWithBytes → Bool
is_token_of_empty_test t = false

pub next_token_fails_empty_test : (zs : List TokenWithBytes) → NextTokenFailsTest is_token_of_empty_test zs
next_token_fails_empty_test [] = refl
next_token_fails_empty_test (z ∷ zs) = refl

pub equal_parts_are_equal_read_outcomes : {X : Type 0} (x y : X) (ts rest : List TokenWithBytes) → x ≡ y → ts ≡ rest → Read x ts ≡ Read y rest
equal_parts_are_equal_read_outcomes x y ts rest e f = cc

pub pure_reader_follows_rule : {X : Type 0} (x : X) → ReaderFollowsRule (pure x) (IsEmptyReadingOf x) is_token_of_empty_test
pure_reader_follows_rule x = record {
  some = record { more = []; what = x; is = λ zs st. (refl, refl) };
  tells = λ ts. record { taken = []; split = refl; now = (refl, refl); is = λ zs st. (refl, refl); local = λ zs al. refl };
  complete = λ ts y rest is st. equal_parts_are_equal_read_outcomes x y ts rest (sym is.1) is.0;
}

-- ---- one token

abbrev pub IsOneTokenWithMeaning : {X : Type 0} → (TokenWithBytes → Option X) → GrammarRule X
IsOneTokenWithMeaning says ts x rest = (t : TokenWithBytes) × (ts ≡ t ∷ rest) × (says t ≡ Some x)

pub token_with_meaning_is_read : {X : Type 0} (says : TokenWithBytes → Option X) (t : TokenWithBytes) (ts : List TokenWithBytes) (x : X) → says t ≡ Some x → one_token_reader says (t ∷ ts) ≡ Read x ts
token_with_meaning_is_read says t ts x e = ap (λ o. outcome_of_token_meaning o t ts) e

pub token_without_meaning_is_halted_at : {X : Type 0} (says : TokenWithBytes → Option X) (t : TokenWithBytes) (ts : List TokenWithBytes) → says t ≡ None → one_token_reader says (t ∷ ts) ≡ Halt (t ∷ ts)
token_without_meaning_is_halted_at says t ts e = ap (λ o. outcome_of_token_meaning o t ts) e

same_next_token_is_halted_at_too : {X : Type 0} (says : TokenWithBytes → Option X) (t : TokenWithBytes) (ts zs : List TokenWithBytes) → says t ≡ None → HaveSameNextToken (t ∷ ts) zs → one_token_reader says zs ≡ Halt zs
same_next_token_is_halted_at_too says t ts [] e al = absurd al
same_next_token_is_halted_at_too says t ts (z ∷ zs) e al = token_without_meaning_is_halted_at says z zs (ap says (sym al) ∙ e)

one_token_reader_halts_on_no_tokens : {X : Type 0} (says : TokenWithBytes → Option X) (zs : List TokenWithBytes) → HaveSameNextToken [] zs → one_token_reader says zs ≡ Halt zs
one_token_reader_halts_on_no_tokens says [] al = refl
one_token_reader_halts_on_no_tokens says (z ∷ zs) al = absurd al

-- a token that says something
pub record HasSampleToken {X : Type 0} (says : TokenWithBytes → Option X) : Type 0 where
  pub piece : TokenWithBytes
  pub what : X
  pub is : says piece ≡ Some what

sample_token_completes_rule : {X : Type 0} (says : TokenWithBytes → Option X) → HasSampleToken says → CanBeCompletedByRule (IsOneTokenWithMeaning says) is_token_of_empty_test []
sample_token_completes_rule says s = record { more = s.piece ∷ []; what = s.what; is = λ zs st. (s.piece, refl, s.is) }

one_token_outcome_by_meaning_follows_rule : {X : Type 0} (says : TokenWithBytes → Option X) → HasSampleToken says → (t : TokenWithBytes) (ts : List TokenWithBytes) (o : Option X) → says t ≡ o → OutcomeFollowsRule (one_token_reader says) (IsOneTokenWithMeaning says) is_token_of_empty_test (t ∷ ts) (one_token_reader says (t ∷ ts))
one_token_outcome_by_meaning_follows_rule says s t ts (Some x) e = subst (OutcomeFollowsRule (one_token_reader says) (IsOneTokenWithMeaning says) is_token_of_empty_test (t ∷ ts)) (sym (token_with_meaning_is_read says t ts x e))
    (record { taken = t ∷ []; split = refl; now = (t, refl, e); is = λ zs st. (t, refl, e); local = λ zs al. token_with_meaning_is_read says t zs x e })
one_token_outcome_by_meaning_follows_rule says s t ts None e = subst (OutcomeFollowsRule (one_token_reader says) (IsOneTokenWithMeaning says) is_token_of_empty_test (t ∷ ts)) (sym (token_without_meaning_is_halted_at says t ts e))
    (record { front = []; split = refl; legal = sample_token_completes_rule says s; local = λ zs al. same_next_token_is_halted_at_too says t ts zs e al })

one_token_outcome_follows_rule : {X : Type 0} (says : TokenWithBytes → Option X) → HasSampleToken says → (ts : List TokenWithBytes) → OutcomeFollowsRule (one_token_reader says) (IsOneTokenWithMeaning says) is_token_of_empty_test ts (one_token_reader says ts)
one_token_outcome_follows_rule says s [] = record { front = []; split = refl; legal = sample_token_completes_rule says s; local = λ zs al. one_token_reader_halts_on_no_tokens says zs al }
one_token_outcome_follows_rule says s (t ∷ ts) = one_token_outcome_by_meaning_follows_rule says s t ts (says t) refl

pub one_token_reader_follows_rule : {X : Type 0} (says : TokenWithBytes → Option X) → HasSampleToken says → ReaderFollowsRule (one_token_reader says) (IsOneTokenWithMeaning says) is_token_of_empty_test
one_token_reader_follows_rule says s = record {
  some = sample_token_completes_rule says s;
  tells = one_token_outcome_follows_rule says s;
  complete = λ ts x rest is st. ap (one_token_reader says) is.1 ∙ token_with_meaning_is_read says is.0 rest x is.2;
}

-- ---- such a token

abbrev pub IsOnePassingToken : (TokenWithBytes → Bool) → GrammarRule TokenWithBytes
IsOnePassingToken test ts t rest = (ts ≡ t ∷ rest) × (test t ≡ true)

passing_token_means_itself : (test : TokenWithBytes → Bool) (t : TokenWithBytes) → test t ≡ true → token_if_it_passes test t ≡ Some t
passing_token_means_itself test t e = rw e refl

some_under_test_is_value_and_true : (t u : TokenWithBytes) (b : Bool) → (if b then Some t else None) ≡ Some u → (t ≡ u) × (b ≡ true)
some_under_test_is_value_and_true t u true e = (same_Some t u e, refl)
some_under_test_is_value_and_true t u false e = absurd cc

token_meaning_itself_is_passing_token : (test : TokenWithBytes → Bool) (ts : List TokenWithBytes) (t : TokenWithBytes) (rest : List TokenWithBytes) → IsOneTokenWithMeaning (token_if_it_passes test) ts t rest → IsOnePassingToken test ts t rest
token_meaning_itself_is_passing_token test ts t rest (u, split, e) =
    let f = some_under_test_is_value_and_true u t (test u) e in
    (split ∙ ap (λ (x : TokenWithBytes). x ∷ rest) f.0, ap test (sym f.0) ∙ f.1)

pub passing_token_is_read : (test : TokenWithBytes → Bool) (t : TokenWithBytes) (ts : List TokenWithBytes) → test t ≡ true → passing_token_reader test (t ∷ ts) ≡ Read t ts
passing_token_is_read test t ts e = token_with_meaning_is_read (token_if_it_passes test) t ts t (passing_token_means_itself test t e)

pub passing_token_reader_follows_rule : (test : TokenWithBytes → Bool) (sample : TokenWithBytes) → test sample ≡ true → ReaderFollowsRule (passing_token_reader test) (IsOnePassingToken test) is_token_of_empty_test
passing_token_reader_follows_rule test sample ok = reader_follows_equivalent_rule (passing_token_reader test) (IsOneTokenWithMeaning (token_if_it_passes test)) (IsOnePassingToken test) is_token_of_empty_test is_token_of_empty_test (token_meaning_itself_is_passing_token test) (λ ts t rest h. (t, h.0, passing_token_means_itself test t h.1)) (λ zs st. st)
    (one_token_reader_follows_rule (token_if_it_passes test) (record { piece = sample; what = sample; is = passing_token_means_itself test sample ok }))

-- ---- one after another

abbrev pub IsSequenceOfRules : {X Y : Type 0} → GrammarRule X → (X → GrammarRule Y) → GrammarRule Y
IsSequenceOfRules {X} IsP IsF ts y rest = (x : X) × (mid : List TokenWithBytes) × IsP ts x mid × IsF x mid y rest

-- Where the second comes the first does not go on.
abbrev pub EndsBeforeNextRule : {X Y : Type 0} → (TokenWithBytes → Bool) → (X → GrammarRule Y) → (TokenWithBytes → Bool) → Type 0
EndsBeforeNextRule {X} {Y} onp IsF on = (x : X) (mid : List TokenWithBytes) (y : Y) (rest : List TokenWithBytes) → IsF x mid y rest → NextTokenFailsTest on rest → NextTokenFailsTest onp mid

outcome_after_read_follows_sequence : {X Y : Type 0} (p : TokenReader X) (f : X → TokenReader Y) (IsP : GrammarRule X) (IsF : X → GrammarRule Y) (onp on : TokenWithBytes → Bool) → EndsBeforeNextRule onp IsF on
    → (ts : List TokenWithBytes) (x : X) (rest : List TokenWithBytes) → IsReadByRule p IsP onp ts x rest
    → (o : ReadOutcome Y) → OutcomeFollowsRule (f x) (IsF x) on rest o → OutcomeFollowsRule (p >>= f) (IsSequenceOfRules IsP IsF) on ts o
outcome_after_read_follows_sequence p f IsP IsF onp on apart ts x rest t (Read y end) u = record {
  taken = t.taken ++ u.taken;
  split = t.split ∙ ap (λ (l : List TokenWithBytes). t.taken ++ l) u.split ∙ sym (append_assoc t.taken u.taken end);
  now = (x, rest, t.now, u.now);
  is = λ zs st. subst (λ (l : List TokenWithBytes). IsSequenceOfRules IsP IsF l y zs) (sym (append_assoc t.taken u.taken zs)) (x, u.taken ++ zs, t.is (u.taken ++ zs) (apart x (u.taken ++ zs) y zs (u.is zs st) st), u.is zs st);
  local = λ zs al. ap (p >>= f) (append_assoc t.taken u.taken zs)
      ∙ ap (λ o. outcome_continued_with o f) (t.local (u.taken ++ zs) (subst (λ (l : List TokenWithBytes). HaveSameNextToken l (u.taken ++ zs)) (sym u.split) (common_front_keeps_same_next_token u.taken end zs al)))
      ∙ u.local zs al;
}
outcome_after_read_follows_sequence p f IsP IsF onp on apart ts x rest t (Halt end) u = record {
  front = t.taken ++ u.front;
  split = t.split ∙ ap (λ (l : List TokenWithBytes). t.taken ++ l) u.split ∙ sym (append_assoc t.taken u.front end);
  legal = record {
    more = u.legal.more;
    what = u.legal.what;
    is = λ zs st.
        let q = u.legal.is zs st in
        let behind : List TokenWithBytes = u.front ++ (u.legal.more ++ zs) in
        subst (λ (l : List TokenWithBytes). IsSequenceOfRules IsP IsF l u.legal.what zs) (sym (append_assoc t.taken u.front (u.legal.more ++ zs))) (x, behind, t.is behind (apart x behind u.legal.what zs q st), q);
  };
  local = λ zs al. ap (p >>= f) (append_assoc t.taken u.front zs)
      ∙ ap (λ o. outcome_continued_with o f) (t.local (u.front ++ zs) (subst (λ (l : List TokenWithBytes). HaveSameNextToken l (u.front ++ zs)) (sym u.split) (common_front_keeps_same_next_token u.front end zs al)))
      ∙ u.local zs al;
}

-- what completes the second behind what completes the first
completed_first_rule_completes_sequence : {X Y : Type 0} (IsP : GrammarRule X) (IsF : X → GrammarRule Y) (onp on : TokenWithBytes → Bool) → EndsBeforeNextRule onp IsF on → ((x : X) → CanBeCompletedByRule (IsF x) on [])
    → (front : List TokenWithBytes) → CanBeCompletedByRule IsP onp front → CanBeCompletedByRule (IsSequenceOfRules IsP IsF) on front
completed_first_rule_completes_sequence IsP IsF onp on apart some front h = record {
  more = h.more ++ (some h.what).more;
  what = (some h.what).what;
  is = λ zs st.
      let s = some h.what in
      let q = s.is zs st in
      let behind : List TokenWithBytes = s.more ++ zs in
      subst (λ (l : List TokenWithBytes). IsSequenceOfRules IsP IsF (front ++ l) s.what zs) (sym (append_assoc h.more s.more zs)) (h.what, behind, h.is behind (apart h.what behind s.what zs q st), q);
}

pub sequence_outcome_follows_rule : {X Y : Type 0} (p : TokenReader X) (f : X → TokenReader Y) (IsP : GrammarRule X) (IsF : X → GrammarRule Y) (onp on : TokenWithBytes → Bool) → EndsBeforeNextRule onp IsF on → ((x : X) → CanBeCompletedByRule (IsF x) on [])
    → (ts : List TokenWithBytes) (o : ReadOutcome X) → OutcomeFollowsRule p IsP onp ts o → ((x : X) (rest : List TokenWithBytes) → o ≡ Read x rest → OutcomeFollowsRule (f x) (IsF x) on rest (f x rest)) → OutcomeFollowsRule (p >>= f) (IsSequenceOfRules IsP IsF) on ts (outcome_continued_with o f)
sequence_outcome_follows_rule p f IsP IsF onp on apart some ts (Read x rest) t later = outcome_after_read_follows_sequence p f IsP IsF onp on apart ts x rest t (f x rest) (later x rest refl)
sequence_outcome_follows_rule p f IsP IsF onp on apart some ts (Halt rest) h later = record {
  front = h.front;
  split = h.split;
  legal = completed_first_rule_completes_sequence IsP IsF onp on apart some h.front h.legal;
  local = λ zs al. ap (λ o. outcome_continued_with o f) (h.local zs al);
}

pub sequence_of_rules_is_read : {X Y : Type 0} (p : TokenReader X) (f : X → TokenReader Y) (IsP : GrammarRule X) (IsF : X → GrammarRule Y) (onp on : TokenWithBytes → Bool) → EndsBeforeNextRule onp IsF on
    → ((ts : List TokenWithBytes) (x : X) (rest : List TokenWithBytes) → IsP ts x rest → NextTokenFailsTest onp rest → p ts ≡ Read x rest)
    → (ts : List TokenWithBytes) (y : Y) (rest : List TokenWithBytes) (h : IsSequenceOfRules IsP IsF ts y rest) → NextTokenFailsTest on rest → f h.0 h.1 ≡ Read y rest
    → (p >>= f) ts ≡ Read y rest
sequence_of_rules_is_read p f IsP IsF onp on apart complete ts y rest (x, mid, is, so) st e = ap (λ o. outcome_continued_with o f) (complete ts x mid is (apart x mid y rest so st)) ∙ e

pub sequence_reader_follows_rule : {X Y : Type 0} (p : TokenReader X) (f : X → TokenReader Y) (IsP : GrammarRule X) (IsF : X → GrammarRule Y) (onp on : TokenWithBytes → Bool) → EndsBeforeNextRule onp IsF on
    → ReaderFollowsRule p IsP onp → ((x : X) → ReaderFollowsRule (f x) (IsF x) on) → ReaderFollowsRule (p >>= f) (IsSequenceOfRules IsP IsF) on
sequence_reader_follows_rule p f IsP IsF onp on apart h g = record {
  some = completed_first_rule_completes_sequence IsP IsF onp on apart (λ x. (g x).some) [] h.some;
  tells = λ ts. sequence_outcome_follows_rule p f IsP IsF onp on apart (λ x. (g x).some) ts (p ts) (h.tells ts) (λ x rest e. (g x).tells rest);
  complete = λ ts y rest is st. sequence_of_rules_is_read p f IsP IsF onp on apart h.complete ts y rest is st ((g is.0).complete is.1 y rest is.3 st);
}

-- ---- one of two

abbrev pub IsEitherOfRules : {X : Type 0} → GrammarRule X → GrammarRule X → GrammarRule X
IsEitherOfRules IsA IsB ts x rest = IsA ts x rest ⊎ IsB ts x rest

-- It begins with such a piece.
abbrev pub BeginsWithPassingToken : {X : Type 0} → (TokenWithBytes → Bool) → GrammarRule X → Type 0
BeginsWithPassingToken {X} test Is = (ts : List TokenWithBytes) (x : X) (rest : List TokenWithBytes) → Is ts x rest → is_next_token test ts ≡ true

-- It does not, unless what follows does.
abbrev pub BeginsWithFailingToken : {X : Type 0} → (TokenWithBytes → Bool) → GrammarRule X → (TokenWithBytes → Bool) → Type 0
BeginsWithFailingToken {X} test Is on = (ts : List TokenWithBytes) (x : X) (rest : List TokenWithBytes) → Is ts x rest → NextTokenFailsTest on rest → is_next_token test ts ≡ false

pub passing_token_chooses_first_reader : {X : Type 0} (test : TokenWithBytes → Bool) (a b : TokenReader X) (ts : List TokenWithBytes) → is_next_token test ts ≡ true → reader_chosen_by_next_token test a b ts ≡ a ts
passing_token_chooses_first_reader test a b ts e = rw e refl

pub failing_token_chooses_second_reader : {X : Type 0} (test : TokenWithBytes → Bool) (a b : TokenReader X) (ts : List TokenWithBytes) → is_next_token test ts ≡ false → reader_chosen_by_next_token test a b ts ≡ b ts
failing_token_chooses_second_reader test a b ts e = rw e refl

-- where one of the two reads alike
abbrev ReadersAgreeWhereNextTokenIs : {X : Type 0} → (TokenWithBytes → Bool) → Bool → TokenReader X → TokenReader X → Type 0
ReadersAgreeWhereNextTokenIs test b r a = (ts : List TokenWithBytes) → is_next_token test ts ≡ b → r ts ≡ a ts

same_rest_keeps_next_token_test : (test : TokenWithBytes → Bool) (b : Bool) (ts front rest zs : List TokenWithBytes) → is_next_token test ts ≡ b → ts ≡ front ++ rest → HaveSameNextToken rest zs → is_next_token test (front ++ zs) ≡ b
same_rest_keeps_next_token_test test b ts front rest zs e split al = sym (same_next_token_passes_same_tests test (front ++ rest) (front ++ zs) (common_front_keeps_same_next_token front rest zs al)) ∙ ap (is_next_token test) (sym split) ∙ e

outcome_follows_rule_where_readers_agree : {X : Type 0} (test : TokenWithBytes → Bool) (b : Bool) (r a : TokenReader X) (IsA So : GrammarRule X) (on : TokenWithBytes → Bool) → ReadersAgreeWhereNextTokenIs test b r a
    → ((ts : List TokenWithBytes) (x : X) (rest : List TokenWithBytes) → IsA ts x rest → So ts x rest)
    → (ts : List TokenWithBytes) → is_next_token test ts ≡ b → (o : ReadOutcome X) → OutcomeFollowsRule a IsA on ts o → OutcomeFollowsRule r So on ts o
outcome_follows_rule_where_readers_agree test b r a IsA So on same to ts e (Read x rest) h = record { taken = h.taken; split = h.split; now = to _ _ _ h.now; is = λ zs st. to _ _ _ (h.is zs st); local = λ zs al. same (h.taken ++ zs) (same_rest_keeps_next_token_test test b ts h.taken rest zs e h.split al) ∙ h.local zs al }
outcome_follows_rule_where_readers_agree test b r a IsA So on same to ts e (Halt rest) h = record { front = h.front; split = h.split; legal = record { more = h.legal.more; what = h.legal.what; is = λ zs st. to _ _ _ (h.legal.is zs st) }; local = λ zs al. same (h.front ++ zs) (same_rest_keeps_next_token_test test b ts h.front rest zs e h.split al) ∙ h.local zs al }

pub choice_outcome_follows_either_rule : {X : Type 0} (test : TokenWithBytes → Bool) (a b : TokenReader X) (IsA IsB : GrammarRule X) (on : TokenWithBytes → Bool)
    → (ts : List TokenWithBytes) (c : Bool) → is_next_token test ts ≡ c → (c ≡ true → OutcomeFollowsRule a IsA on ts (a ts)) → (c ≡ false → OutcomeFollowsRule b IsB on ts (b ts))
    → OutcomeFollowsRule (reader_chosen_by_next_token test a b) (IsEitherOfRules IsA IsB) on ts (reader_chosen_by_next_token test a b ts)
choice_outcome_follows_either_rule test a b IsA IsB on ts true e f g = subst (OutcomeFollowsRule (reader_chosen_by_next_token test a b) (IsEitherOfRules IsA IsB) on ts) (sym (passing_token_chooses_first_reader test a b ts e)) (outcome_follows_rule_where_readers_agree test true (reader_chosen_by_next_token test a b) a IsA (IsEitherOfRules IsA IsB) on (passing_token_chooses_first_reader test a b) (λ l x r h. inl h) ts e (a ts) (f refl))
choice_outcome_follows_either_rule test a b IsA IsB on ts false e f g = subst (OutcomeFollowsRule (reader_chosen_by_next_token test a b) (IsEitherOfRules IsA IsB) on ts) (sym (failing_token_chooses_second_reader test a b ts e)) (outcome_follows_rule_where_readers_agree test false (reader_chosen_by_next_token test a b) b IsB (IsEitherOfRules IsA IsB) on (failing_token_chooses_second_reader test a b) (λ l x r h. inr h) ts e (b ts) (g refl))

pub either_rule_is_read_by_choice : {X : Type 0} (test : TokenWithBytes → Bool) (a b : TokenReader X) (IsA IsB : GrammarRule X) (on : TokenWithBytes → Bool) → BeginsWithPassingToken test IsA → BeginsWithFailingToken test IsB on
    → (ts : List TokenWithBytes) (x : X) (rest : List TokenWithBytes) → NextTokenFailsTest on rest → (IsA ts x rest → a ts ≡ Read x rest) → (IsB ts x rest → b ts ≡ Read x rest)
    → IsEitherOfRules IsA IsB ts x rest → reader_chosen_by_next_token test a b ts ≡ Read x rest
either_rule_is_read_by_choice test a b IsA IsB on begins not ts x rest st f g (inl is) = passing_token_chooses_first_reader test a b ts (begins ts x rest is) ∙ f is
either_rule_is_read_by_choice test a b IsA IsB on begins not ts x rest st f g (inr is) = failing_token_chooses_second_reader test a b ts (not ts x rest is st) ∙ g is

pub choice_reader_follows_either_rule : {X : Type 0} (test : TokenWithBytes → Bool) (a b : TokenReader X) (IsA IsB : GrammarRule X) (on : TokenWithBytes → Bool) → BeginsWithPassingToken test IsA → BeginsWithFailingToken test IsB on
    → ReaderFollowsRule a IsA on → ReaderFollowsRule b IsB on → ReaderFollowsRule (reader_chosen_by_next_token test a b) (IsEitherOfRules IsA IsB) on
choice_reader_follows_either_rule test a b IsA IsB on begins not h g = record {
  some = record { more = h.some.more; what = h.some.what; is = λ zs st. inl (h.some.is zs st) };
  tells = λ ts. choice_outcome_follows_either_rule test a b IsA IsB on ts (is_next_token test ts) refl (λ e. h.tells ts) (λ e. g.tells ts);
  complete = λ ts x rest is st. either_rule_is_read_by_choice test a b IsA IsB on begins not ts x rest st (λ i. h.complete ts x rest i st) (λ i. g.complete ts x rest i st) is;
}

-- ---- where it begins

abbrev pub IsRuleWithStart : {X Y : Type 0} → GrammarRule X → (ℕ → X → Y) → GrammarRule Y
IsRuleWithStart {X} Is make ts y rest = (x : X) × Is ts x rest × (y ≡ make (start_of_first_token ts) x)

-- It takes a token or more.
abbrev pub NeverTakesNoTokens : {X : Type 0} → GrammarRule X → Type 0
NeverTakesNoTokens {X} Is = (x : X) → Is [] x [] → ⊥

reader_with_start_reads_as_reader : {X Y : Type 0} (p : TokenReader X) (make : ℕ → X → Y) (ts : List TokenWithBytes) (x : X) (rest : List TokenWithBytes) → p ts ≡ Read x rest → reader_with_start p make ts ≡ Read (make (start_of_first_token ts) x) rest
reader_with_start_reads_as_reader p make ts x rest e = ap (λ o. outcome_continued_with o (λ y. pure (make (start_of_first_token ts) y))) e

reader_with_start_halts_as_reader : {X Y : Type 0} (p : TokenReader X) (make : ℕ → X → Y) (ts rest : List TokenWithBytes) → p ts ≡ Halt rest → reader_with_start p make ts ≡ Halt rest
reader_with_start_halts_as_reader p make ts rest e = ap (λ o. outcome_continued_with o (λ y. pure (make (start_of_first_token ts) y))) e

-- What stands behind changes nothing of where it begins.
rule_with_start_holds_before_any_rest : {X Y : Type 0} (Is : GrammarRule X) (make : ℕ → X → Y) (on : TokenWithBytes → Bool) → NeverTakesNoTokens Is → (front : List TokenWithBytes) (x : X)
    → ((zs : List TokenWithBytes) → NextTokenFailsTest on zs → Is (front ++ zs) x zs) → (zs : List TokenWithBytes) → NextTokenFailsTest on zs → IsRuleWithStart Is make (front ++ zs) (make (start_of_first_token front) x) zs
rule_with_start_holds_before_any_rest Is make on full [] x is zs st = absurd (full x (is [] refl))
rule_with_start_holds_before_any_rest Is make on full (t ∷ front) x is zs st = (x, is zs st, refl)

completed_rule_completes_rule_with_start : {X Y : Type 0} (Is : GrammarRule X) (make : ℕ → X → Y) (on : TokenWithBytes → Bool) → NeverTakesNoTokens Is → (front : List TokenWithBytes) → CanBeCompletedByRule Is on front → CanBeCompletedByRule (IsRuleWithStart Is make) on front
completed_rule_completes_rule_with_start Is make on full front h = record {
  more = h.more;
  what = make (start_of_first_token (front ++ h.more)) h.what;
  is = λ zs st. subst (λ (l : List TokenWithBytes). IsRuleWithStart Is make l (make (start_of_first_token (front ++ h.more)) h.what) zs) (append_assoc front h.more zs)
      (rule_with_start_holds_before_any_rest Is make on full (front ++ h.more) h.what (λ us su. subst (λ (l : List TokenWithBytes). Is l h.what us) (sym (append_assoc front h.more us)) (h.is us su)) zs st);
}

start_is_that_of_front : {X : Type 0} (Is : GrammarRule X) (on : TokenWithBytes → Bool) → NeverTakesNoTokens Is → (front rest : List TokenWithBytes) (x : X) → ((zs : List TokenWithBytes) → NextTokenFailsTest on zs → Is (front ++ zs) x zs) → start_of_first_token (front ++ rest) ≡ start_of_first_token front
start_is_that_of_front Is on full [] rest x is = absurd (full x (is [] refl))
start_is_that_of_front Is on full (t ∷ front) rest x is = refl

outcome_with_start_follows_rule : {X Y : Type 0} (p : TokenReader X) (Is : GrammarRule X) (make : ℕ → X → Y) (on : TokenWithBytes → Bool) → NeverTakesNoTokens Is → (ts : List TokenWithBytes) (o : ReadOutcome X) → OutcomeFollowsRule p Is on ts o
    → OutcomeFollowsRule (reader_with_start p make) (IsRuleWithStart Is make) on ts (outcome_continued_with o (λ x. pure (make (start_of_first_token ts) x)))
outcome_with_start_follows_rule p Is make on full ts (Read x rest) h =
    let kept = ap (λ (n : ℕ). make n x) (ap start_of_first_token h.split ∙ start_is_that_of_front Is on full h.taken rest x h.is) in
    record {
      taken = h.taken;
      split = h.split;
      now = (x, h.now, refl);
      is = λ zs st. subst (λ y. IsRuleWithStart Is make (h.taken ++ zs) y zs) (sym kept) (rule_with_start_holds_before_any_rest Is make on full h.taken x h.is zs st);
      local = λ zs al. reader_with_start_reads_as_reader p make (h.taken ++ zs) x zs (h.local zs al)
          ∙ ap (λ (n : ℕ). Read (make n x) zs) (start_is_that_of_front Is on full h.taken zs x h.is ∙ sym (start_is_that_of_front Is on full h.taken rest x h.is) ∙ ap start_of_first_token (sym h.split));
    }
outcome_with_start_follows_rule p Is make on full ts (Halt rest) h = record {
  front = h.front;
  split = h.split;
  legal = completed_rule_completes_rule_with_start Is make on full h.front h.legal;
  local = λ zs al. reader_with_start_halts_as_reader p make (h.front ++ zs) zs (h.local zs al);
}

pub reader_with_start_follows_rule : {X Y : Type 0} (p : TokenReader X) (Is : GrammarRule X) (make : ℕ → X → Y) (on : TokenWithBytes → Bool) → NeverTakesNoTokens Is → ReaderFollowsRule p Is on → ReaderFollowsRule (reader_with_start p make) (IsRuleWithStart Is make) on
reader_with_start_follows_rule p Is make on full h = record {
  some = completed_rule_completes_rule_with_start Is make on full [] h.some;
  tells = λ ts. outcome_with_start_follows_rule p Is make on full ts (p ts) (h.tells ts);
  complete = λ ts y rest is st. reader_with_start_reads_as_reader p make ts is.0 rest (h.complete ts is.0 rest is.1 st) ∙ ap (λ z. Read z rest) (sym is.2);
}

-- ---- the end of the line

abbrev pub is_token_of_full_test : TokenWithBytes → Bool
is_token_of_full_test t = true

pub tokens_failing_full_test_are_empty : (zs : List TokenWithBytes) → NextTokenFailsTest is_token_of_full_test zs → zs ≡ []
tokens_failing_full_test_are_empty [] st = refl
tokens_failing_full_test_are_empty (z ∷ zs) st = absurd cc

abbrev pub IsEndOfTokensAs : {X : Type 0} → X → GrammarRule X
IsEndOfTokensAs x ts y rest = (ts ≡ []) × (rest ≡ []) × (y ≡ x)

end_of_line_reader_halts_at_token : {X : Type 0} (x : X) (t : TokenWithBytes) (ts zs : List TokenWithBytes) → HaveSameNextToken (t ∷ ts) zs → end_of_line_reader x zs ≡ Halt zs
end_of_line_reader_halts_at_token x t ts [] al = absurd al
end_of_line_reader_halts_at_token x t ts (z ∷ zs) al = refl

end_of_line_reader_reads_at_end : {X : Type 0} (x : X) (zs : List TokenWithBytes) → HaveSameNextToken [] zs → end_of_line_reader x zs ≡ Read x zs
end_of_line_reader_reads_at_end x [] al = refl
end_of_line_reader_reads_at_end x (z ∷ zs) al = absurd al

end_of_tokens_can_be_completed : {X : Type 0} (x : X) → CanBeCompletedByRule (IsEndOfTokensAs x) is_token_of_full_test []
end_of_tokens_can_be_completed x = record { more = []; what = x; is = λ zs st. (tokens_failing_full_test_are_empty zs st, tokens_failing_full_test_are_empty zs st, refl) }

end_of_line_outcome_follows_rule : {X : Type 0} (x : X) (ts : List TokenWithBytes) → OutcomeFollowsRule (end_of_line_reader x) (IsEndOfTokensAs x) is_token_of_full_test ts (end_of_line_reader x ts)
end_of_line_outcome_follows_rule x [] = record { taken = []; split = refl; now = (refl, refl, refl); is = λ zs st. (tokens_failing_full_test_are_empty zs st, tokens_failing_full_test_are_empty zs st, refl); local = λ zs al. end_of_line_reader_reads_at_end x zs al }
end_of_line_outcome_follows_rule x (t ∷ ts) = record { front = []; split = refl; legal = end_of_tokens_can_be_completed x; local = λ zs al. end_of_line_reader_halts_at_token x t ts zs al }

pub end_of_line_reader_follows_rule : {X : Type 0} (x : X) → ReaderFollowsRule (end_of_line_reader x) (IsEndOfTokensAs x) is_token_of_full_test
end_of_line_reader_follows_rule x = record {
  some = end_of_tokens_can_be_completed x;
  tells = end_of_line_outcome_follows_rule x;
  complete = λ ts y rest is st. ap (end_of_line_reader x) is.0 ∙ ap (λ z. Read z []) (sym is.2) ∙ ap (λ (l : List TokenWithBytes). Read y l) (sym is.1);
}
