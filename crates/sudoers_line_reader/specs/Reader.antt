-- Readers of tokens: what was read and the tokens left, or the tokens before which it halts.
use Rattle.std.specs.Prelude.{◌≡◌, ◌<◌, ℕ, zero, suc, Bool, false, if◌then◌else◌, List, [], ◌∷◌, ◌++◌, length, Option, Some, None}
use Rattle.sudoers_grammar.specs.Piece.{TokenWithBytes, is_mark_of_byte}
use Rattle.sudoers_grammar.specs.Grammar.{start_of_first_token}

pub data ReadOutcome (X : Type 0) : Type 0 where
  Read : X → List TokenWithBytes → ReadOutcome X
  Halt : List TokenWithBytes → ReadOutcome X

abbrev pub TokenReader : Type 0 → Type 0
TokenReader X = List TokenWithBytes → ReadOutcome X

-- Such a token comes.
abbrev pub is_next_token : (TokenWithBytes → Bool) → List TokenWithBytes → Bool
is_next_token test [] = false
is_next_token test (t ∷ ts) = test t

-- ---- what readers are made of

abbrev pub outcome_continued_with : {X Y : Type 0} → ReadOutcome X → (X → TokenReader Y) → ReadOutcome Y
outcome_continued_with (Read x rest) f = f x rest
outcome_continued_with (Halt rest) f = Halt rest

infixl 10 ◌>>=◌
abbrev pub ◌>>=◌ : {X Y : Type 0} → TokenReader X → (X → TokenReader Y) → TokenReader Y
p >>= f = λ ts. outcome_continued_with (p ts) f

-- nothing is taken
abbrev pub pure : {X : Type 0} → X → TokenReader X
pure x = λ ts. Read x ts

-- one token, by what it says
abbrev pub outcome_of_token_meaning : {X : Type 0} → Option X → TokenWithBytes → List TokenWithBytes → ReadOutcome X
outcome_of_token_meaning (Some x) t ts = Read x ts
outcome_of_token_meaning None t ts = Halt (t ∷ ts)

abbrev pub one_token_reader : {X : Type 0} → (TokenWithBytes → Option X) → TokenReader X
one_token_reader says [] = Halt []
one_token_reader says (t ∷ ts) = outcome_of_token_meaning (says t) t ts

-- one such token
abbrev pub token_if_it_passes : (TokenWithBytes → Bool) → TokenWithBytes → Option TokenWithBytes
token_if_it_passes test t = if test t then Some t else None

abbrev pub passing_token_reader : (TokenWithBytes → Bool) → TokenReader TokenWithBytes
passing_token_reader test = one_token_reader (token_if_it_passes test)

-- the first where such a token comes, else the other
abbrev pub reader_chosen_by_next_token : {X : Type 0} → (TokenWithBytes → Bool) → TokenReader X → TokenReader X → TokenReader X
reader_chosen_by_next_token test a b ts = if is_next_token test ts then a ts else b ts

-- p again and again while such a token comes, at most n times
unfoldable pub bounded_repetition_reader : {A X : Type 0} → (A → X → A) → (TokenWithBytes → Bool) → TokenReader X → ℕ → A → TokenReader A
bounded_repetition_reader add begins p zero acc = pure acc
bounded_repetition_reader add begins p (suc n) acc = reader_chosen_by_next_token begins (p >>= (λ x. bounded_repetition_reader add begins p n (add acc x))) (pure acc)

unfoldable pub repetition_reader : {A X : Type 0} → (A → X → A) → (TokenWithBytes → Bool) → TokenReader X → A → TokenReader A
repetition_reader add begins p acc ts = bounded_repetition_reader add begins p (length ts) acc ts

abbrev pub snoc : {X : Type 0} → List X → X → List X
snoc xs x = xs ++ x ∷ []

abbrev pub reader_after_mark : {X : Type 0} → ℕ → TokenReader X → TokenReader X
reader_after_mark b p = passing_token_reader (is_mark_of_byte b) >>= (λ _. p)

-- p, and then the mark and p again and again
abbrev pub separated_list_reader : {X : Type 0} → ℕ → TokenReader X → TokenReader (List X)
separated_list_reader b p = p >>= (λ x. repetition_reader snoc (is_mark_of_byte b) (reader_after_mark b p) (x ∷ []))

-- p, or nothing
abbrev pub optional_reader : {X : Type 0} → (TokenWithBytes → Bool) → TokenReader X → TokenReader (Option X)
optional_reader test p = reader_chosen_by_next_token test (p >>= (λ x. pure (Some x))) (pure None)

-- p, and where it begins
abbrev pub reader_with_start : {X Y : Type 0} → TokenReader X → (ℕ → X → Y) → TokenReader Y
reader_with_start p make = λ ts. outcome_continued_with (p ts) (λ x. pure (make (start_of_first_token ts) x))

-- The line ends here.
abbrev pub end_of_line_reader : {X : Type 0} → X → TokenReader X
end_of_line_reader x [] = Read x []
end_of_line_reader x (t ∷ ts) = Halt (t ∷ ts)

-- For the proof alone: what is read takes a piece or more.
pub record ReaderConsumesTokens {X : Type 0} (p : TokenReader X) : Type 0 where
  pub less : (ts : List TokenWithBytes) (x : X) (rest : List TokenWithBytes) → p ts ≡ Read x rest → length rest < length ts
