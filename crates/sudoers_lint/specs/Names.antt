-- Names of programs and variables, and the words of a text.
use Rattle.std.specs.Prelude.{ℕ, ◌==◌, ◌&&◌, ◌||◌, not, Bool, List, [], ◌∷◌, codes, map}
use Rattle.std.specs.Borrow.{Bor}
use Rattle.std.specs.List.{filter, list_any, slice_split}
use Rattle.std.specs.Str.{bytes_eq}
use Rattle.sudoers_text.specs.Unit.{is_blank, is_empty}
use Rattle.sudoers_lint.specs.declared.programs.TheConstants.{PROGRAMS}
use Rattle.sudoers_lint.specs.declared.variables.TheConstants.{VARIABLES}

-- the pieces that are not empty
abbrev pub nonempty_pieces : List (List ℕ) → List (List ℕ)
nonempty_pieces pieces = filter (λ (piece : List ℕ). not (is_empty piece)) pieces

-- the words of a value, between blanks
abbrev pub words_of_value : List ℕ → List (List ℕ)
words_of_value value = nonempty_pieces (slice_split is_blank value)

abbrev pub is_blank_or_comma : ℕ → Bool
is_blank_or_comma b = is_blank b || b == 44

-- the words of a comment, between blanks and commas
abbrev pub words_of_comment : List ℕ → List (List ℕ)
words_of_comment text = nonempty_pieces (slice_split is_blank_or_comma text)

-- texts without where they lie in memory
abbrev pub texts_of_view : List (Bor (List ℕ)) → List (List ℕ)
texts_of_view texts = map (λ (text : Bor (List ℕ)). text.now) texts

-- the name of one of these texts
abbrev pub is_among_names : List (Bor (List ℕ)) → List ℕ → Bool
is_among_names names word = list_any (λ (name : Bor (List ℕ)). bytes_eq name.now word) names

-- A program of this name can start any other.
abbrev pub is_way_out_program : List ℕ → Bool
is_way_out_program name = list_any (λ program. bytes_eq program.now name) PROGRAMS

-- `*` alone
abbrev pub is_star : List ℕ → Bool
is_star bytes = bytes_eq bytes (codes "*")

abbrev pub is_end_of_pattern : List ℕ → Bool
is_end_of_pattern bytes = is_empty bytes || is_star bytes

-- Both can name one variable. A `*` at the end stands for any bytes.
abbrev pub can_name_same : List ℕ → List ℕ → Bool
can_name_same [] other = is_end_of_pattern other
can_name_same (b ∷ bs) [] = is_end_of_pattern (b ∷ bs)
can_name_same (b ∷ bs) (c ∷ cs) = is_star (b ∷ bs) || is_star (c ∷ cs) || (b == c && can_name_same bs cs)

abbrev pub can_name_one_of : List (Bor (List ℕ)) → List ℕ → Bool
can_name_one_of patterns word = list_any (λ (pattern : Bor (List ℕ)). can_name_same pattern.now word) patterns

-- The word can name a variable that can change what a command does.
abbrev pub is_risky_variable : List ℕ → Bool
is_risky_variable word = list_any (λ pattern. can_name_same pattern.now word) VARIABLES
