-- A line without a backslash before the quotes of its arguments.
use Rattle.std.specs.Prelude.{ℕ, Bool, true, false, not, ◌&&◌, ◌==◌, if◌then◌else◌, List, [], ◌∷◌, ◌++◌, drop, slice_range}
use Rattle.sudoers_text.specs.declared.token.TokenKind.{TokenKind}
use Rattle.sudoers_text.specs.declared.token.TokenKind.TheVariants as kind
use Rattle.sudoers_text.specs.Found.{tokens_of_line}
use Rattle.sudoers_text.specs.LineMode.{line_mode}
use Rattle.sudoers_grammar.specs.Piece.{TokenWithBytes, tokens_with_bytes}

-- What is written for a byte: `"` alone for a pair of a backslash and `"`, and each other byte as it stands. escaped: directly left
-- stands a backslash that begins a pair, and that is not written yet.
abbrev pub bare_bytes : Bool → ℕ → List ℕ
bare_bytes true b = if b == 34 then b ∷ [] else 92 ∷ b ∷ []
bare_bytes false b = if b == 92 then [] else b ∷ []

abbrev pub backslash_if : Bool → List ℕ
backslash_if true = 92 ∷ []
backslash_if false = []

abbrev pub text_with_bare_quotes : Bool → List ℕ → List ℕ
text_with_bare_quotes escaped [] = backslash_if escaped
text_with_bare_quotes escaped (b ∷ rest) = bare_bytes escaped b ++ text_with_bare_quotes (not escaped && b == 92) rest

abbrev pub token_text_with_bare_quotes : TokenKind → List ℕ → List ℕ
token_text_with_bare_quotes kind.Arg text = text_with_bare_quotes false text
token_text_with_bare_quotes k text = text

-- the line from this place on, where these tokens stand
abbrev pub rest_with_bare_quotes : List ℕ → ℕ → List TokenWithBytes → List ℕ
rest_with_bare_quotes line at [] = drop at line
rest_with_bare_quotes line at (t ∷ ts) =
    slice_range line at t.start ++ (token_text_with_bare_quotes t.kind t.text ++ rest_with_bare_quotes line t.stop ts)

abbrev pub line_with_bare_quotes : List ℕ → List ℕ
line_with_bare_quotes line = rest_with_bare_quotes line 0 (tokens_with_bytes line (tokens_of_line (line_mode line) line))
