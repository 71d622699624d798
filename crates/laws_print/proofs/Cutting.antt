-- A line that is written token by token has these tokens.
use Rattle.laws_print.proofs.Common.{ℕ, true, List, subst, Token, Mode, HasTokens, tokens_of_line, WrittenToken, line_of_written_tokens, tokens_placed_from_offset, Start, AreTokensCut, AreTokensCutFromPlace}
use Rattle.sudoers_text.specs.declared.context.TokenContext.TheVariants as context
use Rattle.laws_print.proofs.Lines.{tokens_cut_from_start_are_placed, tokens_of_cut_line_are_placed}

-- the law of tokens, by which a line has those that are computed
abbrev pub ComputedTokensAreTokensOfLine : Type 0
ComputedTokensAreTokensOfLine = (m : Mode) (line : List ℕ) → HasTokens m line (tokens_of_line m line)

pub line_of_cut_tokens_has_placed_tokens : ComputedTokensAreTokensOfLine → (m : Mode) (ps : List WrittenToken) → AreTokensCut (context.First m) true ps → HasTokens m (line_of_written_tokens ps) (tokens_placed_from_offset 0 ps)
line_of_cut_tokens_has_placed_tokens law m ps cut = subst (λ (ts : List Token). HasTokens m (line_of_written_tokens ps) ts) (tokens_of_cut_line_are_placed m ps cut) (law m (line_of_written_tokens ps))

pub line_cut_from_start_has_placed_tokens : ComputedTokensAreTokensOfLine → (m : Mode) (ps : List WrittenToken) → AreTokensCutFromPlace (context.First m) Start ps → HasTokens m (line_of_written_tokens ps) (tokens_placed_from_offset 0 ps)
line_cut_from_start_has_placed_tokens law m ps cut = subst (λ (ts : List Token). HasTokens m (line_of_written_tokens ps) ts) (tokens_cut_from_start_are_placed m ps cut) (law m (line_of_written_tokens ps))
