-- A line that is read is respelled to itself.
use Rattle.std.proofs.Common.{◌≡◌, ℕ, ◌-◌, ◌≤◌, true, false, not, List, [], ◌∷◌, ◌++◌, take, drop, refl, sym, ap, subst, ◌∙◌, arith}
use Rattle.std.specs.Prelude.{◌==◌}
use Rattle.std.proofs.lemmas.List.{drop-drop}
use Rattle.sudoers_text.specs.declared.token.Token.{Token}
use Rattle.sudoers_text.specs.declared.context.TokenContext.{TokenContext}
use Rattle.sudoers_text.specs.declared.context.TokenContext.TheVariants as context
use Rattle.sudoers_text.specs.declared.adapting.TokenBefore.{TokenBefore}
use Rattle.sudoers_text.specs.declared.adapting.TokenBefore.TheVariants as before
use Rattle.sudoers_text.specs.declared.adapting.Respelling.{Respelling}
use Rattle.sudoers_text.specs.declared.adapting.Respelling.TheVariants as respelling
use Rattle.sudoers_text.specs.LineMode.{line_mode}
use Rattle.sudoers_text.specs.Context.{context_after_token}
use Rattle.sudoers_text.specs.Token.{AreTokensFrom}
use Rattle.sudoers_text.specs.Adapted.{token_before, respelling_of, prefix_of_respelled, text_of_respelled, context_after_respelled, respelled_token_before, AreRespelledFrom, IsRespelledLine}
use Rattle.sudoers_text.specs.declared.token.Mode.{Mode}
use Rattle.sudoers_grammar.specs.Node.{Node}
use Rattle.sudoers_grammar.specs.Node as node
use Rattle.sudoers_grammar.specs.Piece.{TokenWithBytes, tokens_with_bytes, token_with_bytes}
use Rattle.sudoers_grammar.specs.Grammar.{ReadsNodeWithRest, IsEnd}
use Rattle.sudoers_grammar.specs.Line.{LineReadsAsNode}
use Rattle.laws_dialect.proofs.KeptTokens.{AreKeptBehind}
use Rattle.laws_dialect.proofs.KeptLines.{IsNoSpec, tokens_of_no_spec_are_kept, tokens_of_spec_are_kept}
use Rattle.laws_dialect.proofs.FreeTokens.{AreFreeFrom, strictly_kept_tokens_are_kept, strictly_kept_tokens_are_free}
use Rattle.laws_dialect.proofs.FreeSpecs.{tokens_of_spec_are_free}
use Rattle.laws_dialect.proofs.LineParts.{rest_of_line_is_gap_token_and_rest}
use Rattle.laws_dialect.proofs.SameTokens.{kept_token_stays_same}

kept_tokens_are_respelled_as_they_stand : (ts : List Token) (here : TokenContext) (left : TokenBefore) (line : List ℕ) (at : ℕ) → AreTokensFrom here line at ts
    → AreKeptBehind false left (tokens_with_bytes line ts) → AreFreeFrom here left (tokens_with_bytes line ts) → AreRespelledFrom here left line at ts (drop at line)
kept_tokens_are_respelled_as_they_stand [] here left line at are kept free = (are, refl)
kept_tokens_are_respelled_as_they_stand (t ∷ ts) here left line at are kept free =
    let body = drop t.start line in
    let size = t.stop - t.start in
    let text = take size body in
    let rest = drop size body in
    let apart = not (t.start == at) in
    let below : at ≤ t.start = omega (arith, are.0) in
    let ordered : t.start ≤ t.stop = omega (arith, are.2) in
    let rest_is : rest ≡ drop t.stop line = drop-drop size t.start line ∙ ap (λ (n : ℕ). drop n line) (omega arith) in
    let same : respelling_of here left apart t.kind text rest ≡ respelling.Same =
    kept_token_stays_same here left apart (token_with_bytes line t) line t.stop ts rest rest_is kept.0 free.0 are.4 in
    let later = kept_tokens_are_respelled_as_they_stand ts (context_after_token here t.kind text rest) (token_before t.kind text) line t.stop are.4 kept.1 (free.1 rest) in (
      are.0,
      are.1,
      are.2,
      are.3,
      subst (λ (r : Respelling).
          (later : List ℕ)
          × (drop at line ≡ take (t.start - at) (drop at line) ++ (prefix_of_respelled r left apart ++ (text_of_respelled r text ++ later)))
          × AreRespelledFrom (context_after_respelled r here t.kind text rest) (respelled_token_before r t.kind text) line t.stop ts later)
          (sym same) (drop t.stop line, rest_of_line_is_gap_token_and_rest line at t.start t.stop below ordered, later),
    )

-- What is read keeps its spelling, and is free.
abbrev AreKeptAndFree : Mode → List TokenWithBytes → Type 0
AreKeptAndFree m ts = AreKeptBehind false before.Other ts × AreFreeFrom (context.First m) before.Other ts

tokens_of_no_spec_are_kept_and_free : (m : Mode) (ts : List TokenWithBytes) (n : Node) (rest : List TokenWithBytes) → IsNoSpec n → ReadsNodeWithRest ts n rest → IsEnd rest → AreKeptAndFree m ts
tokens_of_no_spec_are_kept_and_free m ts n rest no_spec is end =
    let kept = tokens_of_no_spec_are_kept true ts n rest no_spec is end before.Other in
    (strictly_kept_tokens_are_kept ts before.Other kept, strictly_kept_tokens_are_free ts (context.First m) before.Other kept)

read_tokens_are_kept_and_free : (m : Mode) (ts : List TokenWithBytes) (n : Node) (rest : List TokenWithBytes) → ReadsNodeWithRest ts n rest → IsEnd rest → AreKeptAndFree m ts
read_tokens_are_kept_and_free m ts (node.Spec us gs) rest is end = (tokens_of_spec_are_kept ts us gs rest is end before.Other, tokens_of_spec_are_free m ts us gs rest is end)
read_tokens_are_kept_and_free m ts node.Blank rest is end = tokens_of_no_spec_are_kept_and_free m ts node.Blank rest tt is end
read_tokens_are_kept_and_free m ts node.Comment rest is end = tokens_of_no_spec_are_kept_and_free m ts node.Comment rest tt is end
read_tokens_are_kept_and_free m ts (node.Include dir path) rest is end = tokens_of_no_spec_are_kept_and_free m ts (node.Include dir path) rest tt is end
read_tokens_are_kept_and_free m ts (node.Defaults s ps) rest is end = tokens_of_no_spec_are_kept_and_free m ts (node.Defaults s ps) rest tt is end
read_tokens_are_kept_and_free m ts (node.Alias k ds) rest is end = tokens_of_no_spec_are_kept_and_free m ts (node.Alias k ds) rest tt is end

pub read_line_is_respelled_to_itself : (line : List ℕ) (says : Node) → LineReadsAsNode line says → IsRespelledLine line line
read_line_is_respelled_to_itself line says is =
    let both = read_tokens_are_kept_and_free (line_mode line) (tokens_with_bytes line is.tokens) says is.reads.0 is.reads.1 is.reads.2 in
    record {
      tokens = is.tokens;
      each = kept_tokens_are_respelled_as_they_stand is.tokens (context.First (line_mode line)) before.Other line 0 is.has both.0 both.1;
    }
