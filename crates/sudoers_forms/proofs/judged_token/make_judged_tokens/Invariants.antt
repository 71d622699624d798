use Rattle.std.proofs.Common.{◌≡◌, ◌++◌, [], drop, map}
use Rattle.sudoers_text.specs.declared.token.TokenKind.TheVariants as kind
use Rattle.sudoers_grammar.specs.Piece.{token_with_bytes}
use Rattle.sudoers_forms.specs.Seen.{model_of_judged_token}
use Rattle.sudoers_forms.specs.Forms.{placed_tokens}
use Rattle.sudoers_forms.proofs.judged_token.make_judged_tokens.Given as goal

abbrev pub invariant-loop-at : goal.invariant-loop-at
invariant-loop-at l =
    map model_of_judged_token l.judged.items ++ placed_tokens l.place.first l.text l.place.part l.place.second_before.now l.place.kind_before l.place.before.now l.place.start
    (map (token_with_bytes l.text) (drop l.at l.tokens))
    ≡ placed_tokens l.fn.part l.text l.fn.part [] kind.Punct [] 0 (map (token_with_bytes l.text) l.tokens)
