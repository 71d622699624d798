-- The pieces of a line that is written token by token.
use Rattle.laws_print.proofs.Common.{◌≡◌, ℕ, ◌+◌, ◌-◌, List, [], ◌∷◌, ◌++◌, length, take, drop, refl, sym, ap, ◌∙◌, arith, length-append, append_assoc}
use Rattle.laws_print.proofs.Common.{drop_at, take_at, bytes_eq-Decides, TokenWithBytes, tokens_with_bytes, IsMark, WrittenToken, text_of_units, gap_bytes_if_spaced, line_of_written_tokens, tokens_placed_from_offset, AreTokensShownBy}
use Rattle.std.specs.Prelude.{slice_range}
use Rattle.sudoers_text.specs.declared.token.TokenKind.TheVariants as kind
use Rattle.sudoers_grammar.specs.Piece.{is_mark_of_byte}

slice_at_place_of_text_is_it : (line front text rest : List ℕ) (start stop : ℕ) → line ≡ front ++ (text ++ rest) → length front ≡ start → stop ≡ start + length text → slice_range line start stop ≡ text
slice_at_place_of_text_is_it line front text rest start stop whole from to =
    let size : stop - start ≡ length text = omega arith in
    ap (λ (n : ℕ). take n (drop start line)) size
    ∙ ap (take (length text)) (ap (drop start) whole ∙ drop_at front (text ++ rest) start from)
    ∙ take_at text rest (length text) refl

placed_tokens_from_offset_show_written : (ps : List WrittenToken) (line front : List ℕ) (at : ℕ) → at ≡ length front → line ≡ front ++ line_of_written_tokens ps → AreTokensShownBy ps (tokens_with_bytes line (tokens_placed_from_offset at ps))
placed_tokens_from_offset_show_written [] line front at is whole = tt
placed_tokens_from_offset_show_written (p ∷ ps) line front at is whole =
    let g = gap_bytes_if_spaced p.spaced in
    let text = text_of_units p.units in
    let start = at + length g in
    let long : length (front ++ g) ≡ start = omega (arith, length-append front g, is) in
    let here : line ≡ (front ++ g) ++ (text ++ line_of_written_tokens ps) = whole ∙ sym (append_assoc front g (text ++ line_of_written_tokens ps)) in (
      refl,
      slice_at_place_of_text_is_it line (front ++ g) text (line_of_written_tokens ps) start (start + length text) here long refl,
      placed_tokens_from_offset_show_written ps line ((front ++ g) ++ text) (start + length text) (omega (arith, long, length-append (front ++ g) text)) (here ∙ sym (append_assoc (front ++ g) text (line_of_written_tokens ps))),
    )

pub placed_tokens_of_line_show_written : (ps : List WrittenToken) → AreTokensShownBy ps (tokens_with_bytes (line_of_written_tokens ps) (tokens_placed_from_offset 0 ps))
placed_tokens_of_line_show_written ps = placed_tokens_from_offset_show_written ps (line_of_written_tokens ps) [] 0 refl refl

pub punctuation_of_byte_is_its_mark : (b : ℕ) (t : TokenWithBytes) → t.kind ≡ kind.Punct → t.text ≡ b ∷ [] → IsMark b t
unfolding is_mark_of_byte
punctuation_of_byte_is_its_mark b t k text = rw (k, text) ((bytes_eq-Decides (b ∷ []) (b ∷ [])).1 refl)
