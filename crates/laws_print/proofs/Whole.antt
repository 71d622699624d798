-- A line that is written token by token is one logical line, whatever follows it.
use Rattle.laws_print.proofs.Common.{◌==◌, ◌≡◌, ℕ, Bool, true, false, List, [], ◌∷◌, ◌++◌, refl, sym, ap, subst, ◌∙◌, append-nil, not, append_assoc}
use Rattle.laws_print.proofs.Common.{TokenContext, LineUnit, Byte, bytes_of_unit, IsLogicalLineBefore, context_after_token, WrittenToken, text_of_units, gap_bytes_if_spaced, line_of_written_tokens, TokenPlace, At, StandsAtPlace, AllowsGapAtPlace, units_put_onto}
use Rattle.laws_print.proofs.Common.{StandAsUnitsInText, AreTokensCut, AreTokensCutFromPlace, HasNoNul}
use Rattle.sudoers_text.specs.Unit.{bytes_of_reversed_units, AreUnitsBefore}
use Rattle.sudoers_text.specs.Line.{by_lf}
use Rattle.laws_print.proofs.Lines.{cut_tokens_are_cut_from_place}
use Rattle.std.proofs.lemmas.Bool.{and_from}
use Rattle.std.proofs.lemmas.List.Folds.{list_all-append}

bytes_of_units_put_onto_are_appended : (us before : List LineUnit) → bytes_of_reversed_units (units_put_onto us before) ≡ bytes_of_reversed_units before ++ text_of_units us
bytes_of_units_put_onto_are_appended [] before = sym (append-nil (bytes_of_reversed_units before))
bytes_of_units_put_onto_are_appended (u ∷ us) before = bytes_of_units_put_onto_are_appended us (u ∷ before) ∙ append_assoc (bytes_of_reversed_units before) (bytes_of_unit u) (text_of_units us)

standing_units_are_units_before_rest : (us before : List LineUnit) (rest : List ℕ) → StandAsUnitsInText before us rest → AreUnitsBefore before (text_of_units us ++ rest) → AreUnitsBefore (units_put_onto us before) rest
standing_units_are_units_before_rest [] before rest stand are = are
standing_units_are_units_before_rest (u ∷ us) before rest stand are =
    standing_units_are_units_before_rest us (u ∷ before) rest stand.1 (stand.0, subst (AreUnitsBefore before) (append_assoc (bytes_of_unit u) (text_of_units us) rest) are)

-- the blank before a token
abbrev pub units_of_gap : Bool → List LineUnit
units_of_gap true = Byte 32 ∷ []
units_of_gap false = []

text_of_gap_units_is_gap : (s : Bool) → text_of_units (units_of_gap s) ≡ gap_bytes_if_spaced s
text_of_gap_units_is_gap true = refl
text_of_gap_units_is_gap false = refl

gap_units_stand_in_text : (s : Bool) (before : List LineUnit) (rest : List ℕ) → StandAsUnitsInText before (units_of_gap s) rest
gap_units_stand_in_text true before rest = (refl, tt)
gap_units_stand_in_text false before rest = tt

gap_units_keep_place : (s : Bool) (there : TokenPlace) (before : List LineUnit) → AllowsGapAtPlace there s → StandsAtPlace there before → StandsAtPlace there (units_put_onto (units_of_gap s) before)
gap_units_keep_place false there before takes stands = stands
gap_units_keep_place true (At item) before takes stands = stands
gap_units_keep_place true there before takes stands = absurd (cc)

-- the units of all tokens, the last one first, behind others
abbrev pub reversed_units_of_tokens : List WrittenToken → List LineUnit → List LineUnit
reversed_units_of_tokens [] before = before
reversed_units_of_tokens (p ∷ ps) before = reversed_units_of_tokens ps (units_put_onto p.units (units_put_onto (units_of_gap p.spaced) before))

bytes_of_token_units_are_line : (ps : List WrittenToken) (before : List LineUnit) → bytes_of_reversed_units (reversed_units_of_tokens ps before) ++ 10 ∷ [] ≡ bytes_of_reversed_units before ++ line_of_written_tokens ps
bytes_of_token_units_are_line [] before = refl
bytes_of_token_units_are_line (p ∷ ps) before =
    let g = gap_bytes_if_spaced p.spaced in
    let text = text_of_units p.units in
    let middle = units_put_onto (units_of_gap p.spaced) before in
    let blank : bytes_of_reversed_units middle ≡ bytes_of_reversed_units before ++ g = bytes_of_units_put_onto_are_appended (units_of_gap p.spaced) before ∙ ap (λ (t : List ℕ). bytes_of_reversed_units before ++ t) (text_of_gap_units_is_gap p.spaced) in
    bytes_of_token_units_are_line ps (units_put_onto p.units middle)
    ∙ ap (λ (t : List ℕ). t ++ line_of_written_tokens ps) (bytes_of_units_put_onto_are_appended p.units middle ∙ ap (λ (t : List ℕ). t ++ text) blank)
    ∙ append_assoc (bytes_of_reversed_units before ++ g) text (line_of_written_tokens ps)
    ∙ append_assoc (bytes_of_reversed_units before) g (text ++ line_of_written_tokens ps)

cut_tokens_are_units_before_line_end : (ps : List WrittenToken) (here : TokenContext) (item : TokenPlace) (before : List LineUnit) (rest : List ℕ) → StandsAtPlace item before → AreTokensCutFromPlace here item ps → AreUnitsBefore before (line_of_written_tokens ps ++ rest) → AreUnitsBefore (reversed_units_of_tokens ps before) (10 ∷ rest)
cut_tokens_are_units_before_line_end [] here item before rest begins cut are = are
cut_tokens_are_units_before_line_end (p ∷ ps) here item before rest begins cut are =
    let g = gap_bytes_if_spaced p.spaced in
    let text = text_of_units p.units in
    let middle = units_put_onto (units_of_gap p.spaced) before in
    let split : (g ++ (text ++ line_of_written_tokens ps)) ++ rest ≡ text_of_units (units_of_gap p.spaced) ++ (text ++ (line_of_written_tokens ps ++ rest)) =
    append_assoc g (text ++ line_of_written_tokens ps) rest ∙ ap (λ (t : List ℕ). g ++ t) (append_assoc text (line_of_written_tokens ps) rest)
    ∙ ap (λ (t : List ℕ). t ++ (text ++ (line_of_written_tokens ps ++ rest))) (sym (text_of_gap_units_is_gap p.spaced)) in
    let blank : AreUnitsBefore middle (text ++ (line_of_written_tokens ps ++ rest)) =
    standing_units_are_units_before_rest (units_of_gap p.spaced) before (text ++ (line_of_written_tokens ps ++ rest)) (gap_units_stand_in_text p.spaced before (text ++ (line_of_written_tokens ps ++ rest))) (subst (AreUnitsBefore before) split are) in
    let there = gap_units_keep_place p.spaced item before cut.3 begins in
    cut_tokens_are_units_before_line_end ps (context_after_token here p.kind text (line_of_written_tokens ps)) cut.0 (units_put_onto p.units middle) rest (cut.1.leaves_units middle there) cut.2
    (standing_units_are_units_before_rest p.units middle (line_of_written_tokens ps ++ rest) (cut.1.stand middle rest there) blank)

no_units_are_before_whole_text : (rest : List ℕ) → AreUnitsBefore [] rest
no_units_are_before_whole_text rest = tt

-- ---- no NUL

appended_texts_without_nul_have_none : (x y : List ℕ) → HasNoNul x → HasNoNul y → HasNoNul (x ++ y)
appended_texts_without_nul_have_none x y cx cy = list_all-append (λ b. not (b == 0)) x y ∙ and_from _ _ cx cy

gap_has_no_nul : (s : Bool) → HasNoNul (gap_bytes_if_spaced s)
gap_has_no_nul true = refl
gap_has_no_nul false = refl

line_of_cut_tokens_has_no_nul : (ps : List WrittenToken) (here : TokenContext) (there : TokenPlace) → AreTokensCutFromPlace here there ps → HasNoNul (line_of_written_tokens ps)
line_of_cut_tokens_has_no_nul [] here there cut = refl
line_of_cut_tokens_has_no_nul (p ∷ ps) here there cut =
    appended_texts_without_nul_have_none (gap_bytes_if_spaced p.spaced) (text_of_units p.units ++ line_of_written_tokens ps) (gap_has_no_nul p.spaced)
    (appended_texts_without_nul_have_none (text_of_units p.units) (line_of_written_tokens ps) cut.1.clean (line_of_cut_tokens_has_no_nul ps (context_after_token here p.kind (text_of_units p.units) (line_of_written_tokens ps)) cut.0 cut.2))

-- ---- lines

-- a logical line before any text, without NUL
pub record IsLogicalLineWithoutNul (text : List ℕ) : Type 0 where
  pub line : (rest : List ℕ) → IsLogicalLineBefore text rest
  pub clean : HasNoNul text

-- The tokens make such a line.
pub tokens_cut_from_place_are_logical_line : (ps : List WrittenToken) (here : TokenContext) (there : TokenPlace) → StandsAtPlace there [] → AreTokensCutFromPlace here there ps → IsLogicalLineWithoutNul (line_of_written_tokens ps)
tokens_cut_from_place_are_logical_line ps here there stands cut = record {
  line = λ rest. record {
    units = reversed_units_of_tokens ps [];
    ending = 10 ∷ [];
    text = sym (bytes_of_token_units_are_line ps []);
    each = cut_tokens_are_units_before_line_end ps here there [] rest stands cut (no_units_are_before_whole_text (line_of_written_tokens ps ++ rest));
    ends = by_lf;
  };
  clean = line_of_cut_tokens_has_no_nul ps here there cut;
}

pub cut_tokens_are_logical_line : (ps : List WrittenToken) (here : TokenContext) → AreTokensCut here true ps → IsLogicalLineWithoutNul (line_of_written_tokens ps)
cut_tokens_are_logical_line ps here cut = tokens_cut_from_place_are_logical_line ps here (At true) (λ t. refl) (cut_tokens_are_cut_from_place ps here true cut)
