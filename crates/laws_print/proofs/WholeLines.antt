-- Printed lines hold no NUL: each is one logical line alone, and several are cut into exactly these.
use Rattle.laws_print.proofs.Common.{◌≡◌, ◌≢◌, ℕ, zero, suc, true, not, List, [], ◌∷◌, ◌++◌, Some, refl, ap, append-nil, ◌==◌, map, AllByRecursion}
use Rattle.laws_print.proofs.Common.{list_all, and_parts, IsLogicalLineBefore, Node, printed_line, IsWritableNode, HasNoNul}
use Rattle.std.specs.Prelude.{slice_get}
use Rattle.sudoers_text.specs.Ended.{ends_in_lf}
use Rattle.sudoers_text.specs.Line.{IsUnfinishedLine, join, AreLogicalLines, AreLinesOfText}
use Rattle.sudoers_text.specs.Whole.{IsLogicalLine}
use Rattle.sudoers_cvt_spell.specs.Lines.{printed_lines}
use Rattle.laws_print.proofs.AllLines.{printed_writable_node_is_logical_line}

-- ---- logical lines

clean_text_has_nul_nowhere : (text : List ℕ) → HasNoNul text → (at : ℕ) → slice_get text at ≡ Some 0 → ⊥
clean_text_has_nul_nowhere [] c at e = cc
clean_text_has_nul_nowhere (zero ∷ text) c at e = cc
clean_text_has_nul_nowhere (suc b ∷ text) c zero e = cc
clean_text_has_nul_nowhere (suc b ∷ text) c (suc at) e = clean_text_has_nul_nowhere text (and_parts (not (suc b == 0)) (list_all (λ x. not (x == 0)) text) c).1 at e

-- what the law of inner lines says
abbrev pub InnerLinesEndInLineFeed : Type 0
InnerLinesEndInLineFeed = (line rest : List ℕ) → IsLogicalLineBefore line rest → rest ≢ [] → (ends_in_lf line ≡ true) × (IsUnfinishedLine line → ⊥)

-- A printed line is one logical line, with which nothing is wrong.
pub printed_line_is_logical_line : InnerLinesEndInLineFeed → (n : Node) → IsWritableNode n → IsLogicalLine (printed_line n)
printed_line_is_logical_line law n is =
    let whole = printed_writable_node_is_logical_line n is in
    record {
      cuts = record { joined = append-nil (printed_line n); each = (whole.line [], tt) };
      clean = clean_text_has_nul_nowhere (printed_line n) whole.clean;
      closed = (law (printed_line n) (10 ∷ []) (whole.line (10 ∷ [])) (λ e. absurd (cc))).1;
    }

joined_printed_lines_are_printed_text : (ns : List Node) → join (map printed_line ns) ≡ printed_lines ns
joined_printed_lines_are_printed_text [] = refl
joined_printed_lines_are_printed_text (n ∷ ns) = ap (λ (t : List ℕ). printed_line n ++ t) (joined_printed_lines_are_printed_text ns)

printed_lines_are_logical_lines : (ns : List Node) → AllByRecursion IsWritableNode ns → AreLogicalLines (map printed_line ns)
printed_lines_are_logical_lines [] all = tt
printed_lines_are_logical_lines (n ∷ ns) all = ((printed_writable_node_is_logical_line n all.0).line (join (map printed_line ns)), printed_lines_are_logical_lines ns all.1)

-- Printed lines are cut into exactly these.
pub printed_text_is_cut_into_its_lines : (ns : List Node) → AllByRecursion IsWritableNode ns → AreLinesOfText (printed_lines ns) (map printed_line ns)
printed_text_is_cut_into_its_lines ns all = record { joined = joined_printed_lines_are_printed_text ns; each = printed_lines_are_logical_lines ns all }
