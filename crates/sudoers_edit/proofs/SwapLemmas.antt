-- Lines of a file of which one is another: how one more in it is taken out again, and one that was taken out comes back.
use Rattle.sudoers_edit.proofs.Common.{AreSoundParsedLines, Def, DefinitionContainsItsMembers, IsLineTextWithItemCutOut, IsLineTextWithItemPutIn, ItemListKind, Line, List, Member, Node, Ok, Some, ap, arith, bytes_between}
use Rattle.sudoers_edit.proofs.Common.{definitions_of_alias_line, extents_of_definitions, extents_of_members, has_one_item_more, le-ltb, length, line_limit, line_with_splice, line_without_bytes}
use Rattle.sudoers_edit.proofs.Common.{lines_with_definition_added, lines_with_definition_dropped, lines_with_item_cut_out, lines_with_item_put_in, replaced_lines_unless_too_long, lines_with_one_replaced, owned_bytes_start}
use Rattle.sudoers_edit.proofs.Common.{owned_bytes_stop, reading_of_single_line, refl, slice_get, sym, texts_of_lines, true, ℕ, ◌+◌, ◌∙◌, ◌≡◌, ◌≤◌}
use Rattle.sudoers_edit.specs.declared.extra_item.ItemListKind.TheVariants as among
use Rattle.sudoers_edit.proofs.ExtentLemmas.{result_at_splice_offset_is_next, result_at_owned_bytes_is_next}
use Rattle.sudoers_edit.proofs.ReplacedLemmas.{lines_with_line_put, read_lines_of_equal_texts_are_equal, line_put_is_at_its_number, replaced_text_is_restored, line_put_keeps_readings, texts_with_line_put_are_replaced_texts}
use Rattle.sudoers_edit.proofs.SpliceLemmas.{owned_start_is_within_spans, owned_bytes_are_within_spans, bytes_taken_out_are_put_in_again, splice_put_in_is_taken_out, start_and_size_of_slice_make_stop}
use Rattle.sudoers_edit.proofs.WayBackLemmas.{numbered_line_reads_as_its_node}
use Rattle.sudoers_edit.proofs.WithinLemmas.{ordered_definition_contains_its_members}

-- WHERE THINGS STAND

pub owned_start_of_definition_is_within_line : (lines : List Line) (n at from : ℕ) (line : Line) (defs : List Def) → AreSoundParsedLines lines → slice_get lines n ≡ Some line → definitions_of_alias_line line.node ≡ Some defs
    → owned_bytes_start at (extents_of_definitions defs) ≡ Some from → from ≤ length line.text
owned_start_of_definition_is_within_line lines n at from line defs known here is begins =
    owned_start_is_within_spans (λ (d : Def). d.start) (λ (d : Def). d.stop) 0 (length line.text) defs at from (known.ascend n line defs here is).0 begins

pub owned_bytes_of_definition_are_within_text : (lines : List Line) (n at from to : ℕ) (line : Line) (defs : List Def) → AreSoundParsedLines lines → slice_get lines n ≡ Some line → definitions_of_alias_line line.node ≡ Some defs
    → owned_bytes_start at (extents_of_definitions defs) ≡ Some from → owned_bytes_stop at (extents_of_definitions defs) ≡ Some to → (from ≤ to) × (to ≤ length line.text)
owned_bytes_of_definition_are_within_text lines n at from to line defs known here is begins stops =
    owned_bytes_are_within_spans (λ (d : Def). d.start) (λ (d : Def). d.stop) 0 (length line.text) defs at from to (known.ascend n line defs here is).0 begins stops

numbered_definition_contains_its_members : (lines : List Line) (n def : ℕ) (line : Line) (defs : List Def) (d : Def) → AreSoundParsedLines lines → slice_get lines n ≡ Some line → definitions_of_alias_line line.node ≡ Some defs
    → slice_get defs def ≡ Some d → DefinitionContainsItsMembers d × (d.stop ≤ length line.text)
numbered_definition_contains_its_members lines n def line defs d known here makes stands =
    let ascend = known.ascend n line defs here makes in
    ordered_definition_contains_its_members 0 (length line.text) defs def d ascend.0 ascend.1 stands

pub owned_start_of_member_is_within_line : (lines : List Line) (n def at from : ℕ) (line : Line) (defs : List Def) (d : Def) → AreSoundParsedLines lines → slice_get lines n ≡ Some line → definitions_of_alias_line line.node ≡ Some defs
    → slice_get defs def ≡ Some d → owned_bytes_start at (extents_of_members d.members) ≡ Some from → from ≤ length line.text
owned_start_of_member_is_within_line lines n def at from line defs d known here makes stands begins =
    let there = numbered_definition_contains_its_members lines n def line defs d known here makes stands in
    let inside = owned_start_is_within_spans (λ (m : Member). m.start) (λ (m : Member). m.stop) d.start d.stop d.members at from there.0 begins in
    omega (arith, inside, there.1)

pub owned_bytes_of_member_are_within_line : (lines : List Line) (n def at from to : ℕ) (line : Line) (defs : List Def) (d : Def) → AreSoundParsedLines lines → slice_get lines n ≡ Some line
    → definitions_of_alias_line line.node ≡ Some defs → slice_get defs def ≡ Some d → owned_bytes_start at (extents_of_members d.members) ≡ Some from → owned_bytes_stop at (extents_of_members d.members) ≡ Some to
    → (from ≤ to) × (to ≤ length line.text)
owned_bytes_of_member_are_within_line lines n def at from to line defs d known here makes stands begins stops =
    let there = numbered_definition_contains_its_members lines n def line defs d known here makes stands in
    let inside = owned_bytes_are_within_spans (λ (m : Member). m.start) (λ (m : Member). m.stop) d.start d.stop d.members at from to there.0 begins stops in
    (inside.0, omega (arith, inside.1, there.1))

-- ANOTHER LINE

-- Of lines one was replaced: what the new one says, and how the old line comes back.
pub record IsLineReplaced (before after : List Line) (n : ℕ) (old new : Line) : Type 0 where
  pub is : after ≡ lines_with_line_put n new before
  pub here : slice_get after n ≡ Some new
  pub back : replaced_lines_unless_too_long n old.text (texts_of_lines after) ≡ Ok (texts_of_lines before)

pub replaced_text_makes_replaced_line : (before after : List Line) (n : ℕ) (old : Line) (text : List ℕ) (says : Node) → AreSoundParsedLines before → AreSoundParsedLines after → slice_get before n ≡ Some old
    → reading_of_single_line text ≡ Some says → texts_of_lines after ≡ lines_with_one_replaced n text (texts_of_lines before) → IsLineReplaced before after n old (record { text = text; node = says })
replaced_text_makes_replaced_line before after n old text says known later here is same =
    let new : Line = record { text = text; node = says } in
    let put : after ≡ lines_with_line_put n new before =
    read_lines_of_equal_texts_are_equal after (lines_with_line_put n new before) later.says (line_put_keeps_readings before n new known.says is) (same ∙ sym (texts_with_line_put_are_replaced_texts before n new)) in
    record {
      is = put;
      here = ap (λ ls. slice_get ls n) put ∙ line_put_is_at_its_number before n new old here;
      back =
          rw (le-ltb line_limit (length old.text) (known.short n old here))
          (ap Ok (ap (lines_with_one_replaced n old.text) same ∙ replaced_text_is_restored before n text old here));
    }

fitting_item_is_put_in_line : (a : ItemListKind) (at from n : ℕ) (s : List ℕ) (line : Line) (lines : List Line)
    → has_one_item_more a at from (from + length s) (reading_of_single_line (line_with_splice from s line.text)) (Some line.node) ≡ true
    → lines_with_item_put_in a at from n s line lines ≡ replaced_lines_unless_too_long n (line_with_splice from s line.text) (texts_of_lines lines)
fitting_item_is_put_in_line a at from n s line lines reads = rw reads refl

fitting_item_is_cut_out_of_line : (a : ItemListKind) (at from to n : ℕ) (line : Line) (lines : List Line)
    → has_one_item_more a at from to (Some line.node) (reading_of_single_line (line_without_bytes from to line.text)) ≡ true
    → lines_with_item_cut_out a at from to n line lines ≡ replaced_lines_unless_too_long n (line_without_bytes from to line.text) (texts_of_lines lines)
fitting_item_is_cut_out_of_line a at from to n line lines reads = rw reads refl

-- what was put in is taken out
pub item_put_in_is_cut_out_again : (a : ItemListKind) (at from n : ℕ) (s text : List ℕ) (before after : List Line) (line : Line) → AreSoundParsedLines before → slice_get before n ≡ Some line
    → (put : IsLineTextWithItemPutIn a at from s line text) → IsLineReplaced before after n line (record { text = text; node = put.new })
    → lines_with_item_cut_out a at from (from + length s) n (record { text = text; node = put.new }) after ≡ Ok (texts_of_lines before)
item_put_in_is_cut_out_again a at from n s text before after line known here put swap =
    let to : ℕ = from + length s in
    let new : Line = record { text = text; node = put.new } in
    let again : line_without_bytes from to text ≡ line.text = ap (line_without_bytes from to) put.text_is ∙ splice_put_in_is_taken_out line.text s from put.inside in
    let says : reading_of_single_line (line_without_bytes from to text) ≡ Some line.node = ap reading_of_single_line again ∙ numbered_line_reads_as_its_node before n line known.says here in
    fitting_item_is_cut_out_of_line a at from to n new after (ap (has_one_item_more a at from to (Some put.new)) says ∙ put.more)
    ∙ ap (λ t. replaced_lines_unless_too_long n t (texts_of_lines after)) again ∙ swap.back

-- what was taken out is put in
pub item_cut_out_is_put_in_again : (a : ItemListKind) (at from to n : ℕ) (s text : List ℕ) (before after : List Line) (line : Line) → AreSoundParsedLines before → slice_get before n ≡ Some line
    → (cut : IsLineTextWithItemCutOut a at from to line text) → s ≡ bytes_between from to line.text → IsLineReplaced before after n line (record { text = text; node = cut.new })
    → lines_with_item_put_in a at from n s (record { text = text; node = cut.new }) after ≡ Ok (texts_of_lines before)
item_cut_out_is_put_in_again a at from to n s text before after line known here cut is swap =
    let new : Line = record { text = text; node = cut.new } in
    let again : line_with_splice from s text ≡ line.text =
    ap (λ z. line_with_splice from z text) is ∙ ap (line_with_splice from (bytes_between from to line.text)) cut.text_is ∙ bytes_taken_out_are_put_in_again line.text from to cut.order cut.inside in
    let says : reading_of_single_line (line_with_splice from s text) ≡ Some line.node = ap reading_of_single_line again ∙ numbered_line_reads_as_its_node before n line known.says here in
    let stop : from + length s ≡ to = ap (λ z. from + length z) is ∙ start_and_size_of_slice_make_stop line.text from to cut.order cut.inside in
    fitting_item_is_put_in_line a at from n s new after
    (ap (λ z. has_one_item_more a at from (from + length s) z (Some cut.new)) says ∙ ap (λ z. has_one_item_more a at from z (Some line.node) (Some cut.new)) stop ∙ cut.more)
    ∙ ap (λ t. replaced_lines_unless_too_long n t (texts_of_lines after)) again ∙ swap.back

-- DEFINITIONS

pub definition_addition_is_item_put_in : (n at from : ℕ) (s : List ℕ) (lines : List Line) (line : Line) (defs : List Def) → slice_get lines n ≡ Some line → definitions_of_alias_line line.node ≡ Some defs
    → owned_bytes_start at (extents_of_definitions defs) ≡ Some from → lines_with_definition_added n at s lines ≡ lines_with_item_put_in among.Definitions at from n s line lines
unfolding lines_with_definition_added
definition_addition_is_item_put_in n at from s lines line defs here is begins =
    rw (here, is) (result_at_splice_offset_is_next at from (extents_of_definitions defs) (λ from. lines_with_item_put_in among.Definitions at from n s line lines) begins)

pub definition_drop_is_item_cut_out : (n at from to : ℕ) (lines : List Line) (line : Line) (defs : List Def) → slice_get lines n ≡ Some line → definitions_of_alias_line line.node ≡ Some defs
    → owned_bytes_start at (extents_of_definitions defs) ≡ Some from → owned_bytes_stop at (extents_of_definitions defs) ≡ Some to → lines_with_definition_dropped n at lines ≡ lines_with_item_cut_out among.Definitions at from to n line lines
unfolding lines_with_definition_dropped
definition_drop_is_item_cut_out n at from to lines line defs here is begins stops =
    rw (here, is) (result_at_owned_bytes_is_next at from to (extents_of_definitions defs) (λ from to. lines_with_item_cut_out among.Definitions at from to n line lines) begins stops)
