-- A definition of several, taken out of a line of a file: it is refused for its splice alone.
use Rattle.sudoers_edit.proofs.Common.{BadSplice, Bool, ByteExtent, CanRemoveDefinition, Def, DropDef, EditFault, Err, IsLineTextWithItemCutOut, IsDefinitionCut, Kind, Line, LineReadsAsNode, LineTexts, List, LoadedPolicy, Node}
use Rattle.sudoers_edit.proofs.Common.{None, Ok, Option, LawsBehindPrunes, Result, Some, ap, arith, bytes_between, definitions_of_alias_line, edit_result_and_then, extents_of_definitions, false, has_one_definition_more}
use Rattle.sudoers_edit.proofs.Common.{is_file_on_walk, length, length-map, line_without_bytes, lines_of_numbered_file, lines_with_definition_dropped, lines_with_item_cut_out, replaced_lines_unless_too_long, lt-leb}
use Rattle.sudoers_edit.proofs.Common.{named_files_of_policy, not, owned_bytes_start, owned_bytes_stop, policy_or_load_fault, policy_with_file_lines, reading_of_single_line, refl, result_with_bytes_to_drop_item}
use Rattle.sudoers_edit.proofs.Common.{result_or_refusal_if_none, result_unless_refused, slice_get, step, subst, sym, texts_of_lines, true, ℕ, ◌<◌, ◌∙◌, ◌≡◌, ◌≤◌}
use Rattle.std.proofs.Common.{ne_eqb}
use Rattle.std.specs.Prelude.{◌==◌}
use Rattle.sudoers_grammar.specs.Node as node
use Rattle.sudoers_edit.specs.declared.extra_item.ItemListKind.TheVariants as among
use Rattle.sudoers_edit.proofs.OwnedBytes.{bytes_owned_by_definition_are_within}
use Rattle.sudoers_edit.proofs.PruneCut.{definition_drop_cuts_at_owned_bytes}
use Rattle.sudoers_edit.proofs.PruneGoes.{IsKnownSingleLine, cut_definition_can_be_removed, edit_of_found_file_edits_its_lines, line_of_loaded_file_is_known}
use Rattle.sudoers_edit.proofs.PruneLists.{line_of_file_implies_present_file}

owned_bytes_of_several_are_sought : (at : ℕ) (xs : List ByteExtent) (next : ℕ → ℕ → Result LineTexts EditFault) → at < length xs → 2 ≤ length xs
    → result_with_bytes_to_drop_item at xs next ≡ result_or_refusal_if_none (owned_bytes_start at xs) BadSplice (λ from. result_or_refusal_if_none (owned_bytes_stop at xs) BadSplice (λ to. next from to))
owned_bytes_of_several_are_sought at xs next inside many =
    let more : (length xs == 1) ≡ false = ne_eqb (length xs) 1 (λ same. omega (arith, same, many)) in
    rw (lt-leb (length xs) at inside, more) refl

-- What comes of a drop of a definition of several: its refusal for the splice, or the line without it.
pub data IsDropOutcome (policy : LoadedPolicy) (f n at : ℕ) (line : Line) : Type 0 where
  refused : step (DropDef f n at) policy ≡ Err BadSplice → IsDropOutcome policy f n at line
  gone : (text splice : List ℕ) → IsDefinitionCut n at (lines_of_numbered_file policy.files f) line text splice → CanRemoveDefinition f n at policy text splice → IsDropOutcome policy f n at line

pub drop_among_several_has_outcome : LawsBehindPrunes → (policy : LoadedPolicy) (f n at : ℕ) (line : Line) (k : Kind) (defs : List Def) → policy_or_load_fault (named_files_of_policy policy) ≡ Ok policy
    → is_file_on_walk policy.walk f ≡ true → slice_get (lines_of_numbered_file policy.files f) n ≡ Some line → line.node ≡ node.Alias k defs → at < length defs → 2 ≤ length defs
    → IsDropOutcome policy f n at line
drop_among_several_has_outcome l policy f n at line k defs loaded on here makes inside many =
    by_seam (owned_bytes_start at xs) refl (owned_bytes_stop at xs) refl
    (definition_drop_cuts_at_owned_bytes n at lines line defs here (ap definitions_of_alias_line makes)
    ∙ owned_bytes_of_several_are_sought at xs next (omega (arith, inside, count)) (omega (arith, many, count)))
  where
    lines : List Line
    lines = lines_of_numbered_file policy.files f

    xs : List ByteExtent
    xs = extents_of_definitions defs

    count : length xs ≡ length defs
    count = length-map defs (λ (d : Def). (d.start, d.stop))

    next : ℕ → ℕ → Result LineTexts EditFault
    next from to = lines_with_item_cut_out among.Definitions at from to n line lines

    step_is : step (DropDef f n at) policy ≡ edit_result_and_then (lines_with_definition_dropped n at lines) (policy_with_file_lines policy f)
    step_is = let file = line_of_file_implies_present_file policy.files f n line here in edit_of_found_file_edits_its_lines f policy file.0 (lines_with_definition_dropped n at) file.1

    -- what is refused at once
    at_once : lines_with_definition_dropped n at lines ≡ Err BadSplice → IsDropOutcome policy f n at line
    at_once is = refused (step_is ∙ ap (λ r. edit_result_and_then r (policy_with_file_lines policy f)) is)

    by_less : (from to : ℕ) → owned_bytes_start at xs ≡ Some from → owned_bytes_stop at xs ≡ Some to → (o : Option Node) → reading_of_single_line (line_without_bytes from to line.text) ≡ o
        → (b : Bool) → has_one_definition_more at from to (Some (node.Alias k defs)) o ≡ b
        → lines_with_definition_dropped n at lines ≡ result_unless_refused (not b) BadSplice (replaced_lines_unless_too_long n (line_without_bytes from to line.text) (texts_of_lines lines)) → IsDropOutcome policy f n at line
    by_less from to begins stops o says false no_more e = at_once e
    by_less from to begins stops None says true more e = absurd (cc)
    by_less from to begins stops (Some new) says true more e =
        let text : List ℕ = line_without_bytes from to line.text in
        let k_line : IsKnownSingleLine line = line_of_loaded_file_is_known l policy f n line loaded here in
        let reads : LineReadsAsNode line.text (node.Alias k defs) = subst (LineReadsAsNode line.text) makes k_line.reads in
        let bounds = bytes_owned_by_definition_are_within 0 (length line.text) defs at from to (l.ascend line.text k defs reads).0 begins stops in
        let cut : IsLineTextWithItemCutOut among.Definitions at from to line text =
        record {
          order = bounds.0;
          inside = bounds.1;
          text_is = refl;
          new = new;
          says = says;
          more = ap (λ m. has_one_definition_more at from to (Some m) (Some new)) makes ∙ more;
        } in
        let d : IsDefinitionCut n at lines line text (bytes_between from to line.text) =
        record {
          kind = k;
          defs = defs;
          makes = makes;
          inside = inside;
          many = many;
          from = from;
          to = to;
          begins = begins;
          stops = stops;
          cut = cut;
          owned = refl;
          forth = e;
        } in
        gone text (bytes_between from to line.text) d (cut_definition_can_be_removed l policy f n at line text (bytes_between from to line.text) loaded on here d)

    by_cut : (from to : ℕ) → owned_bytes_start at xs ≡ Some from → owned_bytes_stop at xs ≡ Some to → lines_with_definition_dropped n at lines ≡ next from to → IsDropOutcome policy f n at line
    by_cut from to begins stops e =
        let text : List ℕ = line_without_bytes from to line.text in
        by_less from to begins stops (reading_of_single_line text) refl (has_one_definition_more at from to (Some (node.Alias k defs)) (reading_of_single_line text)) refl
        (e ∙ ap (λ m. result_unless_refused (not (has_one_definition_more at from to (Some m) (reading_of_single_line text))) BadSplice (replaced_lines_unless_too_long n text (texts_of_lines lines))) makes)

    by_seam : (o : Option ℕ) → owned_bytes_start at xs ≡ o → (p : Option ℕ) → owned_bytes_stop at xs ≡ p
        → lines_with_definition_dropped n at lines ≡ result_or_refusal_if_none (owned_bytes_start at xs) BadSplice (λ from. result_or_refusal_if_none (owned_bytes_stop at xs) BadSplice (λ to. next from to)) → IsDropOutcome policy f n at line
    by_seam None begins p stops e = at_once (e ∙ ap (λ o. result_or_refusal_if_none o BadSplice (λ from. result_or_refusal_if_none (owned_bytes_stop at xs) BadSplice (λ to. next from to))) begins)
    by_seam (Some from) begins None stops e =
        at_once (e ∙ ap (λ o. result_or_refusal_if_none o BadSplice (λ from. result_or_refusal_if_none (owned_bytes_stop at xs) BadSplice (λ to. next from to))) begins
        ∙ ap (λ o. result_or_refusal_if_none o BadSplice (λ to. next from to)) stops)
    by_seam (Some from) begins (Some to) stops e =
        by_cut from to begins stops
        (e ∙ ap (λ o. result_or_refusal_if_none o BadSplice (λ from. result_or_refusal_if_none (owned_bytes_stop at xs) BadSplice (λ to. next from to))) begins
        ∙ ap (λ o. result_or_refusal_if_none o BadSplice (λ to. next from to)) stops)

pub refused_drop_among_several_is_bad_splice : LawsBehindPrunes → (policy : LoadedPolicy) (f n at : ℕ) (line : Line) (k : Kind) (defs : List Def) (fault : EditFault) → policy_or_load_fault (named_files_of_policy policy) ≡ Ok policy
    → is_file_on_walk policy.walk f ≡ true → slice_get (lines_of_numbered_file policy.files f) n ≡ Some line → line.node ≡ node.Alias k defs → at < length defs → 2 ≤ length defs
    → step (DropDef f n at) policy ≡ Err fault → fault ≡ BadSplice
refused_drop_among_several_is_bad_splice l policy f n at line k defs fault loaded on here makes inside many is = by (drop_among_several_has_outcome l policy f n at line k defs loaded on here makes inside many)
  where
    by : IsDropOutcome policy f n at line → fault ≡ BadSplice
    by (refused told) = let both : (let r : Result LoadedPolicy EditFault = Err fault in r) ≡ Err BadSplice = sym is ∙ told in cc
    by (gone text splice cut goes) = let both : Err fault ≡ Ok goes.next = sym is ∙ goes.made.forth in absurd cc
