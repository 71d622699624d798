-- What `edit` wrote leads back.
use Rattle.laws_program.proofs.Common.{◌≡◌, ◌≢◌, ◌∙◌, ℕ, suc, ◌≤◌, Bool, true, false, List, [], ◌∷◌, ◌++◌, length, map, slice_index, Option, Some, None, Result, Ok, Err}
use Rattle.laws_program.proofs.Common.{refl, sym, ap, subst, arith, if◌then◌else◌, AllByRecursion, join, append-nil, codes, flat_map, list_any, ◌==◌}
use Rattle.laws_program.proofs.Common.{physical_lines, script_shape_and_policy_text}
use Rattle.std.proofs.Common.{take, drop, ◌<◌, ◌^◌}
use Rattle.std.proofs.Math.Seq.{take-length}
use Rattle.std.proofs.lemmas.Bool.{le-ltb, ltb-false}
use Rattle.std.proofs.lemmas.List.{take-append-drop}
use Rattle.std.specs.Prelude.{nat_lt}
use Rattle.std.specs.Option.{option_map}
use Rattle.sudoers_text.specs.Fault.{text_limit}
use Rattle.sudoers_tree.specs.Files.{ParsedFile, lines_of_numbered_file}
use Rattle.sudoers_tree.specs.Load.{LoadedPolicy, named_file_of_parsed, named_files_of_policy, policy_or_load_fault, single_file_named_policy}
use Rattle.sudoers_tree.specs.Policy.{texts_of_lines}
use Rattle.sudoers_tree.specs.declared.named_files.NamedFile.{NamedFile}
use Rattle.sudoers_tree.specs.declared.load_fault.LoadFault.{LoadFault}
use Rattle.sudoers_bundle.specs.Bundle.{AllFitInBundle, bundle_of_files, files_of_bundle_text}
use Rattle.sudoers_edit_script.specs.Script.{edit_limit, spelling_of_edits, HaveFittingNumbers, AreSpellable}
use Rattle.sudoers_edit_script.specs.ScriptReading.{edits_spelled_by_text}
use Rattle.sudoers_edit_script.specs.declared.edit.Edit.{Edit}
use Rattle.sudoers_edit_script.specs.declared.script_reader.ScriptFault.{ScriptFault}
use Rattle.sudoers_edit_script.specs.declared.script_reader.ScriptFault.TheVariants as script
use Rattle.sudoers_edit.specs.Editing.{policy_or_first_refusal, inv_run}
use Rattle.sudoers_edit.specs.Named.{HaveSpellableNames}
use Rattle.sudoers_edit.specs.WayBack.{HasRestoringInverse, names_of_named_files}
use Rattle.sudoers_edit.specs.declared.fault.EditFault.{EditFault}
use Rattle.sudoers_run.specs.declared.fault.LayerFault.{LayerFault}
use Rattle.sudoers_run.specs.declared.fault.LayerFault.TheVariants as layer
use Rattle.sudoers_run.specs.declared.fault.ToolFault.{ToolFault}
use Rattle.sudoers_run.specs.declared.fault.ToolFault.TheVariants as tool
use Rattle.sudoers_run.specs.declared.input_shape.EditInputShape.{EditInputShape}
use Rattle.sudoers_run.specs.declared.input_shape.EditInputShape.TheVariants as shape
use Rattle.sudoers_run.specs.Edit.{edit_input_limit, edit_output_of_input, result_after_reading_given_files, edit_output_of_parts, bundle_result_with_tool_fault, layer_result_with_tool_fault, load_result_with_layer_fault, edit_output_of_files, edit_output_after_undo_redo, files_of_text_in_shape, files_in_given_shape, text_of_inverse_and_edited_policy, edits_after_undo_and_redo, edit_count_after_undo_redo, inverse_and_files_text, script_result_with_layer_fault, edit_result_with_layer_fault, ◌>>=◌}
use Rattle.laws_program.specs.WayBack.{EditOutputRestoresPolicy}
use Rattle.laws_program.proofs.MarkLemmas.{script_is_split_at_bundle, script_is_split_at_end_mark, split_policy_text_is_bounded}

-- The laws of policies, of bundles, of scripts and of edits.
pub record LawsOfPoliciesBundlesAndScripts : Type 0 where
  pub bytes : (files : List NamedFile) (policy : LoadedPolicy) → policy_or_load_fault files ≡ Ok policy → named_files_of_policy policy ≡ files
  pub fit : (policy : LoadedPolicy) → policy_or_load_fault (named_files_of_policy policy) ≡ Ok policy → (f : ℕ) → length (join (texts_of_lines (lines_of_numbered_file policy.files f))) ≤ text_limit
  pub bundled : (files : List NamedFile) → AllFitInBundle files → files_of_bundle_text (bundle_of_files files) ≡ Ok files
  pub unbundled : (text : List ℕ) (files : List NamedFile) → files_of_bundle_text text ≡ Ok files → text ≡ bundle_of_files files
  pub held : (text : List ℕ) (files : List NamedFile) → files_of_bundle_text text ≡ Ok files → length text < 2 ^ 64 → AllFitInBundle files
  pub spelled : (text : List ℕ) (edits : List Edit) → edits_spelled_by_text text ≡ Ok edits → (text ≡ spelling_of_edits edits) × (length edits ≤ edit_limit) × AreSpellable edits
  pub reads : (edits : List Edit) → AreSpellable edits → length edits ≤ edit_limit → edits_spelled_by_text (spelling_of_edits edits) ≡ Ok edits
  pub before : (edits : List Edit) (rest : List ℕ) → AreSpellable edits → physical_lines (spelling_of_edits edits ++ rest) ≡ physical_lines (spelling_of_edits edits) ++ physical_lines rest
  pub plain : (edits : List Edit) → AreSpellable edits → AllByRecursion (λ (line : List ℕ). slice_index line 0 ≢ 37) (physical_lines (spelling_of_edits edits))
  pub pieces : (text : List ℕ) → join (physical_lines text) ≡ text
  pub named : (edits : List Edit) (policy : LoadedPolicy) → HaveSpellableNames edits → HaveSpellableNames (inv_run edits policy)
  pub back : (edits : List Edit) (policy new : LoadedPolicy) → policy_or_load_fault (named_files_of_policy policy) ≡ Ok policy → policy_or_first_refusal 0 edits policy ≡ Ok new → HasRestoringInverse edits policy new
  pub count : (edits : List Edit) (policy other : LoadedPolicy) → length (inv_run (inv_run edits policy) other) ≡ length (inv_run edits policy)
  pub names : (edits : List Edit) (policy new : LoadedPolicy) → policy_or_first_refusal 0 edits policy ≡ Ok new → names_of_named_files (named_files_of_policy new) ≡ names_of_named_files (named_files_of_policy policy)

-- EDITS WITH A SPELLING

edits_with_fitting_parts_are_spellable : (edits : List Edit) → HaveFittingNumbers edits → HaveSpellableNames edits → AreSpellable edits
edits_with_fitting_parts_are_spellable [] n m = tt
edits_with_fitting_parts_are_spellable (edit ∷ edits) n m = ((n.0, m.0), edits_with_fitting_parts_are_spellable edits n.1 m.1)

spellable_edits_have_fitting_numbers : (edits : List Edit) → AreSpellable edits → HaveFittingNumbers edits
spellable_edits_have_fitting_numbers [] s = tt
spellable_edits_have_fitting_numbers (edit ∷ edits) s = (s.0.0, spellable_edits_have_fitting_numbers edits s.1)

spellable_edits_have_spellable_names : (edits : List Edit) → AreSpellable edits → HaveSpellableNames edits
spellable_edits_have_spellable_names [] s = tt
spellable_edits_have_spellable_names (edit ∷ edits) s = (s.0.1, spellable_edits_have_spellable_names edits s.1)

leading_edits_of_spellable_are_spellable : (edits rest : List Edit) → AreSpellable (edits ++ rest) → AreSpellable edits
leading_edits_of_spellable_are_spellable [] rest s = tt
leading_edits_of_spellable_are_spellable (edit ∷ edits) rest s = (s.0, leading_edits_of_spellable_are_spellable edits rest s.1)

-- EDITS THAT STAND

edits_after_undo_are_spellable : (undo redo : ℕ) (edits : List Edit) → AreSpellable edits → AreSpellable (edits_after_undo_and_redo undo redo edits)
edits_after_undo_are_spellable undo redo edits s =
    let count : ℕ = edit_count_after_undo_redo undo redo (length edits) in
    leading_edits_of_spellable_are_spellable (take count edits) (drop count edits) (subst AreSpellable (sym (take-append-drop count edits)) s)

-- where none is taken back, all stand
undo_of_no_edit_keeps_all_edits : (edits : List Edit) → edits_after_undo_and_redo 0 0 edits ≡ edits
undo_of_no_edit_keeps_all_edits edits =
    let count : edit_count_after_undo_redo 0 0 (length edits) ≡ length edits = omega arith in
    ap (λ n. take n edits) count ∙ take-length edits

-- FILES AS THEY WERE GIVEN

-- The files can be given in this form: alone, there is one, which has the name of such a file; in a bundle there are some, and it can hold each.
data CanBeGivenInShape : EditInputShape → List NamedFile → Type 0 where
  alone : (text : List ℕ) → CanBeGivenInShape shape.OneText (single_file_named_policy text)
  several : (file : NamedFile) (files : List NamedFile) → AllFitInBundle (file ∷ files) → CanBeGivenInShape shape.Bundle (file ∷ files)

-- the text of files in a form, behind what ends the script
policy_text_of_files_in_shape : EditInputShape → List NamedFile → List ℕ
policy_text_of_files_in_shape shape.OneText files = flat_map (λ (file : NamedFile). file.bytes) files
policy_text_of_files_in_shape shape.Bundle files = bundle_of_files files

-- files that can be given are read of their text
given_files_are_read_of_their_text : LawsOfPoliciesBundlesAndScripts → (form : EditInputShape) (files : List NamedFile) → CanBeGivenInShape form files → files_of_text_in_shape form (policy_text_of_files_in_shape form files) ≡ Ok files
unfolding policy_text_of_files_in_shape
given_files_are_read_of_their_text l _ _ (alone text) = ap (λ (t : List ℕ). Ok (single_file_named_policy t)) (append-nil text)
given_files_are_read_of_their_text l _ _ (several file files held) = ap bundle_result_with_tool_fault (l.bundled (file ∷ files) held)

-- their text behind a script is told from it
script_and_given_files_are_split_again : LawsOfPoliciesBundlesAndScripts → (edits : List Edit) → AreSpellable edits → (form : EditInputShape) (files : List NamedFile) → CanBeGivenInShape form files
    → script_shape_and_policy_text (spelling_of_edits edits ++ files_in_given_shape form files) ≡ Some (spelling_of_edits edits, form, policy_text_of_files_in_shape form files)
unfolding policy_text_of_files_in_shape
script_and_given_files_are_split_again l edits can _ _ (alone text) =
    script_is_split_at_end_mark l.pieces (spelling_of_edits edits) (flat_map (λ (file : NamedFile). file.bytes) (single_file_named_policy text)) (λ rest. l.before edits rest can) (l.plain edits can)
script_and_given_files_are_split_again l edits can _ _ (several file files held) =
    script_is_split_at_bundle l.pieces (spelling_of_edits edits) file files held.0 (λ rest. l.before edits rest can) (l.plain edits can)

-- what was given can be given, and its text is that of its files
record IsTextOfGivenFiles (form : EditInputShape) (text : List ℕ) (files : List NamedFile) : Type 0 where
  can : CanBeGivenInShape form files
  is : policy_text_of_files_in_shape form files ≡ text

-- a text that ends a script in this form is not empty, if it is a bundle
nonempty_bundle_text_is_of_given_files : LawsOfPoliciesBundlesAndScripts → (text : List ℕ) (files : List NamedFile) → text ≢ [] → length text < 2 ^ 64 → files_of_bundle_text text ≡ Ok files → IsTextOfGivenFiles shape.Bundle text files
unfolding policy_text_of_files_in_shape
nonempty_bundle_text_is_of_given_files l text [] some small is = absurd (some (l.unbundled text [] is))
nonempty_bundle_text_is_of_given_files l text (file ∷ files) some small is = record { can = several file files (l.held text (file ∷ files) is small); is = sym (l.unbundled text (file ∷ files) is) }

read_policy_text_is_of_given_files : LawsOfPoliciesBundlesAndScripts → (form : EditInputShape) (text : List ℕ) (files : List NamedFile) → (form ≡ shape.Bundle → text ≢ []) → length text < 2 ^ 64 → files_of_text_in_shape form text ≡ Ok files
    → IsTextOfGivenFiles form text files
unfolding policy_text_of_files_in_shape
read_policy_text_is_of_given_files l shape.OneText text files some small is =
    let same : single_file_named_policy text ≡ files = cc in
    subst (IsTextOfGivenFiles shape.OneText text) same (record { can = alone text; is = append-nil text })
read_policy_text_is_of_given_files l shape.Bundle text files some small is = by (files_of_bundle_text text) refl is
  where
    by : (r : Result (List NamedFile) ℕ) → files_of_bundle_text text ≡ r → bundle_result_with_tool_fault r ≡ Ok files → IsTextOfGivenFiles shape.Bundle text files
    by (Ok found) read e = let same : found ≡ files = cc in nonempty_bundle_text_is_of_given_files l text files (some refl) small (read ∙ ap (λ (fs : List NamedFile). Ok fs) same)
    by (Err n) read e = absurd cc

-- FILES AFTER EDITS

-- each file is within the limit of a text
named_files_of_parsed_are_within_limit : (files : List ParsedFile) → ((f : ℕ) → length (join (texts_of_lines (lines_of_numbered_file files f))) ≤ text_limit)
    → AllByRecursion (λ (file : NamedFile). length file.bytes ≤ text_limit) (map named_file_of_parsed files)
named_files_of_parsed_are_within_limit [] fit = tt
named_files_of_parsed_are_within_limit (file ∷ files) fit = (fit 0, named_files_of_parsed_are_within_limit files (λ f. fit (suc f)))

files_of_same_names_fit_in_bundle : (files others : List NamedFile) → names_of_named_files others ≡ names_of_named_files files → AllFitInBundle files → AllByRecursion (λ (file : NamedFile). length file.bytes ≤ text_limit) others
    → AllFitInBundle others
files_of_same_names_fit_in_bundle [] [] same held short = tt
files_of_same_names_fit_in_bundle [] (o ∷ others) same held short = absurd cc
files_of_same_names_fit_in_bundle (file ∷ files) [] same held short = absurd cc
files_of_same_names_fit_in_bundle (file ∷ files) (o ∷ others) same held short =
    let name : o.name ≡ file.name = cc in
    let rest : names_of_named_files others ≡ names_of_named_files files = cc in (
      record {
        named = λ none. held.0.named (sym name ∙ none);
        line = ap (λ (n : List ℕ). list_any (λ b. b == 10) n) name ∙ held.0.line;
        short = omega (arith, short.0);
      },
      files_of_same_names_fit_in_bundle files others rest held.1 short.1,
    )

-- what can be given, can be given after edits that keep its names
files_of_same_names_can_be_given : (form : EditInputShape) (files others : List NamedFile) → CanBeGivenInShape form files → names_of_named_files others ≡ names_of_named_files files
    → AllByRecursion (λ (file : NamedFile). length file.bytes ≤ text_limit) others → CanBeGivenInShape form others
files_of_same_names_can_be_given _ _ [] (alone text) same short = absurd cc
files_of_same_names_can_be_given _ _ (o ∷ []) (alone text) same short =
    let name : o.name ≡ codes "policy" = cc in
    subst (λ (fs : List NamedFile). CanBeGivenInShape shape.OneText fs) (ap (λ (n : List ℕ). (let file : NamedFile = record { name = n; bytes = o.bytes } in file) ∷ []) (sym name)) (alone o.bytes)
files_of_same_names_can_be_given _ _ (o ∷ p ∷ others) (alone text) same short = absurd cc
files_of_same_names_can_be_given _ _ [] (several file files held) same short = absurd cc
files_of_same_names_can_be_given _ _ (o ∷ others) (several file files held) same short = several o others (files_of_same_names_fit_in_bundle (file ∷ files) (o ∷ others) same held short)

-- WHAT WAS WRITTEN

-- How `edit` came to what it wrote: these are the edits that stood.
record IsEditRunOfInput (input out : List ℕ) : Type 0 where
  short : length input ≤ edit_input_limit
  script : List ℕ
  form : EditInputShape
  text : List ℕ
  parts : script_shape_and_policy_text input ≡ Some (script, form, text)
  files : List NamedFile
  were : files_of_text_in_shape form text ≡ Ok files
  edits : List Edit
  can : AreSpellable edits
  policy : LoadedPolicy
  read : policy_or_load_fault files ≡ Ok policy
  new : LoadedPolicy
  ran : policy_or_first_refusal 0 edits policy ≡ Ok new
  few : length (inv_run edits policy) ≤ edit_limit
  is : spelling_of_edits (inv_run edits policy) ++ files_in_given_shape form (named_files_of_policy new) ≡ out

script_within_count_is_written : (b : Bool) (text out : List ℕ) → (if b then Err (layer.Script script.TooMany) else Ok text) ≡ Ok out → (b ≡ false) × (text ≡ out)
script_within_count_is_written true text out e = absurd (cc)
script_within_count_is_written false text out e = (refl, cc)

ok_after_edits_implies_edits_were_ok : (r : Result LoadedPolicy (ℕ × EditFault)) (next : LoadedPolicy → Result (List ℕ) LayerFault) (out : List ℕ) → (edit_result_with_layer_fault r >>= next) ≡ Ok out
    → (new : LoadedPolicy) × (r ≡ Ok new) × (next new ≡ Ok out)
ok_after_edits_implies_edits_were_ok (Ok new) next out e = (new, refl, e)
ok_after_edits_implies_edits_were_ok (Err refused) next out e = absurd (cc)

ok_after_load_implies_policy_loaded : (r : Result LoadedPolicy LoadFault) (next : LoadedPolicy → Result (List ℕ) LayerFault) (out : List ℕ) → (load_result_with_layer_fault r >>= next) ≡ Ok out
    → (policy : LoadedPolicy) × (r ≡ Ok policy) × (next policy ≡ Ok out)
ok_after_load_implies_policy_loaded (Ok policy) next out e = (policy, refl, e)
ok_after_load_implies_policy_loaded (Err fault) next out e = absurd (cc)

ok_after_script_implies_script_read : (r : Result (List Edit) ScriptFault) (next : List Edit → Result (List ℕ) LayerFault) (out : List ℕ) → (script_result_with_layer_fault r >>= next) ≡ Ok out
    → (edits : List Edit) × (r ≡ Ok edits) × (next edits ≡ Ok out)
ok_after_script_implies_script_read (Ok edits) next out e = (edits, refl, e)
ok_after_script_implies_script_read (Err fault) next out e = absurd (cc)

ok_tool_result_is_of_ok_layer : (r : Result (List ℕ) LayerFault) (out : List ℕ) → layer_result_with_tool_fault r ≡ Ok out → r ≡ Ok out
ok_tool_result_is_of_ok_layer (Ok text) out e = let same : text ≡ out = cc in ap (λ z. Ok z) same
ok_tool_result_is_of_ok_layer (Err fault) out e = absurd (cc)

ok_output_implies_files_were_given : (r : Result (List NamedFile) ToolFault) (next : List NamedFile → Result (List ℕ) ToolFault) (out : List ℕ) → result_after_reading_given_files next r ≡ Ok out
    → (files : List NamedFile) × (r ≡ Ok files) × (next files ≡ Ok out)
ok_output_implies_files_were_given (Ok files) next out e = (files, refl, e)
ok_output_implies_files_were_given (Err fault) next out e = absurd (cc)

abbrev ScriptShapeAndPolicyText : Type 0
ScriptShapeAndPolicyText = List ℕ × EditInputShape × List ℕ

ok_output_implies_input_was_split : (undo redo : ℕ) (o : Option ScriptShapeAndPolicyText) (out : List ℕ) → edit_output_of_parts undo redo o ≡ Ok out
    → (p : ScriptShapeAndPolicyText) × (o ≡ Some p) × (result_after_reading_given_files (λ files. layer_result_with_tool_fault (edit_output_of_files p.1 undo redo p.0 files)) (files_of_text_in_shape p.1 p.2) ≡ Ok out)
ok_output_implies_input_was_split undo redo None out e = absurd (cc)
ok_output_implies_input_was_split undo redo (Some p) out e = (p, refl, e)

ok_output_implies_input_within_limit : (b : Bool) (r : Result (List ℕ) ToolFault) (out : List ℕ) → (if b then Err tool.InputTooLarge else r) ≡ Ok out → (b ≡ false) × (r ≡ Ok out)
ok_output_implies_input_within_limit true r out e = absurd (cc)
ok_output_implies_input_within_limit false r out e = (refl, e)

ok_edit_output_has_its_run : LawsOfPoliciesBundlesAndScripts → (undo redo : ℕ) (input out : List ℕ) → edit_output_of_input undo redo input ≡ Ok out → IsEditRunOfInput input out
ok_edit_output_has_its_run l undo redo input out e =
    let w = ok_output_implies_input_within_limit (nat_lt edit_input_limit (length input)) (edit_output_of_parts undo redo (script_shape_and_policy_text input)) out e in
    let a = ok_output_implies_input_was_split undo redo (script_shape_and_policy_text input) out w.1 in
    let form : EditInputShape = a.0.1 in
    let g = ok_output_implies_files_were_given (files_of_text_in_shape form a.0.2) (λ files. layer_result_with_tool_fault (edit_output_of_files form undo redo a.0.0 files)) out a.2 in
    let told : edit_output_of_files form undo redo a.0.0 g.0 ≡ Ok out = ok_tool_result_is_of_ok_layer (edit_output_of_files form undo redo a.0.0 g.0) out g.2 in
    let of_edits : List Edit → Result (List ℕ) LayerFault = λ edits. load_result_with_layer_fault (policy_or_load_fault g.0) >>= edit_output_after_undo_redo form undo redo edits in
    let b = ok_after_script_implies_script_read (edits_spelled_by_text a.0.0) of_edits out told in
    let c = ok_after_load_implies_policy_loaded (policy_or_load_fault g.0) (edit_output_after_undo_redo form undo redo b.0) out b.2 in
    let all = ok_after_edits_implies_edits_were_ok (policy_or_first_refusal 0 b.0 c.0) (λ _. text_of_inverse_and_edited_policy form (edits_after_undo_and_redo undo redo b.0) c.0) out c.2 in
    let stood : List Edit = edits_after_undo_and_redo undo redo b.0 in
    let inverse : List Edit = inv_run stood c.0 in
    let d = ok_after_edits_implies_edits_were_ok (policy_or_first_refusal 0 stood c.0) (inverse_and_files_text form inverse) out all.2 in
    let f = script_within_count_is_written (nat_lt edit_limit (length inverse)) (spelling_of_edits inverse ++ files_in_given_shape form (named_files_of_policy d.0)) out d.2 in
    record {
      short = ltb-false edit_input_limit (length input) w.0;
      script = a.0.0;
      form = form;
      text = a.0.2;
      parts = a.1;
      files = g.0;
      were = g.1;
      edits = stood;
      can = edits_after_undo_are_spellable undo redo b.0 (l.spelled a.0.0 b.0 b.1).2;
      policy = c.0;
      read = c.1;
      new = d.0;
      ran = d.1;
      few = ltb-false edit_limit (length inverse) f.0;
      is = f.1;
    }

-- what is written for a script and files in a form
script_and_files_have_their_edit_output : (l : LawsOfPoliciesBundlesAndScripts) (edits : List Edit) (form : EditInputShape) (files : List NamedFile) (policy new : LoadedPolicy) → AreSpellable edits → length edits ≤ edit_limit
    → CanBeGivenInShape form files → policy_or_load_fault files ≡ Ok policy → policy_or_first_refusal 0 edits policy ≡ Ok new → length (inv_run edits policy) ≤ edit_limit
    → length (spelling_of_edits edits ++ files_in_given_shape form files) ≤ edit_input_limit
    → edit_output_of_input 0 0 (spelling_of_edits edits ++ files_in_given_shape form files) ≡ Ok (spelling_of_edits (inv_run edits policy) ++ files_in_given_shape form (named_files_of_policy new))
script_and_files_have_their_edit_output l edits form files policy new can few may read ran least short =
    let inverse : List Edit = inv_run edits policy in
    let out : List ℕ = spelling_of_edits inverse ++ files_in_given_shape form (named_files_of_policy new) in
    let split = script_and_given_files_are_split_again l edits can form files may in
    let gives : inverse_and_files_text form inverse new ≡ Ok out = rw (le-ltb edit_limit (length inverse) least) refl in
    let last : edit_output_after_undo_redo form 0 0 edits policy ≡ Ok out =
    ap (λ r. edit_result_with_layer_fault r >>= (λ _. text_of_inverse_and_edited_policy form (edits_after_undo_and_redo 0 0 edits) policy)) ran
    ∙ ap (λ stood. text_of_inverse_and_edited_policy form stood policy) (undo_of_no_edit_keeps_all_edits edits)
    ∙ ap (λ r. edit_result_with_layer_fault r >>= inverse_and_files_text form inverse) ran ∙ gives in
    let mid : edit_output_of_files form 0 0 (spelling_of_edits edits) files ≡ Ok out =
    ap (λ r. script_result_with_layer_fault r >>= (λ edits. load_result_with_layer_fault (policy_or_load_fault files) >>= edit_output_after_undo_redo form 0 0 edits)) (l.reads edits can few)
    ∙ ap (λ r. load_result_with_layer_fault r >>= edit_output_after_undo_redo form 0 0 edits) read ∙ last in
    rw (le-ltb edit_input_limit (length (spelling_of_edits edits ++ files_in_given_shape form files)) short)
    (ap (edit_output_of_parts 0 0) split
    ∙ ap (result_after_reading_given_files (λ fs. layer_result_with_tool_fault (edit_output_of_files form 0 0 (spelling_of_edits edits) fs))) (given_files_are_read_of_their_text l form files may)
    ∙ ap layer_result_with_tool_fault mid)

-- THE LAW

pub edit_output_restores_policy : LawsOfPoliciesBundlesAndScripts → (undo redo : ℕ) (input out : List ℕ) → edit_output_of_input undo redo input ≡ Ok out → length out ≤ edit_input_limit → EditOutputRestoresPolicy input out
edit_output_restores_policy l undo redo input out e short =
    let w = ok_edit_output_has_its_run l undo redo input out e in
    let inverse : List Edit = inv_run w.edits w.policy in
    let second : List Edit = inv_run inverse w.new in
    let told = split_policy_text_is_bounded l.pieces input w.script w.text w.form w.parts in
    let were : IsTextOfGivenFiles w.form w.text w.files = read_policy_text_is_of_given_files l w.form w.text w.files told.0 (omega (arith, told.1, w.short)) w.were in
    let loaded : policy_or_load_fault (named_files_of_policy w.policy) ≡ Ok w.policy = ap policy_or_load_fault (l.bytes w.files w.policy w.read) ∙ w.read in
    let taken = l.back w.edits w.policy w.new loaded w.ran in
    let able : AreSpellable inverse = edits_with_fitting_parts_are_spellable inverse (taken.numbered (spellable_edits_have_fitting_numbers w.edits w.can)) (l.named w.edits w.policy (spellable_edits_have_spellable_names w.edits w.can)) in
    let more = l.back inverse w.new w.policy taken.loaded taken.back in
    let fits : AreSpellable second = edits_with_fitting_parts_are_spellable second (more.numbered (spellable_edits_have_fitting_numbers inverse able)) (l.named inverse w.new (spellable_edits_have_spellable_names inverse able)) in
    let least : length second ≤ edit_limit = omega (arith, l.count w.edits w.policy w.new, w.few) in
    let names : names_of_named_files (named_files_of_policy w.new) ≡ names_of_named_files w.files = l.names w.edits w.policy w.new w.ran ∙ ap names_of_named_files (l.bytes w.files w.policy w.read) in
    let may : CanBeGivenInShape w.form (named_files_of_policy w.new) =
    files_of_same_names_can_be_given w.form w.files (named_files_of_policy w.new) were.can names (named_files_of_parsed_are_within_limit w.new.files (l.fit w.new taken.loaded)) in
    let size : length (spelling_of_edits inverse ++ files_in_given_shape w.form (named_files_of_policy w.new)) ≤ edit_input_limit = subst (λ (z : List ℕ). length z ≤ edit_input_limit) (sym w.is) short in
    let back : List ℕ = spelling_of_edits second ++ files_in_given_shape w.form (named_files_of_policy w.policy) in
    let next : edit_output_of_input 0 0 out ≡ Ok back =
    ap (edit_output_of_input 0 0) (sym w.is) ∙ script_and_files_have_their_edit_output l inverse w.form (named_files_of_policy w.new) w.new w.policy able w.few may taken.loaded taken.back least size in
    let first : CanBeGivenInShape w.form (named_files_of_policy w.policy) = subst (CanBeGivenInShape w.form) (sym (l.bytes w.files w.policy w.read)) were.can in
    let split : script_shape_and_policy_text back ≡ Some (spelling_of_edits second, w.form, policy_text_of_files_in_shape w.form (named_files_of_policy w.policy)) = script_and_given_files_are_split_again l second fits w.form (named_files_of_policy w.policy) first in
    let same : policy_text_of_files_in_shape w.form (named_files_of_policy w.policy) ≡ w.text = ap (policy_text_of_files_in_shape w.form) (l.bytes w.files w.policy w.read) ∙ were.is in
    record {
      back = back;
      again = next;
      policy =
          ap (option_map {U = EditInputShape × List ℕ} (λ (parts : ScriptShapeAndPolicyText). (parts.1, parts.2))) split ∙ ap (λ (t : List ℕ). Some (w.form, t)) same
          ∙ sym (ap (option_map {U = EditInputShape × List ℕ} (λ (parts : ScriptShapeAndPolicyText). (parts.1, parts.2))) w.parts);
    }
