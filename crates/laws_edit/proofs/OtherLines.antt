-- A prune that is not refused leaves in each file the lines that define no alias.
use Rattle.std.proofs.Common.{◌≡◌, ◌∙◌, ◌⊎◌, inl, inr, ℕ, zero, suc, ◌≤◌, ◌<◌, Bool, true, false, not, ◌&&◌, ◌==◌, if◌then◌else◌, List, [], ◌∷◌, ◌++◌, length, remove, slice_get, Some, Result, Ok, Err, refl, sym, ap, ap₂, subst, arith}
use Rattle.std.proofs.lemmas.Bool.{and_parts, eq-eqb, eqb-false, eqb-true, leb-false}
use Rattle.std.proofs.lemmas.List.{length-map}
use Rattle.std.proofs.lemmas.List.Elements.{filter-append}
use Rattle.std.specs.List.{AllByRecursion, filter}
use Rattle.std.specs.Prelude.{nat_le}
use Rattle.sudoers_grammar.specs.Node as node
use Rattle.sudoers_grammar.specs.Node.{Def, Node}
use Rattle.sudoers_grammar.specs.declared.node.Kind.{Kind}
use Rattle.sudoers_tree.specs.Changed.{lines_with_one_replaced}
use Rattle.sudoers_tree.specs.Fault.{is_some}
use Rattle.sudoers_tree.specs.Files.{lines_of_numbered_file}
use Rattle.sudoers_tree.specs.Line.{Line}
use Rattle.sudoers_tree.specs.Load.{LoadedPolicy, named_files_of_policy, policy_or_load_fault}
use Rattle.sudoers_tree.specs.Policy.{IsCorrectlyParsed, texts_of_lines}
use Rattle.sudoers_edit_script.specs.declared.edit.Edit.TheVariants.{Prune}
use Rattle.sudoers_edit.proofs.AcceptedLines.{accepted_file_edit_has_file_lines, accepted_result_is_not_refused, accepted_sequence_has_both_results}
use Rattle.sudoers_edit.proofs.DropDef.{ReadsWithoutOneDefinition, line_with_one_less_reads_without_definition}
use Rattle.sudoers_edit.proofs.FilesBelow.{loaded_file_lines_are_correctly_parsed, parsed_lines_of_equal_texts_are_equal}
use Rattle.sudoers_edit.proofs.LawsBelow.{prune_edit_laws_hold}
use Rattle.sudoers_edit.proofs.PruneCut.{definition_drop_cuts_at_owned_bytes}
use Rattle.sudoers_edit.proofs.PruneGoes.{IsSplitAtLine, alias_line_has_no_include_lead, leadless_line_can_be_removed, lines_are_split_at_numbered_line, removal_behind_front_leaves_other_texts, replacement_behind_front_sets_line_text, single_reading_is_reading_of_text}
use Rattle.sudoers_edit.proofs.PruneLists.{joined_lines_are_correctly_parsed, parts_of_correctly_parsed_lines_are_so}
use Rattle.sudoers_edit.proofs.PruneOut.{file_on_walk_is_on_equal_walk}
use Rattle.sudoers_edit.proofs.PruneRefused.{IsDropOutcome, drop_among_several_has_outcome, gone, refused}
use Rattle.sudoers_edit.proofs.Whole.{item_behind_front_is_at_front_length}
use Rattle.sudoers_edit.specs.Editing.{policy_after_removal, policy_after_removals, step}
use Rattle.sudoers_edit.specs.Landing.{LineTexts, result_or_refusal_if_none, result_unless_refused}
use Rattle.sudoers_edit.specs.Pruning.{prune_removals_of_walk}
use Rattle.sudoers_edit.specs.Splice.{ByteExtent, extents_of_definitions, owned_bytes_start, owned_bytes_stop}
use Rattle.sudoers_edit.specs.SpliceEdits.{definitions_of_alias_line, has_one_item_more, lines_with_definition_dropped, lines_with_item_cut_out, result_with_bytes_to_drop_item}
use Rattle.sudoers_edit.specs.declared.extra_item.ItemListKind.TheVariants as among
use Rattle.sudoers_edit.specs.declared.fault.EditFault.{EditFault}
use Rattle.sudoers_edit.specs.declared.fault.EditFault.TheVariants.{BadSplice, NoPlace, OnlyOne}
use Rattle.sudoers_edit.specs.declared.prune_removals.PruneRemoval.{PruneRemoval}
use Rattle.sudoers_edit.specs.declared.prune_removals.PruneRemoval.TheVariants as removal
use Rattle.sudoers_edit.specs.internal.Drafts.{AreRemovalsBelowLimitsInTurn, CanRemoveDefinition, CanRemoveLine, IsAliasLineOnWalk, IsDefinitionCut, is_line_cut_by_removal, limits_with_limit_of_file_set}
use Rattle.laws_edit.specs.Pruned.{has_no_alias_definition}
use Rattle.laws_edit.proofs.OtherFiles.{removals_of_loaded_policy_are_allowed}

-- ---- lists

failing_item_is_filtered_out : {X : Type 0} (test : X → Bool) (x : X) (xs : List X) → test x ≡ false
    → filter test (x ∷ xs) ≡ filter test xs
failing_item_is_filtered_out test x xs fails = rw fails refl

failing_items_in_place_of_failing_item_are_filtered_out : {X : Type 0} (test : X → Bool) (front : List X) (x : X) (news after : List X)
    → test x ≡ false → filter test news ≡ [] → filter test (front ++ (news ++ after)) ≡ filter test (front ++ x ∷ after)
failing_items_in_place_of_failing_item_are_filtered_out {X} test front x news after fails none =
    filter-append test front (news ++ after)
    ∙ ap (λ (xs : List X). filter test front ++ xs)
    (filter-append test news after ∙ ap (λ (xs : List X). xs ++ filter test after) none ∙ sym (failing_item_is_filtered_out test x after fails))
    ∙ sym (filter-append test front (x ∷ after))

item_within_front_is_that_of_front : {X : Type 0} (front xs ys : List X) (n : ℕ) → n < length front
    → slice_get (front ++ xs) n ≡ slice_get (front ++ ys) n
item_within_front_is_that_of_front [] xs ys n less = absurd (omega (arith, less))
item_within_front_is_that_of_front (x ∷ front) xs ys zero less = refl
item_within_front_is_that_of_front (x ∷ front) xs ys (suc n) less = item_within_front_is_that_of_front front xs ys n (omega (arith, less))

-- ---- one removal

-- the lines of the file with this number that define no alias
abbrev other_lines_of_file : ℕ → LoadedPolicy → List Line
other_lines_of_file f policy = filter has_no_alias_definition (lines_of_numbered_file policy.files f)

-- An alias line of a file is gone in the next policy, or other alias lines stand in its place. Nothing else has changed.
record ReplacesAliasLine (f n : ℕ) (now next : LoadedPolicy) : Type 0 where
  loaded : policy_or_load_fault (named_files_of_policy next) ≡ Ok next
  on : next.walk.on ≡ now.walk.on
  front : List Line
  line : Line
  news : List Line
  after : List Line
  place : length front ≡ n
  before : lines_of_numbered_file now.files f ≡ front ++ line ∷ after
  here : lines_of_numbered_file next.files f ≡ front ++ (news ++ after)
  there : (e : ℕ) → (e ≡ f → ⊥) → lines_of_numbered_file next.files e ≡ lines_of_numbered_file now.files e
  alias : has_no_alias_definition line ≡ false
  none : filter has_no_alias_definition news ≡ []

accepted_policies_are_equal : (a b : LoadedPolicy) → (let r : Result LoadedPolicy EditFault = Ok a in r) ≡ Ok b → a ≡ b
accepted_policies_are_equal a b is = cc

-- lines that read as they are kept, in place of one
pub lines_of_file_are_told_by_texts : (now next : LoadedPolicy) (f : ℕ) (front : List Line) (line : Line) (news after : List Line)
    → policy_or_load_fault (named_files_of_policy now) ≡ Ok now → policy_or_load_fault (named_files_of_policy next) ≡ Ok next
    → lines_of_numbered_file now.files f ≡ front ++ line ∷ after → AllByRecursion IsCorrectlyParsed news
    → texts_of_lines (lines_of_numbered_file next.files f) ≡ texts_of_lines (front ++ (news ++ after))
    → lines_of_numbered_file next.files f ≡ front ++ (news ++ after)
lines_of_file_are_told_by_texts now next f front line news after old new before says same =
    let whole : AllByRecursion IsCorrectlyParsed (front ++ line ∷ after) =
    subst (AllByRecursion IsCorrectlyParsed) before (loaded_file_lines_are_correctly_parsed (named_files_of_policy now) now old f) in
    let parts = parts_of_correctly_parsed_lines_are_so front (line ∷ after) whole in
    parsed_lines_of_equal_texts_are_equal (lines_of_numbered_file next.files f) (front ++ (news ++ after))
    (loaded_file_lines_are_correctly_parsed (named_files_of_policy next) next new f)
    (joined_lines_are_correctly_parsed front (news ++ after) parts.0 (joined_lines_are_correctly_parsed news after says parts.1.1)) same

alias_node_defines_alias : (says : Node) (kind : Kind) (defs : List Def) → says ≡ node.Alias kind defs
    → not (is_some (definitions_of_alias_line says)) ≡ false
alias_node_defines_alias says kind defs makes = ap (λ (m : Node). not (is_some (definitions_of_alias_line m))) makes

accepted_line_removal_replaces_alias_line : (now next : LoadedPolicy) (f n : ℕ) → policy_or_load_fault (named_files_of_policy now) ≡ Ok now
    → IsAliasLineOnWalk now f n → policy_after_removal (removal.Line f n) now ≡ Ok next → ReplacesAliasLine f n now next
accepted_line_removal_replaces_alias_line now next f n loaded alias is =
    subst (ReplacesAliasLine f n now) (accepted_policies_are_equal goes.next next (sym goes.made.forth ∙ is)) (record {
      loaded = goes.left.loaded;
      on = goes.left.on;
      front = c.front;
      line = alias.line;
      news = [];
      after = c.after;
      place = c.place;
      before = c.is;
      here = lines_of_file_are_told_by_texts now goes.next f c.front alias.line [] c.after loaded goes.left.loaded c.is tt
          (goes.left.here ∙ ap₂ (λ (ls : List Line) (m : ℕ). remove (texts_of_lines ls) m) c.is (sym c.place)
          ∙ removal_behind_front_leaves_other_texts c.front alias.line c.after);
      there = goes.left.there;
      alias = alias_node_defines_alias alias.line.node alias.kind alias.defs alias.makes;
      none = refl;
    })
  where
    goes : CanRemoveLine f n now
    goes =
        leadless_line_can_be_removed prune_edit_laws_hold now f n alias.line loaded alias.on alias.here
        (λ name. alias_line_has_no_include_lead name alias.kind alias.defs alias.line.node alias.makes)

    c : IsSplitAtLine (lines_of_numbered_file now.files f) n alias.line
    c = lines_are_split_at_numbered_line (lines_of_numbered_file now.files f) n alias.line alias.here

-- a drop that is not refused
accepted_drop_is_of_one_among_several : (at : ℕ) (xs : List ByteExtent) (next : ℕ → ℕ → Result LineTexts EditFault) (new : LineTexts)
    → result_with_bytes_to_drop_item at xs next ≡ Ok new → (at < length xs) × (2 ≤ length xs)
accepted_drop_is_of_one_among_several at xs next new is =
    let by_seam : Result LineTexts EditFault =
    result_or_refusal_if_none (owned_bytes_start at xs) BadSplice
    (λ from. result_or_refusal_if_none (owned_bytes_stop at xs) BadSplice (λ to. next from to)) in
    let a = accepted_result_is_not_refused (nat_le (length xs) at) NoPlace (result_unless_refused (length xs == 1) OnlyOne by_seam) new is in
    let b = accepted_result_is_not_refused (length xs == 1) OnlyOne by_seam new a.1 in
    let inside : at < length xs = omega (arith, leb-false (length xs) at a.0) in
    let more : length xs ≡ 1 → ⊥ = λ one. eqb-false (length xs) 1 b.0 one in
    (inside, omega (arith, inside, more))

accepted_definition_removal_replaces_alias_line : (now next : LoadedPolicy) (f n at : ℕ)
    → policy_or_load_fault (named_files_of_policy now) ≡ Ok now → IsAliasLineOnWalk now f n
    → policy_after_removal (removal.Def f n at) now ≡ Ok next → ReplacesAliasLine f n now next × IsAliasLineOnWalk next f n
accepted_definition_removal_replaces_alias_line now next f n at loaded alias is =
    by (drop_among_several_has_outcome prune_edit_laws_hold now f n at alias.line alias.kind alias.defs loaded alias.on alias.here alias.makes
    (omega (arith, several.0, count)) (omega (arith, several.1, count)))
  where
    lines : List Line
    lines = lines_of_numbered_file now.files f

    xs : List ByteExtent
    xs = extents_of_definitions alias.defs

    count : length xs ≡ length alias.defs
    count = length-map alias.defs (λ (d : Def). (d.start, d.stop))

    several : (at < length xs) × (2 ≤ length xs)
    several =
        let i = accepted_file_edit_has_file_lines f now next (lines_with_definition_dropped n at) is in
        accepted_drop_is_of_one_among_several at xs (λ from to. lines_with_item_cut_out among.Definitions at from to n alias.line lines) i.lines
        (sym (definition_drop_cuts_at_owned_bytes n at lines alias.line alias.defs alias.here (ap definitions_of_alias_line alias.makes)) ∙ i.made)

    c : IsSplitAtLine lines n alias.line
    c = lines_are_split_at_numbered_line lines n alias.line alias.here

    by_cut : (text splice : List ℕ) → IsDefinitionCut n at lines alias.line text splice → CanRemoveDefinition f n at now text splice
        → ReplacesAliasLine f n now next × IsAliasLineOnWalk next f n
    by_cut text splice d goes =
        let new : Line = record { text = text; node = d.cut.new } in
        let less : ReadsWithoutOneDefinition alias.kind alias.defs at d.cut.new =
        line_with_one_less_reads_without_definition alias.kind alias.defs at d.from d.to d.cut.new
        (subst (λ (m : Node). has_one_item_more among.Definitions at d.from d.to (Some m) (Some d.cut.new) ≡ true) alias.makes d.cut.more) in
        let here : lines_of_numbered_file goes.next.files f ≡ c.front ++ ((new ∷ []) ++ c.after) =
        lines_of_file_are_told_by_texts now goes.next f c.front alias.line (new ∷ []) c.after loaded goes.left.loaded c.is
        (single_reading_is_reading_of_text text d.cut.new (prune_edit_laws_hold.outcome text) d.cut.says, tt)
        (goes.left.here ∙ ap₂ (λ (ls : List Line) (m : ℕ). lines_with_one_replaced m text (texts_of_lines ls)) c.is (sym c.place)
        ∙ replacement_behind_front_sets_line_text c.front alias.line new c.after) in
        subst (λ (p : LoadedPolicy). ReplacesAliasLine f n now p × IsAliasLineOnWalk p f n)
        (accepted_policies_are_equal goes.next next (sym goes.made.forth ∙ is)) (
          record {
            loaded = goes.left.loaded;
            on = goes.left.on;
            front = c.front;
            line = alias.line;
            news = new ∷ [];
            after = c.after;
            place = c.place;
            before = c.is;
            here = here;
            there = goes.left.there;
            alias = alias_node_defines_alias alias.line.node alias.kind alias.defs alias.makes;
            none = failing_item_is_filtered_out has_no_alias_definition new [] (alias_node_defines_alias d.cut.new alias.kind less.less less.is);
          },
          record {
            on = file_on_walk_is_on_equal_walk now goes.next f goes.left.on alias.on;
            line = new;
            here = ap₂ (λ (ls : List Line) (m : ℕ). slice_get ls m) here (sym c.place)
                ∙ item_behind_front_is_at_front_length c.front new c.after;
            kind = alias.kind;
            defs = less.less;
            makes = less.is;
          },
        )

    by : IsDropOutcome now f n at alias.line → ReplacesAliasLine f n now next × IsAliasLineOnWalk next f n
    by (refused told) = let both : Err BadSplice ≡ Ok next = sym told ∙ is in absurd cc
    by (gone text splice d goes) = by_cut text splice d goes

-- ---- one removal after another

-- After some removals each file has its lines that define no alias. The lines below the limits are those of the policy. The line that is
-- cut is an alias line.
record KeepsOtherLinesSoFar (policy now : LoadedPolicy) (below : ℕ → ℕ) (cut : ℕ → ℕ → Bool) : Type 0 where
  loaded : policy_or_load_fault (named_files_of_policy now) ≡ Ok now
  on : now.walk.on ≡ policy.walk.on
  others : (f : ℕ) → other_lines_of_file f now ≡ other_lines_of_file f policy
  start : (f n : ℕ) (line : Line) → n < below f → slice_get (lines_of_numbered_file policy.files f) n ≡ Some line
      → slice_get (lines_of_numbered_file now.files f) n ≡ Some line
  last : (f n : ℕ) → cut f n ≡ true → (n ≤ below f) × IsAliasLineOnWalk now f n

alias_line_below_limit_stays : (policy now : LoadedPolicy) (below : ℕ → ℕ) (cut : ℕ → ℕ → Bool) (f n : ℕ)
    → KeepsOtherLinesSoFar policy now below cut → n < below f → IsAliasLineOnWalk policy f n → IsAliasLineOnWalk now f n
alias_line_below_limit_stays policy now below cut f n stage under alias = record {
  on = file_on_walk_is_on_equal_walk policy now f stage.on alias.on;
  line = alias.line;
  here = stage.start f n alias.line under alias.here;
  kind = alias.kind;
  defs = alias.defs;
  makes = alias.makes;
}

replaced_alias_line_keeps_other_lines : (policy now next : LoadedPolicy) (below : ℕ → ℕ) (cut after_cut : ℕ → ℕ → Bool) (f n : ℕ)
    → KeepsOtherLinesSoFar policy now below cut → n ≤ below f → ReplacesAliasLine f n now next
    → ((e m : ℕ) → after_cut e m ≡ true → (m ≤ limits_with_limit_of_file_set f n below e) × IsAliasLineOnWalk next e m)
    → KeepsOtherLinesSoFar policy next (limits_with_limit_of_file_set f n below) after_cut
replaced_alias_line_keeps_other_lines policy now next below cut after_cut f n stage under r last = record {
  loaded = r.loaded;
  on = r.on ∙ stage.on;
  others = λ e. others_of e (e == f) refl ∙ stage.others e;
  start = λ e m line less is. start_of e m line (e == f) refl less is;
  last = last;
}
  where
    others_of : (e : ℕ) (b : Bool) → (e == f) ≡ b → other_lines_of_file e next ≡ other_lines_of_file e now
    others_of e true is =
        subst (λ (d : ℕ). other_lines_of_file d next ≡ other_lines_of_file d now) (sym (eqb-true e f is))
        (ap (filter has_no_alias_definition) r.here
        ∙ failing_items_in_place_of_failing_item_are_filtered_out has_no_alias_definition r.front r.line r.news r.after r.alias r.none
        ∙ sym (ap (filter has_no_alias_definition) r.before))
    others_of e false is = ap (filter has_no_alias_definition) (r.there e (eqb-false e f is))

    start_here : (m : ℕ) (line : Line) → m < n → slice_get (lines_of_numbered_file policy.files f) m ≡ Some line
        → slice_get (lines_of_numbered_file next.files f) m ≡ Some line
    start_here m line less is =
        ap (λ (ls : List Line). slice_get ls m) r.here
        ∙ item_within_front_is_that_of_front r.front (r.news ++ r.after) (r.line ∷ r.after) m (omega (arith, less, r.place))
        ∙ sym (ap (λ (ls : List Line). slice_get ls m) r.before) ∙ stage.start f m line (omega (arith, less, under)) is

    start_of : (e m : ℕ) (line : Line) (b : Bool) → (e == f) ≡ b → m < (if b then n else below e)
        → slice_get (lines_of_numbered_file policy.files e) m ≡ Some line
        → slice_get (lines_of_numbered_file next.files e) m ≡ Some line
    start_of e m line true is less there =
        let file : f ≡ e = sym (eqb-true e f is) in
        subst (λ (d : ℕ). slice_get (lines_of_numbered_file next.files d) m ≡ Some line) file
        (start_here m line less (ap (λ (d : ℕ). slice_get (lines_of_numbered_file policy.files d) m) file ∙ there))
    start_of e m line false is less there =
        ap (λ (ls : List Line). slice_get ls m) (r.there e (eqb-false e f is)) ∙ stage.start e m line less there

accepted_removals_keep_other_lines : (policy : LoadedPolicy) (all : List PruneRemoval) (now new : LoadedPolicy) (below : ℕ → ℕ)
    (cut : ℕ → ℕ → Bool)
    → KeepsOtherLinesSoFar policy now below cut → AreRemovalsBelowLimitsInTurn policy below cut all → policy_after_removals all now ≡ Ok new
    → (g : ℕ) → other_lines_of_file g new ≡ other_lines_of_file g policy
accepted_removals_keep_other_lines policy [] now new below cut stage allowed is g =
    let same : now ≡ new = cc in
    ap (λ (p : LoadedPolicy). other_lines_of_file g p) (sym same) ∙ stage.others g
accepted_removals_keep_other_lines policy (removal.Line f n ∷ all) now new below cut stage allowed is g =
    let first = accepted_sequence_has_both_results (policy_after_removal (removal.Line f n) now) (policy_after_removals all) new is in
    let alias : IsAliasLineOnWalk now f n = alias_line_below_limit_stays policy now below cut f n stage allowed.0.0 allowed.0.1 in
    accepted_removals_keep_other_lines policy all first.0 new (limits_with_limit_of_file_set f n below) (is_line_cut_by_removal (removal.Line f n))
    (replaced_alias_line_keeps_other_lines policy now first.0 below cut (is_line_cut_by_removal (removal.Line f n)) f n stage
    (omega (arith, allowed.0.0))
    (accepted_line_removal_replaces_alias_line now first.0 f n stage.loaded alias first.1) (λ e m cuts. absurd cc)) allowed.1 first.2 g
accepted_removals_keep_other_lines policy (removal.Def f n at ∷ all) now new below cut stage allowed is g =
    accepted_removals_keep_other_lines policy all first.0 new limits (is_line_cut_by_removal (removal.Def f n at))
    (replaced_alias_line_keeps_other_lines policy now first.0 below cut (is_line_cut_by_removal (removal.Def f n at)) f n stage
    alias.0 both.0 last) allowed.1 first.2 g
  where
    first : (next : LoadedPolicy) × (policy_after_removal (removal.Def f n at) now ≡ Ok next) × (policy_after_removals all next ≡ Ok new)
    first = accepted_sequence_has_both_results (policy_after_removal (removal.Def f n at) now) (policy_after_removals all) new is

    limits : ℕ → ℕ
    limits = limits_with_limit_of_file_set f n below

    by : (n < below f) ⊎ (cut f n ≡ true) → (n ≤ below f) × IsAliasLineOnWalk now f n
    by (inl under) = (omega (arith, under), alias_line_below_limit_stays policy now below cut f n stage under allowed.0.1)
    by (inr cuts) = stage.last f n cuts

    alias : (n ≤ below f) × IsAliasLineOnWalk now f n
    alias = by allowed.0.0

    both : ReplacesAliasLine f n now first.0 × IsAliasLineOnWalk first.0 f n
    both = accepted_definition_removal_replaces_alias_line now first.0 f n at stage.loaded alias.1 first.1

    limit_is : limits f ≡ n
    limit_is = rw (eq-eqb f f refl) refl

    last : (e m : ℕ) → ((e == f) && (m == n)) ≡ true → (m ≤ limits e) × IsAliasLineOnWalk first.0 e m
    last e m cuts =
        let parts = and_parts (e == f) (m == n) cuts in
        subst (λ (d : ℕ). (m ≤ limits d) × IsAliasLineOnWalk first.0 d m) (sym (eqb-true e f parts.0))
        (subst (λ (i : ℕ). (i ≤ limits f) × IsAliasLineOnWalk first.0 f i) (sym (eqb-true m n parts.1)) (omega (arith, limit_is), both.1))

-- ---- a prune

pub accepted_prune_keeps_other_lines : (policy new : LoadedPolicy) (f : ℕ) → policy_or_load_fault (named_files_of_policy policy) ≡ Ok policy
    → step Prune policy ≡ Ok new → other_lines_of_file f new ≡ other_lines_of_file f policy
accepted_prune_keeps_other_lines policy new f loaded is =
    accepted_removals_keep_other_lines policy (prune_removals_of_walk policy.walk) policy new
    (λ e. length (lines_of_numbered_file policy.files e)) (λ e n. false)
    (record { loaded = loaded; on = refl; others = λ e. refl; start = λ e n line less there. there; last = λ e n cuts. absurd cc })
    (removals_of_loaded_policy_are_allowed policy loaded) is f
