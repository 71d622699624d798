-- Used definitions can stand behind one another, and define no more aliases.
use Rattle.laws_program.proofs.Common.{◌≡◌, ℕ, ◌+◌, ◌≤◌, Bool, true, false, if◌then◌else◌, List, [], ◌∷◌, ◌++◌, map, Option, Some, None, refl, sym, ap, subst}
use Rattle.laws_program.proofs.Common.{◌∙◌, arith, AllByRecursion, filter, Kind, Line, PlacedDefinition, definitions_of_lines, is_equal_kind, first_definition_of, is_definition_of_name, alias_limit_of_each_kind}
use Rattle.laws_program.proofs.Common.{definition_count_of_kind, HasUnreservedName, HaveDistinctNames, is_used, used_definitions}
use Rattle.std.specs.Option.{option_map}
use Rattle.sudoers_grammar.specs.declared.node.Atom.TheVariants as atom
use Rattle.laws_program.proofs.Aliases.{KindAndDefinition, kinds_and_definitions_of_placed, members_of_first_definition_named, members_found_ignore_definition_places}
use Rattle.laws_program.proofs.Keys.{KindAndName, kinds_and_names_of_definitions, same_keys_keep_unreserved_names, same_keys_have_same_definition_count, same_keys_keep_names_distinct}
use Rattle.laws_program.proofs.ReadLines.{CanDefinitionsFormPolicy}
use Rattle.laws_program.proofs.Flattened.{KeepsUndefinedAliases}
use Rattle.laws_program.proofs.Kept.{lines_of_used_rules, used_lines_have_used_definitions}

module _ (p : PlacedDefinition → Bool) where
  pub all_filtered : (P : PlacedDefinition → Type 0) (ds : List PlacedDefinition) → AllByRecursion P ds → AllByRecursion P (filter p ds)
  all_filtered P [] all = tt
  all_filtered P (d ∷ ds) all = by (p d) (all_filtered P ds all.1)
    where
      by : (b : Bool) → AllByRecursion P (filter p ds) → AllByRecursion P (if b then d ∷ filter p ds else filter p ds)
      by true rest = (all.0, rest)
      by false rest = rest

  less : (k : Kind) (ds : List PlacedDefinition) → definition_count_of_kind k (filter p ds) ≤ definition_count_of_kind k ds
  less k [] = omega arith
  less k (d ∷ ds) = by (p d) (is_equal_kind k d.kind) refl (less k ds)
    where
      counted : (t : Bool) → is_equal_kind k d.kind ≡ t → (es : List PlacedDefinition) → definition_count_of_kind k (d ∷ es) ≡ (if t then 1 + definition_count_of_kind k es else definition_count_of_kind k es)
      counted t e es = ap (λ u. if u then 1 + definition_count_of_kind k es else definition_count_of_kind k es) e

      by : (b t : Bool) → is_equal_kind k d.kind ≡ t → definition_count_of_kind k (filter p ds) ≤ definition_count_of_kind k ds
          → definition_count_of_kind k (if b then d ∷ filter p ds else filter p ds) ≤ definition_count_of_kind k (d ∷ ds)
      by true true e h = let one = counted true e (filter p ds) in let other = counted true e ds in omega (arith, one, other, h)
      by true false e h = let one = counted false e (filter p ds) in let other = counted false e ds in omega (arith, one, other, h)
      by false true e h = let other = counted true e ds in omega (arith, other, h)
      by false false e h = let other = counted false e ds in omega (arith, other, h)

  -- what is not defined is not defined among fewer
  still_undefined : (k : Kind) (name : List ℕ) (ds : List PlacedDefinition) → first_definition_of k name ds ≡ None → first_definition_of k name (filter p ds) ≡ None
  still_undefined k name [] e = refl
  still_undefined k name (d ∷ ds) e = by (p d) (is_definition_of_name k name d) refl (still_undefined k name ds)
    where
      by : (b t : Bool) → is_definition_of_name k name d ≡ t → (first_definition_of k name ds ≡ None → first_definition_of k name (filter p ds) ≡ None)
          → first_definition_of k name (if b then d ∷ filter p ds else filter p ds) ≡ None
      by b true f later =
          let some : Some d ≡ None = sym (ap (λ t. if t then Some d else first_definition_of k name ds) f) ∙ e in
          absurd cc
      by true false f later =
          ap (λ t. if t then Some d else first_definition_of k name (filter p ds)) f ∙ later (sym (ap (λ t. if t then Some d else first_definition_of k name ds) f) ∙ e)
      by false false f later = later (sym (ap (λ t. if t then Some d else first_definition_of k name ds) f) ∙ e)

  -- A definition of fewer ones stands in the list behind those that it stands behind there.
  record StandsAt (ds before : List PlacedDefinition) (d : PlacedDefinition) : Type 0 where
    those : List PlacedDefinition
    after : List PlacedDefinition
    is : ds ≡ those ++ d ∷ after
    fewer : before ≡ filter p those

  stands_at : (ds before : List PlacedDefinition) (d : PlacedDefinition) (after : List PlacedDefinition) → filter p ds ≡ before ++ d ∷ after → StandsAt ds before d
  stands_at [] [] d after e = absurd cc
  stands_at [] (b ∷ before) d after e = absurd cc
  stands_at (x ∷ ds) before d after e = by (p x) refl before e (stands_at ds)
    where
      by : (t : Bool) → p x ≡ t → (before : List PlacedDefinition) → (if t then x ∷ filter p ds else filter p ds) ≡ before ++ d ∷ after
          → ((before : List PlacedDefinition) (d : PlacedDefinition) (after : List PlacedDefinition) → filter p ds ≡ before ++ d ∷ after → StandsAt ds before d) → StandsAt (x ∷ ds) before d
      by false f before e later =
          let more = later before d after e in
          record {
            those = x ∷ more.those;
            after = more.after;
            is = ap (λ xs. x ∷ xs) more.is;
            fewer = more.fewer ∙ sym (ap (λ t. if t then x ∷ filter p more.those else filter p more.those) f);
          }
      by true f [] e later = record { those = []; after = ds; is = ap (λ y. y ∷ ds) (cc); fewer = refl }
      by true f (b ∷ before) e later =
          let more = later before d after (cc) in
          let same : b ≡ x = cc in
          record {
            those = x ∷ more.those;
            after = more.after;
            is = ap (λ xs. x ∷ xs) more.is;
            fewer = ap (λ y. y ∷ before) same ∙ ap (λ xs. x ∷ xs) more.fewer ∙ sym (ap (λ t. if t then x ∷ filter p more.those else filter p more.those) f);
          }

  once_filtered : (ds : List PlacedDefinition) → HaveDistinctNames ds → HaveDistinctNames (filter p ds)
  once_filtered ds once before after d e =
      let at = stands_at ds before d after e in
      ap (first_definition_of d.kind d.def.name) at.fewer ∙ still_undefined d.kind d.def.name at.those (once at.those at.after d at.is)

  pub filtered_stand : (ds : List PlacedDefinition) → CanDefinitionsFormPolicy ds → CanDefinitionsFormPolicy (filter p ds)
  filtered_stand ds may = record {
    free = all_filtered HasUnreservedName ds may.free;
    once = once_filtered ds may.once;
    few = λ k. let fewer = less k ds in let limit = may.few k in omega (arith, fewer, limit);
  }

-- ---- definitions that say the same

keys_are_those_of_kinds_and_definitions : (ds : List PlacedDefinition) → kinds_and_names_of_definitions ds ≡ map (λ (s : KindAndDefinition). (s.0, s.1.name)) (kinds_and_definitions_of_placed ds)
keys_are_those_of_kinds_and_definitions [] = refl
keys_are_those_of_kinds_and_definitions (d ∷ ds) = ap (λ (keys : List KindAndName). (d.kind, d.def.name) ∷ keys) (keys_are_those_of_kinds_and_definitions ds)

same_definitions_can_form_policy_too : (ds es : List PlacedDefinition) → kinds_and_definitions_of_placed ds ≡ kinds_and_definitions_of_placed es → CanDefinitionsFormPolicy ds → CanDefinitionsFormPolicy es
same_definitions_can_form_policy_too ds es same may =
    let keys : kinds_and_names_of_definitions ds ≡ kinds_and_names_of_definitions es = keys_are_those_of_kinds_and_definitions ds ∙ ap (map (λ (s : KindAndDefinition). (s.0, s.1.name))) same ∙ sym (keys_are_those_of_kinds_and_definitions es) in
    record {
      free = same_keys_keep_unreserved_names ds es keys may.free;
      once = same_keys_keep_names_distinct ds es keys may.once;
      few = λ k. subst (λ n. n ≤ alias_limit_of_each_kind) (same_keys_have_same_definition_count k ds es keys) (may.few k);
    }

-- The definitions that are kept can stand.
pub used_definitions_can_form_policy : (lines : List Line) → CanDefinitionsFormPolicy (definitions_of_lines lines) → CanDefinitionsFormPolicy (definitions_of_lines (lines_of_used_rules lines))
used_definitions_can_form_policy lines may = same_definitions_can_form_policy_too (used_definitions lines) (definitions_of_lines (lines_of_used_rules lines)) (sym (used_lines_have_used_definitions lines)) (filtered_stand (is_used lines) (definitions_of_lines lines) may)

no_members_found_implies_no_definition : (o : Option PlacedDefinition) → option_map (λ (d : PlacedDefinition). d.def.members) o ≡ None → o ≡ None
no_members_found_implies_no_definition None e = refl
no_members_found_implies_no_definition (Some d) e = absurd cc

-- What names no alias names none where only used definitions are kept.
pub used_lines_keep_undefined_aliases : (lines : List Line) → KeepsUndefinedAliases lines (lines_of_used_rules lines)
used_lines_keep_undefined_aliases lines k (atom.Alias name) e =
    let used = still_undefined (is_used lines) k name (definitions_of_lines lines) (no_members_found_implies_no_definition (first_definition_of k name (definitions_of_lines lines)) e) in
    members_found_ignore_definition_places k name (definitions_of_lines (lines_of_used_rules lines))
    ∙ ap (members_of_first_definition_named k name) (used_lines_have_used_definitions lines)
    ∙ sym (members_found_ignore_definition_places k name (used_definitions lines))
    ∙ ap (option_map (λ (d : PlacedDefinition). d.def.members)) used
used_lines_keep_undefined_aliases lines k n e = refl
