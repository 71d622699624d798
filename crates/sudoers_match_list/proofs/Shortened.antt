-- Shortcuts through chains of aliases.
use Rattle.sudoers_match_list.proofs.Common.{AreDefinitionShortcuts, Bool, IsPendingPartInPlaceOfAliasMember, AreEndsOfAliasChainOfAtom, IsDefinitionShortcut, IsListReachedByExpansions, Kind, Line, List, Member, None, Option, PendingListPart}
use Rattle.sudoers_match_list.proofs.Common.{PlacedDefinition, Some, Tables, [], alias_members_of_atom, ap, arith, definitions_of_lines, expansion_steps, false, flipped_if_negated, get-set, get_or, get_push, inl}
use Rattle.sudoers_match_list.proofs.Common.{inr, kind_and_members_of_definition, kind_and_members_of_row, kind_of_definition_at, kind_of_definition_or_user, length, length-append, length-map}
use Rattle.sudoers_match_list.proofs.Common.{list_expanded_n_times, list_with_aliases_expanded_once, map, map-append, member_in_tables, member_or_alias_members, member_under_negation, members_of_optional_definition}
use Rattle.sudoers_match_list.proofs.Common.{members_of_definition_number, number_of_definition, option_map, refl, slice_get, slice_get-map, subst, suc, sym, true, zero, zero-add, ℕ, ◌++◌, ◌+◌, ◌<◌, ◌∙◌, ◌∷◌, ◌≡◌}
use Rattle.sudoers_match_list.proofs.Common.{◌≤◌}
use Rattle.std.proofs.Math.ListN.{set, length-set}
use Rattle.sudoers_grammar.specs.declared.node.Atom.TheVariants as atom
use Rattle.sudoers_match_list.proofs.Numbered.{alias_some, number_within, number_of_definition_is_of_its_definition, definition_of_name_has_kind_and_name}
use Rattle.sudoers_match_list.specs.declared.expansion_source.AliasChainEnds.{AliasChainEnds}
use Rattle.sudoers_match_list.specs.declared.definition_rows.DefinitionKindAndMembers.{DefinitionKindAndMembers}
use Rattle.sudoers_match_list.specs.declared.alias_shortcuts.AliasShortcut.{AliasShortcut}
use Rattle.sudoers_match_list.proofs.Parts.{members_not_negated_are_unchanged, times_alias, steps_alias}

-- ---- definitions

-- what a row says of the definition with its number
pub definition_row_is_of_numbered_definition : (t : Tables) (rows : List DefinitionKindAndMembers) (lines : List Line) (n : ℕ) (r : DefinitionKindAndMembers) → map (kind_and_members_of_row t) rows ≡ map kind_and_members_of_definition (definitions_of_lines lines) → slice_get rows n ≡ Some r
    → (r.kind ≡ kind_of_definition_at lines n) × (map (member_in_tables t) r.members.now ≡ members_of_definition_number lines n)
definition_row_is_of_numbered_definition t rows lines n r same is = by (slice_get (definitions_of_lines lines) n)
    (sym (slice_get-map kind_and_members_of_definition (definitions_of_lines lines) n) ∙ ap (λ xs. slice_get xs n) (sym same) ∙ slice_get-map (kind_and_members_of_row t) rows n ∙ ap (option_map (kind_and_members_of_row t)) is)
  where
    by : (o : Option PlacedDefinition) → option_map kind_and_members_of_definition o ≡ Some (kind_and_members_of_row t r) → (r.kind ≡ kind_of_definition_or_user o) × (map (member_in_tables t) r.members.now ≡ members_of_optional_definition o)
    by None e = absurd cc
    by (Some d) e =
        let two : kind_and_members_of_definition d ≡ kind_and_members_of_row t r = cc in
        (sym (ap (λ (p : Kind × List Member). p.0) two), sym (ap (λ (p : Kind × List Member). p.1) two))

pub one_element_list_is_its_first_element : {X : Type 0} (xs : List X) (d : X) → 1 ≤ length xs → length xs < 2 → get_or xs 0 d ∷ [] ≡ xs
one_element_list_is_its_first_element [] d h few = absurd (omega arith)
one_element_list_is_its_first_element (x ∷ []) d h few = refl
one_element_list_is_its_first_element (x ∷ y ∷ xs) d h few = absurd (omega arith)

-- ---- signs

flipping_twice_is_flipping_in_turn : (a b c : Bool) → flipped_if_negated (flipped_if_negated a b) c ≡ flipped_if_negated a (flipped_if_negated b c)
flipping_twice_is_flipping_in_turn true true true = refl
flipping_twice_is_flipping_in_turn true true false = refl
flipping_twice_is_flipping_in_turn true false true = refl
flipping_twice_is_flipping_in_turn true false false = refl
flipping_twice_is_flipping_in_turn false b c = refl

-- signs turned twice
pub negating_members_twice_is_in_turn : (a b : Bool) (ms : List Member) → map (member_under_negation (flipped_if_negated a b)) ms ≡ map (member_under_negation a) (map (member_under_negation b) ms)
negating_members_twice_is_in_turn a b [] = refl
negating_members_twice_is_in_turn a b (m ∷ ms) =
    ap (λ negated. record { start = m.start; stop = m.stop; negated = negated; digests = m.digests; atom = m.atom } ∷ map (member_under_negation (flipped_if_negated a b)) ms) (flipping_twice_is_flipping_in_turn a b m.negated)
    ∙ ap (λ ns. member_under_negation a (member_under_negation b m) ∷ ns) (negating_members_twice_is_in_turn a b ms)

module _ (k : Kind) (lines : List Line) where
  by_turned : (a : Bool) (m : Member) (o : Option (List Member)) → member_or_alias_members (member_under_negation a m) o ≡ map (member_under_negation a) (member_or_alias_members m o)
  by_turned a m None = refl
  by_turned a m (Some ms) = negating_members_twice_is_in_turn a m.negated ms

  once_turned : (a : Bool) (ms : List Member) → list_with_aliases_expanded_once k lines (map (member_under_negation a) ms) ≡ map (member_under_negation a) (list_with_aliases_expanded_once k lines ms)
  once_turned a [] = refl
  once_turned a (m ∷ ms) =
      let o = alias_members_of_atom k lines m.atom in
      ap (λ xs. xs ++ list_with_aliases_expanded_once k lines (map (member_under_negation a) ms)) (by_turned a m o)
      ∙ ap (λ xs. map (member_under_negation a) (member_or_alias_members m o) ++ xs) (once_turned a ms)
      ∙ sym (map-append (member_under_negation a) (member_or_alias_members m o) (list_with_aliases_expanded_once k lines ms))

  -- signs may be turned before or after
  pub times_turned : (n : ℕ) (a : Bool) (ms : List Member) → list_expanded_n_times n k lines (map (member_under_negation a) ms) ≡ map (member_under_negation a) (list_expanded_n_times n k lines ms)
  times_turned zero a ms = refl
  times_turned (suc n) a ms = ap (list_expanded_n_times n k lines) (once_turned a ms) ∙ times_turned n a (list_with_aliases_expanded_once k lines ms)

one_plus_number_is_successor : (j : ℕ) → 1 + j ≡ suc j
one_plus_number_is_successor j = omega arith

module _ (k : Kind) (lines : List Line) where
  stays_there : (ms : List Member) → IsListReachedByExpansions k lines 0 false ms ms
  stays_there ms = record {
    same = λ j. ap (λ i. list_expanded_n_times i k lines ms) (zero-add j) ∙ sym (members_not_negated_are_unchanged (list_expanded_n_times j k lines ms));
    fewer = λ j. let e = ap (λ i. expansion_steps i k lines ms) (zero-add j) in omega (arith, e);
  }

  alias_leads : (m : Member) (ms : List Member) → alias_members_of_atom k lines m.atom ≡ Some ms → IsListReachedByExpansions k lines 1 m.negated (m ∷ []) ms
  alias_leads m ms e = record {
    same = λ j. ap (λ i. list_expanded_n_times i k lines (m ∷ [])) (one_plus_number_is_successor j) ∙ times_alias k lines j m ms e ∙ times_turned k lines j m.negated ms;
    fewer = λ j. let all = ap (λ i. expansion_steps i k lines (m ∷ [])) (one_plus_number_is_successor j) ∙ steps_alias k lines j m ms e in omega (arith, all);
  }

  leads_on : (times more all : ℕ) (negated turned sign : Bool) (ms ns os : List Member) → IsListReachedByExpansions k lines times negated ms ns → IsListReachedByExpansions k lines more turned ns os
      → all ≡ times + more → sign ≡ flipped_if_negated negated turned → IsListReachedByExpansions k lines all sign ms os
  leads_on times more all negated turned sign ms ns os first next is signs =
      let sum : (j : ℕ) → all + j ≡ times + (more + j) = λ j. omega (arith, is) in
      record {
        same = λ j.
            ap (λ i. list_expanded_n_times i k lines ms) (sum j)
            ∙ first.same (more + j)
            ∙ ap (map (member_under_negation negated)) (next.same j)
            ∙ sym (negating_members_twice_is_in_turn negated turned (list_expanded_n_times j k lines os))
            ∙ ap (λ b. map (member_under_negation b) (list_expanded_n_times j k lines os)) (sym signs);
        fewer = λ j.
            let e = ap (λ i. expansion_steps i k lines ms) (sum j) in
            let one = first.fewer (more + j) in
            let two = next.fewer j in
            omega (arith, e, one, two);
      }

module _ (lines : List Line) where
  -- the shortcut of a definition to itself
  pub stays : (n : ℕ) → n < length (definitions_of_lines lines) → IsDefinitionShortcut lines n (record { to = n; times = 0; negated = false })
  stays n within = record { within = within; of_kind = refl; leads = stays_there (kind_of_definition_at lines n) lines (members_of_definition_number lines n) }

  -- the shortcut of a definition whose one member is an alias
  pub follows : (n e : ℕ) (m : Member) (name : List ℕ) → m ∷ [] ≡ members_of_definition_number lines n → m.atom ≡ atom.Alias name
      → number_of_definition (kind_of_definition_at lines n) name (definitions_of_lines lines) ≡ Some e → IsDefinitionShortcut lines n (record { to = e; times = 1; negated = m.negated })
  follows n e m name one is number =
      let k = kind_of_definition_at lines n in
      let d = number_of_definition_is_of_its_definition k name (definitions_of_lines lines) e number in
      let found : alias_members_of_atom k lines m.atom ≡ Some (members_of_definition_number lines e) = ap (alias_members_of_atom k lines) is ∙ alias_some k lines (atom.Alias name) e number in
      record {
        within = number_within k lines (atom.Alias name) e number;
        of_kind = ap kind_of_definition_or_user d.at ∙ (definition_of_name_has_kind_and_name k name d.definition d.is).0;
        leads = subst (λ ms. IsListReachedByExpansions k lines 1 m.negated ms (members_of_definition_number lines e)) one (alias_leads k lines m (members_of_definition_number lines e) found);
      }

  -- a shortcut with the one behind it
  pub joined : (n : ℕ) (s r : AliasShortcut) (times : ℕ) (negated : Bool) → IsDefinitionShortcut lines n s → IsDefinitionShortcut lines s.to r → times ≡ s.times + r.times → negated ≡ flipped_if_negated s.negated r.negated
      → IsDefinitionShortcut lines n (record { to = r.to; times = times; negated = negated })
  joined n s r times negated first next is turned = record {
    within = next.within;
    of_kind = next.of_kind ∙ first.of_kind;
    leads = leads_on (kind_of_definition_at lines n) lines s.times r.times times s.negated r.negated negated (members_of_definition_number lines n) (members_of_definition_number lines s.to) (members_of_definition_number lines r.to) first.leads
        (subst (λ k. IsListReachedByExpansions k lines r.times r.negated (members_of_definition_number lines s.to) (members_of_definition_number lines r.to)) first.of_kind next.leads) is turned;
  }

-- one shortcut is replaced
pub replaced_shortcut_keeps_shortcuts : (lines : List Line) (ss : List AliasShortcut) (i : ℕ) (s : AliasShortcut) → IsDefinitionShortcut lines i s → AreDefinitionShortcuts lines ss → AreDefinitionShortcuts lines (set ss i s)
replaced_shortcut_keeps_shortcuts lines ss i s is are = record {
  size = length-set ss i s ∙ are.size;
  each = λ n r at. elim (get-set ss i n s r at) [
    | inl new ↦ subst (IsDefinitionShortcut lines n) new.1 (subst (λ j. IsDefinitionShortcut lines j s) (sym new.0) is)
    | inr old ↦ are.each n r old.1
  ];
}

-- one shortcut more
abbrev pub AreFirstDefinitionShortcuts : List Line → ℕ → List AliasShortcut → Type 0
AreFirstDefinitionShortcuts lines n ss = (length ss ≡ n) × ((m : ℕ) (s : AliasShortcut) → slice_get ss m ≡ Some s → IsDefinitionShortcut lines m s)

pub pushed_shortcut_extends_first_shortcuts : (lines : List Line) (n : ℕ) (ss new : List AliasShortcut) (s : AliasShortcut) → new ≡ ss ++ s ∷ [] → IsDefinitionShortcut lines n s → AreFirstDefinitionShortcuts lines n ss → AreFirstDefinitionShortcuts lines (n + 1) new
pushed_shortcut_extends_first_shortcuts lines n ss new s e is are = subst (AreFirstDefinitionShortcuts lines (n + 1)) (sym e) (
  (let one = length-append ss (s ∷ []) in let size = are.0 in omega (arith, one, size)),
  λ m r at. elim (get_push ss s m r at) [
    | inl old ↦ are.1 m r old
    | inr last ↦ subst (IsDefinitionShortcut lines m) last.1 (subst (λ j. IsDefinitionShortcut lines j s) (sym (last.0 ∙ are.0)) is)
  ],
)

-- ---- chains

pub definition_rows_are_as_many_as_definitions : (t : Tables) (rows : List DefinitionKindAndMembers) (lines : List Line) → map (kind_and_members_of_row t) rows ≡ map kind_and_members_of_definition (definitions_of_lines lines) → length rows ≡ length (definitions_of_lines lines)
definition_rows_are_as_many_as_definitions t rows lines same = sym (length-map rows (kind_and_members_of_row t)) ∙ ap length same ∙ length-map (definitions_of_lines lines) kind_and_members_of_definition

-- what the code finds of a name
pub shortcut_of_definition_is_chain_of_alias : (t : Tables) (rows : List DefinitionKindAndMembers) (lines : List Line) (ss : List AliasShortcut) (k : Kind) (name : List ℕ) (n : ℕ) (s : AliasShortcut) (r q : DefinitionKindAndMembers)
    → map (kind_and_members_of_row t) rows ≡ map kind_and_members_of_definition (definitions_of_lines lines) → AreDefinitionShortcuts lines ss → number_of_definition k name (definitions_of_lines lines) ≡ Some n
    → slice_get ss n ≡ Some s → slice_get rows n ≡ Some r → slice_get rows s.to ≡ Some q
    → AreEndsOfAliasChainOfAtom k lines t (atom.Alias name) (record { first = r.members; last = q.members; times = s.times; negated = s.negated })
shortcut_of_definition_is_chain_of_alias t rows lines ss k name n s r q same are number at at_first at_last =
    let d = number_of_definition_is_of_its_definition k name (definitions_of_lines lines) n number in
    let kind : kind_of_definition_at lines n ≡ k = ap kind_of_definition_or_user d.at ∙ (definition_of_name_has_kind_and_name k name d.definition d.is).0 in
    let first = (definition_row_is_of_numbered_definition t rows lines n r same at_first).1 in
    let last = (definition_row_is_of_numbered_definition t rows lines s.to q same at_last).1 in
    let leads : IsListReachedByExpansions k lines s.times s.negated (members_of_definition_number lines n) (members_of_definition_number lines s.to) =
    subst (λ j. IsListReachedByExpansions j lines s.times s.negated (members_of_definition_number lines n) (members_of_definition_number lines s.to)) kind (are.each n s at).leads in
    record {
      found = alias_some k lines (atom.Alias name) n number ∙ ap Some (sym first);
      leads = subst (λ ms. IsListReachedByExpansions k lines s.times s.negated ms (map (member_in_tables t) q.members.now)) (sym first)
          (subst (IsListReachedByExpansions k lines s.times s.negated (members_of_definition_number lines n)) (sym last) leads);
    }

module _ (k : Kind) (lines : List Line) (t : Tables) (m : Member) (c : AliasChainEnds) (is : AreEndsOfAliasChainOfAtom k lines t m.atom c) (times left : ℕ) (less : times ≡ suc left) (p : PendingListPart) where
  -- the first members of the chain in place of its alias
  pub first_replaces : p.rows.now ≡ c.first.now → p.negated ≡ m.negated → p.times ≡ left → IsPendingPartInPlaceOfAliasMember k lines t times m p
  first_replaces rows negated so_many =
      let ms = map (member_in_tables t) c.first.now in
      let all = ap (λ n. expansion_steps n k lines (m ∷ [])) less ∙ steps_alias k lines left m ms is.found in
      let part : expansion_steps p.times k lines (map (member_in_tables t) p.rows.now) ≡ expansion_steps left k lines ms =
      ap (λ n. expansion_steps n k lines (map (member_in_tables t) p.rows.now)) so_many ∙ ap (λ rs. expansion_steps left k lines (map (member_in_tables t) rs)) rows in
      record {
        same = ap (λ n. list_expanded_n_times n k lines (map (member_under_negation p.negated) (map (member_in_tables t) p.rows.now))) so_many
            ∙ ap (λ b. list_expanded_n_times left k lines (map (member_under_negation b) (map (member_in_tables t) p.rows.now))) negated
            ∙ ap (λ rs. list_expanded_n_times left k lines (map (member_under_negation m.negated) (map (member_in_tables t) rs))) rows
            ∙ sym (ap (λ n. list_expanded_n_times n k lines (m ∷ [])) less ∙ times_alias k lines left m ms is.found);
        fewer = omega (arith, all, part);
      }

  -- the last members in place of the alias, where so many replacements are left
  pub last_replaces : (j : ℕ) → left ≡ c.times + j → p.rows.now ≡ c.last.now → p.negated ≡ flipped_if_negated m.negated c.negated → p.times ≡ j → IsPendingPartInPlaceOfAliasMember k lines t times m p
  last_replaces j sum rows negated so_many =
      let ms = map (member_in_tables t) c.first.now in
      let ns = map (member_in_tables t) c.last.now in
      let all = ap (λ n. expansion_steps n k lines (m ∷ [])) less ∙ steps_alias k lines left m ms is.found in
      let most = ap (λ n. expansion_steps n k lines ms) sum in
      let few = is.leads.fewer j in
      let part : expansion_steps p.times k lines (map (member_in_tables t) p.rows.now) ≡ expansion_steps j k lines ns =
      ap (λ n. expansion_steps n k lines (map (member_in_tables t) p.rows.now)) so_many ∙ ap (λ rs. expansion_steps j k lines (map (member_in_tables t) rs)) rows in
      record {
        same = ap (λ n. list_expanded_n_times n k lines (map (member_under_negation p.negated) (map (member_in_tables t) p.rows.now))) so_many
            ∙ ap (λ b. list_expanded_n_times j k lines (map (member_under_negation b) (map (member_in_tables t) p.rows.now))) negated
            ∙ ap (λ rs. list_expanded_n_times j k lines (map (member_under_negation (flipped_if_negated m.negated c.negated)) (map (member_in_tables t) rs))) rows
            ∙ times_turned k lines j (flipped_if_negated m.negated c.negated) ns
            ∙ negating_members_twice_is_in_turn m.negated c.negated (list_expanded_n_times j k lines ns)
            ∙ ap (map (member_under_negation m.negated)) (sym (is.leads.same j))
            ∙ ap (λ n. map (member_under_negation m.negated) (list_expanded_n_times n k lines ms)) (sym sum)
            ∙ sym (times_turned k lines left m.negated ms)
            ∙ sym (ap (λ n. list_expanded_n_times n k lines (m ∷ [])) less ∙ times_alias k lines left m ms is.found);
        fewer = omega (arith, all, most, few, part);
      }
