-- Lists with their aliases replaced say in the new policy what the lists said.
use Rattle.laws_program.proofs.Common.{◌≡◌, ◌⊎◌, inl, inr, ℕ, suc, ◌+◌, ◌≤◌, List, [], ◌∷◌, ◌++◌, length, map, Option, Some, None, refl, sym, ap, ap₂, subst}
use Rattle.laws_program.proofs.Common.{◌∙◌, arith, AllByRecursion, Kind, Runas, Atom, Member, RunasSpec, Node, Line, PlacedDefinition, definitions_in_line}
use Rattle.laws_program.proofs.Common.{definitions_from_line_number, definitions_of_lines, first_definition_of, AreWalkLinesWithoutNul, SignedAtom, signed_atom_of_member, alias_members_of_atom, none, one, fully_expanded_list, HaveSameFlatListAfterRewrite}
use Rattle.laws_program.proofs.Common.{AreRunasMemberListsAlike, AreRunasSpecsAlike, LeadsToNoCyclicAlias, all_append, expanded_node, expanded_runas_spec, times_empty, lines_with_aliases_replaced}
use Rattle.std.specs.Option.{option_map}
use Rattle.sudoers_grammar.specs.declared.node.Atom.TheVariants as atom
use Rattle.sudoers_grammar.specs.Node as node
use Rattle.sudoers_tree.specs.Policy.{AreValidWalkLines}
use Rattle.sudoers_match_list.specs.Flat.{signed_atom_under_negation, IsFlatListOf, many}
use Rattle.sudoers_match_list.specs.Cycle.{ListLeadsToCyclicAlias}
use Rattle.sudoers_match_list.specs.Alike.{unchanged_atom, signed_atom_with_atom_mapped}
use Rattle.sudoers_match.specs.internal.Straight.{RunasSpecLeadsToNoCycle}
use Rattle.sudoers_cvt_rewrite.proofs.Lists.{longer}
use Rattle.sudoers_cvt_rewrite.proofs.Members.{aliases_of_valid_lines_have_members}

-- a line with its aliases replaced
abbrev pub line_with_aliases_expanded : List Line → Line → Line
line_with_aliases_expanded lines line = record { text = []; node = expanded_node lines line.node }

-- what the laws of lists say
pub record LawsOfFlatLists : Type 0 where
  pub some : (k : Kind) (lines : List Line) (ms : List Member) → ((fs : List SignedAtom) × IsFlatListOf k lines ms fs) ⊎ ListLeadsToCyclicAlias k lines ms
  pub is : (k : Kind) (lines : List Line) → AreValidWalkLines lines → (ms : List Member) (fs : List SignedAtom) → IsFlatListOf k lines ms fs → fs ≡ map signed_atom_of_member (fully_expanded_list k lines ms)
  pub straight : (k : Kind) (lines : List Line) (ms : List Member) → AllByRecursion (λ (m : Member). alias_members_of_atom k lines m.atom ≡ None) ms → IsFlatListOf k lines ms (map signed_atom_of_member ms)
  pub same : (write : Atom → Atom) (k : Kind) (lines others : List Line) (ms ns : List Member) (fs : List SignedAtom) → IsFlatListOf k lines ms fs
      → IsFlatListOf k others ns (map (signed_atom_with_atom_mapped write) fs) → HaveSameFlatListAfterRewrite write k lines others ms ns

-- ---- definitions stay

expanded_node_keeps_definitions : (lines : List Line) (n : ℕ) (says : Node) → definitions_in_line n (expanded_node lines says) ≡ definitions_in_line n says
expanded_node_keeps_definitions lines n (node.Alias k defs) = refl
expanded_node_keeps_definitions lines n says = refl

pub lines_expanded_keep_definitions : (lines : List Line) → definitions_of_lines (lines_with_aliases_replaced lines) ≡ definitions_of_lines lines
lines_expanded_keep_definitions lines = by 0 lines
  where
    by : (n : ℕ) (ls : List Line) → definitions_from_line_number n (map (λ (line : Line). record { text = []; node = expanded_node lines line.node }) ls) ≡ definitions_from_line_number n ls
    by n [] = refl
    by n (line ∷ ls) = ap₂ (λ (xs ys : List PlacedDefinition). xs ++ ys) (expanded_node_keeps_definitions lines n line.node) (by (n + 1) ls)

expansion_keeps_alias_members : (k : Kind) (lines : List Line) (a : Atom) → alias_members_of_atom k (lines_with_aliases_replaced lines) a ≡ alias_members_of_atom k lines a
expansion_keeps_alias_members k lines (atom.Alias name) = ap (λ ds. option_map (λ (d : PlacedDefinition). d.def.members) (first_definition_of k name ds)) (lines_expanded_keep_definitions lines)
expansion_keeps_alias_members k lines a = refl

-- ---- no atom of a flat list is a defined alias

-- What names no alias in the one policy names none in the other.
abbrev pub KeepsUndefinedAliases : List Line → List Line → Type 0
KeepsUndefinedAliases lines others = (k : Kind) (a : Atom) → alias_members_of_atom k lines a ≡ None → alias_members_of_atom k others a ≡ None

pub expansion_keeps_undefined_aliases : (lines : List Line) → KeepsUndefinedAliases lines (lines_with_aliases_replaced lines)
expansion_keeps_undefined_aliases lines k a e = expansion_keeps_alias_members k lines a ∙ e

module _ (k : Kind) (lines others : List Line) where
  abbrev IsUndefined : Atom → Type 0
  IsUndefined a = alias_members_of_atom k lines a ≡ None

  abbrev SignedUndefined : SignedAtom → Type 0
  SignedUndefined s = IsUndefined s.atom

  turned_undefined : (b : _) (fs : List SignedAtom) → AllByRecursion SignedUndefined fs → AllByRecursion SignedUndefined (map (signed_atom_under_negation b) fs)
  turned_undefined b [] all = tt
  turned_undefined b (s ∷ fs) all = (all.0, turned_undefined b fs all.1)

  flat_undefined : (ms : List Member) (fs : List SignedAtom) → IsFlatListOf k lines ms fs → AllByRecursion SignedUndefined fs
  flat_undefined ms fs none = tt
  flat_undefined ms fs (one m rest more e f) = (e, flat_undefined rest more f)
  flat_undefined ms fs (many m rest members inner more e i f) =
      all_append SignedUndefined (map (signed_atom_under_negation m.negated) inner) more (turned_undefined m.negated inner (flat_undefined members inner i)) (flat_undefined rest more f)

  members_undefined : KeepsUndefinedAliases lines others → (ms : List Member) → AllByRecursion SignedUndefined (map signed_atom_of_member ms) → AllByRecursion (λ (m : Member). alias_members_of_atom k others m.atom ≡ None) ms
  members_undefined keep [] all = tt
  members_undefined keep (m ∷ ms) all = (keep k m.atom all.0, members_undefined keep ms all.1)

unchanged_atoms_are_kept_in_signed_list : (fs : List SignedAtom) → map (signed_atom_with_atom_mapped unchanged_atom) fs ≡ fs
unchanged_atoms_are_kept_in_signed_list [] = refl
unchanged_atoms_are_kept_in_signed_list (s ∷ fs) = ap (λ gs. s ∷ gs) (unchanged_atoms_are_kept_in_signed_list fs)

-- ---- a list with a member still has one

module _ (lines : List Line) (policy : AreWalkLinesWithoutNul lines) where
  pub still_some : (k : Kind) (m : Member) (ms : List Member) → (n : Member) × (ns : List Member) × (fully_expanded_list k lines (m ∷ ms) ≡ n ∷ ns)
  still_some k m ms = by (fully_expanded_list k lines (m ∷ ms)) refl (longer k lines (aliases_of_valid_lines_have_members k lines policy.walk) (length (definitions_of_lines lines)) (m ∷ ms))
    where
      by : (xs : List Member) → fully_expanded_list k lines (m ∷ ms) ≡ xs → suc (length ms) ≤ length (fully_expanded_list k lines (m ∷ ms)) → (n : Member) × (ns : List Member) × (fully_expanded_list k lines (m ∷ ms) ≡ n ∷ ns)
      by [] e h = let none : length (fully_expanded_list k lines (m ∷ ms)) ≡ 0 = ap length e in absurd (omega (arith, none, h))
      by (x ∷ xs) e h = (x, xs, e)

  still_none : (k : Kind) → fully_expanded_list k lines [] ≡ []
  still_none k = times_empty k lines (length (definitions_of_lines lines))

module _ (laws : LawsOfFlatLists) (lines others : List Line) (policy : AreWalkLinesWithoutNul lines) (keep : KeepsUndefinedAliases lines others) where
  -- No member of the list is a defined alias.
  pub none_defined : (k : Kind) (ms : List Member) (fs : List SignedAtom) → IsFlatListOf k lines ms fs
      → AllByRecursion (λ (m : Member). alias_members_of_atom k others m.atom ≡ None) (fully_expanded_list k lines ms)
  none_defined k ms fs f =
      members_undefined k lines others keep (fully_expanded_list k lines ms) (subst (AllByRecursion (SignedUndefined k lines others)) (laws.is k lines policy.walk ms fs f) (flat_undefined k lines others ms fs f))

  flat_alike : (k : Kind) (ms : List Member) (fs : List SignedAtom) → IsFlatListOf k lines ms fs → HaveSameFlatListAfterRewrite unchanged_atom k lines others ms (fully_expanded_list k lines ms)
  flat_alike k ms fs f =
      laws.same unchanged_atom k lines others ms (fully_expanded_list k lines ms) fs f
      (subst (IsFlatListOf k others (fully_expanded_list k lines ms)) (sym (unchanged_atoms_are_kept_in_signed_list fs ∙ laws.is k lines policy.walk ms fs f))
      (laws.straight k others (fully_expanded_list k lines ms) (none_defined k ms fs f)))

  -- A list that leads to no cyclic alias says the same with its aliases replaced.
  pub list_alike : (k : Kind) (ms : List Member) → LeadsToNoCyclicAlias k lines ms → HaveSameFlatListAfterRewrite unchanged_atom k lines others ms (fully_expanded_list k lines ms)
  list_alike k ms straight = elim (laws.some k lines ms) as (λ _. HaveSameFlatListAfterRewrite unchanged_atom k lines others ms (fully_expanded_list k lines ms)) [
    | inl f ↦ flat_alike k ms f.0 f.1
    | inr l ↦ absurd (straight l)
  ]

  -- ---- Runas_Specs

  runas_list : (ms : List Member) → LeadsToNoCyclicAlias Runas lines ms → AreRunasMemberListsAlike unchanged_atom lines others ms (fully_expanded_list Runas lines ms)
  runas_list [] straight = subst (AreRunasMemberListsAlike unchanged_atom lines others []) (sym (still_none lines policy Runas)) tt
  runas_list (m ∷ ms) straight =
      let some = still_some lines policy Runas m ms in
      subst (AreRunasMemberListsAlike unchanged_atom lines others (m ∷ ms)) (sym some.2)
      (subst (HaveSameFlatListAfterRewrite unchanged_atom Runas lines others (m ∷ ms)) some.2 (list_alike Runas (m ∷ ms) straight))

  -- A Runas_Spec says the same with its aliases replaced.
  pub runas_alike : (r : Option RunasSpec) → RunasSpecLeadsToNoCycle lines r → AreRunasSpecsAlike unchanged_atom lines others r (option_map (expanded_runas_spec lines) r)
  runas_alike None straight = tt
  runas_alike (Some r) straight = (runas_list r.users straight.0, runas_list r.groups straight.1)
