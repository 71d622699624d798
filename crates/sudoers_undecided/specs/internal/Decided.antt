-- A device of the proof, which no public contract cites: what is known of aliases, each by the number of its definition.
use Rattle.std.specs.Prelude.{◌≡◌, ◌<◌, ◌+◌, ℕ, Bool, true, List, [], ◌∷◌, length, Option, Some, None, slice_get}
use Rattle.std.specs.Option.{is_some}
use Rattle.sudoers_grammar.specs.declared.node.Kind.{Kind}
use Rattle.sudoers_grammar.specs.declared.node.Atom.{Atom}
use Rattle.sudoers_grammar.specs.Node.{Member}
use Rattle.sudoers_tree.specs.Line.{Line}
use Rattle.sudoers_tree.specs.Definition.{PlacedDefinition, definitions_of_lines}
use Rattle.sudoers_check.specs.Chain.{ListHasElement}
use Rattle.sudoers_match_list.specs.Flat.{SignedAtom, IsFlatListOf, last_hit_of_list}
use Rattle.sudoers_match_list.specs.Search.{alias_number_of_atom, members_of_definition_number}
use Rattle.sudoers_undecided.specs.declared.decided_aliases.DecidedAliases.{DecidedAliases}
use Rattle.sudoers_undecided.specs.declared.decided_aliases.PartStanding.{PartStanding}
use Rattle.sudoers_undecided.specs.declared.list_sway.ListSway.{ListSway}
use Rattle.sudoers_undecided.specs.ListSway.{could_be_swayed_from, sway_of_atoms}
use Rattle.sudoers_undecided.specs.MemberQuestions.{is_atom_matched_by_question, is_undecided_by_question}
use Rattle.sudoers_undecided.specs.TurningMembers.{is_allowed_by_hit_or_else}

abbrev pub matched_by : DecidedAliases → Atom → Bool
matched_by d = is_atom_matched_by_question d.question

abbrev pub undecided_by : DecidedAliases → SignedAtom → Bool
undecided_by d = is_undecided_by_question d.question

-- It is the sway of the flat list.
pub record IsSwayOfList (k : Kind) (lines : List Line) (undecided : SignedAtom → Bool) (test : Atom → Bool) (ms : List Member) (sway : ListSway) : Type 0 where
  pub flat : List SignedAtom
  pub is_flat : IsFlatListOf k lines ms flat
  pub says : sway ≡ sway_of_atoms undecided test flat

-- Each sway that is known is that of the alias.
pub record HoldsSwaysOfAliases (lines : List Line) (d : DecidedAliases) : Type 0 where
  pub size : length d.sways.items ≡ length (definitions_of_lines lines)
  pub right : (k : ℕ) (sway : ListSway) → slice_get d.sways.items k ≡ Some (Some sway)
      → IsSwayOfList d.kind lines (undecided_by d) (matched_by d) (members_of_definition_number lines k) sway

-- An alias among the members has no known sway.
pub record HasAliasToDecide (lines : List Line) (d : DecidedAliases) (ms : List Member) : Type 0 where
  pub member : Member
  pub stands : ListHasElement ms member
  pub alias : ℕ
  pub is_alias : alias_number_of_atom d.kind lines member.atom ≡ Some alias
  pub open_yet : slice_get d.sways.items alias ≡ Some None

-- If the alias has no known sway, it mentions one that has none.
abbrev pub WaitsForOther : List Line → DecidedAliases → ℕ → Type 0
WaitsForOther lines d k = (def : PlacedDefinition) → slice_get (definitions_of_lines lines) k ≡ Some def → def.kind ≡ d.kind
    → slice_get d.sways.items k ≡ Some None → HasAliasToDecide lines d (members_of_definition_number lines k)

-- Each alias is decided, but for those that lead to a cycle.
pub record DecidesAllAliases (lines : List Line) (d : DecidedAliases) : Type 0 where
  pub holds : HoldsSwaysOfAliases lines d
  pub waits : (k : ℕ) → k < length (definitions_of_lines lines) → WaitsForOther lines d k

-- how many are not known
abbrev pub sways_left : List (Option ListSway) → ℕ
sways_left [] = 0
sways_left (None ∷ os) = 1 + sways_left os
sways_left (Some sway ∷ os) = sways_left os

-- The same is asked.
pub record AsksSame (d e : DecidedAliases) : Type 0 where
  pub kind : d.kind ≡ e.kind
  pub question : d.question ≡ e.question

-- It tells of each flat list of the list what it says, and whether that could be turned.
pub record IsStandingOfList (k : Kind) (lines : List Line) (undecided : SignedAtom → Bool) (test : Atom → Bool) (own : Bool) (ms : List Member) (st : PartStanding) : Type 0 where
  pub told : (flat : List SignedAtom) → IsFlatListOf k lines ms flat
      → (st.holds ≡ is_allowed_by_hit_or_else own (last_hit_of_list test flat)) × (st.could_turn ≡ could_be_swayed_from st.holds (sway_of_atoms undecided test flat))
  pub some : st.holds ≡ true → (flat : List SignedAtom) × IsFlatListOf k lines ms flat
  pub turned : st.could_turn ≡ true → (flat : List SignedAtom) × IsFlatListOf k lines ms flat

-- It is known that an atom of the alias matches.
pub record IsMatchingAlias (d : DecidedAliases) (n : ℕ) : Type 0 where
  pub sway : ListSway
  pub at : slice_get d.sways.items n ≡ Some (Some sway)
  pub hit : is_some sway.hit ≡ true
