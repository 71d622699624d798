-- Aliases by their numbers.
use Rattle.sudoers_match_list.proofs.Common.{Atom, Bool, AreNumberAndMembersOfAlias, Kind, Line, List, ListHasElement, Member, None, Option, PlacedDefinition, Some, [], alias_members_of_atom, alias_number_of_atom, ap, bytes_eq}
use Rattle.sudoers_match_list.proofs.Common.{definitions_of_lines, false, false≢true, first_definition_of, if◌then◌else◌, inl, inr, is_definition_of_name, is_equal_kind, length, members_of_alias_definition}
use Rattle.sudoers_match_list.proofs.Common.{members_of_optional_definition, members_of_definition_number, number_of_definition, refl, slice_get, slice_get_within, suc, sym, true, zero, ℕ, ◌&&◌, ◌<◌, ◌∙◌, ◌∷◌, ◌≡◌}
use Rattle.std.proofs.Common.{option_map}
use Rattle.std.proofs.lemmas.Slice.Eq.{bytes_eq-Decides}
use Rattle.sudoers_grammar.specs.declared.node.Kind.TheVariants.{User, Runas, Host, Cmnd}
use Rattle.sudoers_grammar.specs.declared.node.Atom.TheVariants as atom

-- what is known of the definition with a number
pub record IsDefinitionWithNumber (k : Kind) (name : List ℕ) (ds : List PlacedDefinition) (n : ℕ) : Type 0 where
  pub definition : PlacedDefinition
  pub at : slice_get ds n ≡ Some definition
  pub first : first_definition_of k name ds ≡ Some definition
  pub stands : ListHasElement ds definition
  pub is : is_definition_of_name k name definition ≡ true

equal_some_successors_have_equal_numbers : (n m : ℕ) → Some (suc n) ≡ Some (suc m) → Some n ≡ Some m
equal_some_successors_have_equal_numbers n m e = cc

pub number_of_definition_is_of_its_definition : (k : Kind) (name : List ℕ) (ds : List PlacedDefinition) (n : ℕ) → number_of_definition k name ds ≡ Some n → IsDefinitionWithNumber k name ds n
number_of_definition_is_of_its_definition k name [] n e = absurd cc
number_of_definition_is_of_its_definition k name (x ∷ ds) n e = by (is_definition_of_name k name x) refl (number_of_definition k name ds) (number_of_definition_is_of_its_definition k name ds) n e
  where
    by : (b : Bool) → is_definition_of_name k name x ≡ b → (o : Option ℕ) → ((j : ℕ) → o ≡ Some j → IsDefinitionWithNumber k name ds j) → (m : ℕ) → (if b then Some 0 else option_map suc o) ≡ Some m
        → IsDefinitionWithNumber k name (x ∷ ds) m
    by true t o os zero e = record {
      definition = x;
      at = refl;
      first = ap (λ (b : Bool). if b then Some x else first_definition_of k name ds) t;
      stands = inl refl;
      is = t;
    }
    by true t o os (suc m) e = absurd cc
    by false t None os m e = absurd cc
    by false t (Some j) os zero e = absurd cc
    by false t (Some j) os (suc m) e =
        let rest = os m (equal_some_successors_have_equal_numbers j m e) in
        record {
          definition = rest.definition;
          at = rest.at;
          first = ap (λ (b : Bool). if b then Some x else first_definition_of k name ds) t ∙ rest.first;
          stands = inr rest.stands;
          is = rest.is;
        }

pub name_without_number_has_no_definition : (k : Kind) (name : List ℕ) (ds : List PlacedDefinition) → number_of_definition k name ds ≡ None → first_definition_of k name ds ≡ None
name_without_number_has_no_definition k name [] e = refl
name_without_number_has_no_definition k name (x ∷ ds) e = by (is_definition_of_name k name x) (number_of_definition k name ds) (name_without_number_has_no_definition k name ds) e
  where
    by : (b : Bool) (o : Option ℕ) → (o ≡ None → first_definition_of k name ds ≡ None) → (if b then Some 0 else option_map suc o) ≡ None
        → (if b then Some x else first_definition_of k name ds) ≡ None
    by true o rest e = absurd cc
    by false None rest e = rest refl
    by false (Some n) rest e = absurd cc

true_conjunction_has_true_parts : (p q : Bool) → (p && q) ≡ true → (p ≡ true) × (q ≡ true)
true_conjunction_has_true_parts true q e = (refl, e)
true_conjunction_has_true_parts false q e = absurd (false≢true e)

kinds_tested_equal_are_equal : (k j : Kind) → is_equal_kind k j ≡ true → j ≡ k
kinds_tested_equal_are_equal User User e = refl
kinds_tested_equal_are_equal User Runas e = absurd (false≢true e)
kinds_tested_equal_are_equal User Host e = absurd (false≢true e)
kinds_tested_equal_are_equal User Cmnd e = absurd (false≢true e)
kinds_tested_equal_are_equal Runas User e = absurd (false≢true e)
kinds_tested_equal_are_equal Runas Runas e = refl
kinds_tested_equal_are_equal Runas Host e = absurd (false≢true e)
kinds_tested_equal_are_equal Runas Cmnd e = absurd (false≢true e)
kinds_tested_equal_are_equal Host User e = absurd (false≢true e)
kinds_tested_equal_are_equal Host Runas e = absurd (false≢true e)
kinds_tested_equal_are_equal Host Host e = refl
kinds_tested_equal_are_equal Host Cmnd e = absurd (false≢true e)
kinds_tested_equal_are_equal Cmnd User e = absurd (false≢true e)
kinds_tested_equal_are_equal Cmnd Runas e = absurd (false≢true e)
kinds_tested_equal_are_equal Cmnd Host e = absurd (false≢true e)
kinds_tested_equal_are_equal Cmnd Cmnd e = refl

pub definition_of_name_has_kind_and_name : (k : Kind) (name : List ℕ) (d : PlacedDefinition) → is_definition_of_name k name d ≡ true → (d.kind ≡ k) × (d.def.name ≡ name)
definition_of_name_has_kind_and_name k name d e =
    let parts = true_conjunction_has_true_parts (is_equal_kind k d.kind) (bytes_eq name d.def.name) e in
    (kinds_tested_equal_are_equal k d.kind parts.0, sym ((bytes_eq-Decides name d.def.name).0 parts.1))

module _ (kd : Kind) (lines : List Line) where
  -- the members of an alias are those of the definition with its number
  pub alias_some : (a : Atom) (n : ℕ) → alias_number_of_atom kd lines a ≡ Some n → alias_members_of_atom kd lines a ≡ Some (members_of_definition_number lines n)
  alias_some (atom.Alias name) n e =
      let d = number_of_definition_is_of_its_definition kd name (definitions_of_lines lines) n e in
      ap (option_map (λ (x : PlacedDefinition). x.def.members)) d.first ∙ sym (ap (λ o. Some (members_of_optional_definition o)) d.at)
  alias_some atom.All n e = absurd cc
  alias_some (atom.Name name) n e = absurd cc
  alias_some (atom.Id i) n e = absurd cc
  alias_some (atom.Group name) n e = absurd cc
  alias_some (atom.GroupId i) n e = absurd cc
  alias_some (atom.NonUnix name) n e = absurd cc
  alias_some (atom.Netgroup name) n e = absurd cc
  alias_some (atom.Host name) n e = absurd cc
  alias_some (atom.Address a) n e = absurd cc
  alias_some (atom.Network a m) n e = absurd cc
  alias_some atom.Listing n e = absurd cc
  alias_some (atom.Path p a) n e = absurd cc
  alias_some (atom.Sudoedit a) n e = absurd cc

  pub alias_none : (a : Atom) → alias_number_of_atom kd lines a ≡ None → alias_members_of_atom kd lines a ≡ None
  alias_none (atom.Alias name) e = ap (option_map (λ (x : PlacedDefinition). x.def.members)) (name_without_number_has_no_definition kd name (definitions_of_lines lines) e)
  alias_none atom.All e = refl
  alias_none (atom.Name name) e = refl
  alias_none (atom.Id i) e = refl
  alias_none (atom.Group name) e = refl
  alias_none (atom.GroupId i) e = refl
  alias_none (atom.NonUnix name) e = refl
  alias_none (atom.Netgroup name) e = refl
  alias_none (atom.Host name) e = refl
  alias_none (atom.Address a) e = refl
  alias_none (atom.Network a m) e = refl
  alias_none atom.Listing e = refl
  alias_none (atom.Path p a) e = refl
  alias_none (atom.Sudoedit a) e = refl

  -- an alias with members has a number
  pub some_number : (a : Atom) (members : List Member) → alias_members_of_atom kd lines a ≡ Some members → (n : ℕ) × (alias_number_of_atom kd lines a ≡ Some n) × (members ≡ members_of_definition_number lines n)
  some_number a members e = by (alias_number_of_atom kd lines a) refl
    where
      by : (o : Option ℕ) → alias_number_of_atom kd lines a ≡ o → (n : ℕ) × (alias_number_of_atom kd lines a ≡ Some n) × (members ≡ members_of_definition_number lines n)
      by None is = let clash : Some members ≡ None = sym e ∙ alias_none a is in absurd cc
      by (Some n) is = (n, is, let two : Some members ≡ Some (members_of_definition_number lines n) = sym e ∙ alias_some a n is in cc)

  pub number_within : (a : Atom) (n : ℕ) → alias_number_of_atom kd lines a ≡ Some n → n < length (definitions_of_lines lines)
  number_within (atom.Alias name) n e = let d = number_of_definition_is_of_its_definition kd name (definitions_of_lines lines) n e in slice_get_within (definitions_of_lines lines) n d.definition d.at
  number_within atom.All n e = absurd cc
  number_within (atom.Name name) n e = absurd cc
  number_within (atom.Id i) n e = absurd cc
  number_within (atom.Group name) n e = absurd cc
  number_within (atom.GroupId i) n e = absurd cc
  number_within (atom.NonUnix name) n e = absurd cc
  number_within (atom.Netgroup name) n e = absurd cc
  number_within (atom.Host name) n e = absurd cc
  number_within (atom.Address a) n e = absurd cc
  number_within (atom.Network a m) n e = absurd cc
  number_within atom.Listing n e = absurd cc
  number_within (atom.Path p a) n e = absurd cc
  number_within (atom.Sudoedit a) n e = absurd cc

  -- what is no alias has no number
  pub none_number : (a : Atom) → alias_members_of_atom kd lines a ≡ None → alias_number_of_atom kd lines a ≡ None
  none_number a e = by (alias_number_of_atom kd lines a) refl
    where
      by : (o : Option ℕ) → alias_number_of_atom kd lines a ≡ o → alias_number_of_atom kd lines a ≡ None
      by None is = is
      by (Some n) is = let clash : Some (members_of_definition_number lines n) ≡ None = sym (alias_some a n is) ∙ e in absurd cc

  -- what the code finds of an alias
  pub alias_is : (name : List ℕ) (n : ℕ) (members : List Member) → number_of_definition kd name (definitions_of_lines lines) ≡ Some n → Some members ≡ members_of_alias_definition kd name lines
      → AreNumberAndMembersOfAlias lines n members
  alias_is name n members e is =
      let d = number_of_definition_is_of_its_definition kd name (definitions_of_lines lines) n e in
      record {
        within = slice_get_within (definitions_of_lines lines) n d.definition d.at;
        members_are = let two : Some members ≡ Some (members_of_definition_number lines n) = is ∙ alias_some (atom.Alias name) n e in cc;
      }

  pub has_members : (name : List ℕ) (n : ℕ) → number_of_definition kd name (definitions_of_lines lines) ≡ Some n → None ≡ members_of_alias_definition kd name lines → ⊥
  has_members name n e is = let clash : None ≡ Some (members_of_definition_number lines n) = is ∙ alias_some (atom.Alias name) n e in cc
