-- Aliases whose sways are known, and that each alias is decided that leads to no cycle.
use Rattle.std.proofs.Common.{◌≡◌, ◌⊎◌, inl, inr, ℕ, zero, suc, ◌+◌, ◌<◌, Bool, true, false, List, [], ◌∷◌, ◌++◌, map, length, take, Option, Some, None, option_map, slice_get, refl, sym, ap, ap₂, subst, ◌∙◌, arith, append-nil}
use Rattle.std.proofs.Common.{get_or, ltb}
use Rattle.std.specs.Borrow.{Bor}
use Rattle.std.specs.Option.{IfSome, is_some}
use Rattle.std.proofs.Math.ListN.{length-set, set}
use Rattle.std.proofs.lemmas.Bool.{ltb-true}
use Rattle.std.proofs.lemmas.List.{take_more}
use Rattle.std.proofs.lemmas.Option.{get_or_from_slice_get, slice_get-map, slice_get_read, slice_get_within}
use Rattle.sudoers_grammar.specs.declared.node.Kind.{Kind}
use Rattle.sudoers_grammar.specs.declared.node.Atom.{Atom}
use Rattle.sudoers_grammar.specs.declared.node.Atom.TheVariants as atom
use Rattle.sudoers_grammar.specs.Node.{Member}
use Rattle.sudoers_line_rows.specs.View.{members_of_view}
use Rattle.sudoers_tree.specs.Line.{Line}
use Rattle.sudoers_grammar.specs.declared.node.Kind.TheVariants.{User, Runas, Host, Cmnd}
use Rattle.sudoers_tree.specs.Definition.{PlacedDefinition, definitions_of_lines, is_equal_kind}
use Rattle.sudoers_check.specs.Chain.{ListHasElement}
use Rattle.sudoers_check.proofs.Lists.{get-set}
use Rattle.sudoers_match_list.specs.Flat.{IsFlatListOf, SignedAtom, none, one, many, signed_atom_of_member, signed_atom_under_negation, alias_members_of_atom}
use Rattle.sudoers_match_list.specs.Search.{alias_number_of_atom, members_of_definition_number, members_of_optional_definition}
use Rattle.sudoers_match_list.proofs.Flats.{appended_lists_have_appended_flat_list}
use Rattle.sudoers_match_list.proofs.Unique.{one_flat}
use Rattle.sudoers_match_list.proofs.Numbered.{alias_some, alias_none, number_of_definition_is_of_its_definition, definition_of_name_has_kind_and_name, number_within}
use Rattle.sudoers_undecided.specs.declared.decided_aliases.DecidedAliases.{DecidedAliases}
use Rattle.sudoers_undecided.specs.declared.decided_aliases.PartStanding.{PartStanding}
use Rattle.sudoers_undecided.specs.declared.definitions.DefinitionOnLine.{DefinitionOnLine}
use Rattle.sudoers_undecided.specs.declared.list_sway.ListSway.{ListSway}
use Rattle.sudoers_undecided.specs.declared.member_question.MemberQuestion.{MemberQuestion}
use Rattle.sudoers_undecided.specs.declared.member_question.MemberQuestion.TheVariants as question
use Rattle.sudoers_undecided.specs.ListSway.{could_be_swayed_from, sway_of_atoms, sway_of_empty_list, sway_of_joined_lists, sway_of_one_atom, sway_under_negation}
use Rattle.sudoers_undecided.specs.MemberQuestions.{is_atom_matched_by_question, is_undecided_by_question}
use Rattle.sudoers_undecided.specs.TurningMembers.{is_allowed_by_hit_or_else}
use Rattle.sudoers_undecided.specs.internal.Decided.{DecidesAllAliases, HasAliasToDecide, HoldsSwaysOfAliases, IsStandingOfList, IsSwayOfList, matched_by, sways_left, undecided_by}
use Rattle.sudoers_undecided.specs.internal.Definitions.{HoldsDefinitions, kind_and_members_held, kind_and_members_of_definition}
use Rattle.sudoers_undecided.proofs.Sways.{sway_has_last_hit, sway_of_appended, sway_of_negated, sway_of_single}

-- ---- definitions

held_at : {X Y Z : Type 0} (f : X → Z) (g : Y → Z) (xs : List X) (ys : List Y) (k : ℕ) (x : X) → map f xs ≡ map g ys → slice_get xs k ≡ Some x
    → (y : Y) × (slice_get ys k ≡ Some y) × (g y ≡ f x)
held_at f g xs ys k x e at = by (slice_get ys k) refl
  where
    read : Some (f x) ≡ option_map g (slice_get ys k)
    read = sym (ap (option_map f) at) ∙ sym (slice_get-map f xs k) ∙ ap (λ zs. slice_get zs k) e ∙ slice_get-map g ys k

    by : (o : Option _) → slice_get ys k ≡ o → (y : _) × (slice_get ys k ≡ Some y) × (g y ≡ f x)
    by None is = let clash : Some (f x) ≡ None = read ∙ ap (option_map g) is in absurd cc
    by (Some y) is = (y, is, let two : Some (f x) ≡ Some (g y) = read ∙ ap (option_map g) is in cc)

pub record HeldDefinition (lines : List Line) (k : ℕ) (d : DefinitionOnLine) : Type 0 where
  pub definition : PlacedDefinition
  pub at : slice_get (definitions_of_lines lines) k ≡ Some definition
  pub of_kind : definition.kind ≡ d.kind
  pub members_are : members_of_view d.members ≡ members_of_definition_number lines k

pub definition_held_at : (lines : List Line) (ds : List DefinitionOnLine) (k : ℕ) (d : DefinitionOnLine) → HoldsDefinitions lines ds → slice_get ds k ≡ Some d → HeldDefinition lines k d
definition_held_at lines ds k d e at =
    let found = held_at kind_and_members_held kind_and_members_of_definition ds (definitions_of_lines lines) k d e at in
    record {
      definition = found.0;
      at = found.1;
      of_kind = ap (λ (p : Kind × List Member). p.0) found.2;
      members_are = sym (ap (λ (p : Kind × List Member). p.1) found.2) ∙ sym (ap members_of_optional_definition found.1);
    }

pub as_many_held : (lines : List Line) (ds : List DefinitionOnLine) → HoldsDefinitions lines ds → length ds ≡ length (definitions_of_lines lines)
as_many_held lines ds e = sym (length_of_map kind_and_members_held ds) ∙ ap length e ∙ length_of_map kind_and_members_of_definition (definitions_of_lines lines)
  where
    length_of_map : {X Y : Type 0} (f : X → Y) (xs : List X) → length (map f xs) ≡ length xs
    length_of_map f [] = refl
    length_of_map f (x ∷ xs) = ap suc (length_of_map f xs)

pub definition_of_alias_atom : (k : Kind) (lines : List Line) (a : Atom) (n : ℕ) → alias_number_of_atom k lines a ≡ Some n → (d : PlacedDefinition) × (slice_get (definitions_of_lines lines) n ≡ Some d) × (d.kind ≡ k)
definition_of_alias_atom k lines (atom.Alias name) n e =
    let d = number_of_definition_is_of_its_definition k name (definitions_of_lines lines) n e in
    (d.definition, d.at, (definition_of_name_has_kind_and_name k name d.definition d.is).0)
definition_of_alias_atom k lines other n e = absurd cc

-- ---- sways of lists

pub undecided_under_negation : (q : MemberQuestion) (n : Bool) (s : SignedAtom) → is_undecided_by_question q (signed_atom_under_negation n s) ≡ is_undecided_by_question q s
undecided_under_negation (question.User person) n s = refl
undecided_under_negation (question.Host who) n s = refl
undecided_under_negation (question.RunasGroup group) n s = refl
undecided_under_negation (question.Command command) n s = refl
undecided_under_negation question.Nobody n s = refl

module _ (lines : List Line) (d : DecidedAliases) where
  abbrev Sway : List Member → ListSway → Type 0
  Sway ms sway = IsSwayOfList d.kind lines (undecided_by d) (matched_by d) ms sway

  pub empty_list_has_sway : Sway [] sway_of_empty_list
  empty_list_has_sway = record { flat = []; is_flat = none; says = refl }

  pub appended_lists_have_sway : (ms ns : List Member) (a b : ListSway) → Sway ms a → Sway ns b → Sway (ms ++ ns) (sway_of_joined_lists a b)
  appended_lists_have_sway ms ns a b v w = record {
    flat = v.flat ++ w.flat;
    is_flat = appended_lists_have_appended_flat_list d.kind lines ms ns v.flat w.flat v.is_flat w.is_flat;
    says = ap₂ sway_of_joined_lists v.says w.says ∙ sym (sway_of_appended (undecided_by d) (matched_by d) v.flat w.flat);
  }

  pub plain_member_has_sway : (m : Member) → alias_number_of_atom d.kind lines m.atom ≡ None → Sway (m ∷ []) (sway_of_one_atom (undecided_by d) (matched_by d) (signed_atom_of_member m))
  plain_member_has_sway m e = record {
    flat = signed_atom_of_member m ∷ [];
    is_flat = one m [] [] (alias_none d.kind lines m.atom e) none;
    says = sym (sway_of_single (undecided_by d) (matched_by d) (signed_atom_of_member m));
  }

  pub alias_member_has_sway : (m : Member) (k : ℕ) (sway : ListSway) → alias_number_of_atom d.kind lines m.atom ≡ Some k → Sway (members_of_definition_number lines k) sway → Sway (m ∷ []) (sway_under_negation m.negated sway)
  alias_member_has_sway m k sway e w = record {
    flat = map (signed_atom_under_negation m.negated) w.flat ++ [];
    is_flat = many m [] (members_of_definition_number lines k) w.flat [] (alias_some d.kind lines m.atom k e) w.is_flat none;
    says = ap (sway_under_negation m.negated) w.says
        ∙ sym (sway_of_negated (undecided_by d) (matched_by d) (undecided_under_negation d.question) m.negated w.flat)
        ∙ sym (ap (sway_of_atoms (undecided_by d) (matched_by d)) (append-nil (map (signed_atom_under_negation m.negated) w.flat)));
  }

  pub one_to_decide : (m : Member) (k : ℕ) → alias_number_of_atom d.kind lines m.atom ≡ Some k → slice_get d.sways.items k ≡ Some None → HasAliasToDecide lines d (m ∷ [])
  one_to_decide m k e at = record { member = m; stands = inl refl; alias = k; is_alias = e; open_yet = at }

  pub listed_to_decide : (ms : List Member) (m : Member) → ListHasElement ms m → HasAliasToDecide lines d (m ∷ []) → HasAliasToDecide lines d ms
  listed_to_decide ms m stands h = record { member = m; stands = stands; alias = h.alias; is_alias = ap (λ (x : Member). alias_number_of_atom d.kind lines x.atom) (same h.stands) ∙ h.is_alias; open_yet = h.open_yet }
    where
      same : (m ≡ h.member) ⊎ ⊥ → m ≡ h.member
      same (inl e) = e
      same (inr x) = absurd x

  -- ---- an alias that leads to no cycle is decided

  module _ (all : DecidesAllAliases lines d) where
    waiting : (m : Member) (members : List Member) → alias_members_of_atom d.kind lines m.atom ≡ Some members → (k : ℕ) → alias_number_of_atom d.kind lines m.atom ≡ Some k → slice_get d.sways.items k ≡ Some None → HasAliasToDecide lines d members
    waiting m members e k is at =
        let def = definition_of_alias_atom d.kind lines m.atom k is in
        let same : members_of_definition_number lines k ≡ members = let two : Some (members_of_definition_number lines k) ≡ Some members = sym (alias_some d.kind lines m.atom k is) ∙ e in cc in
        subst (HasAliasToDecide lines d) same (all.waits k (number_within d.kind lines m.atom k is) def.0 def.1 def.2 at)

    pub flat_list_has_none_to_decide : (ms : List Member) (fs : List SignedAtom) → IsFlatListOf d.kind lines ms fs → HasAliasToDecide lines d ms → ⊥
    flat_list_has_none_to_decide ms fs none h = h.stands
    flat_list_has_none_to_decide ms fs (one m rest gs e f) h = elim h.stands as (λ _. ⊥) [
      | inl same ↦
          let clash : None ≡ Some (members_of_definition_number lines h.alias) = sym e ∙ ap (λ (x : Member). alias_members_of_atom d.kind lines x.atom) same ∙ alias_some d.kind lines h.member.atom h.alias h.is_alias in absurd cc
      | inr stands ↦ flat_list_has_none_to_decide rest gs f (record { member = h.member; stands = stands; alias = h.alias; is_alias = h.is_alias; open_yet = h.open_yet })
    ]
    flat_list_has_none_to_decide ms fs (many m rest members inner gs e i f) h = elim h.stands as (λ _. ⊥) [
      | inl same ↦ flat_list_has_none_to_decide members inner i
          (waiting h.member members (sym (ap (λ (x : Member). alias_members_of_atom d.kind lines x.atom) same) ∙ e) h.alias h.is_alias h.open_yet)
      | inr stands ↦ flat_list_has_none_to_decide rest gs f (record { member = h.member; stands = stands; alias = h.alias; is_alias = h.is_alias; open_yet = h.open_yet })
    ]

-- ---- one alias more is decided

pub same_aliases_hold : (lines : List Line) (d e : DecidedAliases) → e.kind ≡ d.kind → e.question ≡ d.question → (ms : List Member) (sway : ListSway)
    → IsSwayOfList d.kind lines (undecided_by d) (matched_by d) ms sway → IsSwayOfList e.kind lines (undecided_by e) (matched_by e) ms sway
same_aliases_hold lines d e kinds questions ms sway w =
    subst (λ k. IsSwayOfList k lines (undecided_by e) (matched_by e) ms sway) (sym kinds)
    (subst (λ q. IsSwayOfList d.kind lines (is_undecided_by_question q) (is_atom_matched_by_question q) ms sway) (sym questions) w)

pub decided_alias_is_held : (lines : List Line) (d e : DecidedAliases) (k : ℕ) (sway : ListSway) → HoldsSwaysOfAliases lines d → e.kind ≡ d.kind → e.question ≡ d.question → e.sways.items ≡ set d.sways.items k (Some sway)
    → IsSwayOfList d.kind lines (undecided_by d) (matched_by d) (members_of_definition_number lines k) sway → HoldsSwaysOfAliases lines e
decided_alias_is_held lines d e k sway h kinds questions items w = record {
  size = ap length items ∙ length-set d.sways.items k (Some sway) ∙ h.size;
  right = λ j other at. same_aliases_hold lines d e kinds questions (members_of_definition_number lines j) other
      (elim (get-set d.sways.items k j (Some sway) (Some other) (ap (λ os. slice_get os j) (sym items) ∙ at)) as (λ _. IsSwayOfList d.kind lines (undecided_by d) (matched_by d) (members_of_definition_number lines j) other) [
        | inl new ↦ subst (λ x. IsSwayOfList d.kind lines (undecided_by d) (matched_by d) (members_of_definition_number lines x) other) (sym new.0)
            (subst (IsSwayOfList d.kind lines (undecided_by d) (matched_by d) (members_of_definition_number lines k)) (let e : Some sway ≡ Some other = new.1 in cc) w)
        | inr old ↦ h.right j other old.1
      ]);
}

pub decided_alias_leaves_fewer : (os : List (Option ListSway)) (k : ℕ) (sway : ListSway) → slice_get os k ≡ Some None → sways_left (set os k (Some sway)) < sways_left os
decided_alias_leaves_fewer [] k sway at = absurd cc
decided_alias_leaves_fewer (None ∷ os) zero sway at = omega arith
decided_alias_leaves_fewer (Some other ∷ os) zero sway at = absurd cc
decided_alias_leaves_fewer (None ∷ os) (suc k) sway at = let ih = decided_alias_leaves_fewer os k sway at in omega arith
decided_alias_leaves_fewer (Some other ∷ os) (suc k) sway at = let ih = decided_alias_leaves_fewer os k sway at in omega arith

-- ---- what is read

pub taken_one_more : {X : Type 0} (xs : List X) (i : ℕ) (x : X) → slice_get xs i ≡ Some x → take (i + 1) xs ≡ take i xs ++ x ∷ []
taken_one_more xs i x at =
    let within = slice_get_within xs i x at in
    take_more xs i x within ∙ ap (λ y. take i xs ++ y ∷ []) (get_or_from_slice_get xs i x x at)

pub read_element : {X : Type 0} (xs : List X) (i : ℕ) (o : Option (Bor X)) (x : Bor X) → is_some o ≡ ltb i (length xs) → IfSome o (λ y. y.now ≡ get_or xs i y.now) → o ≡ Some x → slice_get xs i ≡ Some x.now
read_element xs i None x m h e = absurd cc
read_element xs i (Some y) x m h e =
    let same : y ≡ x = cc in
    subst (λ (z : Bor _). slice_get xs i ≡ Some z.now) same (slice_get_read xs (length xs) i y.now refl (ltb-true i (length xs) (sym m)) h)

-- ---- standings

pub sway_tells_standing : (lines : List Line) (d : DecidedAliases) (own : Bool) (ms : List Member) (sway : ListSway) → IsSwayOfList d.kind lines (undecided_by d) (matched_by d) ms sway
    → (st : PartStanding) → st.holds ≡ is_allowed_by_hit_or_else own sway.hit → st.could_turn ≡ could_be_swayed_from st.holds sway
    → IsStandingOfList d.kind lines (undecided_by d) (matched_by d) own ms st
sway_tells_standing lines d own ms sway w st holds could = record {
  told = λ flat f.
      let same : w.flat ≡ flat = one_flat d.kind lines ms w.flat flat w.is_flat f in
      let says : sway ≡ sway_of_atoms (undecided_by d) (matched_by d) flat = w.says ∙ ap (sway_of_atoms (undecided_by d) (matched_by d)) same in (
        holds ∙ ap (λ (s : ListSway). is_allowed_by_hit_or_else own s.hit) says ∙ ap (is_allowed_by_hit_or_else own) (sway_has_last_hit (undecided_by d) (matched_by d) flat),
        could ∙ ap (could_be_swayed_from st.holds) says,
      );
  some = λ _. (w.flat, w.is_flat);
  turned = λ _. (w.flat, w.is_flat);
}

pub list_to_decide_stands : (lines : List Line) (d : DecidedAliases) → DecidesAllAliases lines d → (own : Bool) (ms : List Member) → HasAliasToDecide lines d ms → (st : PartStanding) → st.holds ≡ false → st.could_turn ≡ false
    → IsStandingOfList d.kind lines (undecided_by d) (matched_by d) own ms st
list_to_decide_stands lines d all own ms h st e g = record {
  told = λ flat f. absurd (flat_list_has_none_to_decide lines d all ms flat f h);
  some = λ t. let clash : false ≡ true = sym e ∙ t in absurd cc;
  turned = λ t. let clash : false ≡ true = sym g ∙ t in absurd cc;
}

pub none_if_not_some : {X : Type 0} (o : Option X) → is_some o ≡ false → o ≡ None
none_if_not_some None e = refl
none_if_not_some (Some x) e = absurd cc

equal_kinds : (k : Kind) → is_equal_kind k k ≡ true
equal_kinds User = refl
equal_kinds Runas = refl
equal_kinds Host = refl
equal_kinds Cmnd = refl

pub other_kind_differs : (k j : Kind) (same : Bool) → k ≡ j → same ≡ is_equal_kind k j → same ≡ false → ⊥
other_kind_differs k j same kinds e f =
    let clash : true ≡ false = sym (equal_kinds j) ∙ ap (λ x. is_equal_kind x j) (sym kinds) ∙ sym e ∙ f in absurd cc
