use Rattle.std.proofs.Common.{◌≡◌, ◌∙◌, ◌<◌, Some, None, length, slice_get, sym, ap, subst, arith, refl, is_some, true, false}
use Rattle.std.proofs.lemmas.Option.{slice_get_read, slice_get_within}
use Rattle.sudoers_tree.specs.Definition.{PlacedDefinition, definitions_of_lines}
use Rattle.sudoers_undecided.specs.internal.Decided.{HasAliasToDecide, IsSwayOfList, matched_by, undecided_by}
use Rattle.sudoers_undecided.proofs.Deciding.{decided_alias_is_held, decided_alias_leaves_fewer, definition_held_at, none_if_not_some, other_kind_differs, read_element}
use Rattle.sudoers_undecided.proofs.decided_aliases.DecidedAliases.decide_alias.Goals as goal

pub returns-then-not-is_mine-clause-waits : goal.returns-then-not-is_mine-clause-waits
returns-then-not-is_mine-clause-waits c _ def at kind left =
    let h = definition_held_at c.args.numbers.now.walk c.args.definitions.now c.args.number c.in-Some.definition.now c.requires.definitions (read_element c.args.definitions.now c.args.number c.get.result c.in-Some.definition c.get.ensures.lookup.0 c.get.ensures.lookup.1 c.in-Some.is) in
    let same : def ≡ h.definition = let two : Some def ≡ Some h.definition = sym at ∙ h.at in cc in
    let kinds : c.in-Some.definition.now.kind ≡ c.args.self.now.kind = sym h.of_kind ∙ sym (ap (λ (x : PlacedDefinition). x.kind) same) ∙ kind in
    absurd (other_kind_differs c.in-Some.definition.now.kind c.args.self.now.kind c.is_same_kind-is_mine.result kinds c.is_same_kind-is_mine.ensures c.if-not-is_mine.true)

pub returns-then-is_done-clause-waits : goal.returns-then-is_done-clause-waits
returns-then-is_done-clause-waits c _ def at kind left =
    let is : slice_get c.args.self.now.sways.items c.args.number ≡ Some c.index.result.now =
    slice_get_read c.args.self.now.sways.items (length c.args.self.now.sways.items) c.args.number c.index.result.now refl (slice_get_within c.args.self.now.sways.items c.args.number None left) c.index.ensures in
    let none : c.index.result.now ≡ None = let two : Some c.index.result.now ≡ Some None = sym is ∙ left in cc in
    let clash : true ≡ false = sym c.if-is_done.true ∙ c.is_some-is_done.ensures ∙ ap is_some none in
    absurd cc

pub returns-in-Some-sway_of_list-clause-holds : goal.returns-in-Some-sway_of_list-clause-holds
returns-in-Some-sway_of_list-clause-holds c =
    let d = c.args.self.now in
    let lines = c.args.numbers.now.walk in
    let h = definition_held_at lines c.args.definitions.now c.args.number c.in-Some.definition.now c.requires.definitions (read_element c.args.definitions.now c.args.number c.get.result c.in-Some.definition c.get.ensures.lookup.0 c.get.ensures.lookup.1 c.in-Some.is) in
    decided_alias_is_held lines d _ c.args.number c.in-Some-sway_of_list.sway c.requires.holds refl refl refl
    (subst (λ ms. IsSwayOfList d.kind lines (undecided_by d) (matched_by d) ms c.in-Some-sway_of_list.sway) h.members_are c.in-Some-sway_of_list.ensures)

pub returns-in-Some-sway_of_list-clause-more : goal.returns-in-Some-sway_of_list-clause-more
returns-in-Some-sway_of_list-clause-more c _ =
    let h = definition_held_at c.args.numbers.now.walk c.args.definitions.now c.args.number c.in-Some.definition.now c.requires.definitions (read_element c.args.definitions.now c.args.number c.get.result c.in-Some.definition c.get.ensures.lookup.0 c.get.ensures.lookup.1 c.in-Some.is) in
    let within : c.args.number < length c.args.self.now.sways.items = omega (arith, slice_get_within (definitions_of_lines c.args.numbers.now.walk) c.args.number h.definition h.at, c.requires.holds.size) in
    let is : slice_get c.args.self.now.sways.items c.args.number ≡ Some c.index.result.now =
    slice_get_read c.args.self.now.sways.items (length c.args.self.now.sways.items) c.args.number c.index.result.now refl within c.index.ensures in
    decided_alias_leaves_fewer c.args.self.now.sways.items c.args.number c.in-Some-sway_of_list.sway (is ∙ ap Some (none_if_not_some c.index.result.now (sym c.is_some-is_done.ensures ∙ c.if-is_done.false)))

pub returns-in-None-clause-waits : goal.returns-in-None-clause-waits
returns-in-None-clause-waits c _ def at kind left =
    let h = definition_held_at c.args.numbers.now.walk c.args.definitions.now c.args.number c.in-Some.definition.now c.requires.definitions (read_element c.args.definitions.now c.args.number c.get.result c.in-Some.definition c.get.ensures.lookup.0 c.get.ensures.lookup.1 c.in-Some.is) in
    subst (HasAliasToDecide c.args.numbers.now.walk c.args.self.now) h.members_are c.in-None.ensures
