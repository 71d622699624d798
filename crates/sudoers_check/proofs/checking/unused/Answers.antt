use Rattle.std.proofs.Common.{◌≡◌, ◌∙◌, ◌++◌, [], List, map, drop, append-nil, ap, sym}
use Rattle.std.proofs.lemmas.List.{drop_all}
use Rattle.std.proofs.lemmas.Simd.{map-map}
use Rattle.sudoers_grammar.specs.declared.node.Kind.{Kind}
use Rattle.sudoers_tree.specs.declared.place.DefinitionFilePlace.{DefinitionFilePlace}
use Rattle.sudoers_tree.specs.declared.place.Place.{Place}
use Rattle.sudoers_tree.specs.Definition.{PlacedDefinition}
use Rattle.sudoers_tree.specs.Line.{Line}
use Rattle.sudoers_tree.specs.Walk.{WalkState}
use Rattle.sudoers_check.specs.Led.{unused_definitions_of_lines}
use Rattle.sudoers_check.specs.internal.Noting.{kind_and_file_place}
use Rattle.sudoers_check.proofs.checking.unused.Goals as goal

abbrev kind_and_place : PlacedDefinition → Kind × Place
kind_and_place d = (d.kind, d.place)

pub returns : goal.returns
returns c =
    let walk : WalkState = c.args.policy.now.walk in
    let at : Kind × Place → Kind × DefinitionFilePlace = kind_and_file_place walk in
    let items : List (Kind × Place) = c.as_slice-found-items.result.now in
    let none : map at (drop c.loop-found.found-index items) ≡ [] = ap (map at) (drop_all c.loop-found.found-index items c.loop-found-test.false) in
    let all : c.loop-found.places.items ≡ map at items =
    sym (append-nil c.loop-found.places.items) ∙ ap (λ xs. c.loop-found.places.items ++ xs) (sym none) ∙ c.loop-found.invariant in
    let found : items ≡ map kind_and_place (unused_definitions_of_lines walk.lines) =
    c.as_slice-found-items.ensures.value ∙ c.in_ok-on_walk.ensures ∙ ap (λ (ls : List Line). map kind_and_place (unused_definitions_of_lines ls)) c.walk.ensures in
    all ∙ ap (map at) found ∙ map-map at kind_and_place (unused_definitions_of_lines walk.lines)
