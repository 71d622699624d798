use Rattle.std.proofs.Common.{◌≡◌, ◌==◌, ◌||◌, ◌∙◌, ℕ, Bool, true, false, List, get_or, refl, sym, ap, eqb-true}
use Rattle.std.proofs.lemmas.List.Folds.{list_any_more}
use Rattle.std.specs.List.{list_any}
use Rattle.sudoers_grammar.specs.declared.node.Mask.TheVariants.{Bits}
use Rattle.sudoers_match_member.specs.declared.network.Interface.{Interface}
use Rattle.sudoers_match_member.specs.Network.{network_under_mask}
use Rattle.sudoers_match_member.proofs.Added.{added_element_is_among_elements}
use Rattle.sudoers_match_member.proofs.network.collect_numbers_hit_without_mask.Goals as goal

or_of_three : (x y z : Bool) → ((x || y) || z) ≡ (x || (y || z))
or_of_three true y z = refl
or_of_three false y z = refl

pub loop-interface-preserved : goal.loop-interface-preserved
loop-interface-preserved c test =
    let interfaces : List Interface = c.args.interfaces.now in
    let n = c.loop-interface.interface-index in
    let nothing : Interface = record { address = record { number = 0 }; mask = Bits 0 } in
    let interface : Interface = get_or interfaces n nothing in
    let network : ℕ = c.masked_network_of.result in
    let passes = λ (i : Interface). test i.address.number || test (network_under_mask i.mask i.address) in
    added_element_is_among_elements (λ a b. a == b) network (eqb-true network) test c.add.new.self c.add-in-loop-interface.new.self c.in_ok-add-2.ensures.added
    ∙ ap (λ b. b || test network) (added_element_is_among_elements (λ a b. a == b) interface.address.number (eqb-true interface.address.number) test c.loop-interface.numbers c.add.new.self c.in_ok-add.ensures.added)
    ∙ or_of_three (list_any test c.loop-interface.numbers) (test interface.address.number) (test network)
    ∙ ap (λ m. list_any test c.loop-interface.numbers || (test interface.address.number || test m)) c.masked_network_of.ensures
    ∙ ap (λ b. b || passes interface) (c.loop-interface.invariant test)
    ∙ sym (list_any_more passes interfaces n nothing c.loop-interface-test.true)
