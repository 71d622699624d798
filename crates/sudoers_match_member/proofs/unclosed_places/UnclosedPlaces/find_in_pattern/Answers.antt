use Rattle.std.proofs.Common.{◌-◌, length, subst, sym, arith}
use Rattle.std.proofs.lemmas.List.{take_rest}
use Rattle.sudoers_match_member.specs.internal.Unclosed.{AreUnclosedPlaces}
use Rattle.sudoers_match_member.proofs.Unclosed.{no_place_is_unclosed_at_first, unclosed_places_are_those_of_end}
use Rattle.sudoers_match_member.proofs.unclosed_places.UnclosedPlaces.find_in_pattern.Goals as goal

pub is_behind_item-requires : goal.is_behind_item-requires
is_behind_item-requires c =
    let pattern = c.args.pattern.now in let at = length pattern - c.loop-left.left in
    subst (λ xs. AreUnclosedPlaces c.args.lower xs c.loop-left.places) (sym (take_rest pattern at)) (unclosed_places_are_those_of_end c.args.lower pattern c.loop-left.places at (omega arith) c.loop-left.invariant)

pub loop-left-init : goal.loop-left-init
loop-left-init c left within is = absurd (no_place_is_unclosed_at_first 1024 left is)
