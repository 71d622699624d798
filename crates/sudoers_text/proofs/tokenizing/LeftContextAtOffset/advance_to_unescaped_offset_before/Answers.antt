use Rattle.std.proofs.Common.{List, ℕ, subst}
use Rattle.sudoers_text.specs.Unit.{LineUnit}
use Rattle.sudoers_text.specs.internal.Left.{LeftDescribesUnits}
use Rattle.sudoers_text.specs.Token.{units_left_of_place}
use Rattle.sudoers_text.proofs.Reached.{units_from_place_continue_units_left}
use Rattle.sudoers_text.proofs.tokenizing.LeftContextAtOffset.advance_to_unescaped_offset_before.Goals as goal

pub returns-clause-knows : goal.returns-clause-knows
returns-clause-knows c =
    let line : List ℕ = c.args.line.now in
    record {
      knows = subst (λ (units : List LineUnit). LeftDescribesUnits line c.last_unescaped_offset_before-place.result c.advance_over_slice.result units)
          (units_from_place_continue_units_left line c.args.self.at c.last_unescaped_offset_before-place.result c.last_unescaped_offset_before-place.ensures.not_before c.requires.knows.apart)
          (c.advance_over_slice.ensures (units_left_of_place line c.args.self.at) c.requires.knows.knows);
      apart = c.last_unescaped_offset_before-place.ensures.apart;
    }
