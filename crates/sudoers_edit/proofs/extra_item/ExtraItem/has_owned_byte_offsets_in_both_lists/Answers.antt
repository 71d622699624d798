use Rattle.sudoers_edit.proofs.Common.{Bool, ap, ap₂, is_option_equal_to, ◌&&◌, ◌∙◌, ◌≡◌}
use Rattle.sudoers_edit.proofs.extra_item.ExtraItem.has_owned_byte_offsets_in_both_lists.Goals as goal

all_three : (a b d x y z : Bool) → a ≡ x → b ≡ y → d ≡ z → (a && b && d) ≡ (x && y && z)
all_three a b d x y z begins stops fits = ap₂ (λ p q. p && q) (ap₂ (λ p q. p && q) begins stops) fits

pub returns : goal.returns
returns g c =
    all_three _ _ _ _ _ _
    (c.is_optional_offset_equal_to-begins.ensures ∙ ap (is_option_equal_to c.args.self.from) c.owned_start_of_item.ensures)
    (c.is_optional_offset_equal_to-stops.ensures ∙ ap (is_option_equal_to c.args.self.to) c.owned_stop_of_item.ensures)
    (c.is_optional_offset_equal_to-fits.ensures ∙ ap (is_option_equal_to c.args.self.from) c.owned_start_of_item-2.ensures)
