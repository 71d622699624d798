-- Addresses, masks and networks (sudoers(5), Host_List).
use Rattle.std.specs.Prelude.{ℕ, ◌-◌, ◌^◌, ◌==◌, ◌||◌, Bool, List, bit_and, Option, Some, None}
use Rattle.std.specs.List.{list_any}
use Rattle.sudoers_grammar.specs.declared.node.Address.{Address}
use Rattle.sudoers_grammar.specs.declared.node.Mask.{Mask}
use Rattle.sudoers_grammar.specs.declared.node.Mask.TheVariants.{Bits, Dotted}
use Rattle.sudoers_match_member.specs.declared.network.Interface.{Interface}

-- the mask as a number: so many bits in front, or as it is written
abbrev pub mask_as_number : Mask → ℕ
mask_as_number (Bits n) = 2 ^ 32 - 2 ^ (32 - n)
mask_as_number (Dotted m) = m.number

-- the network under the mask to which the address belongs
abbrev pub network_under_mask : Mask → Address → ℕ
network_under_mask mask address = bit_and address.number (mask_as_number mask)

-- An address without mask hits the interface that has it, and the one whose network it is. With a mask both sides are masked.
abbrev pub is_interface_hit : Address → Option Mask → Interface → Bool
is_interface_hit address None i = address.number == i.address.number || address.number == network_under_mask i.mask i.address
is_interface_hit address (Some mask) i = network_under_mask mask address == network_under_mask mask i.address

-- it hits one of the interfaces
abbrev pub is_any_interface_hit : Address → Option Mask → List Interface → Bool
is_any_interface_hit address mask interfaces = list_any (is_interface_hit address mask) interfaces
