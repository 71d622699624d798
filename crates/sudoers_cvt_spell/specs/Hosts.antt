-- How hosts are printed (sudoers(5), Host_List).
use Rattle.std.specs.Prelude.{ℕ, ◌/◌, ◌%◌, not, Bool, true, false, List, ◌++◌, codes, Option, Some}
use Rattle.std.specs.Fmt.{decimal}
use Rattle.sudoers_text.specs.declared.token.TokenKind.TheVariants as kind
use Rattle.sudoers_grammar.specs.declared.node.Atom.{Atom}
use Rattle.sudoers_grammar.specs.declared.node.Atom.TheVariants as atom
use Rattle.sudoers_grammar.specs.declared.node.Mask.{Mask}
use Rattle.sudoers_grammar.specs.declared.node.Mask.TheVariants as mask
use Rattle.sudoers_grammar.specs.declared.pattern.PatternSpelling.TheVariants.{Host as HostName}
use Rattle.sudoers_grammar.specs.Atom.{host_atom_of_token}
use Rattle.sudoers_cvt_spell.specs.Spelling.{escaped_pattern, text_with_backslash_if_misread}

-- `a.b.c.d`
abbrev pub dotted_address : ℕ → List ℕ
dotted_address n =
    decimal (n / 16777216) ++ codes "." ++ decimal (n / 65536 % 256) ++ codes "." ++ decimal (n / 256 % 256) ++ codes "."
    ++ decimal (n % 256)

-- a mask as it was written
abbrev pub printed_mask_without_slash : Mask → List ℕ
printed_mask_without_slash (mask.Bits bits) = decimal bits
printed_mask_without_slash (mask.Dotted a) = dotted_address a.number

abbrev pub is_host_name_atom : Option Atom → Bool
is_host_name_atom (Some (atom.Host pattern)) = true
is_host_name_atom other = false

-- The word is read as the name of a host, and not as `ALL`, an alias, a netgroup, an address or a network.
abbrev pub is_read_as_host_name : List ℕ → Bool
is_read_as_host_name text = is_host_name_atom (host_atom_of_token kind.Word text)

abbrev pub printed_host_name_pattern : List ℕ → List ℕ
printed_host_name_pattern pattern = text_with_backslash_if_misread (not (is_read_as_host_name (escaped_pattern HostName pattern))) (escaped_pattern HostName pattern)
