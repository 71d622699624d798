-- Members and definitions that say the same, wherever in their lines they stand.
use Rattle.std.specs.Prelude.{Bool, true, false, ◌&&◌, ◌==◌, List, [], ◌∷◌}
use Rattle.std.specs.Str.{bytes_eq}
use Rattle.sudoers_grammar.specs.declared.node.Args.{Args}
use Rattle.sudoers_grammar.specs.declared.node.Args.TheVariants as args
use Rattle.sudoers_grammar.specs.declared.node.Atom.{Atom}
use Rattle.sudoers_grammar.specs.declared.node.Atom.TheVariants as atom
use Rattle.sudoers_grammar.specs.Node.{Def, Digest, Member}
use Rattle.sudoers_grammar.specs.declared.node.DigestKind.{DigestKind}
use Rattle.sudoers_grammar.specs.declared.node.DigestKind.TheVariants as digest
use Rattle.sudoers_grammar.specs.declared.node.Mask.{Mask}
use Rattle.sudoers_grammar.specs.declared.node.Mask.TheVariants as mask

-- the lists have the same length, and each two items that stand at one place are alike
abbrev pub are_lists_alike : {X : Type 0} → (X → X → Bool) → List X → List X → Bool
are_lists_alike alike [] [] = true
are_lists_alike alike [] (y ∷ ys) = false
are_lists_alike alike (x ∷ xs) [] = false
are_lists_alike alike (x ∷ xs) (y ∷ ys) = alike x y && are_lists_alike alike xs ys

abbrev pub is_same_bool : Bool → Bool → Bool
is_same_bool true true = true
is_same_bool false false = true
is_same_bool a b = false

abbrev pub is_same_digest_kind : DigestKind → DigestKind → Bool
is_same_digest_kind digest.Sha224 digest.Sha224 = true
is_same_digest_kind digest.Sha256 digest.Sha256 = true
is_same_digest_kind digest.Sha384 digest.Sha384 = true
is_same_digest_kind digest.Sha512 digest.Sha512 = true
is_same_digest_kind a b = false

abbrev pub is_same_digest : Digest → Digest → Bool
is_same_digest a b = is_same_digest_kind a.kind b.kind && bytes_eq a.text b.text

-- as they are written: bits and a dotted mask are two
abbrev pub is_same_mask : Mask → Mask → Bool
is_same_mask (mask.Bits a) (mask.Bits b) = a == b
is_same_mask (mask.Dotted a) (mask.Dotted b) = a.number == b.number
is_same_mask a b = false

abbrev pub is_same_args : Args → Args → Bool
is_same_args args.Any args.Any = true
is_same_args args.Nothing args.Nothing = true
is_same_args (args.Pattern a) (args.Pattern b) = bytes_eq a b
is_same_args a b = false

abbrev pub is_same_atom : Atom → Atom → Bool
is_same_atom atom.All atom.All = true
is_same_atom (atom.Alias a) (atom.Alias b) = bytes_eq a b
is_same_atom (atom.Name a) (atom.Name b) = bytes_eq a b
is_same_atom (atom.Id a) (atom.Id b) = a == b
is_same_atom (atom.Group a) (atom.Group b) = bytes_eq a b
is_same_atom (atom.GroupId a) (atom.GroupId b) = a == b
is_same_atom (atom.NonUnix a) (atom.NonUnix b) = bytes_eq a b
is_same_atom (atom.Netgroup a) (atom.Netgroup b) = bytes_eq a b
is_same_atom (atom.Host a) (atom.Host b) = bytes_eq a b
is_same_atom (atom.Address a) (atom.Address b) = a.number == b.number
is_same_atom (atom.Network a m) (atom.Network b n) = (a.number == b.number) && is_same_mask m n
is_same_atom atom.Listing atom.Listing = true
is_same_atom (atom.Path a m) (atom.Path b n) = bytes_eq a b && is_same_args m n
is_same_atom (atom.Sudoedit m) (atom.Sudoedit n) = is_same_args m n
is_same_atom a b = false

abbrev pub is_same_member : Member → Member → Bool
is_same_member m n =
    is_same_bool m.negated n.negated && are_lists_alike is_same_digest m.digests n.digests && is_same_atom m.atom n.atom

abbrev pub is_same_def : Def → Def → Bool
is_same_def d e = bytes_eq d.name e.name && are_lists_alike is_same_member d.members e.members
