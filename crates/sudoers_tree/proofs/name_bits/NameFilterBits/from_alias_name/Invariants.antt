use Rattle.sudoers_tree.proofs.Common.{drop, name_hash_after, ◌<◌, ◌≡◌}
use Rattle.sudoers_tree.proofs.name_bits.NameFilterBits.from_alias_name.Given as goal

abbrev pub invariant-loop-byte : goal.invariant-loop-byte
invariant-loop-byte l = (l.sum < 65521) × (name_hash_after l.sum (drop l.byte-index l.name) ≡ name_hash_after 0 l.name)
