use Rattle.std.proofs.Common.{◌≤◌, ◌*◌, ◌^◌, ◌%◌, ℕ, arith, lit≤, rules}
use Rattle.std.proofs.lemmas.Nat.{one_shl}
use Rattle.std.proofs.Math.Nat.{pow-le-pow_right}
use Rattle.sudoers_match_member.proofs.network.number_of_mask.Goals as goal

small : (rest : ℕ) → rest ≤ 32 → 1 * 2 ^ rest % 2 ^ 64 ≤ 2 ^ 32
small rest h = let most : 2 ^ rest ≤ 2 ^ 32 = pow-le-pow_right (lit≤ tt) h in omega (arith, one_shl rest 64 (omega (arith, h)), most)

pub overflow_sub-result : goal.overflow_sub-result
overflow_sub-result c = small c.saturating_sub-rest.result (search rules)
