use Rattle.std.proofs.Common.{◌≡◌, ℕ, ◌-◌, ◌≤◌, Bool, true, false, ◌&&◌, List, [], ◌∷◌, length, drop, take, Option, Some, None, refl, sym, ap, subst, ◌∙◌, arith}
use Rattle.std.specs.Prelude.{◌==◌, if◌then◌else◌}
use Rattle.sudoers_match_member.specs.declared.byte_classes.PosixByteClass.{PosixByteClass}
use Rattle.sudoers_match_member.specs.declared.byte_sets.SetItem.TheVariants.{Of}
use Rattle.sudoers_match_member.specs.Class.{has_bracketed_class_name_prefix, first_class_named_at, class_named_at, all_posix_classes, bracketed_name_of_class}
use Rattle.sudoers_match_member.specs.Sets.{set_item_at, class_or_range_item, range_from_lower_bound, range_with_upper_bound, range_bound_at, upper_bound_after_dash}
use Rattle.sudoers_match_member.specs.Folded.{bytes_case_folded_if_wanted}
use Rattle.sudoers_match_member.proofs.AsRead.{case_folding_keeps_rest_from_place, case_folding_keeps_length}
use Rattle.sudoers_match_member.proofs.byte_sets.read_set_item.Goals as goal

right_of : (p q : Bool) → (p && q) ≡ true → q ≡ true
right_of true q e = e
right_of false q e = absurd cc

starts_within : (bytes word : List ℕ) → has_bracketed_class_name_prefix bytes word ≡ true → length word ≤ length bytes
starts_within bytes [] e = omega arith
starts_within [] (c ∷ cs) e = absurd cc
starts_within (b ∷ bs) (c ∷ cs) e = let h = starts_within bs cs (right_of (b == c) (has_bracketed_class_name_prefix bs cs) e) in omega arith

named_within : (ks : List PosixByteClass) (bytes : List ℕ) (k : PosixByteClass) → first_class_named_at ks bytes ≡ Some k → length (bracketed_name_of_class k) ≤ length bytes
named_within [] bytes k e = absurd cc
named_within (j ∷ ks) bytes k e =
    elim (has_bracketed_class_name_prefix bytes (bracketed_name_of_class j)) as (λ t. has_bracketed_class_name_prefix bytes (bracketed_name_of_class j) ≡ t → (if t then Some j else first_class_named_at ks bytes) ≡ Some k → length (bracketed_name_of_class k) ≤ length bytes) [
      | true ↦ (λ is f. let same : j ≡ k = cc in subst (λ (i : PosixByteClass). length (bracketed_name_of_class i) ≤ length bytes) same (starts_within bytes (bracketed_name_of_class j) is))
      | false ↦ (λ is f. named_within ks bytes k f)
    ] refl e

class_within : (bytes : List ℕ) (k : PosixByteClass) → class_named_at bytes ≡ Some k → length (bracketed_name_of_class k) ≤ length bytes
unfolding class_named_at
class_within bytes k e = named_within all_posix_classes bytes k e

by_class : (bytes : List ℕ) (k : PosixByteClass) → class_named_at bytes ≡ Some k → set_item_at bytes ≡ class_or_range_item (Some k) bytes
unfolding set_item_at
by_class bytes k e = ap (λ o. class_or_range_item o bytes) e

by_range : (bytes : List ℕ) (low : Option (ℕ × ℕ)) → class_named_at bytes ≡ None → range_bound_at bytes ≡ low → set_item_at bytes ≡ range_from_lower_bound low bytes
unfolding set_item_at
by_range bytes low e f = ap (λ o. class_or_range_item o bytes) e ∙ ap (λ o. range_from_lower_bound o bytes) f

pub returns-in-Some-clause-item : goal.returns-in-Some-clause-item
returns-in-Some-clause-item c =
    let e : (Of c.in-Some.class, length c.to_bracketed_name.result.now) ≡ (Of c.in-Some.class, length (bracketed_name_of_class c.in-Some.class)) = ap (λ (name : List ℕ). (Of c.in-Some.class, length name)) c.to_bracketed_name.ensures in
    e ∙ sym (by_class (bytes_case_folded_if_wanted c.args.lower c.args.bytes.now) c.in-Some.class (sym c.find_class_named_at.ensures ∙ c.in-Some.is))

pub returns-in-Some-clause-within : goal.returns-in-Some-clause-within
returns-in-Some-clause-within c =
    omega (arith, ap length c.to_bracketed_name.ensures, case_folding_keeps_length c.args.lower c.args.bytes.now, class_within (bytes_case_folded_if_wanted c.args.lower c.args.bytes.now) c.in-Some.class (sym c.find_class_named_at.ensures ∙ c.in-Some.is))

pub returns-in_default-read_range_bound-clause-item : goal.returns-in_default-read_range_bound-clause-item
returns-in_default-read_range_bound-clause-item c =
    sym (by_range (bytes_case_folded_if_wanted c.args.lower c.args.bytes.now) None (sym c.find_class_named_at.ensures ∙ c.in_default.is) (sym c.read_range_bound.ensures ∙ c.in_default-read_range_bound.is))

by_bound : (lower : Bool) (bytes : List ℕ) (low n : ℕ) (high : Option (ℕ × ℕ)) → class_named_at (bytes_case_folded_if_wanted lower bytes) ≡ None → range_bound_at (bytes_case_folded_if_wanted lower bytes) ≡ Some (low, n)
    → high ≡ upper_bound_after_dash (bytes_case_folded_if_wanted lower (take (length bytes - n) (drop n bytes))) → set_item_at (bytes_case_folded_if_wanted lower bytes) ≡ range_with_upper_bound low n high
by_bound lower bytes low n high e f g =
    by_range (bytes_case_folded_if_wanted lower bytes) (Some (low, n)) e f ∙ ap (λ o. range_with_upper_bound low n o) (ap upper_bound_after_dash (sym (case_folding_keeps_rest_from_place lower bytes n)) ∙ sym g)

pub returns-in-Some-read_bound_after_dash-clause-item : goal.returns-in-Some-read_bound_after_dash-clause-item
returns-in-Some-read_bound_after_dash-clause-item c =
    sym (by_bound c.args.lower c.args.bytes.now c.in-Some-read_range_bound.low c.in-Some-read_range_bound.len (Some (c.in-Some-read_bound_after_dash.high, c.in-Some-read_bound_after_dash.more))
    (sym c.find_class_named_at.ensures ∙ c.in_default.is) (sym c.read_range_bound.ensures ∙ c.in-Some-read_range_bound.is) (sym c.in-Some-read_bound_after_dash.is ∙ c.read_bound_after_dash.ensures))

pub returns-in-None-clause-item : goal.returns-in-None-clause-item
returns-in-None-clause-item c =
    sym (by_bound c.args.lower c.args.bytes.now c.in-Some-read_range_bound.low c.in-Some-read_range_bound.len None
    (sym c.find_class_named_at.ensures ∙ c.in_default.is) (sym c.read_range_bound.ensures ∙ c.in-Some-read_range_bound.is) (sym c.in-None.is ∙ c.read_bound_after_dash.ensures))
