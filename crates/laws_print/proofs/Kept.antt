-- What can be written stays so.
use Rattle.laws_print.proofs.Common.{◌≢◌, Bool, true, false, List, [], ◌∷◌, refl, AllByRecursion, Kind, Cmnd, Member, IsWritableMemberOfKind, IsNonEmptyListOf}
use Rattle.std.specs.Prelude.{cond}
use Rattle.std.specs.List.{filter}
use Rattle.laws_print.proofs.ReadCommandLists.{equal_atoms_may_have_same_digests}

pub changing_negation_keeps_member_writable : (k : Kind) (m : Member) (negated : Bool) → IsWritableMemberOfKind k m → IsWritableMemberOfKind k (record m { negated = negated })
changing_negation_keeps_member_writable Cmnd m negated is = record { is_command = is.is_command; digests = is.digests; suits = equal_atoms_may_have_same_digests m.digests m (record m { negated = negated }) refl is.suits }
changing_negation_keeps_member_writable k m negated is = record { is = is.is; no_digests = is.no_digests }

filtered_list_keeps_property : {X : Type 0} → (P : X → Type 0) (test : X → Bool) (xs : List X) → AllByRecursion P xs → AllByRecursion P (filter test xs)
filtered_list_keeps_property P test [] all = tt
filtered_list_keeps_property P test (x ∷ xs) all = by_test (test x) (filtered_list_keeps_property P test xs all.1)
  where
    by_test : (t : Bool) → AllByRecursion P (filter test xs) → AllByRecursion P (cond t (x ∷ filter test xs) (filter test xs))
    by_test true later = (all.0, later)
    by_test false later = later

nonempty_list_of_all_is_nonempty_list : {X : Type 0} → (P : X → Type 0) (xs : List X) → xs ≢ [] → AllByRecursion P xs → IsNonEmptyListOf P xs
nonempty_list_of_all_is_nonempty_list P [] some all = absurd (some refl)
nonempty_list_of_all_is_nonempty_list P (x ∷ xs) some all = all

pub nonempty_list_has_property_of_all : {X : Type 0} → (P : X → Type 0) (xs : List X) → IsNonEmptyListOf P xs → AllByRecursion P xs
nonempty_list_has_property_of_all P [] some = tt
nonempty_list_has_property_of_all P (x ∷ xs) some = some

pub filtered_members_stay_writable_list : (k : Kind) (ms : List Member) (test : Member → Bool) → IsNonEmptyListOf (IsWritableMemberOfKind k) ms → filter test ms ≢ [] → IsNonEmptyListOf (IsWritableMemberOfKind k) (filter test ms)
filtered_members_stay_writable_list k ms test all some = nonempty_list_of_all_is_nonempty_list (IsWritableMemberOfKind k) (filter test ms) some (filtered_list_keeps_property (IsWritableMemberOfKind k) test ms (nonempty_list_has_property_of_all (IsWritableMemberOfKind k) ms all))
