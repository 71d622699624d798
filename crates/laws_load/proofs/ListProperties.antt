-- What holds of each element of a list.
use Rattle.std.proofs.Common.{List, [], ◌∷◌, ◌++◌, map}
use Rattle.std.specs.List.{AllByRecursion, flat_map}

pub property_of_two_lists_holds_of_append : {X : Type 0} (P : X → Type 0) (xs ys : List X) → AllByRecursion P xs → AllByRecursion P ys
    → AllByRecursion P (xs ++ ys)
property_of_two_lists_holds_of_append P [] ys all more = more
property_of_two_lists_holds_of_append P (x ∷ xs) ys all more = (all.0, property_of_two_lists_holds_of_append P xs ys all.1 more)

pub property_of_append_holds_of_its_end : {X : Type 0} (P : X → Type 0) (xs ys : List X) → AllByRecursion P (xs ++ ys) → AllByRecursion P ys
property_of_append_holds_of_its_end P [] ys all = all
property_of_append_holds_of_its_end P (x ∷ xs) ys all = property_of_append_holds_of_its_end P xs ys all.1

pub property_of_each_part_holds_of_flat_map : {X A : Type 0} (P : A → Type 0) (f : X → List A) (xs : List X)
    → AllByRecursion (λ x. AllByRecursion P (f x)) xs → AllByRecursion P (flat_map f xs)
property_of_each_part_holds_of_flat_map P f [] all = tt
property_of_each_part_holds_of_flat_map P f (x ∷ xs) all =
    property_of_two_lists_holds_of_append P (f x) (flat_map f xs) all.0 (property_of_each_part_holds_of_flat_map P f xs all.1)

pub property_of_values_holds_of_map : {X Y : Type 0} (P : Y → Type 0) (f : X → Y) (xs : List X) → AllByRecursion (λ x. P (f x)) xs
    → AllByRecursion P (map f xs)
property_of_values_holds_of_map P f [] all = tt
property_of_values_holds_of_map P f (x ∷ xs) all = (all.0, property_of_values_holds_of_map P f xs all.1)

pub implied_property_holds_of_each : {X : Type 0} (P Q : X → Type 0) → ((x : X) → P x → Q x) → (xs : List X) → AllByRecursion P xs
    → AllByRecursion Q xs
implied_property_holds_of_each P Q implies [] all = tt
implied_property_holds_of_each P Q implies (x ∷ xs) all = (implies x all.0, implied_property_holds_of_each P Q implies xs all.1)
