-- Paths that are apart.
use Rattle.std.proofs.Common.{ℕ, List, [], ◌∷◌, ◌++◌, sym}
use Rattle.sudoers_place.specs.Disk.{IsNotIn, AreDistinct}

pub not_in_front : (path : List ℕ) (xs ys : List (List ℕ)) → IsNotIn path (xs ++ ys) → IsNotIn path xs
not_in_front path [] ys h = tt
not_in_front path (x ∷ xs) ys h = (h.0, not_in_front path xs ys h.1)

pub not_in_back : (path : List ℕ) (xs ys : List (List ℕ)) → IsNotIn path (xs ++ ys) → IsNotIn path ys
not_in_back path [] ys h = h
not_in_back path (x ∷ xs) ys h = not_in_back path xs ys h.1

pub not_in_both : (path : List ℕ) (xs ys : List (List ℕ)) → IsNotIn path xs → IsNotIn path ys → IsNotIn path (xs ++ ys)
not_in_both path [] ys h k = k
not_in_both path (x ∷ xs) ys h k = (h.0, not_in_both path xs ys h.1 k)

pub distinct_back : (xs ys : List (List ℕ)) → AreDistinct (xs ++ ys) → AreDistinct ys
distinct_back [] ys h = h
distinct_back (x ∷ xs) ys h = distinct_back xs ys h.1

-- without one in the middle
pub distinct_without : (xs : List (List ℕ)) (y : List ℕ) (ys : List (List ℕ)) → AreDistinct (xs ++ y ∷ ys) → AreDistinct (xs ++ ys)
distinct_without [] y ys h = h.1
distinct_without (x ∷ xs) y ys h = (not_in_both x xs ys (not_in_front x xs (y ∷ ys) h.0) (not_in_back x xs (y ∷ ys) h.0).1, distinct_without xs y ys h.1)

-- none of these is among those
abbrev pub AreNotIn : List (List ℕ) → List (List ℕ) → Type 0
AreNotIn [] paths = Unit {0}
AreNotIn (x ∷ xs) paths = IsNotIn x paths × AreNotIn xs paths

pub not_in_none : (xs : List (List ℕ)) → AreNotIn xs []
not_in_none [] = tt
not_in_none (x ∷ xs) = (tt, not_in_none xs)

pub not_in_more : (y : List ℕ) (xs paths : List (List ℕ)) → IsNotIn y xs → AreNotIn xs paths → AreNotIn xs (y ∷ paths)
not_in_more y [] paths h k = tt
not_in_more y (x ∷ xs) paths h k = (((λ e. h.0 (sym e)), k.0), not_in_more y xs paths h.1 k.1)

-- of paths that are distinct, the later are not among the earlier
pub back_not_in : (xs ys : List (List ℕ)) → AreDistinct (xs ++ ys) → AreNotIn ys xs
back_not_in [] ys h = not_in_none ys
back_not_in (x ∷ xs) ys h = not_in_more x ys xs (not_in_back x xs ys h.0) (back_not_in xs ys h.1)

-- these paths are all among those
abbrev pub AreIn : List (List ℕ) → List (List ℕ) → Type 0
AreIn few many = (path : List ℕ) → IsNotIn path many → IsNotIn path few
