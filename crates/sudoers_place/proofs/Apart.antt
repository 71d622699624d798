-- Paths that are apart, where the files are given as the first and the rest.
use Rattle.std.proofs.Common.{◌≡◌, ◌≢◌, ℕ, IsTrue, true, false, List, [], ◌∷◌, ◌++◌, sym, subst}
use Rattle.sudoers_place.specs.declared.change.Change.{Change}
use Rattle.sudoers_place.specs.Disk.{IsNotIn, AreDistinct}
use Rattle.sudoers_place.specs.Placing.{paths_of, temps_of}
use Rattle.sudoers_place.proofs.Paths.{not_in_front, not_in_back, not_in_both}
use Rattle.sudoers_place.proofs.Moves.{path_apart, rest_distinct, temp_not_path}

not_in_with : (path : List ℕ) (xs : List (List ℕ)) (y : List ℕ) (ys : List (List ℕ)) → path ≢ y → IsNotIn path (xs ++ ys) → IsNotIn path (xs ++ y ∷ ys)
not_in_with path [] y ys ne h = (ne, h)
not_in_with path (x ∷ xs) y ys ne h = (h.0, not_in_with path xs y ys ne h.1)

not_in_without : (path : List ℕ) (xs : List (List ℕ)) (y : List ℕ) (ys : List (List ℕ)) → IsNotIn path (xs ++ y ∷ ys) → IsNotIn path (xs ++ ys)
not_in_without path xs y ys h = not_in_both path xs ys (not_in_front path xs (y ∷ ys) h) (not_in_back path xs (y ∷ ys) h).1

distinct_with : (xs : List (List ℕ)) (y : List ℕ) (ys : List (List ℕ)) → IsNotIn y (xs ++ ys) → AreDistinct (xs ++ ys) → AreDistinct (xs ++ y ∷ ys)
distinct_with [] y ys h distinct = (h, distinct)
distinct_with (x ∷ xs) y ys h distinct = (not_in_with x xs y ys (λ e. h.0 (sym e)) distinct.0, distinct_with xs y ys h.1 distinct.1)

-- what cannot hold is answered with no
pub no_for : (P : Type 0) → (P → ⊥) → (IsTrue false → P) × (P → IsTrue false)
no_for P never = ((λ (e : false ≡ true). cc), λ p. absurd (never p))

module _ (all : List Change) (change : Change) (rest : List Change) (split : all ≡ change ∷ rest) where
  whole_path : (path : List ℕ) → IsNotIn path (temps_of all ++ paths_of all) → IsNotIn path (temps_of (change ∷ rest) ++ paths_of (change ∷ rest))
  whole_path path = subst (λ (l : List Change). IsNotIn path (temps_of l ++ paths_of l)) split

  whole : AreDistinct (temps_of all ++ paths_of all) → AreDistinct (temps_of (change ∷ rest) ++ paths_of (change ∷ rest))
  whole = subst (λ (l : List Change). AreDistinct (temps_of l ++ paths_of l)) split

  pub path_apart_more : (path : List ℕ) → path ≢ change.temp.items → path ≢ change.path.items → IsNotIn path (temps_of rest ++ paths_of rest) → IsNotIn path (temps_of all ++ paths_of all)
  path_apart_more path temp other h = subst (λ (l : List Change). IsNotIn path (temps_of l ++ paths_of l)) (sym split) (let more : IsNotIn path (temps_of (change ∷ rest) ++ paths_of (change ∷ rest)) = (temp, not_in_with path (temps_of rest) change.path.items (paths_of rest) other h) in more)

  pub path_apart_rest : (path : List ℕ) → IsNotIn path (temps_of all ++ paths_of all) → IsNotIn path (temps_of rest ++ paths_of rest)
  path_apart_rest path h = not_in_without path (temps_of rest) change.path.items (paths_of rest) (whole_path path h).1

  pub not_temp : (path : List ℕ) → IsNotIn path (temps_of all ++ paths_of all) → path ≢ change.temp.items
  not_temp path h = (whole_path path h).0

  pub not_path : (path : List ℕ) → IsNotIn path (temps_of all ++ paths_of all) → path ≢ change.path.items
  not_path path h = (not_in_back path (temps_of rest) (change.path.items ∷ paths_of rest) (whole_path path h).1).0

  pub apart_more : change.temp.items ≢ change.path.items → IsNotIn change.temp.items (temps_of rest ++ paths_of rest) → IsNotIn change.path.items (temps_of rest ++ paths_of rest) → AreDistinct (temps_of rest ++ paths_of rest) → AreDistinct (temps_of all ++ paths_of all)
  apart_more ne temp path distinct = subst (λ (l : List Change). AreDistinct (temps_of l ++ paths_of l)) (sym split) (let more : AreDistinct (temps_of (change ∷ rest) ++ paths_of (change ∷ rest)) = (not_in_with change.temp.items (temps_of rest) change.path.items (paths_of rest) ne temp, distinct_with (temps_of rest) change.path.items (paths_of rest) path distinct) in more)

  pub apart_rest : AreDistinct (temps_of all ++ paths_of all) → AreDistinct (temps_of rest ++ paths_of rest)
  apart_rest distinct = rest_distinct change rest (whole distinct)

  pub temp_is_not_path : AreDistinct (temps_of all ++ paths_of all) → change.temp.items ≢ change.path.items
  temp_is_not_path distinct = (temp_not_path change rest (whole distinct)).0

  pub temp_apart : AreDistinct (temps_of all ++ paths_of all) → IsNotIn change.temp.items (temps_of rest ++ paths_of rest)
  temp_apart distinct = not_in_without change.temp.items (temps_of rest) change.path.items (paths_of rest) (whole distinct).0

  pub path_is_apart : AreDistinct (temps_of all ++ paths_of all) → IsNotIn change.path.items (temps_of rest ++ paths_of rest)
  path_is_apart distinct = path_apart change rest (whole distinct)
