-- Paths under which no file was seen, and those at which new files are written.
use Rattle.std.proofs.Common.{◌≡◌, ◌≢◌, ℕ, Bool, true, false, List, [], ◌∷◌, Option, Some, None, refl, sym, ◌∙◌, ap, subst}
use Rattle.std.specs.List.{AllByRecursion}
use Rattle.sudoers_place.specs.declared.change.Change.{Change}
use Rattle.sudoers_place.specs.declared.change.Content.{Content}
use Rattle.sudoers_place.specs.declared.change.Content.TheVariants.{Bytes, NoFile}
use Rattle.sudoers_place.specs.Disk.{File, Image, IsNotIn, SameBut, free_paths, with_path_if_free}
use Rattle.sudoers_place.specs.Placing.{temps_of}
use Rattle.sudoers_place.specs.internal.Stages.{IsFree, IsFreeIf, with_temp_if_written, written_temps}
use Rattle.sudoers_place.proofs.Paths.{AreIn, AreNotIn}

-- ---- one path before others

not_in_more : (found : Option File) (x path : List ℕ) (others : List (List ℕ)) → path ≢ x → IsNotIn path others → IsNotIn path (with_path_if_free found x others)
not_in_more None x path others ne h = (ne, h)
not_in_more (Some file) x path others ne h = h

pub not_in_others : (found : Option File) (x path : List ℕ) (others : List (List ℕ)) → IsNotIn path (with_path_if_free found x others) → IsNotIn path others
not_in_others None x path others h = h.1
not_in_others (Some file) x path others h = h

pub not_in_first : (found : Option File) (x path : List ℕ) (others : List (List ℕ)) → IsNotIn path (with_path_if_free found x others) → IsNotIn path (with_path_if_free found x [])
not_in_first None x path others h = (h.0, tt)
not_in_first (Some file) x path others h = tt

not_in_seen : (found : Option File) (seen : Image) (x path : List ℕ) (others : List (List ℕ)) (file : File) → seen x ≡ found → seen path ≡ Some file → IsNotIn path others → IsNotIn path (with_path_if_free found x others)
not_in_seen None seen x path others file is there h = ((λ (e : path ≡ x). let none : Some file ≡ None = sym there ∙ ap seen e ∙ is in cc), h)
not_in_seen (Some _) seen x path others file is there h = h

-- ---- free paths

pub free_in : (seen : Image) (paths : List (List ℕ)) → AreIn (free_paths seen paths) paths
free_in seen [] path h = tt
free_in seen (x ∷ paths) path h = not_in_more (seen x) x path (free_paths seen paths) h.0 (free_in seen paths path h.1)

pub seen_not_free : (seen : Image) (paths : List (List ℕ)) (path : List ℕ) (file : File) → seen path ≡ Some file → IsNotIn path (free_paths seen paths)
seen_not_free seen [] path file there = tt
seen_not_free seen (x ∷ paths) path file there = not_in_seen (seen x) seen x path (free_paths seen paths) file refl there (seen_not_free seen paths path file there)

pub free_same : (paths others : List (List ℕ)) (f g : Image) → AreNotIn paths others → SameBut others f g → free_paths g paths ≡ free_paths f paths
free_same [] others f g apart same = refl
free_same (x ∷ paths) others f g apart same = ap (λ (found : Option File). with_path_if_free found x (free_paths g paths)) (same x apart.0) ∙ ap (λ (l : List (List ℕ)). with_path_if_free (f x) x l) (free_same paths others f g apart.1 same)

pub free_through : (paths others : List (List ℕ)) (f g : Image) → AreNotIn paths others → SameBut others f g → AreIn (free_paths g paths) (free_paths f paths)
free_through paths others f g apart same path h = subst (λ (l : List (List ℕ)). IsNotIn path l) (sym (free_same paths others f g apart same)) h

-- ---- paths at which new files are written

written_more : (is_done : Bool) (after : Content) (x path : List ℕ) (others : List (List ℕ)) → path ≢ x → IsNotIn path others → IsNotIn path (with_temp_if_written is_done after x others)
written_more true after x path others ne h = h
written_more false NoFile x path others ne h = h
written_more false (Bytes bytes) x path others ne h = (ne, h)

pub written_rest : (is_done : Bool) (after : Content) (x path : List ℕ) (others : List (List ℕ)) → IsNotIn path (with_temp_if_written is_done after x others) → IsNotIn path others
written_rest true after x path others h = h
written_rest false NoFile x path others h = h
written_rest false (Bytes bytes) x path others h = h.1

pub written_before : (is_done : Bool) (after : Content) (x path : List ℕ) (others more : List (List ℕ)) → IsNotIn path more → IsNotIn path (with_temp_if_written is_done after x others) → IsNotIn path (with_temp_if_written is_done after x more)
written_before true after x path others more k h = k
written_before false NoFile x path others more k h = k
written_before false (Bytes bytes) x path others more k h = (h.0, k)

pub written_pair : (is_done : Bool) (after : Content) (x : List ℕ) (others : List (List ℕ)) → AreIn (with_temp_if_written is_done after x others) (x ∷ others)
written_pair is_done after x others path h = written_more is_done after x path others h.0 h.1

pub written_in : (changes : List Change) → AreIn (written_temps changes) (temps_of changes)
written_in [] path h = tt
written_in (change ∷ changes) path h = written_more change.is_done change.after change.temp.items path (written_temps changes) h.0 (written_in changes path h.1)

-- what is written where nothing is seen is among the free paths
pub written_free : (is_done : Bool) (after : Content) (found : Option File) (x path : List ℕ) (others more : List (List ℕ)) → IsFreeIf is_done after found → IsNotIn path (with_path_if_free found x more) → IsNotIn path others → IsNotIn path (with_temp_if_written is_done after x others)
written_free true after found x path others more free h k = k
written_free false NoFile found x path others more free h k = k
written_free false (Bytes bytes) found x path others more free h k =
    let here : IsNotIn path (x ∷ more) = subst (λ (o : Option File). IsNotIn path (with_path_if_free o x more)) free h in
    (here.0, k)

pub written_in_free : (seen : Image) (changes : List Change) → AllByRecursion (IsFree seen) changes → AreIn (written_temps changes) (free_paths seen (temps_of changes))
written_in_free seen [] free path h = tt
written_in_free seen (change ∷ changes) free path h =
    let rest = written_in_free seen changes free.1 path (not_in_others (seen change.temp.items) change.temp.items path (free_paths seen (temps_of changes)) h) in
    written_free change.is_done change.after (seen change.temp.items) change.temp.items path (written_temps changes) (free_paths seen (temps_of changes)) free.0 h rest

-- ---- what was free was so before

pub free_before : (changes : List Change) (paths : List (List ℕ)) (f g : Image) → AreNotIn (temps_of changes) paths → SameBut paths f g → AllByRecursion (IsFree g) changes → AllByRecursion (IsFree f) changes
free_before [] paths f g apart same all = tt
free_before (change ∷ changes) paths f g apart same all = (subst (λ (found : Option File). IsFreeIf change.is_done change.after found) (same change.temp.items apart.0) all.0, free_before changes paths f g apart.1 same all.1)
